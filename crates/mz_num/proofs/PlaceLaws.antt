-- Laws of sums, greatest values and lists over the places below a number.
use Rattle.std.proofs.Common.{◌≡◌, ℕ, zero, suc, ◌+◌, ◌*◌, ◌<◌, ◌≤◌, max, Bool, true, false, cond, List, [], ◌∷◌, ◌++◌, length, get_or, set, refl, ap, sym, ◌∙◌, subst, add-one, arith, inl, inr, ◌==◌}
use Rattle.std.specs.List.{All, AllPairs, Contains, range_with_len, count_by, position_or_len}
use Rattle.std.proofs.lemmas.Bool.{cases_eq, cases_lt, cond-true, cond-false, eqb-true, eq-eqb, both_ways}
use Rattle.std.proofs.Math.ListN.{length-set, replicate}
use Rattle.std.proofs.lemmas.List.{append-nil, get_or-replicate, get_or-set_other, get_or-set_same, length-replicate, map-id}
use Rattle.std.proofs.lemmas.List.Elements.{All-nil, All-cons, All-head, All-tail, All-filter, All-from_get_or, filter_passes, Contains-push, Contains-append_left}
use Rattle.std.proofs.lemmas.List.FromFn.{length-map-range_with_len, get_or-map-range_with_len, map-range_with_len_more, fill_by_all, filter_of_map_range_with_len_more, length-range_with_len, get_or-range_with_len}
use Rattle.std.proofs.lemmas.List.Quantifiers.{all_pairs_push}
use Rattle.std.proofs.lemmas.List.Sums.{length-filter, count_by-le-length, passes_at_first, fails_before_first}
use Rattle.mz_num.specs.Places.{sum_below, greatest_below, list_below, places_below, values_at}

-- ---- sums

pub sum_below-more : (n : ℕ) (f : ℕ → ℕ) → sum_below (n + 1) f ≡ sum_below n f + f n
sum_below-more n f = rw add-one refl

pub sum_below-same : (n : ℕ) (f g : ℕ → ℕ) → ((k : ℕ) → k < n → f k ≡ g k) → sum_below n f ≡ sum_below n g
sum_below-same zero f g same = refl
sum_below-same (suc n) f g same = let low : sum_below n f ≡ sum_below n g = sum_below-same n f g (λ k h. same k (omega arith)) in let top : f n ≡ g n = same n (omega arith) in omega arith

pub sum_below-mono : (n : ℕ) (f g : ℕ → ℕ) → ((k : ℕ) → k < n → f k ≤ g k) → sum_below n f ≤ sum_below n g
sum_below-mono zero f g below = omega arith
sum_below-mono (suc n) f g below = let low : sum_below n f ≤ sum_below n g = sum_below-mono n f g (λ k h. below k (omega arith)) in let top : f n ≤ g n = below n (omega arith) in omega arith

pub sum_below-le : (n m : ℕ) (f : ℕ → ℕ) → ((k : ℕ) → k < n → f k ≤ m) → sum_below n f ≤ n * m
sum_below-le zero m f below = omega arith
sum_below-le (suc n) m f below = let low : sum_below n f ≤ n * m = sum_below-le n m f (λ k h. below k (omega arith)) in let top : f n ≤ m = below n (omega arith) in omega arith

pub at-le-sum_below : (n k : ℕ) (f : ℕ → ℕ) → k < n → f k ≤ sum_below n f
at-le-sum_below zero k f h = omega arith
at-le-sum_below (suc n) k f h = elim (cases_eq k n) [ inl e ↦ (let top : f k ≡ f n = ap f e in omega arith) | inr ne ↦ (let low : f k ≤ sum_below n f = at-le-sum_below n k f (omega arith) in omega arith) ]

-- the sum after a change at one place
pub sum_below-change : (n i : ℕ) (f g : ℕ → ℕ) → i < n → ((k : ℕ) → k < n → (k ≡ i → ⊥) → f k ≡ g k) → sum_below n f + g i ≡ sum_below n g + f i
sum_below-change zero i f g h same = omega arith
sum_below-change (suc n) i f g h same =
    elim (cases_eq i n) [
      | inl e ↦ (let low : sum_below n f ≡ sum_below n g = sum_below-same n f g (λ k below. same k (omega arith) (λ at. omega arith)) in let one : f i ≡ f n = ap f e in let two : g i ≡ g n = ap g e in omega arith)
      | inr ne ↦ (let low : sum_below n f + g i ≡ sum_below n g + f i = sum_below-change n i f g (omega arith) (λ k below other. same k (omega arith) other) in let top : f n ≡ g n = same n (omega arith) (λ at. ne (sym at)) in omega arith)
    ]

-- ---- greatest values

pub greatest_below-more : (n : ℕ) (f : ℕ → ℕ) → greatest_below (n + 1) f ≡ max (greatest_below n f) (f n)
greatest_below-more n f = rw add-one refl

pub at-le-greatest_below : (n k : ℕ) (f : ℕ → ℕ) → k < n → f k ≤ greatest_below n f
at-le-greatest_below zero k f h = omega arith
at-le-greatest_below (suc n) k f h = elim (cases_eq k n) [ inl e ↦ (let top : f k ≡ f n = ap f e in omega arith) | inr ne ↦ (let low : f k ≤ greatest_below n f = at-le-greatest_below n k f (omega arith) in omega arith) ]

pub greatest_below-le : (n m : ℕ) (f : ℕ → ℕ) → ((k : ℕ) → k < n → f k ≤ m) → greatest_below n f ≤ m
greatest_below-le zero m f below = omega arith
greatest_below-le (suc n) m f below = let low : greatest_below n f ≤ m = greatest_below-le n m f (λ k h. below k (omega arith)) in let top : f n ≤ m = below n (omega arith) in omega arith

-- ---- lists

pub length-list_below : {X : Type 0} (n : ℕ) (f : ℕ → X) → length (list_below n f) ≡ n
length-list_below n f = length-map-range_with_len f 0 n

pub get_or-list_below : {X : Type 0} (n k : ℕ) (f : ℕ → X) (d : X) → k < n → get_or (list_below n f) k d ≡ f k
get_or-list_below n k f d h = get_or-map-range_with_len f 0 n k k d h (omega arith)

pub list_below-more : {X : Type 0} (n : ℕ) (f : ℕ → X) → list_below (n + 1) f ≡ list_below n f ++ f n ∷ []
list_below-more n f = map-range_with_len_more f 0 n n (omega arith)

-- a list is the one that f gives where it has the length and, place by place, the values
pub list_below-from : {X : Type 0} (n : ℕ) (f : ℕ → X) (xs : List X) (d : X) → length xs ≡ n → ((k : ℕ) → k < n → get_or xs k d ≡ f k) → xs ≡ list_below n f
list_below-from n f xs d len at = fill_by_all f xs n d len at

pub list_below-same : {X : Type 0} (n : ℕ) (f g : ℕ → X) (d : X) → ((k : ℕ) → k < n → f k ≡ g k) → list_below n f ≡ list_below n g
list_below-same n f g d same = list_below-from n g (list_below n f) d (length-list_below n f) (λ k h. get_or-list_below n k f d h ∙ same k h)

-- a list of one value, where f gives it at each place
pub replicate-list_below : {X : Type 0} (n : ℕ) (f : ℕ → X) (x d : X) → ((k : ℕ) → k < n → x ≡ f k) → replicate n x ≡ list_below n f
replicate-list_below n f x d same = list_below-from n f (replicate n x) d (length-replicate n x) (λ k h. get_or-replicate n k x d h ∙ same k h)

-- the list after a change at one place
pub list_below-set : {X : Type 0} (n i : ℕ) (f g : ℕ → X) (x d : X) → i < n → x ≡ g i → ((k : ℕ) → k < n → (k ≡ i → ⊥) → f k ≡ g k) → set (list_below n f) i x ≡ list_below n g
list_below-set {X} n i f g x d h here there =
    let len : length (list_below n f) ≡ n = length-list_below n f in
    list_below-from n g (set (list_below n f) i x) d (length-set (list_below n f) i x ∙ len)
    (λ k below. elim (cases_eq k i) [
      | inl e ↦ (ap (λ j. get_or (set (list_below n f) i x) j d) e ∙ get_or-set_same (list_below n f) i x d (omega arith) ∙ here ∙ ap g (sym e))
      | inr other ↦ (get_or-set_other (list_below n f) i k x d other ∙ get_or-list_below n k f d below ∙ there k below other)
    ])

-- ---- places that pass a test

pub places_below-more : (n : ℕ) (test : ℕ → Bool) → places_below (n + 1) test ≡ places_below n test ++ cond (test n) (n ∷ []) []
places_below-more n test = rw (← map-id (range_with_len 0 (n + 1)), ← map-id (range_with_len 0 n)) (filter_of_map_range_with_len_more test (λ k. k) 0 n n (omega arith))

-- a list that grows by the place if it passes
pub places_below-passed : (n : ℕ) (test : ℕ → Bool) (xs xs' : List ℕ) → xs ≡ places_below n test → test n ≡ true → xs' ≡ xs ++ n ∷ [] → xs' ≡ places_below (n + 1) test
places_below-passed n test xs xs' now passes more = more ∙ ap (λ ys. ys ++ n ∷ []) now ∙ sym (places_below-more n test ∙ ap (λ ys. places_below n test ++ ys) (cond-true (test n) (n ∷ []) [] passes))

pub places_below-failed : (n : ℕ) (test : ℕ → Bool) (xs : List ℕ) → xs ≡ places_below n test → test n ≡ false → xs ≡ places_below (n + 1) test
places_below-failed n test xs now fails = now ∙ sym (places_below-more n test ∙ ap (λ ys. places_below n test ++ ys) (cond-false (test n) (n ∷ []) [] fails) ∙ append-nil (places_below n test))

pub length-places_below : (n : ℕ) (test : ℕ → Bool) → length (places_below n test) ≤ n
length-places_below n test = let kept : length (places_below n test) ≡ count_by test (range_with_len 0 n) = length-filter test (range_with_len 0 n) in omega (arith, count_by-le-length test (range_with_len 0 n), length-range_with_len 0 n)

pub places_below-pass : (n : ℕ) (test : ℕ → Bool) → All (λ k. test k ≡ true) (places_below n test)
places_below-pass n test = filter_passes test (range_with_len 0 n)

pub places_below-in_range : (n : ℕ) (test : ℕ → Bool) → All (λ k. k < n) (places_below n test)
places_below-in_range n test =
    All-filter test (λ k. k < n) (range_with_len 0 n)
    (All-from_get_or (λ k. k < n) (range_with_len 0 n) 0 (λ i h. let below : i < n = omega (arith, length-range_with_len 0 n) in rw (get_or-range_with_len 0 n i 0 below) (omega arith)))

-- a place that passes stands in the list
pub places_below-has : (n k : ℕ) (test : ℕ → Bool) → k < n → test k ≡ true → Contains (places_below n test) k
places_below-has zero k test h passes = absurd (omega arith)
places_below-has (suc n) k test h passes =
    let step : places_below (suc n) test ≡ places_below n test ++ cond (test n) (n ∷ []) [] = ap (λ i. places_below i test) (sym (add-one n)) ∙ places_below-more n test in
    subst (λ xs. Contains xs k) (sym step)
    (elim (cases_eq k n) [
      | inl e ↦ (
          let last : cond (test n) (n ∷ []) [] ≡ n ∷ [] = cond-true (test n) (n ∷ []) [] (subst (λ i. test i ≡ true) e passes) in
          subst (λ ys. Contains (places_below n test ++ ys) k) (sym last) (subst (λ i. Contains (places_below n test ++ n ∷ []) i) (sym e) (Contains-push (places_below n test) n)))
      | inr ne ↦ Contains-append_left (places_below n test) (cond (test n) (n ∷ []) []) k (places_below-has n k test (omega arith) passes)
    ])

-- the first place of a number that stands in a list
pub position_or_len-Contains : (xs : List ℕ) (k : ℕ) → Contains xs k → position_or_len (λ x. x == k) xs < length xs
position_or_len-Contains xs k (j, inside, here) =
    elim (cases_lt (position_or_len (λ x. x == k) xs) (length xs)) [
      | inl below ↦ below
      | inr past ↦ absurd (both_ways (get_or xs j k == k) (fails_before_first (λ x. x == k) xs j k (omega arith)) (eq-eqb (get_or xs j k) k here))
    ]

pub position_or_len-at : (xs : List ℕ) (k d : ℕ) → position_or_len (λ x. x == k) xs < length xs → get_or xs (position_or_len (λ x. x == k) xs) d ≡ k
position_or_len-at xs k d h = eqb-true (get_or xs (position_or_len (λ x. x == k) xs) d) k (passes_at_first (λ x. x == k) xs d h)

-- the places rise
pub places_below-rising : (n : ℕ) (test : ℕ → Bool) → AllPairs (λ a b. a < b) (places_below n test)
places_below-rising zero test = λ i j d h below. absurd (omega arith)
places_below-rising (suc n) test =
    let step : places_below (suc n) test ≡ places_below n test ++ cond (test n) (n ∷ []) [] = ap (λ i. places_below i test) (sym (add-one n)) ∙ places_below-more n test in
    subst (λ (xs : List ℕ). AllPairs (λ a b. a < b) xs) (sym step)
    (elim (test n) as (λ b. AllPairs {X = ℕ} (λ a b. a < b) (places_below n test ++ cond b (n ∷ []) [])) [
      | true ↦ all_pairs_push (λ a b. a < b) (places_below n test) n (places_below-rising n test) (λ k d h. places_below-in_range n test k d h)
      | false ↦ subst (λ (xs : List ℕ). AllPairs (λ a b. a < b) xs) (sym (append-nil (places_below n test))) (places_below-rising n test)
    ])

-- ---- values at a place

pub values_at-append : {X : Type 0} (k : ℕ) (es fs : List (ℕ × X)) → values_at k (es ++ fs) ≡ values_at k es ++ values_at k fs
values_at-append k [] fs = refl
values_at-append k (e ∷ es) fs = elim (e.0 == k) as (λ b. cond b (e.1 ∷ values_at k (es ++ fs)) (values_at k (es ++ fs)) ≡ cond b (e.1 ∷ values_at k es) (values_at k es) ++ values_at k fs) [ true ↦ ap (λ xs. e.1 ∷ xs) (values_at-append k es fs) | false ↦ values_at-append k es fs ]

pub values_at-All : {X : Type 0} (P : X → Type 0) (k : ℕ) (es : List (ℕ × X)) → All (λ e. P e.1) es → All P (values_at k es)
values_at-All P k [] all = All-nil P
values_at-All {X} P k (e ∷ es) all =
    let rest : All P (values_at k es) = values_at-All P k es (All-tail (λ e. P e.1) e es all) in
    elim (e.0 == k) as (λ b. All P (cond b (e.1 ∷ values_at k es) (values_at k es))) [ true ↦ All-cons P e.1 (values_at k es) (All-head (λ e. P e.1) e es all) rest | false ↦ rest ]

pub length-values_at : {X : Type 0} (k : ℕ) (es : List (ℕ × X)) → length (values_at k es) ≤ length es
length-values_at k [] = omega arith
length-values_at k (e ∷ es) = elim (e.0 == k) as (λ b. length (cond b (e.1 ∷ values_at k es) (values_at k es)) ≤ length (e ∷ es)) [ true ↦ omega (arith, length-values_at k es) | false ↦ omega (arith, length-values_at k es) ]
