-- One list alone is that of the pairs below two numbers: lists in order with the same members are the same.
use Rattle.std.proofs.Common.{◌≡◌, ℕ, ◌+◌, ◌<◌, ◌≤◌, Bool, true, false, List, [], ◌∷◌, ◌++◌, length, get_or, refl, ap, sym, ◌∙◌, subst, arith, inl, inr, zero, suc}
use Rattle.std.specs.Prelude.{◌⊎◌, if◌then◌else◌}
use Rattle.std.specs.List.{All, AllPairs, Contains, flat_map, range_with_len}
use Rattle.std.proofs.lemmas.Bool.{cases_eq}
use Rattle.std.proofs.lemmas.List.Elements.{All-append, All-cons, All-contains, All-head, All-nil, All-tail, Contains-append_left, Contains-append_right}
use Rattle.std.proofs.lemmas.List.Kept.{AllPairs-cons}
use Rattle.std.proofs.lemmas.Map.Made.{Contains-tail}
use Rattle.mz_num.specs.Order.{IsBefore}
use Rattle.mz_rows.specs.Pairs.{pair_if, pairs_below}

-- two places and a number
abbrev Pair : Type 0
Pair = ℕ × ℕ × ℕ

-- ---- a list in order, by its head

head_before : (x : Pair) (a : List Pair) → AllPairs IsBefore (x ∷ a) → All (IsBefore x) a
head_before x a p = λ k d h. p 0 (suc k) d (omega arith) (omega arith)

tail_in_order : (x : Pair) (a : List Pair) → AllPairs IsBefore (x ∷ a) → AllPairs IsBefore a
tail_in_order x a p = λ i j d h k. p (suc i) (suc j) d (omega arith) (omega arith)

not_both : (x y : Pair) → IsBefore x y → IsBefore y x → ⊥
not_both x y (inl p) (inl q) = omega arith
not_both x y (inl p) (inr q) = let r = q.0 in omega arith
not_both x y (inr p) (inl q) = let r = p.0 in omega arith
not_both x y (inr p) (inr q) = let r = p.1 in let s = q.1 in omega arith

not_itself : (x y : Pair) → x ≡ y → IsBefore x y → ⊥
not_itself x y e (inl p) = let f : x.0 ≡ y.0 = ap (λ (z : Pair). z.0) e in omega arith
not_itself x y e (inr p) = let f : x.1 ≡ y.1 = ap (λ (z : Pair). z.1) e in let r = p.1 in omega arith

-- ---- lists with the same members

here_or_later : {X : Type 0} (y : X) (b : List X) (x : X) (k : ℕ) → k < length (y ∷ b) → get_or (y ∷ b) k x ≡ x → (y ≡ x) ⊎ Contains b x
here_or_later y b x zero h e = inl e
here_or_later y b x (suc k) h e = inr (k, omega arith, e)

same_head : (x y : Pair) (a b : List Pair) → All (IsBefore x) a → All (IsBefore y) b → Contains (y ∷ b) x → Contains (x ∷ a) y → x ≡ y
same_head x y a b p q c d = elim (here_or_later y b x c.0 c.1 c.2) [
  | inl e ↦ sym e
  | inr later ↦ (elim (here_or_later x a y d.0 d.1 d.2) [
    | inl e ↦ e
    | inr later' ↦ absurd (not_both x y (All-contains (IsBefore x) a y p later') (All-contains (IsBefore y) b x q later))
  ])
]

held_behind : (x : Pair) (a b : List Pair) → All (IsBefore x) a → All (Contains (x ∷ b)) a → All (Contains b) a
held_behind x a b p q = λ k d h. Contains-tail x b (get_or a k d) (λ e. not_itself x (get_or a k d) e (p k d h)) (q k d h)

pub one_list : (a b : List (ℕ × ℕ × ℕ)) → AllPairs IsBefore a → AllPairs IsBefore b → All (Contains b) a → All (Contains a) b → a ≡ b
one_list [] [] p q c d = refl
one_list [] (y ∷ b) p q c d = let none = (d 0 y (omega arith)).1 in absurd (omega arith)
one_list (x ∷ a) [] p q c d = let none = (c 0 x (omega arith)).1 in absurd (omega arith)
one_list (x ∷ a) (y ∷ b) p q c d =
    let same : x ≡ y = same_head x y a b (head_before x a p) (head_before y b q) (c 0 x (omega arith)) (d 0 y (omega arith)) in
    let after : All (IsBefore x) b = subst (λ (z : Pair). All (IsBefore z) b) (sym same) (head_before y b q) in
    let held : All (Contains (x ∷ b)) a = subst (λ (z : Pair). All (Contains (z ∷ b)) a) (sym same) (All-tail (Contains (y ∷ b)) x a c) in
    let rest : a ≡ b = one_list a b (tail_in_order x a p) (tail_in_order y b q) (held_behind x a b (head_before x a p) held) (held_behind x b a after (All-tail (Contains (x ∷ a)) y b d)) in
    ap (λ (z : Pair). z ∷ a) same ∙ ap (λ l. y ∷ l) rest

-- ---- what a range gives, number by number

all-range : (P : Pair → Type 0) (f : ℕ → List Pair) (a n : ℕ) → ((k : ℕ) → a ≤ k → k < a + n → All P (f k)) → All P (flat_map f (range_with_len a n))
all-range P f a zero each = All-nil P
all-range P f a (suc n) each =
    All-append P (f a) (flat_map f (range_with_len (a + 1) n)) (each a (omega arith) (omega arith))
    (all-range P f (a + 1) n (λ k h m. each k (omega arith) (omega arith)))

contains-range : (f : ℕ → List Pair) (a n k : ℕ) (x : Pair) → a ≤ k → k < a + n → Contains (f k) x → Contains (flat_map f (range_with_len a n)) x
contains-range f a zero k x h m there = absurd (omega arith)
contains-range f a (suc n) k x h m there = elim (cases_eq k a) [
  | inl e ↦ Contains-append_left (f a) (flat_map f (range_with_len (a + 1) n)) x (subst (λ i. Contains (f i) x) e there)
  | inr ne ↦ Contains-append_right (f a) (flat_map f (range_with_len (a + 1) n)) x (contains-range f (a + 1) n k x (omega arith) (omega arith) there)
]

in_order-append : (a b : List Pair) → AllPairs IsBefore a → AllPairs IsBefore b → All (λ x. All (IsBefore x) b) a → AllPairs IsBefore (a ++ b)
in_order-append [] b p q all = q
in_order-append (x ∷ a) b p q all =
    AllPairs-cons IsBefore x (a ++ b)
    (All-append (IsBefore x) a b (head_before x a p) (All-head (λ x. All (IsBefore x) b) x a all))
    (in_order-append a b (tail_in_order x a p) q (All-tail (λ x. All (IsBefore x) b) x a all))

in_order-range : (f : ℕ → List Pair) (a n : ℕ) → ((k : ℕ) → AllPairs IsBefore (f k)) → ((i k : ℕ) → i < k → All (λ x. All (IsBefore x) (f k)) (f i)) → AllPairs IsBefore (flat_map f (range_with_len a n))
in_order-range f a zero own later = λ i j d h k. absurd (omega arith)
in_order-range f a (suc n) own later =
    in_order-append (f a) (flat_map f (range_with_len (a + 1) n)) (own a) (in_order-range f (a + 1) n own later)
    (λ k d h. all-range (IsBefore (get_or (f a) k d)) f (a + 1) n (λ i m l. later a i (omega arith) k d h))

-- ---- the pairs

-- a pair in range that passes the test, with its number
pub record IsPairBelow (n m : ℕ) (test : ℕ → ℕ → Bool) (number : ℕ → ℕ → ℕ) (pair : ℕ × ℕ × ℕ) : Type 0 where
  pub first_below : pair.0 < n
  pub second_below : pair.1 < m
  pub passes : test pair.0 pair.1 ≡ true
  pub has_number : pair.2 ≡ number pair.0 pair.1

kept_if : (P : Pair → Type 0) (b : Bool) (x : Pair) → (b ≡ true → P x) → All P (if b then x ∷ [] else [])
kept_if P true x is = All-cons P x [] (is refl) (All-nil P)
kept_if P false x is = All-nil P

one_in_order : (b : Bool) (x : Pair) → AllPairs IsBefore (if b then x ∷ [] else [])
one_in_order true x = λ i j d h k. absurd (omega arith)
one_in_order false x = λ i j d h k. absurd (omega arith)

held_if : (b : Bool) (x : Pair) → b ≡ true → Contains (if b then x ∷ [] else []) x
held_if true x e = (0, omega arith, refl)
held_if false x e = cc

-- the pairs of one first place
abbrev pairs_of : ℕ → (ℕ → ℕ → Bool) → (ℕ → ℕ → ℕ) → ℕ → List Pair
pairs_of m test number first = flat_map (pair_if test number first) (range_with_len 0 m)

each-below : (n m : ℕ) (test : ℕ → ℕ → Bool) (number : ℕ → ℕ → ℕ) → All (IsPairBelow n m test number) (flat_map (pairs_of m test number) (range_with_len 0 n))
each-below n m test number =
    all-range (IsPairBelow n m test number) (pairs_of m test number) 0 n (λ i _ h.
    all-range (IsPairBelow n m test number) (pair_if test number i) 0 m (λ j _ k.
    kept_if (IsPairBelow n m test number) (test i j) (i, j, number i j) (λ e. record {
      first_below = omega arith;
      second_below = omega arith;
      passes = e;
      has_number = refl;
    })))

order-below : (n m : ℕ) (test : ℕ → ℕ → Bool) (number : ℕ → ℕ → ℕ) → AllPairs IsBefore (flat_map (pairs_of m test number) (range_with_len 0 n))
order-below n m test number =
    in_order-range (pairs_of m test number) 0 n
    (λ i. in_order-range (pair_if test number i) 0 m (λ j. one_in_order (test i j) (i, j, number i j))
    (λ j k h. kept_if (λ x. All (IsBefore x) (pair_if test number i k)) (test i j) (i, j, number i j)
    (λ _. kept_if (IsBefore (i, j, number i j)) (test i k) (i, k, number i k) (λ _. inr (refl, h)))))
    (λ i k h. all-range (λ x. All (IsBefore x) (pairs_of m test number k)) (pair_if test number i) 0 m
    (λ j _ _. kept_if (λ x. All (IsBefore x) (pairs_of m test number k)) (test i j) (i, j, number i j)
    (λ _. all-range (IsBefore (i, j, number i j)) (pair_if test number k) 0 m
    (λ l _ _. kept_if (IsBefore (i, j, number i j)) (test k l) (k, l, number k l) (λ _. inl h)))))

whole-below : (n m : ℕ) (test : ℕ → ℕ → Bool) (number : ℕ → ℕ → ℕ) (first second : ℕ) → first < n → second < m → test first second ≡ true → Contains (flat_map (pairs_of m test number) (range_with_len 0 n)) (first, second, number first second)
whole-below n m test number first second h k e =
    contains-range (pairs_of m test number) 0 n first (first, second, number first second) (omega arith) (omega arith)
    (contains-range (pair_if test number first) 0 m second (first, second, number first second) (omega arith) (omega arith)
    (held_if (test first second) (first, second, number first second) e))

held-from : (n m : ℕ) (test : ℕ → ℕ → Bool) (number : ℕ → ℕ → ℕ) (a b : List Pair) → All (IsPairBelow n m test number) a → ((first second : ℕ) → first < n → second < m → test first second ≡ true → Contains b (first, second, number first second)) → All (Contains b) a
held-from n m test number a b each whole = λ k d h.
    let is : IsPairBelow n m test number (get_or a k d) = each k d h in
    subst (λ i. Contains b ((get_or a k d).0, (get_or a k d).1, i)) (sym is.has_number) (whole (get_or a k d).0 (get_or a k d).1 is.first_below is.second_below is.passes)

-- a list in order, each of whose members is a pair below the two numbers, and which holds each of them, is that of the pairs
pub pairs_below-are : (n m : ℕ) (test : ℕ → ℕ → Bool) (number : ℕ → ℕ → ℕ) (pairs : List (ℕ × ℕ × ℕ)) → AllPairs IsBefore pairs → All (IsPairBelow n m test number) pairs → ((first second : ℕ) → first < n → second < m → test first second ≡ true → Contains pairs (first, second, number first second)) → pairs ≡ pairs_below n m test number
unfolding pairs_below
pairs_below-are n m test number pairs in_order each whole =
    let below : List Pair = flat_map (pairs_of m test number) (range_with_len 0 n) in
    one_list pairs below in_order (order-below n m test number)
    (held-from n m test number pairs below each (whole-below n m test number))
    (held-from n m test number below pairs (each-below n m test number) whole)

-- what the pairs below two numbers are
pub pairs_below-in_order : (n m : ℕ) (test : ℕ → ℕ → Bool) (number : ℕ → ℕ → ℕ) → AllPairs IsBefore (pairs_below n m test number)
unfolding pairs_below
pairs_below-in_order n m test number = order-below n m test number

pub pairs_below-each : (n m : ℕ) (test : ℕ → ℕ → Bool) (number : ℕ → ℕ → ℕ) → All (IsPairBelow n m test number) (pairs_below n m test number)
unfolding pairs_below
pairs_below-each n m test number = each-below n m test number
