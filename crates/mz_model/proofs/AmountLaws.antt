-- Laws of amounts: each unit and feature has one row at most.
use Rattle.std.proofs.Common.{◌≡◌, ℕ, zero, suc, ◌+◌, ◌<◌, Bool, true, false, cond, List, [], ◌∷◌, map, refl, ap, sym, ◌∙◌, arith, inl, inr, ◌==◌, ◌&&◌}
use Rattle.std.specs.List.{All, AllPairs, sum_by, filter}
use Rattle.std.proofs.lemmas.Bool.{cases_Bool, eqb-true, eq-eqb, ne_eqb, cond-true, cond-false, and_from, and_left, and_right}
use Rattle.std.proofs.lemmas.List.Elements.{All-head, All-tail, All-weaker, All-map}
use Rattle.std.proofs.lemmas.List.Sums.{sum_by-cons}
use Rattle.mz_model.specs.declared.touch.Touch.{Touch}
use Rattle.mz_model.specs.Amounts.{amount_of, holder_of, holders_of}
use Rattle.mz_num.specs.Places.{sum_below, values_at}
use Rattle.mz_num.specs.Order.{IsBefore}
use Rattle.mz_model.specs.Targets.{as_touch}
use Rattle.mz_model.specs.Valid.{IsAmount}
use Rattle.mz_num.proofs.PlaceLaws.{sum_below-same, sum_below-change, values_at-All}

-- the rows behind the first are in order
pub AllPairs-tail : {X : Type 0} (R : X → X → Type 0) (x : X) (xs : List X) → AllPairs R (x ∷ xs) → AllPairs R xs
AllPairs-tail R x xs pairs i j d h k = pairs (suc i) (suc j) d (omega arith) (omega arith)

-- the first row stands so to each behind it
pub AllPairs-head : {X : Type 0} (R : X → X → Type 0) (x : X) (xs : List X) → AllPairs R (x ∷ xs) → All (R x) xs
AllPairs-head R x xs pairs k d h = pairs zero (suc k) d (omega arith) (omega arith)

-- whether a row is that of a unit and a feature
abbrev pub is_row_of : ℕ × ℕ × ℕ → ℕ → ℕ → Bool
is_row_of row unit feature = row.0 == unit && row.1 == feature

not_row_before : (a row : ℕ × ℕ × ℕ) (unit feature : ℕ) → unit ≡ a.0 → feature ≡ a.1 → IsBefore a row → is_row_of row unit feature ≡ false
not_row_before a row unit feature e f before =
    elim before [
      | inl less ↦ and_left (row.0 == unit) (row.1 == feature) (ne_eqb row.0 unit (λ same. omega arith))
      | inr equal ↦ and_right (row.0 == unit) (row.1 == feature) (ne_eqb row.1 feature (λ same. omega (arith, equal.0, equal.1)))
    ]

-- behind a row there is no other of its unit and feature
pub amount_of-behind : (a : ℕ × ℕ × ℕ) (rows : List (ℕ × ℕ × ℕ)) (unit feature : ℕ) → unit ≡ a.0 → feature ≡ a.1 → All (IsBefore a) rows → amount_of rows unit feature ≡ 0
amount_of-behind a [] unit feature e f all = refl
amount_of-behind a (row ∷ rows) unit feature e f all =
    cond-false (is_row_of row unit feature) row.2 (amount_of rows unit feature) (not_row_before a row unit feature e f (All-head (IsBefore a) row rows all))
    ∙ amount_of-behind a rows unit feature e f (All-tail (IsBefore a) row rows all)

pub holders_of-cons : (a : ℕ × ℕ × ℕ) (rows : List (ℕ × ℕ × ℕ)) (feature : ℕ) → holders_of (a ∷ rows) feature ≡ cond (a.1 == feature) ((a.0, a.2) ∷ holders_of rows feature) (holders_of rows feature)
unfolding holders_of
holders_of-cons a rows feature = refl

pub holders_of-nil : (feature : ℕ) → holders_of [] feature ≡ []
unfolding holders_of
holders_of-nil feature = refl

sum_below-none : (n : ℕ) (f : ℕ → ℕ) → ((k : ℕ) → f k ≡ 0) → sum_below n f ≡ 0
sum_below-none zero f none = refl
sum_below-none (suc n) f none = omega (arith, sum_below-none n f none, none n)

-- a sum over the units that hold a feature is one over all units, where no amount counts nothing
pub sum_by-holders_of : (rows : List (ℕ × ℕ × ℕ)) (feature units : ℕ) (g : ℕ → ℕ → ℕ) → ((unit : ℕ) → g unit 0 ≡ 0) → AllPairs IsBefore rows → All (λ row. row.0 < units) rows → sum_by (λ (holder : ℕ × ℕ). g holder.0 holder.1) (holders_of rows feature) ≡ sum_below units (λ unit. g unit (amount_of rows unit feature))
sum_by-holders_of [] feature units g none order inside = ap (sum_by (λ (holder : ℕ × ℕ). g holder.0 holder.1)) (holders_of-nil feature) ∙ sym (sum_below-none units (λ unit. g unit 0) none)
sum_by-holders_of (a ∷ rows) feature units g none order inside =
    let term : ℕ × ℕ → ℕ = λ (holder : ℕ × ℕ). g holder.0 holder.1 in
    let F : ℕ → ℕ = λ unit. g unit (amount_of (a ∷ rows) unit feature) in
    let G : ℕ → ℕ = λ unit. g unit (amount_of rows unit feature) in
    let rest : sum_by term (holders_of rows feature) ≡ sum_below units G = sum_by-holders_of rows feature units g none (AllPairs-tail IsBefore a rows order) (All-tail (λ row. row.0 < units) a rows inside) in
    let here : a.0 < units = All-head (λ row. row.0 < units) a rows inside in
    ap (sum_by term) (holders_of-cons a rows feature)
    ∙ elim (cases_Bool (a.1 == feature)) [
      | inl found ↦ (
          let own : a.1 ≡ feature = eqb-true a.1 feature found in
          let first : F a.0 ≡ g a.0 a.2 = ap (g a.0) (cond-true (is_row_of a a.0 feature) a.2 (amount_of rows a.0 feature) (and_from (a.0 == a.0) (a.1 == feature) (eq-eqb a.0 a.0 refl) found)) in
          let gone : G a.0 ≡ 0 = ap (g a.0) (amount_of-behind a rows a.0 feature refl (sym own) (AllPairs-head IsBefore a rows order)) ∙ none a.0 in
          let others : sum_below units F + G a.0 ≡ sum_below units G + F a.0 = sum_below-change units a.0 F G here (λ k below other. ap (g k) (cond-false (is_row_of a k feature) a.2 (amount_of rows k feature) (and_left (a.0 == k) (a.1 == feature) (ne_eqb a.0 k (λ same. other (sym same)))))) in
          let more : sum_by term ((a.0, a.2) ∷ holders_of rows feature) ≡ g a.0 a.2 + sum_by term (holders_of rows feature) = sum_by-cons term (a.0, a.2) (holders_of rows feature) in
          let total : sum_by term ((a.0, a.2) ∷ holders_of rows feature) ≡ sum_below units F = omega arith in
          ap (sum_by term) (cond-true (a.1 == feature) ((a.0, a.2) ∷ holders_of rows feature) (holders_of rows feature) found) ∙ total)
      | inr other ↦ (
          let same : sum_below units F ≡ sum_below units G = sum_below-same units F G (λ k below. ap (g k) (cond-false (is_row_of a k feature) a.2 (amount_of rows k feature) (and_right (a.0 == k) (a.1 == feature) other))) in
          ap (sum_by term) (cond-false (a.1 == feature) ((a.0, a.2) ∷ holders_of rows feature) (holders_of rows feature) other) ∙ rest ∙ sym same)
    ]

pub holders_of-in_range : (rows : List (ℕ × ℕ × ℕ)) (feature units features : ℕ) → All (IsAmount units features) rows → All (λ holder. holder.0 < units) (holders_of rows feature)
unfolding holders_of
holders_of-in_range rows feature units features all =
    values_at-All (λ holder. holder.0 < units) feature (map holder_of rows) (All-map (λ entry. entry.1.0 < units) holder_of rows (All-weaker (IsAmount units features) (λ row. row.0 < units) (λ row is. is.unit) rows all))

-- an entry of a row for each unit that holds the feature enough
abbrev pub entries_of : ℕ → (ℕ → Bool) → List (ℕ × ℕ) → List (ℕ × Touch)
entries_of row enough holders = map (λ (holder : ℕ × ℕ). (holder.0, as_touch row holder.1)) (filter (λ (holder : ℕ × ℕ). enough holder.1) holders)

-- one more holder, which is the unit itself, or another
entry_own : (unit row : ℕ) (enough : ℕ → Bool) (holder amount : ℕ) (holders : List (ℕ × ℕ)) → (holder == unit) ≡ true → values_at unit (entries_of row enough holders) ≡ [] → values_at unit (entries_of row enough ((holder, amount) ∷ holders)) ≡ cond (enough amount) (as_touch row amount ∷ []) []
entry_own unit row enough holder amount holders own nothing =
    elim (enough amount) as (λ b. values_at {X = Touch} unit (map (λ (h : ℕ × ℕ). (h.0, as_touch row h.1)) (cond b ((holder, amount) ∷ filter (λ (h : ℕ × ℕ). enough h.1) holders) (filter (λ (h : ℕ × ℕ). enough h.1) holders))) ≡ cond b (as_touch row amount ∷ []) []) [
      | true ↦ cond-true (holder == unit) (as_touch row amount ∷ values_at unit (entries_of row enough holders)) (values_at unit (entries_of row enough holders)) own ∙ ap (λ vs. as_touch row amount ∷ vs) nothing
      | false ↦ nothing
    ]

entry_other : (unit row : ℕ) (enough : ℕ → Bool) (holder amount : ℕ) (holders : List (ℕ × ℕ)) → (holder == unit) ≡ false → values_at unit (entries_of row enough ((holder, amount) ∷ holders)) ≡ values_at unit (entries_of row enough holders)
entry_other unit row enough holder amount holders other =
    elim (enough amount) as (λ b. values_at {X = Touch} unit (map (λ (h : ℕ × ℕ). (h.0, as_touch row h.1)) (cond b ((holder, amount) ∷ filter (λ (h : ℕ × ℕ). enough h.1) holders) (filter (λ (h : ℕ × ℕ). enough h.1) holders))) ≡ values_at unit (entries_of row enough holders)) [
      | true ↦ cond-false (holder == unit) (as_touch row amount ∷ values_at unit (entries_of row enough holders)) (values_at unit (entries_of row enough holders)) other
      | false ↦ refl
    ]

-- what a unit has of them: the one of its amount, where that is enough
pub values_at-entries_of : (rows : List (ℕ × ℕ × ℕ)) (feature unit row : ℕ) (enough : ℕ → Bool) → enough 0 ≡ false → AllPairs IsBefore rows → values_at unit (entries_of row enough (holders_of rows feature)) ≡ cond (enough (amount_of rows unit feature)) (as_touch row (amount_of rows unit feature) ∷ []) []
values_at-entries_of [] feature unit row enough none order = ap (λ hs. values_at unit (entries_of row enough hs)) (holders_of-nil feature) ∙ sym (cond-false (enough 0) (as_touch row 0 ∷ []) [] none)
values_at-entries_of (a ∷ rows) feature unit row enough none order =
    let rest : values_at unit (entries_of row enough (holders_of rows feature)) ≡ cond (enough (amount_of rows unit feature)) (as_touch row (amount_of rows unit feature) ∷ []) [] = values_at-entries_of rows feature unit row enough none (AllPairs-tail IsBefore a rows order) in
    let of_amount : ℕ → List Touch = λ n. cond (enough n) (as_touch row n ∷ []) [] in
    ap (λ hs. values_at unit (entries_of row enough hs)) (holders_of-cons a rows feature)
    ∙ elim (cases_Bool (a.1 == feature)) [
      | inl found ↦ ap (λ hs. values_at unit (entries_of row enough hs)) (cond-true (a.1 == feature) ((a.0, a.2) ∷ holders_of rows feature) (holders_of rows feature) found)
          ∙ elim (cases_Bool (a.0 == unit)) [
            | inl own ↦ (
                let amount : amount_of (a ∷ rows) unit feature ≡ a.2 = cond-true (is_row_of a unit feature) a.2 (amount_of rows unit feature) (and_from (a.0 == unit) (a.1 == feature) own found) in
                let gone : amount_of rows unit feature ≡ 0 = amount_of-behind a rows unit feature (sym (eqb-true a.0 unit own)) (sym (eqb-true a.1 feature found)) (AllPairs-head IsBefore a rows order) in
                let nothing : values_at unit (entries_of row enough (holders_of rows feature)) ≡ [] = rest ∙ ap of_amount gone ∙ cond-false (enough 0) (as_touch row 0 ∷ []) [] none in
                entry_own unit row enough a.0 a.2 (holders_of rows feature) own nothing ∙ ap of_amount (sym amount))
            | inr other ↦ (
                let amount : amount_of (a ∷ rows) unit feature ≡ amount_of rows unit feature = cond-false (is_row_of a unit feature) a.2 (amount_of rows unit feature) (and_left (a.0 == unit) (a.1 == feature) other) in
                entry_other unit row enough a.0 a.2 (holders_of rows feature) other ∙ rest ∙ ap of_amount (sym amount))
          ]
      | inr no_row ↦ (
          let amount : amount_of (a ∷ rows) unit feature ≡ amount_of rows unit feature = cond-false (is_row_of a unit feature) a.2 (amount_of rows unit feature) (and_right (a.0 == unit) (a.1 == feature) no_row) in
          ap (λ hs. values_at unit (entries_of row enough hs)) (cond-false (a.1 == feature) ((a.0, a.2) ∷ holders_of rows feature) (holders_of rows feature) no_row) ∙ rest ∙ ap of_amount (sym amount))
    ]
