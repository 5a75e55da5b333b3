-- The units that hold a feature: in range, in order, each with what amounts have.
use Rattle.std.proofs.Common.{◌≡◌, ℕ, ◌+◌, ◌<◌, ◌≤◌, List, [], ◌∷◌, length, map, get_or, inl, inr, sym, ap, subst, ◌∙◌, arith, ◌==◌}
use Rattle.std.specs.Prelude.{slice_index}
use Rattle.std.specs.List.{All, AllPairs}
use Rattle.std.specs.List.Sorted.{IsStrictlyIncreasing}
use Rattle.std.proofs.lemmas.Bool.{cases_Bool, cond-true, cond-false, eqb-true}
use Rattle.std.proofs.lemmas.List.{get_or-map, length-map}
use Rattle.std.proofs.lemmas.List.Elements.{All-nil, All-cons, All-head, All-tail, All-map, All-weaker}
use Rattle.std.proofs.lemmas.List.Kept.{AllPairs-cons}
use Rattle.mz_model.specs.Amounts.{holder_of, holders_of}
use Rattle.mz_model.proofs.AmountLaws.{AllPairs-head, AllPairs-tail, holders_of-cons, holders_of-nil}
use Rattle.mz_num.proofs.PlaceLaws.{values_at-All}
use Rattle.mz_num.specs.Order.{IsBefore}
use Rattle.mz_targets.specs.Amounts.{IsAmount}
use Rattle.mz_project.specs.declared.limits.amounts.AmountsByFeature.{AmountsByFeature}
use Rattle.mz_project.specs.declared.targets.Targets.{Targets}
use Rattle.mz_project.specs.AmountsByFeature.{amounts_by_feature}
use Rattle.mz_project.proofs.AmountLemmas.{holders-at, in-holders}

-- what holds of each amount holds of each holder
pub holders-All : (P : ℕ × ℕ → Type 0) (rows : List (ℕ × ℕ × ℕ)) (feature : ℕ) → All (λ row. P (row.0, row.2)) rows → All P (holders_of rows feature)
unfolding holders_of
holders-All P rows feature all = values_at-All P feature (map holder_of rows) (All-map (λ entry. P entry.1) holder_of rows all)

-- order
comes_later : (a row : ℕ × ℕ × ℕ) (feature : ℕ) → a.1 ≡ feature → row.1 ≡ feature → IsBefore a row → a.0 < row.0
comes_later a row feature own other before = elim before [ inl less ↦ less | inr equal ↦ absurd (omega (arith, own, other, equal.1)) ]

holders-behind : (a : ℕ × ℕ × ℕ) (rows : List (ℕ × ℕ × ℕ)) (feature : ℕ) → a.1 ≡ feature → All (IsBefore a) rows → All (λ (holder : ℕ × ℕ). a.0 < holder.0) (holders_of rows feature)
holders-behind a [] feature own all = subst (All (λ (holder : ℕ × ℕ). a.0 < holder.0)) (sym (holders_of-nil feature)) (All-nil (λ (holder : ℕ × ℕ). a.0 < holder.0))
holders-behind a (row ∷ rows) feature own all =
    let later : ℕ × ℕ → Type 0 = λ (holder : ℕ × ℕ). a.0 < holder.0 in
    let rest : All later (holders_of rows feature) = holders-behind a rows feature own (All-tail (IsBefore a) row rows all) in
    subst (All later) (sym (holders_of-cons row rows feature))
    (elim (cases_Bool (row.1 == feature)) [
      | inl found ↦ subst (All later) (sym (cond-true (row.1 == feature) ((row.0, row.2) ∷ holders_of rows feature) (holders_of rows feature) found))
          (All-cons later (row.0, row.2) (holders_of rows feature) (comes_later a row feature own (eqb-true row.1 feature found) (All-head (IsBefore a) row rows all)) rest)
      | inr other ↦ subst (All later) (sym (cond-false (row.1 == feature) ((row.0, row.2) ∷ holders_of rows feature) (holders_of rows feature) other)) rest
    ])

holders-rise : (rows : List (ℕ × ℕ × ℕ)) (feature : ℕ) → AllPairs IsBefore rows → AllPairs (λ (a b : ℕ × ℕ). a.0 < b.0) (holders_of rows feature)
holders-rise [] feature order = subst (AllPairs (λ (a b : ℕ × ℕ). a.0 < b.0)) (sym (holders_of-nil feature)) (λ i j d below within. absurd (omega arith))
holders-rise (row ∷ rows) feature order =
    let rises : ℕ × ℕ → ℕ × ℕ → Type 0 = λ (a b : ℕ × ℕ). a.0 < b.0 in
    let rest : AllPairs rises (holders_of rows feature) = holders-rise rows feature (AllPairs-tail IsBefore row rows order) in
    subst (AllPairs rises) (sym (holders_of-cons row rows feature))
    (elim (cases_Bool (row.1 == feature)) [
      | inl found ↦ subst (AllPairs rises) (sym (cond-true (row.1 == feature) ((row.0, row.2) ∷ holders_of rows feature) (holders_of rows feature) found))
          (AllPairs-cons rises (row.0, row.2) (holders_of rows feature) (holders-behind row rows feature (eqb-true row.1 feature found) (AllPairs-head IsBefore row rows order)) rest)
      | inr other ↦ subst (AllPairs rises) (sym (cond-false (row.1 == feature) ((row.0, row.2) ∷ holders_of rows feature) (holders_of rows feature) other)) rest
    ])

pub places-rise : (holders : List (ℕ × ℕ)) → AllPairs (λ (a b : ℕ × ℕ). a.0 < b.0) holders → IsStrictlyIncreasing (map (λ (unit : ℕ × ℕ). unit.0) holders)
places-rise holders rise k within =
    let below : k + 1 < length holders = subst (λ n. k + 1 < n) (length-map holders (λ (unit : ℕ × ℕ). unit.0)) within in
    let one : slice_index (map (λ (unit : ℕ × ℕ). unit.0) holders) k ≡ (get_or holders k (0, 0)).0 = get_or-map (λ (unit : ℕ × ℕ). unit.0) holders k (0, 0) 0 (omega arith) in
    let two : slice_index (map (λ (unit : ℕ × ℕ). unit.0) holders) (k + 1) ≡ (get_or holders (k + 1) (0, 0)).0 = get_or-map (λ (unit : ℕ × ℕ). unit.0) holders (k + 1) (0, 0) 0 below in
    let rises : (get_or holders k (0, 0)).0 < (get_or holders (k + 1) (0, 0)).0 = rise k (k + 1) (0, 0) (omega arith) below in
    omega (arith, one, two, rises)

-- the holders of a feature, as a list of its own
pub in_holders : (targets : Targets) (by_feature : AmountsByFeature) (feature : ℕ) → by_feature ≡ amounts_by_feature targets → feature < length targets.features.ids → feature < length by_feature.holders
in_holders targets by_feature feature are known = subst (λ n. feature < n) (sym (in-holders targets by_feature.holders (ap (λ (h : AmountsByFeature). h.holders) are))) known

pub own-holders : (targets : Targets) (by_feature : AmountsByFeature) (holders : List (ℕ × ℕ)) (feature : ℕ) → by_feature ≡ amounts_by_feature targets → feature < length targets.features.ids → holders ≡ get_or by_feature.holders feature []
    → holders ≡ holders_of targets.amounts feature
own-holders targets by_feature holders feature are known is = is ∙ holders-at targets by_feature.holders feature [] (ap (λ (h : AmountsByFeature). h.holders) are) known

pub holders-in_range : (rows : List (ℕ × ℕ × ℕ)) (holders : List (ℕ × ℕ)) (units features most feature count : ℕ) → holders ≡ holders_of rows feature → units ≡ count → All (IsAmount units features most) rows → All (λ (unit : ℕ × ℕ). unit.0 < count) holders
holders-in_range rows holders units features most feature count are same each =
    subst (All (λ (unit : ℕ × ℕ). unit.0 < count)) (sym are)
    (holders-All (λ (unit : ℕ × ℕ). unit.0 < count) rows feature (All-weaker (IsAmount units features most) (λ row. row.0 < count) (λ row is. subst (λ n. row.0 < n) same is.unit) rows each))

pub holders-positive : (rows : List (ℕ × ℕ × ℕ)) (holders : List (ℕ × ℕ)) (units features most feature : ℕ) → holders ≡ holders_of rows feature → All (IsAmount units features most) rows → All (λ (unit : ℕ × ℕ). 1 ≤ unit.1) holders
holders-positive rows holders units features most feature are each =
    subst (All (λ (unit : ℕ × ℕ). 1 ≤ unit.1)) (sym are)
    (holders-All (λ (unit : ℕ × ℕ). 1 ≤ unit.1) rows feature (All-weaker (IsAmount units features most) (λ row. 1 ≤ row.2) (λ row is. omega (arith, is.positive)) rows each))

pub holders-rising : (rows : List (ℕ × ℕ × ℕ)) (holders : List (ℕ × ℕ)) (feature : ℕ) → holders ≡ holders_of rows feature → AllPairs IsBefore rows → IsStrictlyIncreasing (map (λ (unit : ℕ × ℕ). unit.0) holders)
holders-rising rows holders feature are order = places-rise holders (subst (AllPairs (λ (a b : ℕ × ℕ). a.0 < b.0)) (sym are) (holders-rise rows feature order))
