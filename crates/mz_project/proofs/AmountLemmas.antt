-- Amounts, the units that hold them, and totals above the limit.
use Rattle.std.proofs.Common.{◌≡◌, ℕ, zero, suc, ◌+◌, ◌^◌, ◌<◌, ◌≤◌, true, false, cond, List, [], ◌∷◌, ◌++◌, length, map, get_or, refl, sym, ap, subst, ◌∙◌, arith, ◌==◌}
use Rattle.std.specs.Prelude.{slice_index}
use Rattle.std.specs.List.{All, sum_by}
use Rattle.std.proofs.lemmas.Bool.{cond-true, eq-eqb}
use Rattle.std.proofs.lemmas.List.{length-map}
use Rattle.std.proofs.lemmas.List.Sums.{sum_by-cons}
use Rattle.mz_model.specs.Amounts.{holder_of, holders_of, total_of}
use Rattle.mz_num.specs.Places.{list_below}
use Rattle.mz_model.proofs.AmountLaws.{holders_of-cons}
use Rattle.mz_num.proofs.PlaceLaws.{get_or-list_below, length-list_below, length-values_at, list_below-more, list_below-same}
use Rattle.mz_targets.specs.Amounts.{IsAmount}
use Rattle.mz_project.specs.declared.limits.amounts.AmountsByFeature.{AmountsByFeature}
use Rattle.mz_project.specs.declared.targets.Targets.{Targets}
use Rattle.mz_project.specs.AmountsByFeature.{amounts_by_feature}
use Rattle.mz_project.specs.Limits.{totals_are_above}
use Rattle.mz_project.proofs.BelowLemmas.{above_below, within_below}

-- the sum of the amounts of holders
abbrev pub sum_of : List (ℕ × ℕ) → ℕ
sum_of holders = sum_by (λ (holder : ℕ × ℕ). holder.1) holders

-- one place more
pub list-more : (f : ℕ → ℕ) (n made : ℕ) (items items' : List ℕ) → made ≡ f n → items ≡ list_below n f → items' ≡ items ++ made ∷ [] → items' ≡ list_below (n + 1) f
list-more f n made items items' is so_far more = more ∙ ap (λ xs. xs ++ made ∷ []) so_far ∙ ap (λ m. list_below n f ++ m ∷ []) is ∙ sym (list_below-more n f)

-- an amount is at most the total of its feature
total_of-cons : (row : ℕ × ℕ × ℕ) (rows : List (ℕ × ℕ × ℕ)) (feature : ℕ) → total_of (row ∷ rows) feature ≡ cond (row.1 == feature) (row.2 + total_of rows feature) (total_of rows feature)
unfolding total_of
total_of-cons row rows feature =
    ap sum_of (holders_of-cons row rows feature)
    ∙ elim (row.1 == feature) as (λ b. sum_of (cond b ((row.0, row.2) ∷ holders_of rows feature) (holders_of rows feature)) ≡ cond b (row.2 + sum_of (holders_of rows feature)) (sum_of (holders_of rows feature))) [
      | true ↦ sum_by-cons (λ (holder : ℕ × ℕ). holder.1) (row.0, row.2) (holders_of rows feature)
      | false ↦ refl
    ]

total-grows : (row : ℕ × ℕ × ℕ) (rows : List (ℕ × ℕ × ℕ)) (feature : ℕ) → total_of rows feature ≤ total_of (row ∷ rows) feature
total-grows row rows feature =
    subst (λ n. total_of rows feature ≤ n) (sym (total_of-cons row rows feature))
    (elim (row.1 == feature) as (λ b. total_of rows feature ≤ cond b (row.2 + total_of rows feature) (total_of rows feature)) [ true ↦ omega arith | false ↦ omega arith ])

total-own : (row : ℕ × ℕ × ℕ) (rows : List (ℕ × ℕ × ℕ)) → row.2 ≤ total_of (row ∷ rows) row.1
total-own row rows = omega (arith, total_of-cons row rows row.1 ∙ cond-true (row.1 == row.1) (row.2 + total_of rows row.1) (total_of rows row.1) (eq-eqb row.1 row.1 refl))

amount-in-total : (rows : List (ℕ × ℕ × ℕ)) (k : ℕ) (d : ℕ × ℕ × ℕ) → k < length rows → (get_or rows k d).2 ≤ total_of rows (get_or rows k d).1
amount-in-total [] k d within = absurd (omega (arith, within))
amount-in-total (row ∷ rows) zero d within = total-own row rows
amount-in-total (row ∷ rows) (suc k) d within = omega (arith, amount-in-total rows k d (omega (arith, within)), total-grows row rows (get_or rows k d).1)

-- one amount above the limit is enough
pub amount-above : (targets : Targets) (rows : List (ℕ × ℕ × ℕ)) (units most : ℕ) → rows ≡ targets.amounts → All (IsAmount units (length targets.features.ids) most) targets.amounts
    → ((k : ℕ) × (k < length rows) × (10 ^ 18 < (get_or rows k (0, 0, 0)).2)) → totals_are_above targets ≡ true
unfolding totals_are_above
amount-above targets rows units most same each (k, within, above) =
    let rows_each : All (IsAmount units (length targets.features.ids) most) rows = subst (All (IsAmount units (length targets.features.ids) most)) (sym same) each in
    let own : 10 ^ 18 < total_of targets.amounts (get_or rows k (0, 0, 0)).1 = subst (λ rs. 10 ^ 18 < total_of rs (get_or rows k (0, 0, 0)).1) same (omega (arith, above, amount-in-total rows k (0, 0, 0) within)) in
    above_below (length targets.features.ids) (get_or rows k (0, 0, 0)).1 (total_of targets.amounts) (rows_each k (0, 0, 0) within).feature own

-- the units that hold each feature
pub holders-are : (targets : Targets) (rows : List (ℕ × ℕ × ℕ)) (features : ℕ) (holders : List (List (ℕ × ℕ))) → rows ≡ targets.amounts → features ≡ length targets.features.ids → holders ≡ list_below features (holders_of rows)
    → holders ≡ (amounts_by_feature targets).holders
holders-are targets rows features holders same known are = are ∙ ap (λ rs. list_below features (holders_of rs)) same ∙ ap (λ n. list_below n (holders_of targets.amounts)) known

pub in-holders : (targets : Targets) (holders : List (List (ℕ × ℕ))) → holders ≡ (amounts_by_feature targets).holders → length holders ≡ length targets.features.ids
in-holders targets holders are = ap length are ∙ length-list_below (length targets.features.ids) (holders_of targets.amounts)

pub holders-at : (targets : Targets) (holders : List (List (ℕ × ℕ))) (feature : ℕ) (d : List (ℕ × ℕ)) → holders ≡ (amounts_by_feature targets).holders → feature < length targets.features.ids → get_or holders feature d ≡ holders_of targets.amounts feature
holders-at targets holders feature d are known = ap (λ hs. get_or hs feature d) are ∙ get_or-list_below (length targets.features.ids) feature (holders_of targets.amounts) d known

pub few-holders : (rows : List (ℕ × ℕ × ℕ)) (feature : ℕ) → length (holders_of rows feature) ≤ length rows
unfolding holders_of
few-holders rows feature = omega (arith, length-values_at feature (map holder_of rows), length-map rows holder_of)

pub few-at : (targets : Targets) (holders : List (List (ℕ × ℕ))) (most : ℕ) → holders ≡ (amounts_by_feature targets).holders → length targets.amounts ≤ most → All (λ list. length list ≤ most) holders
few-at targets holders most are few k d within =
    let known : k < length targets.features.ids = omega (arith, within, in-holders targets holders are) in
    omega (arith, few, few-holders targets.amounts k, ap length (holders-at targets holders k d are known))

-- the totals
pub totals-are : (targets : Targets) (features : ℕ) (holders : List (List (ℕ × ℕ))) (totals : List ℕ) → holders ≡ (amounts_by_feature targets).holders → features ≡ length targets.features.ids
    → totals ≡ list_below features (λ feature. sum_of (get_or holders feature [])) → totals ≡ (amounts_by_feature targets).totals
unfolding total_of
totals-are targets features holders totals same known are =
    are ∙ ap (λ n. list_below n (λ feature. sum_of (get_or holders feature []))) known
    ∙ list_below-same (length targets.features.ids) (λ feature. sum_of (get_or holders feature [])) (total_of targets.amounts) 0 (λ k below. ap sum_of (holders-at targets holders k [] same below))

-- the totals of features above the limit
pub total-above : (targets : Targets) (numbers : List ℕ) → numbers ≡ (amounts_by_feature targets).totals → ((k : ℕ) × (k < length numbers) × (10 ^ 18 < slice_index numbers k)) → totals_are_above targets ≡ true
unfolding totals_are_above
total-above targets numbers same (k, within, above) =
    let known : k < length targets.features.ids = omega (arith, within, ap length same ∙ length-list_below (length targets.features.ids) (total_of targets.amounts)) in
    let own : get_or numbers k 0 ≡ total_of targets.amounts k = ap (λ ns. get_or ns k 0) same ∙ get_or-list_below (length targets.features.ids) k (total_of targets.amounts) 0 known in
    above_below (length targets.features.ids) k (total_of targets.amounts) known (subst (λ n. 10 ^ 18 < n) own above)

pub totals-within : (targets : Targets) (numbers : List ℕ) → numbers ≡ (amounts_by_feature targets).totals → All (λ number. number ≤ 10 ^ 18) numbers → totals_are_above targets ≡ false
unfolding totals_are_above
totals-within targets numbers same small =
    let totals_small : All (λ number. number ≤ 10 ^ 18) (amounts_by_feature targets).totals = subst (All (λ number. number ≤ 10 ^ 18)) same small in
    within_below (length targets.features.ids) (total_of targets.amounts)
    (λ k known. subst (λ n. n ≤ 10 ^ 18) (get_or-list_below (length targets.features.ids) k (total_of targets.amounts) 0 known) (totals_small k 0 (subst (λ n. k < n) (sym (length-list_below (length targets.features.ids) (total_of targets.amounts))) known)))

-- by_feature with these fields
pub same_by_feature : (targets : Targets) (amounts : List (ℕ × ℕ × ℕ)) (holders : List (List (ℕ × ℕ))) (totals : List ℕ) → amounts ≡ targets.amounts → holders ≡ (amounts_by_feature targets).holders → totals ≡ (amounts_by_feature targets).totals
    → ◌≡◌ {A = AmountsByFeature} (record { amounts = amounts; holders = holders; totals = totals }) (amounts_by_feature targets)
same_by_feature targets amounts holders totals same_amounts same_holders same_totals = λ k. record { amounts = same_amounts k; holders = same_holders k; totals = same_totals k }
