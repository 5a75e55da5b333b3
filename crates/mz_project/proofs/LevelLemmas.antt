-- The levels of target rows, and the totals that they are of.
use Rattle.std.proofs.Common.{◌≡◌, ℕ, ◌+◌, ◌^◌, ◌<◌, ◌≤◌, true, false, List, [], ◌∷◌, ◌++◌, length, map, get_or, take, sym, ap, subst, ◌∙◌}
use Rattle.std.specs.Prelude.{◌==◌, nat_lt, if◌then◌else◌, slice_index}
use Rattle.std.specs.List.{All, list_any}
use Rattle.std.proofs.lemmas.List.{append_assoc, map_more}
use Rattle.mz_model.specs.Amounts.{total_of}
use Rattle.mz_num.specs.Places.{list_below}
use Rattle.mz_num.proofs.PlaceLaws.{length-list_below, get_or-list_below, list_below-more}
use Rattle.mz_targets.specs.declared.features.Feature.{Feature}
use Rattle.mz_targets.specs.declared.zone_targets.ZoneTarget.{ZoneTarget}
use Rattle.mz_targets.specs.Level.{level}
use Rattle.mz_targets.specs.ZoneTargets.{IsZoneTarget}
use Rattle.mz_project.specs.declared.targets.Targets.{Targets}
use Rattle.mz_project.specs.AmountsByFeature.{amounts_by_feature}
use Rattle.mz_project.specs.Limits.{is_above, levels_are_above, totals_are_above}
use Rattle.mz_project.specs.Levels.{feature_at, levels_of, no_feature, overall_level, zone_level}
use Rattle.mz_project.proofs.AboveLemmas.{none_above, some_above}
use Rattle.mz_project.proofs.BelowLemmas.{within-at}

-- totals
pub in_totals : (targets : Targets) (totals : List ℕ) (feature : ℕ) → totals ≡ (amounts_by_feature targets).totals → feature < length targets.features.ids → feature < length totals
in_totals targets totals feature are known = subst (λ n. feature < n) (sym (ap length are ∙ length-list_below (length targets.features.ids) (total_of targets.amounts))) known

pub total-is : (targets : Targets) (totals : List ℕ) (feature : ℕ) → totals ≡ (amounts_by_feature targets).totals → feature < length targets.features.ids → get_or totals feature 0 ≡ total_of targets.amounts feature
total-is targets totals feature are known = ap (λ ts. get_or ts feature 0) are ∙ get_or-list_below (length targets.features.ids) feature (total_of targets.amounts) 0 known

pub total-small : (targets : Targets) (feature : ℕ) → totals_are_above targets ≡ false → feature < length targets.features.ids → total_of targets.amounts feature ≤ 10 ^ 18
unfolding totals_are_above
total-small targets feature small known = within-at (length targets.features.ids) feature (total_of targets.amounts) small known

pub total-le : (targets : Targets) (totals : List ℕ) (feature : ℕ) → totals ≡ (amounts_by_feature targets).totals → totals_are_above targets ≡ false → feature < length targets.features.ids → get_or totals feature 0 ≤ 10 ^ 18
total-le targets totals feature are small known = subst (λ n. n ≤ 10 ^ 18) (sym (total-is targets totals feature are known)) (total-small targets feature small known)

-- features
pub feature-known : (targets : Targets) (rows : List Feature) (feature : ℕ) → rows ≡ targets.features.rows → length targets.features.rows ≡ length targets.features.ids → feature < length rows → feature < length targets.features.ids
feature-known targets rows feature are all within = subst (λ n. feature < n) (ap length are ∙ all) within

pub targets-known : (targets : Targets) (items : List ZoneTarget) (zones k : ℕ) (d : ZoneTarget) → items ≡ targets.zone_targets → All (IsZoneTarget zones (length targets.features.ids)) targets.zone_targets → k < length items
    → IsZoneTarget zones (length targets.features.ids) (get_or items k d)
targets-known targets items zones k d are each within = (subst (All (IsZoneTarget zones (length targets.features.ids))) (sym are) each) k d within

-- one level more
pub more-behind : (first part all items items' : List ℕ) (last made : ℕ) → all ≡ part ++ last ∷ [] → made ≡ last → items ≡ first ++ part → items' ≡ items ++ made ∷ [] → items' ≡ first ++ all
more-behind first part all items items' last made whole is so_far more =
    more ∙ ap (λ xs. xs ++ made ∷ []) so_far ∙ ap (λ n. (first ++ part) ++ n ∷ []) is ∙ append_assoc first part (last ∷ []) ∙ ap (λ xs. first ++ xs) (sym whole)

-- what a feature asks for of a total
abbrev pub asked_of : Feature → ℕ → ℕ
asked_of asked total = level (if nat_lt 0 asked.prop then asked.prop else asked.target) total (nat_lt 0 asked.prop)

pub overall-more : (targets : Targets) (rows : List Feature) (totals first items items' : List ℕ) (feature made : ℕ) → rows ≡ targets.features.rows → totals ≡ (amounts_by_feature targets).totals → feature < length targets.features.ids
    → made ≡ asked_of (get_or rows feature no_feature) (get_or totals feature 0) → items ≡ first ++ list_below feature (overall_level targets) → items' ≡ items ++ made ∷ [] → items' ≡ first ++ list_below (feature + 1) (overall_level targets)
overall-more targets rows totals first items items' feature made rows_are totals_are known is so_far more =
    more-behind first (list_below feature (overall_level targets)) (list_below (feature + 1) (overall_level targets)) items items' (overall_level targets feature) made (list_below-more feature (overall_level targets))
    (is ∙ ap (λ fs. asked_of (get_or fs feature no_feature) (get_or totals feature 0)) rows_are ∙ ap (asked_of (feature_at targets feature)) (total-is targets totals feature totals_are known)) so_far more

pub zone-more : (targets : Targets) (rows : List ZoneTarget) (totals first items items' : List ℕ) (k made : ℕ) (d : ZoneTarget) → rows ≡ targets.zone_targets → totals ≡ (amounts_by_feature targets).totals → k < length rows
    → (get_or rows k d).feature < length targets.features.ids → made ≡ level (get_or rows k d).value (get_or totals (get_or rows k d).feature 0) ((get_or rows k d).kind == 1)
    → items ≡ first ++ map (zone_level targets) (take k targets.zone_targets) → items' ≡ items ++ made ∷ [] → items' ≡ first ++ map (zone_level targets) (take (k + 1) targets.zone_targets)
zone-more targets rows totals first items items' k made d rows_are totals_are within known is so_far more =
    more-behind first (map (zone_level targets) (take k targets.zone_targets)) (map (zone_level targets) (take (k + 1) targets.zone_targets)) items items' (zone_level targets (get_or rows k d)) made
    (map_more (zone_level targets) targets.zone_targets k d (subst (λ (zs : List ZoneTarget). k < length zs) rows_are within) ∙ ap (λ (zs : List ZoneTarget). map (zone_level targets) (take k targets.zone_targets) ++ zone_level targets (get_or zs k d) ∷ []) (sym rows_are))
    (is ∙ ap (λ n. level (get_or rows k d).value n ((get_or rows k d).kind == 1)) (total-is targets totals (get_or rows k d).feature totals_are known)) so_far more

-- all levels
pub levels-are : (targets : Targets) (start first second levels : List ℕ) → start ≡ [] → first ≡ start ++ list_below (length targets.features.ids) (overall_level targets) → second ≡ first ++ map (zone_level targets) targets.zone_targets
    → levels ≡ second → levels ≡ levels_of targets
unfolding levels_of
levels-are targets start first second levels none early late same =
    same ∙ late ∙ ap (λ xs. xs ++ map (zone_level targets) targets.zone_targets) (early ∙ ap (λ xs. xs ++ list_below (length targets.features.ids) (overall_level targets)) none)

pub level-above : (targets : Targets) (levels : List ℕ) → levels ≡ levels_of targets → ((k : ℕ) × (k < length levels) × (10 ^ 18 < slice_index levels k)) → levels_are_above targets ≡ true
unfolding levels_are_above
level-above targets levels are (k, within, above) = ap (list_any is_above) (sym are) ∙ some_above levels k within above

pub levels-within : (targets : Targets) (levels : List ℕ) → levels ≡ levels_of targets → All (λ n. n ≤ 10 ^ 18) levels → levels_are_above targets ≡ false
unfolding levels_are_above
levels-within targets levels are small = ap (list_any is_above) (sym are) ∙ none_above levels small
