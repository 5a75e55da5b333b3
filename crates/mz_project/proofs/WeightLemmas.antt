-- The target rows with their weights, and the first one that is too heavy.
use Rattle.std.proofs.Common.{◌≡◌, ℕ, suc, ◌+◌, ◌-◌, ◌*◌, ◌^◌, ◌<◌, ◌≤◌, Bool, List, [], ◌∷◌, ◌++◌, length, map, get_or, take, drop, Option, Some, None, add-one, inl, inr, refl, sym, ap, subst, ◌∙◌, arith}
use Rattle.std.specs.Prelude.{slice_index, slice_get}
use Rattle.std.specs.List.{find}
use Rattle.std.specs.Option.{option_or}
use Rattle.std.proofs.Math.Seq.{drop-cons, take-suc}
use Rattle.std.proofs.lemmas.Bool.{cases_lt, cond-false, cond-true, le-ltb, lt-ltb}
use Rattle.std.proofs.lemmas.List.{get_or-append_right, get_or_append_left, get_or-map, length-append, length-map, take-append-drop, take_all}
use Rattle.std.proofs.lemmas.List.Folds.{find-append}
use Rattle.std.proofs.lemmas.Option.{get_or_from_slice_get, slice_get_read}
use Rattle.mz_model.specs.declared.parts.Target.{Target}
use Rattle.mz_model.specs.Amounts.{holders_of}
use Rattle.mz_model.specs.Parts.{no_target}
use Rattle.mz_num.specs.Places.{list_below}
use Rattle.mz_num.proofs.PlaceLaws.{get_or-list_below, length-list_below}
use Rattle.mz_penalty.specs.Base.{base_of}
use Rattle.mz_penalty.specs.Order.{HeldAmount}
use Rattle.mz_penalty.specs.Ordered.{base_until}
use Rattle.mz_penalty.specs.Weight.{weight_of}
use Rattle.mz_targets.specs.declared.features.Feature.{Feature}
use Rattle.mz_targets.specs.declared.zone_targets.ZoneTarget.{ZoneTarget}
use Rattle.mz_project.specs.declared.region.Region.{Region}
use Rattle.mz_project.specs.declared.targets.Targets.{Targets}
use Rattle.mz_project.specs.Bases.{AreBases}
use Rattle.mz_project.specs.Limits.{heavy_row, is_above}
use Rattle.mz_project.specs.TargetRows.{id_of_row}
use Rattle.mz_project.specs.Weights.{bases_for, weight_for}
use Rattle.mz_project.specs.Levels.{feature_at, levels_of, no_feature, overall_level, zone_level}
use Rattle.mz_project.specs.TargetRows.{overall_row, row_for, target_rows_of, zone_row}
use Rattle.mz_project.specs.Costs.{raw_costs_of}

-- one list of what places below n give, and of what things give
pub front-at : {X Y : Type 0} (n k : ℕ) (f : ℕ → X) (g : Y → X) (ys : List Y) (d : X) → k < n → get_or (list_below n f ++ map g ys) k d ≡ f k
front-at n k f g ys d below = get_or_append_left (list_below n f) (map g ys) d k (subst (λ m. k < m) (sym (length-list_below n f)) below) ∙ get_or-list_below n k f d below

pub back-at : {X Y : Type 0} (n k : ℕ) (f : ℕ → X) (g : Y → X) (ys : List Y) (d : X) (e : Y) → n ≤ k → k - n < length ys → get_or (list_below n f ++ map g ys) k d ≡ g (get_or ys (k - n) e)
back-at n k f g ys d e past within = get_or-append_right (list_below n f) (map g ys) n k d (length-list_below n f) past ∙ get_or-map g ys (k - n) e d within

length-both : {X Y : Type 0} (n : ℕ) (f : ℕ → X) (g : Y → X) (ys : List Y) → length (list_below n f ++ map g ys) ≡ n + length ys
length-both n f g ys =
    let front : length (list_below n f) ≡ n = length-list_below n f in
    let back : length (map g ys) ≡ length ys = length-map ys g in
    length-append (list_below n f) (map g ys) ∙ omega (arith, front, back)

length-levels : (targets : Targets) → length (levels_of targets) ≡ length targets.features.ids + length targets.zone_targets
unfolding levels_of
length-levels targets = length-both (length targets.features.ids) (overall_level targets) (zone_level targets) targets.zone_targets

pub length-rows : (region : Region) → length (target_rows_of region) ≡ length region.targets.features.ids + length region.targets.zone_targets
unfolding target_rows_of
length-rows region = length-both (length region.targets.features.ids) (overall_row region) (zone_row region) region.targets.zone_targets

-- the row at a place
pub overall-at : (region : Region) (row features : ℕ) → features ≡ length region.targets.features.rows → length region.targets.features.rows ≡ length region.targets.features.ids → row < features
    → row_for region row None (slice_index (levels_of region.targets) row) ≡ get_or (target_rows_of region) row no_target
unfolding levels_of target_rows_of
overall-at region row features count all below =
    let known : row < length region.targets.features.ids = subst (λ n. row < n) (count ∙ all) below in
    ap (row_for region row None) (front-at (length region.targets.features.ids) row (overall_level region.targets) (zone_level region.targets) region.targets.zone_targets 0 known)
    ∙ sym (front-at (length region.targets.features.ids) row (overall_row region) (zone_row region) region.targets.zone_targets no_target known)

pub zone-within : (targets : Targets) (items : List ZoneTarget) (row features : ℕ) → items ≡ targets.zone_targets → features ≡ length targets.features.rows → length targets.features.rows ≡ length targets.features.ids → features ≤ row → row < length (levels_of targets)
    → row - features < length items
zone-within targets items row features are count all past within =
    let both = length-levels targets in
    let same : length items ≡ length targets.zone_targets = ap (λ (zs : List ZoneTarget). length zs) are in
    omega (arith, both, same, count, all, past, within)

-- a zone target takes 24 bytes
pub zone-offset : (targets : Targets) (row features : ℕ) → features ≡ length targets.features.rows → length targets.features.rows ≡ length targets.features.ids → features ≤ row → row < length (levels_of targets) → length targets.zone_targets ≤ 90000
    → (row - features) * 24 ≤ 2160000
zone-offset targets row features count all past within few = let inside = zone-within targets targets.zone_targets row features refl count all past within in omega (arith, inside, few)

pub zone-at : (region : Region) (items : List ZoneTarget) (row features : ℕ) (d : ZoneTarget) → items ≡ region.targets.zone_targets → features ≡ length region.targets.features.rows → length region.targets.features.rows ≡ length region.targets.features.ids → features ≤ row
    → row < length (levels_of region.targets) → row_for region (get_or items (row - features) d).feature (Some (get_or items (row - features) d).zone) (slice_index (levels_of region.targets) row) ≡ get_or (target_rows_of region) row no_target
unfolding levels_of target_rows_of
zone-at region items row features d are count all past within =
    let ids : features ≡ length region.targets.features.ids = count ∙ all in
    let behind : length region.targets.features.ids ≤ row = subst (λ n. n ≤ row) ids past in
    let inside : row - length region.targets.features.ids < length region.targets.zone_targets = subst (λ n. row - n < length region.targets.zone_targets) ids (subst (λ (zs : List ZoneTarget). row - features < length zs) are (zone-within region.targets items row features are count all past within)) in
    let same : get_or items (row - features) d ≡ get_or region.targets.zone_targets (row - length region.targets.features.ids) d = ap (λ (zs : List ZoneTarget). get_or zs (row - features) d) are ∙ ap (λ n. get_or region.targets.zone_targets (row - n) d) ids in
    ap (λ (z : ZoneTarget). row_for region z.feature (Some z.zone) (slice_index (levels_of region.targets) row)) same
    ∙ ap (row_for region (get_or region.targets.zone_targets (row - length region.targets.features.ids) d).feature (Some (get_or region.targets.zone_targets (row - length region.targets.features.ids) d).zone))
    (back-at (length region.targets.features.ids) row (overall_level region.targets) (zone_level region.targets) region.targets.zone_targets 0 d behind inside)
    ∙ sym (back-at (length region.targets.features.ids) row (overall_row region) (zone_row region) region.targets.zone_targets no_target d behind inside)

-- the bases of the first features
pub no-bases : (region : Region) (bases : List (List HeldAmount)) → bases ≡ [] → AreBases region 0 bases
no-bases region bases none = record { all = ap (λ (bs : List (List HeldAmount)). length bs) none; each = λ k below. absurd (omega (arith, below)) }

pub bases-more : (region : Region) (count : ℕ) (bases bases' : List (List HeldAmount)) (more : List HeldAmount) → AreBases region count bases → bases' ≡ bases ++ more ∷ [] → base_until more ≡ bases_for region count → AreBases region (count + 1) bases'
bases-more region count bases bases' more so_far grown is = record {
  all = ap (λ (bs : List (List HeldAmount)). length bs) grown ∙ length-append bases (more ∷ []) ∙ ap (λ n. n + 1) so_far.all;
  each = λ k below. (
      let here : get_or bases' k [] ≡ get_or (bases ++ more ∷ []) k [] = ap (λ (bs : List (List HeldAmount)). get_or bs k []) grown in
      elim (cases_lt k count) [
        | inl less ↦ ap base_until (here ∙ get_or_append_left bases (more ∷ []) [] k (subst (λ n. k < n) (sym so_far.all) less)) ∙ so_far.each k less
        | inr past ↦ (
            let same : k ≡ count = omega (arith, below, past) in
            ap base_until (here ∙ get_or-append_right bases (more ∷ []) count k [] so_far.all past ∙ ap (λ n. get_or (more ∷ []) n []) (let none : k - count ≡ 0 = omega (arith, same) in none)) ∙ is ∙ ap (bases_for region) (sym same))
      ]);
}

pub in-bases : (region : Region) (bases : List (List HeldAmount)) (feature : ℕ) → AreBases region (length region.targets.features.ids) bases → feature < length region.targets.features.ids → feature < length bases
in-bases region bases feature are known = subst (λ n. feature < n) (sym are.all) known

-- the weight of a row
pub weight-is : (region : Region) (rows : List Feature) (bases : List (List HeldAmount)) (feature level base weight : ℕ) → rows ≡ region.targets.features.rows → AreBases region (length region.targets.features.ids) bases
    → feature < length region.targets.features.ids → base ≡ base_until (get_or bases feature []) level → weight ≡ weight_of (get_or rows feature no_feature).spf base → weight ≡ weight_for region feature level
weight-is region rows bases feature level base weight rows_are are known base_is is =
    is ∙ ap (λ (fs : List Feature). weight_of (get_or fs feature no_feature).spf base) rows_are
    ∙ ap (weight_of (feature_at region.targets feature).spf) (base_is ∙ ap (λ (f : ℕ → ℕ). f level) (are.each feature known))

pub base-at : (bases : List (List HeldAmount)) (feature level base : ℕ) (own : List HeldAmount) → feature < length bases → own ≡ get_or bases feature own → base ≡ base_until own level → base ≡ base_until (get_or bases feature []) level
base-at bases feature level base own within is there =
    there ∙ ap (λ (b : List HeldAmount). base_until b level) (sym (get_or_from_slice_get bases feature own [] (slice_get_read bases (length bases) feature own refl within is)))

-- the bases of one feature
pub bases-are : (region : Region) (raw : List ℕ) (holders : List (ℕ × ℕ)) (feature : ℕ) (bases : List HeldAmount) → raw ≡ raw_costs_of region.area → holders ≡ holders_of region.targets.amounts feature → base_until bases ≡ base_of raw holders → base_until bases ≡ bases_for region feature
bases-are region raw holders feature bases raw_is holders_are is = is ∙ ap (λ costs. base_of costs holders) raw_is ∙ ap (base_of (raw_costs_of region.area)) holders_are

-- a row is too heavy
abbrev pub is_heavy : Target → Bool
is_heavy row = is_above row.weight

-- the first rows, none of which is
pub record AreLight (rows : List Target) (count : ℕ) (first : List Target) : Type 0 where
  pub are : first ≡ take count rows
  pub light : find is_heavy first ≡ None

pub no-row : (rows first : List Target) → first ≡ [] → AreLight rows 0 first
no-row rows first none = record { are = none; light = ap (find is_heavy) none }

in_rows : (region : Region) (levels : List ℕ) (row : ℕ) → levels ≡ levels_of region.targets → row < length levels → row < length (target_rows_of region)
in_rows region levels row are within =
    let count : length levels ≡ length (levels_of region.targets) = ap length are in
    let all = length-levels region.targets in
    let same = length-rows region in
    omega (arith, count, all, same, within)

-- the row that is made for a place
abbrev row_made : List ℕ → ℕ → ℕ → Option ℕ → ℕ → Target
row_made levels row feature zone weight = record { feature = feature; zone = zone; level = slice_index levels row; weight = weight }

row-is : (region : Region) (levels : List ℕ) (row feature : ℕ) (zone : Option ℕ) (weight : ℕ) → levels ≡ levels_of region.targets → row_for region feature zone (slice_index (levels_of region.targets) row) ≡ get_or (target_rows_of region) row no_target
    → weight ≡ weight_for region feature (slice_index levels row) → row_made levels row feature zone weight ≡ get_or (target_rows_of region) row no_target
row-is region levels row feature zone weight are place is = ap (row_made levels row feature zone) is ∙ ap (λ ls. row_for region feature zone (slice_index ls row)) are ∙ place

pub row-more : (region : Region) (levels : List ℕ) (row feature : ℕ) (zone : Option ℕ) (weight : ℕ) (first first' : List Target) → levels ≡ levels_of region.targets → row < length levels
    → row_for region feature zone (slice_index (levels_of region.targets) row) ≡ get_or (target_rows_of region) row no_target → weight ≡ weight_for region feature (slice_index levels row) → weight ≤ 10 ^ 18
    → AreLight (target_rows_of region) row first → first' ≡ first ++ row_made levels row feature zone weight ∷ [] → AreLight (target_rows_of region) (row + 1) first'
row-more region levels row feature zone weight first first' are within place is low so_far more =
    let target : Target = row_made levels row feature zone weight in
    record {
      are = more ∙ ap (λ ts. ts ++ target ∷ []) so_far.are ∙ ap (λ (t : Target). take row (target_rows_of region) ++ t ∷ []) (row-is region levels row feature zone weight are place is)
          ∙ sym (take-suc (target_rows_of region) row no_target (in_rows region levels row are within)) ∙ ap (λ n. take n (target_rows_of region)) (sym (add-one row));
      light = ap (find is_heavy) more ∙ find-append is_heavy first (target ∷ []) ∙ ap (λ o. option_or o (find is_heavy (target ∷ []))) so_far.light ∙ cond-false (is_heavy target) (Some target) None (le-ltb (10 ^ 18) weight low);
    }

pub rows-all : (region : Region) (levels : List ℕ) (row : ℕ) (first items : List Target) → levels ≡ levels_of region.targets → length levels ≤ row → AreLight (target_rows_of region) row first → items ≡ first → (heavy_row region ≡ None) × (items ≡ target_rows_of region)
unfolding heavy_row
rows-all region levels row first items are past so_far same =
    let count : length levels ≡ length (levels_of region.targets) = ap length are in
    let all = length-levels region.targets in
    let both = length-rows region in
    let whole : first ≡ target_rows_of region = so_far.are ∙ take_all row (target_rows_of region) (omega (arith, count, all, both, past)) in
    (ap (find is_heavy) (sym whole) ∙ so_far.light, same ∙ whole)

heavy-at : (rows first : List Target) (row : ℕ) (target : Target) → AreLight rows row first → row < length rows → target ≡ get_or rows row no_target → 10 ^ 18 < target.weight → find is_heavy rows ≡ Some target
heavy-at rows first row target so_far within is above =
    let rest : drop row rows ≡ target ∷ drop (suc row) rows = drop-cons rows row no_target within ∙ ap (λ (t : Target). t ∷ drop (suc row) rows) (sym is) in
    ap (find is_heavy) (sym (take-append-drop row rows) ∙ ap (λ ts. take row rows ++ ts) rest) ∙ find-append is_heavy (take row rows) (target ∷ drop (suc row) rows)
    ∙ ap (λ o. option_or o (find is_heavy (target ∷ drop (suc row) rows))) (ap (find is_heavy) (sym so_far.are) ∙ so_far.light)
    ∙ cond-true (is_heavy target) (Some target) (find is_heavy (drop (suc row) rows)) (lt-ltb (10 ^ 18) target.weight above)

pub row-heavy : (region : Region) (levels : List ℕ) (row feature : ℕ) (zone : Option ℕ) (weight id : ℕ) (first : List Target) → levels ≡ levels_of region.targets → row < length levels
    → row_for region feature zone (slice_index (levels_of region.targets) row) ≡ get_or (target_rows_of region) row no_target → weight ≡ weight_for region feature (slice_index levels row) → 10 ^ 18 < weight
    → AreLight (target_rows_of region) row first → slice_get region.targets.features.ids feature ≡ Some id → (target : Target) × (heavy_row region ≡ Some target) × (id ≡ id_of_row region target)
unfolding heavy_row
row-heavy region levels row feature zone weight id first are within place is above so_far named =
    let target : Target = row_made levels row feature zone weight in
    (target, heavy-at (target_rows_of region) first row target so_far (in_rows region levels row are within) (row-is region levels row feature zone weight are place is) above, sym (get_or_from_slice_get region.targets.features.ids feature id 0 named))
