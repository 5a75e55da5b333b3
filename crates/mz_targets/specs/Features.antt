-- The file of features: what is to be held of each.
use Rattle.std.specs.Prelude.{ℕ, ◌≡◌, ◌≢◌, ◌≤◌, List, length, map, Result, Ok}
use Rattle.std.specs.List.{All, AllPairs}
use Rattle.mz_num.specs.Limits.{greatest_id, greatest_quantity, million, most_features}
use Rattle.mz_tables.specs.Table.{Row}
use Rattle.mz_tables.specs.declared.fault.RowFault.{RowFault}
use Rattle.mz_rows.specs.Columns.{id_in, text_in}
use Rattle.mz_rows.specs.Rows.{at_most, go_on, items_of, line_behind, once}
use Rattle.mz_targets.specs.Optional.{mic6_or, ten4_or, zero_in}
use Rattle.mz_targets.specs.declared.features.Feature.{Feature}
use Rattle.mz_targets.specs.declared.features.FeatureList.{FeatureList}

-- the target in ten-thousandths, and its proportion of the total and the penalty factor in millionths
abbrev pub feature_in : ℕ → Row → Result Feature RowFault
feature_in line row =
    go_on (ten4_or 0 line row 1) (λ target.
    go_on (mic6_or 0 line row 2) (λ prop.
    go_on (mic6_or million line row 3) (λ spf.
    Ok (record { target = target; prop = prop; spf = spf }))))

-- `target2`, `sepnum`, `sepdistance` and `targetocc`, each of which is 0
abbrev pub left_out_in : ℕ → Row → Result ℕ RowFault
left_out_in line row =
    go_on (zero_in line row 5) (λ target2.
    go_on (zero_in line row 6) (λ sepnum.
    go_on (zero_in line row 7) (λ sepdistance.
    zero_in line row 8)))

-- a row: an id, a name and numbers
abbrev pub FeatureRow : Type 0
FeatureRow = ℕ × List ℕ × Feature

-- a row's id, its name as it stands and its numbers
abbrev pub feature_row_in : ℕ → Row → Result FeatureRow RowFault
feature_row_in line row =
    go_on (id_in line row 0) (λ id.
    go_on (feature_in line row) (λ feature.
    go_on (left_out_in line row) (λ zero.
    Ok (id, text_in row 4, feature))))

-- the rows of the file: at most 10,000, and no id twice
unfoldable pub feature_rows : List Row → Result (List FeatureRow) RowFault
feature_rows rows = items_of
    (at_most most_features (once (λ row. row.0) (λ earlier. feature_row_in (line_behind earlier)))) rows

abbrev pub ids_of : List FeatureRow → List ℕ
ids_of rows = map (λ row. row.0) rows

abbrev pub names_of : List FeatureRow → List (List ℕ)
names_of rows = map (λ row. row.1) rows

abbrev pub numbers_of : List FeatureRow → List Feature
numbers_of rows = map (λ row. row.2) rows

-- the features that a table gives, or its first fault
unfoldable pub features_of : List Row → Result FeatureList RowFault
features_of rows = go_on (feature_rows rows)
    (λ read. Ok (record { ids = ids_of read; names = names_of read; rows = numbers_of read }))

-- numbers within their limit
pub record IsFeature (feature : Feature) : Type 0 where
  pub target : feature.target ≤ greatest_quantity
  pub prop : feature.prop ≤ greatest_quantity
  pub spf : feature.spf ≤ greatest_quantity

-- distinct ids in their range, each with a name and numbers
pub record IsFeatureList (features : FeatureList) : Type 0 where
  pub few : length features.ids ≤ most_features
  pub distinct : AllPairs (λ a b. a ≢ b) features.ids
  pub in_range : All (λ id. id ≤ greatest_id) features.ids
  pub all_named : length features.names ≡ length features.ids
  pub all_rows : length features.rows ≡ length features.ids
  pub small : All IsFeature features.rows
