-- The rows of features, while they are read.
use Rattle.std.proofs.Common.{◌≡◌, ℕ, ◌+◌, ◌<◌, ◌≤◌, true, false, List, [], ◌∷◌, ◌++◌, length, get_or, Result, Ok, Err, ap, sym, ◌∙◌, subst, arith}
use Rattle.std.specs.Prelude.{◌≢◌}
use Rattle.std.specs.List.{All, AllPairs}
use Rattle.std.proofs.lemmas.List.{length-map, length_push, map_push}
use Rattle.std.proofs.lemmas.List.Elements.{All-push}
use Rattle.mz_tables.specs.Ids.{has_id}
use Rattle.mz_tables.specs.Table.{Row}
use Rattle.mz_tables.specs.declared.fault.RowFault.{RowFault}
use Rattle.mz_tables.specs.declared.fault.RowFault.TheVariants.{TooMany, Repeated}
use Rattle.mz_rows.specs.Answer.{IsFaultOf}
use Rattle.mz_rows.specs.Rows.{RowReader, go_on, items_of}
use Rattle.mz_rows.proofs.AnswerLemmas.{fault-on}
use Rattle.mz_rows.proofs.IdLemmas.{distinct-more}
use Rattle.mz_rows.proofs.RowLemmas.{HasRead, has_read-none, has_read-all, listed, listed-past, listed-fault, listed-repeated, listed-more}
use Rattle.mz_targets.specs.Features.{IsFeature, IsFeatureList, feature_row_in, feature_rows, features_of, ids_of, names_of, numbers_of}
use Rattle.mz_targets.specs.declared.features.Feature.{Feature}
use Rattle.mz_targets.specs.declared.features.FeatureList.{FeatureList}
use Rattle.mz_targets.specs.Features.{FeatureRow}

abbrev id_of : FeatureRow → ℕ
id_of row = row.0

abbrev pub feature_reader : RowReader FeatureRow
feature_reader = listed 10000 id_of feature_row_in

-- the list of what has been read
abbrev pub list_of : List ℕ → List (List ℕ) → List Feature → FeatureList
list_of ids names numbers = record { ids = ids; names = names; rows = numbers }

-- what the rows before this one gave
pub record AreFeaturesSoFar (rows : List Row) (ids : List ℕ) (names : List (List ℕ)) (numbers : List Feature) (row : ℕ) : Type 0 where
  pub earlier : List FeatureRow
  pub read : HasRead feature_reader rows earlier row
  pub ids_are : ids ≡ ids_of earlier
  pub names_are : names ≡ names_of earlier
  pub numbers_are : numbers ≡ numbers_of earlier
  pub fit : IsFeatureList (list_of ids names numbers)

pub features-none : (rows : List Row) (ids : List ℕ) (names : List (List ℕ)) (numbers : List Feature) → ids ≡ [] → names ≡ [] → numbers ≡ [] → AreFeaturesSoFar rows ids names numbers 0
features-none rows ids names numbers no_ids no_names no_numbers = record {
  earlier = [];
  read = has_read-none feature_reader rows;
  ids_are = no_ids;
  names_are = no_names;
  numbers_are = no_numbers;
  fit = record {
    few = omega (arith, ap length no_ids);
    distinct = subst (AllPairs (λ a b. a ≢ b)) (sym no_ids) (λ i j d h k. absurd (omega arith));
    in_range = subst (All (λ id. id ≤ 2147483647)) (sym no_ids) (λ k d h. absurd (omega arith));
    all_named = ap length no_names ∙ sym (ap length no_ids);
    all_rows = ap length no_numbers ∙ sym (ap length no_ids);
    small = subst (All IsFeature) (sym no_numbers) (λ k d h. absurd (omega arith));
  };
}

whole-fault : (rows : List Row) (fault : RowFault) → items_of feature_reader rows ≡ Err fault → features_of rows ≡ Err fault
unfolding features_of feature_rows
whole-fault rows fault e = ap (λ (r : Result (List FeatureRow) RowFault). go_on r (λ read. Ok (list_of (ids_of read) (names_of read) (numbers_of read)))) e

-- a row too many
pub features-too_many : (rows : List Row) (ids : List ℕ) (names : List (List ℕ)) (numbers : List Feature) (row : ℕ) → AreFeaturesSoFar rows ids names numbers row → row < length rows → 10000 ≤ row → features_of rows ≡ Err (TooMany (row + 2))
features-too_many rows ids names numbers row so_far h many = whole-fault rows (TooMany (row + 2)) (listed-past 10000 id_of feature_row_in rows so_far.earlier row so_far.read h many)

-- a row with a fault
pub features-fault : (rows : List Row) (ids : List ℕ) (names : List (List ℕ)) (numbers : List Feature) (row : ℕ) (fault : RowFault) → AreFeaturesSoFar rows ids names numbers row → row < length rows → row < 10000 → IsFaultOf fault (feature_row_in (row + 2) (get_or rows row [])) → IsFaultOf fault (features_of rows)
features-fault rows ids names numbers row fault so_far h few is =
    fault-on fault (feature_row_in (row + 2) (get_or rows row [])) (features_of rows) is
    (λ f e. whole-fault rows f (listed-fault 10000 id_of feature_row_in rows so_far.earlier row f so_far.read h few e))

-- an id that stands earlier
pub features-repeated : (rows : List Row) (ids : List ℕ) (names : List (List ℕ)) (numbers : List Feature) (row : ℕ) (item : FeatureRow) → AreFeaturesSoFar rows ids names numbers row → row < length rows → row < 10000 → feature_row_in (row + 2) (get_or rows row []) ≡ Ok item → has_id ids item.0 ≡ true → features_of rows ≡ Err (Repeated (row + 2))
features-repeated rows ids names numbers row item so_far h few e known =
    whole-fault rows (Repeated (row + 2)) (listed-repeated 10000 id_of feature_row_in rows so_far.earlier row item ids so_far.read h few e so_far.ids_are known)

fit-more : (ids : List ℕ) (names : List (List ℕ)) (numbers : List Feature) (item : FeatureRow) → IsFeatureList (list_of ids names numbers) → length ids < 10000 → has_id ids item.0 ≡ false → item.0 ≤ 2147483647 → IsFeature item.2 → IsFeatureList (list_of (ids ++ item.0 ∷ []) (names ++ item.1 ∷ []) (numbers ++ item.2 ∷ []))
fit-more ids names numbers item fit few new small feature = record {
  few = omega (arith, length_push ids item.0);
  distinct = distinct-more ids item.0 fit.distinct new;
  in_range = All-push (λ id. id ≤ 2147483647) ids item.0 fit.in_range small;
  all_named = omega (arith, length_push ids item.0, length_push names item.1, fit.all_named);
  all_rows = omega (arith, length_push ids item.0, length_push numbers item.2, fit.all_rows);
  small = All-push IsFeature numbers item.2 fit.small feature;
}

-- one more row
pub features-more : (rows : List Row) (ids : List ℕ) (names : List (List ℕ)) (numbers : List Feature) (row : ℕ) (item : FeatureRow) (ids' : List ℕ) (names' : List (List ℕ)) (numbers' : List Feature) → AreFeaturesSoFar rows ids names numbers row → row < length rows → row < 10000 → feature_row_in (row + 2) (get_or rows row []) ≡ Ok item → item.0 ≤ 2147483647 → IsFeature item.2 → has_id ids item.0 ≡ false → ids' ≡ ids ++ item.0 ∷ [] → names' ≡ names ++ item.1 ∷ [] → numbers' ≡ numbers ++ item.2 ∷ [] → AreFeaturesSoFar rows ids' names' numbers' (row + 1)
features-more rows ids names numbers row item ids' names' numbers' so_far h few e small feature new ids_e names_e numbers_e =
    let ids_more : ids' ≡ ids ++ item.0 ∷ [] = ids_e in
    record {
      earlier = so_far.earlier ++ item ∷ [];
      read = listed-more 10000 id_of feature_row_in rows so_far.earlier row item ids so_far.read h few e so_far.ids_are new;
      ids_are = ids_more ∙ ap (λ (is : List ℕ). is ++ item.0 ∷ []) so_far.ids_are ∙ sym (map_push id_of so_far.earlier item);
      names_are = names_e ∙ ap (λ (ns : List (List ℕ)). ns ++ item.1 ∷ []) so_far.names_are ∙ sym (map_push (λ (n : FeatureRow). n.1) so_far.earlier item);
      numbers_are = numbers_e ∙ ap (λ (ns : List Feature). ns ++ item.2 ∷ []) so_far.numbers_are ∙ sym (map_push (λ (n : FeatureRow). n.2) so_far.earlier item);
      fit = subst (λ (is : List ℕ). IsFeatureList (list_of is names' numbers')) (sym ids_more)
          (subst (λ (ns : List (List ℕ)). IsFeatureList (list_of (ids ++ item.0 ∷ []) ns numbers')) (sym names_e)
          (subst (λ (fs : List Feature). IsFeatureList (list_of (ids ++ item.0 ∷ []) (names ++ item.1 ∷ []) fs)) (sym numbers_e)
          (fit-more ids names numbers item so_far.fit (omega (arith, so_far.read.count, ap length so_far.ids_are, length-map so_far.earlier id_of)) new small feature)));
    }

-- no row is left
pub features-all : (rows : List Row) (ids : List ℕ) (names names' : List (List ℕ)) (numbers numbers' : List Feature) (row : ℕ) → AreFeaturesSoFar rows ids names numbers row → length rows ≤ row → names' ≡ names → numbers' ≡ numbers → features_of rows ≡ Ok (record { ids = ids; names = names'; rows = numbers' })
unfolding features_of feature_rows
features-all rows ids names names' numbers numbers' row so_far h same same_numbers =
    ap (λ (r : Result (List FeatureRow) RowFault). go_on r (λ read. Ok (list_of (ids_of read) (names_of read) (numbers_of read)))) (has_read-all feature_reader rows so_far.earlier row so_far.read h)
    ∙ cc (so_far.ids_are, so_far.names_are, so_far.numbers_are, same, same_numbers)
