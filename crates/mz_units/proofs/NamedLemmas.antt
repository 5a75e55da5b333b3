-- The rows of ids with names, while they are read.
use Rattle.std.proofs.Common.{◌≡◌, ℕ, ◌+◌, ◌<◌, ◌≤◌, true, false, List, [], ◌∷◌, ◌++◌, length, get_or, Result, Ok, Err, ap, sym, ◌∙◌, subst, arith}
use Rattle.std.specs.Prelude.{◌≢◌}
use Rattle.std.specs.List.{All, AllPairs}
use Rattle.std.proofs.lemmas.List.{length-map, length_push, map_push}
use Rattle.std.proofs.lemmas.List.Elements.{All-push}
use Rattle.mz_tables.specs.Ids.{has_id}
use Rattle.mz_tables.specs.Table.{Row}
use Rattle.mz_tables.specs.declared.fault.RowFault.{RowFault}
use Rattle.mz_tables.specs.declared.fault.RowFault.TheVariants.{TooMany, Repeated}
use Rattle.mz_rows.specs.Answer.{IsFaultOf}
use Rattle.mz_units.specs.Named.{IsNamedList, named_in, named_rows, named_list_of, ids_of, names_of}
use Rattle.mz_rows.specs.Rows.{RowReader, go_on, items_of}
use Rattle.mz_units.specs.Named.{Named}
use Rattle.mz_rows.proofs.AnswerLemmas.{fault-on}
use Rattle.mz_rows.proofs.IdLemmas.{distinct-more}
use Rattle.mz_rows.proofs.RowLemmas.{HasRead, has_read-none, has_read-all, listed, listed-past, listed-fault, listed-repeated, listed-more}

abbrev id_of : Named → ℕ
id_of named = named.0

abbrev pub named_reader : RowReader Named
named_reader = listed 60 id_of named_in

-- what the rows before this one gave
pub record IsNamedSoFar (rows : List Row) (ids : List ℕ) (names : List (List ℕ)) (row : ℕ) : Type 0 where
  pub earlier : List Named
  pub read : HasRead named_reader rows earlier row
  pub ids_are : ids ≡ ids_of earlier
  pub names_are : names ≡ names_of earlier
  pub fit : IsNamedList ids names

pub named-none : (rows : List Row) (ids : List ℕ) (names : List (List ℕ)) → ids ≡ [] → names ≡ [] → IsNamedSoFar rows ids names 0
named-none rows ids names no_ids no_names = record {
  earlier = [];
  read = has_read-none named_reader rows;
  ids_are = no_ids;
  names_are = no_names;
  fit = record {
    few = omega (arith, ap length no_ids);
    distinct = subst (AllPairs (λ a b. a ≢ b)) (sym no_ids) (λ i j d h k. absurd (omega arith));
    in_range = subst (All (λ id. id ≤ 2147483647)) (sym no_ids) (λ k d h. absurd (omega arith));
    all_named = ap length no_names ∙ sym (ap length no_ids);
  };
}

whole-fault : (rows : List Row) (fault : RowFault) → items_of named_reader rows ≡ Err fault → named_list_of rows ≡ Err fault
unfolding named_list_of named_rows
whole-fault rows fault e = ap (λ (r : Result (List Named) RowFault). go_on r (λ named. Ok (ids_of named, names_of named))) e

-- a row too many
pub named-too_many : (rows : List Row) (ids : List ℕ) (names : List (List ℕ)) (row : ℕ) → IsNamedSoFar rows ids names row → row < length rows → 60 ≤ row → named_list_of rows ≡ Err (TooMany (row + 2))
named-too_many rows ids names row so_far h many = whole-fault rows (TooMany (row + 2)) (listed-past 60 id_of named_in rows so_far.earlier row so_far.read h many)

-- a row with a fault
pub named-fault : (rows : List Row) (ids : List ℕ) (names : List (List ℕ)) (row : ℕ) (fault : RowFault) → IsNamedSoFar rows ids names row → row < length rows → row < 60 → IsFaultOf fault (named_in (row + 2) (get_or rows row [])) → IsFaultOf fault (named_list_of rows)
named-fault rows ids names row fault so_far h few is =
    fault-on fault (named_in (row + 2) (get_or rows row [])) (named_list_of rows) is
    (λ f e. whole-fault rows f (listed-fault 60 id_of named_in rows so_far.earlier row f so_far.read h few e))

-- an id that stands earlier
pub named-repeated : (rows : List Row) (ids : List ℕ) (names : List (List ℕ)) (row : ℕ) (named : Named) → IsNamedSoFar rows ids names row → row < length rows → row < 60 → named_in (row + 2) (get_or rows row []) ≡ Ok named → has_id ids named.0 ≡ true → named_list_of rows ≡ Err (Repeated (row + 2))
named-repeated rows ids names row named so_far h few e known =
    whole-fault rows (Repeated (row + 2)) (listed-repeated 60 id_of named_in rows so_far.earlier row named ids so_far.read h few e so_far.ids_are known)

fit-more : (ids : List ℕ) (names : List (List ℕ)) (id : ℕ) (name : List ℕ) → IsNamedList ids names → length ids < 60 → has_id ids id ≡ false → id ≤ 2147483647 → IsNamedList (ids ++ id ∷ []) (names ++ name ∷ [])
fit-more ids names id name fit few new small = record {
  few = omega (arith, length_push ids id);
  distinct = distinct-more ids id fit.distinct new;
  in_range = All-push (λ id. id ≤ 2147483647) ids id fit.in_range small;
  all_named = omega (arith, length_push ids id, length_push names name, fit.all_named);
}

-- one more row
pub named-more : (rows : List Row) (ids : List ℕ) (names : List (List ℕ)) (row : ℕ) (named : Named) (ids' : List ℕ) (names' : List (List ℕ)) → IsNamedSoFar rows ids names row → row < length rows → row < 60 → named_in (row + 2) (get_or rows row []) ≡ Ok named → named.0 ≤ 2147483647 → has_id ids named.0 ≡ false → ids' ≡ ids ++ named.0 ∷ [] → names' ≡ names ++ named.1 ∷ [] → IsNamedSoFar rows ids' names' (row + 1)
named-more rows ids names row named ids' names' so_far h few e small new ids_e names_e =
    let ids_more : ids' ≡ ids ++ named.0 ∷ [] = ids_e in
    record {
      earlier = so_far.earlier ++ named ∷ [];
      read = listed-more 60 id_of named_in rows so_far.earlier row named ids so_far.read h few e so_far.ids_are new;
      ids_are = ids_more ∙ ap (λ (is : List ℕ). is ++ named.0 ∷ []) so_far.ids_are ∙ sym (map_push id_of so_far.earlier named);
      names_are = names_e ∙ ap (λ (ns : List (List ℕ)). ns ++ named.1 ∷ []) so_far.names_are ∙ sym (map_push (λ (n : Named). n.1) so_far.earlier named);
      fit = subst (λ (is : List ℕ). IsNamedList is names') (sym ids_more) (subst (λ (ns : List (List ℕ)). IsNamedList (ids ++ named.0 ∷ []) ns) (sym names_e)
          (fit-more ids names named.0 named.1 so_far.fit (omega (arith, so_far.read.count, ap length so_far.ids_are, length-map so_far.earlier id_of)) new small));
    }

-- no row is left
pub named-all : (rows : List Row) (ids : List ℕ) (names names' : List (List ℕ)) (row : ℕ) → IsNamedSoFar rows ids names row → length rows ≤ row → names' ≡ names → named_list_of rows ≡ Ok (ids, names')
unfolding named_list_of named_rows
named-all rows ids names names' row so_far h same =
    ap (λ (r : Result (List Named) RowFault). go_on r (λ named. Ok (ids_of named, names_of named))) (has_read-all named_reader rows so_far.earlier row so_far.read h)
    ∙ cc (so_far.ids_are, so_far.names_are, same)
