-- The rows of units, while they are read.
use Rattle.std.proofs.Common.{◌≡◌, ℕ, ◌+◌, ◌*◌, ◌^◌, ◌<◌, ◌≤◌, true, false, List, [], ◌∷◌, ◌++◌, length, get_or, drop, map, Result, Ok, Err, ap, sym, ◌∙◌, subst, arith, length-append}
use Rattle.std.specs.Prelude.{◌≢◌}
use Rattle.std.specs.List.{All, AllPairs, flat_map}
use Rattle.std.proofs.lemmas.List.{append-nil, length-map, length_push, map_push}
use Rattle.std.proofs.lemmas.List.Concat.{flat_map-append}
use Rattle.std.proofs.lemmas.List.Elements.{All-append, All-push}
use Rattle.mz_tables.specs.Ids.{has_id}
use Rattle.mz_tables.specs.Table.{Row}
use Rattle.mz_tables.specs.declared.fault.RowFault.{RowFault}
use Rattle.mz_tables.specs.declared.fault.RowFault.TheVariants.{TooMany, Repeated}
use Rattle.mz_rows.specs.Answer.{IsFaultOf}
use Rattle.mz_rows.specs.Rows.{RowReader, go_on, items_of}
use Rattle.mz_units.specs.UnitRows.{IsUnitList, costs_in, unit_in, unit_list, unit_rows, units_of}
use Rattle.mz_units.specs.UnitRows.{UnitRow}
use Rattle.mz_rows.proofs.AnswerLemmas.{fault-on}
use Rattle.mz_rows.proofs.IdLemmas.{distinct-more}
use Rattle.mz_rows.proofs.RowLemmas.{HasRead, has_read-none, has_read-all, listed, listed-past, listed-fault, listed-repeated, listed-more}

-- ---- the costs of one row

-- what the row reads as where these are the costs before a column
abbrev pub costs_left : ℕ → List ℕ → ℕ → Row → Result (List ℕ) RowFault
costs_left line costs column row = go_on (costs_in line column (drop column row)) (λ more. Ok (costs ++ more))

pub record AreCostsSoFar (line : ℕ) (row : Row) (costs : List ℕ) (place : ℕ) : Type 0 where
  pub so_far : costs_in line 1 (drop 1 row) ≡ costs_left line costs (place + 1) row
  pub count : length costs ≡ place
  pub small : All (λ cost. cost ≤ 10 ^ 18) costs

-- ---- the rows of the file

abbrev id_of : UnitRow → ℕ
id_of unit = unit.0

abbrev costs_of : UnitRow → List ℕ
costs_of unit = unit.1

abbrev pub unit_reader : RowReader UnitRow
unit_reader = listed 100000 id_of unit_in

-- what the rows before this one gave
pub record AreUnitsSoFar (width : ℕ) (rows : List Row) (ids unit_costs : List ℕ) (row : ℕ) : Type 0 where
  pub earlier : List UnitRow
  pub read : HasRead unit_reader rows earlier row
  pub ids_are : ids ≡ map id_of earlier
  pub costs_are : unit_costs ≡ flat_map costs_of earlier
  pub fit : IsUnitList width (record { ids = ids; costs = unit_costs })

nothing_costs : (width : ℕ) (ids unit_costs : List ℕ) → ids ≡ [] → unit_costs ≡ [] → length unit_costs ≡ length ids * width
nothing_costs width ids unit_costs no_ids no_costs =
    let nothing : 0 * width ≡ 0 = omega arith in
    ap length no_costs ∙ sym nothing ∙ sym (ap (λ (is : List ℕ). length is * width) no_ids)

pub units-none : (width : ℕ) (rows : List Row) (ids unit_costs : List ℕ) → ids ≡ [] → unit_costs ≡ [] → AreUnitsSoFar width rows ids unit_costs 0
units-none width rows ids unit_costs no_ids no_costs = record {
  earlier = [];
  read = has_read-none unit_reader rows;
  ids_are = no_ids;
  costs_are = no_costs;
  fit = record {
    few = omega (arith, ap length no_ids);
    distinct = subst (AllPairs (λ a b. a ≢ b)) (sym no_ids) (λ i j d h k. absurd (omega arith));
    in_range = subst (All (λ id. id ≤ 2147483647)) (sym no_ids) (λ k d h. absurd (omega arith));
    all_costs = nothing_costs width ids unit_costs no_ids no_costs;
    small = subst (All (λ cost. cost ≤ 10 ^ 18)) (sym no_costs) (λ k d h. absurd (omega arith));
  };
}

whole-fault : (rows : List Row) (fault : RowFault) → items_of unit_reader rows ≡ Err fault → units_of rows ≡ Err fault
unfolding units_of unit_rows
whole-fault rows fault e = ap (λ (r : Result (List UnitRow) RowFault). go_on r (λ units. Ok (unit_list units))) e

pub units-too_many : (width : ℕ) (rows : List Row) (ids unit_costs : List ℕ) (row : ℕ) → AreUnitsSoFar width rows ids unit_costs row → row < length rows → 100000 ≤ row → units_of rows ≡ Err (TooMany (row + 2))
units-too_many width rows ids unit_costs row so_far h many = whole-fault rows (TooMany (row + 2)) (listed-past 100000 id_of unit_in rows so_far.earlier row so_far.read h many)

pub units-fault : (width : ℕ) (rows : List Row) (ids unit_costs : List ℕ) (row : ℕ) (fault : RowFault) → AreUnitsSoFar width rows ids unit_costs row → row < length rows → row < 100000 → IsFaultOf fault (unit_in (row + 2) (get_or rows row [])) → IsFaultOf fault (units_of rows)
units-fault width rows ids unit_costs row fault so_far h few is =
    fault-on fault (unit_in (row + 2) (get_or rows row [])) (units_of rows) is
    (λ f e. whole-fault rows f (listed-fault 100000 id_of unit_in rows so_far.earlier row f so_far.read h few e))

pub units-repeated : (width : ℕ) (rows : List Row) (ids unit_costs : List ℕ) (row : ℕ) (unit : UnitRow) → AreUnitsSoFar width rows ids unit_costs row → row < length rows → row < 100000 → unit_in (row + 2) (get_or rows row []) ≡ Ok unit → has_id ids unit.0 ≡ true → units_of rows ≡ Err (Repeated (row + 2))
units-repeated width rows ids unit_costs row unit so_far h few e known =
    whole-fault rows (Repeated (row + 2)) (listed-repeated 100000 id_of unit_in rows so_far.earlier row unit ids so_far.read h few e so_far.ids_are known)

more_costs : (n width : ℕ) → (n + 1) * width ≡ n * width + width
more_costs n width = omega arith

fit-more : (width : ℕ) (ids unit_costs : List ℕ) (unit : UnitRow) → IsUnitList width (record { ids = ids; costs = unit_costs }) → length ids < 100000 → has_id ids unit.0 ≡ false → unit.0 ≤ 2147483647 → length unit.1 ≡ width → All (λ cost. cost ≤ 10 ^ 18) unit.1 → IsUnitList width (record { ids = ids ++ unit.0 ∷ []; costs = unit_costs ++ unit.1 })
fit-more width ids unit_costs unit fit few new small wide small_costs = record {
  few = omega (arith, length_push ids unit.0);
  distinct = distinct-more ids unit.0 fit.distinct new;
  in_range = All-push (λ id. id ≤ 2147483647) ids unit.0 fit.in_range small;
  all_costs = length-append unit_costs unit.1 ∙ ap (λ n. n + length unit.1) fit.all_costs ∙ ap (λ n. length ids * width + n) wide ∙ sym (more_costs (length ids) width) ∙ ap (λ n. n * width) (sym (length_push ids unit.0));
  small = All-append (λ cost. cost ≤ 10 ^ 18) unit_costs unit.1 fit.small small_costs;
}

one_more : (units : List UnitRow) (unit : UnitRow) → flat_map costs_of (units ++ unit ∷ []) ≡ flat_map costs_of units ++ unit.1
one_more units unit = flat_map-append costs_of units (unit ∷ []) ∙ ap (λ (cs : List ℕ). flat_map costs_of units ++ cs) (append-nil unit.1)

pub units-more : (width : ℕ) (rows : List Row) (ids unit_costs : List ℕ) (row : ℕ) (unit : UnitRow) (ids' unit_costs' : List ℕ) → AreUnitsSoFar width rows ids unit_costs row → row < length rows → row < 100000 → unit_in (row + 2) (get_or rows row []) ≡ Ok unit → unit.0 ≤ 2147483647 → length unit.1 ≡ width → All (λ cost. cost ≤ 10 ^ 18) unit.1 → has_id ids unit.0 ≡ false → ids' ≡ ids ++ unit.0 ∷ [] → unit_costs' ≡ unit_costs ++ unit.1 → AreUnitsSoFar width rows ids' unit_costs' (row + 1)
units-more width rows ids unit_costs row unit ids' unit_costs' so_far h few e small wide small_costs new ids_e costs_e =
    let ids_more : ids' ≡ ids ++ unit.0 ∷ [] = ids_e in
    let count : length ids ≡ row = ap length so_far.ids_are ∙ length-map so_far.earlier id_of ∙ so_far.read.count in
    record {
      earlier = so_far.earlier ++ unit ∷ [];
      read = listed-more 100000 id_of unit_in rows so_far.earlier row unit ids so_far.read h few e so_far.ids_are new;
      ids_are = ids_more ∙ ap (λ (is : List ℕ). is ++ unit.0 ∷ []) so_far.ids_are ∙ sym (map_push id_of so_far.earlier unit);
      costs_are = costs_e ∙ ap (λ (cs : List ℕ). cs ++ unit.1) so_far.costs_are ∙ sym (one_more so_far.earlier unit);
      fit = subst (λ (is : List ℕ). IsUnitList width (record { ids = is; costs = unit_costs' })) (sym ids_more)
          (subst (λ (cs : List ℕ). IsUnitList width (record { ids = ids ++ unit.0 ∷ []; costs = cs })) (sym costs_e)
          (fit-more width ids unit_costs unit so_far.fit (omega arith) new small wide small_costs));
    }

pub units-all : (width : ℕ) (rows : List Row) (ids unit_costs unit_costs' : List ℕ) (row : ℕ) → AreUnitsSoFar width rows ids unit_costs row → length rows ≤ row → unit_costs' ≡ unit_costs → units_of rows ≡ Ok (record { ids = ids; costs = unit_costs' })
unfolding units_of unit_rows
units-all width rows ids unit_costs unit_costs' row so_far h same =
    ap (λ (r : Result (List UnitRow) RowFault). go_on r (λ units. Ok (unit_list units))) (has_read-all unit_reader rows so_far.earlier row so_far.read h)
    ∙ cc (so_far.ids_are, so_far.costs_are, same)
