-- The rows of zone sets, while they are read.
use Rattle.std.proofs.Common.{◌≡◌, ℕ, ◌+◌, ◌-◌, ◌^◌, ◌<◌, ◌≤◌, ◌==◌, Bool, true, false, cond, List, [], ◌∷◌, ◌++◌, length, get_or, set, map, bit_or, Result, Ok, Err, refl, ap, sym, ◌∙◌, subst, arith}
use Rattle.std.specs.Prelude.{◌||◌}
use Rattle.std.specs.Int.Bits.{or_zero_l, or_zero_r}
use Rattle.std.specs.List.{All, list_any}
use Rattle.std.proofs.Math.ListN.{replicate}
use Rattle.std.proofs.Math.Pow.{pow-lt}
use Rattle.std.proofs.lemmas.Bool.{eq-eqb, ne_eqb}
use Rattle.std.proofs.lemmas.List.Elements.{All-get_or, All-replicate, All-set}
use Rattle.std.proofs.lemmas.List.Folds.{list_any-append}
use Rattle.std.proofs.lemmas.Nat.{le_or_l, or_lt, pow_pos}
use Rattle.std.proofs.lemmas.Nat.Bits.{bit_at_or, same_from_bits}
use Rattle.mz_tables.specs.Ids.{has_id}
use Rattle.mz_tables.specs.Table.{Row}
use Rattle.mz_tables.specs.declared.fault.RowFault.{RowFault}
use Rattle.mz_tables.specs.declared.fault.RowFault.TheVariants.{TooMany}
use Rattle.mz_rows.specs.Rows.{RowReader, go_on, items_of, at_most}
use Rattle.mz_num.specs.ZoneSet.{IsZoneSet}
use Rattle.mz_units.specs.ZoneSets.{listed_zones, unit_zone_in, zone_set, zone_set_rows, zone_sets, zone_sets_of}
use Rattle.mz_units.specs.ZoneSets.{UnitZone}
use Rattle.mz_num.proofs.PlaceLaws.{length-list_below, get_or-list_below, list_below-set, replicate-list_below}
use Rattle.mz_rows.proofs.KeyedLemmas.{AreMarks, has_id-map, marks-none, marks-at, marks-more}
use Rattle.mz_rows.proofs.RowLemmas.{HasRead, has_read-none, has_read-more, has_read-fault, has_read-all, at_most-past, at_most-within, by_line, by_line-is}

-- ---- sets of zones

or_assoc : (a b c : ℕ) → bit_or (bit_or a b) c ≡ bit_or a (bit_or b c)
or_assoc a b c = same_from_bits (bit_or (bit_or a b) c) (bit_or a (bit_or b c)) (λ i. omega (arith, bit_at_or (bit_or a b) c i, bit_at_or a b i, bit_at_or a (bit_or b c) i, bit_at_or b c i))

-- one more zone in a set
pub set-more : (zones set zone : ℕ) → IsZoneSet zones set → zone < zones → IsZoneSet zones (bit_or set (2 ^ zone))
set-more zones set zone is h = record {
  some_zone = omega (arith, le_or_l set (2 ^ zone), is.some_zone);
  in_range = or_lt zones set (2 ^ zone) is.in_range (pow-lt h);
}

pub set-one : (zones zone : ℕ) → zone < zones → IsZoneSet zones (2 ^ zone)
set-one zones zone h = record { some_zone = pow_pos zone; in_range = pow-lt h }

every_positive : (zones : ℕ) → 0 < zones → 1 < 2 ^ zones
every_positive zones h = pow-lt {i = 0} {j = zones} h

pub set-every : (zones : ℕ) → 0 < zones → IsZoneSet zones (2 ^ zones - 1)
set-every zones h = let more : 1 < 2 ^ zones = every_positive zones h in record { some_zone = omega arith; in_range = omega arith }

-- ---- the zones that rows list

zones_first : (b : Bool) (one rest rest' last : ℕ) → rest' ≡ bit_or rest last → (cond b (bit_or one rest') rest') ≡ bit_or (cond b (bit_or one rest) rest) last
zones_first true one rest rest' last e = ap (bit_or one) e ∙ sym (or_assoc one rest last)
zones_first false one rest rest' last e = e

zones_last : (b : Bool) (one : ℕ) → cond b (bit_or one 0) 0 ≡ bit_or 0 (cond b one 0)
zones_last true one = or_zero_r one ∙ sym (or_zero_l one)
zones_last false one = refl

listed_zones-append : (rows : List UnitZone) (row : UnitZone) (unit : ℕ) → listed_zones (rows ++ row ∷ []) unit ≡ bit_or (listed_zones rows unit) (cond (row.0 == unit) (2 ^ row.1) 0)
listed_zones-append [] row unit = zones_last (row.0 == unit) (2 ^ row.1)
listed_zones-append (first ∷ rows) row unit = zones_first (first.0 == unit) (2 ^ first.1) (listed_zones rows unit) (listed_zones (rows ++ row ∷ []) unit) (cond (row.0 == unit) (2 ^ row.1) 0) (listed_zones-append rows row unit)

none_first : (b rest : Bool) (one zones : ℕ) → (b || rest) ≡ false → (rest ≡ false → zones ≡ 0) → cond b (bit_or one zones) zones ≡ 0
none_first true rest one zones e none = cc
none_first false rest one zones e none = none e

listed_zones-none : (rows : List UnitZone) (unit : ℕ) → list_any (λ row. row.0 == unit) rows ≡ false → listed_zones rows unit ≡ 0
listed_zones-none [] unit e = refl
listed_zones-none (row ∷ rows) unit e = none_first (row.0 == unit) (list_any (λ row. row.0 == unit) rows) (2 ^ row.1) (listed_zones rows unit) e (listed_zones-none rows unit)

any_last : (a b : Bool) → b ≡ true → (a || (b || false)) ≡ true
any_last true b e = refl
any_last false b e = ap (λ c. c || false) e

any_other : (a b : Bool) → b ≡ false → (a || (b || false)) ≡ a
any_other true b e = refl
any_other false b e = ap (λ c. c || false) e

before_is : (zones : ℕ) (rows : List UnitZone) (unit : ℕ) (b : Bool) → list_any (λ r. r.0 == unit) rows ≡ b → cond b (zone_set zones rows unit) 0 ≡ listed_zones rows unit
before_is zones rows unit true e = ap (λ b. cond b (listed_zones rows unit) (2 ^ zones - 1)) e
before_is zones rows unit false e = sym (listed_zones-none rows unit e)

-- the set of the unit of one more row: its zone, with the zones that stood there before
pub zone_set-more : (zones : ℕ) (rows : List UnitZone) (row : UnitZone) (before : ℕ) → before ≡ cond (list_any (λ r. r.0 == row.0) rows) (zone_set zones rows row.0) 0 → bit_or before (2 ^ row.1) ≡ zone_set zones (rows ++ row ∷ []) row.0
zone_set-more zones rows row before e =
    let same : (row.0 == row.0) ≡ true = eq-eqb row.0 row.0 refl in
    let there : list_any (λ r. r.0 == row.0) (rows ++ row ∷ []) ≡ true = list_any-append (λ r. r.0 == row.0) rows (row ∷ []) ∙ any_last (list_any (λ r. r.0 == row.0) rows) (row.0 == row.0) same in
    ap (λ n. bit_or n (2 ^ row.1)) (e ∙ before_is zones rows row.0 (list_any (λ r. r.0 == row.0) rows) refl)
    ∙ ap (λ b. bit_or (listed_zones rows row.0) (cond b (2 ^ row.1) 0)) (sym same)
    ∙ sym (listed_zones-append rows row row.0)
    ∙ sym (ap (λ b. cond b (listed_zones (rows ++ row ∷ []) row.0) (2 ^ zones - 1)) there)

-- that of any other unit stays
pub zone_set-other : (zones : ℕ) (rows : List UnitZone) (row : UnitZone) (unit : ℕ) → (unit ≡ row.0 → ⊥) → zone_set zones rows unit ≡ zone_set zones (rows ++ row ∷ []) unit
zone_set-other zones rows row unit other =
    let apart : (row.0 == unit) ≡ false = ne_eqb row.0 unit (λ e. other (sym e)) in
    let there : list_any (λ r. r.0 == unit) (rows ++ row ∷ []) ≡ list_any (λ r. r.0 == unit) rows = list_any-append (λ r. r.0 == unit) rows (row ∷ []) ∙ any_other (list_any (λ r. r.0 == unit) rows) (row.0 == unit) apart in
    let zones_are : listed_zones (rows ++ row ∷ []) unit ≡ listed_zones rows unit = listed_zones-append rows row unit ∙ ap (λ b. bit_or (listed_zones rows unit) (cond b (2 ^ row.1) 0)) apart ∙ or_zero_r (listed_zones rows unit) in
    sym (ap (λ b. cond b (listed_zones (rows ++ row ∷ []) unit) (2 ^ zones - 1)) there ∙ ap (λ n. cond (list_any (λ r. r.0 == unit) rows) n (2 ^ zones - 1)) zones_are)

-- ---- the rows of the file

abbrev pub unit_of : UnitZone → ℕ
unit_of row = row.0

abbrev pub zone_set_reader : List ℕ → List ℕ → RowReader UnitZone
zone_set_reader units zones = at_most 6000000 (by_line (unit_zone_in units zones))

-- what the rows before this one gave
pub record AreZoneSetsSoFar (units zones : List ℕ) (rows : List Row) (limited : List Bool) (sets : List ℕ) (row : ℕ) : Type 0 where
  pub earlier : List UnitZone
  pub read : HasRead (zone_set_reader units zones) rows earlier row
  pub marks : AreMarks (length units) unit_of earlier limited
  pub values : sets ≡ zone_sets (length units) (length zones) earlier
  pub fit : 0 < length zones → All (IsZoneSet (length zones)) sets

pub zone_sets-none : (units zones : List ℕ) (rows : List Row) (limited : List Bool) (sets : List ℕ) (n every : ℕ) → n ≡ length units → every ≡ 2 ^ length zones - 1 → limited ≡ replicate n false → sets ≡ replicate n every → AreZoneSetsSoFar units zones rows limited sets 0
zone_sets-none units zones rows limited sets n every size all no_marks full = record {
  earlier = [];
  read = has_read-none (zone_set_reader units zones) rows;
  marks = marks-none (length units) unit_of limited (no_marks ∙ ap (λ k. replicate k false) size);
  values = full ∙ ap (λ k. replicate k every) size ∙ replicate-list_below (length units) (zone_set (length zones) []) every 0 (λ k h. all);
  fit = λ some. subst (All (IsZoneSet (length zones))) (sym full) (All-replicate (IsZoneSet (length zones)) n every (subst (IsZoneSet (length zones)) (sym all) (set-every (length zones) some)));
}

whole-fault : (units zones : List ℕ) (rows : List Row) (fault : RowFault) → items_of (zone_set_reader units zones) rows ≡ Err fault → zone_sets_of units zones rows ≡ Err fault
unfolding zone_sets_of zone_set_rows
whole-fault units zones rows fault e = ap (λ (r : Result (List UnitZone) RowFault). go_on r (λ listed. Ok (zone_sets (length units) (length zones) listed))) e

pub zone_sets-too_many : (units zones : List ℕ) (rows : List Row) (limited : List Bool) (sets : List ℕ) (row : ℕ) → AreZoneSetsSoFar units zones rows limited sets row → row < length rows → 6000000 ≤ row → zone_sets_of units zones rows ≡ Err (TooMany (row + 2))
zone_sets-too_many units zones rows limited sets row so_far h many =
    whole-fault units zones rows (TooMany (row + 2)) (has_read-fault (zone_set_reader units zones) rows so_far.earlier row (TooMany (row + 2)) so_far.read h
    (at_most-past 6000000 (by_line (unit_zone_in units zones)) so_far.earlier (get_or rows row []) row so_far.read.count many))

pub zone_sets-fault : (units zones : List ℕ) (rows : List Row) (limited : List Bool) (sets : List ℕ) (row : ℕ) (fault : RowFault) → AreZoneSetsSoFar units zones rows limited sets row → row < length rows → row < 6000000 → unit_zone_in units zones (row + 2) (get_or rows row []) ≡ Err fault → zone_sets_of units zones rows ≡ Err fault
zone_sets-fault units zones rows limited sets row fault so_far h few e =
    whole-fault units zones rows fault (has_read-fault (zone_set_reader units zones) rows so_far.earlier row fault so_far.read h
    (at_most-within 6000000 (by_line (unit_zone_in units zones)) so_far.earlier (get_or rows row []) row (Err fault) so_far.read.count few
    (by_line-is (unit_zone_in units zones) so_far.earlier (get_or rows row []) row (Err fault) so_far.read.count e)))

-- the zones that stood there before: none where the unit has no mark
pub before-is : (units zones : List ℕ) (earlier : List UnitZone) (limited : List Bool) (sets : List ℕ) (unit before : ℕ) (mark : Bool) → AreMarks (length units) unit_of earlier limited → sets ≡ zone_sets (length units) (length zones) earlier → unit < length units → has_id (map unit_of earlier) unit ≡ mark → before ≡ cond mark (get_or sets unit 0) 0 → before ≡ cond (list_any (λ r. r.0 == unit) earlier) (zone_set (length zones) earlier unit) 0
before-is units zones earlier limited sets unit before mark marks values h known e =
    e ∙ ap (λ n. cond mark n 0) (ap (λ (ss : List ℕ). get_or ss unit 0) values ∙ get_or-list_below (length units) unit (zone_set (length zones) earlier) 0 h)
    ∙ ap (λ b. cond b (zone_set (length zones) earlier unit) 0) (sym known ∙ has_id-map unit_of earlier unit)

set_of_more : (zones before zone : ℕ) (mark : Bool) (old : ℕ) → (mark ≡ true → IsZoneSet zones old) → before ≡ cond mark old 0 → zone < zones → IsZoneSet zones (bit_or before (2 ^ zone))
set_of_more zones before zone true old is e h = subst (λ n. IsZoneSet zones (bit_or n (2 ^ zone))) (sym e) (set-more zones old zone (is refl) h)
set_of_more zones before zone false old is e h = subst (IsZoneSet zones) (sym (ap (λ n. bit_or n (2 ^ zone)) e ∙ or_zero_l (2 ^ zone))) (set-one zones zone h)

pub zone_sets-more : (units zones : List ℕ) (rows : List Row) (limited : List Bool) (sets : List ℕ) (row : ℕ) (item : UnitZone) (mark d : Bool) (before one : ℕ) → AreZoneSetsSoFar units zones rows limited sets row → row < length rows → row < 6000000 → unit_zone_in units zones (row + 2) (get_or rows row []) ≡ Ok item → item.0 < length units → item.1 < length zones → mark ≡ get_or limited item.0 d → before ≡ cond mark (get_or sets item.0 0) 0 → one ≡ 2 ^ item.1 → AreZoneSetsSoFar units zones rows (set limited item.0 true) (set sets item.0 (bit_or before one)) (row + 1)
zone_sets-more units zones rows limited sets row item mark d before one so_far h few e unit zone at was bit =
    let known : has_id (map unit_of so_far.earlier) item.0 ≡ mark = marks-at (length units) unit_of so_far.earlier limited item.0 d mark so_far.marks unit at in
    let size : length sets ≡ length units = ap length so_far.values ∙ length-list_below (length units) (zone_set (length zones) so_far.earlier) in
    subst (λ n. AreZoneSetsSoFar units zones rows (set limited item.0 true) (set sets item.0 (bit_or before n)) (row + 1)) (sym bit) (record {
      earlier = so_far.earlier ++ item ∷ [];
      read = has_read-more (zone_set_reader units zones) rows so_far.earlier row item so_far.read h
          (at_most-within 6000000 (by_line (unit_zone_in units zones)) so_far.earlier (get_or rows row []) row (Ok item) so_far.read.count few
          (by_line-is (unit_zone_in units zones) so_far.earlier (get_or rows row []) row (Ok item) so_far.read.count e));
      marks = marks-more (length units) unit_of so_far.earlier item limited (set limited item.0 true) so_far.marks unit refl;
      values = ap (λ (ss : List ℕ). set ss item.0 (bit_or before (2 ^ item.1))) so_far.values
          ∙ list_below-set (length units) item.0 (zone_set (length zones) so_far.earlier) (zone_set (length zones) (so_far.earlier ++ item ∷ [])) (bit_or before (2 ^ item.1)) 0 unit
          (zone_set-more (length zones) so_far.earlier item before (before-is units zones so_far.earlier limited sets item.0 before mark so_far.marks so_far.values unit known was))
          (λ k below other. zone_set-other (length zones) so_far.earlier item k other);
      fit = λ some. All-set (IsZoneSet (length zones)) sets item.0 (bit_or before (2 ^ item.1))
          (set_of_more (length zones) before item.1 mark (get_or sets item.0 0) (λ _. All-get_or (IsZoneSet (length zones)) sets item.0 0 (omega arith) (so_far.fit some)) was zone)
          (so_far.fit some);
    })

pub zone_sets-all : (units zones : List ℕ) (rows : List Row) (limited : List Bool) (sets : List ℕ) (row : ℕ) → AreZoneSetsSoFar units zones rows limited sets row → length rows ≤ row → zone_sets_of units zones rows ≡ Ok sets
unfolding zone_sets_of zone_set_rows
zone_sets-all units zones rows limited sets row so_far h =
    ap (λ (r : Result (List UnitZone) RowFault). go_on r (λ listed. Ok (zone_sets (length units) (length zones) listed))) (has_read-all (zone_set_reader units zones) rows so_far.earlier row so_far.read h)
    ∙ ap Ok (sym so_far.values)

pub length-zone_sets : (units zones : List ℕ) (rows : List Row) (limited : List Bool) (sets : List ℕ) (row : ℕ) → AreZoneSetsSoFar units zones rows limited sets row → length sets ≡ length units
length-zone_sets units zones rows limited sets row so_far = ap length so_far.values ∙ length-list_below (length units) (zone_set (length zones) so_far.earlier)
