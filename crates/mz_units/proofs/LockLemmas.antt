-- The rows of locks, while they are read.
use Rattle.std.proofs.Common.{inl, inr, arith, ◌≡◌, ℕ, ◌+◌, ◌/◌, ◌^◌, ◌<◌, ◌≤◌, Bool, true, false, List, [], ◌∷◌, ◌++◌, length, get_or, set, bit_and, Result, Ok, Err, refl, ap, sym, ◌∙◌, subst}
use Rattle.std.specs.Int.{bit_at}
use Rattle.std.specs.List.{All}
use Rattle.std.proofs.Math.ListN.{replicate}
use Rattle.std.proofs.lemmas.Bool.{cases_eq, eq-eqb, eqb-true, ne_eqb}
use Rattle.std.proofs.lemmas.List.{get_or-set_other, get_or-set_same}
use Rattle.std.proofs.lemmas.List.Elements.{All-set}
use Rattle.std.proofs.lemmas.Nat.Bits.{shr_and_one}
use Rattle.mz_tables.specs.Table.{Row}
use Rattle.mz_tables.specs.declared.fault.RowFault.{RowFault}
use Rattle.mz_tables.specs.declared.fault.RowFault.TheVariants.{LockConflict, Repeated}
use Rattle.std.specs.Prelude.{unwrap_or}
use Rattle.mz_rows.specs.Keyed.{value_at}
use Rattle.mz_units.specs.Locks.{IsNarrowed, is_allowed, lock_rows, locked_sets, locked_sets_of, unless_outside, within_sets}
use Rattle.mz_rows.specs.Rows.{RowReader, go_on, items_of, line_behind, once}
use Rattle.mz_num.specs.ZoneSet.{IsZoneSet}
use Rattle.mz_units.specs.ZoneSets.{unit_zone_in}
use Rattle.mz_units.specs.ZoneSets.{UnitZone}
use Rattle.mz_num.proofs.PlaceLaws.{length-list_below}
use Rattle.mz_rows.proofs.KeyedLemmas.{AreMarks, marks-none, marks-at, marks-more, values-none, values-more}
use Rattle.mz_rows.proofs.RowLemmas.{HasRead, has_read-none, has_read-more, has_read-fault, has_read-all, once-fault, once-new, once-repeated, by_line, by_line-is}
use Rattle.mz_units.proofs.ZoneSetLemmas.{set-one, unit_of}

-- ---- locks within the zone sets

within-fault : (units allowed : List ℕ) (read : RowReader UnitZone) (earlier : List UnitZone) (row : Row) (fault : RowFault) → read earlier row ≡ Err fault → within_sets units allowed read earlier row ≡ Err fault
within-fault units allowed read earlier row fault e = ap (λ (r : Result UnitZone RowFault). go_on r (λ lock. unless_outside (is_allowed allowed lock) (line_behind earlier) (get_or units lock.0 0) lock)) e

within_as : (units allowed : List ℕ) (read : RowReader UnitZone) (earlier : List UnitZone) (row : Row) (lock : UnitZone) (b : Bool) → read earlier row ≡ Ok lock → is_allowed allowed lock ≡ b → within_sets units allowed read earlier row ≡ unless_outside b (line_behind earlier) (get_or units lock.0 0) lock
within_as units allowed read earlier row lock b e inside =
    ap (λ (r : Result UnitZone RowFault). go_on r (λ lock. unless_outside (is_allowed allowed lock) (line_behind earlier) (get_or units lock.0 0) lock)) e
    ∙ ap (λ b. unless_outside b (line_behind earlier) (get_or units lock.0 0) lock) inside

-- ---- the rows of the file

abbrev set_of : UnitZone → ℕ
set_of lock = 2 ^ lock.1

abbrev once_reader : List ℕ → List ℕ → RowReader UnitZone
once_reader units zones = once unit_of (by_line (unit_zone_in units zones))

abbrev pub lock_reader : List ℕ → List ℕ → List ℕ → RowReader UnitZone
lock_reader units zones allowed = within_sets units allowed (once unit_of (by_line (unit_zone_in units zones)))

-- what the rows before this one gave
pub record AreLocksSoFar (units zones allowed : List ℕ) (rows : List Row) (locked : List Bool) (sets : List ℕ) (row : ℕ) : Type 0 where
  pub earlier : List UnitZone
  pub read : HasRead (lock_reader units zones allowed) rows earlier row
  pub marks : AreMarks (length allowed) unit_of earlier locked
  pub values : sets ≡ locked_sets allowed earlier
  pub narrowed : (unit : ℕ) → unit < length allowed → IsNarrowed (length zones) (get_or allowed unit 0) (get_or sets unit 0)
  pub fit : All (IsZoneSet (length zones)) allowed → All (IsZoneSet (length zones)) sets

pub locks-none : (units zones allowed : List ℕ) (rows : List Row) (locked : List Bool) (sets : List ℕ) (n : ℕ) → n ≡ length allowed → locked ≡ replicate n false → sets ≡ allowed → AreLocksSoFar units zones allowed rows locked sets 0
locks-none units zones allowed rows locked sets n size no_marks same = record {
  earlier = [];
  read = has_read-none (lock_reader units zones allowed) rows;
  marks = marks-none (length allowed) unit_of locked (no_marks ∙ ap (λ k. replicate k false) size);
  values = values-none (length allowed) unit_of set_of (λ unit. get_or allowed unit 0) sets (ap length same) (λ k h. ap (λ (ss : List ℕ). get_or ss k 0) same);
  narrowed = λ unit h. inl (ap (λ (ss : List ℕ). get_or ss unit 0) same);
  fit = λ all. subst (All (IsZoneSet (length zones))) (sym same) all;
}

whole-fault : (units zones allowed : List ℕ) (rows : List Row) (fault : RowFault) → items_of (lock_reader units zones allowed) rows ≡ Err fault → locked_sets_of units zones allowed rows ≡ Err fault
unfolding locked_sets_of lock_rows
whole-fault units zones allowed rows fault e = ap (λ (r : Result (List UnitZone) RowFault). go_on r (λ locks. Ok (locked_sets allowed locks))) e

pub locks-fault : (units zones allowed : List ℕ) (rows : List Row) (locked : List Bool) (sets : List ℕ) (row : ℕ) (fault : RowFault) → AreLocksSoFar units zones allowed rows locked sets row → row < length rows → unit_zone_in units zones (row + 2) (get_or rows row []) ≡ Err fault → locked_sets_of units zones allowed rows ≡ Err fault
locks-fault units zones allowed rows locked sets row fault so_far h e =
    whole-fault units zones allowed rows fault (has_read-fault (lock_reader units zones allowed) rows so_far.earlier row fault so_far.read h
    (within-fault units allowed (once_reader units zones) so_far.earlier (get_or rows row []) fault
    (once-fault unit_of (by_line (unit_zone_in units zones)) so_far.earlier (get_or rows row []) fault
    (by_line-is (unit_zone_in units zones) so_far.earlier (get_or rows row []) row (Err fault) so_far.read.count e))))

pub locks-repeated : (units zones allowed : List ℕ) (rows : List Row) (locked : List Bool) (sets : List ℕ) (row : ℕ) (lock : UnitZone) (d : Bool) → AreLocksSoFar units zones allowed rows locked sets row → row < length rows → unit_zone_in units zones (row + 2) (get_or rows row []) ≡ Ok lock → lock.0 < length allowed → true ≡ get_or locked lock.0 d → locked_sets_of units zones allowed rows ≡ Err (Repeated (row + 2))
locks-repeated units zones allowed rows locked sets row lock d so_far h e unit at =
    whole-fault units zones allowed rows (Repeated (row + 2)) (has_read-fault (lock_reader units zones allowed) rows so_far.earlier row (Repeated (row + 2)) so_far.read h
    (within-fault units allowed (once_reader units zones) so_far.earlier (get_or rows row []) (Repeated (row + 2))
    (once-repeated unit_of (by_line (unit_zone_in units zones)) so_far.earlier (get_or rows row []) row lock so_far.read.count
    (by_line-is (unit_zone_in units zones) so_far.earlier (get_or rows row []) row (Ok lock) so_far.read.count e)
    (marks-at (length allowed) unit_of so_far.earlier locked lock.0 d true so_far.marks unit at))))

-- a lock of a unit that has none
new_lock : (units zones allowed : List ℕ) (rows : List Row) (locked : List Bool) (sets : List ℕ) (row : ℕ) (lock : UnitZone) (d : Bool) → (so_far : AreLocksSoFar units zones allowed rows locked sets row) → unit_zone_in units zones (row + 2) (get_or rows row []) ≡ Ok lock → lock.0 < length allowed → false ≡ get_or locked lock.0 d → once_reader units zones so_far.earlier (get_or rows row []) ≡ Ok lock
new_lock units zones allowed rows locked sets row lock d so_far e unit at =
    once-new unit_of (by_line (unit_zone_in units zones)) so_far.earlier (get_or rows row []) lock
    (by_line-is (unit_zone_in units zones) so_far.earlier (get_or rows row []) row (Ok lock) so_far.read.count e)
    (marks-at (length allowed) unit_of so_far.earlier locked lock.0 d false so_far.marks unit at)

pub locks-conflict : (units zones allowed : List ℕ) (rows : List Row) (locked : List Bool) (sets : List ℕ) (row : ℕ) (lock : UnitZone) (d : Bool) (id : ℕ) → AreLocksSoFar units zones allowed rows locked sets row → row < length rows → unit_zone_in units zones (row + 2) (get_or rows row []) ≡ Ok lock → lock.0 < length allowed → false ≡ get_or locked lock.0 d → is_allowed allowed lock ≡ false → get_or units lock.0 0 ≡ id → locked_sets_of units zones allowed rows ≡ Err (LockConflict (row + 2) id)
locks-conflict units zones allowed rows locked sets row lock d id so_far h e unit at outside is =
    whole-fault units zones allowed rows (LockConflict (row + 2) id) (has_read-fault (lock_reader units zones allowed) rows so_far.earlier row (LockConflict (row + 2) id) so_far.read h
    (within_as units allowed (once_reader units zones) so_far.earlier (get_or rows row []) lock false (new_lock units zones allowed rows locked sets row lock d so_far e unit at) outside
    ∙ ap (λ n. Err (LockConflict (n + 2) (get_or units lock.0 0))) so_far.read.count
    ∙ ap (λ n. Err (LockConflict (row + 2) n)) is))

narrowed-more : (zones : ℕ) (allowed sets : List ℕ) (lock : UnitZone) (one : ℕ) → length sets ≡ length allowed → ((unit : ℕ) → unit < length allowed → IsNarrowed zones (get_or allowed unit 0) (get_or sets unit 0)) → lock.0 < length allowed → lock.1 < zones → is_allowed allowed lock ≡ true → one ≡ 2 ^ lock.1 → (unit : ℕ) → unit < length allowed → IsNarrowed zones (get_or allowed unit 0) (get_or (set sets lock.0 one) unit 0)
narrowed-more zones allowed sets lock one size before unit zone inside bit u h =
    elim (cases_eq u lock.0) [
      | inl e ↦ inr (lock.1, zone, ap (λ k. bit_at (get_or allowed k 0) lock.1) e ∙ eqb-true (bit_at (get_or allowed lock.0 0) lock.1) 1 inside, ap (λ k. get_or (set sets lock.0 one) k 0) e ∙ get_or-set_same sets lock.0 one 0 (omega arith) ∙ bit)
      | inr other ↦ subst (IsNarrowed zones (get_or allowed u 0)) (sym (get_or-set_other sets lock.0 u one 0 other)) (before u h)
    ]

pub locks-more : (units zones allowed : List ℕ) (rows : List Row) (locked : List Bool) (sets : List ℕ) (row : ℕ) (lock : UnitZone) (d : Bool) (one : ℕ) → AreLocksSoFar units zones allowed rows locked sets row → row < length rows → unit_zone_in units zones (row + 2) (get_or rows row []) ≡ Ok lock → lock.0 < length allowed → lock.1 < length zones → false ≡ get_or locked lock.0 d → is_allowed allowed lock ≡ true → one ≡ 2 ^ lock.1 → AreLocksSoFar units zones allowed rows (set locked lock.0 true) (set sets lock.0 one) (row + 1)
locks-more units zones allowed rows locked sets row lock d one so_far h e unit zone at inside bit =
    record {
      earlier = so_far.earlier ++ lock ∷ [];
      read = has_read-more (lock_reader units zones allowed) rows so_far.earlier row lock so_far.read h
          (within_as units allowed (once_reader units zones) so_far.earlier (get_or rows row []) lock true (new_lock units zones allowed rows locked sets row lock d so_far e unit at) inside);
      marks = marks-more (length allowed) unit_of so_far.earlier lock locked (set locked lock.0 true) so_far.marks unit refl;
      values = values-more (length allowed) unit_of set_of (λ unit. get_or allowed unit 0) so_far.earlier lock sets (set sets lock.0 one) so_far.values unit
          (marks-at (length allowed) unit_of so_far.earlier locked lock.0 d false so_far.marks unit at) (ap (set sets lock.0) bit);
      narrowed = narrowed-more (length zones) allowed sets lock one (ap length so_far.values ∙ length-list_below (length allowed) (λ unit. unwrap_or (value_at unit_of set_of so_far.earlier unit) (get_or allowed unit 0))) so_far.narrowed unit zone inside bit;
      fit = λ all. All-set (IsZoneSet (length zones)) sets lock.0 one (subst (IsZoneSet (length zones)) (sym bit) (set-one (length zones) lock.1 zone)) (so_far.fit all);
    }

pub locks-all : (units zones allowed : List ℕ) (rows : List Row) (locked : List Bool) (sets : List ℕ) (row : ℕ) → AreLocksSoFar units zones allowed rows locked sets row → length rows ≤ row → locked_sets_of units zones allowed rows ≡ Ok sets
unfolding locked_sets_of lock_rows
locks-all units zones allowed rows locked sets row so_far h =
    ap (λ (r : Result (List UnitZone) RowFault). go_on r (λ locks. Ok (locked_sets allowed locks))) (has_read-all (lock_reader units zones allowed) rows so_far.earlier row so_far.read h)
    ∙ ap Ok (sym so_far.values)

-- ---- the test of a bit

pub allowed-is : (allowed : List ℕ) (lock : UnitZone) → bit_and (get_or allowed lock.0 0 / 2 ^ lock.1) 1 ≡ 1 → is_allowed allowed lock ≡ true
allowed-is allowed lock one = eq-eqb (bit_at (get_or allowed lock.0 0) lock.1) 1 (sym (shr_and_one (get_or allowed lock.0 0) lock.1) ∙ one)

pub outside-is : (allowed : List ℕ) (lock : UnitZone) → (bit_and (get_or allowed lock.0 0 / 2 ^ lock.1) 1 ≡ 1 → ⊥) → is_allowed allowed lock ≡ false
outside-is allowed lock not_one = ne_eqb (bit_at (get_or allowed lock.0 0) lock.1) 1 (λ one. not_one (shr_and_one (get_or allowed lock.0 0) lock.1 ∙ one))
