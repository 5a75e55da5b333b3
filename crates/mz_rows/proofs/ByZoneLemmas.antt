-- The rows of a number for each pair of a zone and another thing, while they are read.
use Rattle.std.proofs.Common.{◌≡◌, ℕ, ◌+◌, ◌*◌, ◌<◌, ◌≤◌, Bool, true, false, List, [], ◌∷◌, ◌++◌, length, get_or, set, map, Result, Ok, Err, ap, sym, ◌∙◌, subst, arith}
use Rattle.std.specs.List.{All}
use Rattle.std.proofs.Math.ListN.{replicate}
use Rattle.std.proofs.lemmas.List.{length-replicate, get_or-replicate}
use Rattle.std.proofs.lemmas.List.Elements.{All-replicate, All-set}
use Rattle.std.proofs.lemmas.Nat.{mul-add-lt}
use Rattle.mz_num.specs.Limits.{greatest_quantity}
use Rattle.mz_tables.specs.Ids.{has_id}
use Rattle.mz_tables.specs.Table.{Row}
use Rattle.mz_tables.specs.declared.fault.RowFault.{RowFault}
use Rattle.mz_tables.specs.declared.fault.RowFault.TheVariants.{Repeated}
use Rattle.mz_rows.specs.Rows.{RowReader, go_on, items_of, once}
use Rattle.mz_rows.specs.ByZone.{by_zone_of, numbers_by_zone, zone_number_in, zone_number_place, zone_numbers}
use Rattle.mz_rows.proofs.KeyedLemmas.{AreMarks, marks-none, marks-at, marks-more, values-none, values-more}
use Rattle.mz_rows.proofs.RowLemmas.{HasRead, has_read-none, has_read-more, has_read-fault, has_read-all, once-fault, once-new, once-repeated, by_line, by_line-is}

abbrev number_of : (ℕ × ℕ × ℕ) → ℕ
number_of row = row.2

abbrev pub zone_number_reader : List ℕ → List ℕ → RowReader (ℕ × ℕ × ℕ)
zone_number_reader zones things = once (zone_number_place (length things)) (by_line (zone_number_in zones things))

-- what the rows before this one gave
pub record AreNumbersSoFar (zones things : List ℕ) (rows : List Row) (listed : List Bool) (numbers : List ℕ) (row : ℕ) : Type 0 where
  pub earlier : List (ℕ × ℕ × ℕ)
  pub read : HasRead (zone_number_reader zones things) rows earlier row
  pub marks : AreMarks (length zones * length things) (zone_number_place (length things)) earlier listed
  pub values : numbers ≡ numbers_by_zone (length zones) (length things) earlier
  pub small : All (λ number. number ≤ greatest_quantity) numbers

pub numbers-none : (zones things : List ℕ) (rows : List Row) (listed : List Bool) (numbers : List ℕ) (n : ℕ) → n ≡ length zones * length things → listed ≡ replicate n false → numbers ≡ replicate n 0 → AreNumbersSoFar zones things rows listed numbers 0
numbers-none zones things rows listed numbers n size no_marks zeros = record {
  earlier = [];
  read = has_read-none (zone_number_reader zones things) rows;
  marks = marks-none (length zones * length things) (zone_number_place (length things)) listed (no_marks ∙ ap (λ k. replicate k false) size);
  values = values-none (length zones * length things) (zone_number_place (length things)) number_of (λ place. 0) numbers (ap length zeros ∙ length-replicate n 0 ∙ size)
      (λ k h. ap (λ (ns : List ℕ). get_or ns k 0) zeros ∙ get_or-replicate n k 0 0 (omega arith));
  small = subst (All (λ number. number ≤ greatest_quantity)) (sym zeros) (All-replicate (λ number. number ≤ greatest_quantity) n 0 (omega arith));
}

whole-fault : (zones things : List ℕ) (rows : List Row) (fault : RowFault) → items_of (zone_number_reader zones things) rows ≡ Err fault → by_zone_of zones things rows ≡ Err fault
unfolding by_zone_of zone_numbers
whole-fault zones things rows fault e = ap (λ (r : Result (List (ℕ × ℕ × ℕ)) RowFault). go_on r (λ listed. Ok (numbers_by_zone (length zones) (length things) listed))) e

pub numbers-fault : (zones things : List ℕ) (rows : List Row) (listed : List Bool) (numbers : List ℕ) (row : ℕ) (fault : RowFault) → AreNumbersSoFar zones things rows listed numbers row → row < length rows → zone_number_in zones things (row + 2) (get_or rows row []) ≡ Err fault → by_zone_of zones things rows ≡ Err fault
numbers-fault zones things rows listed numbers row fault so_far h e =
    whole-fault zones things rows fault (has_read-fault (zone_number_reader zones things) rows so_far.earlier row fault so_far.read h
    (once-fault (zone_number_place (length things)) (by_line (zone_number_in zones things)) so_far.earlier (get_or rows row []) fault
    (by_line-is (zone_number_in zones things) so_far.earlier (get_or rows row []) row (Err fault) so_far.read.count e)))

-- a pair's place is in range
pub zone_number_place-lt : (zones things : ℕ) (row : (ℕ × ℕ × ℕ)) → row.0 < zones → row.1 < things → zone_number_place things row < zones * things
zone_number_place-lt zones things row h k = omega (arith, mul-add-lt row.0 things row.1 zones h k)

pub numbers-repeated : (zones things : List ℕ) (rows : List Row) (listed : List Bool) (numbers : List ℕ) (row : ℕ) (item : (ℕ × ℕ × ℕ)) (place : ℕ) (d : Bool) → AreNumbersSoFar zones things rows listed numbers row → row < length rows → zone_number_in zones things (row + 2) (get_or rows row []) ≡ Ok item → item.0 < length zones → item.1 < length things → place ≡ zone_number_place (length things) item → true ≡ get_or listed place d → by_zone_of zones things rows ≡ Err (Repeated (row + 2))
numbers-repeated zones things rows listed numbers row item place d so_far h e zone thing is at =
    whole-fault zones things rows (Repeated (row + 2)) (has_read-fault (zone_number_reader zones things) rows so_far.earlier row (Repeated (row + 2)) so_far.read h
    (once-repeated (zone_number_place (length things)) (by_line (zone_number_in zones things)) so_far.earlier (get_or rows row []) row item so_far.read.count
    (by_line-is (zone_number_in zones things) so_far.earlier (get_or rows row []) row (Ok item) so_far.read.count e)
    (marks-at (length zones * length things) (zone_number_place (length things)) so_far.earlier listed (zone_number_place (length things) item) d true so_far.marks (zone_number_place-lt (length zones) (length things) item zone thing) (at ∙ ap (λ p. get_or listed p d) is))))

pub numbers-more : (zones things : List ℕ) (rows : List Row) (listed : List Bool) (numbers : List ℕ) (row : ℕ) (item : (ℕ × ℕ × ℕ)) (place : ℕ) (d : Bool) → AreNumbersSoFar zones things rows listed numbers row → row < length rows → zone_number_in zones things (row + 2) (get_or rows row []) ≡ Ok item → item.0 < length zones → item.1 < length things → item.2 ≤ greatest_quantity → place ≡ zone_number_place (length things) item → false ≡ get_or listed place d → AreNumbersSoFar zones things rows (set listed place true) (set numbers place item.2) (row + 1)
numbers-more zones things rows listed numbers row item place d so_far h e zone thing small is at =
    let inside : zone_number_place (length things) item < length zones * length things = zone_number_place-lt (length zones) (length things) item zone thing in
    let new : has_id (map (zone_number_place (length things)) so_far.earlier) (zone_number_place (length things) item) ≡ false = marks-at (length zones * length things) (zone_number_place (length things)) so_far.earlier listed (zone_number_place (length things) item) d false so_far.marks inside (at ∙ ap (λ p. get_or listed p d) is) in
    record {
      earlier = so_far.earlier ++ item ∷ [];
      read = has_read-more (zone_number_reader zones things) rows so_far.earlier row item so_far.read h
          (once-new (zone_number_place (length things)) (by_line (zone_number_in zones things)) so_far.earlier (get_or rows row []) item
          (by_line-is (zone_number_in zones things) so_far.earlier (get_or rows row []) row (Ok item) so_far.read.count e) new);
      marks = marks-more (length zones * length things) (zone_number_place (length things)) so_far.earlier item listed (set listed place true) so_far.marks inside (ap (λ p. set listed p true) is);
      values = values-more (length zones * length things) (zone_number_place (length things)) number_of (λ place. 0) so_far.earlier item numbers (set numbers place item.2) so_far.values inside new (ap (λ p. set numbers p item.2) is);
      small = All-set (λ number. number ≤ greatest_quantity) numbers place item.2 small so_far.small;
    }

pub numbers-all : (zones things : List ℕ) (rows : List Row) (listed : List Bool) (numbers : List ℕ) (row : ℕ) → AreNumbersSoFar zones things rows listed numbers row → length rows ≤ row → by_zone_of zones things rows ≡ Ok numbers
unfolding by_zone_of zone_numbers
numbers-all zones things rows listed numbers row so_far h =
    ap (λ (r : Result (List (ℕ × ℕ × ℕ)) RowFault). go_on r (λ listed. Ok (numbers_by_zone (length zones) (length things) listed))) (has_read-all (zone_number_reader zones things) rows so_far.earlier row so_far.read h)
    ∙ ap Ok (sym so_far.values)
