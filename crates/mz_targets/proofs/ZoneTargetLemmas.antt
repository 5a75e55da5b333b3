-- The rows of zone targets, while they are read.
use Rattle.std.proofs.Common.{◌≡◌, ℕ, ◌+◌, ◌*◌, ◌<◌, ◌≤◌, Bool, true, false, List, [], ◌∷◌, ◌++◌, length, get_or, set, map, Result, Ok, Err, refl, ap, sym, ◌∙◌, subst, arith}
use Rattle.std.proofs.Math.ListN.{replicate}
use Rattle.std.proofs.lemmas.List.{length_push}
use Rattle.std.proofs.lemmas.List.Elements.{All-push}
use Rattle.std.proofs.lemmas.Nat.{mul-add-lt}
use Rattle.mz_tables.specs.Ids.{has_id}
use Rattle.mz_tables.specs.Table.{Row}
use Rattle.mz_tables.specs.declared.fault.RowFault.{RowFault}
use Rattle.mz_tables.specs.declared.fault.RowFault.TheVariants.{TooMany, Repeated}
use Rattle.mz_rows.specs.Rows.{RowReader, items_of}
use Rattle.mz_num.proofs.PlaceLaws.{length-list_below}
use Rattle.mz_rows.proofs.KeyedLemmas.{AreMarks, marks-none, marks-at, marks-more}
use Rattle.mz_rows.proofs.RowLemmas.{HasRead, has_read-none, has_read-all, listed, listed-past, listed-fault, listed-repeated, listed-more}
use Rattle.mz_targets.specs.ZoneTargets.{AreZoneTargets, IsZoneTarget, target_place, zone_target_in, zone_targets_of}
use Rattle.mz_targets.specs.declared.zone_targets.ZoneTarget.{ZoneTarget}

abbrev pub target_reader : List ℕ → List ℕ → RowReader ZoneTarget
target_reader zones features = listed 90000 (target_place (length features)) (zone_target_in zones features)

-- what the rows before this one gave
pub record AreTargetsSoFar (zones features : List ℕ) (rows : List Row) (marks : List Bool) (targets : List ZoneTarget) (row : ℕ) : Type 0 where
  pub read : HasRead (target_reader zones features) rows targets row
  pub marked : AreMarks (length zones * length features) (target_place (length features)) targets marks
  pub fit : AreZoneTargets (length zones) (length features) targets

pub targets-none : (zones features : List ℕ) (rows : List Row) (marks : List Bool) (targets : List ZoneTarget) (n : ℕ) → n ≡ length zones * length features → marks ≡ replicate n false → targets ≡ [] → AreTargetsSoFar zones features rows marks targets 0
targets-none zones features rows marks targets n size no_marks none = subst (λ (ts : List ZoneTarget). AreTargetsSoFar zones features rows marks ts 0) (sym none) (record {
  read = has_read-none (target_reader zones features) rows;
  marked = marks-none (length zones * length features) (target_place (length features)) marks (no_marks ∙ ap (λ k. replicate k false) size);
  fit = record { few = omega arith; each = λ k d h. absurd (omega arith) };
})

whole : (zones features : List ℕ) (rows : List Row) (answer : Result (List ZoneTarget) RowFault) → items_of (target_reader zones features) rows ≡ answer → zone_targets_of zones features rows ≡ answer
unfolding zone_targets_of
whole zones features rows answer e = e

pub targets-too_many : (zones features : List ℕ) (rows : List Row) (marks : List Bool) (targets : List ZoneTarget) (row : ℕ) → AreTargetsSoFar zones features rows marks targets row → row < length rows → 90000 ≤ row → zone_targets_of zones features rows ≡ Err (TooMany (row + 2))
targets-too_many zones features rows marks targets row so_far h many =
    whole zones features rows (Err (TooMany (row + 2))) (listed-past 90000 (target_place (length features)) (zone_target_in zones features) rows targets row so_far.read h many)

pub targets-fault : (zones features : List ℕ) (rows : List Row) (marks : List Bool) (targets : List ZoneTarget) (row : ℕ) (fault : RowFault) → AreTargetsSoFar zones features rows marks targets row → row < length rows → row < 90000 → zone_target_in zones features (row + 2) (get_or rows row []) ≡ Err fault → zone_targets_of zones features rows ≡ Err fault
targets-fault zones features rows marks targets row fault so_far h few e =
    whole zones features rows (Err fault) (listed-fault 90000 (target_place (length features)) (zone_target_in zones features) rows targets row fault so_far.read h few e)

-- a pair's place is in range
pub target_place-lt : (zones features : ℕ) (row : ZoneTarget) → IsZoneTarget zones features row → target_place features row < zones * features
target_place-lt zones features row is = omega (arith, mul-add-lt row.zone features row.feature zones is.zone_known is.feature_known)

known-is : (zones features : List ℕ) (marks : List Bool) (targets : List ZoneTarget) (item : ZoneTarget) (place : ℕ) (d mark : Bool) → AreMarks (length zones * length features) (target_place (length features)) targets marks → IsZoneTarget (length zones) (length features) item → place ≡ target_place (length features) item → mark ≡ get_or marks place d → has_id (map (target_place (length features)) targets) (target_place (length features) item) ≡ mark
known-is zones features marks targets item place d mark marked is at read =
    marks-at (length zones * length features) (target_place (length features)) targets marks (target_place (length features) item) d mark marked (target_place-lt (length zones) (length features) item is) (read ∙ ap (λ p. get_or marks p d) at)

pub targets-repeated : (zones features : List ℕ) (rows : List Row) (marks : List Bool) (targets : List ZoneTarget) (row : ℕ) (item : ZoneTarget) (place : ℕ) (d : Bool) → AreTargetsSoFar zones features rows marks targets row → row < length rows → row < 90000 → zone_target_in zones features (row + 2) (get_or rows row []) ≡ Ok item → IsZoneTarget (length zones) (length features) item → place ≡ target_place (length features) item → true ≡ get_or marks place d → zone_targets_of zones features rows ≡ Err (Repeated (row + 2))
targets-repeated zones features rows marks targets row item place d so_far h few e is at read =
    whole zones features rows (Err (Repeated (row + 2))) (listed-repeated 90000 (target_place (length features)) (zone_target_in zones features) rows targets row item (map (target_place (length features)) targets) so_far.read h few e refl
    (known-is zones features marks targets item place d true so_far.marked is at read))

pub targets-more : (zones features : List ℕ) (rows : List Row) (marks : List Bool) (targets : List ZoneTarget) (row : ℕ) (item : ZoneTarget) (place : ℕ) (d : Bool) (targets' : List ZoneTarget) → AreTargetsSoFar zones features rows marks targets row → row < length rows → row < 90000 → zone_target_in zones features (row + 2) (get_or rows row []) ≡ Ok item → IsZoneTarget (length zones) (length features) item → place ≡ target_place (length features) item → false ≡ get_or marks place d → targets' ≡ targets ++ item ∷ [] → AreTargetsSoFar zones features rows (set marks place true) targets' (row + 1)
targets-more zones features rows marks targets row item place d targets' so_far h few e is at read more =
    subst (λ (ts : List ZoneTarget). AreTargetsSoFar zones features rows (set marks place true) ts (row + 1)) (sym more) (record {
      read = listed-more 90000 (target_place (length features)) (zone_target_in zones features) rows targets row item (map (target_place (length features)) targets) so_far.read h few e refl
          (known-is zones features marks targets item place d false so_far.marked is at read);
      marked = marks-more (length zones * length features) (target_place (length features)) targets item marks (set marks place true) so_far.marked (target_place-lt (length zones) (length features) item is) (ap (λ p. set marks p true) at);
      fit = record {
        few = omega (arith, so_far.read.count, length_push targets item);
        each = All-push (IsZoneTarget (length zones) (length features)) targets item so_far.fit.each is;
      };
    })

pub targets-all : (zones features : List ℕ) (rows : List Row) (marks : List Bool) (targets : List ZoneTarget) (row : ℕ) → AreTargetsSoFar zones features rows marks targets row → length rows ≤ row → zone_targets_of zones features rows ≡ Ok targets
targets-all zones features rows marks targets row so_far h = whole zones features rows (Ok targets) (has_read-all (target_reader zones features) rows targets row so_far.read h)

-- the pair of a row has its mark
pub mark_of-lt : (zones features : List ℕ) (rows : List Row) (marks : List Bool) (targets : List ZoneTarget) (row : ℕ) (item : ZoneTarget) (width : ℕ) → AreTargetsSoFar zones features rows marks targets row → IsZoneTarget (length zones) (length features) item → width ≡ length features → item.zone * width + item.feature < length marks
mark_of-lt zones features rows marks targets row item width so_far is e =
    let size : length marks ≡ length zones * length features = ap length so_far.marked ∙ length-list_below (length zones * length features) (λ k. has_id (map (target_place (length features)) targets) k) in
    subst (λ n. item.zone * n + item.feature < length marks) (sym e) (subst (λ n. item.zone * length features + item.feature < n) (sym size) (target_place-lt (length zones) (length features) item is))
