-- Improvement of a plan, one unit at a time. Every score is that of a whole plan.
use Rattle.std.specs.Prelude.{◌≡◌, ℕ, zero, suc, ◌+◌, ◌<◌, ◌≤◌, ◌==◌, Bool, cond, IsTrue, List, ◌∷◌, nat_le, slice_index}
use Rattle.std.specs.List.{list_all, position_or_len, range_with_len}
use Rattle.mz_num.specs.Places.{sum_below}
use Rattle.mz_model.specs.declared.parts.Parts.{Parts}
use Rattle.mz_model.specs.Move.{moved_plan}
use Rattle.mz_model.specs.Parts.{unit_count}
use Rattle.mz_model.specs.Scores.{score_of_plan}
use Rattle.mz_model.specs.Zones.{allowed_zones, is_allowed}

-- the score of the plan with the unit in the zone
unfoldable pub score_with : Parts → List ℕ → ℕ → ℕ → ℕ
score_with parts plan unit zone = (score_of_plan parts (moved_plan plan unit zone)).total

-- the zones that a unit may be given, the one that wins a tie first: its present zone, then the allowed ones by place
abbrev pub candidate_zones : Parts → List ℕ → ℕ → List ℕ
candidate_zones parts plan unit = slice_index plan unit ∷ allowed_zones parts unit

-- none of these zones gives the plan a lower score
abbrev pub is_least : Parts → List ℕ → ℕ → ℕ → Bool
is_least parts plan unit zone =
    list_all (λ other. nat_le (score_with parts plan unit zone) (score_with parts plan unit other))
    (candidate_zones parts plan unit)

-- the zone of least score for a unit, all others as they are
unfoldable pub best_zone : Parts → List ℕ → ℕ → ℕ
best_zone parts plan unit =
    let zones = candidate_zones parts plan unit in
    slice_index zones (position_or_len (is_least parts plan unit) zones)

-- the plan once the unit got its best zone
abbrev pub unit_improved : Parts → List ℕ → ℕ → List ℕ
unit_improved parts plan unit = moved_plan plan unit (best_zone parts plan unit)

-- 1 where that is another zone than the unit has, else 0
abbrev pub change_at : Parts → List ℕ → ℕ → ℕ
change_at parts plan unit = cond (best_zone parts plan unit == slice_index plan unit) 0 1

-- the plan once each of the first n units, in order, got its best zone, the others as they then were
abbrev pub after_units : Parts → List ℕ → ℕ → List ℕ
after_units parts plan zero = plan
after_units parts plan (suc n) = unit_improved parts (after_units parts plan n) n

-- how many of the first n units got another zone
abbrev pub changes_below : Parts → List ℕ → ℕ → ℕ
changes_below parts plan n = sum_below n (λ unit. change_at parts (after_units parts plan unit) unit)

-- the plan after a pass over all units, and the number of changes that the pass made
unfoldable pub after_pass : Parts → List ℕ → List ℕ
after_pass parts plan = after_units parts plan (unit_count parts)

unfoldable pub changes_of_pass : Parts → List ℕ → ℕ
changes_of_pass parts plan = changes_below parts plan (unit_count parts)

-- the plan after so many passes
abbrev pub after_passes : Parts → List ℕ → ℕ → List ℕ
after_passes parts plan zero = plan
after_passes parts plan (suc n) = after_pass parts (after_passes parts plan n)

-- the improved plan is what the first pass leaves that changes nothing; the changes are those of all passes before it
pub record IsImproved (parts : Parts) (plan improved : List ℕ) (changes : ℕ) : Type 0 where
  pub passes : ℕ
  pub changing : (n : ℕ) → n < passes → 0 < changes_of_pass parts (after_passes parts plan n)
  pub ended : changes_of_pass parts (after_passes parts plan passes) ≡ 0
  pub plan_is : improved ≡ after_pass parts (after_passes parts plan passes)
  pub changes_are : changes ≡ sum_below passes (λ n. changes_of_pass parts (after_passes parts plan n))

-- the improved plan, as a function of the plan: each pass that changes something lowers the score by 1 or more, so a
-- pass that changes nothing comes within as many passes as the score is great
unfoldable pub improved_plan : Parts → List ℕ → List ℕ
improved_plan parts plan =
    after_passes parts plan
    (position_or_len (λ passes. changes_of_pass parts (after_passes parts plan passes) == 0)
    (range_with_len 0 ((score_of_plan parts plan).total + 1)))

-- no other allowed zone of one unit gives the plan a lower score
abbrev pub HasNoBetterMove : Parts → List ℕ → Type 0
HasNoBetterMove parts plan =
    (unit zone : ℕ) → unit < unit_count parts → IsTrue (is_allowed parts unit zone)
    → (score_of_plan parts plan).total ≤ (score_of_plan parts (moved_plan plan unit zone)).total
