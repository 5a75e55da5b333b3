-- Laws of the target rows that a unit touches where it moves.
use Rattle.std.proofs.Common.{◌≡◌, ℕ, ◌+◌, ◌<◌, false, List, ap, arith}
use Rattle.std.specs.Prelude.{IsTrue, slice_index}
use Rattle.std.specs.List.{sum_by}
use Rattle.std.proofs.lemmas.Bool.{ltb-false}
use Rattle.mz_model.specs.declared.parts.Parts.{Parts}
use Rattle.mz_model.specs.Parts.{unit_count, zone_count, target_count}
use Rattle.mz_num.specs.Places.{greatest_below}
use Rattle.mz_model.specs.Plans.{IsLegalPlan}
use Rattle.mz_model.specs.Scores.{penalty_of_plan, penalty_term_of}
use Rattle.mz_model.specs.Targets.{gain_of, held_of, is_touched, touched_rows}
use Rattle.mz_model.specs.Valid.{IsValid}
use Rattle.mz_model.specs.Zones.{is_allowed}
use Rattle.mz_num.proofs.PlaceLaws.{at-le-greatest_below}
use Rattle.mz_model.proofs.ScoreLaws.{penalty_of_plan-is, plan-in_range}
use Rattle.mz_model.proofs.ZoneLaws.{is_allowed-in_range}
use Rattle.mz_model.specs.Move.{moved_plan}
use Rattle.mz_delta.proofs.MoveLaws.{held-moved}
use Rattle.mz_delta.proofs.SumLaws.{sum_below-where}

-- a unit gains nothing for a row that it doesn't touch
pub gain_of-not_touched : (parts : Parts) (unit row zone : ℕ) → zone < zone_count parts → is_touched parts unit row ≡ false → gain_of parts row unit zone ≡ 0
unfolding is_touched
gain_of-not_touched parts unit row zone h fails = omega (arith, at-le-greatest_below (zone_count parts) zone (gain_of parts row unit) h, ltb-false 0 (greatest_below (zone_count parts) (gain_of parts row unit)) fails)

-- what a plan holds for such a row stays
pub held-not_touched : (parts : Parts) (zones : List ℕ) (unit zone row : ℕ) → IsValid parts → IsLegalPlan parts zones → unit < unit_count parts → IsTrue (is_allowed parts unit zone) → is_touched parts unit row ≡ false → held_of parts (moved_plan zones unit zone) row ≡ held_of parts zones row
held-not_touched parts zones unit zone row valid legal h allowed fails =
    omega (
      arith,
      held-moved parts zones unit zone row legal h,
      gain_of-not_touched parts unit row (slice_index zones unit) (plan-in_range parts zones unit valid legal h) fails,
      gain_of-not_touched parts unit row zone (is_allowed-in_range parts unit zone valid h allowed) fails,
    )

-- the penalties of the rows that a unit touches
abbrev pub near_penalty : Parts → List ℕ → ℕ → ℕ
near_penalty parts zones row = penalty_term_of parts row (held_of parts zones row)

pub penalty-moved : (parts : Parts) (zones : List ℕ) (unit zone : ℕ) → IsValid parts → IsLegalPlan parts zones → unit < unit_count parts → IsTrue (is_allowed parts unit zone)
    → penalty_of_plan parts (moved_plan zones unit zone) + sum_by (near_penalty parts zones) (touched_rows parts unit) ≡ penalty_of_plan parts zones + sum_by (near_penalty parts (moved_plan zones unit zone)) (touched_rows parts unit)
unfolding touched_rows
penalty-moved parts zones unit zone valid legal h allowed =
    omega (
      arith,
      penalty_of_plan-is parts zones,
      penalty_of_plan-is parts (moved_plan zones unit zone),
      sum_below-where (target_count parts) (is_touched parts unit) (near_penalty parts (moved_plan zones unit zone)) (near_penalty parts zones)
          (λ row i fails. ap (penalty_term_of parts row) (held-not_touched parts zones unit zone row valid legal h allowed fails)),
    )
