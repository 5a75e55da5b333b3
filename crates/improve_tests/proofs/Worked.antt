-- The definition of improvement at the plans that are worked out by hand.
use Rattle.std.proofs.Common.{◌≡◌, ℕ, List, [], ◌∷◌, refl, subst, sym}
use Rattle.mz_num.specs.Round.{round}
use Rattle.mz_model.specs.declared.parts.Parts.{Parts}
use Rattle.mz_model.specs.Amounts.{holders_of, total_of}
use Rattle.mz_model.specs.Boundary.{edge_term_of, greatest_rate}
use Rattle.mz_model.specs.Scores.{boundary_of_plan, cost_of_plan, outer_term, pair_term, penalty_of_plan, penalty_term_of}
use Rattle.mz_model.specs.Targets.{amount_for, gain_from, gain_of, held_of, shortfall_of}
use Rattle.mz_model.specs.Valid.{IsValid}
use Rattle.mz_model.specs.Zones.{allowed_zones}
use Rattle.mz_improve.specs.Improved.{after_pass, best_zone, changes_of_pass, score_with}
use Rattle.mz_examples.specs.Examples.{alike_zones, three_units}
use Rattle.mz_examples.proofs.Checked.{valid_from}

-- the first pass over three units changes two of them, the second pass none
pub first_pass : after_pass three_units (0 ∷ 0 ∷ 0 ∷ []) ≡ 1 ∷ 1 ∷ 0 ∷ []
unfolding three_units after_pass best_zone score_with allowed_zones cost_of_plan boundary_of_plan pair_term outer_term edge_term_of penalty_of_plan penalty_term_of shortfall_of held_of gain_of gain_from amount_for round
first_pass = refl

pub first_changes : changes_of_pass three_units (0 ∷ 0 ∷ 0 ∷ []) ≡ 2
unfolding three_units changes_of_pass best_zone score_with allowed_zones cost_of_plan boundary_of_plan pair_term outer_term edge_term_of penalty_of_plan penalty_term_of shortfall_of held_of gain_of gain_from amount_for round
first_changes = refl

pub second_changes : changes_of_pass three_units (1 ∷ 1 ∷ 0 ∷ []) ≡ 0
unfolding three_units changes_of_pass best_zone score_with allowed_zones cost_of_plan boundary_of_plan pair_term outer_term edge_term_of penalty_of_plan penalty_term_of shortfall_of held_of gain_of gain_from amount_for round
second_changes = refl

-- of two zones that count alike the present one is kept, and else the lesser one taken
pub present_kept : best_zone alike_zones (2 ∷ 2 ∷ 0 ∷ []) 0 ≡ 2
unfolding alike_zones best_zone score_with allowed_zones cost_of_plan boundary_of_plan pair_term outer_term edge_term_of penalty_of_plan penalty_term_of shortfall_of held_of gain_of gain_from amount_for round
present_kept = refl

pub lesser_taken : best_zone alike_zones (0 ∷ 0 ∷ 0 ∷ []) 0 ≡ 1
unfolding alike_zones best_zone score_with allowed_zones cost_of_plan boundary_of_plan pair_term outer_term edge_term_of penalty_of_plan penalty_term_of shortfall_of held_of gain_of gain_from amount_for round
lesser_taken = refl

-- three units that are all locked
abbrev pub locked_units : Parts
locked_units = record three_units { allowed = 1 ∷ 1 ∷ 2 ∷ [] }

pub locked_units-valid : IsValid locked_units
unfolding three_units total_of holders_of greatest_rate gain_of gain_from amount_for round
locked_units-valid = valid_from locked_units refl refl refl

pub no_changes : changes_of_pass locked_units (0 ∷ 0 ∷ 1 ∷ []) ≡ 0
unfolding three_units changes_of_pass best_zone score_with allowed_zones cost_of_plan boundary_of_plan pair_term outer_term edge_term_of penalty_of_plan penalty_term_of shortfall_of held_of gain_of gain_from amount_for round
no_changes = refl

pub locked-valid : (parts : Parts) (allowed : List ℕ) → parts ≡ three_units → allowed ≡ 1 ∷ 1 ∷ 2 ∷ [] → IsValid (record parts { allowed = allowed })
locked-valid parts allowed are locked = subst (λ (p : Parts). IsValid (record p { allowed = allowed })) (sym are) (subst (λ (sets : List ℕ). IsValid (record three_units { allowed = sets })) (sym locked) locked_units-valid)
