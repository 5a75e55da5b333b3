-- The small problems are problems, and their plans score what is worked out by hand.
use Rattle.std.proofs.Common.{◌≡◌, ℕ, List, [], ◌∷◌, refl}
use Rattle.mz_num.specs.Round.{round}
use Rattle.mz_model.specs.declared.parts.Parts.{Parts}
use Rattle.mz_model.specs.declared.parts.Target.{Target}
use Rattle.mz_model.specs.declared.score.Score.{Score}
use Rattle.mz_model.specs.Amounts.{holders_of, total_of}
use Rattle.mz_model.specs.Boundary.{as_neighbour, edge_term_of, greatest_rate, neighbours_of}
use Rattle.mz_examples.specs.Examples.{alike_zones, lone_unit, no_units, three_units, three_zones, unheld_features}
use Rattle.mz_model.specs.Scores.{boundary_of_plan, cost_of_plan, outer_term, pair_term, penalty_of_plan, penalty_term_of, score_of_plan}
use Rattle.mz_model.specs.Targets.{amount_for, gain_from, gain_of, held_of, is_touched, shortfall_of, touched_rows}
use Rattle.mz_model.specs.Valid.{IsValid}
use Rattle.mz_model.specs.Zones.{allowed_zones, free_units, is_free, step_of}
use Rattle.mz_examples.proofs.Checked.{valid_from}

pub three_units-valid : IsValid three_units
unfolding three_units total_of holders_of greatest_rate gain_of gain_from amount_for round
three_units-valid = valid_from three_units refl refl refl

pub three_zones-valid : IsValid three_zones
unfolding three_zones total_of holders_of greatest_rate gain_of gain_from amount_for round
three_zones-valid = valid_from three_zones refl refl refl

pub alike_zones-valid : IsValid alike_zones
unfolding alike_zones total_of holders_of greatest_rate gain_of gain_from amount_for round
alike_zones-valid = valid_from alike_zones refl refl refl

pub unheld_features-valid : IsValid unheld_features
unfolding unheld_features three_units total_of holders_of greatest_rate gain_of gain_from amount_for round
unheld_features-valid = valid_from unheld_features refl refl refl

pub no_units-valid : IsValid no_units
unfolding no_units total_of holders_of greatest_rate gain_of gain_from amount_for round
no_units-valid = valid_from no_units refl refl refl

pub lone_unit-valid : IsValid lone_unit
unfolding lone_unit total_of holders_of greatest_rate gain_of gain_from amount_for round
lone_unit-valid = valid_from lone_unit refl refl refl

abbrev score : ℕ → ℕ → ℕ → ℕ → Score
score cost boundary penalty total = record { cost = cost; boundary = boundary; penalty = penalty; total = total }

-- all units in the available zone
pub start : score_of_plan three_units (0 ∷ 0 ∷ 0 ∷ []) ≡ score 0 0 600000 600000
unfolding three_units cost_of_plan boundary_of_plan pair_term outer_term edge_term_of penalty_of_plan penalty_term_of shortfall_of held_of gain_of gain_from amount_for round
start = refl

pub first_moved : score_of_plan three_units (1 ∷ 0 ∷ 0 ∷ []) ≡ score 100000 70000 300000 470000
unfolding three_units cost_of_plan boundary_of_plan pair_term outer_term edge_term_of penalty_of_plan penalty_term_of shortfall_of held_of gain_of gain_from amount_for round
first_moved = refl

pub last_moved : score_of_plan three_units (0 ∷ 0 ∷ 1 ∷ []) ≡ score 300000 70000 0 370000
unfolding three_units cost_of_plan boundary_of_plan pair_term outer_term edge_term_of penalty_of_plan penalty_term_of shortfall_of held_of gain_of gain_from amount_for round
last_moved = refl

pub three_zones_mixed : score_of_plan three_zones (2 ∷ 1 ∷ 0 ∷ []) ≡ score 300000 140000 375000 815000
unfolding three_zones cost_of_plan boundary_of_plan pair_term outer_term edge_term_of penalty_of_plan penalty_term_of shortfall_of held_of gain_of gain_from amount_for round
three_zones_mixed = refl

pub unheld_missed : score_of_plan unheld_features (0 ∷ 0 ∷ 1 ∷ []) ≡ score 300000 70000 30000 400000
unfolding unheld_features three_units cost_of_plan boundary_of_plan pair_term outer_term edge_term_of penalty_of_plan penalty_term_of shortfall_of held_of gain_of gain_from amount_for round
unheld_missed = refl

pub no_units_score : score_of_plan no_units [] ≡ score 0 0 0 0
unfolding no_units cost_of_plan boundary_of_plan penalty_of_plan
no_units_score = refl

-- each unit may have both zones; from the second one on comes the first again
pub all_free : free_units three_units ≡ 0 ∷ 1 ∷ 2 ∷ []
unfolding three_units free_units is_free allowed_zones
all_free = refl

pub round_again : step_of three_units 0 1 1 ≡ 0
unfolding three_units step_of allowed_zones
round_again = refl

-- the middle unit has both others as neighbours
pub middle : neighbours_of three_units 1 ≡ as_neighbour 0 50000 ∷ as_neighbour 2 70000 ∷ []
unfolding three_units neighbours_of
middle = refl

-- of three features only the one that is held is touched
pub one_touched : touched_rows unheld_features 1 ≡ 0 ∷ []
unfolding unheld_features three_units touched_rows is_touched gain_of gain_from amount_for round
one_touched = refl

-- parts whose lists are those of a problem are that problem
pub same_parts : (parts : Parts) (unit_ids zone_ids feature_ids : List ℕ) (names : List (List ℕ)) (allowed costs rates : List ℕ) (edges : List (ℕ × ℕ × ℕ)) (outer : List ℕ) (targets : List Target) (amounts : List (ℕ × ℕ × ℕ)) (fractions : List ℕ)
    → unit_ids ≡ parts.unit_ids → zone_ids ≡ parts.zone_ids → feature_ids ≡ parts.feature_ids → names ≡ parts.names → allowed ≡ parts.allowed → costs ≡ parts.costs → rates ≡ parts.rates → edges ≡ parts.edges → outer ≡ parts.outer → targets ≡ parts.targets → amounts ≡ parts.amounts → fractions ≡ parts.fractions
    → ◌≡◌ {A = Parts} (record { unit_ids = unit_ids; zone_ids = zone_ids; feature_ids = feature_ids; names = names; available = parts.available; allowed = allowed; costs = costs; rates = rates; edges = edges; outer = outer; targets = targets; amounts = amounts; fractions = fractions }) parts
same_parts parts unit_ids zone_ids feature_ids names allowed costs rates edges outer targets amounts fractions a b c d e f g h i j k l =
    λ t. record { unit_ids = a t; zone_ids = b t; feature_ids = c t; names = d t; available = parts.available; allowed = e t; costs = f t; rates = g t; edges = h t; outer = i t; targets = j t; amounts = k t; fractions = l t }
