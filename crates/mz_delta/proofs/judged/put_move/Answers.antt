use Rattle.std.proofs.Common.{◌≡◌, ◌^◌, ◌≤◌, ◌∙◌, arith, refl, rules, subst, sym}
use Rattle.std.specs.Prelude.{ℤ, unsigned_abs}
use mir.Syntax.{w128}
use Rattle.std.proofs.lemmas.Int.{to_z-of_z}
use mir.Val.{SFits}
use Rattle.mz_delta.proofs.JudgeLaws.{counted-difference}
use Rattle.mz_delta.proofs.judged.put_move.Goals as goal

-- an absolute value, of a number as the code has it
small_abs : (x : ℤ) (y : ℤ) → y ≡ x → unsigned_abs x ≤ 10 ^ 25 → unsigned_abs y ≤ 10 ^ 25
small_abs x y e small = subst (λ z. unsigned_abs z ≤ 10 ^ 25) (sym e) small

pub returns-clause-judged : goal.returns-clause-judged
returns-clause-judged c =
    let cost_fits : SFits w128 c.args.differences.cost = search rules in
    let boundary_fits : SFits w128 c.args.differences.boundary = search rules in
    let penalty_fits : SFits w128 c.args.differences.penalty = search rules in
    let change_fits : SFits w128 c.sum_of-judged.result = search rules in
    record {
      seat = refl;
      number = refl;
      unit = refl;
      old = refl;
      new = refl;
      allowed = c.requires.allowed;
      word = refl;
      small = record {
        cost = small_abs c.args.differences.cost _ (to_z-of_z w128 c.args.differences.cost cost_fits) (omega (arith, c.requires.growths.cost_small));
        boundary = small_abs c.args.differences.boundary _ (to_z-of_z w128 c.args.differences.boundary boundary_fits) (omega (arith, c.requires.growths.boundary_small));
        penalty = small_abs c.args.differences.penalty _ (to_z-of_z w128 c.args.differences.penalty penalty_fits) (omega (arith, c.requires.growths.penalty_small));
        change = small_abs c.sum_of-judged.result _ (to_z-of_z w128 c.sum_of-judged.result change_fits) c.sum_of-judged.ensures.small;
      };
      difference = λ zones legal agrees. counted-difference c.args.problem.now c.args.reading.now zones c.args.zone _ c.requires.valid c.requires.well_formed c.requires.allowed
          (record {
            unit = refl;
            cost = to_z-of_z w128 c.args.differences.cost cost_fits ∙ c.requires.growths.cost;
            boundary = to_z-of_z w128 c.args.differences.boundary boundary_fits ∙ c.requires.growths.boundary;
            penalty = to_z-of_z w128 c.args.differences.penalty penalty_fits ∙ c.requires.growths.penalty;
            change = to_z-of_z w128 c.sum_of-judged.result change_fits ∙ c.sum_of-judged.ensures.sum;
            totals = c.requires.totals;
          })
          legal agrees;
    }
