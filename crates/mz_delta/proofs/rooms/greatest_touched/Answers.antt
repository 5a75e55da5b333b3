use Rattle.std.proofs.Common.{◌≡◌, ◌∙◌, ap, arith, length}
use Rattle.mz_model.specs.Targets.{touched_rows}
use Rattle.mz_model.specs.Parts.{unit_count}
use Rattle.mz_num.specs.Places.{greatest_below}
use Rattle.mz_delta.specs.Rooms.{greatest_touched}
use Rattle.mz_delta.proofs.rooms.greatest_touched.Goals as goal

pub returns : goal.returns
unfolding greatest_touched
returns c =
    let all : c.loop-unit.unit ≡ unit_count c.args.problem.now = omega (arith, c.units-unit-end.ensures.count) in
    c.loop-unit.invariant ∙ ap (λ n. greatest_below n (λ unit. length (touched_rows c.args.problem.now unit))) all
