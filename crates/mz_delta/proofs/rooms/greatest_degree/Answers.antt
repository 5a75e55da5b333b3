use Rattle.std.proofs.Common.{◌≡◌, ◌∙◌, ap, arith, length}
use Rattle.mz_model.specs.Boundary.{neighbours_of}
use Rattle.mz_model.specs.Parts.{unit_count}
use Rattle.mz_num.specs.Places.{greatest_below}
use Rattle.mz_delta.specs.Rooms.{greatest_degree}
use Rattle.mz_delta.proofs.rooms.greatest_degree.Goals as goal

pub returns : goal.returns
unfolding greatest_degree
returns c =
    let all : c.loop-unit.unit ≡ unit_count c.args.problem.now = omega (arith, c.units-unit-end.ensures.count) in
    c.loop-unit.invariant ∙ ap (λ n. greatest_below n (λ unit. length (neighbours_of c.args.problem.now unit))) all
