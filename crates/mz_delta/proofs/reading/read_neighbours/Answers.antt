use Rattle.std.proofs.Common.{◌<◌, length, subst, arith, List}
use Rattle.std.specs.Prelude.{slice_index}
use Rattle.mz_model.specs.declared.neighbour.Neighbour.{Neighbour}
use Rattle.mz_model.specs.Boundary.{neighbours_of}
use Rattle.mz_delta.specs.Rooms.{greatest_degree}
use Rattle.mz_delta.proofs.ReadLaws.{room-left}
use Rattle.mz_delta.proofs.RoomLaws.{degree-le}
use Rattle.mz_delta.proofs.reading.read_neighbours.Goals as goal

pub push-requires : goal.push-requires
push-requires c =
    room-left (λ (neighbour : Neighbour). slice_index c.args.plan.now neighbour.unit) (neighbours_of c.args.problem.now c.args.unit) c.loop-neighbour.zones.items c.loop-neighbour.neighbour-index (greatest_degree c.args.problem.now) c.loop-neighbour.zones.room c.loop-neighbour.invariant.zones
    (subst (λ (ns : List Neighbour). c.loop-neighbour.neighbour-index < length ns) c.neighbours-neighbour-items.ensures.neighbours c.loop-neighbour-test.true) (degree-le c.args.problem.now c.args.unit c.requires.unit) (omega (arith, c.loop-neighbour.invariant.room, c.requires.fits))
