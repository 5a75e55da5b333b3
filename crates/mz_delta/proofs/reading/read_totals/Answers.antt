use Rattle.std.proofs.Common.{◌<◌, length, subst, arith, List}
use Rattle.std.specs.Prelude.{slice_index}
use Rattle.mz_model.specs.declared.touch.Touch.{Touch}
use Rattle.mz_model.specs.Targets.{touches_of}
use Rattle.mz_model.proofs.TouchLaws.{length-touches_of}
use Rattle.mz_delta.specs.Rooms.{greatest_touched}
use Rattle.mz_delta.proofs.ReadLaws.{room-left, touched_totals-all}
use Rattle.mz_delta.proofs.RoomLaws.{touched-le}
use Rattle.mz_delta.proofs.reading.read_totals.Goals as goal

pub push-requires : goal.push-requires
push-requires c =
    room-left (λ (touch : Touch). slice_index c.args.totals.now touch.row) (touches_of c.args.problem.now c.args.unit) c.loop-touch.read.items c.loop-touch.touch-index (greatest_touched c.args.problem.now) c.loop-touch.read.room c.loop-touch.invariant.totals
    (subst (λ (ts : List Touch). c.loop-touch.touch-index < length ts) c.touches-touch-items.ensures.touches c.loop-touch-test.true)
    (omega (arith, length-touches_of c.args.problem.now c.args.unit, touched-le c.args.problem.now c.args.unit c.requires.unit)) (omega (arith, c.loop-touch.invariant.room, c.requires.fits))

pub returns-clause-totals : goal.returns-clause-totals
returns-clause-totals c = touched_totals-all c.args.problem.now c.args.unit c.loop-touch.touch-index c.args.totals.now c.loop-touch.read.items c.touches-touch-items.result.now c.touches-touch-items.ensures.touches c.loop-touch-test.false c.loop-touch.invariant.totals
