use Rattle.std.proofs.Common.{ℕ, arith, length-drop}
use Rattle.std.proofs.lemmas.List.{length-take}
use Rattle.mz_shelf.proofs.KnownBytesLemmas.{Appends-more, Appends-keeps}
use Rattle.mz_shelf.proofs.dir_shelf.write_whole.Goals as goal
use Rattle.mz_shelf.proofs.dir_shelf.write_whole.Goals.{in-Ok, in-Err}

pub loop-preserved : goal.loop-preserved
loop-preserved g c =
    let contents = g.W.Write.contents in
    elim c.match-write.branch [
      | in-Ok w ↦ record {
        within = omega (arith, length-take {A = ℕ}, length-drop {A = ℕ}, w.in-Ok.ensures.bound);
        front = Appends-more (contents c.args.out.now) (contents c.loop.out) (contents c.write.new.self) c.args.bytes.now c.loop.written w.in-Ok.n c.match-write.written w.written-is c.loop.invariant.front w.in-Ok.ensures.bytes;
      }
      | in-Err w ↦ record {
        within = omega arith;
        front = Appends-keeps (contents c.args.out.now) (contents c.loop.out) (contents c.write.new.self) c.args.bytes.now c.loop.written c.match-write.written w.written-is c.loop.invariant.front w.in-Err.ensures.bytes;
      }
    ]
