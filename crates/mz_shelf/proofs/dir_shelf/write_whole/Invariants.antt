use Rattle.std.proofs.Common.{◌≤◌, length, take}
use Rattle.std.specs.Io.KnownBytes.{Appends}
use Rattle.mz_shelf.proofs.dir_shelf.write_whole.Given as goal

abbrev pub invariant-loop : goal.invariant-loop
invariant-loop g l =
    let contents = g.W.Write.contents in
    record {
      within : l.written ≤ length l.bytes;
      front : Appends (contents l.fn.out) (contents l.out) (take l.written l.bytes);
    }
