use Rattle.std.proofs.Common.{map, take}
use Rattle.mz_shelf.specs.Chain.{DidAll}
use Rattle.mz_gen.specs.Files.{write_of}
use Rattle.mz_gen.proofs.making.write_files.Given as goal

abbrev pub invariant-loop-file : goal.invariant-loop-file
invariant-loop-file g l =
    DidAll (map (write_of l.number) (take l.file-index l.files)) (g.S.Shelf.state l.fn.shelf) (g.S.Shelf.state l.shelf)
