use Rattle.std.proofs.lemmas.Result.{err_from_is_err_and}
use Rattle.mz_gen.specs.Files.{write_of}
use Rattle.mz_gen.proofs.WritingLemmas.{writing_stops, written_more}
use Rattle.mz_gen.proofs.making.write_files.Goals as goal

pub returns-in_err-write_file : goal.returns-in_err-write_file
returns-in_err-write_file g c =
    let p = err_from_is_err_and c.from_residual.result c.from_residual.ensures.1 in
    rw (p.1, p.2) (writing_stops (write_of c.args.number) c.args.files.now c.loop-file.file-index _ _ _ _ _ c.loop-file-test.true c.loop-file.invariant c.in_err-write_file.ensures)

pub loop-file-preserved : goal.loop-file-preserved
loop-file-preserved g c = written_more (write_of c.args.number) c.args.files.now c.loop-file.file-index _ _ _ _ c.loop-file-test.true c.loop-file.invariant c.in_ok-write_file.ensures
