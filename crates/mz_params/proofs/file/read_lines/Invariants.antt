use Rattle.std.proofs.Common.{length}
use Rattle.std.specs.List.{slice_split}
use Rattle.mz_params.specs.Lines.{is_line_feed, without_mark}
use Rattle.mz_params.proofs.FileLemmas.{IsReadTo}
use Rattle.mz_params.proofs.file.read_lines.Given as goal

abbrev pub invariant-loop-text : goal.invariant-loop-text
invariant-loop-text l = IsReadTo (slice_split is_line_feed (without_mark l.bytes)) l.lines.items (length l.yielded)
