use Rattle.std.proofs.Common.{arith}
use Rattle.mz_num.specs.Limits.{most_file_bytes}
use Rattle.mz_shelf.proofs.KnownBytesLemmas.{whole_below_limit}
use Rattle.mz_shelf.proofs.dir_shelf.read_whole.Goals as goal

pub returns-in-Ok-2-clause-whole : goal.returns-in-Ok-2-clause-whole
returns-in-Ok-2-clause-whole g c =
    whole_below_limit g.S.Read.remaining c.take.result.inner c.args.source c.take.result.limit most_file_bytes c.new-bytes.result.items c.read_to_end.new.buf.items
    c.take.ensures.inner c.take.ensures.limit c.new-bytes.ensures.items (omega arith) c.in-Ok-2.ensures.bytes
