use Rattle.std.proofs.Common.{rules}
use Rattle.mz_shelf.specs.Act.Act.{Write}
use Rattle.mz_shelf.proofs.MemoryLemmas.{ActFailed-in_turn}
use Rattle.mz_shelf.proofs.mem_shelf.MemShelfShelf.write_file.Goals as goal

pub returns-then-is_failing-clause-answer : goal.returns-then-is_failing-clause-answer
returns-then-is_failing-clause-answer c =
    ActFailed-in_turn (Write c.args.name.now c.args.bytes.now) c.args.self.now c.count_fault.new.self
    (search rules) (record { fails = search rules; left = search rules })
