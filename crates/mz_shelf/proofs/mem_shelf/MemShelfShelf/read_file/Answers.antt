use Rattle.std.proofs.Common.{rules}
use Rattle.mz_shelf.proofs.MemoryLemmas.{ReadFailed-in_turn}
use Rattle.mz_shelf.proofs.mem_shelf.MemShelfShelf.read_file.Goals as goal

pub returns-then-is_failing-clause-answer : goal.returns-then-is_failing-clause-answer
returns-then-is_failing-clause-answer c =
    ReadFailed-in_turn c.args.name.now c.args.self.now c.count_fault.new.self (search rules) (record { fails = search rules; left = search rules })
