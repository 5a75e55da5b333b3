use Rattle.store_tests.proofs.PassLaws.{all-in-order}
use Rattle.store_tests.proofs.tests.closes.close.Goals as goal

pub close-requires : goal.close-requires
close-requires c = all-in-order c.args.store c.args.passes.items c.requires.passes
