use Rattle.store_tests.proofs.CallerLaws.{decides-next}
use Rattle.store_tests.proofs.caller.commit_next.Goals as goal

pub returns : goal.returns
returns g c = decides-next c.args.store.now.run c.args.pass.now _ c.args.reading.now c.commit.result c.commit.ensures
