use Rattle.std.proofs.Common.{arith}
use denote.Param.Send.{sendable}
use Rattle.mz_store.proofs.CrossingLaws.{pass_send}
use Rattle.store_tests.proofs.PassLaws.{back-in-order}
use Rattle.store_tests.proofs.tests.threads.work_all.Goals as goal

pub map_vec-requires-send-J : goal.map_vec-requires-send-J
map_vec-requires-send-J g c κs within = search (sendable, pass_send) depth 10

pub map_vec-requires-send-X : goal.map_vec-requires-send-X
map_vec-requires-send-X g c κs within = search (sendable, pass_send) depth 10

pub returns : goal.returns
returns g c = back-in-order (g.S.Workplace.state c.args.store.now) c.args.passes.items c.in_ok-back.back.items c.requires.order
    (omega (arith, c.in_ok-back.ensures.len, c.in_ok-back.back.ok.0, c.args.passes.ok.0))
    (λ seat other h. let gives = (c.in_ok-back.ensures.each seat other h).1 in (gives.job, gives.job_is, gives.call.met))
