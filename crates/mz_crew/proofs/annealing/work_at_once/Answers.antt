use Rattle.std.proofs.Common.{arith}
use denote.Param.Send.{sendable}
use Rattle.mz_store.proofs.CrossingLaws.{pass_send}
use Rattle.mz_crew.proofs.CrewLaws.{all-done}
use Rattle.mz_crew.proofs.CrossingLaws.{padded_send}
use Rattle.mz_crew.proofs.annealing.work_at_once.Goals as goal

pub map_vec-requires-send-J : goal.map_vec-requires-send-J
map_vec-requires-send-J g c κs within = search (sendable, padded_send) depth 10

pub map_vec-requires-send-X : goal.map_vec-requires-send-X
map_vec-requires-send-X g c κs within = search (sendable, pass_send) depth 10

pub returns : goal.returns
returns g c = all-done (g.S.Workplace.state c.args.store.now) c.args.problem.now c.args.workers.items c.in_ok-passes.passes.items c.requires.ready
    (omega (arith, c.in_ok-passes.ensures.len, c.in_ok-passes.passes.ok.0, c.args.workers.ok.0))
    (λ place default h. let gives = (c.in_ok-passes.ensures.each place default h).1 in (gives.job, gives.job_is, gives.call.met))
