use Rattle.std.proofs.Common.{◌≡◌, ◌<◌, ◌∷◌, [], ap, ◌∙◌, get_or, length, length-append, arith, rules}
use Rattle.std.proofs.lemmas.Iterator.Adapters.{YieldsList-from_vec}
use Rattle.std.proofs.lemmas.Iterator.Consumers.{YieldsList-turn}
use Rattle.mz_store.specs.Pass.{PassState}
use Rattle.mz_crew.proofs.CrewLaws.{fresh-at, ready-more}
use Rattle.mz_crew.proofs.worker.make_workers.Goals as goal

pub loop-pass-preserved : goal.loop-pass-preserved
loop-pass-preserved c =
    let done = length c.loop-pass.yielded in
    let turn : (done < length c.args.passes.items) × (c.in-Some.pass ≡ get_or c.args.passes.items done c.in-Some.pass) =
    YieldsList-turn (YieldsList-from_vec c.args.passes.items (search rules) (search rules)) c.loop-pass.yielded _ c.loop-pass.yielded_by _ c.next.new.self c.in-Some.pass c.in-Some.is c.next.ensures.steps in
    let fresh = fresh-at c.args.store.now.board c.args.store.now.run.seats done c.args.passes.items c.in-Some.pass c.requires.fresh turn.0 turn.1 in (
      tt,
      tt,
      ready-more c.args.store.now c.args.problem.now done _ c.loop-pass.workers.items _ c.in_ok-worker.worker c.loop-pass.invariant.2 c.in_ok-worker.ensures.ready
          (c.in_ok-worker.ensures.seat ∙ ap (λ (p : PassState). p.seat) fresh) c.in_ok-push.ensures.items (omega (arith, length-append c.loop-pass.yielded (c.in-Some.pass ∷ []))),
    )
