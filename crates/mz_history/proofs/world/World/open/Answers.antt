use Rattle.std.proofs.Common.{◌≡◌, sym, subst, arith}
use Rattle.mz_model.specs.declared.parts.Parts.{Parts}
use Rattle.mz_history.specs.declared.rules.Rules.{Rules}
use Rattle.mz_history.specs.Rules.{setting_with}
use Rattle.mz_history.specs.World.{IsWorld}
use Rattle.std.specs.Prelude.{vec_capacity}
use Rattle.mz_history.proofs.WorldLemmas.{opened}
use Rattle.mz_history.proofs.world.World.open.Goals as goal

pub invariant_of-result : goal.invariant_of-result
invariant_of-result c =
    let journal = c.in_ok-journal.journal in let seats = c.in_ok-seats.seats in
    let there : (parts : Parts) (rules : Rules) → parts ≡ c.args.problem.now → rules ≡ c.args.rules.now → IsWorld (record { setting = setting_with parts rules c.args.seed c.args.run; limit = rules.limit; core = record { journal = journal.items; seats = seats.items } }) c.in_ok-plan.plan c.evaluate-score.result (vec_capacity journal) =
    λ parts rules p r. subst (λ (q : Parts). IsWorld (record { setting = setting_with q rules c.args.seed c.args.run; limit = rules.limit; core = record { journal = journal.items; seats = seats.items } }) c.in_ok-plan.plan c.evaluate-score.result (vec_capacity journal)) (sym p)
    (subst (λ (q : Rules). IsWorld (record { setting = setting_with c.args.problem.now q c.args.seed c.args.run; limit = q.limit; core = record { journal = journal.items; seats = seats.items } }) c.in_ok-plan.plan c.evaluate-score.result (vec_capacity journal)) (sym r)
    (opened c.args.problem.now c.args.rules.now c.args.seed c.args.run c.args.seats (vec_capacity journal) journal.items seats.items c.in_ok-plan.plan c.evaluate-score.result c.requires.rules c.requires.runs c.requires.some_free c.requires.workers c.in_ok-plan.ensures.valid
    c.in_ok-journal.ensures.items c.in_ok-seats.ensures (omega (arith, c.in_ok-journal.ensures.capacity)) c.in_ok-plan.ensures.plan c.in_ok-plan.ensures.legal c.evaluate-score.ensures.score c.evaluate-score.ensures.small)) in
    there c.of.result.value c.of-2.result.value c.of.ensures c.of-2.ensures
