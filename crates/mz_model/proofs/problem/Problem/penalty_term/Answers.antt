use Rattle.std.proofs.Common.{◌≡◌, ◌<◌, ◌*◌, sym, ap, ◌∙◌, arith}
use Rattle.mz_num.specs.Round.{round}
use Rattle.mz_model.specs.Targets.{shortfall_of}
use Rattle.mz_model.proofs.TargetLaws.{shortfall_of-is, penalty_term_of-met, penalty_term_of-part}
use Rattle.mz_model.proofs.problem.Problem.penalty_term.Goals as goal

pub returns-then-missing-eq0-clause-term : goal.returns-then-missing-eq0-clause-term
returns-then-missing-eq0-clause-term c =
    let missing : shortfall_of c.args.self.now c.args.t c.args.held ≡ 0 = omega (arith, c.saturating_sub-missing.ensures, c.if-missing-eq0.true, shortfall_of-is c.args.self.now c.args.t c.args.held c.target-target.result c.target-target.ensures.row) in
    sym (penalty_term_of-met c.args.self.now c.args.t c.args.held missing)

pub returns-then-self-clause-term : goal.returns-then-self-clause-term
returns-then-self-clause-term c =
    let missing : c.saturating_sub-missing.result ≡ shortfall_of c.args.self.now c.args.t c.args.held = omega (arith, c.saturating_sub-missing.ensures, shortfall_of-is c.args.self.now c.args.t c.args.held c.target-target.result c.target-target.ensures.row) in
    let level : 0 < c.target-target.result.level = omega (arith, c.saturating_sub-missing.ensures, c.if-missing-eq0.false) in
    c.narrow_part.ensures.part ∙ ap (λ n. round (c.target-target.result.weight * n) c.target-target.result.level) missing
    ∙ sym (penalty_term_of-part c.args.self.now c.args.t c.args.held c.target-target.result c.target-target.ensures.row level)

pub returns-else-self-clause-term : goal.returns-else-self-clause-term
returns-else-self-clause-term c =
    let missing : c.saturating_sub-missing.result ≡ shortfall_of c.args.self.now c.args.t c.args.held = omega (arith, c.saturating_sub-missing.ensures, shortfall_of-is c.args.self.now c.args.t c.args.held c.target-target.result c.target-target.ensures.row) in
    let level : 0 < c.target-target.result.level = omega (arith, c.saturating_sub-missing.ensures, c.if-missing-eq0.false) in
    c.wide_part.ensures.part ∙ ap (λ n. round (c.target-target.result.weight * n) c.target-target.result.level) missing
    ∙ sym (penalty_term_of-part c.args.self.now c.args.t c.args.held c.target-target.result c.target-target.ensures.row level)
