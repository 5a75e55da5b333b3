use Rattle.std.proofs.Common.{◌≡◌, ◌∙◌, ap, length, refl, sym, rules, arith}
use Rattle.mz_run.proofs.AnnealLemmas.{end-improved, end-kept}
use Rattle.mz_run.proofs.CountLemmas.{length-totals, written_back}
use Rattle.mz_run.proofs.improvement.improved.Goals as goal

pub returns-then-not-improves : goal.returns-then-not-improves
returns-then-not-improves c = end-kept c.args.job.now c.args.run c.args.annealed (sym c.improves.ensures ∙ c.if-not-improves.true) c.requires

pub returns : goal.returns
returns c =
    let room : length c.improve.new.totals ≡ c.args.annealed.totals.len = omega (arith, ap length c.improve.ensures.totals, length-totals c.args.job.now.problem c.improve.new.plan, ap length c.requires.totals_are, length-totals c.args.job.now.problem c.args.annealed.plan, c.args.annealed.totals.ok.0) in
    end-improved c.args.job.now c.args.run c.args.annealed _ (sym c.improves.ensures ∙ c.if-not-improves.false) c.requires (search rules) c.improve.ensures.plan c.improve.ensures.legal
    (written_back c.improve.new.totals c.args.annealed.totals.items c.args.annealed.totals.len room ∙ c.improve.ensures.totals) c.improve.ensures.score refl
