use Rattle.std.proofs.Common.{◌≡◌, rules, arith, sym, ap, subst, ◌∙◌}
use Rattle.mz_rows.specs.ByZone.{AreByZone}
use Rattle.mz_project.specs.Defaults.{ones_outside}
use Rattle.mz_project.proofs.DefaultLemmas.{ones-more, ones-none, ones-fit}
use Rattle.mz_project.proofs.defaults.ones_outside.Goals as goal

pub loop-zone-init : goal.loop-zone-init
loop-zone-init c = c.new-ones.ensures.items ∙ sym (ones-none c.args.things c.args.available)

pub loop-zone-preserved : goal.loop-zone-preserved
loop-zone-preserved c = ones-more c.loop-zone.zone c.args.things c.args.available c.loop-zone.ones.items c.push_ones.new.ones.items _ c.loop-zone.invariant (search rules) c.in_ok-push_ones.ensures

pub returns-clause-fit : goal.returns-clause-fit
returns-clause-fit c =
    let all : c.loop-zone.zone ≡ c.args.zones = omega arith in
    subst (AreByZone c.args.zones c.args.things) (sym (c.new.ensures ∙ c.loop-zone.invariant ∙ ap (λ n. ones_outside n c.args.things c.args.available) all)) (ones-fit c.args.zones c.args.things c.args.available)
