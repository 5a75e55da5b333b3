use Rattle.std.proofs.Common.{refl, ◌∙◌}
use Rattle.mz_project.proofs.LevelLemmas.{level-above, levels-are, levels-within}
use Rattle.mz_project.proofs.limits.levels.limited_levels.Goals as goal

pub returns-in_default : goal.returns-in_default
returns-in_default c =
    let made = levels-are c.args.region.now.targets _ _ _ c.deref.result.now c.new-levels.ensures.items c.in_ok-push_overall_levels.ensures c.in_ok-push_zone_levels.ensures c.deref.ensures.value in
    (level-above c.args.region.now.targets c.deref.result.now made (rw c.in_default.is at c.in_ok-levels.ensures), refl)

pub returns : goal.returns
returns c =
    let narrow = rw c.in-Some.is at c.in_ok-levels.ensures in
    let made = narrow.0 ∙ levels-are c.args.region.now.targets _ _ _ c.deref.result.now c.new-levels.ensures.items c.in_ok-push_overall_levels.ensures c.in_ok-push_zone_levels.ensures c.deref.ensures.value in
    (levels-within c.args.region.now.targets c.in-Some.levels.items made narrow.1, c.new.ensures ∙ made)
