use Rattle.std.proofs.Common.{◌≡◌, rules, sym, subst}
use Rattle.mz_project.specs.Sets.{AreZoneSets}
use Rattle.mz_project.specs.Sets.{every_zone}
use Rattle.mz_project.proofs.SetLemmas.{every-fit}
use Rattle.mz_project.proofs.sets.every_set.Goals as goal

pub returns-clause-fit : goal.returns-clause-fit
returns-clause-fit c =
    let same : c.new.result ≡ every_zone c.args.units c.args.zones = search rules in
    subst (AreZoneSets c.args.units c.args.zones) (sym same) (every-fit c.args.units c.args.zones c.requires.some)
