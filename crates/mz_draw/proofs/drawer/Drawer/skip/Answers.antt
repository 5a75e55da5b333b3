use Rattle.std.proofs.Common.{◌*◌, ap, ◌∙◌}
use Rattle.rand_pcg.specs.Lcg.{advance}
use Rattle.rand_pcg.specs.Pcg.{multiplier_64}
use Rattle.mz_draw.proofs.WordLemmas.{generator_at-add}
use Rattle.mz_draw.proofs.drawer.Drawer.skip.Goals as goal

pub invariant_of-self : goal.invariant_of-self
invariant_of-self c =
    c.advance.ensures ∙ ap (advance 64 multiplier_64 (3 * c.args.draws)) c.self.invariant
    ∙ generator_at-add _ _ _ c.self.inside.taken (3 * c.args.draws)
