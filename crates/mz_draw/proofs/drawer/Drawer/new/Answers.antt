use Rattle.std.proofs.Common.{◌∙◌}
use Rattle.mz_draw.proofs.WordLemmas.{generator_at-zero}
use Rattle.mz_draw.proofs.drawer.Drawer.new.Goals as goal

pub invariant_of-result : goal.invariant_of-result
invariant_of-result c = simp (c.from.ensures, c.from-2.ensures) at c.new.ensures ∙ generator_at-zero c.args.seed c.args.run c.args.seat
