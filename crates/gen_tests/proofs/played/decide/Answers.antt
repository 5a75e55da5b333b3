use Rattle.std.proofs.Common.{sym, ◌∙◌, subst}
use Rattle.mz_state.specs.Looks.{IsLook}
use Rattle.mz_state.proofs.CommitLaws.{look-moves}
use Rattle.gen_tests.proofs.PlayLemmas.{drawn-next, own-parts}
use Rattle.gen_tests.proofs.played.decide.Goals as goal

pub apply_on-requires-clause-next : goal.apply_on-requires-clause-next
apply_on-requires-clause-next c =
    let k = c.args.kept.now in let judges = c.judge.ensures.right in
    let own = judges.move.seat ∙ c.look.ensures.looks.seat in
    look-moves k c.args.problem.now _ _ _ _ (own-parts c.args.problem.now c.args.rules.now c.args.seed k c.requires.play)
    c.length.ensures.kept.valid c.length.ensures.kept.journal.history
    (subst (λ seat. IsLook k seat c.draw_of-draw.result.unit c.look.new.reading) (sym own) c.look.ensures.looks)
    (drawn-next c.args.problem.now c.args.rules.now c.args.seed k c.args.seat _ _ _ c.requires.play c.next_draw-number.ensures c.draw_of-draw.ensures.draw own)
    judges
