use Rattle.std.proofs.Common.{rules, ap, ◌∙◌, ◌+◌}
use Rattle.mz_draw.specs.Words.{SeatWords}
use Rattle.mz_gen.proofs.TextLemmas.{word_more, words_whole}
use Rattle.mz_gen.proofs.words.words_of.Goals as goal

pub loop-place-preserved : goal.loop-place-preserved
loop-place-preserved c = record {
  words = word_more c.args.number c.loop-place._place c.word.result _ _ _ c.loop-place.invariant.words c.loop-place.invariant.drawer c.word.ensures.word c.in_ok-push.ensures.items;
  drawer = c.word.ensures.taken ∙ ap (λ (d : SeatWords). record d { taken = d.taken + 1 }) c.loop-place.invariant.drawer;
}

pub returns-clause-whole : goal.returns-clause-whole
returns-clause-whole c = words_whole c.args.number c.loop-place._place c.args.count _ c.loop-place.invariant.words (search rules)
