use Rattle.std.proofs.Common.{◌≡◌}
use Rattle.mz_draw.specs.Words.{word_at}
use Rattle.mz_num.specs.Places.{list_below}
use Rattle.mz_gen.proofs.words.words_of.Given as goal

abbrev pub invariant-loop-place : goal.invariant-loop-place
invariant-loop-place l = record {
  words : l.words.items ≡ list_below l._place (λ i. word_at l.number 63 63 i);
  drawer : l.drawer ≡ record { seed = l.number; run = 63; seat = 63; taken = l._place };
}
