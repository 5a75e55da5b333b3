use Rattle.mz_draw.proofs.WordLemmas.{word_at-taken}
use Rattle.mz_draw.proofs.drawer.Drawer.word.Goals as goal

pub invariant_of-self : goal.invariant_of-self
invariant_of-self c = (word_at-taken _ _ _ _ _ _ _ c.next_word.ensures c.self.invariant).1

pub returns-clause-word : goal.returns-clause-word
returns-clause-word c =
    rw (← c.self.view_is) (word_at-taken _ _ _ _ _ _ _ c.next_word.ensures c.self.invariant).0
