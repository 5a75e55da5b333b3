use Rattle.std.proofs.Common.{◌∙◌}
use Rattle.gen_tests.proofs.PlayLemmas.{own-legal, own-score, own-totals}
use Rattle.gen_tests.proofs.played.read_off.Goals as goal

pub solution_text-requires-clause-legal : goal.solution_text-requires-clause-legal
solution_text-requires-clause-legal c = own-legal _ _ _ c.args.kept _ c.requires c.finish-journal.ensures.legal

pub solution_text-requires-clause-own_totals : goal.solution_text-requires-clause-own_totals
solution_text-requires-clause-own_totals c = c.deref.ensures.value ∙ own-totals _ _ _ c.args.kept _ _ c.requires c.finish-journal.ensures.totals_are

pub solution_text-requires-clause-own_score : goal.solution_text-requires-clause-own_score
solution_text-requires-clause-own_score c = own-score _ _ _ c.args.kept _ _ c.requires c.finish-journal.ensures.score_is
