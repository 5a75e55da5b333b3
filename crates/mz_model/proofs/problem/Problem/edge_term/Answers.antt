use Rattle.std.proofs.Common.{◌∙◌, sym}
use Rattle.mz_model.proofs.LimitLaws.{edge_round-le, edge_term_of-is}
use Rattle.mz_model.proofs.problem.Problem.edge_term.Goals as goal

pub by_millionths-requires : goal.by_millionths-requires
by_millionths-requires c = rw c.rate.ensures.rate (edge_round-le c.args.self.now c.args.len c.args.k c.args.l c.rate.ensures.valid c.requires.length c.requires.first c.requires.second)

pub returns-clause-term : goal.returns-clause-term
returns-clause-term c = c.by_millionths.ensures ∙ (rw c.rate.ensures.rate (sym (edge_term_of-is c.args.self.now c.args.len c.args.k c.args.l)))

pub returns-clause-small : goal.returns-clause-small
returns-clause-small c = rw (c.by_millionths.ensures, c.rate.ensures.rate) (edge_round-le c.args.self.now c.args.len c.args.k c.args.l c.rate.ensures.valid c.requires.length c.requires.first c.requires.second)
