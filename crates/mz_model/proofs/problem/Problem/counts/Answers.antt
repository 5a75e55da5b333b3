use Rattle.std.proofs.Common.{◌≤◌, ◌∙◌, ap, subst, length}
use Rattle.std.proofs.lemmas.List.Elements.{All-same}
use Rattle.mz_model.specs.Valid.{IsValid}
use Rattle.mz_model.specs.Zones.{counts_of}
use Rattle.mz_model.proofs.ZoneLaws.{counts_of-in_range, length-counts_of}
use Rattle.mz_model.proofs.problem.Problem.counts.Goals as goal

pub returns-clause-in_range : goal.returns-clause-in_range
returns-clause-in_range c = All-same (λ count. (2 ≤ count) × (count ≤ 60)) _ _ (c.as_slice.ensures.value ∙ c.self.invariant.counts_are ∙ ap counts_of c.self.view_is) (counts_of-in_range c.args.self.now (subst IsValid c.self.view_is c.self.invariant.valid).small.zones)

pub returns-clause-paired : goal.returns-clause-paired
returns-clause-paired c = ap length (c.as_slice.ensures.value ∙ c.self.invariant.counts_are ∙ ap counts_of c.self.view_is) ∙ length-counts_of c.args.self.now
