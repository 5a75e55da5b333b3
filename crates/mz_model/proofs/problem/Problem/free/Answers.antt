use Rattle.std.proofs.Common.{◌<◌, ◌∙◌, ap, sym, length}
use Rattle.std.proofs.lemmas.List.Elements.{All-same}
use Rattle.mz_model.specs.Parts.{unit_count}
use Rattle.mz_model.specs.Zones.{free_units}
use Rattle.mz_model.proofs.ZoneLaws.{free_units-in_range, length-counts_of}
use Rattle.mz_model.proofs.problem.Problem.free.Goals as goal

pub returns-clause-in_range : goal.returns-clause-in_range
returns-clause-in_range c = All-same (λ unit. unit < unit_count c.args.self.now) _ _ (c.as_slice.ensures.value ∙ c.self.invariant.free_are ∙ ap free_units c.self.view_is) (free_units-in_range c.args.self.now)

pub returns-clause-paired : goal.returns-clause-paired
returns-clause-paired c = length-counts_of c.args.self.now ∙ sym (ap length (c.as_slice.ensures.value ∙ c.self.invariant.free_are ∙ ap free_units c.self.view_is))
