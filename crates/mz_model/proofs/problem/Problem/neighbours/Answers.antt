use Rattle.std.proofs.Common.{◌<◌, ◌∙◌, ap, subst, length, arith}
use Rattle.std.proofs.lemmas.List.Elements.{All-same}
use Rattle.mz_model.specs.declared.neighbour.Neighbour.{Neighbour}
use Rattle.mz_model.specs.declared.parts.Parts.{Parts}
use Rattle.mz_model.specs.Boundary.{IsLength, neighbours_of}
use Rattle.mz_model.specs.Parts.{unit_count}
use Rattle.mz_num.specs.Places.{list_below}
use Rattle.mz_model.specs.Valid.{IsValid}
use Rattle.mz_model.proofs.ListLaws.{IsRow, table-row}
use Rattle.mz_model.proofs.NeighbourLaws.{neighbours_of-in_range, neighbours_of-lengths, length-neighbours_of}
use Rattle.mz_model.proofs.problem.Problem.neighbours.Goals as goal

pub at-requires : goal.at-requires
at-requires c = (table-row c.self.inside.neighbours (unit_count c.args.self.now) (neighbours_of c.args.self.now) c.args.unit (c.self.invariant.neighbours_are ∙ ap (λ (p : Parts). list_below (unit_count p) (neighbours_of p)) c.self.view_is) c.requires).inside

pub returns-clause-neighbours : goal.returns-clause-neighbours
returns-clause-neighbours c = c.at.ensures ∙ (table-row c.self.inside.neighbours (unit_count c.args.self.now) (neighbours_of c.args.self.now) c.args.unit (c.self.invariant.neighbours_are ∙ ap (λ (p : Parts). list_below (unit_count p) (neighbours_of p)) c.self.view_is) c.requires).is

pub returns-clause-units : goal.returns-clause-units
returns-clause-units c =
    All-same (λ (neighbour : Neighbour). neighbour.unit < unit_count c.args.self.now) _ _ (c.at.ensures ∙ (table-row c.self.inside.neighbours (unit_count c.args.self.now) (neighbours_of c.args.self.now) c.args.unit (c.self.invariant.neighbours_are ∙ ap (λ (p : Parts). list_below (unit_count p) (neighbours_of p)) c.self.view_is) c.requires).is) (neighbours_of-in_range c.args.self.now c.args.unit (subst IsValid c.self.view_is c.self.invariant.valid))

pub returns-clause-lengths : goal.returns-clause-lengths
returns-clause-lengths c =
    All-same (λ (neighbour : Neighbour). IsLength c.args.self.now neighbour.length) _ _ (c.at.ensures ∙ (table-row c.self.inside.neighbours (unit_count c.args.self.now) (neighbours_of c.args.self.now) c.args.unit (c.self.invariant.neighbours_are ∙ ap (λ (p : Parts). list_below (unit_count p) (neighbours_of p)) c.self.view_is) c.requires).is) (neighbours_of-lengths c.args.self.now c.args.unit (subst IsValid c.self.view_is c.self.invariant.valid))

pub returns-clause-small : goal.returns-clause-small
returns-clause-small c =
    let row : IsRow c.self.inside.neighbours c.args.unit (neighbours_of c.args.self.now c.args.unit) = table-row c.self.inside.neighbours (unit_count c.args.self.now) (neighbours_of c.args.self.now) c.args.unit (c.self.invariant.neighbours_are ∙ ap (λ (p : Parts). list_below (unit_count p) (neighbours_of p)) c.self.view_is) c.requires in
    omega (arith, ap length (c.at.ensures ∙ row.is), length-neighbours_of c.args.self.now c.args.unit (subst IsValid c.self.view_is c.self.invariant.valid))
