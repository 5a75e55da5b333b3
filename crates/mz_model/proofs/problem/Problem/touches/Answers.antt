use Rattle.std.proofs.Common.{◌<◌, ◌∙◌, ap, sym, length, arith}
use Rattle.std.proofs.lemmas.List.Elements.{All-same}
use Rattle.mz_model.specs.declared.parts.Parts.{Parts}
use Rattle.mz_model.specs.declared.touch.Touch.{Touch}
use Rattle.mz_model.specs.Parts.{target_count, unit_count}
use Rattle.mz_num.specs.Places.{list_below}
use Rattle.mz_model.specs.Targets.{touches_of}
use Rattle.mz_model.proofs.ListLaws.{IsRow, table-row}
use Rattle.mz_model.proofs.TouchLaws.{touches_of-in_range, length-touches_of, length-touched_rows}
use Rattle.mz_model.proofs.problem.Problem.touches.Goals as goal

pub at-requires : goal.at-requires
at-requires c = (table-row c.self.inside.touches (unit_count c.args.self.now) (touches_of c.args.self.now) c.args.unit (c.self.invariant.touches_are ∙ ap (λ (p : Parts). list_below (unit_count p) (touches_of p)) c.self.view_is) c.requires).inside

pub returns-clause-touches : goal.returns-clause-touches
returns-clause-touches c = c.at.ensures ∙ (table-row c.self.inside.touches (unit_count c.args.self.now) (touches_of c.args.self.now) c.args.unit (c.self.invariant.touches_are ∙ ap (λ (p : Parts). list_below (unit_count p) (touches_of p)) c.self.view_is) c.requires).is

pub returns-clause-rows : goal.returns-clause-rows
returns-clause-rows c =
    All-same (λ (touch : Touch). touch.row < target_count c.args.self.now) _ _ (c.at.ensures ∙ (table-row c.self.inside.touches (unit_count c.args.self.now) (touches_of c.args.self.now) c.args.unit (c.self.invariant.touches_are ∙ ap (λ (p : Parts). list_below (unit_count p) (touches_of p)) c.self.view_is) c.requires).is) (touches_of-in_range c.args.self.now c.args.unit)

pub returns-clause-paired : goal.returns-clause-paired
returns-clause-paired c =
    let row : IsRow c.self.inside.touches c.args.unit (touches_of c.args.self.now c.args.unit) = table-row c.self.inside.touches (unit_count c.args.self.now) (touches_of c.args.self.now) c.args.unit (c.self.invariant.touches_are ∙ ap (λ (p : Parts). list_below (unit_count p) (touches_of p)) c.self.view_is) c.requires in
    sym (ap length (c.at.ensures ∙ row.is) ∙ length-touches_of c.args.self.now c.args.unit)

pub returns-clause-small : goal.returns-clause-small
returns-clause-small c =
    let row : IsRow c.self.inside.touches c.args.unit (touches_of c.args.self.now c.args.unit) = table-row c.self.inside.touches (unit_count c.args.self.now) (touches_of c.args.self.now) c.args.unit (c.self.invariant.touches_are ∙ ap (λ (p : Parts). list_below (unit_count p) (touches_of p)) c.self.view_is) c.requires in
    omega (arith, ap length (c.at.ensures ∙ row.is), length-touches_of c.args.self.now c.args.unit, length-touched_rows c.args.self.now c.args.unit)
