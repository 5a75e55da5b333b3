use Rattle.std.proofs.Common.{◌<◌, ◌∙◌, ap}
use Rattle.std.proofs.lemmas.List.Elements.{All-same}
use Rattle.mz_model.specs.declared.parts.Parts.{Parts}
use Rattle.mz_model.specs.Parts.{unit_count, zone_count}
use Rattle.mz_num.specs.Places.{list_below}
use Rattle.mz_model.specs.Zones.{allowed_zones}
use Rattle.mz_model.proofs.ListLaws.{table-row}
use Rattle.mz_model.proofs.ZoneLaws.{allowed_zones-in_range}
use Rattle.mz_model.proofs.problem.Problem.allowed_zones.Goals as goal

pub at-requires : goal.at-requires
at-requires c = (table-row c.self.inside.zones (unit_count c.args.self.now) (allowed_zones c.args.self.now) c.args.unit (c.self.invariant.zones_are ∙ ap (λ (p : Parts). list_below (unit_count p) (allowed_zones p)) c.self.view_is) c.requires).inside

pub returns-clause-zones : goal.returns-clause-zones
returns-clause-zones c = c.at.ensures ∙ (table-row c.self.inside.zones (unit_count c.args.self.now) (allowed_zones c.args.self.now) c.args.unit (c.self.invariant.zones_are ∙ ap (λ (p : Parts). list_below (unit_count p) (allowed_zones p)) c.self.view_is) c.requires).is

pub returns-clause-in_range : goal.returns-clause-in_range
returns-clause-in_range c =
    All-same (λ zone. zone < zone_count c.args.self.now) _ _ (c.at.ensures ∙ (table-row c.self.inside.zones (unit_count c.args.self.now) (allowed_zones c.args.self.now) c.args.unit (c.self.invariant.zones_are ∙ ap (λ (p : Parts). list_below (unit_count p) (allowed_zones p)) c.self.view_is) c.requires).is) (allowed_zones-in_range c.args.self.now c.args.unit)
