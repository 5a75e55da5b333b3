use Rattle.std.proofs.Common.{◌≡◌, ◌+◌, ◌<◌, ◌∙◌, ap, sym, subst, get_or, length, arith}
use Rattle.std.proofs.lemmas.Nat.{mod_below}
use Rattle.mz_model.specs.declared.parts.Parts.{Parts}
use Rattle.mz_model.specs.Parts.{unit_count}
use Rattle.mz_num.specs.Places.{list_below}
use Rattle.mz_model.specs.Valid.{IsValid}
use Rattle.mz_model.specs.Zones.{allowed_zones}
use Rattle.mz_model.proofs.ListLaws.{table-row}
use Rattle.mz_model.proofs.ZoneLaws.{IsStep, is_allowed-in_range, step-fits, step-place, step-to}
use Rattle.mz_model.proofs.problem.Problem.step.Goals as goal

pub at-zones-requires : goal.at-zones-requires
at-zones-requires c = (table-row c.self.inside.zones (unit_count c.args.self.now) (allowed_zones c.args.self.now) c.args.unit (c.self.invariant.zones_are ∙ ap (λ (p : Parts). list_below (unit_count p) (allowed_zones p)) c.self.view_is) c.requires.unit).inside

pub overflow_add-place : goal.overflow_add-place
overflow_add-place c =
    let zones : c.at-zones.result.now ≡ allowed_zones c.args.self.now c.args.unit = c.at-zones.ensures ∙ (table-row c.self.inside.zones (unit_count c.args.self.now) (allowed_zones c.args.self.now) c.args.unit (c.self.invariant.zones_are ∙ ap (λ (p : Parts). list_below (unit_count p) (allowed_zones p)) c.self.view_is) c.requires.unit).is in
    let fits : IsStep c.args.self.now c.args.unit c.at-zones.result.now c.args.zone = step-fits c.args.self.now c.args.unit c.args.zone c.at-zones.result.now (subst IsValid c.self.view_is c.self.invariant.valid) c.requires.unit c.requires.zone zones in
    omega (arith, c.place_of-place.ensures ∙ step-place c.args.self.now c.args.unit c.args.zone _ c.at-zones.result.now (subst IsValid c.self.view_is c.self.invariant.valid) c.requires.unit c.requires.zone c.allowed-set.ensures.set zones, fits.place, fits.few)

pub place_of-place-requires : goal.place_of-place-requires
place_of-place-requires c =
    let valid : IsValid c.args.self.now = subst IsValid c.self.view_is c.self.invariant.valid in
    omega (arith, is_allowed-in_range c.args.self.now c.args.unit c.args.zone valid c.requires.unit c.requires.zone, valid.small.zones)

pub turned-requires : goal.turned-requires
turned-requires c =
    let zones : c.at-zones.result.now ≡ allowed_zones c.args.self.now c.args.unit = c.at-zones.ensures ∙ (table-row c.self.inside.zones (unit_count c.args.self.now) (allowed_zones c.args.self.now) c.args.unit (c.self.invariant.zones_are ∙ ap (λ (p : Parts). list_below (unit_count p) (allowed_zones p)) c.self.view_is) c.requires.unit).is in
    (step-fits c.args.self.now c.args.unit c.args.zone c.at-zones.result.now (subst IsValid c.self.view_is c.self.invariant.valid) c.requires.unit c.requires.zone zones).some_zone

pub bounds-zones-turned : goal.bounds-zones-turned
bounds-zones-turned c =
    let zones : c.at-zones.result.now ≡ allowed_zones c.args.self.now c.args.unit = c.at-zones.ensures ∙ (table-row c.self.inside.zones (unit_count c.args.self.now) (allowed_zones c.args.self.now) c.args.unit (c.self.invariant.zones_are ∙ ap (λ (p : Parts). list_below (unit_count p) (allowed_zones p)) c.self.view_is) c.requires.unit).is in
    subst (λ p. p < length c.at-zones.result.now) (sym c.turned.ensures) (mod_below (c.place_of-place.result + c.args.shift) (length c.at-zones.result.now) (step-fits c.args.self.now c.args.unit c.args.zone c.at-zones.result.now (subst IsValid c.self.view_is c.self.invariant.valid) c.requires.unit c.requires.zone zones).some_zone)

pub returns-clause-zone : goal.returns-clause-zone
returns-clause-zone c =
    let zones : c.at-zones.result.now ≡ allowed_zones c.args.self.now c.args.unit = c.at-zones.ensures ∙ (table-row c.self.inside.zones (unit_count c.args.self.now) (allowed_zones c.args.self.now) c.args.unit (c.self.invariant.zones_are ∙ ap (λ (p : Parts). list_below (unit_count p) (allowed_zones p)) c.self.view_is) c.requires.unit).is in
    let fits : IsStep c.args.self.now c.args.unit c.at-zones.result.now c.args.zone = step-fits c.args.self.now c.args.unit c.args.zone c.at-zones.result.now (subst IsValid c.self.view_is c.self.invariant.valid) c.requires.unit c.requires.zone zones in
    (step-to c.args.self.now c.args.unit c.args.zone c.args.shift c.place_of-place.result _ c.at-zones.result.now fits zones (c.place_of-place.ensures ∙ step-place c.args.self.now c.args.unit c.args.zone _ c.at-zones.result.now (subst IsValid c.self.view_is c.self.invariant.valid) c.requires.unit c.requires.zone c.allowed-set.ensures.set zones) (ap (λ p. get_or c.at-zones.result.now p 0) c.turned.ensures)).move

pub returns-clause-allowed : goal.returns-clause-allowed
returns-clause-allowed c =
    let zones : c.at-zones.result.now ≡ allowed_zones c.args.self.now c.args.unit = c.at-zones.ensures ∙ (table-row c.self.inside.zones (unit_count c.args.self.now) (allowed_zones c.args.self.now) c.args.unit (c.self.invariant.zones_are ∙ ap (λ (p : Parts). list_below (unit_count p) (allowed_zones p)) c.self.view_is) c.requires.unit).is in
    let fits : IsStep c.args.self.now c.args.unit c.at-zones.result.now c.args.zone = step-fits c.args.self.now c.args.unit c.args.zone c.at-zones.result.now (subst IsValid c.self.view_is c.self.invariant.valid) c.requires.unit c.requires.zone zones in
    (step-to c.args.self.now c.args.unit c.args.zone c.args.shift c.place_of-place.result _ c.at-zones.result.now fits zones (c.place_of-place.ensures ∙ step-place c.args.self.now c.args.unit c.args.zone _ c.at-zones.result.now (subst IsValid c.self.view_is c.self.invariant.valid) c.requires.unit c.requires.zone c.allowed-set.ensures.set zones) (ap (λ p. get_or c.at-zones.result.now p 0) c.turned.ensures)).allowed

pub returns-clause-in_range : goal.returns-clause-in_range
returns-clause-in_range c =
    let zones : c.at-zones.result.now ≡ allowed_zones c.args.self.now c.args.unit = c.at-zones.ensures ∙ (table-row c.self.inside.zones (unit_count c.args.self.now) (allowed_zones c.args.self.now) c.args.unit (c.self.invariant.zones_are ∙ ap (λ (p : Parts). list_below (unit_count p) (allowed_zones p)) c.self.view_is) c.requires.unit).is in
    let fits : IsStep c.args.self.now c.args.unit c.at-zones.result.now c.args.zone = step-fits c.args.self.now c.args.unit c.args.zone c.at-zones.result.now (subst IsValid c.self.view_is c.self.invariant.valid) c.requires.unit c.requires.zone zones in
    (step-to c.args.self.now c.args.unit c.args.zone c.args.shift c.place_of-place.result _ c.at-zones.result.now fits zones (c.place_of-place.ensures ∙ step-place c.args.self.now c.args.unit c.args.zone _ c.at-zones.result.now (subst IsValid c.self.view_is c.self.invariant.valid) c.requires.unit c.requires.zone c.allowed-set.ensures.set zones) (ap (λ p. get_or c.at-zones.result.now p 0) c.turned.ensures)).in_range
