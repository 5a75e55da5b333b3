use Rattle.std.proofs.Common.{◌<◌, ◌∙◌, ap, subst, ℕ}
use Rattle.std.proofs.lemmas.List.Elements.{All-same}
use Rattle.mz_model.specs.declared.parts.Parts.{Parts}
use Rattle.mz_model.specs.Amounts.{holders_of}
use Rattle.mz_model.specs.Parts.{feature_count, unit_count}
use Rattle.mz_num.specs.Places.{list_below}
use Rattle.mz_model.specs.Valid.{IsValid}
use Rattle.mz_model.proofs.AmountLaws.{holders_of-in_range}
use Rattle.mz_model.proofs.ListLaws.{IsRow, table-row}
use Rattle.mz_model.proofs.problem.Problem.holders.Goals as goal

pub at-requires : goal.at-requires
at-requires c = (table-row c.self.inside.holders (feature_count c.args.self.now) (holders_of c.args.self.now.amounts) c.args.feature (c.self.invariant.holders_are ∙ ap (λ (p : Parts). list_below (feature_count p) (holders_of p.amounts)) c.self.view_is) c.requires).inside

pub returns-clause-holders : goal.returns-clause-holders
returns-clause-holders c = c.at.ensures ∙ (table-row c.self.inside.holders (feature_count c.args.self.now) (holders_of c.args.self.now.amounts) c.args.feature (c.self.invariant.holders_are ∙ ap (λ (p : Parts). list_below (feature_count p) (holders_of p.amounts)) c.self.view_is) c.requires).is

pub returns-clause-in_range : goal.returns-clause-in_range
returns-clause-in_range c =
    let valid : IsValid c.args.self.now = subst IsValid c.self.view_is c.self.invariant.valid in
    let row : IsRow c.self.inside.holders c.args.feature (holders_of c.args.self.now.amounts c.args.feature) = table-row c.self.inside.holders (feature_count c.args.self.now) (holders_of c.args.self.now.amounts) c.args.feature (c.self.invariant.holders_are ∙ ap (λ (p : Parts). list_below (feature_count p) (holders_of p.amounts)) c.self.view_is) c.requires in
    All-same (λ (holder : ℕ × ℕ). holder.0 < unit_count c.args.self.now) _ _ (c.at.ensures ∙ row.is) (holders_of-in_range c.args.self.now.amounts c.args.feature (unit_count c.args.self.now) (feature_count c.args.self.now) valid.shape.amounts)
