use Rattle.std.proofs.Common.{◌≡◌, ℕ, true, ◌∙◌, sym, ap, refl}
use Rattle.std.specs.Prelude.{nat_lt}
use Rattle.std.specs.List.{list_all}
use Rattle.judge_bench.proofs.RegionLaws.{counted-valid}
use Rattle.judge_bench.proofs.region.parts.Goals as goal

pub returns : goal.returns
returns c =
    let apart : list_all (λ (edge : ℕ × ℕ × ℕ). nat_lt edge.0 edge.1) c.in_ok-edges.edges ≡ true = ap (list_all (λ (edge : ℕ × ℕ × ℕ). nat_lt edge.0 edge.1)) (sym c.as_slice.ensures) ∙ sym c.if-not-are_apart.ensures in
    counted-valid c.in_ok-units.field-0 c.in_ok-features.field-0 _
    (record {
      few_units = c.in_ok-units.ensures;
      few_features = c.in_ok-features.ensures;
      three = refl;
      unit_ids = c.in_ok-unit_ids.ensures;
      zone_ids = c.in_ok-zone_ids.ensures;
      feature_ids = c.in_ok-feature_ids.ensures;
      names = c.in_ok-names.ensures;
      available = refl;
      allowed = c.in_ok-allowed.ensures;
      costs = c.in_ok-costs.ensures.0;
      cheap = c.in_ok-costs.ensures.1;
      rates = c.in_ok-rates.ensures;
      edges = c.in_ok-edges.ensures;
      apart = apart;
      outer = c.in_ok-outer.ensures;
      targets = c.in_ok-targets.ensures;
      amounts = c.in_ok-amounts.ensures;
      fractions = c.in_ok-fractions.ensures.0;
      parts_of_one = c.in_ok-fractions.ensures.1;
    })
