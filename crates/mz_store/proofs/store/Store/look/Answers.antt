use Rattle.std.proofs.Common.{◌∙◌, ap, refl}
use Rattle.mz_store.specs.Pass.{PassState}
use Rattle.mz_store.proofs.PassLaws.{looked-looks, looked-pass}
use Rattle.mz_store.proofs.store.Store.look.Goals as goal

pub invariant_of-pass : goal.invariant_of-pass
invariant_of-pass c = looked-pass c.args.self.now c.pass.inside.chair _ _ _ _ c.pass.inside.seat c.pass.inside.number _ _ _ c.of.result.value _ c.load_front-reading.ensures.valid
    (ap (λ (p : PassState). p.store) c.pass.view_is ∙ c.requires.store) c.pass.invariant
    (record {
      front = c.load_front-reading.ensures.now;
      zone = c.load_zone-reading.ensures.now;
      neighbours = c.load_neighbours.ensures.now;
      totals = c.load_totals.ensures.now;
      unit_is = c.requires.unit;
      allowed = c.load_zone-reading.ensures.allowed;
      around = c.load_neighbours.ensures.zones;
      count = c.load_totals.ensures.count;
      small = c.load_totals.ensures.small;
    }) c.load_front-reading.ensures.least refl c.of.ensures

pub returns-clause-looks : goal.returns-clause-looks
returns-clause-looks c = looked-looks c.args.self.now c.pass.inside.chair _ _ _ _ c.pass.inside.seat c.pass.inside.number _ _ c.args.unit _ c.of.result.value _ c.args.pass.now c.pass.view_is c.pass.invariant
    (record {
      front = c.load_front-reading.ensures.now;
      zone = c.load_zone-reading.ensures.now;
      neighbours = c.load_neighbours.ensures.now;
      totals = c.load_totals.ensures.now;
      unit_is = c.requires.unit;
      allowed = c.load_zone-reading.ensures.allowed;
      around = c.load_neighbours.ensures.zones;
      count = c.load_totals.ensures.count;
      small = c.load_totals.ensures.small;
    }) c.load_front-reading.ensures.least c.load_front-reading.ensures.most refl refl c.of.ensures
