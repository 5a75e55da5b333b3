-- Small problems, written out. Amounts, costs and lengths are in ten-thousandths, rates and fractions in millionths.
use Rattle.std.specs.Prelude.{[], ◌∷◌, None, Some}
use Rattle.mz_model.specs.declared.parts.Parts.{Parts}
use Rattle.mz_model.specs.declared.parts.Target.{Target}

-- a target of 4 over all zones, with a weight of 60
abbrev four_anywhere : Target
four_anywhere = record { feature = 0; zone = None; level = 40000; weight = 600000 }

-- three units in a row and two zones, the first one available; a feature of which 4 is asked
unfoldable pub three_units : Parts
three_units = record {
  unit_ids = 1 ∷ 2 ∷ 3 ∷ [];
  zone_ids = 1 ∷ 2 ∷ [];
  feature_ids = 1 ∷ [];
  names = (102 ∷ []) ∷ [];
  available = 0;
  allowed = 3 ∷ 3 ∷ 3 ∷ [];
  costs = 0 ∷ 100000 ∷ 0 ∷ 200000 ∷ 0 ∷ 300000 ∷ [];
  rates = 0 ∷ 1000000 ∷ 1000000 ∷ 0 ∷ [];
  edges = (0, 1, 50000) ∷ (1, 2, 70000) ∷ [];
  outer = 20000 ∷ 0 ∷ 0 ∷ [];
  targets = four_anywhere ∷ [];
  amounts = (0, 0, 20000) ∷ (1, 0, 30000) ∷ (2, 0, 40000) ∷ [];
  fractions = 0 ∷ 1000000 ∷ [];
}

-- the same units with a third zone, half of each amount in the second zone and all of it in the third, and a target
-- of 4 in the third
unfoldable pub three_zones : Parts
three_zones = record {
  unit_ids = 1 ∷ 2 ∷ 3 ∷ [];
  zone_ids = 1 ∷ 2 ∷ 3 ∷ [];
  feature_ids = 1 ∷ [];
  names = (102 ∷ []) ∷ [];
  available = 0;
  allowed = 7 ∷ 7 ∷ 7 ∷ [];
  costs = 0 ∷ 100000 ∷ 100000 ∷ 0 ∷ 200000 ∷ 200000 ∷ 0 ∷ 300000 ∷ 300000 ∷ [];
  rates = 0 ∷ 1000000 ∷ 1000000 ∷ 1000000 ∷ 0 ∷ 1000000 ∷ 1000000 ∷ 1000000 ∷ 0 ∷ [];
  edges = (0, 1, 50000) ∷ (1, 2, 70000) ∷ [];
  outer = 20000 ∷ 0 ∷ 0 ∷ [];
  targets = four_anywhere ∷ record { feature = 0; zone = Some 2; level = 40000; weight = 600000 } ∷ [];
  amounts = (0, 0, 20000) ∷ (1, 0, 30000) ∷ (2, 0, 40000) ∷ [];
  fractions = 0 ∷ 500000 ∷ 1000000 ∷ [];
}

-- the three units with two features more that no unit holds: of the one nothing is asked, of the other 5
unfoldable pub unheld_features : Parts
unheld_features = record three_units {
  feature_ids = 1 ∷ 2 ∷ 3 ∷ [];
  names = (102 ∷ []) ∷ (103 ∷ []) ∷ (104 ∷ []) ∷ [];
  targets =
      four_anywhere
      ∷ record { feature = 1; zone = None; level = 0; weight = 10000 }
      ∷ record { feature = 2; zone = None; level = 50000; weight = 30000 }
      ∷ [];
  fractions = 0 ∷ 0 ∷ 0 ∷ 1000000 ∷ 1000000 ∷ 1000000 ∷ [];
}

-- three units apart from one another, at no cost, resting in the second zone, which counts as much as the third
unfoldable pub alike_zones : Parts
alike_zones = record {
  unit_ids = 1 ∷ 2 ∷ 3 ∷ [];
  zone_ids = 1 ∷ 2 ∷ 3 ∷ [];
  feature_ids = 1 ∷ [];
  names = (102 ∷ []) ∷ [];
  available = 1;
  allowed = 7 ∷ 7 ∷ 7 ∷ [];
  costs = 0 ∷ 0 ∷ 0 ∷ 0 ∷ 0 ∷ 0 ∷ 0 ∷ 0 ∷ 0 ∷ [];
  rates = 0 ∷ 0 ∷ 0 ∷ 0 ∷ 0 ∷ 0 ∷ 0 ∷ 0 ∷ 0 ∷ [];
  edges = [];
  outer = 0 ∷ 0 ∷ 0 ∷ [];
  targets = four_anywhere ∷ [];
  amounts = (0, 0, 20000) ∷ (1, 0, 30000) ∷ (2, 0, 40000) ∷ [];
  fractions = 0 ∷ 1000000 ∷ 1000000 ∷ [];
}

-- no unit at all
unfoldable pub no_units : Parts
no_units = record {
  unit_ids = [];
  zone_ids = 1 ∷ 2 ∷ [];
  feature_ids = [];
  names = [];
  available = 0;
  allowed = [];
  costs = [];
  rates = 0 ∷ 1000000 ∷ 1000000 ∷ 0 ∷ [];
  edges = [];
  outer = [];
  targets = [];
  amounts = [];
  fractions = [];
}

-- one unit in two zones, the first one available: no neighbour, no feature
unfoldable pub lone_unit : Parts
lone_unit = record {
  unit_ids = 1 ∷ [];
  zone_ids = 1 ∷ 2 ∷ [];
  feature_ids = [];
  names = [];
  available = 0;
  allowed = 3 ∷ [];
  costs = 0 ∷ 100000 ∷ [];
  rates = 0 ∷ 1000000 ∷ 1000000 ∷ 0 ∷ [];
  edges = [];
  outer = 0 ∷ [];
  targets = [];
  amounts = [];
  fractions = [];
}
