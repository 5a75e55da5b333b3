-- The weights of target rows.
use Rattle.std.specs.Prelude.{ℕ}
use Rattle.mz_model.specs.Amounts.{holders_of}
use Rattle.mz_penalty.specs.Base.{base_of}
use Rattle.mz_penalty.specs.Weight.{weight_of}
use Rattle.mz_targets.specs.Level.{level}
use Rattle.mz_project.specs.declared.region.Region.{Region}
use Rattle.mz_project.specs.Costs.{raw_costs_of}
use Rattle.mz_project.specs.Levels.{feature_at}

-- what the units cost that reach each level of a feature
abbrev pub bases_for : Region → ℕ → ℕ → ℕ
bases_for region feature = base_of (raw_costs_of region.area) (holders_of region.targets.amounts feature)

-- the weight of a row of that feature and level: the penalty factor times what the units cost that reach the level
abbrev pub weight_for : Region → ℕ → ℕ → ℕ
weight_for region feature level = weight_of (feature_at region.targets feature).spf (bases_for region feature level)
