-- A line of a parameter file that is taken, since its first word is a key.
use Rattle.std.specs.Prelude.{ℕ, List}
use Rattle.mz_params.specs.declared.key.Key.{Key}

-- a key, and what follows it on its line
pub record KeyLine : Type 0 where
  pub key : Key
  pub value : List ℕ
