-- A list beside the room that was reserved for it.
use Rattle.std.specs.Prelude.{ℕ, List}

pub record WithRoom (X : Type 0) : Type 0 where
  pub items : List X
  -- how many items it can have before it takes memory
  pub room : ℕ
