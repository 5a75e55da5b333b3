-- A chain of acts, which the first fault ends.
use Rattle.std.specs.Prelude.{◌≡◌, ℕ, List, ◌∷◌, ◌++◌, take}
use Rattle.mz_shelf.specs.State.{State}
use Rattle.mz_shelf.specs.Act.{Act, after_all, name_of}
use Rattle.mz_shelf.specs.Shelf.{ActFailed}

-- all acts were done
pub record DidAll (acts : List Act) (old new : State) : Type 0 where
  pub contents : new.contents ≡ after_all acts old.contents
  pub counts : new.counts ≡ old.counts
  pub reads : new.reads ≡ old.reads

-- some acts were done whole, and the next, on this name, failed after some of its bytes
pub record StoppedAt (acts : List Act) (name : List ℕ) (old new : State) : Type 0 where
  pub done : List Act
  pub failed : Act
  pub left : List Act
  pub split : acts ≡ done ++ failed ∷ left
  pub named : name_of failed ≡ name
  pub between : State
  pub whole : DidAll done old between
  pub part : ActFailed failed between new

-- the first few acts were done whole, and no other
pub record StoppedBetween (acts : List Act) (old new : State) : Type 0 where
  pub count : ℕ
  pub contents : new.contents ≡ after_all (take count acts) old.contents
  pub counts : new.counts ≡ old.counts
  pub reads : new.reads ≡ old.reads
