-- How the numbers go from the first view to the chairs, and from the chairs to the last one.
use Rattle.std.specs.Prelude.{◌≡◌, ◌-◌, ◌<◌, ℕ, List, [], None}
use Rattle.std.specs.List.{All}
use Rattle.mz_turn.specs.declared.view.View.{View}
use Rattle.mz_turn.specs.Chair.{LockId, ChairState, Learns}
use Rattle.mz_turn.specs.Views.{kept_from}
use Rattle.mz_turn.specs.Invariant.{Keeps}
use Rattle.mz_turn.specs.Steps.{Teaches}

-- the first view, once the numbers below n are dealt
abbrev pub dealt_to : {E S : Type 0} → LockId E S → ℕ → View E S
dealt_to lock n = record {
  number = 0;
  seats = lock.seats;
  setting = lock.setting;
  opening = lock.opening;
  seen = lock.opening;
  kept = kept_from n (lock.seats - n) lock.opening;
  told = [];
  taken = None;
  tries = 0;
  found = 0;
}

-- a view in which all chairs came together: what it is taught they all learn
pub record Gathers {E S : Type 0} (owner : E → ℕ) (seats : ℕ) (chairs : List (ChairState E S))
    (v : View E S) : Type 0 where
  pub idle : v.taken ≡ None
  pub keeps : (n : ℕ) → n < seats → Keeps n v.kept
  pub teaches : (list : List E) → Teaches owner v list → All (λ chair. Learns owner chair list) chairs
