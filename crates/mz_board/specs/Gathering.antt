-- How the numbers go from the first view to the chairs, and from the chairs to the last one.
use Rattle.std.specs.Prelude.{◌≡◌, ◌-◌, ◌<◌, ◌≤◌, ℕ, List, [], None}
use Rattle.std.specs.List.{All}
use Rattle.mz_board.specs.declared.view.View.{View}
use Rattle.mz_board.specs.Chair.{BoardId, ChairState, Learns}
use Rattle.mz_board.specs.Views.{kept_from, new_post}
use Rattle.mz_board.specs.Invariant.{Keeps}
use Rattle.mz_board.specs.Steps.{Teaches}

-- the first view, once the numbers below n are dealt
abbrev pub dealt_to : {E S : Type 0} → BoardId S → ℕ → View E S
dealt_to lock n = record {
  number = 0;
  seats = lock.seats;
  setting = lock.setting;
  opening = lock.opening;
  seen = [];
  kept = kept_from n (lock.seats - n) [];
  told = [];
  taken = None;
  tries = 0;
  found = 0;
  post = new_post 0;
}

-- a view in which all chairs came together: what it is taught they all learn, and it has seen as many entries as each
pub record Gathers {E S : Type 0} (owner : E
    → ℕ) (seats : ℕ) (chairs : List (ChairState E S)) (v : View E S) : Type 0 where
  pub idle : v.taken ≡ None
  pub keeps : (n : ℕ) → n < seats → Keeps n v.kept
  pub teaches : (list : List E) → Teaches owner v list → All (λ chair. Learns owner chair list) chairs
  pub reached : (n : ℕ) → v.post.reached ≤ n → All (λ chair. chair.post.reached ≤ n) chairs
