-- The annealing history of a list of turns.
use Rattle.std.specs.Prelude.{◌≡◌, ℕ, ◌==◌, List, [], ◌∷◌, ◌++◌, length, map, count_by}
use Rattle.mz_model.specs.declared.parts.Parts.{Parts}
use Rattle.mz_model.specs.Zones.{free_units, counts_of}
use Rattle.mz_draw.specs.Draws.{draw_at}
use Rattle.mz_cool.specs.Schedule.{Cooling}
use Rattle.mz_history.specs.declared.entry.Entry.{Entry}
use Rattle.mz_history.specs.Entry.{next_entry, plan_after}
use Rattle.mz_history.specs.Start.{starting_plan}

-- what a history is played with
pub record Setting : Type 0 where
  pub parts : Parts
  pub cooling : Cooling
  pub prop : ℕ
  pub seed : ℕ
  pub run : ℕ

-- how many of the turns are the seat's
abbrev pub turns_of : ℕ → List ℕ → ℕ
turns_of seat turns = count_by (λ turn. turn == seat) turns

-- the entry of a seat's turn, which takes the seat's next unused draw, after the earlier turns
abbrev pub entry_of_turn : Setting → List ℕ → List ℕ → ℕ → Entry
entry_of_turn s earlier plan seat =
    next_entry s.parts s.cooling plan (length earlier) seat
    (draw_at s.seed s.run seat (free_units s.parts) (counts_of s.parts) (turns_of seat earlier))

-- the entries of turns that follow earlier ones, from a plan on
unfoldable pub entries_from : Setting → List ℕ → List ℕ → List ℕ → List Entry
entries_from s earlier plan [] = []
entries_from s earlier plan (seat ∷ turns) =
    entry_of_turn s earlier plan seat
    ∷ entries_from s (earlier ++ seat ∷ []) (plan_after plan (entry_of_turn s earlier plan seat)) turns

-- the history that a list of turns plays from the starting plan
abbrev pub replay_of : Setting → List ℕ → List Entry
replay_of s turns = entries_from s [] (starting_plan s.parts s.prop s.seed s.run) turns

-- the plan that is left by entries from a plan on
abbrev pub plan_after_all : List ℕ → List Entry → List ℕ
plan_after_all plan [] = plan
plan_after_all plan (entry ∷ entries) = plan_after_all (plan_after plan entry) entries

-- the plan of a history
abbrev pub plan_of_history : Setting → List Entry → List ℕ
plan_of_history s entries = plan_after_all (starting_plan s.parts s.prop s.seed s.run) entries

-- a list of entries is a legal history where it is the one that its own turns play
abbrev pub IsLegalHistory : Setting → List Entry → Type 0
IsLegalHistory s entries = entries ≡ replay_of s (map (λ (entry : Entry). entry.seat) entries)
