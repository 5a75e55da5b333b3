-- What holds of each legal history.
use Rattle.std.specs.Prelude.{◌≡◌, ◌<◌, ◌≤◌, ℕ, ◌==◌, List, length, map, take}
use Rattle.std.specs.List.{All, filter, range_with_len}
use Rattle.mz_model.specs.Plans.{IsLegalPlan}
use Rattle.mz_history.specs.declared.entry.Entry.{Entry}
use Rattle.mz_history.specs.Core.{seats_of}
use Rattle.mz_history.specs.Replay.{IsLegalHistory, plan_of_history, Setting, turns_of}
use Rattle.mz_history.specs.World.{WorldState}

-- the entries of a seat, in order
abbrev pub entries_of_seat : ℕ → List Entry → List Entry
entries_of_seat seat history = filter (λ (entry : Entry). entry.seat == seat) history

-- each beginning is a legal history, the entries of each seat have the numbers 0, 1, 2 and so on, and the last plan is
-- legal
pub record IsHistory (s : Setting) (history : List Entry) : Type 0 where
  pub beginnings : (n : ℕ) → IsLegalHistory s (take n history)
  pub numbers : (seat : ℕ) → map (λ (entry : Entry). entry.number) (entries_of_seat seat history)
      ≡ range_with_len 0 (turns_of seat (seats_of history))
  pub last_plan : IsLegalPlan s.parts (plan_of_history s history)

-- the journal of a world is a history of at most as many entries as it may have, each of one of its seats
pub record IsSound (w : WorldState) : Type 0 where
  pub legal : IsLegalHistory w.setting w.core.journal
  pub history : IsHistory w.setting w.core.journal
  pub few : length w.core.journal ≤ w.limit
  pub owners : All (λ (entry : Entry). entry.seat < length w.core.seats) w.core.journal
