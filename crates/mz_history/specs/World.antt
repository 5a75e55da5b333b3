-- What contracts see of a world, and what its type keeps.
use Rattle.std.specs.Prelude.{◌≡◌, ◌<◌, ◌≤◌, ◌^◌, ℕ, List, length, Some}
use Rattle.std.specs.List.{All}
use Rattle.mz_num.specs.Limits.{greatest_score, most_proposals, most_runs, most_workers}
use Rattle.mz_model.specs.declared.score.Score.{Score}
use Rattle.mz_model.specs.Parts.{unit_count}
use Rattle.mz_model.specs.Plans.{IsLegalPlan}
use Rattle.mz_model.specs.Scores.{score_of_plan}
use Rattle.mz_model.specs.Valid.{IsValid}
use Rattle.mz_model.specs.Zones.{free_units}
use Rattle.mz_history.specs.declared.entry.Entry.{Entry}
use Rattle.mz_history.specs.declared.seat.SeatReading.{SeatReading}
use Rattle.mz_history.specs.declared.seat.SeatState.{SeatState}
use Rattle.mz_history.specs.Core.{Core}
use Rattle.mz_history.specs.Moves.{IsMove}
use Rattle.mz_history.specs.Replay.{IsLegalHistory, plan_of_history, Setting}

-- a core with what it is played with and the most entries that its journal may have
pub record WorldState : Type 0 where
  pub setting : Setting
  pub limit : ℕ
  pub core : Core

-- a world, by what it is played with, its journal and its seats
abbrev pub world_of : Setting → ℕ → List Entry → List SeatState → WorldState
world_of setting limit journal seats =
    record { setting = setting; limit = limit; core = record { journal = journal; seats = seats } }

-- what never changes
pub record IsPlayable (s : Setting) (limit seats : ℕ) : Type 0 where
  pub valid : IsValid s.parts
  pub some_free : 0 < length (free_units s.parts)
  pub runs : s.run ≤ most_runs
  pub few : limit ≤ most_proposals
  pub own_limit : limit ≡ s.cooling.limit
  pub workers : seats ≤ most_workers

-- the journal is a legal history of at most `limit` entries, each of one of the seats
pub record IsJournal (s : Setting) (limit seats : ℕ) (journal : List Entry) : Type 0 where
  pub history : IsLegalHistory s journal
  pub few : length journal ≤ limit
  pub owners : All (λ entry. entry.seat < seats) journal
  pub moves : All (IsMove s.parts) journal

-- a seat has seen no more than the journal, and its reading is of a unit of the problem
pub record IsSeat (s : Setting) (journal : List Entry) (state : SeatState) : Type 0 where
  pub seen : state.seen ≤ length journal
  pub unit : (reading : SeatReading) → state.reading ≡ Some reading → reading.unit < unit_count s.parts

-- the plan is that of the journal, beside its score
pub record IsPlayed (s : Setting) (journal : List Entry) (plan : List ℕ) (score : Score) : Type 0 where
  pub plan_is : plan ≡ plan_of_history s journal
  pub legal : IsLegalPlan s.parts plan
  pub score_is : score ≡ score_of_plan s.parts plan
  pub small : score.total ≤ greatest_score

pub record IsWorld (w : WorldState) (plan : List ℕ) (score : Score) (room : ℕ) : Type 0 where
  pub playable : IsPlayable w.setting w.limit (length w.core.seats)
  pub journal : IsJournal w.setting w.limit (length w.core.seats) w.core.journal
  pub seats : All (IsSeat w.setting w.core.journal) w.core.seats
  pub played : IsPlayed w.setting w.core.journal plan score
  pub room_is : w.limit ≤ room
