-- What contracts see of a kept state, and what its type keeps.
use Rattle.std.specs.Prelude.{◌≡◌, ◌<◌, ◌≤◌, ℕ, List}
use Rattle.mz_num.specs.Limits.{most_proposals, most_runs, most_workers}
use Rattle.mz_num.specs.Places.{list_below}
use Rattle.mz_cool.specs.declared.level.Level.{Level}
use Rattle.mz_cool.specs.Level.{IsLevelFrom}
use Rattle.mz_cool.specs.Schedule.{Cooling}
use Rattle.mz_model.specs.declared.score.Score.{Score}
use Rattle.mz_model.specs.Items.{row_item, unit_item}
use Rattle.mz_model.specs.Parts.{target_count, unit_count}
use Rattle.mz_model.specs.Valid.{IsValid}
use Rattle.mz_delta.specs.Reading.{totals_of_plan}
use Rattle.mz_history.specs.declared.entry.Entry.{Entry}
use Rattle.mz_history.specs.Core.{seats_of}
use Rattle.mz_history.specs.Replay.{Setting, turns_of}
use Rattle.mz_history.specs.World.{IsJournal, IsPlayed}
use Rattle.mz_state.specs.Versions.{last_accepted, version_of}

-- what a run is played with, the most entries that its journal may have, its number of seats, and the journal so far
pub record KeptState : Type 0 where
  pub setting : Setting
  pub limit : ℕ
  pub seats : ℕ
  pub journal : List Entry

-- the journal is a legal history of a problem, of at most `limit` entries, each of one of the seats
pub record IsKept (k : KeptState) : Type 0 where
  pub valid : IsValid k.setting.parts
  pub runs : k.setting.run ≤ most_runs
  pub few : k.limit ≤ most_proposals
  pub own_limit : k.limit ≡ k.setting.cooling.limit
  pub workers : k.seats ≤ most_workers
  pub journal : IsJournal k.setting k.limit k.seats k.journal

-- the versions are those of the units, of the target rows, and of all items
pub record AreVersions (k : KeptState) (units rows : List ℕ) (last : ℕ) : Type 0 where
  pub units_are : units ≡ list_below (unit_count k.setting.parts)
      (λ unit. version_of k.setting.parts k.journal (unit_item unit))
  pub rows_are : rows ≡ list_below (target_count k.setting.parts)
      (λ row. version_of k.setting.parts k.journal (row_item row))
  pub last_is : last ≡ last_accepted k.journal

-- all that is kept beside the journal is what the journal says: its plan with totals and score, each seat's next draw,
-- and the versions
pub record AgreesWithJournal
    (k : KeptState) (draws plan totals : List ℕ) (score : Score) (units rows : List ℕ) (last : ℕ)
    : Type 0 where
  pub played : IsPlayed k.setting k.journal plan score
  pub totals_are : totals ≡ totals_of_plan k.setting.parts plan
  pub draws_are : draws ≡ list_below k.seats (λ seat. turns_of seat (seats_of k.journal))
  pub versions : AreVersions k units rows last

-- what the type keeps; the room is how many entries the journal can have without taking memory
pub record Keeps
    (k : KeptState) (draws plan totals : List ℕ) (score : Score) (units rows : List ℕ) (last room : ℕ)
    : Type 0 where
  pub kept : IsKept k
  pub agrees : AgreesWithJournal k draws plan totals score units rows last
  pub room_is : k.limit ≤ room

-- the level is that of the position, where the journal may still have an entry there
pub record KnowsLevel (cooling : Cooling) (limit position : ℕ) (level : Level) : Type 0 where
  pub from : IsLevelFrom cooling position level
  pub here : position < limit → position < level.end
