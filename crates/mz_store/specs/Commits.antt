-- What commits answer, and what they leave.
use Rattle.std.specs.Prelude.{◌≡◌, ◌≢◌, ◌+◌, ◌<◌, ◌≤◌, ℕ, List, ◌++◌, length, None}
use Rattle.std.specs.List.{All}
use Rattle.mz_board.specs.Seen.{GrewByOthers}
use Rattle.mz_delta.specs.declared.reading.Reading.{Reading}
use Rattle.mz_history.specs.declared.entry.Entry.{Entry}
use Rattle.mz_history.specs.History.{entries_of_seat}
use Rattle.mz_history.specs.World.{IsJournal}
use Rattle.mz_state.specs.Looks.{IsRightFor}
use Rattle.mz_store.specs.declared.verdict.TryVerdict.{TryVerdict}
use Rattle.mz_store.specs.declared.verdict.TryVerdict.TheVariants as tried
use Rattle.mz_store.specs.declared.verdict.Verdict.{Verdict}
use Rattle.mz_store.specs.declared.verdict.Verdict.TheVariants.{Again, Decided, Full}
use Rattle.mz_store.specs.Pass.{PassState}
use Rattle.mz_store.specs.RunSetting.{RunSetting}
use Rattle.mz_store.specs.Verdict.{added, answer_of, verdict_on}

-- the journal as a pass takes the turn: a legal history of at most as many entries as it may have, each of one of the
-- seats; it begins with what the pass has seen, with none of its entries behind that, and has at least as many entries
-- as the pass had seen
pub record Finds (run : RunSetting) (pass : PassState) (history : List Entry) : Type 0 where
  pub journal : IsJournal run.setting run.limit run.seats history
  pub seen : GrewByOthers (λ (entry : Entry). entry.seat) pass.seat pass.seen history
  pub least : pass.reached ≤ length history

-- a commit answers exactly the verdict of the history that it finds on the reading, which is right for it; the pass
-- has then seen this history, with the new entry where there is one, which is of its next draw, and the reading is spent
pub record Commits (run : RunSetting) (old new : PassState) (reading : Reading) (verdict : Verdict) : Type 0 where
  pub history : List Entry
  pub finds : Finds run old history
  pub right : IsRightFor run.setting history reading
  pub verdict_is : verdict ≡ answer_of run.setting history old.seat (verdict_on run history reading)
  pub draw : All (λ (entry : Entry). (entry.seat ≡ old.seat) × (entry.number ≡ old.number)) (added verdict)
  pub own : entries_of_seat old.seat new.seen ≡ entries_of_seat old.seat old.seen ++ added verdict
  pub tries : old.tries ≤ new.tries
  pub now : new ≡ record old {
    seen = history ++ added verdict;
    reached = length (history ++ added verdict);
    number = old.number + length (added verdict);
    reading = None;
    tries = new.tries;
    found = new.found;
  }

-- a commit whose one try found the turn free
pub record CommitsAtOnce (run : RunSetting) (old new : PassState) (reading : Reading) (verdict : Verdict) : Type 0 where
  pub commits : Commits run old new reading verdict
  pub tries : new.tries ≡ old.tries
  pub found : new.found ≡ old.found

-- the try failed, since another pass has the turn; nothing is spent
pub record IsBusy (run : RunSetting) (old new : PassState) (seat : ℕ) : Type 0 where
  pub other : seat ≢ old.seat
  pub within : seat < run.seats
  pub now : new ≡ record old { tries = old.tries + 1; found = seat + 1 }

abbrev pub Tries : RunSetting → PassState → PassState → Reading → TryVerdict → Type 0
Tries run old new reading (tried.Decided receipt) = CommitsAtOnce run old new reading (Decided receipt)
Tries run old new reading (tried.Again position) = CommitsAtOnce run old new reading (Again position)
Tries run old new reading tried.Full = CommitsAtOnce run old new reading Full
Tries run old new reading (tried.Busy seat) = IsBusy run old new seat
