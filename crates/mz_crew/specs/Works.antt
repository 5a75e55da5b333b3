-- What a worker does to its pass.
use Rattle.std.specs.Prelude.{◌≡◌, ◌<◌, ◌≤◌, ◌+◌, ◌*◌, ℕ, length}
use Rattle.mz_board.specs.Seen.{Begins}
use Rattle.mz_draw.specs.Words.{SeatWords}
use Rattle.mz_history.specs.World.{IsJournal}
use Rattle.mz_store.specs.declared.verdict.Verdict.{Verdict}
use Rattle.mz_store.specs.declared.verdict.Verdict.TheVariants.{Again, Decided, Full}
use Rattle.mz_store.specs.Pass.{PassState}
use Rattle.mz_store.specs.RunSetting.{RunSetting}
use Rattle.mz_store.specs.Verdict.{added}

-- the words of the pass's seat that so many of its draws leave
abbrev pub words_at : RunSetting → PassState → ℕ → SeatWords
words_at run pass draws = record { seed = run.setting.seed; run = run.setting.run; seat = pass.seat; taken = 3 * draws }

-- the pass has seen the whole journal, which is legal and has as many entries as it may have, each of one of the seats;
-- it begins with what the pass had seen
pub record Works (run : RunSetting) (old new : PassState) : Type 0 where
  pub store_is : new.store ≡ old.store
  pub seat_is : new.seat ≡ old.seat
  pub begins : Begins old.seen new.seen
  pub whole : length new.seen ≡ run.limit
  pub journal : IsJournal run.setting run.limit run.seats new.seen

-- where a verdict leaves the pass: it has seen the whole journal, or a longer one than before
abbrev pub Leads : RunSetting → PassState → PassState → Verdict → Type 0
Leads run old new (Decided receipt) = (old.reached < new.reached) × (new.reached ≤ run.limit)
Leads run old new (Again position) = (old.reached < new.reached) × (new.reached ≤ run.limit)
Leads run old new Full = (length new.seen ≡ run.limit) × IsJournal run.setting run.limit run.seats new.seen

-- a proposal: what the pass has then seen begins with what it had seen, and its next draw is another one only where
-- this one was decided
pub record Proposes (run : RunSetting) (old new : PassState) (verdict : Verdict) : Type 0 where
  pub store_is : new.store ≡ old.store
  pub seat_is : new.seat ≡ old.seat
  pub begins : Begins old.seen new.seen
  pub leads : Leads run old new verdict
  pub number_is : new.number ≡ old.number + length (added verdict)
