-- What a commit is answered.
use Rattle.std.specs.Prelude.{ℕ, List, [], ◌∷◌, length}
use Rattle.mz_history.specs.declared.entry.Entry.{Entry}
use Rattle.mz_history.specs.Core.{entry_of_seat}
use Rattle.mz_history.specs.Replay.{Setting}
use Rattle.mz_history.specs.Verdict as core
use Rattle.mz_history.specs.Verdict.{full, again, decided, verdict_of}
use Rattle.mz_delta.specs.declared.reading.Reading.{Reading}
use Rattle.mz_store.specs.declared.verdict.TryVerdict.{TryVerdict}
use Rattle.mz_store.specs.declared.verdict.TryVerdict.TheVariants as tried
use Rattle.mz_store.specs.declared.verdict.Verdict.{Verdict}
use Rattle.mz_store.specs.declared.verdict.Verdict.TheVariants.{Again, Decided, Full}
use Rattle.mz_store.specs.RunSetting.{RunSetting}

-- a verdict on what a seat commits after a history; what is decided becomes the entry that the seat's next draw makes
-- of the history's last plan
abbrev pub answer_of : Setting → List Entry → ℕ → core.Verdict → Verdict
answer_of s history seat full = Full
answer_of s history seat (again position) = Again position
answer_of s history seat decided = Decided (record { position = length history; entry = entry_of_seat s history seat })

-- the verdict of the history on a reading
abbrev pub verdict_on : RunSetting → List Entry → Reading → core.Verdict
verdict_on run history reading = verdict_of run.setting.parts history run.limit reading.front reading.unit

-- the entries that a verdict adds
abbrev pub added : Verdict → List Entry
added (Decided receipt) = receipt.entry ∷ []
added (Again position) = []
added Full = []

-- that of a try which finds the turn free
abbrev pub try_of : Verdict → TryVerdict
try_of (Decided receipt) = tried.Decided receipt
try_of (Again position) = tried.Again position
try_of Full = tried.Full
