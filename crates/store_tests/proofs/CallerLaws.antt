-- A decided entry is the next one.
use Rattle.std.proofs.Common.{◌≡◌, ℕ, List, length, ap}
use Rattle.mz_delta.specs.declared.reading.Reading.{Reading}
use Rattle.mz_history.specs.declared.entry.Entry.{Entry}
use Rattle.mz_history.specs.Core.{entry_of_seat}
use Rattle.mz_history.specs.Replay.{Setting}
use Rattle.mz_history.specs.Verdict as core
use Rattle.mz_history.specs.Verdict.{again, decided, full}
use Rattle.mz_state.specs.declared.receipt.Receipt.{Receipt}
use Rattle.mz_store.specs.declared.verdict.Verdict.{Verdict}
use Rattle.mz_store.specs.declared.verdict.Verdict.TheVariants.{Again, Decided, Full}
use Rattle.mz_store.specs.Commits.{Commits}
use Rattle.mz_store.specs.Pass.{PassState}
use Rattle.mz_store.specs.RunSetting.{RunSetting}
use Rattle.mz_store.specs.Verdict.{answer_of, verdict_on}
use Rattle.store_tests.specs.Caller.{DecidesNext}

record IsEntry (s : Setting) (history : List Entry) (seat : ℕ) (receipt : Receipt) : Type 0 where
  position : receipt.position ≡ length history
  entry : receipt.entry ≡ entry_of_seat s history seat

decided-entry : (s : Setting) (history : List Entry) (seat : ℕ) (receipt : Receipt) (v : core.Verdict) → Decided receipt ≡ answer_of s history seat v → IsEntry s history seat receipt
decided-entry s history seat receipt full e = absurd (cc)
decided-entry s history seat receipt (again position) e = absurd (cc)
decided-entry s history seat receipt decided e =
    let same : receipt ≡ record { position = length history; entry = entry_of_seat s history seat } = cc in
    record { position = ap (λ (r : Receipt). r.position) same; entry = ap (λ (r : Receipt). r.entry) same }

pub decides-next : (run : RunSetting) (old new : PassState) (reading : Reading) (verdict : Verdict) → Commits run old new reading verdict → DecidesNext run old verdict
decides-next run old new reading Full commits = tt
decides-next run old new reading (Again position) commits = tt
decides-next run old new reading (Decided receipt) commits =
    let is = decided-entry run.setting commits.history old.seat receipt (verdict_on run commits.history reading) commits.verdict_is in record {
      history = commits.history;
      legal = commits.finds.journal.history;
      begins = record { rest = commits.finds.seen.rest; is = commits.finds.seen.is };
      least = commits.finds.least;
      position = is.position;
      entry = is.entry;
    }
