-- What a caller of a store knows of its entries, by the store's contracts alone.
use Rattle.std.specs.Prelude.{◌≡◌, ◌≤◌, List, length}
use Rattle.mz_board.specs.Seen.{Begins}
use Rattle.mz_history.specs.declared.entry.Entry.{Entry}
use Rattle.mz_history.specs.Core.{entry_of_seat}
use Rattle.mz_history.specs.Replay.{IsLegalHistory}
use Rattle.mz_state.specs.declared.receipt.Receipt.{Receipt}
use Rattle.mz_store.specs.declared.verdict.Verdict.{Verdict}
use Rattle.mz_store.specs.declared.verdict.Verdict.TheVariants.{Again, Decided, Full}
use Rattle.mz_store.specs.Pass.{PassState}
use Rattle.mz_store.specs.RunSetting.{RunSetting}

-- the entry is the next one of the pass's seat in a legal history that begins with what the pass had seen, and that has
-- at least as many entries as it had seen
pub record IsNext (run : RunSetting) (pass : PassState) (receipt : Receipt) : Type 0 where
  pub history : List Entry
  pub legal : IsLegalHistory run.setting history
  pub begins : Begins pass.seen history
  pub least : pass.reached ≤ length history
  pub position : receipt.position ≡ length history
  pub entry : receipt.entry ≡ entry_of_seat run.setting history pass.seat

abbrev pub DecidesNext : RunSetting → PassState → Verdict → Type 0
DecidesNext run pass (Decided receipt) = IsNext run pass receipt
DecidesNext run pass (Again position) = Unit {0}
DecidesNext run pass Full = Unit {0}
