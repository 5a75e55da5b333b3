-- What passes tell each other, and what a store leaves.
use Rattle.std.specs.Prelude.{◌≡◌, ◌<◌, ◌≤◌, ℕ, List, length, max, None}
use Rattle.std.specs.List.{All, Contains}
use Rattle.mz_board.specs.Seen.{Begins}
use Rattle.mz_model.specs.declared.score.Score.{Score}
use Rattle.mz_history.specs.declared.entry.Entry.{Entry}
use Rattle.mz_history.specs.History.{entries_of_seat}
use Rattle.mz_state.specs.Closed.{IsClosed}
use Rattle.mz_store.specs.Pass.{PassState}
use Rattle.mz_store.specs.Store.{StoreState}
use Rattle.mz_store.specs.Told.{WordsFollow}

-- both passes have then the longer of the two seen lists, which begins with both, and the greater of the two numbers
-- of entries seen; their own entries stay, and their readings are spent
pub record Meets (one other one' other' : PassState) : Type 0 where
  pub seen : List Entry
  pub first : Begins one.seen seen
  pub second : Begins other.seen seen
  pub longer : length seen ≡ max (length one.seen) (length other.seen)
  pub first_own : entries_of_seat one.seat seen ≡ entries_of_seat one.seat one.seen
  pub second_own : entries_of_seat other.seat seen ≡ entries_of_seat other.seat other.seen
  pub first_now : one' ≡ record one { seen = seen; reached = max one.reached other.reached; reading = None }
  pub second_now : other' ≡ record other { seen = seen; reached = max one.reached other.reached; reading = None }

-- all passes of a store, one for each seat
pub record AreAllOf (s : StoreState) (passes : List PassState) : Type 0 where
  pub count : length passes ≡ s.run.seats
  pub here : All (λ pass. pass.store ≡ s.board) passes
  pub every : (seat : ℕ) → seat < s.run.seats → (pass : PassState) × Contains passes pass × (pass.seat ≡ seat)

-- the journal that a store leaves begins with what the pass has seen, its entries of the pass's seat are the pass's own,
-- and it has at least as many entries as the pass has seen
pub record Holds (journal : List Entry) (pass : PassState) : Type 0 where
  pub seen : Begins pass.seen journal
  pub own : entries_of_seat pass.seat journal ≡ entries_of_seat pass.seat pass.seen
  pub least : pass.reached ≤ length journal

-- a legal journal of the run that holds what each pass has, with its plan, and what this holds and scores; its writes
-- lead from the opening words to the plan
pub record Closes
    (s : StoreState) (passes : List PassState) (journal : List Entry) (plan totals : List ℕ) (score : Score)
    : Type 0 where
  pub closed : IsClosed
      (record { setting = s.run.setting; limit = s.run.limit; seats = s.run.seats; journal = journal })
      journal plan totals score
  pub holds : All (Holds journal) passes
  pub words : WordsFollow s.run.setting s.board.opening journal
