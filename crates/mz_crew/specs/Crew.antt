-- The workers of a store.
use Rattle.std.specs.Prelude.{◌≡◌, ◌<◌, ℕ, List, length, slice_index_or}
use Rattle.std.specs.List.{All}
use Rattle.crossbeam_utils.specs.declared.cache_padded.CachePadded.{CachePadded}
use Rattle.crossbeam_utils.specs.Padded.{padded_value}
use Rattle.mz_model.specs.declared.parts.Parts.{Parts}
use Rattle.mz_model.specs.declared.score.Score.{Score}
use Rattle.mz_delta.specs.Rooms.{FitsJudged, FitsReading}
use Rattle.mz_history.specs.declared.entry.Entry.{Entry}
use Rattle.mz_history.specs.Replay.{Setting}
use Rattle.mz_state.specs.Closed.{IsClosed}
use Rattle.mz_store.specs.Leaves.{AreAllOf}
use Rattle.mz_store.specs.Pass.{PassState}
use Rattle.mz_store.specs.Store.{StoreState}
use Rattle.mz_crew.specs.declared.worker.Worker.{Worker}
use Rattle.mz_crew.specs.Works.{words_at}

-- a legal journal with exactly as many entries as it may have, each of one of the seats, with its plan, and what this
-- holds and scores
pub record IsAnnealed
    (setting : Setting) (limit seats : ℕ) (journal : List Entry) (plan totals : List ℕ) (score : Score)
    : Type 0 where
  pub closed : IsClosed (record { setting = setting; limit = limit; seats = seats; journal = journal })
      journal plan totals score
  pub whole : length journal ≡ limit

-- the worker has a pass of the store, its drawer stands at the pass's next draw, and its rooms fit
pub record IsReady (store : StoreState) (parts : Parts) (worker : CachePadded Worker) : Type 0 where
  pub here : (padded_value worker).pass.store ≡ store.board
  pub drawer : (padded_value worker).drawer
      ≡ words_at store.run (padded_value worker).pass (padded_value worker).pass.number
  pub reading : FitsReading parts (padded_value worker).reading
  pub judged : FitsJudged parts (padded_value worker).judged

-- a worker for each seat, in order
pub record AreReady (store : StoreState) (parts : Parts) (workers : List (CachePadded Worker)) : Type 0 where
  pub count : length workers ≡ store.run.seats
  pub ready : All (IsReady store parts) workers
  pub seats : (seat : ℕ) (default : CachePadded Worker) → seat < length workers
      → (padded_value (slice_index_or workers seat default)).pass.seat ≡ seat

-- the worker's pass is back, and has seen as many entries as the journal may have
pub record IsDone (store : StoreState) (worker : CachePadded Worker) (pass : PassState) : Type 0 where
  pub here : pass.store ≡ store.board
  pub seat_is : pass.seat ≡ (padded_value worker).pass.seat
  pub whole : length pass.seen ≡ store.run.limit

-- all passes of the store, each of which has seen as many entries as the journal may have
pub record AreDone (store : StoreState) (passes : List PassState) : Type 0 where
  pub all : AreAllOf store passes
  pub whole : All (λ pass. length pass.seen ≡ store.run.limit) passes
