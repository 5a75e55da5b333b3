-- How the work at a job ends, and what the shelf holds then.
use Rattle.std.specs.Prelude.{◌≡◌, ◌<◌, ℕ, List, [], ◌∷◌, ◌++◌, length, Result, Ok, Err}
use Rattle.mz_shelf.specs.State.{State}
use Rattle.mz_shelf.specs.Act.{Act}
use Rattle.mz_shelf.specs.Act.Act.{Say}
use Rattle.mz_shelf.specs.Shelf.{DidAct, ActFailed}
use Rattle.mz_shelf.specs.Chain.{DidAll, StoppedAt, StoppedBetween}
use Rattle.mz_shelf.specs.declared.stop.Stop.{Stop}
use Rattle.mz_shelf.specs.declared.stop.Stop.TheVariants.{Fault, NoMemory as NoMemoryStop}
use Rattle.mz_run.specs.declared.status.Status.{Status}
use Rattle.mz_run.specs.declared.status.Status.TheVariants.{Done, ShelfFault, NoMemory}
use Rattle.mz_run.specs.declared.job.Job.{Job}
use Rattle.mz_files.specs.declared.trail.RunTrail.{RunTrail}
use Rattle.mz_run.specs.Acts.{opening_acts, run_acts, closing_acts, acts_of_runs, acts_of}
use Rattle.mz_run.specs.Refusal.{refusal_line}

-- the status that a chain's end gives
abbrev pub status_of_stop : Stop → Status
status_of_stop (Fault name) = ShelfFault name
status_of_stop NoMemoryStop = NoMemory

abbrev pub status_of : {X : Type 0} → Result X Stop → Status
status_of (Ok x) = Done
status_of (Err stop) = status_of_stop stop

-- all acts were done, with a trail for each run
pub record DidWhole (job : Job) (trails : List RunTrail) (reports : List ℕ) (old new : State) : Type 0 where
  pub runs : length trails ≡ job.params.reps
  pub acts : DidAll (acts_of job trails reports) old new

-- the stage of the work in which these are the trails: what was done before it, and its acts. A run in which the work
-- stops has its trail, and is one of those that were to be done
pub data Stage (job : Job) (reports : List ℕ) : List RunTrail → List Act → List Act → Type 0 where
  in_opening : Stage job reports [] [] (opening_acts job)
  in_run : (earlier : List RunTrail) (trail : RunTrail) → length earlier < job.params.reps
      → Stage job reports (earlier ++ trail ∷ []) (acts_of_runs job earlier) (run_acts job trail)
  in_closing : (trails : List RunTrail) → length trails ≡ job.params.reps
      → Stage job reports trails (acts_of_runs job trails) (closing_acts job trails reports)

-- a call on this name failed in the stage of these trails, and nothing was tried behind it
pub record FailedInStage (job : Job) (trails : List RunTrail) (reports : List ℕ)
    (name : List ℕ) (old new : State) : Type 0 where
  pub done : List Act
  pub acts : List Act
  pub stage : Stage job reports trails done acts
  pub between : State
  pub whole : DidAll done old between
  pub stopped : StoppedAt acts name between new

-- what was done for a job, by its status
abbrev pub Worked : Job → List RunTrail → List ℕ → State → State → Status → Type 0
Worked job trails reports old new Done = DidWhole job trails reports old new
Worked job trails reports old new (ShelfFault name) = FailedInStage job trails reports name old new
Worked job trails reports old new NoMemory = StoppedBetween (acts_of job trails reports) old new
Worked job trails reports old new status = ⊥

-- the refusal line was said whole; or a front of it, where the faults rose in its own say; or nothing, for want
-- of memory
pub data SaysLine (line : List ℕ) (old new : State) : Type 0 where
  said : DidAct (Say line) old new → SaysLine line old new
  failed : ActFailed (Say line) old new → SaysLine line old new
  unsaid : new ≡ old → SaysLine line old new

-- what is said of a status: nothing of a good end and of want of memory
abbrev pub Refuses : Status → State → State → Type 0
Refuses Done old new = new ≡ old
Refuses NoMemory old new = new ≡ old
Refuses status old new = SaysLine (refusal_line status) old new
