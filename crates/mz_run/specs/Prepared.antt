-- From the words of the command line to a job.
use Rattle.std.specs.Prelude.{◌≡◌, ℕ, List, ◌∷◌, Option, Some, None, IfSome}
use Rattle.mz_shelf.specs.State.{State, Files}
use Rattle.mz_shelf.specs.Act.{after_all}
use Rattle.mz_shelf.specs.Chain.{DidAll, StoppedAt, StoppedBetween}
use Rattle.mz_params.specs.ParamFile.{IsAccepted}
use Rattle.mz_project.specs.GivenFiles.{given_files}
use Rattle.mz_project.specs.ReadAs.{IfTold, IsGiven, ReadEach}
use Rattle.mz_run.specs.declared.job.Job.{Job}
use Rattle.mz_run.specs.declared.status.Status.{Status}
use Rattle.mz_run.specs.declared.status.Status.TheVariants.{Words, ShelfFault, NoMemory}
use Rattle.mz_run.specs.Arguments.{Form, number_of, parameter_file, starting_acts, workers_of}
use Rattle.mz_run.specs.Project.{InputStopped, asked_of, project_of}
use Rattle.mz_run.specs.Run.{seed_of}

-- a fact of the files as the form has started them, where they are told
abbrev pub IfStarted : Form → State → (Files → Type 0) → Type 0
IfStarted form old P = IfSome (after_all (starting_acts form) old.contents).files P

-- a project was accepted: the parameter file of this name and each file that it gives was read once, and they ask for
-- this problem and these accepted parameters; the workers and the number are these, and the random seed is that of the
-- parameters or the one that was handed in
pub record IsAcceptedJob (name : List ℕ) (workers : ℕ) (generated : Option ℕ) (chance : ℕ) (old new : State)
    (job : Job) : Type 0 where
  pub input : IsGiven (asked_of name) old new (project_of job.params job.problem)
  pub files : IfTold old (λ _. ReadEach (name ∷ given_files job.params) old new)
  pub accepted : IsAccepted job.params
  pub workers_are : job.workers ≡ workers
  pub generated_is : job.generated ≡ generated
  pub seed_is : job.seed ≡ seed_of job.params chance

-- the form was started, and its project was accepted
pub record IsPrepared (form : Form) (chance : ℕ) (old new : State) (job : Job) : Type 0 where
  pub started : State
  pub start : DidAll (starting_acts form) old started
  pub read : IsAcceptedJob (parameter_file form) (workers_of form) (number_of form) chance started new job

-- why the form wasn't started: a write failed, or memory ended the writing between two files
abbrev pub StartStopped : Form → State → State → Status → Type 0
StartStopped form old new (ShelfFault name) = StoppedAt (starting_acts form) name old new
StartStopped form old new NoMemory = StoppedBetween (starting_acts form) old new
StartStopped form old new status = ⊥

-- the form wasn't started, or it was and its input stopped
pub data IsInputStopped (form : Form) (old new : State) (status : Status) : Type 0 where
  in_starting : StartStopped form old new status → IsInputStopped form old new status
  in_reading : (started : State) → DidAll (starting_acts form) old started
      → InputStopped (asked_of (parameter_file form)) started new status → IsInputStopped form old new status

abbrev pub IsWords : Status → Type 0
IsWords Words = Unit {0}
IsWords status = ⊥

-- with a job
abbrev pub Prepared : Option Form → ℕ → State → State → Job → Type 0
Prepared None chance old new job = ⊥
Prepared (Some form) chance old new job = IsPrepared form chance old new job

-- without one: the words have no form, or the input stopped
abbrev pub NotPrepared : Option Form → State → State → Status → Type 0
NotPrepared None old new status = IsWords status × (new ≡ old)
NotPrepared (Some form) old new status = IsInputStopped form old new status
