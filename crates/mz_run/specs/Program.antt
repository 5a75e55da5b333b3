-- What the top call promises of a whole run of the program.
use Rattle.std.specs.Prelude.{◌≡◌, ◌≤◌, ℕ, List, [], length, Option, Some, None}
use Rattle.mz_shelf.specs.State.{State, Files, Rose}
use Rattle.mz_shelf.specs.Act.{after_all}
use Rattle.mz_run.specs.declared.status.Status.{Status}
use Rattle.mz_run.specs.declared.status.Status.TheVariants.{Done, Input, ShelfFault, Absent, NoMemory}
use Rattle.mz_run.specs.declared.job.Job.{Job}
use Rattle.mz_run.specs.declared.job.Finished.{Finished}
use Rattle.mz_files.specs.declared.trail.RunTrail.{RunTrail}
use Rattle.mz_run.specs.Arguments.{Form, parameter_file, starting_acts}
use Rattle.mz_run.specs.Ending.{Worked, Refuses}
use Rattle.mz_run.specs.Prepared.{IfStarted, Prepared, NotPrepared}
use Rattle.mz_project.specs.Reads.{Outcome}
use Rattle.mz_project.specs.Reads.Outcome.{Missing, Refused, Given}
use Rattle.mz_run.specs.Project.{Project, asked_of}
use Rattle.mz_run.specs.Trail.{AreTrails}
use Rattle.mz_run.specs.Watching.{AreTold, reports_of}
use Rattle.mz_watch.specs.Watcher.{WatcherState}

-- with a job: it was prepared; then it was worked at, its trails are those of its first runs, and the watchers were
-- told these runs, each whole and in order
pub record EndsWithJob (form : Option Form) (chance : ℕ) (watching told : List WatcherState) (old new : State)
    (status : Status) (trails : List RunTrail) (job : Job) : Type 0 where
  pub between : State
  pub prepared : Prepared form chance old between job
  pub worked : Worked job trails (reports_of told) between new status
  pub runs : AreTrails job trails
  pub few : length trails ≤ job.params.reps
  pub watchers : AreTold job trails watching told

-- without a job: nothing was done for one, there are no trails, and the watchers were told nothing
pub record EndsWithoutJob (form : Option Form) (watching told : List WatcherState) (old new : State)
    (status : Status) (trails : List RunTrail) : Type 0 where
  pub refused : NotPrepared form old new status
  pub none : trails ≡ []
  pub watchers : told ≡ watching

abbrev pub EndsAs : Option Form → ℕ → List WatcherState → List WatcherState → State → State → Status
    → List RunTrail → Option Job → Type 0
EndsAs form chance watching told old new status trails (Some job) =
    EndsWithJob form chance watching told old new status trails job
EndsAs form chance watching told old new status trails None =
    EndsWithoutJob form watching told old new status trails

-- a whole run of the program, with the watchers as they were and as they are: what was done before the refusal is
-- said, and then the refusal
pub record RunsProgram (form : Option Form) (chance : ℕ) (watching told : List WatcherState) (old new : State)
    (finished : Finished) : Type 0 where
  pub before : State
  pub ends : EndsAs form chance watching told old before finished.status finished.trails finished.job
  pub refusal : Refuses finished.status before new

-- a good end leaves all counts of the shelf as they were, and so does want of memory
abbrev pub LeavesCounts : Status → State → State → Type 0
LeavesCounts Done old new = new.counts ≡ old.counts
LeavesCounts NoMemory old new = new.counts ≡ old.counts
LeavesCounts status old new = Unit {0}

-- the answers that the input may have, besides a fault of the shelf and want of memory
abbrev pub IsAnswerTo : Outcome Project → Status → Type 0
IsAnswerTo asked NoMemory = Unit {0}
IsAnswerTo asked (ShelfFault name) = Unit {0}
IsAnswerTo (Missing name) (Absent missing) = missing ≡ name
IsAnswerTo (Refused fault) (Input refused) = refused ≡ fault
IsAnswerTo (Given project) Done = Unit {0}
IsAnswerTo asked status = ⊥

-- no count rose
pub record NoneRose (old new : State) : Type 0 where
  pub faults : ¬ Rose old.counts.faults new.counts.faults
  pub misses : ¬ Rose old.counts.misses new.counts.misses
  pub overs : ¬ Rose old.counts.overs new.counts.overs

-- the status is a good end or want of memory
abbrev pub IsDoneOrNoMemory : Status → Type 0
IsDoneOrNoMemory Done = Unit {0}
IsDoneOrNoMemory NoMemory = Unit {0}
IsDoneOrNoMemory status = ⊥

-- files that are told as the form has started them, and are accepted
pub record IsAcceptedInput (form : Form) (old : State) : Type 0 where
  pub files : Files
  pub told : (after_all (starting_acts form) old.contents).files ≡ Some files
  pub project : Project
  pub asked : (asked_of (parameter_file form) files).outcome ≡ Given project

-- the answer is one that the input may have, where the files are told
abbrev pub AnswersInput : Form → State → Status → Type 0
AnswersInput form old status =
    IfStarted form old (λ files. IsAnswerTo (asked_of (parameter_file form) files).outcome status)

-- accepted files, and no count that rose, come to a good end or to want of memory
abbrev pub Completes : Form → State → State → Status → Type 0
Completes form old new status = IsAcceptedInput form old → NoneRose old new → IsDoneOrNoMemory status

-- a job was worked at, and what came of it was said
pub record RunsJob (job : Job) (watching told : List WatcherState) (old new : State) (finished : Finished)
    : Type 0 where
  pub before : State
  pub worked : Worked job finished.trails (reports_of told) old before finished.status
  pub runs : AreTrails job finished.trails
  pub few : length finished.trails ≤ job.params.reps
  pub watchers : AreTold job finished.trails watching told
  pub refusal : Refuses finished.status before new
  pub same_job : finished.job ≡ Some job
