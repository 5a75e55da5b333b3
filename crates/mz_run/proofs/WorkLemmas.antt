-- The stages of the work, and the whole run of the program.
use Rattle.std.proofs.Common.{◌≡◌, ℕ, ◌+◌, ◌-◌, ◌<◌, ◌≤◌, arith, List, [], ◌∷◌, ◌++◌, length, Result, Ok, Err, Option, Some, None, refl, sym, ap, subst, ◌∙◌, append_assoc, append-nil}
use Rattle.std.specs.Prelude.{if◌then◌else◌, slice_index, IfSome}
use Rattle.std.specs.Option.{option_map}
use Rattle.std.proofs.lemmas.Bool.{eq-eqb}
use Rattle.std.proofs.lemmas.Grind.{flat_map-append}
use Rattle.mz_shelf.specs.State.{State, Files, Contents, KeepsCounts, OneFault}
use Rattle.mz_shelf.specs.Act.{Act}
use Rattle.mz_shelf.specs.Chain.{DidAll, StoppedBetween}
use Rattle.mz_shelf.specs.Performed.{Stopped, Performed}
use Rattle.mz_shelf.specs.declared.stop.Stop.{Stop}
use Rattle.mz_shelf.specs.declared.stop.Stop.TheVariants.{Fault, NoMemory as NoMemoryStop}
use Rattle.mz_shelf.proofs.ChainLemmas.{DidAll-nil, DidAll-append, StoppedAt-one_fault, StoppedBetween-all, StoppedBetween-after, StoppedBetween-before}
use Rattle.mz_shelf.proofs.CountLemmas.{KeepsCounts-same, KeepsCounts-fault, OneFault-from, Rose-once, Rose-to}
use Rattle.mz_project.specs.ReadAs.{IfTold}
use Rattle.mz_project.specs.Reads.{Outcome, Reads}
use Rattle.mz_project.specs.Reads.Outcome.{Given, Missing, Refused}
use Rattle.mz_run.specs.declared.job.Job.{Job}
use Rattle.mz_run.specs.declared.job.Finished.{Finished}
use Rattle.mz_run.specs.declared.status.Status.{Status}
use Rattle.mz_run.specs.declared.status.Status.TheVariants.{Done, Words, Input, ShelfFault, Absent, NoMemory}
use Rattle.mz_files.specs.declared.trail.RunTrail.{RunTrail}
use Rattle.mz_run.specs.declared.counted.Counted.{Counted}
use Rattle.mz_run.specs.declared.runs.BestRun.{BestRun}
use Rattle.mz_run.specs.Arguments.{Form, parameter_file, starting_acts}
use Rattle.mz_run.specs.Acts.{acts_for_best, acts_of, acts_of_runs, acts_of_trails, best_acts, closing_acts, opening_acts, run_acts, totals_of_runs}
use Rattle.mz_run.specs.Best.{Best, run_at}
use Rattle.mz_run.specs.Ending.{Worked, SaysLine, Refuses, status_of, status_of_stop}
use Rattle.mz_run.specs.Ending.SaysLine.{said, failed, unsaid}
use Rattle.mz_run.specs.Ending.Stage.{in_opening, in_run, in_closing}
use Rattle.mz_run.specs.Prepared.{IfStarted, IsInputStopped, IsPrepared, IsWords, NotPrepared, Prepared, StartStopped}
use Rattle.mz_run.specs.Prepared.IsInputStopped.{in_reading, in_starting}
use Rattle.mz_run.specs.Program.{AnswersInput, Completes, IsAcceptedInput, IsAnswerTo, IsDoneOrNoMemory, LeavesCounts, NoneRose, RunsJob, RunsProgram}
use Rattle.mz_run.specs.Project.{InputStopped, Project, asked_of, project_of}
use Rattle.mz_run.specs.Ran.{IsBestRun, RanFirst, RunsStopped, StopsIn, best_in}
use Rattle.mz_run.specs.Ran.StopsIn.{between_runs, in_one}
use Rattle.mz_run.specs.Trail.{AreTrails}
use Rattle.mz_run.specs.Watching.{AreTold, reports_of}
use Rattle.mz_watch.specs.Watcher.{WatcherState}

-- the opening stopped
opening_fails : (job : Job) (reports : List ℕ) (old new : State) (stop : Stop) → Stopped (opening_acts job) old new stop → Worked job [] reports old new (status_of_stop stop)
opening_fails job reports old new (Fault name) h = record { done = []; acts = opening_acts job; stage = in_opening; between = old; whole = DidAll-nil old; stopped = h }
opening_fails job reports old new NoMemoryStop h = StoppedBetween-before _ h

pub opening_stopped : (job : Job) (trails : List RunTrail) (reports : List ℕ) (old new : State) (stop : Stop) → trails ≡ [] → Stopped (opening_acts job) old new stop → Worked job trails reports old new (status_of_stop stop)
opening_stopped job trails reports old new stop none h = subst (λ (ts : List RunTrail). Worked job ts reports old new (status_of_stop stop)) (sym none) (opening_fails job reports old new stop h)

-- the runs stopped
acts_of_runs-push : (job : Job) (trails : List RunTrail) (trail : RunTrail) → acts_of_runs job (trails ++ trail ∷ []) ≡ acts_of_runs job trails ++ run_acts job trail
acts_of_runs-push job trails trail =
    ap (λ (acts : List Act). opening_acts job ++ acts) (flat_map-append (run_acts job) trails (trail ∷ []) ∙ ap (λ (acts : List Act). acts_of_trails job trails ++ acts) (append-nil (run_acts job trail)))
    ∙ sym (append_assoc (opening_acts job) (acts_of_trails job trails) (run_acts job trail))

run_fails : (job : Job) (earlier : List RunTrail) (trail : RunTrail) (reports : List ℕ) (old between new : State) (stop : Stop) → length earlier < job.params.reps → DidAll (acts_of_runs job earlier) old between → Stopped (run_acts job trail) between new stop
    → Worked job (earlier ++ trail ∷ []) reports old new (status_of_stop stop)
run_fails job earlier trail reports old between new (Fault name) few did h = record { done = acts_of_runs job earlier; acts = run_acts job trail; stage = in_run earlier trail few; between = between; whole = did; stopped = h }
run_fails job earlier trail reports old between new NoMemoryStop few did h =
    StoppedBetween-before _ (subst (λ (acts : List Act). StoppedBetween acts old new) (sym (acts_of_runs-push job earlier trail)) (StoppedBetween-after did h))

runs_end : (job : Job) (trails : List RunTrail) (reports : List ℕ) (old opened new : State) (stop : Stop) → DidAll (opening_acts job) old opened → StopsIn job trails opened new stop → Worked job trails reports old new (status_of_stop stop)
runs_end job trails reports old opened new stop first (between_runs memory did) =
    subst (λ (s : Stop). Worked job trails reports old new (status_of_stop s)) (sym memory) (StoppedBetween-before _ (StoppedBetween-all (DidAll-append first did)))
runs_end job trails reports old opened new stop first (in_one earlier trail between split few did h) =
    subst (λ (ts : List RunTrail). Worked job ts reports old new (status_of_stop stop)) (sym split) (run_fails job earlier trail reports old between new stop few (DidAll-append first did) h)

pub runs_stopped : (job : Job) (trails : List RunTrail) (reports : List ℕ) (old opened new : State) (stop : Stop) → DidAll (opening_acts job) old opened → RunsStopped job trails opened new stop → Worked job trails reports old new (status_of_stop stop)
runs_stopped job trails reports old opened new stop first h = runs_end job trails reports old opened new stop first h.ends

-- the closing comes after the last run
last_acts : (job : Job) (trails : List RunTrail) (reports : List ℕ) → length trails ≡ job.params.reps → acts_of job trails reports ≡ acts_of_runs job trails ++ closing_acts job trails reports
last_acts job trails reports whole =
    ap (λ b. acts_of_runs job trails ++ (if b then closing_acts job trails reports else [])) (eq-eqb (length trails) job.params.reps whole)

closing_ends : {X : Type 0} (job : Job) (trails : List RunTrail) (reports : List ℕ) (old between new : State) (r : Result X Stop) → length trails ≡ job.params.reps → DidAll (acts_of_runs job trails) old between
    → Performed (closing_acts job trails reports) between new r → Worked job trails reports old new (status_of r)
closing_ends job trails reports old between new (Ok x) whole did h = record { runs = whole; acts = subst (λ (acts : List Act). DidAll acts old new) (sym (last_acts job trails reports whole)) (DidAll-append did h) }
closing_ends job trails reports old between new (Err (Fault name)) whole did h = record { done = acts_of_runs job trails; acts = closing_acts job trails reports; stage = in_closing trails whole; between = between; whole = did; stopped = h }
closing_ends job trails reports old between new (Err NoMemoryStop) whole did h = subst (λ (acts : List Act). StoppedBetween acts old new) (sym (last_acts job trails reports whole)) (StoppedBetween-after did h)

best_closing : (job : Job) (trails : List RunTrail) (reports : List ℕ) (kept : BestRun) → IsBestRun job trails kept → closing_acts job trails reports ≡ best_acts job trails reports (best_in kept) kept.plan
best_closing job trails reports kept is =
    let run : kept.run - 1 + 1 ≡ kept.run = omega (arith, is.from_one) in
    let same : run_at (totals_of_runs trails) (kept.run - 1) ≡ best_in kept =
    ap (λ n. let b : Best = record { run = n; total = slice_index (totals_of_runs trails) (kept.run - 1) } in b) run
    ∙ ap (λ n. let b : Best = record { run = kept.run; total = n } in b) is.total in
    ap (λ (place : Option ℕ). acts_for_best job trails reports (option_map (run_at (totals_of_runs trails)) place)) is.best
    ∙ ap (λ (best : Best). acts_for_best job trails reports (Some best)) same
    ∙ ap (best_acts job trails reports (best_in kept)) (sym is.plan_is)

pub closed : {X : Type 0} (job : Job) (trails asked : List RunTrail) (reports told : List ℕ) (counted : Counted) (old opened between new : State) (best : Option BestRun) (kept : BestRun) (r : Result X Stop) → DidAll (opening_acts job) old opened → best ≡ Some kept → RanFirst job job.params.reps trails counted opened between best
    → asked ≡ trails → told ≡ reports → Performed (best_acts job asked told (best_in kept) kept.plan) between new r → Worked job trails reports old new (status_of r)
closed job trails asked reports told counted old opened between new best kept r first is found same heard h =
    let ran : RanFirst job job.params.reps trails counted opened between (Some kept) = subst (RanFirst job job.params.reps trails counted opened between) is found in
    let own : Performed (best_acts job trails reports (best_in kept) kept.plan) between new r = subst (λ (ts : List RunTrail). Performed (best_acts job ts reports (best_in kept) kept.plan) between new r) same
    (subst (λ (ns : List ℕ). Performed (best_acts job asked ns (best_in kept) kept.plan) between new r) heard h) in
    closing_ends job trails reports old between new r ran.whole (DidAll-append first ran.acts)
    (subst (λ (acts : List Act). Performed acts between new r) (sym (best_closing job trails reports kept ran.best)) own)

-- memory ended the work before the closing
pub reports_wait : (job : Job) (trails : List RunTrail) (reports : List ℕ) (counted : Counted) (old opened new : State) (best : Option BestRun) (stop : Stop) → DidAll (opening_acts job) old opened → RanFirst job job.params.reps trails counted opened new best → stop ≡ NoMemoryStop
    → Worked job trails reports old new (status_of_stop stop)
reports_wait job trails reports counted old opened new best stop first ran memory =
    subst (λ (s : Stop). Worked job trails reports old new (status_of_stop s)) (sym memory) (StoppedBetween-before _ (StoppedBetween-all (DidAll-append first ran.acts)))

-- what the closing needs
pub best_kept : (job : Job) (trails : List RunTrail) (counted : Counted) (old new : State) (best : Option BestRun) (kept : BestRun) (count : ℕ) → best ≡ Some kept → RanFirst job count trails counted old new best → IsBestRun job trails kept
best_kept job trails counted old new best kept count is ran = (subst (λ (b : Option BestRun). RanFirst job count trails counted old new b) is ran).best

-- a job that was worked at, and what came of it was said
pub runs_job : (job : Job) (watching told : List WatcherState) (old mid new : State) (finished : Finished) (trails : List RunTrail) (s : Status) → Worked job trails (reports_of told) old mid s → AreTrails job trails → length trails ≤ job.params.reps → AreTold job trails watching told
    → finished.status ≡ s → finished.trails ≡ trails → finished.job ≡ Some job → Refuses finished.status mid new → RunsJob job watching told old new finished
runs_job job watching told old mid new finished trails s worked runs few heard ended same own says = record {
  before = mid;
  worked = rw (ended, same) worked;
  runs = rw same runs;
  few = rw same few;
  watchers = rw same heard;
  refusal = says;
  same_job = own;
}

-- a job that was prepared and worked at is a whole run of the program
pub runs_whole : (form : Option Form) (chance : ℕ) (watching told : List WatcherState) (old mid new : State) (job : Job) (finished : Finished) → Prepared form chance old mid job → RunsJob job watching told mid new finished → RunsProgram form chance watching told old new finished
runs_whole form chance watching told old mid new job finished prepared ran = record {
  before = ran.before;
  ends = rw ran.same_job (record {
    between = mid;
    prepared = prepared;
    worked = ran.worked;
    runs = ran.runs;
    few = ran.few;
    watchers = ran.watchers;
  });
  refusal = ran.refusal;
}

-- the answers to an accepted project
accepted_answer : (job : Job) (trails : List RunTrail) (reports : List ℕ) (old new : State) (s : Status) → Worked job trails reports old new s → (asked : Outcome Project) → asked ≡ Given (project_of job.params job.problem) → IsAnswerTo asked s
accepted_answer job trails reports old new Done h asked e = subst (λ a. IsAnswerTo a Done) (sym e) tt
accepted_answer job trails reports old new Words h asked e = absurd h
accepted_answer job trails reports old new (Input fault) h asked e = absurd h
accepted_answer job trails reports old new (ShelfFault name) h asked e = subst (λ a. IsAnswerTo a (ShelfFault name)) (sym e) tt
accepted_answer job trails reports old new (Absent name) h asked e = absurd h
accepted_answer job trails reports old new NoMemory h asked e = subst (λ a. IsAnswerTo a NoMemory) (sym e) tt

then_told : (o : Option Files) (P Q : Files → Type 0) → ((files : Files) → P files → Q files) → IfSome o P → IfSome o Q
then_told None P Q more h = tt
then_told (Some files) P Q more h = more files h

-- a fact of the started files is one of the files as the form starts them
pub if_started : (form : Form) (old started : State) (P : Files → Type 0) → DidAll (starting_acts form) old started → IfTold started P → IfStarted form old P
if_started form old started P start h = subst (λ (c : Contents). IfSome c.files P) start.contents h

pub answers_accepted : (form : Option Form) (chance : ℕ) (watching told : List WatcherState) (old mid new : State) (job : Job) (finished : Finished) → Prepared form chance old mid job → RunsJob job watching told mid new finished
    → IfSome form (λ f. AnswersInput f old finished.status)
answers_accepted None chance watching told old mid new job finished prepared ran = absurd prepared
answers_accepted (Some form) chance watching told old mid new job finished prepared ran =
    if_started form old prepared.started (λ files. IsAnswerTo (asked_of (parameter_file form) files).outcome finished.status) prepared.start
    (then_told prepared.started.contents.files (λ files. (asked_of (parameter_file form) files).outcome ≡ Given (project_of job.params job.problem)) _
    (λ files e. accepted_answer job finished.trails (reports_of told) mid ran.before finished.status ran.worked (asked_of (parameter_file form) files).outcome e) prepared.read.input.given)

-- a fault of the shelf and want of memory answer every input
fault_answers : (asked : Outcome Project) (name : List ℕ) → IsAnswerTo asked (ShelfFault name)
fault_answers (Missing missing) name = tt
fault_answers (Refused fault) name = tt
fault_answers (Given project) name = tt

memory_answers : (asked : Outcome Project) → IsAnswerTo asked NoMemory
memory_answers (Missing missing) = tt
memory_answers (Refused fault) = tt
memory_answers (Given project) = tt

if_all : (o : Option Files) (P : Files → Type 0) → ((files : Files) → P files) → IfSome o P
if_all None P all = tt
if_all (Some files) P all = all files

start_answers : (form : Form) (old mid : State) (s : Status) → StartStopped form old mid s → AnswersInput form old s
start_answers form old mid Done h = absurd h
start_answers form old mid Words h = absurd h
start_answers form old mid (Input fault) h = absurd h
start_answers form old mid (ShelfFault name) h = if_all _ _ (λ files. fault_answers (asked_of (parameter_file form) files).outcome name)
start_answers form old mid (Absent name) h = absurd h
start_answers form old mid NoMemory h = if_all _ _ (λ files. memory_answers (asked_of (parameter_file form) files).outcome)

-- an input that was refused
refused_answers : (name : List ℕ) (started mid : State) (s : Status) → InputStopped (asked_of name) started mid s → IfTold started (λ files. IsAnswerTo (asked_of name files).outcome s)
refused_answers name started mid Done h = absurd h
refused_answers name started mid Words h = absurd h
refused_answers name started mid (Input fault) h =
    then_told started.contents.files (λ files. (asked_of name files).outcome ≡ Refused fault) _ (λ files is. subst (λ (asked : Outcome Project). IsAnswerTo asked (Input fault)) (sym is) refl) h.refused
refused_answers name started mid (ShelfFault fault) h = if_all _ _ (λ files. fault_answers (asked_of name files).outcome fault)
refused_answers name started mid (Absent missing) h =
    then_told started.contents.files (λ files. (asked_of name files).outcome ≡ Missing missing) _ (λ files is. subst (λ (asked : Outcome Project). IsAnswerTo asked (Absent missing)) (sym is) refl) h.missing
refused_answers name started mid NoMemory h = if_all _ _ (λ files. memory_answers (asked_of name files).outcome)

stopped_answers : (form : Form) (old mid : State) (s : Status) → IsInputStopped form old mid s → AnswersInput form old s
stopped_answers form old mid s (in_starting h) = start_answers form old mid s h
stopped_answers form old mid s (in_reading started start h) =
    if_started form old started (λ files. IsAnswerTo (asked_of (parameter_file form) files).outcome s) start (refused_answers (parameter_file form) started mid s h)

pub answers_refused : (form : Option Form) (old mid : State) (s : Status) → NotPrepared form old mid s → IfSome form (λ f. AnswersInput f old s)
answers_refused None old mid s h = tt
answers_refused (Some form) old mid s h = stopped_answers form old mid s h

-- the counts of a prepared job's shelf are those that it had
prepared_counts : (form : Form) (chance : ℕ) (old new : State) (job : Job) → IsPrepared form chance old new job → new.counts ≡ old.counts
prepared_counts form chance old new job is = is.read.input.read.counts ∙ is.start.counts

-- they never fall
says_keeps : (line : List ℕ) (old new : State) → SaysLine line old new → KeepsCounts old.counts new.counts
says_keeps line old new (said did) = KeepsCounts-same did.counts
says_keeps line old new (failed part) = KeepsCounts-fault part.counts
says_keeps line old new (unsaid same) = KeepsCounts-same (ap (λ (s : State). s.counts) same)

-- a job's end without a fault that rose
completes_job : (job : Job) (trails : List RunTrail) (reports : List ℕ) (old mid before new : State) (s : Status) → mid.counts ≡ old.counts → Worked job trails reports mid before s → Refuses s before new → NoneRose old new → IsDoneOrNoMemory s
completes_job job trails reports old mid before new Done same h says none = tt
completes_job job trails reports old mid before new Words same h says none = absurd h
completes_job job trails reports old mid before new (Input fault) same h says none = absurd h
completes_job job trails reports old mid before new (ShelfFault name) same h says none =
    let one : OneFault old.counts before.counts = OneFault-from (h.whole.counts ∙ same) (StoppedAt-one_fault h.stopped) in
    absurd (none.faults (Rose-to old.counts.faults before.counts.faults new.counts.faults (Rose-once one.faults) (says_keeps _ before new says).faults))
completes_job job trails reports old mid before new (Absent name) same h says none = absurd h
completes_job job trails reports old mid before new NoMemory same h says none = tt

pub completes_accepted : (A : Form → Type 0) (form : Option Form) (chance : ℕ) (watching told : List WatcherState) (old mid new : State) (job : Job) (finished : Finished) → Prepared form chance old mid job → RunsJob job watching told mid new finished
    → IfSome form (λ f. A f → NoneRose old new → IsDoneOrNoMemory finished.status)
completes_accepted A None chance watching told old mid new job finished prepared ran = absurd prepared
completes_accepted A (Some form) chance watching told old mid new job finished prepared ran =
    λ _ none. completes_job job finished.trails (reports_of told) old mid ran.before new finished.status (prepared_counts form chance old mid job prepared) ran.worked ran.refusal none

-- a project that is given is none of the other outcomes
abbrev pub IsGivenOutcome : Outcome Project → Type 0
IsGivenOutcome (Given project) = Unit {0}
IsGivenOutcome outcome = ⊥

told_at : (o : Option Files) (files : Files) (P : Files → Type 0) → o ≡ Some files → IfSome o P → P files
told_at o files P is h = subst (λ (x : Option Files). IfSome x P) is h

-- a refused input without a fault that rose
refused_completes : (form : Form) (old started mid new : State) (s : Status) → DidAll (starting_acts form) old started → InputStopped (asked_of (parameter_file form)) started mid s → Refuses s mid new
    → IsAcceptedInput form old → NoneRose old new → IsDoneOrNoMemory s
refused_completes form old started mid new Done start h says accepted none = absurd h
refused_completes form old started mid new Words start h says accepted none = absurd h
refused_completes form old started mid new (Input fault) start h says accepted none =
    let told : started.contents.files ≡ Some accepted.files = ap (λ (c : Contents). c.files) start.contents ∙ accepted.told in
    let refused : (asked_of (parameter_file form) accepted.files).outcome ≡ Refused fault = told_at started.contents.files accepted.files _ told h.refused in
    absurd (subst IsGivenOutcome (sym accepted.asked ∙ refused) tt)
refused_completes form old started mid new (ShelfFault name) start h says accepted none =
    let one : OneFault old.counts mid.counts = OneFault-from (h.read.counts ∙ start.counts) h.failed.counts in
    absurd (none.faults (Rose-to old.counts.faults mid.counts.faults new.counts.faults (Rose-once one.faults) (says_keeps _ mid new says).faults))
refused_completes form old started mid new (Absent name) start h says accepted none =
    let told : started.contents.files ≡ Some accepted.files = ap (λ (c : Contents). c.files) start.contents ∙ accepted.told in
    let missing : (asked_of (parameter_file form) accepted.files).outcome ≡ Missing name = told_at started.contents.files accepted.files _ told h.missing in
    absurd (subst IsGivenOutcome (sym accepted.asked ∙ missing) tt)
refused_completes form old started mid new NoMemory start h says accepted none = tt

-- a start that stopped without a fault that rose
start_completes : (form : Form) (old mid new : State) (s : Status) → StartStopped form old mid s → Refuses s mid new → NoneRose old new → IsDoneOrNoMemory s
start_completes form old mid new Done h says none = absurd h
start_completes form old mid new Words h says none = absurd h
start_completes form old mid new (Input fault) h says none = absurd h
start_completes form old mid new (ShelfFault name) h says none =
    absurd (none.faults (Rose-to old.counts.faults mid.counts.faults new.counts.faults (Rose-once (StoppedAt-one_fault h).faults) (says_keeps _ mid new says).faults))
start_completes form old mid new (Absent name) h says none = absurd h
start_completes form old mid new NoMemory h says none = tt

stopped_completes : (form : Form) (old mid new : State) (s : Status) → IsInputStopped form old mid s → Refuses s mid new → Completes form old new s
stopped_completes form old mid new s (in_starting h) says = λ accepted none. start_completes form old mid new s h says none
stopped_completes form old mid new s (in_reading started start h) says = λ accepted none. refused_completes form old started mid new s start h says accepted none

pub completes_refused : (form : Option Form) (old mid new : State) (s : Status) → NotPrepared form old mid s → Refuses s mid new → IfSome form (λ f. Completes f old new s)
completes_refused None old mid new s h says = tt
completes_refused (Some form) old mid new s h says = stopped_completes form old mid new s h says

-- which ends leave the counts
ended_counts : (job : Job) (trails : List RunTrail) (reports : List ℕ) (old mid before new : State) (s : Status) → mid.counts ≡ old.counts → Worked job trails reports mid before s → Refuses s before new → LeavesCounts s old new
ended_counts job trails reports old mid before new Done same h says = ap (λ (s : State). s.counts) says ∙ h.acts.counts ∙ same
ended_counts job trails reports old mid before new Words same h says = tt
ended_counts job trails reports old mid before new (Input fault) same h says = tt
ended_counts job trails reports old mid before new (ShelfFault name) same h says = tt
ended_counts job trails reports old mid before new (Absent name) same h says = tt
ended_counts job trails reports old mid before new NoMemory same h says = ap (λ (s : State). s.counts) says ∙ h.counts ∙ same

pub counts_accepted : (form : Option Form) (chance : ℕ) (watching told : List WatcherState) (old mid new : State) (job : Job) (finished : Finished) → Prepared form chance old mid job → RunsJob job watching told mid new finished → LeavesCounts finished.status old new
counts_accepted None chance watching told old mid new job finished prepared ran = absurd prepared
counts_accepted (Some form) chance watching told old mid new job finished prepared ran =
    ended_counts job finished.trails (reports_of told) old mid ran.before new finished.status (prepared_counts form chance old mid job prepared) ran.worked ran.refusal

refused_counts : (reads : Files → Reads Project) (old mid new : State) (s : Status) → InputStopped reads old mid s → Refuses s mid new → LeavesCounts s old new
refused_counts reads old mid new Done h says = absurd h
refused_counts reads old mid new Words h says = tt
refused_counts reads old mid new (Input fault) h says = tt
refused_counts reads old mid new (ShelfFault name) h says = tt
refused_counts reads old mid new (Absent name) h says = tt
refused_counts reads old mid new NoMemory h says = ap (λ (s : State). s.counts) says ∙ h.read.counts

counts_from : (s : Status) (old started new : State) → started.counts ≡ old.counts → LeavesCounts s started new → LeavesCounts s old new
counts_from Done old started new same h = h ∙ same
counts_from Words old started new same h = tt
counts_from (Input fault) old started new same h = tt
counts_from (ShelfFault name) old started new same h = tt
counts_from (Absent name) old started new same h = tt
counts_from NoMemory old started new same h = h ∙ same

words_counts : (s : Status) (old new : State) → IsWords s → LeavesCounts s old new
words_counts Done old new h = absurd h
words_counts Words old new h = tt
words_counts (Input fault) old new h = absurd h
words_counts (ShelfFault name) old new h = absurd h
words_counts (Absent name) old new h = absurd h
words_counts NoMemory old new h = absurd h

start_counts : (form : Form) (old mid new : State) (s : Status) → StartStopped form old mid s → Refuses s mid new → LeavesCounts s old new
start_counts form old mid new Done h says = absurd h
start_counts form old mid new Words h says = tt
start_counts form old mid new (Input fault) h says = tt
start_counts form old mid new (ShelfFault name) h says = tt
start_counts form old mid new (Absent name) h says = tt
start_counts form old mid new NoMemory h says = ap (λ (s : State). s.counts) says ∙ h.counts

stopped_counts : (form : Form) (old mid new : State) (s : Status) → IsInputStopped form old mid s → Refuses s mid new → LeavesCounts s old new
stopped_counts form old mid new s (in_starting h) says = start_counts form old mid new s h says
stopped_counts form old mid new s (in_reading started start h) says = counts_from s old started new start.counts (refused_counts (asked_of (parameter_file form)) started mid new s h says)

pub counts_refused : (form : Option Form) (old mid new : State) (s : Status) → NotPrepared form old mid s → Refuses s mid new → LeavesCounts s old new
counts_refused None old mid new s h says = words_counts s old new h.0
counts_refused (Some form) old mid new s h says = stopped_counts form old mid new s h says
