-- From the words to a job, or to why there is none.
use Rattle.std.proofs.Common.{◌≡◌, ℕ, List, [], ◌∷◌, Option, Some, None, Result, Ok, Err, append-nil, refl, subst}
use Rattle.std.specs.FinMap.{get}
use Rattle.std.specs.Result.{MatchResult}
use Rattle.mz_shelf.specs.State.{State, Files}
use Rattle.mz_shelf.proofs.ChainLemmas.{DidAll-nil}
use Rattle.mz_gen.specs.Files.{files_of}
use Rattle.mz_gen.specs.Made.{Made}
use Rattle.mz_gen.specs.declared.fault.GenFault.{GenFault}
use Rattle.mz_gen.specs.declared.fault.GenFault.TheVariants as made
use Rattle.mz_params.specs.declared.params.Params.{Params}
use Rattle.mz_params.specs.ParamFile.{IsAccepted, params_from}
use Rattle.mz_model.specs.declared.parts.Parts.{Parts}
use Rattle.mz_project.specs.declared.fault.ReadFault.{ReadFault}
use Rattle.mz_project.specs.declared.fault.ReadFault.TheVariants as fault
use Rattle.mz_project.specs.declared.fault.InputFault.{InputFault}
use Rattle.mz_project.specs.declared.fault.Which.TheVariants.{Params as ParamFile}
use Rattle.mz_project.specs.GivenFiles.{given_files}
use Rattle.mz_project.specs.Project.{of_params, params_read, project_read}
use Rattle.mz_project.specs.ReadAs.{IfTold, IsGiven, IsStopped, ReadEach}
use Rattle.mz_project.specs.Reads.{Outcome, Reads, bytes_of, read_behind, taken}
use Rattle.mz_project.specs.Reads.Outcome.{Missing, Refused, Given}
use Rattle.mz_project.proofs.ReadLemmas.{by_default, goes_on, if_both, read_on, stops, told_along}
use Rattle.mz_run.specs.declared.job.Job.{Job}
use Rattle.mz_run.specs.declared.status.Status.{Status}
use Rattle.mz_run.specs.declared.status.Status.TheVariants.{Words}
use Rattle.mz_run.specs.Arguments.{Form}
use Rattle.mz_run.specs.Arguments.Form.{File, Generated}
use Rattle.mz_run.specs.Prepared.{IsAcceptedJob, IsInputStopped, IsPrepared, NotPrepared, Prepared}
use Rattle.mz_run.specs.Prepared.IsInputStopped.{in_reading, in_starting}
use Rattle.mz_run.specs.Run.{seed_of}
use Rattle.mz_run.specs.Project.{InputStopped, asked_of, parts_asked, project_of, status_of_made, status_of_read}

-- why a reading stopped, as a status
pub input_stopped : {X : Type 0} (reads : Files → Reads X) (old new : State) (f : ReadFault) → IsStopped reads old new f → InputStopped reads old new (status_of_read f)
input_stopped reads old new (fault.Shelf name) h = h
input_stopped reads old new (fault.Absent name) h = h
input_stopped reads old new (fault.Input f) h = h
input_stopped reads old new fault.NoMemory h = h

-- the parameter file stopped
pub params_stopped : (old new : State) (name : List ℕ) (f : ReadFault) → IsStopped (params_read name) old new f → InputStopped (asked_of name) old new (status_of_read f)
unfolding asked_of
params_stopped old new name f h = input_stopped (asked_of name) old new f (stops (params_read name) parts_asked old new f h)

-- a file of the project stopped
pub project_stopped : (old mid new : State) (name : List ℕ) (params : Params) (f : ReadFault) → IsGiven (params_read name) old mid params
    → IsStopped (project_read params) mid new f → InputStopped (asked_of name) old new (status_of_read f)
unfolding asked_of
project_stopped old mid new name params f given h =
    input_stopped (asked_of name) old new f
    (goes_on (params_read name) parts_asked params old mid new (Err f) given (stops (project_read params) (λ parts files. taken (Ok (project_of params parts))) mid new f h))

-- the project is given
project_given : (old mid new : State) (name : List ℕ) (params : Params) (parts : Parts) → IsGiven (params_read name) old mid params → IsGiven (project_read params) mid new parts → IsGiven (asked_of name) old new (project_of params parts)
unfolding asked_of
project_given old mid new name params parts given whole =
    goes_on (params_read name) parts_asked params old mid new (Ok (project_of params parts)) given
    (goes_on (project_read params) (λ parts files. taken (Ok (project_of params parts))) parts mid new new (Ok (project_of params parts)) whole (by_default (project_of params parts) (project_of params parts) new refl))

-- the parameter file was read, and then each file that it gives
names_behind : {X Y : Type 0} (names : List (List ℕ)) (o : Outcome X) (make : X → Result Y InputFault) → (read_behind names o (λ x. taken (make x))).names ≡ names
names_behind names (Missing name) make = refl
names_behind names (Refused f) make = refl
names_behind names (Given x) make = append-nil names

params_names : (name : List ℕ) (files : Files) → (params_read name files).names ≡ name ∷ []
unfolding params_read
params_names name files = names_behind (name ∷ []) (bytes_of name ParamFile (get files name)) (λ bytes. of_params (params_from bytes))

one_then : (name : List ℕ) (names more : List (List ℕ)) (old mid new : State) → names ≡ name ∷ [] → ReadEach names old mid → ReadEach more mid new → ReadEach (name ∷ more) old new
one_then name names more old mid new one first rest = read_on (name ∷ []) more old mid new (subst (λ (ns : List (List ℕ)). ReadEach ns old mid) one first) rest

files_read : (name : List ℕ) (params built : Params) (old mid new : State) → IsGiven (params_read name) old mid params → IfTold mid (λ _. ReadEach (given_files built) mid new) → IfTold old (λ _. ReadEach (name ∷ given_files built) old new)
files_read name params built old mid new given rest =
    if_both old.contents.files (λ files. ReadEach (params_read name files).names old mid) (λ _. ReadEach (given_files built) mid new) (λ _. ReadEach (name ∷ given_files built) old new)
    (λ files first more. one_then name (params_read name files).names (given_files built) old mid new (params_names name files) first more) given.names (told_along old mid (λ _. ReadEach (given_files built) mid new) given.read.contents rest)

-- a job of a given project
pub job_accepted : (name : List ℕ) (workers : ℕ) (generated : Option ℕ) (chance : ℕ) (old mid new : State) (job : Job) → IsGiven (params_read name) old mid job.params
    → IsGiven (project_read job.params) mid new job.problem → IfTold mid (λ _. ReadEach (given_files job.params) mid new) → IsAccepted job.params → job.workers ≡ workers → job.generated ≡ generated → job.seed ≡ seed_of job.params chance
    → IsAcceptedJob name workers generated chance old new job
job_accepted name workers generated chance old mid new job given whole rest accepted own_workers own_number seed = record {
  input = project_given old mid new name job.params job.problem given whole;
  files = files_read name job.params job.params old mid new given rest;
  accepted = accepted;
  workers_are = own_workers;
  generated_is = own_number;
  seed_is = seed;
}

-- a project in files of its own is read at once
pub file_read : (name : List ℕ) (workers chance : ℕ) (old new : State) (r : Result Job Status) → MatchResult r (λ job. IsAcceptedJob name workers None chance old new job) (λ status. InputStopped (asked_of name) old new status)
    → MatchResult r (λ job. IsPrepared (File name workers) chance old new job) (λ status. IsInputStopped (File name workers) old new status)
file_read name workers chance old new (Ok job) h = record { started = old; start = DidAll-nil old; read = h }
file_read name workers chance old new (Err status) h = in_reading old (DidAll-nil old) h

-- a project wasn't made whole
pub made_stopped : (X : Type 0) (number : ℕ) (old new : State) (f : GenFault) → Made {X = X} (files_of number) old new (Err f) → IsInputStopped (Generated number) old new (status_of_made f)
made_stopped X number old new (made.Shelf name) h = in_starting h
made_stopped X number old new made.NoMemory h = in_starting h

-- words without a form
pub no_form : (words : Option Form) (old : State) → None ≡ words → NotPrepared words old old Words
no_form words old is = subst (λ (w : Option Form). NotPrepared w old old Words) is (tt, refl)

-- what came of the file is what came of the form
pub form_prepared : (words : Option Form) (form : Form) (chance : ℕ) (old new : State) (r : Result Job Status) → Some form ≡ words → MatchResult r (λ job. IsPrepared form chance old new job) (λ status. IsInputStopped form old new status)
    → MatchResult r (λ job. Prepared words chance old new job) (λ status. NotPrepared words old new status)
form_prepared words form chance old new r is h =
    subst (λ (w : Option Form). MatchResult r (λ job. Prepared w chance old new job) (λ status. NotPrepared w old new status)) is h
