-- The words of the command line, and what they ask for.
use Rattle.std.specs.Prelude.{ℕ, ◌≤◌, ◌||◌, nat_lt, if◌then◌else◌, List, [], ◌∷◌, map, codes, string_bytes, String, Option}
use Rattle.std.specs.Prelude.{Some, None}
use Rattle.std.specs.Option.{option_map}
use Rattle.std.specs.Global.{Global}
use Rattle.std.specs.Str.{bytes_eq}
use Rattle.mz_num.specs.Digits.{digits_number}
use Rattle.mz_num.specs.Limits.{greatest_id, most_workers}
use Rattle.mz_shelf.specs.Act.{Act}
use Rattle.mz_gen.specs.Files.{files_of}
use Rattle.mz_run.specs.declared.arguments.Form.{Form as Read}
use Rattle.mz_run.specs.declared.arguments.Form.TheVariants.{Unknown, File as ReadFile, Generated as ReadGenerated}

-- a project in files of its own, by its parameter file, and how many workers do it; or a project that is made from a
-- number
pub data Form : Type 0 where
  File : List ℕ → ℕ → Form
  Generated : ℕ → Form

-- from one worker to the most
abbrev pub AreWorkers : ℕ → Type 0
AreWorkers workers = (1 ≤ workers) × (workers ≤ most_workers)

abbrev pub if_workers : Option ℕ → Option ℕ
if_workers None = None
if_workers (Some number) = if nat_lt number 1 || nat_lt most_workers number then None else Some number

-- the number of workers that a word of one to ten digits writes
abbrev pub workers_in : List ℕ → Option ℕ
workers_in word = if_workers (digits_number 10 word)

abbrev pub if_number : Option ℕ → Option ℕ
if_number None = None
if_number (Some number) = if nat_lt greatest_id number then None else Some number

-- the number of a project that a word of one to ten digits writes
abbrev pub number_in : List ℕ → Option ℕ
number_in word = if_number (digits_number 10 word)

-- the usual parameter file
abbrev pub usual_file : List ℕ
usual_file = codes "input.dat"

-- the usual number of workers
abbrev pub usual_workers : ℕ
usual_workers = 4

-- no words are the usual file with the usual workers, one word is a file with them, two are a file and its workers, or
-- `gen` and the number of a project; no other words have a form
abbrev pub form_of_words : List (List ℕ) → Option Form
form_of_words [] = Some (File usual_file usual_workers)
form_of_words (file ∷ []) = Some (File file usual_workers)
form_of_words (first ∷ second ∷ []) =
    if bytes_eq first (codes "gen")
    then option_map Generated (number_in second)
    else option_map (File first) (workers_in second)
form_of_words words = None

-- the same of the words as the program has them
abbrev pub form_of : List (String Global) → Option Form
form_of words = form_of_words (map (λ (word : String Global). string_bytes word) words)

-- the form that was read, if the words have one
abbrev pub form_in : Read → Option Form
form_in Unknown = None
form_in (ReadFile name workers) = Some (File name.now workers)
form_in (ReadGenerated number) = Some (Generated number)

-- the number of workers, or of a project, is one that may be
abbrev pub IsInRange : Read → Type 0
IsInRange Unknown = Unit {0}
IsInRange (ReadFile name workers) = AreWorkers workers
IsInRange (ReadGenerated number) = number ≤ greatest_id

-- what is written before the project is read: its files, where it is made, and else nothing
abbrev pub starting_acts : Form → List Act
starting_acts (File name workers) = []
starting_acts (Generated number) = files_of number

-- the name of its parameter file
abbrev pub parameter_file : Form → List ℕ
parameter_file (File name workers) = name
parameter_file (Generated number) = usual_file

-- how many workers do it
abbrev pub workers_of : Form → ℕ
workers_of (File name workers) = workers
workers_of (Generated number) = usual_workers

-- the number that its files are made from
abbrev pub number_of : Form → Option ℕ
number_of (File name workers) = None
number_of (Generated number) = Some number
