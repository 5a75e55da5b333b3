-- The lines that the program says of its work.
use Rattle.std.specs.Prelude.{ℕ, ◌+◌, List, [], ◌++◌, length, slice_index, codes, decimal, Option, Some, None}
use Rattle.std.specs.List.{concat}
use Rattle.mz_num.specs.Decimal.{ten4_text}
use Rattle.mz_num.specs.Places.{list_below}
use Rattle.mz_model.specs.Parts.{unit_count, zone_count, target_count}
use Rattle.mz_model.specs.Scores.{score_of_plan}
use Rattle.mz_model.specs.Zones.{free_units}
use Rattle.mz_history.specs.Start.{starting_plan}
use Rattle.mz_run.specs.declared.job.Job.{Job}
use Rattle.mz_files.specs.declared.trail.RunTrail.{RunTrail}
use Rattle.mz_run.specs.Best.{Best}
use Rattle.mz_run.specs.Run.{entries_of_run}

-- the random seed, or the number that the project was made from
abbrev pub first_line : ℕ → Option ℕ → List ℕ
first_line seed None = codes "seed " ++ decimal seed ++ codes "\n"
first_line seed (Some number) = codes "generated " ++ decimal number ++ codes "\n"

-- and how many things there are
unfoldable pub opening_text : Job → List ℕ
opening_text job =
    first_line job.seed job.generated
    ++ codes "units " ++ decimal (unit_count job.problem)
    ++ codes " zones " ++ decimal (zone_count job.problem)
    ++ codes " targets " ++ decimal (target_count job.problem)
    ++ codes " free " ++ decimal (length (free_units job.problem)) ++ codes "\n"

-- a run's number, the score of its plan, and the number of its entries
unfoldable pub trail_text : RunTrail → List ℕ
trail_text trail =
    codes "run " ++ decimal trail.run ++ codes " score " ++ ten4_text trail.score.total ++ codes " entries "
    ++ decimal (length trail.turns) ++ codes "\n"

abbrev pub text_of_run : Option ℕ → RunTrail → List ℕ
text_of_run None trail = trail_text trail
text_of_run (Some number) trail = []

-- nothing is told of a run of a made project
abbrev pub run_text : Job → RunTrail → List ℕ
run_text job trail = text_of_run job.generated trail

-- the number of a watcher, from 1, and its report
abbrev pub report_line : List ℕ → ℕ → List ℕ
report_line reports place =
    codes "watcher " ++ decimal (place + 1) ++ codes " " ++ decimal (slice_index reports place) ++ codes "\n"

-- the best run and the score of its plan, and then a line for each watcher's report
unfoldable pub best_text : Best → List ℕ → List ℕ
best_text best reports =
    codes "best " ++ decimal best.run ++ codes " score " ++ ten4_text best.total ++ codes "\n"
    ++ concat (list_below (length reports) (report_line reports))

-- the score of the plan that the first run starts from, and how many entries a run has: the schedule changes neither
unfoldable pub start_text : Job → List ℕ
start_text job =
    codes "start " ++ ten4_text (score_of_plan job.problem (starting_plan job.problem job.params.prop job.seed 1)).total
    ++ codes "\nentries " ++ decimal (entries_of_run job) ++ codes "\n"

abbrev pub closing_of : Option ℕ → Job → Best → List ℕ → List ℕ
closing_of None job best reports = best_text best reports
closing_of (Some number) job best reports = start_text job

-- of a made project nothing is told that the schedule may change
abbrev pub closing_text : Job → Best → List ℕ → List ℕ
closing_text job best reports = closing_of job.generated job best reports
