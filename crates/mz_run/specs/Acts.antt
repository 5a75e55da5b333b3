-- What the program writes and says for its job, in order.
use Rattle.std.specs.Prelude.{ℕ, ◌+◌, ◌-◌, ◌/◌, ◌%◌, ◌==◌, if◌then◌else◌, List, [], ◌∷◌, ◌++◌, length, map, get_or, codes, Option}
use Rattle.std.specs.Prelude.{None, Some}
use Rattle.std.specs.List.{flat_map}
use Rattle.mz_shelf.specs.Act.{Act}
use Rattle.mz_shelf.specs.Act.Act.{Say, Write}
use Rattle.mz_params.specs.declared.params.Params.{Params}
use Rattle.mz_params.specs.Folder.{file_in}
use Rattle.mz_run.specs.declared.job.Job.{Job}
use Rattle.mz_files.specs.declared.trail.RunTrail.{RunTrail}
use Rattle.mz_run.specs.Best.{Best, best_run}
use Rattle.mz_run.specs.Run.{final_plan}
use Rattle.mz_run.specs.Lines.{opening_text, run_text, closing_text}
use Rattle.mz_model.specs.Targets.{shortfall_of_plan}
use Rattle.mz_delta.specs.Reading.{totals_of_plan}
use Rattle.mz_sums.specs.Sums.{sums_of}
use Rattle.mz_files.specs.declared.summary.SummaryRow.{SummaryRow}
use Rattle.mz_files.specs.Missed.{missing_of_totals}
use Rattle.mz_files.specs.Missing.{missing_text}
use Rattle.mz_files.specs.Solution.{solution_text}
use Rattle.mz_files.specs.Summary.{summary_text}
use Rattle.mz_files.specs.Summed.{summed_text}
use Rattle.mz_files.specs.Turns.{turns_text}

-- the ending that a SAVE key's value chooses
abbrev pub ending_of : ℕ → List ℕ
ending_of kind = if kind == 1 then codes ".dat" else (if kind == 2 then codes ".txt" else codes ".csv")

-- the file of that name part and kind
abbrev pub output_name : Params → List ℕ → ℕ → List ℕ
output_name params part kind = file_in params.output_dir (params.scen ++ part ++ ending_of kind)

-- a file that is written where its key isn't 0
abbrev pub file_if_asked : Params → ℕ → List ℕ → List ℕ → List Act
file_if_asked params kind part text = if kind == 0 then [] else Write (output_name params part kind) text ∷ []

-- the total of each run's score
abbrev pub totals_of_runs : List RunTrail → List ℕ
totals_of_runs trails = map (λ (trail : RunTrail). trail.score.total) trails

-- the plan that the run of this number ends with
abbrev pub plan_of_run : Job → List RunTrail → ℕ → List ℕ
plan_of_run job trails run = final_plan job run (get_or (map (λ (trail : RunTrail). trail.turns) trails) (run - 1) [])

-- the plans that the runs end with
abbrev pub plans_of : Job → List RunTrail → List (List ℕ)
plans_of job trails = map (λ (trail : RunTrail). final_plan job trail.run trail.turns) trails

-- what the summary says of a run
abbrev pub summary_row : Job → RunTrail → SummaryRow
summary_row job trail =
    let plan = final_plan job trail.run trail.turns in
    record {
      run = trail.run;
      score = trail.score;
      shortfall = shortfall_of_plan job.problem plan;
      missing = missing_of_totals job.problem (totals_of_plan job.problem plan) job.params.miss_level;
      entries = length trail.turns;
      seed = trail.seed;
    }

abbrev pub summary_rows : Job → List RunTrail → List SummaryRow
summary_rows job trails = map (summary_row job) trails

abbrev pub opening_acts : Job → List Act
opening_acts job = Say (opening_text job) ∷ []

-- a number below 10 as a digit
abbrev pub digit_text : ℕ → List ℕ
digit_text digit = (48 + digit) ∷ []

-- the number of a run, with five digits
abbrev pub run_digits : ℕ → List ℕ
run_digits run =
    digit_text (run / 10000 % 10) ++ digit_text (run / 1000 % 10) ++ digit_text (run / 100 % 10)
    ++ digit_text (run / 10 % 10) ++ digit_text (run % 10)

-- the files of a plan: its zones and scores under the key of that value, and what it holds of its targets
abbrev pub plan_acts : Job → ℕ → List ℕ → List ℕ → List ℕ → List Act
plan_acts job kind part missing_part plan =
    file_if_asked job.params kind part (solution_text job.problem plan)
    ++ file_if_asked job.params job.params.save_missing missing_part
    (missing_text job.problem (totals_of_plan job.problem plan) job.params.miss_level)

-- the files of a run's plan
abbrev pub run_files : Job → RunTrail → List Act
run_files job trail =
    plan_acts job job.params.save_run (codes "_r" ++ run_digits trail.run) (codes "_mv" ++ run_digits trail.run)
    (final_plan job trail.run trail.turns)

-- and then its line
abbrev pub run_acts : Job → RunTrail → List Act
run_acts job trail = run_files job trail ++ Say (run_text job trail) ∷ []

-- the files of all runs: a line for each, how many give each unit each zone, and their turns
abbrev pub summary_acts : Job → List RunTrail → List Act
summary_acts job trails =
    file_if_asked job.params job.params.save_summary (codes "_sum") (summary_text (summary_rows job trails))

abbrev pub summed_acts : Job → List RunTrail → List Act
summed_acts job trails =
    file_if_asked job.params job.params.save_summed (codes "_ssoln")
    (summed_text job.problem (sums_of job.problem (plans_of job trails)))

abbrev pub turns_acts : Job → List RunTrail → List Act
turns_acts job trails = file_if_asked job.params job.params.save_turns (codes "_turns") (turns_text trails)

-- what comes behind the best run's files: the files of all runs, and what the watchers report
abbrev pub all_runs_acts : Job → List RunTrail → List ℕ → Best → List Act
all_runs_acts job trails reports best =
    summary_acts job trails
    ++ (summed_acts job trails ++ (turns_acts job trails ++ Say (closing_text job best reports) ∷ []))

-- what is done with the best run and its plan, and then with all runs
abbrev pub best_acts : Job → List RunTrail → List ℕ → Best → List ℕ → List Act
best_acts job trails reports best plan =
    plan_acts job job.params.save_best (codes "_best") (codes "_mvbest") plan ++ all_runs_acts job trails reports best

abbrev pub acts_for_best : Job → List RunTrail → List ℕ → Option Best → List Act
acts_for_best job trails reports None = []
acts_for_best job trails reports (Some best) = best_acts job trails reports best (plan_of_run job trails best.run)

abbrev pub closing_acts : Job → List RunTrail → List ℕ → List Act
closing_acts job trails reports = acts_for_best job trails reports (best_run (totals_of_runs trails))

abbrev pub acts_of_trails : Job → List RunTrail → List Act
acts_of_trails job trails = flat_map (run_acts job) trails

-- what is done up to the last of these runs
abbrev pub acts_of_runs : Job → List RunTrail → List Act
acts_of_runs job trails = opening_acts job ++ acts_of_trails job trails

-- what is done with these trails: the closing comes after the last run alone
abbrev pub acts_of : Job → List RunTrail → List ℕ → List Act
acts_of job trails reports =
    acts_of_runs job trails ++ (if length trails == job.params.reps then closing_acts job trails reports else [])
