-- The best of several runs, by the totals of their scores.
use Rattle.std.specs.Prelude.{ℕ, ◌+◌, List, slice_index, Option}
use Rattle.std.specs.Option.{option_map}
use Rattle.mz_sums.specs.Best.{best_of}

-- a run by its number, with the total of its score
pub record Best : Type 0 where
  pub run : ℕ
  pub total : ℕ

-- the run at a place of these totals; runs count from 1
abbrev pub run_at : List ℕ → ℕ → Best
run_at totals place = record { run = place + 1; total = slice_index totals place }

-- the run of the least total, the first of those that have it
abbrev pub best_run : List ℕ → Option Best
best_run totals = option_map (run_at totals) (best_of totals)
