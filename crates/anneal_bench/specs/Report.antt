-- What is printed of a run.
use Rattle.std.specs.Prelude.{ℕ, List, ◌++◌, codes, decimal}
use Rattle.mz_num.specs.Decimal.{ten4_text}
use Rattle.anneal_bench.specs.declared.counts.Passes.{Passes}

-- a name and its count
abbrev pub count_line : List ℕ → ℕ → List ℕ
count_line name count = name ++ codes " " ++ decimal count ++ codes "\n"

-- the counts of all points, and the score of the annealed plan
unfoldable pub report_text : Passes → ℕ → List ℕ
report_text passes score =
    count_line (codes "looks") passes.looks
    ++ count_line (codes "judged") passes.judged
    ++ count_line (codes "commits") passes.commits
    ++ count_line (codes "decided") passes.decided
    ++ count_line (codes "again") passes.overtaken
    ++ codes "score " ++ ten4_text score ++ codes "\n"
