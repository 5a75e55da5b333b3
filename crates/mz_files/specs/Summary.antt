-- The summary text.
use Rattle.std.specs.Prelude.{ℕ, List, ◌++◌, codes, decimal}
use Rattle.std.specs.List.{flat_map}
use Rattle.mz_model.specs.declared.score.Score.{Score}
use Rattle.mz_files.specs.declared.summary.SummaryRow.{SummaryRow}
use Rattle.mz_files.specs.Fields.{amount_field, number_field}

-- the score and its three parts
abbrev pub score_fields : Score → List ℕ
score_fields score =
    amount_field score.total ++ amount_field score.cost ++ amount_field score.boundary ++ amount_field score.penalty

abbrev pub summary_line : SummaryRow → List ℕ
summary_line row =
    decimal row.run ++ score_fields row.score ++ amount_field row.shortfall ++ number_field row.missing
    ++ number_field row.entries ++ number_field row.seed ++ codes "\n"

-- a header, and a line for each run
unfoldable pub summary_text : List SummaryRow → List ℕ
summary_text rows =
    codes "run,score,cost,boundary,penalty,shortfall,missing,entries,seed\n" ++ flat_map summary_line rows
