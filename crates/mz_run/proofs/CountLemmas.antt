-- What is counted over runs.
use Rattle.std.proofs.Common.{◌≡◌, ℕ, List, ◌++◌, drop, length, take, refl, sym, ap, ◌∙◌}
use Rattle.std.proofs.Math.Seq.{take-append_seam}
use Rattle.std.proofs.lemmas.List.FromFn.{length-map-range_with_len}
use Rattle.mz_num.specs.Places.{list_below}
use Rattle.mz_model.specs.declared.parts.Parts.{Parts}
use Rattle.mz_model.specs.Parts.{target_count}
use Rattle.mz_model.specs.Targets.{held_of, shortfall_of_plan}
use Rattle.mz_delta.specs.Reading.{totals_of_plan}
use Rattle.mz_files.specs.declared.summary.SummaryRow.{SummaryRow}
use Rattle.mz_files.specs.declared.trail.RunTrail.{RunTrail}
use Rattle.mz_files.specs.Missed.{missing_of_totals}
use Rattle.mz_run.specs.declared.job.Job.{Job}
use Rattle.mz_run.specs.Acts.{summary_row}
use Rattle.mz_run.specs.Run.{final_plan}

pub length-totals : (parts : Parts) (plan : List ℕ) → length (totals_of_plan parts plan) ≡ target_count parts
unfolding totals_of_plan
length-totals parts plan = length-map-range_with_len (held_of parts plan) 0 (target_count parts)

totals-are : (parts : Parts) (plan : List ℕ) → totals_of_plan parts plan ≡ list_below (target_count parts) (held_of parts plan)
unfolding totals_of_plan
totals-are parts plan = refl

-- the row of a run, by what its plan's totals miss
pub row-is : (job : Job) (trail : RunTrail) (totals : List ℕ) (missed missing entries : ℕ) → totals ≡ totals_of_plan job.problem (final_plan job trail.run trail.turns)
    → ((plan : List ℕ) → totals ≡ list_below (target_count job.problem) (held_of job.problem plan) → missed ≡ shortfall_of_plan job.problem plan)
    → missing ≡ missing_of_totals job.problem totals job.params.miss_level → entries ≡ length trail.turns
    → record { run = trail.run; score = trail.score; shortfall = missed; missing = missing; entries = entries; seed = trail.seed } ≡ summary_row job trail
row-is job trail totals missed missing entries own short lacks count =
    let plan = final_plan job trail.run trail.turns in
    ap (λ (n : ℕ). let row : SummaryRow = record { run = trail.run; score = trail.score; shortfall = n; missing = missing; entries = entries; seed = trail.seed } in row) (short plan (own ∙ totals-are job.problem plan))
    ∙ ap (λ (n : ℕ). let row : SummaryRow = record { run = trail.run; score = trail.score; shortfall = shortfall_of_plan job.problem plan; missing = n; entries = entries; seed = trail.seed } in row) (lacks ∙ ap (λ ts. missing_of_totals job.problem ts job.params.miss_level) own)
    ∙ ap (λ (n : ℕ). let row : SummaryRow = record { run = trail.run; score = trail.score; shortfall = shortfall_of_plan job.problem plan; missing = missing_of_totals job.problem (totals_of_plan job.problem plan) job.params.miss_level; entries = n; seed = trail.seed } in row) count

-- totals that were written through a slice of a vector
pub written_back : (new items : List ℕ) (len : ℕ) → length new ≡ len → take len (new ++ drop (length new) items) ≡ new
written_back new items len same = ap (λ n. take n (new ++ drop (length new) items)) (sym same) ∙ take-append_seam new (drop (length new) items)
