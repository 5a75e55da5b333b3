use Rattle.std.proofs.Common.{ℕ, List, ◌∙◌}
use Rattle.std.proofs.lemmas.Result.{err_from_is_err_and}
use Rattle.mz_project.specs.declared.limits.lengths.Lengths.{Lengths}
use Rattle.mz_project.specs.Costs.{terms_of}
use Rattle.mz_project.specs.Lengths.{lengths_of}
use Rattle.mz_project.specs.Rates.{rates_of}
use Rattle.mz_project.proofs.LimitLemmas.{costs_end, lengths_end, rates_end, terms_end}
use Rattle.mz_project.proofs.numbers.limited_cost_numbers.Goals as goal

pub returns-in_err-terms : goal.returns-in_err-terms
returns-in_err-terms c =
    let p = err_from_is_err_and c.from_residual.result c.from_residual.ensures.1 in
    let params = c.args.params.now in
    let region = c.args.region.now in
    rw (p.1, p.2) (costs_end (List ℕ) params region (terms_of region.area) _ c.in_err-terms.ensures)

pub returns-in_err-rates : goal.returns-in_err-rates
returns-in_err-rates c =
    let p = err_from_is_err_and c.from_residual-in_err-rates.result c.from_residual-in_err-rates.ensures.1 in
    let params = c.args.params.now in
    let region = c.args.region.now in
    rw (p.1, p.2)
    (rates_end (List ℕ) params region (rates_of params region) _ c.in_ok-terms.ensures.0 c.in_err-rates.ensures)

pub returns-in_err-lengths : goal.returns-in_err-lengths
returns-in_err-lengths c =
    let p = err_from_is_err_and c.from_residual-in_err-lengths.result c.from_residual-in_err-lengths.ensures.1 in
    let params = c.args.params.now in
    let region = c.args.region.now in
    rw (p.1, p.2)
    (lengths_end Lengths params region (lengths_of region.boundaries.bounds) _ c.in_ok-terms.ensures.0
    c.in_ok-rates.ensures.0 c.in_err-lengths.ensures)

pub returns-in_err-limited_terms : goal.returns-in_err-limited_terms
returns-in_err-limited_terms c =
    let last = c.from_residual-in_err-limited_terms in
    let p = err_from_is_err_and last.result last.ensures.1 in
    rw (p.1, p.2)
    (terms_end c.args.params.now c.args.region.now _ c.in_ok-lengths.lengths _ c.in_ok-terms.ensures.0
    c.in_ok-rates.ensures.0 c.in_ok-lengths.ensures.0 (c.as_slice.ensures ∙ c.in_ok-rates.ensures.1)
    c.in_ok-lengths.ensures.1 c.in_err-limited_terms.ensures)
