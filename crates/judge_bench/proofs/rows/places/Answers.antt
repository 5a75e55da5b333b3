use Rattle.std.proofs.Common.{ℕ, List, ◌∙◌, ◌++◌, ◌∷◌, [], sym, ap, arith}
use Rattle.mz_num.specs.Places.{list_below}
use Rattle.mz_num.proofs.PlaceLaws.{list_below-more}
use Rattle.judge_bench.proofs.rows.places.Goals as goal

pub loop-place-preserved : goal.loop-place-preserved
loop-place-preserved c = c.in_ok-push.ensures.items ∙ ap (λ (xs : List ℕ). xs ++ c.loop-place.place ∷ []) c.loop-place.invariant ∙ sym (list_below-more c.loop-place.place (λ (place : ℕ). place))

pub returns : goal.returns
returns c = c.new.ensures ∙ c.loop-place.invariant ∙ ap (λ n. list_below n (λ (place : ℕ). place)) (omega arith)
