-- What the totals of a plan miss, row by row.
use Rattle.std.proofs.Common.{◌≡◌, ℕ, ◌+◌, ◌<◌, ◌≤◌, Bool, true, false, cond, List, [], ◌∷◌, length, slice_index, Option, None, Some, IfSome, ap, sym, ◌∙◌, refl, arith, length-append}
use Rattle.std.specs.Int.{from_bool}
use Rattle.mz_num.specs.Places.{list_below, places_below}
use Rattle.mz_num.proofs.PlaceLaws.{get_or-list_below, places_below-more, sum_below-same}
use Rattle.mz_model.specs.declared.parts.Parts.{Parts}
use Rattle.mz_model.specs.Parts.{target_count}
use Rattle.mz_model.specs.Targets.{held_of, shortfall_of, shortfall_of_plan}
use Rattle.mz_model.proofs.BuildLaws.{IsSomeOrNone}
use Rattle.mz_files.specs.Missed.{shortfall_of_totals}

-- the shortfall of a plan's own totals is the plan's
pub own_shortfall : (parts : Parts) (plan totals : List ℕ) → totals ≡ list_below (target_count parts) (held_of parts plan)
    → shortfall_of_totals parts totals ≡ shortfall_of_plan parts plan
unfolding shortfall_of_totals shortfall_of_plan
own_shortfall parts plan totals own =
    sum_below-same (target_count parts) (λ row. shortfall_of parts row (slice_index totals row)) (λ row. shortfall_of parts row (held_of parts plan row))
    (λ row inside. ap (shortfall_of parts row) (ap (λ xs. slice_index xs row) own ∙ get_or-list_below (target_count parts) row (held_of parts plan) 0 inside))

one_or_none : (n : ℕ) (passes : Bool) → from_bool passes ≡ length (cond passes (n ∷ []) [])
one_or_none n true = refl
one_or_none n false = refl

-- how many places pass a test, with one place more
pub count_more : (n : ℕ) (test : ℕ → Bool) (count count' : ℕ) → count ≡ length (places_below n test) → count' ≡ count + from_bool (test n)
    → count' ≡ length (places_below (n + 1) test)
count_more n test count count' now more =
    more
    ∙ ap (λ k. k + from_bool (test n)) now
    ∙ ap (λ k. length (places_below n test) + k) (one_or_none n (test n))
    ∙ sym (length-append (places_below n test) (cond (test n) (n ∷ []) []))
    ∙ ap length (sym (places_below-more n test))

pub one-most : (passes : Bool) → from_bool passes ≤ 1
one-most true = omega arith
one-most false = omega arith

pub zone-if_some : (n : ℕ) (zone : Option ℕ) → IsSomeOrNone n zone → IfSome zone (λ z. z < n)
zone-if_some n None is = tt
zone-if_some n (Some zone) is = is
