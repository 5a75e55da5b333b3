use Rattle.std.proofs.Common.{◌≡◌, ℕ, ◌==◌, Bool, false, ap, sym, ◌∙◌}
use Rattle.std.specs.Prelude.{◌&&◌, Option}
use Rattle.std.proofs.lemmas.Bool.{eq-eqb, ne_eqb}
use Rattle.mz_rows.specs.Runs.{names_pair}
use Rattle.mz_rows.proofs.pairs.is_last.Goals as goal

-- two places and a number
abbrev Pair : Type 0
Pair = ℕ × ℕ × ℕ

pub returns-in-None : goal.returns-in-None
returns-in-None c = ap (λ (last : Option Pair). names_pair last c.args.row.now) c.in-None.ensures.value

pub returns-then-sum-row : goal.returns-then-sum-row
returns-then-sum-row c =
    sym (ap (λ (b : Bool). b && (c.in-Some.sum.now.1 == c.args.row.now.1)) (eq-eqb c.in-Some.sum.now.0 c.args.row.now.0 c.if-sum-row.true))
    ∙ ap (λ (last : Option Pair). names_pair last c.args.row.now) c.in-Some.ensures.value

pub returns-else-sum-row : goal.returns-else-sum-row
returns-else-sum-row c =
    let other : (c.in-Some.sum.now.0 == c.args.row.now.0) ≡ false = ne_eqb c.in-Some.sum.now.0 c.args.row.now.0 c.if-sum-row.false in
    other ∙ sym (ap (λ (b : Bool). b && (c.in-Some.sum.now.1 == c.args.row.now.1)) other)
    ∙ ap (λ (last : Option Pair). names_pair last c.args.row.now) c.in-Some.ensures.value
