-- What units cost that are taken in their order.
use Rattle.std.proofs.Common.{◌≡◌, ℕ, ◌+◌, ◌-◌, zero, suc, true, false, cond, nat_lt, List, [], ◌∷◌, get_or, refl, sym, ◌∙◌, ap, arith}
use Rattle.std.specs.Prelude.{All}
use Rattle.std.specs.List.{sum_by}
use Rattle.std.specs.List.Sorted.{IsPermutation}
use Rattle.std.proofs.lemmas.Bool.Decides.{nat_tests}
use Rattle.std.proofs.lemmas.List.Sums.{sum_by-cons}
use Rattle.std.proofs.lemmas.List.Sorted.{sum_by-IsPermutation}
use Rattle.mz_penalty.specs.Order.{HeldAmount, comes_before}
use Rattle.mz_penalty.specs.Base.{is_taken, cost_taken}
use Rattle.mz_penalty.specs.Ordered.{cost_until}
use Rattle.mz_penalty.proofs.SumLemmas.{part, sum_by-nothing, sum_by-same, sum_by-filter}

-- each unit of the list comes before those behind it
abbrev pub IsInOrder : List HeldAmount → Type 0
IsInOrder [] = Unit {0}
IsInOrder (unit ∷ units) = All (λ other. (comes_before unit other ≡ true) × (comes_before other unit ≡ false)) units × IsInOrder units

-- the sums of the definition, without its filters
abbrev before : List HeldAmount → HeldAmount → ℕ
before all unit = sum_by (part (λ other. comes_before other unit) (λ other. other.amount)) all

abbrev cost_within : (HeldAmount → ℕ) → ℕ → HeldAmount → ℕ
cost_within reached level unit = cond (nat_lt (reached unit) level) unit.cost 0

pub cost_taken-parts : (all : List HeldAmount) (level : ℕ) → cost_taken all level ≡ sum_by (cost_within (before all) level) all
cost_taken-parts all level =
    sum_by-filter (is_taken all level) (λ unit. unit.cost) all
    ∙ sum_by-same (part (is_taken all level) (λ unit. unit.cost)) (cost_within (before all) level) all
    (λ k d h. ap (λ n. cond (nat_lt n level) (get_or all k d).cost 0) (sum_by-filter (λ other. comes_before other (get_or all k d)) (λ other. other.amount) all))

-- nothing comes before the first unit
before-first : (unit : HeldAmount) (units : List HeldAmount) → All (λ other. (comes_before unit other ≡ true) × (comes_before other unit ≡ false)) units → before (unit ∷ units) unit ≡ 0
before-first unit units first =
    let itself : comes_before unit unit ≡ false = grind (arith, nat_tests) in
    let none : sum_by (part (λ other. comes_before other unit) (λ other. other.amount)) units ≡ sum_by (λ other. 0) units =
    sum_by-same (part (λ other. comes_before other unit) (λ other. other.amount)) (λ other. 0) units
    (λ k d h. ap (λ b. cond b (get_or units k d).amount 0) (first k d h).1) in
    sum_by-cons (part (λ other. comes_before other unit) (λ other. other.amount)) unit units
    ∙ ap (λ b. cond b unit.amount 0 + before units unit) itself
    ∙ ap (λ n. 0 + n) (none ∙ sum_by-nothing units)

-- the first unit comes before each other
before-later : (unit : HeldAmount) (units : List HeldAmount) (other : HeldAmount) → comes_before unit other ≡ true → before (unit ∷ units) other ≡ unit.amount + before units other
before-later unit units other h =
    sum_by-cons (part (λ o. comes_before o other) (λ o. o.amount)) unit units ∙ ap (λ b. cond b unit.amount 0 + before units other) h

less_missing : (a b n : ℕ) → nat_lt (a + b) n ≡ nat_lt b (n - a)
less_missing a b n = grind (arith, nat_tests)

nothing_below : (n : ℕ) → nat_lt n 0 ≡ false
nothing_below n = grind (arith, nat_tests)

some_missing : (n : ℕ) → nat_lt 0 (suc n) ≡ true
some_missing n = grind (arith, nat_tests)

-- over a list in order, a unit is taken where the front before it doesn't reach the level
pub cost_until-in_order : (units : List HeldAmount) (level : ℕ) → IsInOrder units → cost_until level units ≡ sum_by (cost_within (before units) level) units
cost_until-in_order units zero h =
    sym (sum_by-same (cost_within (before units) 0) (λ unit. 0) units (λ k d l. ap (λ b. cond b (get_or units k d).cost 0) (nothing_below (before units (get_or units k d)))) ∙ sum_by-nothing units)
cost_until-in_order [] (suc below) h = refl
cost_until-in_order (unit ∷ units) (suc below) h =
    let rest : sum_by (cost_within (before (unit ∷ units)) (suc below)) units ≡ sum_by (cost_within (before units) (suc below - unit.amount)) units =
    sum_by-same (cost_within (before (unit ∷ units)) (suc below)) (cost_within (before units) (suc below - unit.amount)) units
    (λ k d l. ap (λ b. cond b (get_or units k d).cost 0)
    (ap (λ n. nat_lt n (suc below)) (before-later unit units (get_or units k d) (h.0 k d l).0) ∙ less_missing unit.amount (before units (get_or units k d)) (suc below))) in
    let first : cost_within (before (unit ∷ units)) (suc below) unit ≡ unit.cost =
    ap (λ n. cond (nat_lt n (suc below)) unit.cost 0) (before-first unit units h.0) ∙ ap (λ b. cond b unit.cost 0) (some_missing below) in
    ap (λ s. unit.cost + s) (cost_until-in_order units (suc below - unit.amount) h.1 ∙ sym rest)
    ∙ ap (λ n. n + sum_by (cost_within (before (unit ∷ units)) (suc below)) units) (sym first)
    ∙ sym (sum_by-cons (cost_within (before (unit ∷ units)) (suc below)) unit units)

-- the units that are taken are the same whatever the order of the list
pub cost_taken-permutation : (all some : List HeldAmount) (level : ℕ) → IsPermutation all some → cost_taken some level ≡ cost_taken all level
cost_taken-permutation all some level same =
    cost_taken-parts some level
    ∙ sum_by-same (cost_within (before some) level) (cost_within (before all) level) some
    (λ k d l. ap (λ n. cond (nat_lt n level) (get_or some k d).cost 0)
    (sum_by-IsPermutation (part (λ other. comes_before other (get_or some k d)) (λ other. other.amount)) all some same))
    ∙ sum_by-IsPermutation (cost_within (before all) level) all some same
    ∙ sym (cost_taken-parts all level)

-- the base's costs are those of the shortest front of the units in order that reaches the level
pub cost_taken-in_order : (all ordered : List HeldAmount) (level : ℕ) → IsPermutation all ordered → IsInOrder ordered → cost_until level ordered ≡ cost_taken all level
cost_taken-in_order all ordered level same h =
    cost_until-in_order ordered level h ∙ sym (cost_taken-parts ordered level) ∙ cost_taken-permutation all ordered level same
