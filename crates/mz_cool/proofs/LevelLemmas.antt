-- Where a level ends.
use Rattle.std.proofs.Common.{◌≡◌, ℕ, ◌+◌, ◌*◌, ◌/◌, ◌<◌, ◌≤◌, inl, inr, arith, ap, subst, sym, ◌∙◌, List, get_or}
use Rattle.std.specs.Int.{div_ceil}
use Rattle.std.proofs.lemmas.Grind.{div_ceil_times}
use Rattle.std.proofs.lemmas.Bool.Decides.{leb_tells}
use Rattle.std.proofs.Math.Nat.{div-mul-le_self, le-div_iff_mul-le, div-lt_iff_lt-mul, mul-le-mul_right}
use Rattle.mz_cool.specs.Level.{IsLevelFrom}
use Rattle.mz_cool.specs.Schedule.{Cooling, IsSchedule, temperature_at, temperature_of_level}
use Rattle.mz_cool.specs.Table.{IsTable}
use Rattle.mz_cool.specs.declared.level.Level.{Level}
use Rattle.mz_cool.proofs.ScheduleLemmas.{level-lt, temperature_at-le, temperature_at-pos}
use Rattle.mz_cool.proofs.TableLemmas.{IsTable-read}

-- the level of a position
abbrev pub level_of : ℕ → ℕ → ℕ → ℕ
level_of levels limit position = position * levels / limit

-- where the level of a position ends
abbrev pub end_of : ℕ → ℕ → ℕ → ℕ
end_of levels limit position = div_ceil ((level_of levels limit position + 1) * limit) levels

module _ (levels limit position : ℕ) (some : 1 ≤ levels) (wide : 0 < limit) where
  -- each position from the end on has a later level
  pub end-next : (p : ℕ) → end_of levels limit position ≤ p → level_of levels limit position < level_of levels limit p
  end-next p past =
      let reach = div_ceil_times ((level_of levels limit position + 1) * limit) levels some in
      let more : end_of levels limit position * levels ≤ p * levels = mul-le-mul_right levels past in
      let far : level_of levels limit position + 1 ≤ p * levels / limit = (le-div_iff_mul-le wide).1 (omega (arith, reach.0)) in
      omega arith

  -- the position itself stands before the end
  pub end-past : position < end_of levels limit position
  end-past = elim (leb_tells (end_of levels limit position) position) [
    | inl past ↦ absurd (omega (arith, end-next position past.1))
    | inr before ↦ before.1
  ]

  -- each position before the end, and not before this one, has its level
  pub end-each : (p : ℕ) → position ≤ p → p < end_of levels limit position → level_of levels limit p ≡ level_of levels limit position
  end-each p from before =
      let reach = div_ceil_times ((level_of levels limit position + 1) * limit) levels some in
      let most : (p + 1) * levels ≤ end_of levels limit position * levels = mul-le-mul_right levels (omega arith) in
      let near : p * levels < (level_of levels limit position + 1) * limit = omega (arith, reach.1) in
      let at_most : p * levels / limit < level_of levels limit position + 1 = (div-lt_iff_lt-mul wide).1 near in
      let more : position * levels ≤ p * levels = mul-le-mul_right levels from in
      let own = div-mul-le_self (position * levels) limit in
      let at_least : level_of levels limit position ≤ p * levels / limit = (le-div_iff_mul-le wide).1 (omega (arith, own)) in
      omega arith

  -- the end is at most the limit
  pub end-le : position < limit → end_of levels limit position ≤ limit
  end-le within =
      let reach = div_ceil_times ((level_of levels limit position + 1) * limit) levels some in
      let below = level-lt position levels limit within some in
      let most : (level_of levels limit position + 1) * limit ≤ levels * limit = mul-le-mul_right limit (omega arith) in
      let strict : end_of levels limit position * levels < (limit + 1) * levels = omega (arith, reach.1) in
      elim (leb_tells (limit + 1) (end_of levels limit position)) [
        | inl past ↦ let more = mul-le-mul_right levels past.1 in absurd (omega arith)
        | inr few ↦ omega (arith, few.1)
      ]

-- what the table of the levels says of the positions up to a level's end
level-of : (cooling : Cooling) (position stop temperature : ℕ) (temperatures : List ℕ)
    → IsSchedule cooling → IsTable (temperature_of_level cooling.first cooling.factor) cooling.levels temperatures
    → position < cooling.limit → stop ≡ end_of cooling.levels cooling.limit position
    → temperature ≡ get_or temperatures (level_of cooling.levels cooling.limit position) temperature
    → IsLevelFrom cooling position (record { temperature = temperature; end = stop })
unfolding temperature_at
level-of cooling position stop temperature temperatures is table within stop-is read =
    let wide : 0 < cooling.limit = omega (arith, within) in
    let value = IsTable-read _ _ _ _ _ table (level-lt position cooling.levels cooling.limit within is.levels) read in
    let least = temperature_at-pos cooling position is in
    let most = temperature_at-le cooling position is in record {
      each = λ p from before.
          value ∙ ap (temperature_of_level cooling.first cooling.factor)
          (sym (end-each cooling.levels cooling.limit position is.levels wide p from (rw stop-is at before)));
      least = omega (arith, value);
      most = omega (arith, value);
    }

pub level-from : (cooling now : Cooling) (position p levels limit stop temperature : ℕ) (temperatures : List ℕ)
    → cooling ≡ now → IsSchedule cooling
    → IsTable (temperature_of_level cooling.first cooling.factor) cooling.levels temperatures
    → position < now.limit → p ≡ position → levels ≡ cooling.levels → limit ≡ cooling.limit
    → stop ≡ end_of levels limit p → temperature ≡ get_or temperatures (level_of levels limit p) temperature
    → IsLevelFrom now position (record { temperature = temperature; end = stop })
level-from cooling now position p levels limit stop temperature temperatures same is table within p-is levels-is limit-is stop-is read =
    let inside : position < cooling.limit = rw (← same) at within in
    let level : Level = record { temperature = temperature; end = stop } in
    subst (λ (c : Cooling). IsLevelFrom c position level) same
    (level-of cooling position stop temperature temperatures is table inside (rw (p-is, levels-is, limit-is) at stop-is)
    (rw (p-is, levels-is, limit-is) at read))

pub level-here : (cooling now : Cooling) (position p levels limit stop : ℕ)
    → cooling ≡ now → IsSchedule cooling → position < now.limit → p ≡ position → levels ≡ cooling.levels
    → limit ≡ cooling.limit → stop ≡ end_of levels limit p → (position < stop) × (stop ≤ now.limit)
level-here cooling now position p levels limit stop same is within p-is levels-is limit-is stop-is =
    let inside : position < cooling.limit = rw (← same) at within in
    let wide : 0 < cooling.limit = omega (arith, inside) in
    let stop-at : stop ≡ end_of cooling.levels cooling.limit position = rw (p-is, levels-is, limit-is) at stop-is in
    let past = end-past cooling.levels cooling.limit position is.levels wide in
    let few = end-le cooling.levels cooling.limit position is.levels wide inside in
    let limits = ap (λ (c : Cooling). c.limit) same in
    (omega (arith, past, stop-at), omega (arith, few, stop-at, limits))

pub level-next : (cooling now : Cooling) (position p levels limit stop later : ℕ)
    → cooling ≡ now → IsSchedule cooling → position < now.limit → p ≡ position → levels ≡ cooling.levels
    → limit ≡ cooling.limit → stop ≡ end_of levels limit p → stop ≤ later
    → level_of now.levels now.limit position < level_of now.levels now.limit later
level-next cooling now position p levels limit stop later same is within p-is levels-is limit-is stop-is past =
    let inside : position < cooling.limit = rw (← same) at within in
    let wide : 0 < cooling.limit = omega (arith, inside) in
    let stop-at : stop ≡ end_of cooling.levels cooling.limit position = rw (p-is, levels-is, limit-is) at stop-is in
    let next = end-next cooling.levels cooling.limit position is.levels wide later (omega (arith, past, stop-at)) in
    subst (λ (c : Cooling). level_of c.levels c.limit position < level_of c.levels c.limit later) same next
