use Rattle.std.proofs.Common.{◌≡◌, ℕ, ◌-◌, ◌^◌, ◌%◌, ◌*◌, ◌<◌, Bool, true, false, cond, List, length, get_or, ap, arith, rules, sym, ◌∙◌}
use Rattle.std.proofs.lemmas.List.{get_or_read}
use Rattle.std.proofs.lemmas.Nat.{one_shl}
use Rattle.std.proofs.lemmas.Result.{err_from_is_err_and}
use Rattle.mz_units.specs.ZoneSets.{zone_sets_of}
use Rattle.mz_rows.proofs.AnswerLemmas.{fault-is}
use Rattle.mz_units.proofs.ZoneSetLemmas.{length-zone_sets, zone_sets-none, zone_sets-too_many, zone_sets-fault, zone_sets-more, zone_sets-all}
use Rattle.mz_units.proofs.zone_sets.read_zone_sets.Goals as goal
use Rattle.mz_units.proofs.zone_sets.read_zone_sets.Goals.{then-index, else-index}

every_zone : (n zones : ℕ) → n ≡ zones → n < 64 → 1 * 2 ^ n % 2 ^ 64 - 1 ≡ 2 ^ zones - 1
every_zone n zones e h = ap (λ k. k - 1) (one_shl n 64 h) ∙ ap (λ k. 2 ^ k - 1) e

-- the zones that stood in a unit's set before, where it has a mark, and where it has none
then_before : (sets : List ℕ) (unit before at : ℕ) (mark : Bool) → unit < length sets → before ≡ at → at ≡ get_or sets unit at → mark ≡ true → before ≡ cond mark (get_or sets unit 0) 0
then_before sets unit before at mark h e read marked = e ∙ get_or_read sets _ _ h read 0 ∙ sym (ap (λ b. cond b (get_or sets unit 0) 0) marked)

else_before : (sets : List ℕ) (unit before : ℕ) (mark : Bool) → before ≡ 0 → mark ≡ false → before ≡ cond mark (get_or sets unit 0) 0
else_before sets unit before mark e unmarked = e ∙ sym (ap (λ b. cond b (get_or sets unit 0) 0) unmarked)

pub loop-row-init : goal.loop-row-init
loop-row-init c =
    zone_sets-none c.args.units.now c.args.zones.now c.args.table.now c.in_ok-limited.limited.items c.in_ok-sets.sets.items _ _ c.len-2.ensures.len
    (every_zone c.len.result (length c.args.zones.now) c.len.ensures.len (omega (arith, c.requires.zones)))
    (c.in_ok-limited.ensures.items_if_clones_equal (search rules)) (grind (arith, c.in_ok-sets.ensures.items_if_clones_equal (search rules), c.len-2.ensures.len, c.len-3.ensures.len))

pub returns-then-row-ge-MOST_ROWS-clause-answer : goal.returns-then-row-ge-MOST_ROWS-clause-answer
returns-then-row-ge-MOST_ROWS-clause-answer c = rw c.line.ensures (zone_sets-too_many c.args.units.now c.args.zones.now c.args.table.now c.loop-row.limited.items c.loop-row.sets.items c.loop-row.row c.loop-row.invariant (omega (arith, c.rows-row-end.ensures.rows)) (omega arith))

pub returns-in_err-listed-clause-answer : goal.returns-in_err-listed-clause-answer
returns-in_err-listed-clause-answer c =
    let passed = err_from_is_err_and c.from_residual-in_err-listed.result c.from_residual-in_err-listed.ensures.1 in
    rw (passed.1, passed.2) (fault-is c.in_err-listed.field-0.0 (zone_sets_of c.args.units.now c.args.zones.now c.args.table.now)
    (zone_sets-fault c.args.units.now c.args.zones.now c.args.table.now c.loop-row.limited.items c.loop-row.sets.items c.loop-row.row c.in_err-listed.field-0.0 c.loop-row.invariant (omega (arith, c.rows-row-end.ensures.rows)) (omega arith) (sym c.in_err-listed.ensures.answer)))

pub loop-row-preserved : goal.loop-row-preserved
loop-row-preserved c =
    let size : length c.loop-row.sets.items ≡ length c.args.units.now = length-zone_sets c.args.units.now c.args.zones.now c.args.table.now c.loop-row.limited.items c.loop-row.sets.items c.loop-row.row c.loop-row.invariant in
    let unit : c.in_ok-listed.listed.0 < length c.args.units.now = c.in_ok-listed.ensures.unit in
    let was : c.if-index.others ≡ cond c.index.result.now (get_or c.loop-row.sets.items c.in_ok-listed.listed.0 0) 0 = elim c.if-index.branch [
      | then-index w ↦ then_before c.loop-row.sets.items c.in_ok-listed.listed.0 c.if-index.others w.index-then-index.result.now c.index.result.now (omega arith) w.others-is w.index-then-index.ensures w.if-index.true
      | else-index w ↦ else_before c.loop-row.sets.items c.in_ok-listed.listed.0 c.if-index.others c.index.result.now w.others-is w.if-index.false
    ] in
    zone_sets-more c.args.units.now c.args.zones.now c.args.table.now c.loop-row.limited.items c.loop-row.sets.items c.loop-row.row c.in_ok-listed.listed c.index.result.now c.index.result.now c.if-index.others _ c.loop-row.invariant (omega (arith, c.rows-row-end.ensures.rows)) (omega arith) (sym c.in_ok-listed.ensures.answer) c.in_ok-listed.ensures.unit c.in_ok-listed.ensures.zone c.index.ensures was
    (one_shl c.in_ok-listed.listed.1 64 (omega (arith, c.in_ok-listed.ensures.zone, c.requires.zones)))

pub returns-clause-answer : goal.returns-clause-answer
returns-clause-answer c = zone_sets-all c.args.units.now c.args.zones.now c.args.table.now c.loop-row.limited.items c.loop-row.sets.items c.loop-row.row c.loop-row.invariant (omega (arith, c.rows-row-end.ensures.rows))
