use Rattle.std.proofs.Common.{◌≡◌, ℕ, suc, ◌+◌, ◌<◌, ◌≤◌, true, List, [], ◌∷◌, ◌++◌, length, get_or, map, take, ap, arith, codes, length-take-le, sym, ◌∙◌}
use Rattle.std.proofs.lemmas.List.{length-map, map_more, take_all}
use Rattle.mz_tables.specs.Wants.{want}
use Rattle.mz_tables.specs.declared.wants.Want.{Want}
use Rattle.mz_units.specs.Wanted.{unit_columns}
use Rattle.mz_units.proofs.wanted.wants_units.Goals as goal

few_columns : (names : List (List ℕ)) (i : ℕ) (wants : List Want) → i < length names → length names ≤ 60 → wants ≡ unit_columns (take i names) → length wants < 65535
few_columns names i wants h few e =
    let count : length wants ≡ suc (length (map (λ n. want n [] true) (take i names))) = ap length e in
    omega (arith, length-map (take i names) (λ n. want n [] true), length-take-le i names (omega arith))

columns_more : (names : List (List ℕ)) (i : ℕ) (name : List ℕ) (wants wants' : List Want) → i < length names → name ≡ get_or names i name → wants ≡ unit_columns (take i names) → wants' ≡ wants ++ want name [] true ∷ [] → wants' ≡ unit_columns (take (i + 1) names)
columns_more names i name wants wants' h at so_far e =
    e ∙ ap (λ (ws : List Want). ws ++ want name [] true ∷ []) so_far
    ∙ ap (λ (ws : List Want). want (codes "id") [] true ∷ ws) (ap (λ n. map (λ n. want n [] true) (take i names) ++ want n [] true ∷ []) at ∙ sym (map_more (λ (n : List ℕ). want n [] true) names i name h))

pub loop-name-init : goal.loop-name-init
loop-name-init c = c.in_ok-wants.ensures ∙ c.unit_id_columns.ensures

pub add-requires : goal.add-requires
add-requires c = few_columns c.as_slice-name-items.result.now c.loop-name.name-index c.loop-name.wants (omega arith) (omega (arith, ap length c.as_slice-name-items.ensures, c.requires)) c.loop-name.invariant

pub loop-name-preserved : goal.loop-name-preserved
loop-name-preserved c = columns_more c.as_slice-name-items.result.now c.loop-name.name-index c.name-item.result c.loop-name.wants c.add.new.self (omega arith) c.name-item.is c.loop-name.invariant
    (c.in_ok-add.ensures.ok ∙ ap (λ (name : List ℕ). c.loop-name.wants ++ want name [] true ∷ []) c.as_slice.ensures)

pub returns : goal.returns
returns c = c.loop-name.invariant ∙ ap unit_columns (take_all c.loop-name.name-index c.as_slice-name-items.result.now (omega arith) ∙ c.as_slice-name-items.ensures)
