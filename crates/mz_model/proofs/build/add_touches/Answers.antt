use Rattle.std.proofs.Common.{◌≡◌, ℕ, ◌+◌, ◌≤◌, ◌<◌, ◌*◌, ◌++◌, ◌∷◌, [], List, ap, sym, ◌∙◌, length, get_or, set, take, drop, arith}
use Rattle.std.specs.Prelude.{nat_le}
use Rattle.std.proofs.lemmas.Bool.{cond-true, cond-false, le-leb, lt-leb}
use Rattle.std.proofs.lemmas.List.{append-nil}
use Rattle.mz_model.specs.declared.touch.Touch.{Touch}
use Rattle.mz_model.specs.Built.{touching}
use Rattle.mz_model.specs.Groups.{Filling, HasRoom, filled}
use Rattle.mz_model.specs.Targets.{as_touch}
use Rattle.mz_model.proofs.BuildLaws.{filled-none, filled-push, length-filled, room-next, touching-more, touching-split}
use Rattle.mz_model.proofs.build.add_touches.Goals as goal
use Rattle.mz_model.proofs.build.add_touches.Goals.{then-amount-part-ge500000, else-amount-part-ge500000}

-- a holder of enough
entry_more : (row part i : ℕ) (holders : List (ℕ × ℕ)) → i < length holders → 500000 ≤ (get_or holders i (0, 0)).1 * part → touching row part (take (i + 1) holders) ≡ touching row part (take i holders) ++ ((get_or holders i (0, 0)).0, as_touch row (get_or holders i (0, 0)).1) ∷ []
entry_more row part i holders h much =
    let holder : ℕ × ℕ = get_or holders i (0, 0) in
    touching-more row part holders i (0, 0) h ∙ ap (λ es. touching row part (take i holders) ++ es) (cond-true (nat_le 500000 (holder.1 * part)) ((holder.0, as_touch row holder.1) ∷ []) [] (le-leb 500000 (holder.1 * part) much))

-- so far: the lists of the start, filled
abbrev so_far : Filling Touch → ℕ → ℕ → List (ℕ × ℕ) → Filling Touch
so_far start row part holders = record start { lists = filled start.lists (touching row part holders) }

enough : (start now one : Filling Touch) (row part i : ℕ) (holders : List (ℕ × ℕ)) → i < length holders → now ≡ so_far start row part (take i holders) → 500000 ≤ (get_or holders i (0, 0)).1 * part → (get_or holders i (0, 0)).0 < length start.lists
    → one ≡ record now { lists = set now.lists (get_or holders i (0, 0)).0 (get_or now.lists (get_or holders i (0, 0)).0 [] ++ as_touch row (get_or holders i (0, 0)).1 ∷ []) } → one ≡ so_far start row part (take (i + 1) holders)
enough start now one row part i holders h is much inside pushed =
    let holder : ℕ × ℕ = get_or holders i (0, 0) in
    let lists : one.lists ≡ filled start.lists (touching row part (take (i + 1) holders)) =
    filled-push start.lists now.lists one.lists (touching row part (take i holders)) holder.0 (as_touch row holder.1) (ap (λ (v : Filling Touch). v.lists) is) inside (ap (λ (v : Filling Touch). v.lists) pushed)
    ∙ ap (filled start.lists) (sym (entry_more row part i holders h much)) in
    let room : one.room ≡ start.room = ap (λ (v : Filling Touch). v.room) pushed ∙ ap (λ (v : Filling Touch). v.room) is in
    λ k. record { lists = lists k; room = room k }

-- a holder of too little
little : (start now : Filling Touch) (row part i : ℕ) (holders : List (ℕ × ℕ)) → i < length holders → now ≡ so_far start row part (take i holders) → (get_or holders i (0, 0)).1 * part < 500000 → now ≡ so_far start row part (take (i + 1) holders)
little start now row part i holders h is few =
    let holder : ℕ × ℕ = get_or holders i (0, 0) in
    is ∙ ap (λ es. record start { lists = filled start.lists es }) (sym (touching-more row part holders i (0, 0) h ∙ ap (λ es. touching row part (take i holders) ++ es) (cond-false (nat_le 500000 (holder.1 * part)) ((holder.0, as_touch row holder.1) ∷ []) [] (lt-leb 500000 (holder.1 * part) few)) ∙ append-nil (touching row part (take i holders))))

room : (start now : Filling Touch) (row part i : ℕ) (holders : List (ℕ × ℕ)) → i < length holders → now ≡ so_far start row part (take i holders) → 500000 ≤ (get_or holders i (0, 0)).1 * part → (get_or holders i (0, 0)).0 < length start.lists → HasRoom start (touching row part holders)
    → length (get_or now.lists (get_or holders i (0, 0)).0 []) < get_or now.room (get_or holders i (0, 0)).0 0
room start now row part i holders h is much inside has =
    let holder : ℕ × ℕ = get_or holders i (0, 0) in
    let next : length (get_or now.lists holder.0 []) < get_or start.room holder.0 0 =
    room-next start.lists now.lists start.room (touching row part (take i holders)) (touching row part holders) (touching row part (drop (i + 1) holders)) holder.0 (as_touch row holder.1) has
    (touching-split row part holders i h ∙ ap (λ es. es ++ touching row part (drop (i + 1) holders)) (entry_more row part i holders h much)) (ap (λ (v : Filling Touch). v.lists) is) inside in
    omega (arith, next, ap (λ (v : Filling Touch). get_or v.room holder.0 0) is)

pub loop-unit-init : goal.loop-unit-init
loop-unit-init c = ap (λ ls. record c.args.lists.now { lists = ls }) (filled-none c.args.lists.now.lists)

pub push-requires-clause-inside : goal.push-requires-clause-inside
push-requires-clause-inside c =
    let inside : (get_or c.args.holders.now c.loop-unit.unit-index (0, 0)).0 < length c.args.lists.now.lists = c.requires.inside c.loop-unit.unit-index (0, 0) c.loop-unit-test.true in
    omega (arith, inside, ap (λ (v : Filling Touch). length v.lists) c.loop-unit.invariant, length-filled c.args.lists.now.lists (touching c.args.row c.args.part (take c.loop-unit.unit-index c.args.holders.now)))

pub push-requires-clause-room : goal.push-requires-clause-room
push-requires-clause-room c = room c.args.lists.now c.loop-unit.lists c.args.row c.args.part c.loop-unit.unit-index c.args.holders.now c.loop-unit-test.true c.loop-unit.invariant c.if-amount-part-ge500000.true (c.requires.inside c.loop-unit.unit-index (0, 0) c.loop-unit-test.true) c.requires.room

pub loop-unit-preserved : goal.loop-unit-preserved
loop-unit-preserved c =
    elim c.if-amount-part-ge500000.branch [
      | then-amount-part-ge500000 w ↦ w.lists-is ∙ enough c.args.lists.now c.loop-unit.lists _ c.args.row c.args.part c.loop-unit.unit-index c.args.holders.now c.loop-unit-test.true c.loop-unit.invariant w.if-amount-part-ge500000.true (c.requires.inside c.loop-unit.unit-index (0, 0) c.loop-unit-test.true) w.push.ensures
      | else-amount-part-ge500000 w ↦ w.lists-is ∙ little c.args.lists.now c.loop-unit.lists c.args.row c.args.part c.loop-unit.unit-index c.args.holders.now c.loop-unit-test.true c.loop-unit.invariant w.if-amount-part-ge500000.false
    ]
