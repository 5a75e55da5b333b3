use Rattle.std.proofs.Common.{◌≡◌, ℕ, ◌+◌, ◌≤◌, ◌<◌, ◌*◌, ◌++◌, ◌∷◌, [], List, ap, sym, ◌∙◌, length, get_or, set, take, arith}
use Rattle.std.specs.Prelude.{nat_le}
use Rattle.std.proofs.lemmas.Bool.{cond-true, cond-false, le-leb, lt-leb}
use Rattle.std.proofs.lemmas.List.{append-nil}
use Rattle.mz_model.specs.declared.touch.Touch.{Touch}
use Rattle.mz_model.specs.Built.{touching}
use Rattle.mz_model.specs.Groups.{counts_with}
use Rattle.mz_model.specs.Targets.{as_touch}
use Rattle.mz_model.proofs.BuildLaws.{counts_with-none, counts_with-push, length-counts_with, touching-more}
use Rattle.mz_model.proofs.build.count_touches.Goals as goal
use Rattle.mz_model.proofs.build.count_touches.Goals.{then-amount-part-ge500000+in_ok-count_one, else-amount-part-ge500000}

-- a holder of enough
enough : (start counts counts' : List ℕ) (part i : ℕ) (holders : List (ℕ × ℕ)) → i < length holders → counts ≡ counts_with start (touching 0 part (take i holders)) → 500000 ≤ (get_or holders i (0, 0)).1 * part → (get_or holders i (0, 0)).0 < length start
    → counts' ≡ set counts (get_or holders i (0, 0)).0 (get_or counts (get_or holders i (0, 0)).0 0 + 1) → counts' ≡ counts_with start (touching 0 part (take (i + 1) holders))
enough start counts counts' part i holders h now much inside pushed =
    let holder : ℕ × ℕ = get_or holders i (0, 0) in
    counts_with-push start counts counts' (touching 0 part (take i holders)) holder.0 (as_touch 0 holder.1) now inside pushed
    ∙ ap (counts_with start) (sym (touching-more 0 part holders i (0, 0) h ∙ ap (λ es. touching 0 part (take i holders) ++ es) (cond-true (nat_le 500000 (holder.1 * part)) ((holder.0, as_touch 0 holder.1) ∷ []) [] (le-leb 500000 (holder.1 * part) much))))

-- a holder of too little
little : (start counts : List ℕ) (part i : ℕ) (holders : List (ℕ × ℕ)) → i < length holders → counts ≡ counts_with start (touching 0 part (take i holders)) → (get_or holders i (0, 0)).1 * part < 500000 → counts ≡ counts_with start (touching 0 part (take (i + 1) holders))
little start counts part i holders h now few =
    let holder : ℕ × ℕ = get_or holders i (0, 0) in
    now ∙ ap (counts_with start) (sym (touching-more 0 part holders i (0, 0) h ∙ ap (λ es. touching 0 part (take i holders) ++ es) (cond-false (nat_le 500000 (holder.1 * part)) ((holder.0, as_touch 0 holder.1) ∷ []) [] (lt-leb 500000 (holder.1 * part) few)) ∙ append-nil (touching 0 part (take i holders))))

pub loop-unit-init : goal.loop-unit-init
loop-unit-init c = counts_with-none Touch c.args.counts.now.items

pub count_one-requires : goal.count_one-requires
count_one-requires c =
    let inside : (get_or c.args.holders.now c.loop-unit.unit-index (0, 0)).0 < length c.args.counts.now.items = c.requires c.loop-unit.unit-index (0, 0) c.loop-unit-test.true in
    omega (arith, inside, ap length c.loop-unit.invariant, length-counts_with c.args.counts.now.items (touching 0 c.args.part (take c.loop-unit.unit-index c.args.holders.now)))

pub loop-unit-preserved : goal.loop-unit-preserved
loop-unit-preserved c =
    elim c.if-amount-part-ge500000.branch [
      | then-amount-part-ge500000+in_ok-count_one w ↦ rw w.counts-is (enough c.args.counts.now.items c.loop-unit.counts.items _ c.args.part c.loop-unit.unit-index c.args.holders.now c.loop-unit-test.true c.loop-unit.invariant w.if-amount-part-ge500000.true (c.requires c.loop-unit.unit-index (0, 0) c.loop-unit-test.true) w.in_ok-count_one.ensures)
      | else-amount-part-ge500000 w ↦ rw w.counts-is (little c.args.counts.now.items c.loop-unit.counts.items c.args.part c.loop-unit.unit-index c.args.holders.now c.loop-unit-test.true c.loop-unit.invariant w.if-amount-part-ge500000.false)
    ]
