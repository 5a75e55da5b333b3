-- What a turn comes to.
use Rattle.std.proofs.Common.{◌≡◌, ℕ, false, List, [], ◌∷◌, ◌++◌, length, Option, None, Some, sym, ap, ◌∙◌, subst, append-nil}
use Rattle.std.specs.Prelude.{if◌then◌else◌}
use Rattle.std.proofs.lemmas.Bool.{eq-eqb, ne_eqb}
use Rattle.mz_board.specs.Chair.{BoardId, ChairState, Reads, with_entry, without_turn}
use Rattle.mz_model.specs.declared.parts.Parts.{Parts}
use Rattle.mz_delta.specs.declared.judged.Judged.{Judged}
use Rattle.mz_delta.specs.declared.reading.Reading.{Reading}
use Rattle.mz_delta.specs.Judged.{IsRight}
use Rattle.mz_history.specs.declared.entry.Entry.{Entry}
use Rattle.mz_history.specs.Core.{entry_of_seat, next_draw, seats_of}
use Rattle.mz_history.specs.Replay.{turns_of}
use Rattle.mz_history.specs.Verdict as core
use Rattle.mz_history.specs.Verdict.{again, decided, full, overtaking_entry, verdict_if}
use Rattle.mz_state.specs.declared.receipt.Receipt.{Receipt}
use Rattle.mz_state.specs.Kept.{IsKept, KeptState}
use Rattle.mz_state.specs.Looks.{IsRightFor}
use Rattle.mz_state.specs.NextMove.{IsNextMove}
use Rattle.mz_store.specs.declared.store.commits.Turn.{Turn}
use Rattle.mz_store.specs.declared.told.Told.{Told}
use Rattle.mz_store.specs.declared.verdict.Verdict.{Verdict}
use Rattle.mz_store.specs.declared.verdict.Verdict.TheVariants.{Again, Decided, Full}
use Rattle.mz_store.specs.Looks.{IsLoaded}
use Rattle.mz_store.specs.RunSetting.{run_of, RunSetting}
use Rattle.mz_store.specs.Store.{IsStore, StoreState}
use Rattle.mz_store.specs.Told.{told_all, writes}
use Rattle.mz_store.specs.Turns.{Decides, ended, HasTurn, ShowsGains}
use Rattle.mz_store.specs.Verdict.{added, answer_of, verdict_on}
use Rattle.mz_store.specs.Words.{opening_words}
use Rattle.mz_store.proofs.AppendLaws.{run-is}
use Rattle.mz_store.proofs.RightLaws.{loaded-right, next-gains, next-moves}
use Rattle.mz_store.proofs.ToldLaws.{length-told}

-- a chair that has appended nothing puts back what it took
ended-is : {E S : Type 0} (chair : ChairState E S) (list : List E) → HasTurn chair list → without_turn chair ≡ ended chair list
ended-is chair list h = λ i. record chair {
  seen = h.seen i;
  own = h.own i;
  taken = None;
  post = record chair.post { reached = h.reached i; appended = false; owes = [] };
}

-- what a chair that has taken the state knows
pub record HasState (now : StoreState) (chair : ChairState Told RunSetting) (k : KeptState) (reading : Reading) (judged : Judged) : Type 0 where
  pub store : IsStore now
  pub here : chair.lock ≡ now.board
  pub setting : chair.lock.setting ≡ Some (run_of k)
  pub turn : HasTurn chair (told_all k.setting k.journal)
  pub reads : Reads writes chair.lock.opening chair.post (told_all k.setting k.journal)
  pub loaded : IsLoaded now.run.setting.parts chair.number chair.post reading
  pub kept : IsKept k
  pub right : IsRight now.run.setting.parts reading (next_draw now.run.setting.parts now.run.setting.seed now.run.setting.run k.journal chair.number) judged

module _ (now : StoreState) (chair : ChairState Told RunSetting) (k : KeptState) (reading : Reading) (judged : Judged) (has : HasState now chair k reading judged) where
  run-same : run_of k ≡ now.run
  run-same = run-is now chair.lock (run_of k) has.store has.here has.setting

  pub judged-seat : judged.seat ≡ chair.number
  judged-seat = has.right.move.seat ∙ has.loaded.seat_is

  pub right-for : IsRightFor k.setting k.journal reading
  right-for =
      let opens : chair.lock.opening ≡ opening_words k.setting = ap (λ (b : BoardId RunSetting). b.opening) has.here ∙ has.store.opening_is ∙ ap (λ (r : RunSetting). opening_words r.setting) (sym run-same) in
      let loaded : IsLoaded k.setting.parts chair.number chair.post reading = subst (λ (r : RunSetting). IsLoaded r.setting.parts chair.number chair.post reading) (sym run-same) has.loaded in
      loaded-right k.setting k.journal chair.lock.opening chair.number chair.post reading has.kept.valid has.kept.journal.history has.kept.journal.moves opens has.reads loaded (length-told k.setting k.journal)

  judges : IsRight k.setting.parts reading (next_draw k.setting.parts k.setting.seed k.setting.run k.journal chair.number) judged
  judges = subst (λ (r : RunSetting). IsRight r.setting.parts reading (next_draw r.setting.parts r.setting.seed r.setting.run k.journal chair.number) judged) (sym run-same) has.right

  -- what was judged can be applied where nothing overtook the reading
  pub may-apply : overtaking_entry k.setting.parts k.journal reading.front reading.unit ≡ None → IsNextMove k judged
  may-apply none = next-moves k chair.number reading judged has.kept right-for none judged-seat judges

  -- the totals that were read and judged show what the unit gains, where nothing overtook the reading
  pub shows-gains : overtaking_entry k.setting.parts k.journal reading.front reading.unit ≡ None → ShowsGains k.setting.parts reading judged
  shows-gains none = next-gains k reading (next_draw k.setting.parts k.setting.seed k.setting.run k.journal chair.number) judged has.kept right-for none judges

  -- ---- the verdict

  parts-same : now.run.setting.parts ≡ k.setting.parts
  parts-same = ap (λ (r : RunSetting). r.setting.parts) (sym run-same)

  abbrev overtaken : Option ℕ
  overtaken = overtaking_entry now.run.setting.parts k.journal reading.front reading.unit

  full-verdict : length k.journal ≡ now.run.limit → verdict_on now.run k.journal reading ≡ full
  full-verdict e = ap (λ b. if b then full else verdict_if overtaken) (eq-eqb (length k.journal) now.run.limit e)

  open-verdict : (length k.journal ≡ now.run.limit → ⊥) → (o : Option ℕ) → overtaking_entry k.setting.parts k.journal reading.front reading.unit ≡ o → verdict_on now.run k.journal reading ≡ verdict_if o
  open-verdict not_full o found =
      ap (λ b. if b then full else verdict_if overtaken) (ne_eqb (length k.journal) now.run.limit not_full)
      ∙ ap verdict_if (ap (λ (p : Parts). overtaking_entry p k.journal reading.front reading.unit) parts-same ∙ found)

  abbrev answer : core.Verdict → Verdict
  answer v = answer_of k.setting k.journal chair.number v

  pub full-answer : length k.journal ≡ now.run.limit → Full ≡ answer (verdict_on now.run k.journal reading)
  full-answer e = ap answer (sym (full-verdict e))

  pub again-answer : (position : ℕ) → (length k.journal ≡ now.run.limit → ⊥) → overtaking_entry k.setting.parts k.journal reading.front reading.unit ≡ Some position → Again position ≡ answer (verdict_on now.run k.journal reading)
  again-answer position not_full found = ap answer (sym (open-verdict not_full (Some position) found))

  pub decided-answer : (receipt : Receipt) → (length k.journal ≡ now.run.limit → ⊥) → overtaking_entry k.setting.parts k.journal reading.front reading.unit ≡ None
      → receipt.position ≡ length k.journal → receipt.entry ≡ entry_of_seat k.setting k.journal judged.seat → Decided receipt ≡ answer (verdict_on now.run k.journal reading)
  decided-answer receipt not_full none position entry =
      ap (λ (p : ℕ). Decided (record { position = p; entry = receipt.entry })) position
      ∙ ap (λ (e : Entry). Decided (record { position = length k.journal; entry = e })) (entry ∙ ap (λ (n : ℕ). entry_of_seat k.setting k.journal n) judged-seat)
      ∙ ap answer (sym (open-verdict not_full None none))

  -- ---- the end of a turn

  finished : (mid new : ChairState Told RunSetting) (n : KeptState) (verdict : Verdict) (turn : Turn) → verdict ≡ answer (verdict_on now.run k.journal reading) → n ≡ record k { journal = k.journal ++ added verdict }
      → without_turn mid ≡ ended chair (told_all k.setting (k.journal ++ added verdict)) → turn.verdict ≡ verdict → turn.length ≡ length n.journal → turn.number ≡ turns_of judged.seat (seats_of n.journal) → new ≡ without_turn mid
      → Decides now.run chair new (told_all k.setting (k.journal ++ added turn.verdict)) k reading turn
  finished mid new n verdict turn is state ends verdict_is length_is number_is new_is = record {
    kept = has.kept;
    right = right-for;
    verdict_is = verdict_is ∙ is;
    length_is = length_is ∙ ap (λ (x : KeptState). length x.journal) state ∙ ap (λ (v : Verdict). length (k.journal ++ added v)) (sym verdict_is);
    number_is = number_is ∙ ap (λ (x : KeptState). turns_of judged.seat (seats_of x.journal)) state ∙ ap (λ (s : ℕ). turns_of s (seats_of (k.journal ++ added verdict))) judged-seat
        ∙ ap (λ (v : Verdict). turns_of chair.number (seats_of (k.journal ++ added v))) (sym verdict_is);
    now = new_is ∙ ends ∙ ap (λ (v : Verdict). ended chair (told_all k.setting (k.journal ++ added v))) (sym verdict_is);
  }

  -- a verdict that adds nothing
  pub left-alone : (new : ChairState Told RunSetting) (verdict : Verdict) (turn : Turn) → added verdict ≡ [] → verdict ≡ answer (verdict_on now.run k.journal reading)
      → turn.verdict ≡ verdict → turn.length ≡ length k.journal → turn.number ≡ turns_of judged.seat (seats_of k.journal) → new ≡ without_turn chair
      → Decides now.run chair new (told_all k.setting (k.journal ++ added turn.verdict)) k reading turn
  left-alone new verdict turn nothing is verdict_is length_is number_is new_is =
      let same : k.journal ≡ k.journal ++ added verdict = sym (append-nil k.journal) ∙ ap (λ (es : List Entry). k.journal ++ es) (sym nothing) in
      finished chair new k verdict turn is (ap (λ (j : List Entry). record k { journal = j }) same)
      (ended-is chair (told_all k.setting k.journal) has.turn ∙ ap (λ (j : List Entry). ended chair (told_all k.setting j)) same) verdict_is length_is number_is new_is

  -- a decided entry
  pub left-grown : (mid new : ChairState Told RunSetting) (n : KeptState) (receipt : Receipt) (turn : Turn) → Decided receipt ≡ answer (verdict_on now.run k.journal reading) → n ≡ record k { journal = k.journal ++ receipt.entry ∷ [] }
      → mid ≡ with_entry chair (told_all k.setting (k.journal ++ receipt.entry ∷ [])) [] → turn.verdict ≡ Decided receipt → turn.length ≡ length n.journal → turn.number ≡ turns_of judged.seat (seats_of n.journal) → new ≡ without_turn mid
      → Decides now.run chair new (told_all k.setting (k.journal ++ added turn.verdict)) k reading turn
  left-grown mid new n receipt turn is state grows verdict_is length_is number_is new_is =
      finished mid new n (Decided receipt) turn is state (ap (λ (c : ChairState Told RunSetting). without_turn c) grows) verdict_is length_is number_is new_is

-- through references to the state
pub kept-through : (k k' : KeptState) → k' ≡ k → IsKept k' → IsKept k
kept-through k k' same kept = subst IsKept same kept

pub full-through : (k k' : KeptState) (now s : StoreState) (count : ℕ) → k' ≡ k → s ≡ now → count ≡ length k'.journal → count ≡ s.run.limit → length k.journal ≡ now.run.limit
full-through k k' now s count same there is level = sym (is ∙ ap (λ (x : KeptState). length x.journal) same) ∙ level ∙ ap (λ (x : StoreState). x.run.limit) there

pub open-through : (k k' : KeptState) (now s : StoreState) (count : ℕ) → k' ≡ k → s ≡ now → count ≡ length k'.journal → (count ≡ s.run.limit → ⊥) → length k.journal ≡ now.run.limit → ⊥
open-through k k' now s count same there is left e = left (is ∙ ap (λ (x : KeptState). length x.journal) same ∙ e ∙ sym (ap (λ (x : StoreState). x.run.limit) there))

pub overtaken-through : (k k' : KeptState) (reading : Reading) (found o : Option ℕ) → k' ≡ k → found ≡ overtaking_entry k'.setting.parts k'.journal reading.front reading.unit → found ≡ o → overtaking_entry k.setting.parts k.journal reading.front reading.unit ≡ o
overtaken-through k k' reading found o same is here = sym (is ∙ ap (λ (x : KeptState). overtaking_entry x.setting.parts x.journal reading.front reading.unit) same) ∙ here
