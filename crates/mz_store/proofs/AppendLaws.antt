-- The turn in which an entry is appended.
use Rattle.std.proofs.Common.{◌≡◌, ℕ, ◌+◌, ◌<◌, ◌≤◌, true, List, [], ◌∷◌, ◌++◌, length, length-append, Some, sym, ap, ◌∙◌, subst, arith}
use Rattle.std.specs.List.{All}
use Rattle.mz_board.specs.Chair.{BoardId, ChairState, MayAppend, with_entry}
use Rattle.mz_model.specs.declared.parts.Parts.{Parts}
use Rattle.mz_model.specs.Parts.{target_count, unit_count, zone_count}
use Rattle.mz_delta.specs.declared.judged.Judged.{Judged}
use Rattle.mz_delta.specs.declared.reading.Reading.{Reading}
use Rattle.mz_history.specs.declared.entry.Entry.{Entry}
use Rattle.mz_history.specs.Core.{entry_of_seat}
use Rattle.mz_history.specs.Moves.{IsMove}
use Rattle.mz_history.specs.Replay.{IsLegalHistory}
use Rattle.mz_state.specs.Kept.{IsKept, KeptState}
use Rattle.mz_state.specs.NextMove.{IsNextMove}
use Rattle.mz_store.specs.declared.held.Held.{Held}
use Rattle.mz_store.specs.declared.told.Told.{Told}
use Rattle.mz_store.specs.contracts.held.HeldStory.TheImpl.{ghosts}
use Rattle.mz_store.specs.RunSetting.{run_of, RunSetting}
use Rattle.mz_store.specs.Store.{IsStore, StoreState}
use Rattle.mz_store.specs.Told.{told, told_all, writes_of}
use Rattle.mz_store.specs.Turns.{HasTurn, move_writes, ShowsGains, with_owes}
use Rattle.mz_store.specs.Words.{may_have}
use Rattle.mz_store.proofs.EntryLaws.{entry-legal, entry-move, entry-writes, judged-zones, writes-fit}
use Rattle.mz_store.proofs.StoreLaws.{length-words, run-known}
use Rattle.mz_store.proofs.ToldLaws.{length-told, told-push}

some-same : {X : Type 0} (x y : X) → Some x ≡ Some y → x ≡ y
some-same x y e = cc

-- the state under the board is one of the store's run
pub run-is : (now : StoreState) (lock : BoardId RunSetting) (run : RunSetting) → IsStore now → lock ≡ now.board → lock.setting ≡ Some run → run ≡ now.run
run-is now lock run is here known = some-same run now.run (sym known ∙ run-known now lock is here)

-- what is known as an entry is added to a state in a turn
pub record Adds (now : StoreState) (chair : ChairState Told RunSetting) (k : KeptState) (judged : Judged) (entry : Entry) : Type 0 where
  pub store : IsStore now
  pub here : chair.lock ≡ now.board
  pub setting : chair.lock.setting ≡ Some (run_of k)
  pub turn : HasTurn chair (told_all k.setting k.journal)
  pub kept : IsKept k
  pub not_full : length k.journal < k.limit
  pub seat : judged.seat ≡ chair.number
  pub unit : judged.unit < unit_count k.setting.parts
  pub next : IsNextMove k judged
  pub entry_is : entry ≡ entry_of_seat k.setting k.journal judged.seat

module _ (now : StoreState) (chair : ChairState Told RunSetting) (k : KeptState) (judged : Judged) (entry : Entry) (adds : Adds now chair k judged entry) where
  abbrev grown : KeptState
  grown = record k { journal = k.journal ++ entry ∷ [] }

  run-same : run_of k ≡ now.run
  run-same = run-is now chair.lock (run_of k) adds.store adds.here adds.setting

  pub parts-same : k.setting.parts ≡ now.run.setting.parts
  parts-same = ap (λ (r : RunSetting). r.setting.parts) run-same

  pub may-append : (held : Held) → held.kept.value ≡ grown → MayAppend ghosts chair held
  may-append held is =
      let move : IsMove k.setting.parts entry = subst (IsMove k.setting.parts) (sym adds.entry_is) (entry-move k judged.seat adds.kept (subst (λ u. u < unit_count k.setting.parts) adds.next.unit adds.unit)) in
      let legal : IsLegalHistory k.setting (k.journal ++ entry ∷ []) = subst (λ (e : Entry). IsLegalHistory k.setting (k.journal ++ e ∷ [])) (sym adds.entry_is) (entry-legal k judged.seat adds.kept) in
      let words : length chair.lock.opening ≡ unit_count k.setting.parts + target_count k.setting.parts =
      length-words now chair.lock adds.store adds.here ∙ ap (λ (r : RunSetting). unit_count r.setting.parts + target_count r.setting.parts) (sym run-same) in
      let few : length (told_all k.setting (k.journal ++ entry ∷ [])) ≤ k.limit = omega (arith, adds.not_full, length-told k.setting (k.journal ++ entry ∷ []), length-append k.journal (entry ∷ [])) in
      record {
        taken = told_all k.setting k.journal;
        holds = adds.turn.taken;
        first = adds.turn.level;
        entry = told k.setting k.journal entry;
        grows = ap (λ (x : KeptState). told_all x.setting x.journal) is ∙ told-push k.setting k.journal entry;
        own = ap (λ (e : Entry). e.seat) adds.entry_is ∙ adds.seat;
        few = subst (λ (x : KeptState). length (told_all x.setting x.journal) ≤ x.limit) (sym is) few;
        fitting = subst (λ (x : KeptState). All (λ (w : ℕ × ℕ). (w.0 < length chair.lock.opening) × (may_have x.setting.parts w.0 w.1 ≡ true)) (writes_of k.setting k.journal entry)) (sym is)
            (writes-fit k.setting k.journal entry (length chair.lock.opening) adds.kept.valid legal move words);
      }

  pub appended-chair : (n : KeptState) (after : ChairState Told RunSetting) → n ≡ grown
      → ((t : Told) → told_all n.setting n.journal ≡ chair.seen ++ t ∷ [] → after ≡ with_entry chair (told_all n.setting n.journal) t.writes)
      → after ≡ with_entry chair (told_all k.setting (k.journal ++ entry ∷ [])) (writes_of k.setting k.journal entry)
  appended-chair n after is appends =
      appends (told k.setting k.journal entry) (ap (λ (x : KeptState). told_all x.setting x.journal) is ∙ told-push k.setting k.journal entry ∙ ap (λ (l : List Told). l ++ told k.setting k.journal entry ∷ []) (sym adds.turn.seen))
      ∙ ap (λ (x : KeptState). with_entry chair (told_all x.setting x.journal) (writes_of k.setting k.journal entry)) is

  pub zones-within : (judged.old < zone_count now.run.setting.parts) × (judged.new < zone_count now.run.setting.parts)
  zones-within = subst (λ (p : Parts). (judged.old < zone_count p) × (judged.new < zone_count p)) parts-same (judged-zones k judged adds.kept adds.next adds.unit)

  pub gains-within : (reading : Reading) → ShowsGains k.setting.parts reading judged → ShowsGains now.run.setting.parts reading judged
  gains-within reading shows = subst (λ (p : Parts). ShowsGains p reading judged) parts-same shows

  pub owes-move : (n : KeptState) (after : ChairState Told RunSetting) → n ≡ grown
      → ((t : Told) → told_all n.setting n.journal ≡ chair.seen ++ t ∷ [] → after ≡ with_entry chair (told_all n.setting n.journal) t.writes)
      → after.post.owes ≡ move_writes now.run.setting.parts judged entry.accepted
  owes-move n after is appends =
      ap (λ (h : ChairState Told RunSetting). h.post.owes) (appended-chair n after is appends) ∙ entry-writes k judged entry adds.kept adds.next adds.unit adds.entry_is
      ∙ ap (λ (p : Parts). move_writes p judged entry.accepted) parts-same

  pub added-chair : (n : KeptState) (after last : ChairState Told RunSetting) → n ≡ grown
      → ((t : Told) → told_all n.setting n.journal ≡ chair.seen ++ t ∷ [] → after ≡ with_entry chair (told_all n.setting n.journal) t.writes)
      → last ≡ with_owes after [] → last ≡ with_entry chair (told_all k.setting (k.journal ++ entry ∷ [])) []
  added-chair n after last is appends stored = stored ∙ ap (λ (h : ChairState Told RunSetting). with_owes h []) (appended-chair n after is appends)

-- through the reference to the state
pub grown-is : (k k' n : KeptState) (entry : Entry) → k' ≡ k → n ≡ record k' { journal = k'.journal ++ entry ∷ [] } → n ≡ record k { journal = k.journal ++ entry ∷ [] }
grown-is k k' n entry same grows = grows ∙ ap (λ (x : KeptState). record x { journal = x.journal ++ entry ∷ [] }) same

pub entry-is : (k k' : KeptState) (seat : ℕ) (entry : Entry) → k' ≡ k → entry ≡ entry_of_seat k'.setting k'.journal seat → entry ≡ entry_of_seat k.setting k.journal seat
entry-is k k' seat entry same is = is ∙ ap (λ (x : KeptState). entry_of_seat x.setting x.journal seat) same
