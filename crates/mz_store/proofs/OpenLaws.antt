-- The opening: its words, and a pass for each chair.
use Rattle.std.proofs.Common.{◌≡◌, ℕ, ◌+◌, ◌<◌, ◌≤◌, ◌^◌, true, false, List, [], ◌∷◌, ◌++◌, length, length-append, get_or, None, Some, refl, sym, ap, ◌∙◌, subst, arith, inl, inr, ◌-◌}
use Rattle.std.specs.Prelude.{if◌then◌else◌, nat_le, nat_lt, slice_get, slice_index_or}
use Rattle.std.proofs.lemmas.Bool.{le-leb, lt-ltb}
use Rattle.std.proofs.lemmas.Bool.Decides.{leb_tells, nat_tests}
use Rattle.std.proofs.lemmas.List.{get_or_append_left, get_or-append_right}
use Rattle.std.proofs.lemmas.Option.{get_or_from_slice_get, none-some, slice_get-get_or}
use Rattle.mz_num.specs.Places.{list_below}
use Rattle.mz_num.proofs.PlaceLaws.{get_or-list_below, length-list_below, list_below-more}
use Rattle.mz_board.specs.Chair as lock
use Rattle.mz_board.specs.Chair.{BoardId, ChairState, fresh_chair}
use Rattle.mz_model.specs.Parts.{target_count, unit_count}
use Rattle.mz_model.specs.Valid.{IsValid}
use Rattle.mz_model.specs.Zones.{is_allowed}
use Rattle.mz_model.proofs.ScoreLaws.{plan-in_range}
use Rattle.mz_model.proofs.TargetLaws.{held_of-le}
use Rattle.mz_delta.specs.declared.reading.Reading.{Reading}
use Rattle.mz_delta.specs.Reading.{totals_of_plan}
use Rattle.mz_delta.proofs.ReadLaws.{totals_of_plan-at}
use Rattle.mz_history.specs.Replay.{Setting}
use Rattle.mz_history.specs.Start.{starting_plan}
use Rattle.mz_history.proofs.LegalHistoryLaws.{last_plan-legal, legal-none}
use Rattle.mz_store.specs.declared.told.Told.{Told}
use Rattle.mz_store.specs.Pass.{AreFresh, fresh_pass, IsPass, pass_of, PassState, Room}
use Rattle.mz_store.specs.RunSetting.{RunSetting}
use Rattle.mz_store.specs.Words.{may_have, opening_words}
use Rattle.mz_store.proofs.StoreLaws.{length-opening}

-- ---- words

-- each opening word is one that it may have
pub opening-fits : (s : Setting) (words : List ℕ) (word : ℕ) → IsValid s.parts → words ≡ opening_words s → word < length words → may_have s.parts word (slice_index_or words word 0) ≡ true
opening-fits s words word valid is within =
    let plan = starting_plan s.parts s.prop s.seed s.run in let totals = totals_of_plan s.parts plan in
    let legal = last_plan-legal s [] valid (legal-none s) in let units = unit_count s.parts in
    let inside : word < units + target_count s.parts = omega (arith, within, ap length is, length-opening s valid) in
    ap (λ (ws : List ℕ). may_have s.parts word (slice_index_or ws word 0)) is ∙ elim (leb_tells units word) [
      | inl (_, past) ↦
          let row : word - units < target_count s.parts = omega (arith, inside, past) in
          let value = slice_index_or (opening_words s) word 0 in
          let test : nat_lt word units ≡ false = grind (arith, nat_tests) in
          let at : value ≡ _ = get_or-append_right plan totals units word 0 legal.whole past ∙ totals_of_plan-at s.parts plan totals (word - units) refl row in
          ap (λ b. if b then is_allowed s.parts word value else nat_le value (10 ^ 18)) test
          ∙ ap (λ n. nat_le n (10 ^ 18)) at ∙ le-leb _ (10 ^ 18) (held_of-le s.parts plan (word - units) valid row (λ unit h. plan-in_range s.parts plan unit valid legal h))
      | inr (_, below) ↦
          let value = slice_index_or (opening_words s) word 0 in
          ap (λ b. if b then is_allowed s.parts word value else nat_le value (10 ^ 18)) (lt-ltb word units below)
          ∙ ap (is_allowed s.parts word) (get_or_append_left plan totals 0 word (omega (arith, legal.whole, below))) ∙ legal.allowed word below
    ]

-- ---- passes

pub fresh-at : (store : BoardId RunSetting) (seats n : ℕ) (chairs : List (ChairState Told RunSetting)) (chair : ChairState Told RunSetting) → lock.AreFresh store seats chairs → n < length chairs → chair ≡ get_or chairs n chair → chair ≡ fresh_chair store n
fresh-at store seats n chairs chair fresh within at = at ∙ get_or_from_slice_get chairs n (fresh_chair store n) chair (fresh.each n (omega (arith, within, fresh.count)))

pub made-pass : (store : BoardId RunSetting) (seats n seat : ℕ) (chairs : List (ChairState Told RunSetting)) (chair : ChairState Told RunSetting) (room : Room) → lock.AreFresh store seats chairs → n < length chairs → chair ≡ get_or chairs n chair → seat ≡ n → seats ≡ store.seats → seats ≤ room.capacity → room.used ≡ 0
    → IsPass chair seat 0 0 None room
made-pass store seats n seat chairs chair room fresh within at own count fits unused =
    subst (λ (c : ChairState Told RunSetting). IsPass c seat 0 0 None room) (sym (fresh-at store seats n chairs chair fresh within at)) (record {
      idle = refl;
      own = refl;
      told = refl;
      seat_is = own;
      within = omega (arith, within, fresh.count, count);
      number_is = refl;
      reached_is = refl;
      least = omega arith;
      read = λ (last : Reading) (run : RunSetting) it known. absurd (none-some last it);
      room_is = omega (arith, fits, count);
      unused = unused;
    })

pub more-passes : (store : BoardId RunSetting) (seats n : ℕ) (chairs yielded : List (ChairState Told RunSetting)) (chair : ChairState Told RunSetting) (passes passes' : List PassState) → lock.AreFresh store seats chairs → n < length chairs → chair ≡ get_or chairs n chair → n ≡ length yielded
    → passes ≡ list_below n (fresh_pass store) → passes' ≡ passes ++ pass_of chair 0 0 None ∷ [] → passes' ≡ list_below (length (yielded ++ chair ∷ [])) (fresh_pass store)
more-passes store seats n chairs yielded chair passes passes' fresh within at count so_far pushed =
    let next : n + 1 ≡ length (yielded ++ chair ∷ []) = omega (arith, count, length-append yielded (chair ∷ [])) in
    pushed ∙ ap (λ (ps : List PassState). ps ++ pass_of chair 0 0 None ∷ []) so_far
    ∙ ap (λ (c : ChairState Told RunSetting). list_below n (fresh_pass store) ++ pass_of c 0 0 None ∷ []) (fresh-at store seats n chairs chair fresh within at)
    ∙ sym (list_below-more n (fresh_pass store)) ∙ ap (λ m. list_below m (fresh_pass store)) next

pub all-passes : (store : BoardId RunSetting) (seats n : ℕ) (passes : List PassState) → n ≡ seats → passes ≡ list_below n (fresh_pass store) → AreFresh store seats passes
all-passes store seats n passes same are = record {
  count = ap length are ∙ length-list_below n (fresh_pass store) ∙ same;
  each = λ seat h. ap (λ (ps : List PassState). slice_get ps seat) are
      ∙ slice_get-get_or (list_below n (fresh_pass store)) seat (fresh_pass store seat) (omega (arith, h, same, length-list_below n (fresh_pass store)))
      ∙ ap (λ (p : PassState). Some p) (get_or-list_below n seat (fresh_pass store) (fresh_pass store seat) (omega (arith, h, same)));
}
