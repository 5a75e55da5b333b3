-- What a chair is sure of as its value goes home.
use Rattle.std.proofs.Common.{◌≡◌, ◌⊎◌, ℕ, ◌<◌, ◌≤◌, ◌^◌, List, [], ◌∷◌, ◌++◌, length, sym, refl, ap, ◌∙◌, subst, inl, inr, ⊎_elim, arith, length-append, Bool, true, false, ltb, Option, Some, None, MatchOption}
use borrow.Author.Tests.{ltb-true, ltb-false}
use Rattle.atomic_table.specs.Seated.{TableId}
use Rattle.atomic_table.specs.Table.{Me, rest}
use Rattle.mz_turn.specs.declared.view.View.{View}
use Rattle.mz_turn.specs.Views.{appended_view, released_view}
use Rattle.mz_turn.specs.Invariant.{IsChairView}
use Rattle.mz_turn.specs.Places.{IsChair, HasTaken, chair_of}
use Rattle.mz_turn.specs.Chair.{EndsTurn, without_turn}
use Rattle.mz_turn.specs.Turn.{GrowsBy, MayAppend, Appends}
use Rattle.mz_turn.proofs.ChairLemmas.{full_hand}

-- the value is in the held slot, and its list is the taken one
pub record IsSettled {T E S : Type 0} (entries : T → List E) (value : T) (m : Me (Option T) (View E S)) : Type 0 where
  pub home : m.1 ≡ (0, Some value) ∷ []
  pub whole : m.0.taken ≡ Some (entries value)

module _ {T E S : Type 0} (entries : T → List E) (owner : E → ℕ) (setting_of : T → S) where
  abbrev M : Type 0
  M = Me (Option T) (View E S)

  -- the chair after its turn
  pub record Ended (m m' : M) (value : T) : Type 0 where
    pub whole : m.0.taken ≡ Some m.0.seen
    pub view : m'.0 ≡ released_view (appended_view m.0 (entries value))
    pub hand : m'.1 ≡ []

  -- the list grows where its length does
  grows : (number : ℕ) (taken list : List E) (size : ℕ) → size ≡ length taken → (list ≡ taken) ⊎ ((entry : E) × (list ≡ taken ++ entry ∷ []) × (owner entry ≡ number)) → (b : Bool) → ltb size (length list) ≡ b → GrowsBy owner number taken list b
  grows number taken list size is step true e = ⊎_elim (λ (s : list ≡ taken). let n : size < length list = ltb-true _ _ e in absurd (omega (arith, ap length s)))
      (λ (s : (entry : E) × (list ≡ taken ++ entry ∷ []) × (owner entry ≡ number)). s) step
  grows number taken list size is step false e = ⊎_elim (λ (s : list ≡ taken). s)
      (λ (s : (entry : E) × (list ≡ taken ++ entry ∷ []) × (owner entry ≡ number)). let n : length list ≤ size = ltb-false _ _ e in absurd (omega (arith, ap length s.1, length-append taken (s.0 ∷ [])))) step

  module _ (table : TableId) (number size : ℕ) (m m₁ : M) (ok : IsChair number size m) (value : T) (ends : EndsTurn owner (chair_of table m.0) (entries value)) (e : m₁ ≡ (m.0, (0, Some value) ∷ rest m.1)) where
    pub home : m₁ ≡ (m.0, (0, Some value) ∷ [])
    home = e ∙ ap (λ (l : List (ℕ × Option T)). (m.0, (0, Some value) ∷ rest l)) (full_hand entries owner setting_of number size m ends.taken ok ends.holds).slot

    pub may_append : (b : Bool) → ltb size (length (entries value)) ≡ b → length (entries value) < 2 ^ 64 → MayAppend entries owner m₁ b
    may_append b is fits = subst (λ x. MayAppend entries owner x b) (sym home) (record {
      value = value;
      taken = ends.taken;
      home = refl;
      holds = ends.holds;
      kept = ok.view.kept;
      grows = grows m.0.number ends.taken (entries value) size (full_hand entries owner setting_of number size m ends.taken ok ends.holds).size_is ends.step b is;
      fits = fits;
    })

    module _ (m₂ : M) where
      pub settled : (b : Bool) → MayAppend entries owner m₁ b → ltb size (length (entries value)) ≡ b → Appends entries b m₁ m₂ → IsSettled entries value m₂
      settled true may is a = let there = ap (λ (x : M). x.1) home in let t = (a value there).0 in record { home = ap (λ (x : M). x.1) t ∙ there; whole = ap (λ (x : M). x.0.taken) t }
      settled false may is a = let t = a ∙ home in let g = grows m.0.number ends.taken (entries value) size (full_hand entries owner setting_of number size m ends.taken ok ends.holds).size_is ends.step false is in
          record { home = ap (λ (x : M). x.1) t; whole = ap (λ (x : M). x.0.taken) t ∙ (ends.holds ∙ ap Some (sym g)) }

      module _ (m₃ : M) (back : m₃ ≡ (released_view m₂.0, rest m₂.1)) (so : m₂.0.taken ≡ Some m₂.0.seen) where
        pub ended : (b : Bool) → ltb size (length (entries value)) ≡ b → Appends entries b m₁ m₂ → Ended m m₃ value
        ended true is a = let there = ap (λ (x : M). x.1) home in let t = a value there in let at : m₂ ≡ (appended_view m.0 (entries value), (0, Some value) ∷ []) = t.0 ∙ ap (λ (x : M). (appended_view x.0 (entries value), x.1)) home in
            let v = ap (λ (x : M). x.0) home in record {
              whole = ap (λ (x : View E S). x.taken) (sym v) ∙ (t.1 ∙ ap (λ (x : View E S). Some x.seen) v);
              view = ap (λ (x : M). x.0) back ∙ ap (λ (x : M). released_view x.0) at;
              hand = ap (λ (x : M). x.1) back ∙ ap (λ (x : M). rest x.1) at;
            }
        ended false is a = let at : m₂ ≡ (m.0, (0, Some value) ∷ []) = a ∙ home in let v = ap (λ (x : M). x.0) at in
            let has = full_hand entries owner setting_of number size m ends.taken ok ends.holds in let g = grows m.0.number ends.taken (entries value) size has.size_is ends.step false is in
            let whole : m.0.taken ≡ Some m.0.seen = ap (λ (x : View E S). x.taken) (sym v) ∙ (so ∙ ap (λ (x : View E S). Some x.seen) v) in
            let both : Some m.0.seen ≡ Some ends.taken = sym whole ∙ ends.holds in let seen : m.0.seen ≡ entries value = let h : m.0.seen ≡ ends.taken = cc in h ∙ sym g in
            let kept : m.0.kept ≡ (m.0.number, entries value) ∷ [] = ok.view.kept ∙ ap (λ l. (m.0.number, l) ∷ []) (has.own ∙ sym g) in record {
              whole = whole;
              view = ap (λ (x : M). x.0) back ∙ (ap (λ (x : M). released_view x.0) at ∙ λ i. record m.0 { seen = seen i; kept = kept i; taken = None });
              hand = ap (λ (x : M). x.1) back ∙ ap (λ (x : M). rest x.1) at;
            }

  pub ended_chair : (table : TableId) (m m' : M) (value : T) → Ended m m' value → chair_of table m'.0 ≡ without_turn (chair_of table m.0) (entries value)
  ended_chair table m m' value d = ap (chair_of table) d.view

  ended_view : (v : View E S) (list : List E) → IsChairView v → v.seen ≡ list ⊎ ((e : E) × (list ≡ v.seen ++ e ∷ [])) → IsChairView (released_view (appended_view v list))
  ended_view v list ok step = let le : length v.seen ≤ length list = ⊎_elim (λ (s : v.seen ≡ list). omega (arith, ap length s)) (λ (s : (e : E) × (list ≡ v.seen ++ e ∷ [])). omega (arith, ap length s.1, length-append v.seen (s.0 ∷ []))) step in
      record { kept = refl; own = omega arith; told = λ k d l. let t = ok.told k d l in omega arith }

  pub ended_ok : (table : TableId) (number size : ℕ) (m m' : M) (value : T) → IsChair number size m → EndsTurn owner (chair_of table m.0) (entries value) → Ended m m' value → IsChair number size m'
  ended_ok table number size m m' value ok ends d =
      let both : Some m.0.seen ≡ Some ends.taken = sym d.whole ∙ ends.holds in let seen : m.0.seen ≡ ends.taken = cc in
      let step : m.0.seen ≡ entries value ⊎ ((e : E) × (entries value ≡ m.0.seen ++ e ∷ [])) = ⊎_elim (λ (s : entries value ≡ ends.taken). inl (seen ∙ sym s))
      (λ (s : (entry : E) × (entries value ≡ ends.taken ++ entry ∷ []) × (owner entry ≡ m.0.number)). inr (s.0, s.1 ∙ ap (λ l. l ++ s.0 ∷ []) (sym seen))) ends.step in
      record {
        number_is = ok.number_is ∙ ap (λ (v : View E S). v.number) (sym d.view);
        view = subst IsChairView (sym d.view) (ended_view m.0 (entries value) ok.view step);
        turn = subst (λ t. MatchOption t (m'.1 ≡ []) (λ taken. HasTaken size m' taken)) (ap (λ (v : View E S). v.taken) (sym d.view)) d.hand;
      }
