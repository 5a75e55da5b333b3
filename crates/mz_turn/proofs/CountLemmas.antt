-- A load of the count.
use Rattle.std.proofs.Common.{◌≡◌, ℕ, ◌<◌, ◌≤◌, List, [], ◌∷◌, length, get_or, set, sym, refl, ap, ◌∙◌, subst, inl, arith, Option, Some, None, MatchOption}
use Rattle.std.specs.List.{All}
use Rattle.std.proofs.lemmas.List.Elements.{All-nil, All-cons}
use Rattle.atomic_table.specs.Table.{Me, Step, keeps, Allows}
use Rattle.mz_turn.specs.declared.view.View.{View}
use Rattle.mz_turn.specs.Seen.{Begins, GrewByOthers}
use Rattle.mz_turn.specs.Views.{own_of, counted_view}
use Rattle.mz_turn.specs.Invariant.{Keeps, Fits, IsChairView}
use Rattle.mz_turn.specs.Places.{IsChair, HasTaken}
use Rattle.mz_turn.specs.Steps.{Teaches, counted}
use Rattle.mz_turn.proofs.SeenLemmas.{begins_self, begins_length, begins_shorter, grew_later, grew_so_far}
use Rattle.mz_turn.proofs.FitLemmas.{Rule, only_kept, view_step}

module _ {T E S : Type 0} (entries : T → List E) (owner : E → ℕ) (setting_of : T → S) (start : List E) (setting : S) (seats : ℕ) where
  abbrev Kept : List E → ℕ × List E → Type 0
  Kept list k = (k.0 < seats) × GrewByOthers owner k.0 k.1 list

  fits_counted : (word : ℕ) (list : List E) (v : View E S) → IsChairView v → Fits owner start setting seats word list v → Fits owner start setting seats word list (counted_view v)
  fits_counted word list v ok f = let own = only_kept entries owner setting_of start setting seats word list v f ok.kept in record {
    seen = f.seen;
    kept = All-cons (Kept list) (v.number, v.seen) [] (own.0, grew_later owner v.number (own_of v.kept) v.seen list own.1 f.seen ok.own) (All-nil (Kept list));
    told = All-nil (λ brought. Begins brought list);
    knows = f.knows;
    holds = λ taken e. let h = f.holds taken e in record { whole = h.whole; seen = h.seen; word_is = h.word_is; keeps = inl refl };
  }

  -- what was seen begins with all that the view knew
  teaches_seen : (word : ℕ) (list : List E) (v : View E S) → IsChairView v → Fits owner start setting seats word list v → Teaches owner v v.seen
  teaches_seen word list v ok f = let own = only_kept entries owner setting_of start setting seats word list v f ok.kept in let P : ℕ × List E → Type 0 = λ k. GrewByOthers owner k.0 k.1 v.seen in record {
    seen = begins_self v.seen;
    kept = subst (All P) (sym ok.kept) (All-cons P (v.number, own_of v.kept) [] (grew_so_far owner v.number (own_of v.kept) v.seen list own.1 f.seen ok.own) (All-nil P));
    told = λ k d l. begins_shorter _ v.seen list (f.told k d l) f.seen (ok.told k d l);
  }

  pub counts : (slots id : ℕ) (m : Me (Option T) (View E S)) (st : Step (Option T)) → IsChairView m.0 → Allows (Rule entries owner setting_of start setting seats) slots id m 1 (λ n. n) (counted entries owner setting_of st m)
  counts slots id m st ok s r wide me _ = let found : ℕ = get_or s.words 1 0 in let is : found ≡ length r.list = ap (λ ws. get_or ws 1 0) r.words in let f = r.fits id m.0 me in
      let same : set s.words 1 found ≡ r.word ∷ length r.list ∷ [] = ap (λ ws. set ws 1 found) r.words ∙ ap (λ x. r.word ∷ x ∷ []) is in
      let long = begins_length m.0.seen r.list f.seen in (
        counted_view m.0,
        keeps,
        tt,
        view_step entries owner setting_of start setting seats s r (set s.words 1 found) id m.0 (counted_view m.0) me same (fits_counted r.word r.list m.0 ok f) (λ n k. subst (Keeps n) (sym ok.kept) k) (λ n k. subst (Keeps n) ok.kept k) (λ taken e. (taken, e)) (λ e. e),
        (refl, omega arith, teaches_seen r.word r.list m.0 ok f, λ taken e. let h = f.holds taken e in (h.seen ∙ sym h.whole, is ∙ ap length (sym h.whole))),
      )

-- the chair after a count
counted_chair : {E S : Type 0} (v : View E S) → IsChairView (counted_view v)
counted_chair v = record { kept = refl; own = omega arith; told = All-nil (λ brought. length brought ≤ length v.seen) }

module _ {T E S : Type 0} where
  counted_turn : (size : ℕ) (v : View E S) (slots : List (ℕ × Option T)) (o : Option (List E)) → ((taken : List E) → o ≡ Some taken → v.seen ≡ taken)
      → MatchOption o (slots ≡ []) (λ taken. HasTaken size (v, slots) taken) → MatchOption o (slots ≡ []) (λ taken. HasTaken size (counted_view v, slots) taken)
  counted_turn size v slots None whole h = h
  counted_turn size v slots (Some taken) whole h = record { size_is = h.size_is; slot = h.slot; own = whole taken refl }

  pub counted_ok : (number size : ℕ) (m m' : Me (Option T) (View E S)) → IsChair number size m → m' ≡ (counted_view m.0, m.1) → ((taken : List E) → m.0.taken ≡ Some taken → m.0.seen ≡ taken) → IsChair number size m'
  counted_ok number size m m' ok is whole = subst (IsChair number size) (sym is) (record { number_is = ok.number_is; view = counted_chair m.0; turn = counted_turn size m.0 m.1 m.0.taken whole ok.turn })
