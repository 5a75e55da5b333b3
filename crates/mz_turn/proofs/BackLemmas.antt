-- The holder counts its entry and gives the turn back.
use Rattle.std.proofs.Common.{◌≡◌, ◌≢◌, ℕ, suc, ◌+◌, ◌<◌, ◌^◌, ◌%◌, List, [], ◌∷◌, ◌++◌, length, get_or, set, sym, refl, ap, ◌∙◌, subst, inl, arith, length-append, true, Option, Some, None}
use Rattle.std.specs.List.{All}
use Rattle.std.proofs.lemmas.List.Elements.{All-nil, All-cons, All-weaker}
use mathlib.Core.Option.{some}
use lib.ListN.{get_elem?}
use Rattle.atomic_table.specs.Table.{Me, Step, keeps, gives, Allows}
use Rattle.mz_turn.specs.declared.view.View.{View}
use Rattle.mz_turn.specs.Seen.{Begins, GrewByOthers}
use Rattle.mz_turn.specs.Views.{own_of, appended_view, released_view}
use Rattle.mz_turn.specs.Invariant.{Keeps, Fits}
use Rattle.mz_turn.specs.Steps.{appended, released}
use Rattle.mz_turn.specs.Turn.{MayAppend}
use Rattle.mz_turn.proofs.TurnLemmas.{IsSettled}
use Rattle.mz_turn.proofs.SeenLemmas.{begins_self, begins_more, grew_self, grew_push, added_push}
use Rattle.mz_turn.proofs.ViewLemmas.{each_set, once_set, has_set, set_in}
use Rattle.mz_turn.proofs.FitLemmas.{St, Rule, all_keeps, only_kept, one_keeps, one_holder, fits_idle}

module _ {T : Type 0} where
  pub some_value : (x y : T) → Some x ≡ Some y → x ≡ y
  some_value x y e = cc

  abbrev first_slot : List (ℕ × Option T) → Option T
  first_slot [] = None
  first_slot (x ∷ xs) = x.1

  abbrev holding : T → List (ℕ × Option T)
  holding x = (0, Some x) ∷ []

  same_value : (x y : T) → holding x ≡ holding y → x ≡ y
  same_value x y e = let h : Some x ≡ Some y = ap first_slot e in cc

module _ {E : Type 0} where
  zipped : (P Q : ℕ × List E → Type 0) (ks : List (ℕ × List E)) → All P ks → All Q ks → All (λ k. P k × Q k) ks
  zipped P Q ks p q k d l = (p k d l, q k d l)

module _ {T E S : Type 0} (entries : T → List E) (owner : E → ℕ) (setting_of : T → S) (start : List E) (setting : S) (seats : ℕ) where
  abbrev R : St entries owner setting_of start setting seats → Type 0
  R = Rule entries owner setting_of start setting seats

  abbrev Fit : ℕ → List E → View E S → Type 0
  Fit = Fits owner start setting seats

  abbrev Kept : List E → ℕ × List E → Type 0
  Kept list k = (k.0 < seats) × GrewByOthers owner k.0 k.1 list

  -- a view that keeps other numbers than the new entry's, and holds no turn
  fits_others : (word : ℕ) (list : List E) (e : E) (v : View E S) → Fit word list v → (Keeps (owner e) v.kept → ⊥) → ((taken : List E) → v.taken ≡ Some taken → ⊥) → Fit word (list ++ e ∷ []) v
  fits_others word list e v f other idle = record {
    seen = begins_more v.seen list (e ∷ []) f.seen;
    kept = let Other : ℕ → Type 0 = λ n. owner e ≢ n in
        All-weaker (λ k. Kept list k × Other k.0) (Kept (list ++ e ∷ [])) (λ k p. (p.0.0, grew_push owner k.0 k.1 list e p.0.1 p.1)) v.kept
        (zipped (Kept list) (λ k. Other k.0) v.kept f.kept (all_keeps Other v.kept (λ n h same. other (subst (λ m. Keeps m v.kept) (sym same) h))));
    told = All-weaker (λ brought. Begins brought list) (λ brought. Begins brought (list ++ e ∷ [])) (λ b p. begins_more b list (e ∷ []) p) v.told f.told;
    knows = f.knows;
    holds = λ taken t. absurd (idle taken t);
  }

  fits_appended : (word : ℕ) (list : List E) (e : E) (v : View E S) → Fit word list v → word ≡ v.number + 1 → v.number < seats → Fit word (list ++ e ∷ []) (appended_view v (list ++ e ∷ []))
  fits_appended word list e v f word_is below = let longer : List E = list ++ e ∷ [] in record {
    seen = begins_self longer;
    kept = All-cons (Kept longer) (v.number, longer) [] (below, grew_self owner v.number longer) (All-nil (Kept longer));
    told = All-weaker (λ brought. Begins brought list) (λ brought. Begins brought longer) (λ b p. begins_more b list (e ∷ []) p) v.told f.told;
    knows = f.knows;
    holds = λ taken t. let same : longer ≡ taken = cc in record { whole = sym same; seen = refl; word_is = word_is; keeps = inl refl };
  }

  append_rule : (s : St entries owner setting_of start setting seats) (r : R s) (id : ℕ) (v : View E S) (e : E) (taken : List E) → get_elem? s.views id ≡ some v → v.kept ≡ (v.number, own_of v.kept) ∷ [] → v.taken ≡ Some taken → owner e ≡ v.number
      → suc (length r.list) < 2 ^ 64 → R record { words = set s.words 1 ((get_or s.words 1 0 + 1) % 2 ^ 64); homes = s.homes; views = set s.views id (appended_view v (r.list ++ e ∷ [])) }
  append_rule s r id v e taken me one takes mine small =
      let f = r.fits id v me in let hold = f.holds taken takes in let below = (only_kept entries owner setting_of start setting seats r.word r.list v f one).0 in let w : View E S = appended_view v (r.list ++ e ∷ []) in
      let count : (get_or s.words 1 0 + 1) % 2 ^ 64 ≡ length (r.list ++ e ∷ []) = let is : get_or s.words 1 0 ≡ length r.list = ap (λ ws. get_or ws 1 0) r.words in omega (arith, length-append r.list (e ∷ [])) in record {
        few = r.few;
        word = r.word;
        list = r.list ++ e ∷ [];
        words = ap (λ ws. set ws 1 ((get_or s.words 1 0 + 1) % 2 ^ 64)) r.words ∙ ap (λ n. r.word ∷ n ∷ []) count;
        added = added_push owner seats start r.list e r.added (omega arith);
        fits = each_set (Fit r.word (r.list ++ e ∷ [])) s.views id w (fits_appended r.word r.list e v f hold.word_is below) (λ j u at ne. fits_others r.word r.list e u (r.fits j u at)
            (λ h. ne (r.once v.number j id u v at me (subst (λ n. Keeps n u.kept) mine h) (one_keeps entries owner setting_of start setting seats v one)))
            (λ t held. ne (one_holder entries owner setting_of start setting seats s r j id u v t taken at me held takes)));
        whole = (id, (w, set_in s.views id v w me, refl));
        once = λ n. once_set (λ (u : View E S). Keeps n u.kept) s.views id v w me (λ k. subst (Keeps n) (sym one) k) (r.once n);
        every = λ n l. has_set (λ (u : View E S). Keeps n u.kept) s.views id v w me (λ k. subst (Keeps n) one k) (r.every n l);
        free = λ z. absurd (omega (arith, hold.word_is));
        held = λ ne. ((r.held ne).0, (id, (w, set_in s.views id v w me, (r.list ++ e ∷ [], refl))));
      }

  pub appends : (slots id : ℕ) (v : View E S) (value : T) (taken : List E) (e : E) (st : Step (Option T)) → v.kept ≡ (v.number, own_of v.kept) ∷ [] → v.taken ≡ Some taken → entries value ≡ taken ++ e ∷ [] → owner e ≡ v.number → length (entries value) < 2 ^ 64
      → Allows R slots id (v, (0, Some value) ∷ []) 1 (λ n. (n + 1) % 2 ^ 64) (appended entries owner setting_of st (v, (0, Some value) ∷ []))
  appends slots id v value taken e st one takes is mine small s r wide me _ =
      let hold = (r.fits id v me).holds taken takes in let same : entries value ≡ r.list ++ e ∷ [] = is ∙ ap (λ l. l ++ e ∷ []) hold.whole in
      let n : ℕ = (get_or s.words 1 0 + 1) % 2 ^ 64 in
      let rule = append_rule s r id v e taken me one takes mine (omega (arith, ap length same, length-append r.list (e ∷ []))) in (
        appended_view v (entries value),
        keeps,
        tt,
        subst (λ l. R record { words = set s.words 1 n; homes = s.homes; views = set s.views id (appended_view v l) }) (sym same) rule,
        λ x q. (ap (λ l. (appended_view v l, (0, Some value) ∷ [])) (ap entries (same_value value x q)), takes ∙ ap Some (hold.whole ∙ sym hold.seen)),
      )

  release_rule : (s : St entries owner setting_of start setting seats) (r : R s) (id : ℕ) (v : View E S) (value : T) (taken : List E) → get_elem? s.views id ≡ some v → v.taken ≡ Some taken → entries value ≡ taken → setting_of value ≡ setting
      → R record { words = set s.words 0 0; homes = set s.homes 0 (some (Some value)); views = set s.views id (released_view v) }
  release_rule s r id v value taken me takes is knows =
      let f = r.fits id v me in let hold = f.holds taken takes in let w : View E S = released_view v in let some_word : r.word ≢ 0 = λ z. absurd (omega (arith, hold.word_is)) in let out = (r.held some_word).0 in
      record {
        few = r.few;
        word = 0;
        list = r.list;
        words = ap (λ ws. set ws 0 0) r.words;
        added = r.added;
        fits = each_set (Fit 0 r.list) s.views id w (record { seen = f.seen; kept = f.kept; told = f.told; knows = f.knows; holds = λ t e. absurd (cc) })
            (λ j u at ne. fits_idle entries owner setting_of start setting seats r.word 0 r.list u (r.fits j u at) (λ t held. ne (one_holder entries owner setting_of start setting seats s r j id u v t taken at me held takes)));
        whole = has_set (λ (u : View E S). u.seen ≡ r.list) s.views id v w me (λ whole. whole) r.whole;
        once = λ n. once_set (λ (u : View E S). Keeps n u.kept) s.views id v w me (λ k. k) (r.once n);
        every = λ n l. has_set (λ (u : View E S). Keeps n u.kept) s.views id v w me (λ k. k) (r.every n l);
        free = λ _. record { value = value; home = ap (λ hs. set hs 0 (some (Some value))) out; list_is = is ∙ hold.whole; setting_is = knows };
        held = λ ne. absurd (ne refl);
      }

  pub releases : (slots id : ℕ) (v : View E S) (value : T) (taken : List E) (st : Step (Option T)) → v.taken ≡ Some taken → entries value ≡ taken → setting_of value ≡ setting
      → Allows R slots id (v, (0, Some value) ∷ []) 0 (λ _. 0) (released entries owner setting_of st (v, (0, Some value) ∷ []))
  releases slots id v value taken st takes is knows s r wide me _ = let hold = (r.fits id v me).holds taken takes in (
    released_view v,
    gives,
    tt,
    release_rule s r id v value taken me takes is knows,
    (refl, takes ∙ ap Some (hold.whole ∙ sym hold.seen)),
  )

  pub seat_appends : (slots id : ℕ) (m : Me (Option T) (View E S)) (st : Step (Option T)) → MayAppend entries owner m true
      → Allows R slots id m 1 (λ n. (n + 1) % 2 ^ 64) (appended entries owner setting_of st m)
  seat_appends slots id m st may = subst (λ (l : List (ℕ × Option T)). Allows R slots id (m.0, l) 1 (λ n. (n + 1) % 2 ^ 64) (appended entries owner setting_of st (m.0, l))) (sym may.home)
      (appends slots id m.0 may.value may.taken may.grows.0 st may.kept may.holds may.grows.1 may.grows.2 may.fits)

  pub seat_releases : (slots id : ℕ) (m : Me (Option T) (View E S)) (value : T) (st : Step (Option T)) → IsSettled entries value m → setting_of value ≡ setting
      → Allows R slots id m 0 (λ _. 0) (released entries owner setting_of st m)
  seat_releases slots id m value st so knows = subst (λ (l : List (ℕ × Option T)). Allows R slots id (m.0, l) 0 (λ _. 0) (released entries owner setting_of st (m.0, l))) (sym so.home)
      (releases slots id m.0 value (entries value) st so.whole refl knows)
