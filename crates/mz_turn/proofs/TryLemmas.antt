-- A try for the turn, and the holder's load of the count.
use Rattle.std.proofs.Common.{◌≡◌, ◌≢◌, ℕ, ◌+◌, ◌<◌, eqb, List, [], ◌∷◌, length, get_or, set, sym, refl, ap, ◌∙◌, subst, inl, arith, Option, Some, None, MatchOption}
use Rattle.std.proofs.lemmas.List.Elements.{All-nil, All-cons, All-weaker}
use mathlib.Core.Option.{some, none, some-injective}
use lib.ListN.{get_elem?}
use prog.Atomic.{either}
use Rattle.atomic_table.specs.Table.{State, Me, Step, Act, keeps, takes, Valid, Allows, stepped, carried_after}
use Rattle.atomic_table.proofs.Lists.{exchanged}
use Rattle.mz_turn.specs.declared.view.View.{View}
use Rattle.mz_turn.specs.Seen.{Begins, GrewByOthers, GrewByChairs}
use Rattle.mz_turn.specs.Views.{taken_view, missed_view}
use Rattle.mz_turn.specs.Invariant.{Keeps, Fits, LockHolds, IsChairView}
use Rattle.mz_turn.specs.Places.{IsChair, HasTaken}
use Rattle.mz_turn.specs.Steps.{Teaches, Won, Missed, tried, measured}
use Rattle.mz_turn.proofs.SeenLemmas.{begins_self, grew_self}
use Rattle.mz_turn.proofs.ViewLemmas.{each_set, once_set, has_set, set_in}
use Rattle.mz_turn.proofs.FitLemmas.{keeps_below, only_kept, one_keeps, fits_idle, view_step}

module _ {T E S : Type 0} (entries : T → List E) (owner : E → ℕ) (setting_of : T → S) (start : List E) (setting : S) (seats : ℕ) where
  abbrev St : Type 0
  St = State (Option T) (View E S)

  abbrev Rule : St → Type 0
  Rule = LockHolds entries owner setting_of start setting seats

  abbrev Fit : ℕ → List E → View E S → Type 0
  Fit = Fits owner start setting seats

  -- what a step owes and tells
  abbrev Goes : St → ℕ → ℕ → Me (Option T) (View E S) → (ℕ → Me (Option T) (View E S) → Type 0) → ℕ → ℕ → Type 0
  Goes s i id m then found y = (w : View E S) × (a : Act (Option T)) × Valid s.homes m.1 a × Rule (stepped s i y id m.1 w a) × then found (w, carried_after m.1 a)

  -- a view that has the turn, and has seen and taken the whole list
  fits_taken : (list : List E) (v : View E S) → v.number < seats → ((s : S) → v.setting ≡ Some s → (s ≡ setting) × (v.opening ≡ start)) → Fit (v.number + 1) list (taken_view v list)
  fits_taken list v below knows = record {
    seen = begins_self list;
    kept = All-cons (λ (k : ℕ × List E). (k.0 < seats) × GrewByOthers owner k.0 k.1 list) (v.number, list) [] (below, grew_self owner v.number list) (All-nil (λ (k : ℕ × List E). (k.0 < seats) × GrewByOthers owner k.0 k.1 list));
    told = All-nil (λ brought. Begins brought list);
    knows = knows;
    holds = λ taken e. let same : list ≡ taken = cc in record { whole = sym same; seen = refl; word_is = refl; keeps = inl refl };
  }

  teaches : (word : ℕ) (list : List E) (v : View E S) → Fit word list v → Teaches owner v list
  teaches word list v f = record { seen = f.seen; kept = All-weaker (λ (k : ℕ × List E). (k.0 < seats) × GrewByOthers owner k.0 k.1 list) (λ (k : ℕ × List E). GrewByOthers owner k.0 k.1 list) (λ k p. p.1) v.kept f.kept; told = f.told }

  wins : (s : St) (r : Rule s) (id : ℕ) (v : View E S) (ok : IsChairView v) → v.taken ≡ None → v.setting ≡ Some setting → v.seats ≡ seats → v.opening ≡ start → get_elem? s.views id ≡ some v → (st : Step (Option T)) (found : ℕ)
      → found ≡ r.word → r.word ≡ 0 → Goes s 0 id (v, []) (tried entries owner setting_of st (v, [])) found (v.number + 1)
  wins s r id v ok idle knows at_seats from me st found is zero_word =
      let home = r.free zero_word in let f = r.fits id v me in let below = (only_kept entries owner setting_of start setting seats r.word r.list v f ok.kept).0 in
      let list : List E = entries home.value in let same : list ≡ r.list = home.list_is in let w : View E S = taken_view v list in
      let at_home : get_elem? s.homes 0 ≡ some (some (Some home.value)) = ap (λ hs. get_elem? hs 0) home.home in
      let fit : Fit (v.number + 1) r.list w = subst (λ x. Fit (v.number + 1) r.list (taken_view v x)) (sym same) (fits_taken r.list v below f.knows) in
      let rule : Rule (stepped s 0 (v.number + 1) id [] w (takes 0 (Some home.value))) = record {
        few = r.few;
        word = v.number + 1;
        list = r.list;
        words = ap (λ ws. set ws 0 (v.number + 1)) r.words;
        added = r.added;
        fits = each_set (Fit (v.number + 1) r.list) s.views id w fit (λ j u e ne. fits_idle entries owner setting_of start setting seats r.word (v.number + 1) r.list u (r.fits j u e)
            (λ taken t. let h = (r.fits j u e).holds taken t in absurd (omega (arith, h.word_is))));
        whole = (id, (w, set_in s.views id v w me, same));
        once = λ n. once_set (λ (u : View E S). Keeps n u.kept) s.views id v w me (λ k. subst (Keeps n) (sym ok.kept) k) (r.once n);
        every = λ n l. has_set (λ (u : View E S). Keeps n u.kept) s.views id v w me (λ k. subst (Keeps n) ok.kept k) (r.every n l);
        free = λ e. absurd (omega arith);
        held = λ _. (ap (λ hs. set hs 0 none) home.home, (id, (w, set_in s.views id v w me, (list, refl))));
      } in
      let won : Won entries owner setting_of (v, []) (w, (0, Some home.value) ∷ []) = record {
        value = home.value;
        out = refl;
        view = refl;
        teaches = subst (Teaches owner v) (sym same) (teaches r.word r.list v f);
        setting_is = knows ∙ ap Some (sym home.setting_is);
        added = subst (λ (x : ℕ × (List E × List E)). GrewByChairs owner x.0 x.1.0 x.1.1) (λ i. (sym at_seats i, (sym from i, sym same i))) r.added;
      } in
      (w, takes 0 (Some home.value), at_home, rule, ((λ _. won), λ ne. absurd (ne (is ∙ zero_word))))

  misses : (s : St) (r : Rule s) (id : ℕ) (v : View E S) (ok : IsChairView v) → v.taken ≡ None → v.seats ≡ seats → get_elem? s.views id ≡ some v → (st : Step (Option T)) (found : ℕ)
      → found ≡ get_or s.words 0 0 → found ≡ r.word → r.word ≢ 0 → Goes s 0 id (v, []) (tried entries owner setting_of st (v, [])) found found
  misses s r id v ok idle at_seats me st found got is some_word =
      let f = r.fits id v me in let h = (r.held some_word).1 in let u : View E S = h.1.0 in let hold = (r.fits h.0 u h.1.1).holds h.1.2.0 h.1.2.1 in let w : View E S = missed_view v found in
      let fit : Fit r.word r.list w = record { seen = f.seen; kept = f.kept; told = f.told; knows = f.knows; holds = λ taken e. let t = f.holds taken e in record { whole = t.whole; seen = t.seen; word_is = t.word_is; keeps = t.keeps } } in
      let same : set s.words 0 found ≡ r.word ∷ length r.list ∷ [] = ap (λ ws. set ws 0 found) r.words ∙ ap (λ x. x ∷ length r.list ∷ []) is in
      let apart : u.number ≢ v.number = λ e. let here : h.0 ≡ id = r.once v.number h.0 id u v h.1.1 me (subst (λ n. Keeps n u.kept) e hold.keeps) (one_keeps entries owner setting_of start setting seats v ok.kept) in
      let one : u ≡ v = some-injective u v (sym h.1.1 ∙ (ap (λ i. get_elem? s.views i) here ∙ me)) in let t : Some h.1.2.0 ≡ None = sym h.1.2.1 ∙ (ap (λ (x : View E S). x.taken) one ∙ idle) in cc in
      let below = keeps_below entries owner setting_of start setting seats r.word r.list u u.number (r.fits h.0 u h.1.1) hold.keeps in
      let missed : Missed entries owner setting_of (v, []) found (w, []) = record { view = refl; other = u.number; found_is = is ∙ hold.word_is; few = let few = r.few in omega arith; apart = apart; chair = omega arith } in
      (w, keeps, tt, view_step entries owner setting_of start setting seats s r (set s.words 0 found) id v w me same fit (λ n k. k) (λ n k. k) (λ taken e. (taken, e)) (λ e. e), ((λ z. absurd (some_word (sym is ∙ z))), λ _. missed))

  pub tries : (slots id : ℕ) (v : View E S) (st : Step (Option T)) → IsChairView v → v.taken ≡ None → v.setting ≡ Some setting → v.seats ≡ seats → v.opening ≡ start
      → Allows Rule slots id (v, []) 0 (λ n. either (eqb n 0) (v.number + 1) n) (tried entries owner setting_of st (v, []))
  tries slots id v st ok idle knows at_seats from s r wide me _ = let found : ℕ = get_or s.words 0 0 in let is : found ≡ r.word = ap (λ ws. get_or ws 0 0) r.words in
      exchanged found 0 (v.number + 1) (Goes s 0 id (v, []) (tried entries owner setting_of st (v, [])) found)
      (λ hit. wins s r id v ok idle knows at_seats from me st found is (sym is ∙ hit)) (λ miss. misses s r id v ok idle at_seats me st found refl is (λ z. miss (is ∙ z)))

  -- the holder's load changes nothing
  pub measures : (slots id : ℕ) (m : Me (Option T) (View E S)) (st : Step (Option T)) → Allows Rule slots id m 1 (λ n. n) (measured entries owner setting_of st m)
  measures slots id m st s r wide me _ = let found : ℕ = get_or s.words 1 0 in let is : found ≡ length r.list = ap (λ ws. get_or ws 1 0) r.words in
      let same : set s.words 1 found ≡ r.word ∷ length r.list ∷ [] = ap (λ ws. set ws 1 found) r.words ∙ ap (λ x. r.word ∷ x ∷ []) is in let f = r.fits id m.0 me in
      (m.0, keeps, tt, view_step entries owner setting_of start setting seats s r (set s.words 1 found) id m.0 m.0 me same f (λ n k. k) (λ n k. k) (λ taken e. (taken, e)) (λ e. e), (refl, λ taken e. is ∙ ap length (sym (f.holds taken e).whole)))

  pub chair_tries : (slots id : ℕ) (m : Me (Option T) (View E S)) (st : Step (Option T)) (number size : ℕ) → IsChair number size m → m.0.taken ≡ None → m.0.setting ≡ Some setting → m.0.seats ≡ seats → m.0.opening ≡ start
      → Allows Rule slots id m 0 (λ n. either (eqb n 0) (number + 1) n) (tried entries owner setting_of st m)
  chair_tries slots id m st number size ok idle knows at_seats from = let empty : m.1 ≡ [] = subst (λ t. MatchOption t (m.1 ≡ []) (λ taken. HasTaken size m taken)) idle ok.turn in
      subst (λ (x : List (ℕ × Option T) × ℕ). Allows Rule slots id (m.0, x.0) 0 (λ n. either (eqb n 0) (x.1 + 1) n) (tried entries owner setting_of st (m.0, x.0))) (λ i. (sym empty i, sym ok.number_is i))
      (tries slots id m.0 st ok.view idle knows at_seats from)
