-- Loads of the count, of the front and of an item.
use Rattle.std.proofs.Common.{◌≡◌, ℕ, suc, ◌+◌, ◌-◌, ◌<◌, ◌≤◌, List, [], length, get_or, set, sym, refl, ap, ◌∙◌, subst, inl, inr, arith, Option, Some, None, MatchOption}
use Rattle.std.specs.List.{All}
use Rattle.std.proofs.lemmas.List.{set-get_or}
use Rattle.std.proofs.lemmas.List.Elements.{All-nil, All-cons}
use Rattle.atomic_table.specs.Table.{Me, Step, step, keeps, Allows}
use mathlib.Core.Option.{none}
use Rattle.mz_board.specs.declared.story.Story.{Ghosts}
use Rattle.mz_board.specs.declared.view.View.{View}
use Rattle.mz_board.specs.Seen.{Begins, GrewByOthers}
use Rattle.mz_board.specs.Items.{written, ReadOk}
use Rattle.mz_board.specs.Views.{own_of, counted_view, front_view, item_view}
use Rattle.mz_board.specs.Invariant.{Keeps, Fixed, Stand, words_of, Fits, IsPosted, IsChairView}
use Rattle.mz_board.specs.Places.{IsChair, HasNone, HasTaken}
use Rattle.mz_board.specs.Steps.{Teaches, counted, fronted, loaded}
use Rattle.mz_board.proofs.SeenLemmas.{begins_self, begins_shorter, grew_later, grew_so_far}
use Rattle.mz_board.proofs.ItemLemmas.{optional, written_last}
use Rattle.mz_board.proofs.FitLemmas.{Rule, Kept, idle_not, only_kept, view_step}

module _ {T E S : Type 0} (story : Ghosts T E S) (fixed : Fixed S) where
  fits_counted : (now : Stand E) (v : View E S) → IsChairView v → Fits story fixed now v
      → Fits story fixed now (counted_view v)
  fits_counted now v ok f = let own = only_kept story fixed now v f ok.kept in record {
    seen = f.seen;
    kept = All-cons (Kept story fixed now.list) (v.number, v.seen) [] (
      own.0,
      grew_later story.owner v.number (own_of v.kept) v.seen now.list own.1 f.seen ok.own,
    )
        (All-nil (Kept story fixed now.list));
    told = All-nil (λ brought. Begins brought now.list);
    knows = f.knows;
    holds = λ taken e. let h = f.holds taken e in
        record {
          whole = h.whole;
          seen = h.seen;
          word_is = h.word_is;
          keeps = inl refl;
          reached = h.reached;
          front_is = h.front_is;
          owes = h.owes;
        };
    idle = λ e. let i = f.idle e in record { reached = i.reached; appended = i.appended; owes = i.owes };
    front = f.front;
    items = f.items;
  }

  -- what was seen begins with all that the view knew
  teaches_seen : (now : Stand E) (v : View E S) → IsChairView v → Fits story fixed now v
      → Teaches story.owner v v.seen
  teaches_seen now v ok f = let own = only_kept story fixed now v f ok.kept in let P : ℕ × List E
      → Type 0 = λ k. GrewByOthers story.owner k.0 k.1 v.seen in record {
        seen = begins_self v.seen;
        kept = subst (All P) (sym ok.kept) (All-cons P (
          v.number,
          own_of v.kept,
        ) [] (grew_so_far story.owner v.number (own_of v.kept) v.seen now.list own.1 f.seen ok.own)
            (All-nil P));
        told = λ k d l. begins_shorter _ v.seen now.list (f.told k d l) f.seen (ok.told k d l);
      }

  reached_case : (now : Stand E) (v : View E S) → Fits story fixed now v → now.front ≤ length now.list
      → (o : Option (List E)) → v.taken ≡ o → v.post.reached ≤ length now.list
  reached_case now v f le None e = let i = (f.idle e).reached in omega arith
  reached_case now v f le (Some taken) e = (f.holds taken e).reached

  pub counts : (slots id : ℕ) (m : Me (Option T) (View E S)) (st : Step (Option T)) → IsChairView m.0
      → Allows (Rule story fixed) slots id m 1 (λ n. n) (counted story st m)
  counts slots id m st ok s r wide me _ = let now = r.now in let found : ℕ = get_or s.words 1 0 in
      let is : found ≡ length now.list = ap (λ ws. get_or ws 1 0) r.words in let f = r.fits id m.0 me in
      let same : set s.words 1 found ≡ words_of now = set-get_or s.words 1 0 ∙ r.words in
      let long = reached_case now m.0 f r.posted.front m.0.taken refl in (
        counted_view m.0,
        keeps,
        tt,
        view_step story fixed s r (set s.words 1 found) id m.0 (counted_view m.0) me same (fits_counted now m.0 ok f)
            (λ n k. subst (Keeps n) (sym ok.kept) k) (λ n k. subst (Keeps n) ok.kept k) (λ taken e. (taken, e)),
        (
          refl,
          omega arith,
          teaches_seen now m.0 ok f,
          λ taken e. let h = f.holds taken e in
              (h.seen ∙ sym h.whole, is ∙ ap length (sym h.whole)),
        ),
      )

  fits_front : (now : Stand E) (found : ℕ) (v : View E S) → Fits story fixed now v → v.taken ≡ None
      → found ≡ now.front → Fits story fixed now (front_view v found)
  fits_front now found v f idle is = record {
    seen = f.seen;
    kept = f.kept;
    told = f.told;
    knows = f.knows;
    holds = λ taken e. absurd (idle_not v.taken idle taken e);
    idle = λ e. let i = f.idle e in record { reached = omega arith; appended = i.appended; owes = i.owes };
    front = λ n e. let h : found ≡ n = cc in omega arith;
    items = λ n e. All-nil (ReadOk story.writes n fixed.opening now.list);
  }

  pub fronts : (slots id : ℕ) (m : Me (Option T) (View E S)) (st : Step (Option T)) → m.0.taken ≡ None
      → Allows (Rule story fixed) slots id m 2 (λ n. n) (fronted story st m)
  fronts slots id m st idle s r wide me _ = let now = r.now in let found : ℕ = get_or s.words 2 0 in
      let is : found ≡ now.front = ap (λ ws. get_or ws 2 0) r.words in let f = r.fits id m.0 me in
      let same : set s.words 2 found ≡ words_of now = set-get_or s.words 2 0 ∙ r.words in
      let reached = (f.idle idle).reached in let few = r.posted.few in let front = r.posted.front in (
        front_view m.0 found,
        keeps,
        tt,
        view_step story fixed s r (set s.words 2 found) id m.0 (front_view m.0 found) me same
            (fits_front now found m.0 f idle is) (λ n k. k) (λ n k. k) (λ taken e. (taken, e)),
        (refl, omega arith, λ x e. subst (λ (y : S). found ≤ story.most y) (sym (f.knows x e).0) (omega arith)),
      )

  -- a loaded item has its value after the list, or the last entry writes it
  item_ok : (now : Stand E) (front item : ℕ) → IsPosted story fixed now → front ≤ now.front
      → item < length fixed.opening → ReadOk story.writes front fixed.opening now.list (item, get_or now.items item 0)
  item_ok now front item p le low = optional (written item now.owed)
      (λ none_owed. inl (sym (p.values item low none_owed)))
      (λ x owed. inr (written_last story.writes now.front front item now.list x le (p.owed item x owed)))

  fits_item : (now : Stand E) (item found : ℕ) (v : View E S) → Fits story fixed now v → IsPosted story fixed now
      → item < length fixed.opening → found ≡ get_or now.items item 0 → Fits story fixed now (item_view v item found)
  fits_item now item found v f p low is = record {
    seen = f.seen;
    kept = f.kept;
    told = f.told;
    knows = f.knows;
    holds = λ taken e. let h = f.holds taken e in
        record {
          whole = h.whole;
          seen = h.seen;
          word_is = h.word_is;
          keeps = h.keeps;
          reached = h.reached;
          front_is = h.front_is;
          owes = h.owes;
        };
    idle = λ e. let i = f.idle e in record { reached = i.reached; appended = i.appended; owes = i.owes };
    front = f.front;
    items = λ n e. All-cons (ReadOk story.writes n fixed.opening now.list) (
      item,
      found,
    ) v.post.items (subst (λ x. ReadOk story.writes n fixed.opening now.list (
      item,
      x,
    )) (sym is) (item_ok now n item p (f.front n e) low)) (f.items n e);
  }

  loads_at : (slots id : ℕ) (m : Me (Option T) (View E S)) (st : Step (Option T)) (item place : ℕ)
      → place ≡ suc (suc (suc item)) → st.word - 3 ≡ item → item < length fixed.opening
      → Allows (Rule story fixed) slots id m place (λ n. n) (loaded story st m)
  loads_at slots id m st item place at back low s r wide me _ = let now = r.now in
      let found : ℕ = get_or s.words place 0 in
      let is : found ≡ get_or now.items item 0 = ap (λ ws. get_or ws place 0) r.words
      ∙ ap (λ p. get_or (words_of now) p 0) at in let f = r.fits id m.0 me in
      let same : set s.words place found ≡ words_of now = set-get_or s.words place 0 ∙ r.words in (
        item_view m.0 item found,
        keeps,
        tt,
        view_step story fixed s r (set s.words place found) id m.0 (item_view m.0 item found) me same
            (fits_item now item found m.0 f r.posted low is) (λ n k. k) (λ n k. k) (λ taken e. (taken, e)),
        (
          ap (λ i. (item_view m.0 i found, m.1)) (sym back),
          λ x e. ap (λ i. story.may_have x i found) back
              ∙ (ap (λ (y : S). story.may_have y item found) (f.knows x e).0
              ∙ (ap (story.may_have fixed.setting item) is ∙ r.posted.may item low)),
        ),
      )

  pub loads : (slots id : ℕ) (m : Me (Option T) (View E S)) (item : ℕ) → item < length fixed.opening
      → Allows (Rule story fixed) slots id m (3 + item) (λ n. n) (loaded story (step slots (3 + item) 0 0 none) m)
  loads slots id m item low = loads_at slots id m (step slots (3 + item) 0 0 none) item (3 + item) (omega arith)
      (omega arith) low

-- a chair after a load
counted_chair : {E S : Type 0} (v : View E S) → IsChairView v → IsChairView (counted_view v)
counted_chair v ok = record {
  kept = refl;
  own = omega arith;
  told = All-nil (λ brought. length brought ≤ length v.seen);
  reached = ok.reached;
  owes = ok.owes;
}

module _ {T E S : Type 0} where
  counted_turn : (front : Option ℕ) (v : View E S) (slots : List (ℕ × Option T)) (o : Option (List E))
      → ((taken : List E) → o ≡ Some taken → v.seen ≡ taken)
      → MatchOption o (HasNone front (v, slots)) (λ taken. HasTaken front (v, slots) taken)
      → MatchOption o (HasNone front (counted_view v, slots)) (λ taken. HasTaken front (
        counted_view v,
        slots,
      ) taken)
  counted_turn front v slots None whole h = record {
    front_is = h.front_is;
    slot = h.slot;
    appended = h.appended;
    owes = h.owes;
  }
  counted_turn front v slots (Some taken) whole h = record {
    front_is = h.front_is;
    slot = h.slot;
    own = whole taken refl;
    seen = h.seen;
  }

  pub counted_ok : (number : ℕ) (front : Option ℕ) (m m' : Me (Option T) (View E S)) → IsChair number front m
      → m' ≡ (counted_view m.0, m.1) → ((taken : List E) → m.0.taken ≡ Some taken → m.0.seen ≡ taken)
      → IsChair number front m'
  counted_ok number front m m' ok is whole = subst (IsChair number front) (sym is)
      (record {
        number_is = ok.number_is;
        view = counted_chair m.0 ok.view;
        turn = counted_turn front m.0 m.1 m.0.taken whole ok.turn;
      })

  front_turn : (front : Option ℕ) (v : View E S) (slots : List (ℕ × Option T)) (found : ℕ) (o : Option (List E))
      → o ≡ None
      → MatchOption o (HasNone front (v, slots)) (λ taken. HasTaken front (v, slots) taken)
      → MatchOption o (HasNone front (front_view v found, slots)) (λ taken. HasTaken front (
        front_view v found,
        slots,
      ) taken)
  front_turn front v slots found None idle h = record {
    front_is = h.front_is;
    slot = h.slot;
    appended = h.appended;
    owes = h.owes;
  }
  front_turn front v slots found (Some taken) idle h = absurd (cc)

  pub front_ok : (number : ℕ) (front : Option ℕ) (m m' : Me (Option T) (View E S)) (found : ℕ)
      → IsChair number front m → m.0.taken ≡ None → m.0.post.reached ≤ found → m' ≡ (front_view m.0 found, m.1)
      → IsChair number front m'
  front_ok number front m m' found ok idle le is = subst (IsChair number front) (sym is) (record {
    number_is = ok.number_is;
    view = let v = ok.view in let reached = v.reached in
        record { kept = v.kept; own = v.own; told = v.told; reached = omega arith; owes = v.owes };
    turn = front_turn front m.0 m.1 found m.0.taken idle ok.turn;
  })

  item_turn : (front : Option ℕ) (v : View E S) (slots : List (ℕ × Option T)) (item found : ℕ) (o : Option (List E))
      → MatchOption o (HasNone front (v, slots)) (λ taken. HasTaken front (v, slots) taken)
      → MatchOption o (HasNone front (
        item_view v item found,
        slots,
      )) (λ taken. HasTaken front (item_view v item found, slots) taken)
  item_turn front v slots item found None h = record {
    front_is = h.front_is;
    slot = h.slot;
    appended = h.appended;
    owes = h.owes;
  }
  item_turn front v slots item found (Some taken) h = record {
    front_is = h.front_is;
    slot = h.slot;
    own = h.own;
    seen = h.seen;
  }

  pub item_ok_chair : (number : ℕ) (front : Option ℕ) (m m' : Me (Option T) (View E S)) (item found : ℕ)
      → IsChair number front m → m' ≡ (item_view m.0 item found, m.1) → IsChair number front m'
  item_ok_chair number front m m' item found ok is = subst (IsChair number front) (sym is) (record {
    number_is = ok.number_is;
    view = let v = ok.view in record {
      kept = v.kept;
      own = v.own;
      told = v.told;
      reached = v.reached;
      owes = v.owes;
    };
    turn = item_turn front m.0 m.1 item found m.0.taken ok.turn;
  })
