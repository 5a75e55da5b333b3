-- A try for the turn.
use Rattle.std.proofs.Common.{◌≡◌, ◌≢◌, ℕ, ◌+◌, ◌<◌, ◌≤◌, eqb, List, [], ◌∷◌, length, get_or, set, sym, refl, ap, ◌∙◌, subst, inl, arith, Option, Some, None, MatchOption}
use Rattle.std.specs.List.{All}
use Rattle.std.proofs.lemmas.List.Elements.{All-nil, All-cons}
use mathlib.Core.Option.{some, none, some-injective}
use lib.ListN.{get_elem?}
use prog.Atomic.{either}
use Rattle.atomic_table.specs.Table.{Me, Step, Act, keeps, takes, Valid, Allows, stepped, carried_after}
use Rattle.atomic_table.proofs.Lists.{exchanged}
use Rattle.mz_board.specs.declared.story.Story.{Ghosts}
use Rattle.mz_board.specs.declared.view.View.{View}
use Rattle.mz_board.specs.Seen.{Begins}
use Rattle.mz_board.specs.Items.{ReadOk}
use Rattle.mz_board.specs.Views.{taken_view, missed_view}
use Rattle.mz_board.specs.Invariant.{Keeps, Fixed, Stand, words_of, more, Fits, IsPosted, IsChairView}
use Rattle.mz_board.specs.Places.{IsChair, HasNone, HasTaken}
use Rattle.mz_board.specs.Chair.{Reads}
use Rattle.mz_board.specs.Steps.{Teaches, Won, Missed, tried}
use Rattle.mz_board.proofs.SeenLemmas.{begins_self, grew_self}
use Rattle.mz_board.proofs.ViewLemmas.{each_set, once_set, has_set, set_in}
use Rattle.mz_board.proofs.FitLemmas.{St, Rule, Kept, idle_not, keeps_below, only_kept, one_keeps, taught, fits_idle, view_step}

module _ {T E S : Type 0} (story : Ghosts T E S) (fixed : Fixed S) where
  -- what a step owes and tells
  abbrev Goes : St story fixed → ℕ → ℕ → Me (Option T) (View E S) → (ℕ → Me (Option T) (View E S) → Type 0) → ℕ → ℕ
      → Type 0
  Goes s i id m then found y = (w : View E S) × (a : Act (Option T)) × Valid s.homes m.1 a
      × Rule story fixed (stepped s i y id m.1 w a) × then found (w, carried_after m.1 a)

  -- a view that has the turn, and has seen and taken the whole list
  fits_taken : (now : Stand E) (word : ℕ) (v : View E S) → Fits story fixed now v → v.number < fixed.seats
      → v.taken ≡ None → now.front ≡ length now.list → now.owed ≡ [] → word ≡ v.number + 1
      → Fits story fixed (record {
        word = word;
        list = now.list;
        front = now.front;
        items = now.items;
        owed = now.owed;
      }) (taken_view v now.list)
  fits_taken now word v f below idle level paid word_is = let i = f.idle idle in record {
    seen = begins_self now.list;
    kept = All-cons (Kept story fixed now.list) (v.number, now.list) [] (
      below,
      grew_self story.owner v.number now.list,
    ) (All-nil (Kept story fixed now.list));
    told = All-nil (λ brought. Begins brought now.list);
    knows = f.knows;
    holds = λ taken e. let same : now.list ≡ taken = cc in
        record {
          whole = sym same;
          seen = refl;
          word_is = word_is;
          keeps = inl refl;
          reached = omega arith;
          front_is = subst (λ b. now.front + more b ≡ length now.list) (sym i.appended) (omega arith);
          owes = i.owes ∙ sym paid;
        };
    idle = λ e. absurd (cc);
    front = f.front;
    items = f.items;
  }

  -- what was read goes for the list
  pub reads_now : (now : Stand E) (v : View E S) → Fits story fixed now v → now.front ≤ length now.list
      → v.taken ≡ None → v.setting ≡ Some fixed.setting → Reads story.writes v.opening v.post now.list
  reads_now now v f le idle knows = let reached = (f.idle idle).reached in
      let opening = (f.knows fixed.setting knows).1 in record {
        reached = omega arith;
        front = λ n e. let h = f.front n e in omega arith;
        items = λ n e. subst (λ o. All (ReadOk story.writes n o now.list) v.post.items) (sym opening) (f.items n e);
      }

  posted_word : (now : Stand E) (word : ℕ) → IsPosted story fixed now
      → IsPosted story fixed (record {
        word = word;
        list = now.list;
        front = now.front;
        items = now.items;
        owed = now.owed;
      })
  posted_word now word p = record {
    few = p.few;
    front = p.front;
    width = p.width;
    values = p.values;
    owed = p.owed;
    may = p.may;
    fitting = p.fitting;
  }

  wins : (s : St story fixed) (r : Rule story fixed s) (id : ℕ) (v : View E S) (ok : IsChairView v) → v.taken ≡ None
      → v.setting ≡ Some fixed.setting → v.seats ≡ fixed.seats → get_elem? s.views id ≡ some v
      → (st : Step (Option T)) (found : ℕ)
      → found ≡ r.now.word → r.now.word ≡ 0 → Goes s 0 id (v, []) (tried story st (v, [])) found (v.number + 1)
  wins s r id v ok idle knows at_seats me st found is zero_word =
      let now = r.now in let home = r.free zero_word in let f = r.fits id v me in
      let below = (only_kept story fixed now v f ok.kept).0 in
      let list : List E = story.entries home.value in let same : list ≡ now.list = home.list_is in
      let w : View E S = taken_view v list in
      let next : Stand E = record {
        word = v.number + 1;
        list = now.list;
        front = now.front;
        items = now.items;
        owed = now.owed;
      } in
      let at_home : get_elem? s.homes 0 ≡ some (some (Some home.value)) = ap (λ hs. get_elem? hs 0) home.home in
      let fit : Fits story fixed next w = subst (λ x. Fits story fixed next (taken_view v x)) (sym same)
      (fits_taken now (v.number + 1) v f below idle home.level home.paid refl) in
      let rule : Rule story fixed (stepped s 0 (v.number + 1) id [] w (takes 0 (Some home.value))) = record {
        few = r.few;
        now = next;
        words = ap (λ ws. set ws 0 (v.number + 1)) r.words;
        owners = r.owners;
        fits = each_set (Fits story fixed next) s.views id w fit
            (λ j u e ne. fits_idle story fixed now (v.number + 1) now.front now.items now.owed u (r.fits j u e)
            (λ taken t. let h = (r.fits j u e).holds taken t in absurd (omega (arith, h.word_is))) (omega arith));
        once = λ n. once_set (λ (u : View E S). Keeps n u.kept) s.views id v w me
            (λ k. subst (Keeps n) (sym ok.kept) k) (r.once n);
        every = λ n l. has_set (λ (u : View E S). Keeps n u.kept) s.views id v w me (λ k. subst (Keeps n) ok.kept k)
            (r.every n l);
        free = λ e. absurd (omega arith);
        held = λ _. (ap (λ hs. set hs 0 none) home.home, (id, (w, set_in s.views id v w me, (list, refl))));
        posted = posted_word now (v.number + 1) r.posted;
      } in
      let won : Won story (v, []) (w, (0, Some home.value) ∷ []) = record {
        value = home.value;
        out = refl;
        view = refl;
        teaches = subst (Teaches story.owner v) (sym same) (taught story fixed now v f);
        setting_is = knows ∙ ap Some (sym home.setting_is);
        reads = subst (Reads story.writes v.opening v.post) (sym same) (reads_now now v f r.posted.front idle knows);
        owners = subst (λ l. All (λ entry. story.owner entry < v.seats) l) (sym same)
            (subst (λ n. All (λ entry. story.owner entry < n) now.list) (sym at_seats) r.owners);
        few = let few = r.posted.few in
            subst (λ (x : S). length list ≤ story.most x) (sym home.setting_is) (omega (arith, ap length same));
      } in
      (w, takes 0 (Some home.value), at_home, rule, ((λ _. won), λ ne. absurd (ne (is ∙ zero_word))))

  fits_missed : (now : Stand E) (found : ℕ) (v : View E S) → Fits story fixed now v → v.taken ≡ None
      → Fits story fixed now (missed_view v found)
  fits_missed now found v f idle = record {
    seen = f.seen;
    kept = f.kept;
    told = f.told;
    knows = f.knows;
    holds = λ taken e. absurd (idle_not v.taken idle taken e);
    idle = λ e. let i = f.idle e in record { reached = i.reached; appended = i.appended; owes = i.owes };
    front = f.front;
    items = f.items;
  }

  misses : (s : St story fixed) (r : Rule story fixed s) (id : ℕ) (v : View E S) (ok : IsChairView v)
      → v.taken ≡ None → v.seats ≡ fixed.seats → get_elem? s.views id ≡ some v → (st : Step (Option T)) (found : ℕ)
      → found ≡ get_or s.words 0 0 → found ≡ r.now.word → r.now.word ≢ 0
      → Goes s 0 id (v, []) (tried story st (v, [])) found found
  misses s r id v ok idle at_seats me st found got is some_word =
      let now = r.now in let f = r.fits id v me in let h = (r.held some_word).1 in let u : View E S = h.1.0 in
      let hold = (r.fits h.0 u h.1.1).holds h.1.2.0 h.1.2.1 in let w : View E S = missed_view v found in
      let same : set s.words 0 found ≡ words_of now = ap (λ ws. set ws 0 found) r.words
      ∙ ap (λ x. x ∷ length now.list ∷ now.front ∷ now.items) is in
      let apart : u.number ≢ v.number = λ e.
      let here : h.0 ≡ id = r.once v.number h.0 id u v h.1.1 me (subst (λ n. Keeps n u.kept) e hold.keeps)
      (one_keeps story fixed v ok.kept) in
      let one : u ≡ v = some-injective u v (sym h.1.1 ∙ (ap (λ i. get_elem? s.views i) here ∙ me)) in
      let t : Some h.1.2.0 ≡ None = sym h.1.2.1 ∙ (ap (λ (x : View E S). x.taken) one ∙ idle) in cc in
      let below = keeps_below story fixed now u u.number (r.fits h.0 u h.1.1) hold.keeps in
      let missed : Missed story (v, []) found (w, []) = record {
        view = refl;
        other = u.number;
        found_is = is
            ∙ hold.word_is;
        few = let few = r.few in omega arith;
        apart = apart;
        chair = omega arith;
      } in (
        w,
        keeps,
        tt,
        view_step story fixed s r (set s.words 0 found) id v w me same (fits_missed now found v f idle)
            (λ n k. k) (λ n k. k) (λ taken e. (taken, e)),
        ((λ z. absurd (some_word (sym is ∙ z))), λ _. missed),
      )

  pub tries : (slots id : ℕ) (v : View E S) (st : Step (Option T)) → IsChairView v → v.taken ≡ None
      → v.setting ≡ Some fixed.setting → v.seats ≡ fixed.seats
      → Allows (Rule story fixed) slots id (v, []) 0 (λ n. either (eqb n 0) (v.number + 1) n) (tried story st (v, []))
  tries slots id v st ok idle knows at_seats s r wide me _ = let found : ℕ = get_or s.words 0 0 in
      let is : found ≡ r.now.word = ap (λ ws. get_or ws 0 0) r.words in
      exchanged found 0 (v.number + 1) (Goes s 0 id (v, []) (tried story st (v, [])) found)
      (λ hit. wins s r id v ok idle knows at_seats me st found is (sym is
      ∙ hit)) (λ miss. misses s r id v ok idle at_seats me st found refl is (λ z. miss (is ∙ z)))

  pub chair_tries : (slots id : ℕ) (m : Me (Option T) (View E S)) (st : Step (Option T)) (number : ℕ)
      (front : Option ℕ) → IsChair number front m → m.0.taken ≡ None → m.0.setting ≡ Some fixed.setting
      → m.0.seats ≡ fixed.seats
      → Allows (Rule story fixed) slots id m 0 (λ n. either (eqb n 0) (number + 1) n) (tried story st m)
  chair_tries slots id m st number front ok idle knows at_seats = let none : HasNone front m = subst
      (λ t. MatchOption t (HasNone front m) (λ taken. HasTaken front m taken)) idle ok.turn in
      subst (λ (x : List (ℕ × Option T) × ℕ). Allows (Rule story fixed) slots id (
        m.0,
        x.0,
      ) 0 (λ n. either (eqb n 0) (x.1 + 1) n) (tried story st (m.0, x.0))) (λ i. (
        sym none.slot i,
        sym ok.number_is i,
      ))
      (tries slots id m.0 st ok.view idle knows at_seats)
