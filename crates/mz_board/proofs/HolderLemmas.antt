-- The holder counts its entry, stores its items, publishes the front and gives the turn back.
use Rattle.std.proofs.Common.{◌≡◌, ◌≢◌, ℕ, suc, ◌+◌, ◌-◌, ◌<◌, ◌≤◌, ◌^◌, ◌%◌, List, [], ◌∷◌, ◌++◌, length, get_or, set, sym, refl, ap, ◌∙◌, subst, inl, arith, length-append, true, false, Option, Some, None, MatchOption}
use Rattle.std.specs.List.{All}
use Rattle.std.proofs.lemmas.List.{get_or-set_same, get_or-set_other, length-set}
use Rattle.std.proofs.lemmas.List.Elements.{All-nil, All-cons, All-push, All-weaker, All-head}
use native.Mathlib.Decide.{ℕ_discrete}
use mathlib.Core.Option.{some, none}
use lib.ListN.{get_elem?}
use Rattle.atomic_table.specs.Table.{Me, Step, step, keeps, gives, Allows}
use Rattle.mz_board.specs.declared.story.Story.{Ghosts}
use Rattle.mz_board.specs.declared.view.View.{View}
use Rattle.mz_board.specs.Seen.{Begins}
use Rattle.mz_board.specs.Items.{written, without, word_of, value_after, ReadOk, last_writes}
use Rattle.mz_board.specs.Views.{own_of, appended_view, stored_view, published_view, released_view}
use Rattle.mz_board.specs.Invariant.{Keeps, Fixed, Stand, words_of, more, Fits, IsPosted}
use Rattle.mz_board.specs.Chair.{Fitting}
use Rattle.mz_board.specs.Turn.{Grows, MayPublish}
use Rattle.mz_board.specs.Steps.{appended, stored, published, released}
use Rattle.mz_board.proofs.SeenLemmas.{begins_self, begins_more, grew_self, grew_push}
use Rattle.mz_board.proofs.ViewLemmas.{each_set, once_set, has_set, set_in}
use Rattle.mz_board.proofs.ItemLemmas.{written_all, without_other, without_same, value_kept, last_of, last_value, last_length, read_more, optional}
use Rattle.mz_board.proofs.FitLemmas.{St, Rule, Kept, idle_not, all_keeps, only_kept, one_keeps, one_holder, fits_idle}

module _ {E : Type 0} where
  zipped : (P Q : ℕ × List E → Type 0) (ks : List (ℕ × List E)) → All P ks → All Q ks → All (λ k. P k × Q k) ks
  zipped P Q ks p q k d l = (p k d l, q k d l)

  last_in : (P : E → Type 0) (xs : List E) (e : E) → All P (xs ++ e ∷ []) → P e
  last_in P [] e all = All-head P e [] all
  last_in P (x ∷ xs) e all = last_in P xs e (λ k d l. all (suc k) d (omega arith))

module _ {T E S : Type 0} (story : Ghosts T E S) (fixed : Fixed S) where
  -- the board with one entry more
  abbrev grown : Stand E → E → Stand E
  grown now e = record {
    word = now.word;
    list = now.list ++ e ∷ [];
    front = now.front;
    items = now.items;
    owed = story.writes e;
  }

  reads_more : (now : Stand E) (e : E) (front : ℕ) (reads : List (ℕ × ℕ)) → front ≤ length now.list
      → All (ReadOk story.writes front fixed.opening now.list) reads
      → All (ReadOk story.writes front fixed.opening (now.list ++ e ∷ [])) reads
  reads_more now e front reads le all = All-weaker (ReadOk story.writes front fixed.opening now.list)
      (ReadOk story.writes front fixed.opening (now.list ++ e ∷ []))
      (λ w ok. read_more story.writes front fixed.opening now.list e w le ok) reads all

  -- a view that keeps other numbers than the new entry's, and holds no turn
  fits_others : (now : Stand E) (e : E) (v : View E S) → Fits story fixed now v → now.front ≤ length now.list
      → (Keeps (story.owner e) v.kept → ⊥) → ((taken : List E) → v.taken ≡ Some taken → ⊥)
      → Fits story fixed (grown now e) v
  fits_others now e v f le other idle = let list = now.list in record {
    seen = begins_more v.seen list (e ∷ []) f.seen;
    kept = let Other : ℕ → Type 0 = λ n. story.owner e ≢ n in
        All-weaker (λ k. Kept story fixed list k
        × Other k.0) (Kept story fixed (list ++ e ∷ [])) (λ k p. (
          p.0.0,
          grew_push story.owner k.0 k.1 list e p.0.1 p.1,
        )) v.kept
        (zipped (Kept story fixed list) (λ k. Other k.0) v.kept f.kept
        (all_keeps Other v.kept (λ n h same. other (subst (λ m. Keeps m v.kept) (sym same) h))));
    told = All-weaker (λ brought. Begins brought list) (λ brought. Begins brought (list ++ e ∷ []))
        (λ b p. begins_more b list (e ∷ []) p) v.told f.told;
    knows = f.knows;
    holds = λ taken t. absurd (idle taken t);
    idle = λ t. let i = f.idle t in record { reached = i.reached; appended = i.appended; owes = i.owes };
    front = f.front;
    items = λ n t. let h = f.front n t in reads_more now e n v.post.items (omega arith) (f.items n t);
  }

  fits_appended : (now : Stand E) (e : E) (v : View E S) → Fits story fixed now v → now.word ≡ v.number + 1
      → v.number < fixed.seats → now.front ≡ length now.list
      → Fits story fixed (grown now e) (appended_view v (now.list ++ e ∷ []) (story.writes e))
  fits_appended now e v f word_is below level = let list = now.list in let longer : List E = list ++ e ∷ [] in
      record {
        seen = begins_self longer;
        kept = All-cons (Kept story fixed longer) (v.number, longer) [] (
          below,
          grew_self story.owner v.number longer,
        ) (All-nil (Kept story fixed longer));
        told = All-weaker (λ brought. Begins brought list) (λ brought. Begins brought longer)
            (λ b p. begins_more b list (e ∷ []) p) v.told f.told;
        knows = f.knows;
        holds = λ taken t. let same : longer ≡ taken = cc in
            record {
              whole = sym same;
              seen = refl;
              word_is = word_is;
              keeps = inl refl;
              reached = omega arith;
              front_is = omega (arith, length-append list (e ∷ []));
              owes = refl;
            };
        idle = λ t. absurd (cc);
        front = f.front;
        items = λ n t. let h = f.front n t in reads_more now e n v.post.items (omega arith) (f.items n t);
      }

  -- nothing is owed where all is published
  nothing_owed : (now : Stand E) → IsPosted story fixed now → now.front ≡ length now.list → (item : ℕ)
      → written item now.owed ≡ None
  nothing_owed now p level item = optional (written item now.owed) (λ none_owed. none_owed)
      (λ x owed. absurd (omega (arith, last_length story.writes now.front now.list item x (p.owed item x owed))))

  posted_grown : (now : Stand E) (e : E) → IsPosted story fixed now → now.front ≡ length now.list
      → length (now.list ++ e ∷ []) ≤ story.most fixed.setting → Fitting story fixed.setting fixed.opening e
      → IsPosted story fixed (grown now e)
  posted_grown now e p level few fit = record {
    few = few;
    front = omega (arith, length-append now.list (e ∷ []));
    width = p.width;
    values = λ item low none_owed. p.values item low (nothing_owed now p level item)
        ∙ sym (value_kept story.writes item (word_of fixed.opening item) now.list e none_owed);
    owed = λ item x found. record { before = now.list; entry = e; list_is = refl; at = sym level; writes_it = found };
    may = p.may;
    fitting = All-push (Fitting story fixed.setting fixed.opening) now.list e p.fitting fit;
  }

  append_rule : (s : St story fixed) (r : Rule story fixed s) (id : ℕ) (v : View E S) (e : E) (taken : List E)
      → get_elem? s.views id ≡ some v → v.kept ≡ (v.number, own_of v.kept) ∷ [] → v.taken ≡ Some taken
      → v.post.appended ≡ false → story.owner e ≡ v.number
      → length (r.now.list ++ e ∷ []) < 2 ^ 64 → length (r.now.list ++ e ∷ []) ≤ story.most fixed.setting
      → Fitting story fixed.setting fixed.opening e
      → Rule story fixed record {
        words = set s.words 1 ((get_or s.words 1 0 + 1) % 2 ^ 64);
        homes = s.homes;
        views = set s.views id (appended_view v (r.now.list ++ e ∷ []) (story.writes e));
      }
  append_rule s r id v e taken me one takes first mine small few fit =
      let now = r.now in let f = r.fits id v me in let hold = f.holds taken takes in
      let below = (only_kept story fixed now v f one).0 in
      let w : View E S = appended_view v (now.list ++ e ∷ []) (story.writes e) in
      let next : Stand E = grown now e in
      let level : now.front ≡ length now.list = let h : now.front + 0 ≡ length now.list = subst
      (λ b. now.front + more b ≡ length now.list) first hold.front_is in omega arith in
      let count : (get_or s.words 1 0 + 1) % 2 ^ 64 ≡ length (now.list ++ e ∷ []) = let is : get_or s.words 1 0 ≡
      length now.list = ap (λ ws. get_or ws 1 0) r.words in omega (arith, length-append now.list (e ∷ [])) in
      record {
        few = r.few;
        now = next;
        words = ap (λ ws. set ws 1 ((get_or s.words 1 0 + 1) % 2 ^ 64)) r.words
            ∙ ap (λ n. now.word ∷ n ∷ now.front ∷ now.items) count;
        owners = All-push (λ entry. story.owner entry < fixed.seats) now.list e r.owners (omega arith);
        fits = each_set (Fits story fixed next) s.views id w (fits_appended now e v f hold.word_is below level)
            (λ j u at ne. fits_others now e u (r.fits j u at) r.posted.front
            (λ h. ne (r.once v.number j id u v at me (subst (λ n. Keeps n u.kept) mine h)
            (one_keeps story fixed v one)))
            (λ t held. ne (one_holder story fixed s r j id u v t taken at me held takes)));
        once = λ n. once_set (λ (u : View E S). Keeps n u.kept) s.views id v w me (λ k. subst (Keeps n) (sym one) k)
            (r.once n);
        every = λ n l. has_set (λ (u : View E S). Keeps n u.kept) s.views id v w me (λ k. subst (Keeps n) one k)
            (r.every n l);
        free = λ z. absurd (omega (arith, hold.word_is));
        held = λ ne. ((r.held ne).0, (id, (w, set_in s.views id v w me, (now.list ++ e ∷ [], refl))));
        posted = posted_grown now e r.posted level few fit;
      }

  pub appends : (slots id : ℕ) (m : Me (Option T) (View E S)) (list : List E) (st : Step (Option T))
      → Grows story m.0 fixed.setting list → m.0.opening ≡ fixed.opening → length list < 2 ^ 64
      → Allows (Rule story fixed) slots id m 1 (λ n. (n + 1) % 2 ^ 64) (appended story list st m)
  appends slots id m list st grows at small s r wide me _ =
      let now = r.now in let v = m.0 in let e = grows.entry in
      let hold = (r.fits id v me).holds grows.taken grows.holds in
      let same : list ≡ now.list ++ e ∷ [] = grows.grows ∙ ap (λ l. l ++ e ∷ []) hold.whole in
      let owes : last_writes story.writes list ≡ story.writes e = ap (last_writes story.writes) same
      ∙ last_of story.writes now.list e in
      let n : ℕ = (get_or s.words 1 0 + 1) % 2 ^ 64 in
      let rule = append_rule s r id v e grows.taken me grows.kept grows.holds grows.first grows.own
      (subst (λ l. length l < 2 ^ 64) same small)
      (subst (λ l. length l ≤ story.most fixed.setting) same grows.few)
      (subst (λ o. Fitting story fixed.setting o e) at grows.fitting) in (
        appended_view v list (last_writes story.writes list),
        keeps,
        tt,
        subst (λ (x : List E × List (ℕ × ℕ)). Rule story fixed record {
          words = set s.words 1 n;
          homes = s.homes;
          views = set s.views id (appended_view v x.0 x.1);
        }) (λ i. (sym same i, sym owes i)) rule,
        refl,
      )

  -- the board with an item stored
  abbrev settled : Stand E → ℕ → ℕ → Stand E
  settled now item value = record {
    word = now.word;
    list = now.list;
    front = now.front;
    items = set now.items item value;
    owed = without item now.owed;
  }

  fits_stored : (now : Stand E) (item value : ℕ) (v : View E S) (taken : List E) → Fits story fixed now v
      → v.taken ≡ Some taken → Fits story fixed (settled now item value) (stored_view v item)
  fits_stored now item value v taken f takes = record {
    seen = f.seen;
    kept = f.kept;
    told = f.told;
    knows = f.knows;
    holds = λ t e. let h = f.holds t e in record {
      whole = h.whole;
      seen = h.seen;
      word_is = h.word_is;
      keeps = h.keeps;
      reached = h.reached;
      front_is = h.front_is;
      owes = ap (without item) h.owes;
    };
    idle = λ e. absurd (idle_not v.taken e taken takes);
    front = f.front;
    items = f.items;
  }

  -- a written item is one of the board, and its value is one that it may have
  owed_fits : (now : Stand E) (item value : ℕ) → IsPosted story fixed now → written item now.owed ≡ Some value
      → (item < length fixed.opening) × (story.may_have fixed.setting item value ≡ true)
  owed_fits now item value p owed = let h = p.owed item value owed in
      written_all (λ (w : ℕ × ℕ). (w.0 < length fixed.opening)
      × (story.may_have fixed.setting w.0 w.1 ≡ true)) item (story.writes h.entry) value
      (last_in (Fitting story fixed.setting fixed.opening) h.before h.entry
      (subst (All (Fitting story fixed.setting fixed.opening)) h.list_is p.fitting)) h.writes_it

  -- what is owed of another item was owed before
  still_owed : (now : Stand E) (item other x : ℕ) → written other (without item now.owed) ≡ Some x
      → Dec (other ≡ item) → written other now.owed ≡ Some x
  still_owed now item other x owed (yes e) = absurd (let z : Some x ≡ None = sym owed
      ∙ (ap (λ k. written k (without item now.owed)) e ∙ without_same item now.owed) in cc)
  still_owed now item other x owed (no ne) = sym (without_other item other now.owed ne) ∙ owed

  stored_value : (now : Stand E) (item value other : ℕ) → IsPosted story fixed now
      → written item now.owed ≡ Some value → item < length now.items → other < length fixed.opening
      → written other (without item now.owed) ≡ None → Dec (other ≡ item)
      → get_or (set now.items item value) other 0 ≡ value_after story.writes other (word_of fixed.opening other)
      now.list
  stored_value now item value other p owed low within none_owed (yes e) = subst
      (λ k. get_or (set now.items item value) k 0 ≡ value_after story.writes k (word_of fixed.opening k) now.list)
      (sym e)
      (get_or-set_same now.items item value 0 low
      ∙ sym (last_value story.writes now.front now.list item (word_of fixed.opening item) value
      (p.owed item value owed)))
  stored_value now item value other p owed low within none_owed (no ne) = get_or-set_other now.items item other value
      0 ne ∙ p.values other within (sym (without_other item other now.owed ne) ∙ none_owed)

  stored_may : (now : Stand E) (item value other : ℕ) → IsPosted story fixed now
      → story.may_have fixed.setting item value ≡ true → item < length now.items → other < length fixed.opening
      → Dec (other ≡ item)
      → story.may_have fixed.setting other (get_or (set now.items item value) other 0) ≡ true
  stored_may now item value other p may low within (yes e) = subst
      (λ k. story.may_have fixed.setting k (get_or (set now.items item value) k 0) ≡ true) (sym e)
      (ap (story.may_have fixed.setting item) (get_or-set_same now.items item value 0 low) ∙ may)
  stored_may now item value other p may low within (no ne) = ap (story.may_have fixed.setting other)
      (get_or-set_other now.items item other value 0 ne) ∙ p.may other within

  posted_stored : (now : Stand E) (item value : ℕ) → IsPosted story fixed now → written item now.owed ≡ Some value
      → IsPosted story fixed (settled now item value)
  posted_stored now item value p owed = let fit = owed_fits now item value p owed in let width = p.width in
      let low : item < length now.items = let h = fit.0 in omega arith in record {
        few = p.few;
        front = p.front;
        width = length-set now.items item value ∙ width;
        values = λ other within none_owed. stored_value now item value other p owed low within none_owed
            (ℕ_discrete other item);
        owed = λ other x found. p.owed other x (still_owed now item other x found (ℕ_discrete other item));
        may = λ other within. stored_may now item value other p fit.1 low within (ℕ_discrete other item);
        fitting = p.fitting;
      }

  stores_at : (slots id : ℕ) (m : Me (Option T) (View E S)) (st : Step (Option T)) (item place value : ℕ)
      (taken : List E) → place ≡ suc (suc (suc item)) → st.word - 3 ≡ item → m.0.taken ≡ Some taken
      → written item m.0.post.owes ≡ Some value
      → Allows (Rule story fixed) slots id m place (λ _. value) (stored story st m)
  stores_at slots id m st item place value taken at back takes owes s r wide me _ =
      let now = r.now in let v = m.0 in let w : View E S = stored_view v item in let f = r.fits id v me in
      let hold = f.holds taken takes in let next : Stand E = settled now item value in
      let owed : written item now.owed ≡ Some value = ap (written item) (sym hold.owes) ∙ owes in
      let rule : Rule story fixed record {
        words = set s.words place value;
        homes = s.homes;
        views = set s.views id w;
      } = record {
        few = r.few;
        now = next;
        words = ap (λ ws. set ws place value) r.words ∙ ap (λ p. set (words_of now) p value) at;
        owners = r.owners;
        fits = each_set (Fits story fixed next) s.views id w (fits_stored now item value v taken f takes)
            (λ j u e ne. fits_idle story fixed now now.word now.front next.items next.owed u (r.fits j u e)
            (λ t held. ne (one_holder story fixed s r j id u v t taken e me held takes)) (omega arith));
        once = λ n. once_set (λ (u : View E S). Keeps n u.kept) s.views id v w me (λ k. k) (r.once n);
        every = λ n l. has_set (λ (u : View E S). Keeps n u.kept) s.views id v w me (λ k. k) (r.every n l);
        free = λ z. absurd (omega (arith, hold.word_is));
        held = λ ne. ((r.held ne).0, (id, (w, set_in s.views id v w me, (taken, takes))));
        posted = posted_stored now item value r.posted owed;
      } in
      (w, keeps, tt, rule, ap (λ i. (stored_view v i, m.1)) (sym back))

  pub stores : (slots id : ℕ) (m : Me (Option T) (View E S)) (item value : ℕ) (taken : List E)
      → m.0.taken ≡ Some taken → written item m.0.post.owes ≡ Some value
      → Allows (Rule story fixed) slots id m (3 + item) (λ _. value)
      (stored story (step slots (3 + item) value 0 none) m)
  stores slots id m item value taken takes owes = stores_at slots id m (step slots (3 + item) value 0 none) item
      (3 + item) value taken (omega arith) (omega arith) takes owes

  fits_published : (now : Stand E) (front : ℕ) (v : View E S) (taken : List E) → Fits story fixed now v
      → v.taken ≡ Some taken → now.front ≤ front → front ≡ length now.list
      → Fits story fixed (record {
        word = now.word;
        list = now.list;
        front = front;
        items = now.items;
        owed = now.owed;
      }) (published_view v)
  fits_published now front v taken f takes le is = record {
    seen = f.seen;
    kept = f.kept;
    told = f.told;
    knows = f.knows;
    holds = λ t e. let h = f.holds t e in record {
      whole = h.whole;
      seen = h.seen;
      word_is = h.word_is;
      keeps = h.keeps;
      reached = h.reached;
      front_is = omega arith;
      owes = h.owes;
    };
    idle = λ e. absurd (idle_not v.taken e taken takes);
    front = λ n e. let h = f.front n e in omega arith;
    items = f.items;
  }

  posted_front : (now : Stand E) (front : ℕ) → IsPosted story fixed now → now.owed ≡ [] → front ≡ length now.list
      → IsPosted story fixed (record {
        word = now.word;
        list = now.list;
        front = front;
        items = now.items;
        owed = now.owed;
      })
  posted_front now front p paid is = record {
    few = p.few;
    front = omega arith;
    width = p.width;
    values = p.values;
    owed = λ item x found. let z : None ≡ Some x = ap (written item) (sym paid) ∙ found in absurd (cc);
    may = p.may;
    fitting = p.fitting;
  }

  pub publishes : (slots id front : ℕ) (m : Me (Option T) (View E S)) (st : Step (Option T)) (taken : List E)
      → m.0.taken ≡ Some taken → m.0.post.owes ≡ [] → front ≡ length m.0.seen
      → Allows (Rule story fixed) slots id m 2 (λ _. front) (published story st m)
  publishes slots id front m st taken takes paid is s r wide me _ =
      let now = r.now in let v = m.0 in let w : View E S = published_view v in let f = r.fits id v me in
      let hold = f.holds taken takes in let whole : front ≡ length now.list = is ∙ ap length hold.seen in
      let le = r.posted.front in
      let next : Stand E = record {
        word = now.word;
        list = now.list;
        front = front;
        items = now.items;
        owed = now.owed;
      } in let rule : Rule story fixed record {
        words = set s.words 2 front;
        homes = s.homes;
        views = set s.views id w;
      } = record {
        few = r.few;
        now = next;
        words = ap (λ ws. set ws 2 front) r.words;
        owners = r.owners;
        fits = each_set (Fits story fixed next) s.views id w
            (fits_published now front v taken f takes (omega arith) whole)
            (λ j u e ne. fits_idle story fixed now now.word front now.items now.owed u (r.fits j u e)
            (λ t held. ne (one_holder story fixed s r j id u v t taken e me held takes)) (omega arith));
        once = λ n. once_set (λ (u : View E S). Keeps n u.kept) s.views id v w me (λ k. k) (r.once n);
        every = λ n l. has_set (λ (u : View E S). Keeps n u.kept) s.views id v w me (λ k. k) (r.every n l);
        free = λ z. absurd (omega (arith, hold.word_is));
        held = λ ne. ((r.held ne).0, (id, (w, set_in s.views id v w me, (taken, takes))));
        posted = posted_front now front r.posted (sym hold.owes ∙ paid) whole;
      } in
      (w, keeps, tt, rule, refl)

  fits_released : (now : Stand E) (v : View E S) → Fits story fixed now v → v.post.reached ≤ length now.list
      → now.front ≡ length now.list → v.post.appended ≡ false → v.post.owes ≡ []
      → Fits story fixed (record {
        word = 0;
        list = now.list;
        front = now.front;
        items = now.items;
        owed = now.owed;
      }) (released_view v)
  fits_released now v f reached level first paid = record {
    seen = f.seen;
    kept = f.kept;
    told = f.told;
    knows = f.knows;
    holds = λ t e. absurd (cc);
    idle = λ e. record { reached = omega arith; appended = first; owes = paid };
    front = f.front;
    items = f.items;
  }

  release_rule : (s : St story fixed) (r : Rule story fixed s) (id : ℕ) (v : View E S) (value : T) (taken : List E)
      → get_elem? s.views id ≡ some v → v.taken ≡ Some taken → v.post.appended ≡ false → v.post.owes ≡ []
      → story.entries value ≡ v.seen → story.setting value ≡ fixed.setting
      → Rule story fixed record {
        words = set s.words 0 0;
        homes = set s.homes 0 (some (Some value));
        views = set s.views id (released_view v);
      }
  release_rule s r id v value taken me takes first paid is knows =
      let now = r.now in let f = r.fits id v me in let hold = f.holds taken takes in
      let w : View E S = released_view v in
      let some_word : now.word ≢ 0 = λ z. absurd (omega (arith, hold.word_is)) in
      let out = (r.held some_word).0 in
      let level : now.front ≡ length now.list = let h : now.front + 0 ≡ length now.list = subst
      (λ b. now.front + more b ≡ length now.list) first hold.front_is in omega arith in let p = r.posted in
      let next : Stand E = record {
        word = 0;
        list = now.list;
        front = now.front;
        items = now.items;
        owed = now.owed;
      } in
      record {
        few = r.few;
        now = next;
        words = ap (λ ws. set ws 0 0) r.words;
        owners = r.owners;
        fits = each_set (Fits story fixed next) s.views id w (fits_released now v f hold.reached level first paid)
            (λ j u at ne. fits_idle story fixed now 0 now.front now.items now.owed u (r.fits j u at)
            (λ t held. ne (one_holder story fixed s r j id u v t taken at me held takes)) (omega arith));
        once = λ n. once_set (λ (u : View E S). Keeps n u.kept) s.views id v w me (λ k. k) (r.once n);
        every = λ n l. has_set (λ (u : View E S). Keeps n u.kept) s.views id v w me (λ k. k) (r.every n l);
        free = λ _. record {
          value = value;
          home = ap (λ hs. set hs 0 (some (Some value))) out;
          list_is = is
              ∙ hold.seen;
          setting_is = knows;
          level = level;
          paid = sym hold.owes ∙ paid;
        };
        held = λ ne. absurd (ne refl);
        posted = record {
          few = p.few;
          front = p.front;
          width = p.width;
          values = p.values;
          owed = p.owed;
          may = p.may;
          fitting = p.fitting;
        };
      }

  -- the value has come home to the held slot
  pub releases : (slots id : ℕ) (m : Me (Option T) (View E S)) (value : T) (taken : List E) (st : Step (Option T))
      → m.1 ≡ (0, Some value) ∷ [] → m.0.taken ≡ Some taken → m.0.post.appended ≡ false → m.0.post.owes ≡ []
      → story.entries value ≡ m.0.seen → story.setting value ≡ fixed.setting
      → Allows (Rule story fixed) slots id m 0 (λ _. 0) (released story st m)
  releases slots id m value taken st home takes first paid is knows = subst (λ (l : List (ℕ
      × Option T)). Allows (Rule story fixed) slots id (m.0, l) 0 (λ _. 0) (released story st (m.0, l))) (sym home)
      (λ s r wide me _. (
        released_view m.0,
        gives,
        tt,
        release_rule s r id m.0 value taken me takes first paid is knows,
        refl,
      ))

  pub releases_after : (slots id : ℕ) (v : View E S) (m : Me (Option T) (View E S)) (value : T) (taken : List E)
      (st : Step (Option T)) → m ≡ (published_view v, (0, Some value) ∷ []) → v.taken ≡ Some taken → v.post.owes ≡ []
      → story.entries value ≡ v.seen → story.setting value ≡ fixed.setting
      → Allows (Rule story fixed) slots id m 0 (λ _. 0) (released story st m)
  releases_after slots id v m value taken st is takes paid whole knows = subst
      (λ (x : Me (Option T) (View E S)). Allows (Rule story fixed) slots id x 0 (λ _. 0) (released story st x))
      (sym is)
      (releases slots id (published_view v, (0, Some value) ∷ []) value taken st refl takes refl paid whole knows)

  pub seat_publishes : (slots id n : ℕ) (m : Me (Option T) (View E S)) (st : Step (Option T)) (o : Option ℕ)
      → MayPublish o m → o ≡ Some n → Allows (Rule story fixed) slots id m 2 (λ _. n) (published story st m)
  seat_publishes slots id n m st o may is = let h : (m.0.post.appended ≡ true)
      × (n ≡ length m.0.seen) = subst (λ (o : Option ℕ). MatchOption o (m.0.post.appended ≡ false)
      (λ n. (m.0.post.appended ≡ true) × (n ≡ length m.0.seen))) is may.front_is in
      publishes slots id n m st may.taken may.holds may.paid h.1

module _ {T E S : Type 0} where
  -- where there is no front to publish, nothing was appended
  pub unpublished : (m : Me (Option T) (View E S)) (o : Option ℕ) → MayPublish o m → o ≡ None
      → m ≡ (published_view m.0, m.1)
  unpublished m o may is = let h : m.0.post.appended ≡ false = subst
      (λ (o : Option ℕ). MatchOption o (m.0.post.appended ≡ false) (λ n. (m.0.post.appended ≡ true)
      × (n ≡ length m.0.seen))) is may.front_is in
      λ i. (record m.0 { post = record m.0.post { appended = h i } }, m.1)
