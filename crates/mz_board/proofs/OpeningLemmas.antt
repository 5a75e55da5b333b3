-- The opening, and the numbers that go over to chairs.
use Rattle.std.proofs.Common.{◌≡◌, ◌⊎◌, ℕ, zero, suc, ◌+◌, ◌-◌, ◌<◌, ◌≤◌, List, [], ◌∷◌, length, get_or, set, drop, true, sym, refl, ap, ◌∙◌, subst, inl, inr, ⊎_elim, arith, Option, Some, None}
use Rattle.std.specs.List.{All}
use Rattle.std.proofs.lemmas.List.Elements.{All-nil, All-head, All-tail, All-cons}
use mathlib.Core.Logic.{dite}
use mathlib.Core.Option.{some, some-injective, some-ne-none}
use native.Mathlib.Decide.{ℕ_discrete}
use lib.ListN.{get_elem?}
use Rattle.atomic_table.specs.Seated.{TableId}
use Rattle.atomic_table.specs.Table.{Me, Splits, opening}
use Rattle.mz_board.specs.declared.story.Story.{Ghosts}
use Rattle.mz_board.specs.declared.view.View.{View}
use Rattle.mz_board.specs.Seen.{Begins}
use Rattle.mz_board.specs.Views.{kept_from, others_of, number_of, own_of, first_view, dealing_view, dealt_view}
use Rattle.mz_board.specs.Invariant.{Keeps, Fixed, Stand, Fits, BoardHolds}
use Rattle.mz_board.specs.Places.{IsChair, chair_of}
use Rattle.mz_board.specs.Chair.{BoardId, Fitting, fresh_chair}
use Rattle.mz_board.specs.Gathering.{dealt_to}
use Rattle.mz_board.proofs.SeenLemmas.{begins_self, grew_self}
use Rattle.mz_board.proofs.ViewLemmas.{each_set, each_push, once_deal, has_deal}
use Rattle.mz_board.proofs.FitLemmas.{Rule, Kept, idle_not}

module _ {E : Type 0} where
  -- the numbers from k on are kept, and no smaller one
  keeps_from : (n k m : ℕ) (list : List E) → k ≤ n → n < k + m → Keeps n (kept_from k m list)
  keeps_from n k zero list le lt = absurd (omega arith)
  keeps_from n k (suc m) list le lt = dite (ℕ_discrete k n) (λ e. inl e)
      (λ ne. inr (keeps_from n (suc k) m list (omega (arith, ne)) (omega arith)))

  keeps_above : (n k m : ℕ) (list : List E) → Keeps n (kept_from k m list) → k ≤ n
  keeps_above n k zero list h = absurd h
  keeps_above n k (suc m) list h = ⊎_elim (λ (e : k ≡ n). omega arith) (λ (t : Keeps n (kept_from (suc k) m list)).
      let r = keeps_above n (suc k) m list t in omega arith) h

  others_keep : (n : ℕ) (ks : List (ℕ × List E)) → Keeps n (others_of ks) → Keeps n ks
  others_keep n [] h = absurd h
  others_keep n (k ∷ ks) h = inr h

  first_keeps : (n : ℕ) (ks : List (ℕ × List E)) → 0 < length ks → Keeps n ((number_of ks, own_of ks) ∷ [])
      → Keeps n ks
  first_keeps n [] any h = absurd (omega arith)
  first_keeps n (k ∷ ks) any h = ⊎_elim (λ (e : k.0 ≡ n). inl e) (λ (none : ⊥). absurd none) h

  cut_keeps : (n : ℕ) (ks : List (ℕ × List E)) → Keeps n ks
      → Keeps n (others_of ks) ⊎ Keeps n ((number_of ks, own_of ks) ∷ [])
  cut_keeps n [] h = absurd h
  cut_keeps n (k ∷ ks) h = ⊎_elim (λ (e : k.0 ≡ n). inr (inl e)) (λ (t : Keeps n ks). inl t) h

  all_others : (P : ℕ × List E → Type 0) (ks : List (ℕ × List E)) → All P ks → All P (others_of ks)
  all_others P [] all = All-nil P
  all_others P (k ∷ ks) all = All-tail P k ks all

  all_first : (P : ℕ × List E → Type 0) (ks : List (ℕ × List E)) → 0 < length ks → All P ks
      → All P ((number_of ks, own_of ks) ∷ [])
  all_first P [] any all = absurd (omega arith)
  all_first P (k ∷ ks) any all = All-cons P k [] (All-head P k ks all) (All-nil P)

-- one number is dealt
module _ {S : Type 0} (lock : BoardId S) where
  left_over : (n : ℕ) → n < lock.seats → (m : ℕ) × (lock.seats - n ≡ suc m) × (lock.seats - (n + 1) ≡ m)
  left_over n lt = (lock.seats - (n + 1), omega arith, refl)

module _ {S : Type 0} (E : Type 0) (lock : BoardId S) where
  abbrev none_yet : List E
  none_yet = []

  pub deal_left : (n : ℕ) → n < lock.seats → dealing_view {E = E} (dealt_to lock n) ≡ dealt_to lock (n + 1)
  deal_left n lt = let m = left_over lock n lt in
      let k : others_of (kept_from n (lock.seats - n) none_yet) ≡ kept_from (n + 1) (lock.seats - (n + 1)) none_yet =
      ap (λ x. others_of (kept_from n x none_yet)) m.1
      ∙ (ap (λ x. kept_from x m.0 none_yet) (let e : suc n ≡ n + 1 = omega arith in e)
      ∙ ap (λ x. kept_from (n + 1) x none_yet) (sym m.2)) in
      λ i. record (dealt_to lock n) { kept = k i }

  pub deal_right : (n : ℕ) → n < lock.seats
      → dealt_view {E = E} (dealt_to lock n) ≡ record (dealt_to lock n) { number = n; kept = (n, none_yet) ∷ [] }
  deal_right n lt = let m = left_over lock n lt in
      let a : number_of (kept_from n (lock.seats - n) none_yet) ≡ n = ap (λ x. number_of (kept_from n x none_yet))
      m.1 in let b : own_of (kept_from n (lock.seats - n) none_yet) ≡ none_yet = ap
      (λ x. own_of (kept_from n x none_yet)) m.1 in
      λ i. record (dealt_to lock n) { number = a i; kept = (a i, b i) ∷ [] }

  pub deal_some : (n : ℕ) → n < lock.seats → 0 < length (kept_from n (lock.seats - n) none_yet)
  deal_some n lt = let m = left_over lock n lt in omega (arith, ap (λ x. length (kept_from n x none_yet)) m.1)

  pub deal_apart : (n : ℕ) → n < lock.seats
      → Keeps (number_of (kept_from n (lock.seats - n) none_yet)) (others_of (kept_from n (lock.seats - n) none_yet))
      → ⊥
  deal_apart n lt h = let m = left_over lock n lt in
      let t : Keeps n (kept_from (suc n) m.0 none_yet) = subst
      (λ x. Keeps (number_of (kept_from n x none_yet)) (others_of (kept_from n x none_yet))) m.1 h in
      let r = keeps_above n (suc n) m.0 none_yet t in omega arith

module _ {V : Type 0} where
  only : (F : V → Type 0) (a : V) → F a → (i : ℕ) (v : V) → get_elem? (a ∷ []) i ≡ some v → F v
  only F a f zero v e = subst F (some-injective a v e) f
  only F a f (suc i) v e = absurd (some-ne-none v (sym e))

  one_place : (a : V) (i : ℕ) (v : V) → get_elem? (a ∷ []) i ≡ some v → i ≡ 0
  one_place a zero v e = refl
  one_place a (suc i) v e = absurd (some-ne-none v (sym e))

module _ {T E S : Type 0} (story : Ghosts T E S) where
  module _ (fixed : Fixed S) where
    -- a number goes over to a new view
    pub deals : (id : ℕ) (v : View E S) → 0 < length v.kept → (Keeps (number_of v.kept) (others_of v.kept) → ⊥)
        → v.taken ≡ None → Splits (Rule story fixed) id v (dealing_view v) (dealt_view v)
    deals id v any apart idle s r me = let now = r.now in let f = r.fits id v me in
        let left : View E S = dealing_view v in let right : View E S = dealt_view v in let i = f.idle idle in
        let fl : Fits story fixed now left = record {
          seen = f.seen;
          kept = all_others (Kept story fixed now.list) v.kept f.kept;
          told = f.told;
          knows = f.knows;
          holds = λ t e. absurd (idle_not v.taken idle t e);
          idle = λ e. record { reached = i.reached; appended = i.appended; owes = i.owes };
          front = f.front;
          items = f.items;
        } in
        let fr : Fits story fixed now right = record {
          seen = f.seen;
          kept = all_first (Kept story fixed now.list) v.kept any f.kept;
          told = f.told;
          knows = f.knows;
          holds = λ t e. absurd (idle_not v.taken idle t e);
          idle = λ e. record { reached = i.reached; appended = i.appended; owes = i.owes };
          front = f.front;
          items = f.items;
        } in
        record {
          few = r.few;
          now = now;
          words = r.words;
          owners = r.owners;
          fits = each_push (Fits story fixed now) (set s.views id left) right fr
              (each_set (Fits story fixed now) s.views id left fl (λ j u e ne. r.fits j u e));
          once = λ n. once_deal (λ (u : View E S). Keeps n u.kept) s.views id v left right me (others_keep n v.kept)
              (first_keeps n v.kept any)
              (λ a b. ⊎_elim (λ (e : number_of v.kept ≡ n). apart
              (subst (λ m. Keeps m (others_of v.kept)) (sym e) a)) (λ (none : ⊥). none) b) (r.once n);
          every = λ n l. has_deal (λ (u : View E S). Keeps n u.kept) s.views id v left right me (cut_keeps n v.kept)
              (r.every n l);
          free = r.free;
          held = λ ne. let h = r.held ne in (
            h.0,
            has_deal (λ (u : View E S). (t : List E)
                × (u.taken ≡ Some t)) s.views id v left right me (λ t. inl t) h.1,
          );
          posted = r.posted;
        }

    pub seat_deals : (id : ℕ) (v : View E S) (lock : BoardId S) (n : ℕ) → v ≡ dealt_to lock n → n < lock.seats
        → Splits (Rule story fixed) id v (dealing_view v) (dealt_view v)
    seat_deals id v lock n is lt = subst (λ x. Splits (Rule story fixed) id x (dealing_view x) (dealt_view x))
        (sym is) (deals id (dealt_to lock n) (deal_some E lock n lt) (deal_apart E lock n lt) refl)

    first_kept : (k m : ℕ) → k + m ≤ fixed.seats → All (Kept story fixed []) (kept_from k m [])
    first_kept k zero le = All-nil (Kept story fixed [])
    first_kept k (suc m) le = All-cons (Kept story fixed []) (k, []) (kept_from (suc k) m []) (
      omega arith,
      grew_self story.owner k [],
    ) (first_kept (suc k) m (omega arith))

    pub opens : (value : T) → fixed.seats ≤ 60 → story.entries value ≡ [] → story.setting value ≡ fixed.setting
        → ((item : ℕ) → item < length fixed.opening
        → story.may_have fixed.setting item (get_or fixed.opening item 0) ≡ true)
        → BoardHolds story fixed (opening (0 ∷ 0 ∷ 0 ∷ fixed.opening) (Some value ∷ [])
        (first_view fixed.setting fixed.opening fixed.seats))
    opens value few empty known may = let first : View E S = first_view fixed.setting fixed.opening fixed.seats in
        let now : Stand E = record { word = 0; list = []; front = 0; items = fixed.opening; owed = [] } in
        let fit : Fits story fixed now first = record {
          seen = begins_self [];
          kept = first_kept 0 fixed.seats (omega arith);
          told = All-nil (λ brought. Begins brought []);
          knows = λ s e. (let h : fixed.setting ≡ s = cc in sym h, refl);
          holds = λ t e. absurd (cc);
          idle = λ e. record { reached = omega arith; appended = refl; owes = refl };
          front = λ n e. absurd (cc);
          items = λ n e. absurd (cc);
        } in
        record {
          few = few;
          now = now;
          words = refl;
          owners = All-nil (λ entry. story.owner entry < fixed.seats);
          fits = λ i v e. only (Fits story fixed now) first fit i v e;
          once = λ n i j v w ev ew kv kw. one_place first i v ev ∙ sym (one_place first j w ew);
          every = λ n l. (0, (first, refl, keeps_from n 0 fixed.seats [] (omega arith) (omega arith)));
          free = λ _. record {
            value = value;
            home = refl;
            list_is = empty;
            setting_is = known;
            level = refl;
            paid = refl;
          };
          held = λ ne. absurd (ne refl);
          posted = record {
            few = omega arith;
            front = omega arith;
            width = refl;
            values = λ item low none. refl;
            owed = λ item x found. absurd (cc);
            may = may;
            fitting = All-nil (Fitting story fixed.setting fixed.opening);
          };
        }

  pub opens_at : (seen value : T) (noted all words : List ℕ) (seats : ℕ) (slots : List (Option T)) → seen ≡ value
      → noted ≡ all → all ≡ 0 ∷ 0 ∷ 0 ∷ words → slots ≡ Some value ∷ [] → seats ≤ 60 → story.entries value ≡ []
      → ((item : ℕ) → item < length words → story.may_have (story.setting value) item (get_or words item 0) ≡ true)
      → BoardHolds story (record {
        setting = story.setting seen;
        seats = seats;
        opening = drop 3 noted;
      }) (opening all slots (first_view (story.setting seen) (drop 3 noted) seats))
  opens_at seen value noted all words seats slots is same laid at few empty may =
      subst (λ (x : T × (List ℕ × (List ℕ
      × List (Option T)))). BoardHolds story (record {
        setting = story.setting x.0;
        seats = seats;
        opening = drop 3 x.1.0;
      }) (opening x.1.1.0 x.1.1.1 (first_view (story.setting x.0) (drop 3 x.1.0) seats)))
      (λ i. (
        sym is i,
        (
          sym (same ∙ laid) i,
          (
            sym laid i,
            sym at i,
          ),
        ),
      )) (opens (record {
        setting = story.setting value;
        seats = seats;
        opening = words;
      }) value few empty refl may)

-- the new chair
module _ {T E S : Type 0} (lock : BoardId S) (n : ℕ) (lt : n < lock.seats) (me : Me (Option T) (View E S))
    (is : me ≡ (dealt_view (dealt_to lock n), [])) where
  abbrev new_view : View E S
  new_view = record (dealt_to lock n) { number = n; kept = (n, []) ∷ [] }

  pub here : me ≡ (new_view, [])
  here = is ∙ ap (λ v. (v, [])) (deal_right E lock n lt)

  pub dealt_ok : IsChair n None me
  dealt_ok = subst (IsChair n None) (sym here) (record {
    number_is = refl;
    view = record {
      kept = refl;
      own = omega arith;
      told = All-nil (λ (brought : List E). length brought ≤ 0);
      reached = omega arith;
      owes = All-nil (λ (w : ℕ × ℕ). w.0 < length lock.opening);
    };
    turn = record { front_is = refl; slot = refl; appended = refl; owes = refl };
  })

  pub dealt_fresh : (table : TableId) → table ≡ lock.table → chair_of table me.0 ≡ fresh_chair lock n
  dealt_fresh table at = ap (λ (m : Me (Option T) (View E S)). chair_of table m.0) here
      ∙ ap (λ t. chair_of t new_view) at
