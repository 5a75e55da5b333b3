-- The opening, and the numbers that go over to chairs.
use Rattle.std.proofs.Common.{◌≡◌, ◌⊎◌, ℕ, zero, suc, ◌+◌, ◌-◌, ◌<◌, ◌≤◌, List, [], ◌∷◌, length, set, sym, refl, ap, ◌∙◌, subst, inl, inr, ⊎_elim, arith, Option, Some, None}
use Rattle.std.specs.List.{All}
use Rattle.std.proofs.lemmas.List.Elements.{All-nil, All-head, All-tail, All-cons}
use mathlib.Core.Logic.{dite}
use mathlib.Core.Option.{some, some-injective, some-ne-none}
use native.Mathlib.Decide.{ℕ_discrete}
use lib.ListN.{get_elem?}
use Rattle.atomic_table.specs.Seated.{TableId}
use Rattle.atomic_table.specs.Table.{Me, Splits, opening}
use Rattle.mz_turn.specs.declared.view.View.{View}
use Rattle.mz_turn.specs.Seen.{Begins, GrewByOthers}
use Rattle.mz_turn.specs.Views.{kept_from, others_of, number_of, own_of, first_view, dealing_view, dealt_view}
use Rattle.mz_turn.specs.Invariant.{Keeps, Fits, LockHolds}
use Rattle.mz_turn.specs.Places.{IsChair, chair_of}
use Rattle.mz_turn.specs.Chair.{LockId, fresh_chair}
use Rattle.mz_turn.specs.Gathering.{dealt_to}
use Rattle.mz_turn.proofs.SeenLemmas.{begins_self, grew_self, added_none}
use Rattle.mz_turn.proofs.ViewLemmas.{each_set, each_push, once_deal, has_deal}
use Rattle.mz_turn.proofs.FitLemmas.{St, Rule}

module _ {E : Type 0} where
  -- the numbers from k on are kept, and no smaller one
  keeps_from : (n k m : ℕ) (list : List E) → k ≤ n → n < k + m → Keeps n (kept_from k m list)
  keeps_from n k zero list le lt = absurd (omega arith)
  keeps_from n k (suc m) list le lt = dite (ℕ_discrete k n) (λ e. inl e) (λ ne. inr (keeps_from n (suc k) m list (omega (arith, ne)) (omega arith)))

  keeps_above : (n k m : ℕ) (list : List E) → Keeps n (kept_from k m list) → k ≤ n
  keeps_above n k zero list h = absurd h
  keeps_above n k (suc m) list h = ⊎_elim (λ (e : k ≡ n). omega arith) (λ (t : Keeps n (kept_from (suc k) m list)). let r = keeps_above n (suc k) m list t in omega arith) h

  others_keep : (n : ℕ) (ks : List (ℕ × List E)) → Keeps n (others_of ks) → Keeps n ks
  others_keep n [] h = absurd h
  others_keep n (k ∷ ks) h = inr h

  first_keeps : (n : ℕ) (ks : List (ℕ × List E)) → 0 < length ks → Keeps n ((number_of ks, own_of ks) ∷ []) → Keeps n ks
  first_keeps n [] any h = absurd (omega arith)
  first_keeps n (k ∷ ks) any h = ⊎_elim (λ (e : k.0 ≡ n). inl e) (λ (none : ⊥). absurd none) h

  cut_keeps : (n : ℕ) (ks : List (ℕ × List E)) → Keeps n ks → Keeps n (others_of ks) ⊎ Keeps n ((number_of ks, own_of ks) ∷ [])
  cut_keeps n [] h = absurd h
  cut_keeps n (k ∷ ks) h = ⊎_elim (λ (e : k.0 ≡ n). inr (inl e)) (λ (t : Keeps n ks). inl t) h

  all_others : (P : ℕ × List E → Type 0) (ks : List (ℕ × List E)) → All P ks → All P (others_of ks)
  all_others P [] all = All-nil P
  all_others P (k ∷ ks) all = All-tail P k ks all

  all_first : (P : ℕ × List E → Type 0) (ks : List (ℕ × List E)) → 0 < length ks → All P ks → All P ((number_of ks, own_of ks) ∷ [])
  all_first P [] any all = absurd (omega arith)
  all_first P (k ∷ ks) any all = All-cons P k [] (All-head P k ks all) (All-nil P)

-- one number is dealt
module _ {E S : Type 0} (lock : LockId E S) where
  left_over : (n : ℕ) → n < lock.seats → (m : ℕ) × (lock.seats - n ≡ suc m) × (lock.seats - (n + 1) ≡ m)
  left_over n lt = (lock.seats - (n + 1), omega arith, refl)

  pub deal_left : (n : ℕ) → n < lock.seats → dealing_view (dealt_to lock n) ≡ dealt_to lock (n + 1)
  deal_left n lt = let m = left_over n lt in let k : others_of (kept_from n (lock.seats - n) lock.opening) ≡ kept_from (n + 1) (lock.seats - (n + 1)) lock.opening = ap (λ x. others_of (kept_from n x lock.opening)) m.1 ∙ (ap (λ x. kept_from x m.0 lock.opening) (let e : suc n ≡ n + 1 = omega arith in e) ∙ ap (λ x. kept_from (n + 1) x lock.opening) (sym m.2)) in
      λ i. record (dealt_to lock n) { kept = k i }

  pub deal_right : (n : ℕ) → n < lock.seats → dealt_view (dealt_to lock n) ≡ record (dealt_to lock n) { number = n; kept = (n, lock.opening) ∷ [] }
  deal_right n lt = let m = left_over n lt in let a : number_of (kept_from n (lock.seats - n) lock.opening) ≡ n = ap (λ x. number_of (kept_from n x lock.opening)) m.1 in let b : own_of (kept_from n (lock.seats - n) lock.opening) ≡ lock.opening = ap (λ x. own_of (kept_from n x lock.opening)) m.1 in
      λ i. record (dealt_to lock n) { number = a i; kept = (a i, b i) ∷ [] }

  pub deal_some : (n : ℕ) → n < lock.seats → 0 < length (kept_from n (lock.seats - n) lock.opening)
  deal_some n lt = let m = left_over n lt in omega (arith, ap (λ x. length (kept_from n x lock.opening)) m.1)

  pub deal_apart : (n : ℕ) → n < lock.seats → Keeps (number_of (kept_from n (lock.seats - n) lock.opening)) (others_of (kept_from n (lock.seats - n) lock.opening)) → ⊥
  deal_apart n lt h = let m = left_over n lt in let t : Keeps n (kept_from (suc n) m.0 lock.opening) = subst (λ x. Keeps (number_of (kept_from n x lock.opening)) (others_of (kept_from n x lock.opening))) m.1 h in let r = keeps_above n (suc n) m.0 lock.opening t in omega arith

module _ {V : Type 0} where
  only : (F : V → Type 0) (a : V) → F a → (i : ℕ) (v : V) → get_elem? (a ∷ []) i ≡ some v → F v
  only F a f zero v e = subst F (some-injective a v e) f
  only F a f (suc i) v e = absurd (some-ne-none v (sym e))

  one_place : (a : V) (i : ℕ) (v : V) → get_elem? (a ∷ []) i ≡ some v → i ≡ 0
  one_place a zero v e = refl
  one_place a (suc i) v e = absurd (some-ne-none v (sym e))

module _ {T E S : Type 0} (entries : T → List E) (owner : E → ℕ) (setting_of : T → S) where
  module _ (start : List E) (setting : S) (seats : ℕ) where
    abbrev R : St entries owner setting_of start setting seats → Type 0
    R = Rule entries owner setting_of start setting seats

    abbrev Fit : ℕ → List E → View E S → Type 0
    Fit = Fits owner start setting seats

    abbrev Kept : List E → ℕ × List E → Type 0
    Kept list k = (k.0 < seats) × GrewByOthers owner k.0 k.1 list

    -- a number goes over to a new view
    pub deals : (id : ℕ) (v : View E S) → 0 < length v.kept → (Keeps (number_of v.kept) (others_of v.kept) → ⊥) → v.taken ≡ None → Splits R id v (dealing_view v) (dealt_view v)
    deals id v any apart idle s r me = let f = r.fits id v me in let left : View E S = dealing_view v in let right : View E S = dealt_view v in
        let idle' : (t : List E) → v.taken ≡ Some t → ⊥ = λ t e. let z : Some t ≡ None = sym e ∙ idle in cc in
        let fl : Fit r.word r.list left = record { seen = f.seen; kept = all_others (Kept r.list) v.kept f.kept; told = f.told; knows = f.knows; holds = λ t e. absurd (idle' t e) } in
        let fr : Fit r.word r.list right = record { seen = f.seen; kept = all_first (Kept r.list) v.kept any f.kept; told = f.told; knows = f.knows; holds = λ t e. absurd (idle' t e) } in
        record {
          few = r.few;
          word = r.word;
          list = r.list;
          words = r.words;
          added = r.added;
          fits = each_push (Fit r.word r.list) (set s.views id left) right fr (each_set (Fit r.word r.list) s.views id left fl (λ j u e ne. r.fits j u e));
          whole = has_deal (λ (u : View E S). u.seen ≡ r.list) s.views id v left right me (λ whole. inl whole) r.whole;
          once = λ n. once_deal (λ (u : View E S). Keeps n u.kept) s.views id v left right me (others_keep n v.kept) (first_keeps n v.kept any)
              (λ a b. ⊎_elim (λ (e : number_of v.kept ≡ n). apart (subst (λ m. Keeps m (others_of v.kept)) (sym e) a)) (λ (none : ⊥). none) b) (r.once n);
          every = λ n l. has_deal (λ (u : View E S). Keeps n u.kept) s.views id v left right me (cut_keeps n v.kept) (r.every n l);
          free = r.free;
          held = λ ne. let h = r.held ne in (h.0, has_deal (λ (u : View E S). (t : List E) × (u.taken ≡ Some t)) s.views id v left right me (λ t. inl t) h.1);
        }

    pub seat_deals : (id : ℕ) (v : View E S) (lock : LockId E S) (n : ℕ) → v ≡ dealt_to lock n → n < lock.seats → Splits R id v (dealing_view v) (dealt_view v)
    seat_deals id v lock n is lt = subst (λ x. Splits R id x (dealing_view x) (dealt_view x)) (sym is) (deals id (dealt_to lock n) (deal_some lock n lt) (deal_apart lock n lt) refl)

    first_kept : (k m : ℕ) (list : List E) → k + m ≤ seats → All (Kept list) (kept_from k m list)
    first_kept k zero list le = All-nil (Kept list)
    first_kept k (suc m) list le = All-cons (Kept list) (k, list) (kept_from (suc k) m list) (omega arith, grew_self owner k list) (first_kept (suc k) m list (omega arith))

  pub opens : (value : T) (seats : ℕ) → seats ≤ 60
      → LockHolds entries owner setting_of (entries value) (setting_of value) seats (opening (0 ∷ length (entries value) ∷ []) (Some value ∷ []) (first_view (entries value) (setting_of value) seats))
  opens value seats few = let list : List E = entries value in let first : View E S = first_view list (setting_of value) seats in let V : Type 0 = View E S in
      let fit : Fits owner list (setting_of value) seats 0 list first = record {
        seen = begins_self list;
        kept = first_kept list (setting_of value) seats 0 seats list (omega arith);
        told = All-nil (λ brought. Begins brought list);
        knows = λ s e. let h : setting_of value ≡ s = cc in (sym h, refl);
        holds = λ t e. absurd (cc);
      } in
      record {
        few = few;
        word = 0;
        list = list;
        words = refl;
        added = added_none owner seats list;
        fits = λ i v e. only (Fits owner list (setting_of value) seats 0 list) first fit i v e;
        whole = (0, (first, refl, refl));
        once = λ n i j v w ev ew kv kw. one_place first i v ev ∙ sym (one_place first j w ew);
        every = λ n l. (0, (first, refl, keeps_from n 0 seats list (omega arith) (omega arith)));
        free = λ _. record { value = value; home = refl; list_is = refl; setting_is = refl };
        held = λ ne. absurd (ne refl);
      }

  pub opens_at : (seen value : T) (n seats : ℕ) (slots : List (Option T)) → seen ≡ value → n ≡ length (entries value) → slots ≡ Some value ∷ [] → seats ≤ 60
      → LockHolds entries owner setting_of (entries seen) (setting_of seen) seats (opening (0 ∷ n ∷ []) slots (first_view (entries seen) (setting_of seen) seats))
  opens_at seen value n seats slots is count at few = subst (λ (x : T × (ℕ × List (Option T))). LockHolds entries owner setting_of (entries x.0) (setting_of x.0) seats (opening (0 ∷ x.1.0 ∷ []) x.1.1 (first_view (entries x.0) (setting_of x.0) seats)))
      (λ i. (sym is i, (sym count i, sym at i))) (opens value seats few)

-- the new chair
module _ {T E S : Type 0} (lock : LockId E S) (n : ℕ) (lt : n < lock.seats) (me : Me (Option T) (View E S)) (is : me ≡ (dealt_view (dealt_to lock n), [])) where
  abbrev new_view : View E S
  new_view = record (dealt_to lock n) { number = n; kept = (n, lock.opening) ∷ [] }

  pub here : me ≡ (new_view, [])
  here = is ∙ ap (λ v. (v, [])) (deal_right lock n lt)

  pub dealt_ok : IsChair n 0 me
  dealt_ok = subst (IsChair n 0) (sym here) (record { number_is = refl; view = record { kept = refl; own = omega arith; told = All-nil (λ brought. length brought ≤ length lock.opening) }; turn = refl })

  pub dealt_fresh : (table : TableId) → table ≡ lock.table → chair_of table me.0 ≡ fresh_chair lock n
  dealt_fresh table at = ap (λ (m : Me (Option T) (View E S)). chair_of table m.0) here ∙ ap (λ t. chair_of t new_view) at
