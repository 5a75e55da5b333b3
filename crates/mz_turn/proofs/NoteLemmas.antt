-- Views that are copied, that come, and that are joined.
use Rattle.std.proofs.Common.{◌≡◌, ℕ, ◌<◌, ◌≤◌, List, [], ◌∷◌, ◌++◌, length, sym, refl, ap, ◌∙◌, subst, arith, append-nil, Option, Some, None, MatchOption}
use Rattle.std.specs.List.{All}
use Rattle.std.proofs.lemmas.List.Elements.{All-nil, All-cons, All-append}
use Rattle.atomic_table.specs.Seated.{TableId}
use Rattle.atomic_table.specs.Table.{Me, Step, Splits, Joins, Enters}
use Rattle.atomic_table.proofs.Lists.{set_again}
use Rattle.mz_turn.specs.declared.view.View.{View}
use Rattle.mz_turn.specs.Seen.{Begins, GrewByOthers, longer}
use Rattle.mz_turn.specs.Views.{own_of, copied_view, joined_view, spent_view}
use Rattle.mz_turn.specs.Invariant.{Keeps, Fits, IsChairView}
use Rattle.mz_turn.specs.Places.{IsChair, HasTaken, IsNote, chair_of, note_of}
use Rattle.mz_turn.specs.Chair.{joined}
use Rattle.mz_turn.specs.Steps.{entered}
use Rattle.mz_turn.proofs.SeenLemmas.{begins_nil, begins_longer, longer_whole, longer_whole_right, longer_left, longer_right}
use Rattle.mz_turn.proofs.ViewLemmas.{each_push, once_push, has_push, each_join, once_join, has_join, there}
use Rattle.mz_turn.proofs.FitLemmas.{St, Rule, keeps_left, keeps_right, keeps_either}

module _ {T E S : Type 0} (entries : T → List E) (owner : E → ℕ) (setting_of : T → S) (start : List E) (setting : S) (seats : ℕ) where
  abbrev R : St entries owner setting_of start setting seats → Type 0
  R = Rule entries owner setting_of start setting seats

  abbrev Fit : ℕ → List E → View E S → Type 0
  Fit = Fits owner start setting seats

  abbrev Kept : List E → ℕ × List E → Type 0
  Kept list k = (k.0 < seats) × GrewByOthers owner k.0 k.1 list

  -- a view comes that keeps no number
  comes : (s : St entries owner setting_of start setting seats) (r : R s) (w : View E S) → Fit r.word r.list w → w.kept ≡ [] → R record { words = s.words; homes = s.homes; views = s.views ++ w ∷ [] }
  comes s r w fit none = record {
    few = r.few;
    word = r.word;
    list = r.list;
    words = r.words;
    added = r.added;
    fits = each_push (Fit r.word r.list) s.views w fit r.fits;
    whole = has_push (λ (u : View E S). u.seen ≡ r.list) s.views w r.whole;
    once = λ n. once_push (λ (u : View E S). Keeps n u.kept) s.views w (λ k. subst (Keeps n) none k) (r.once n);
    every = λ n l. has_push (λ (u : View E S). Keeps n u.kept) s.views w (r.every n l);
    free = r.free;
    held = λ ne. let h = r.held ne in (h.0, has_push (λ (u : View E S). (t : List E) × (u.taken ≡ Some t)) s.views w h.1);
  }

  fits_copied : (word : ℕ) (list : List E) (v : View E S) → Fit word list v → Fit word list (copied_view v)
  fits_copied word list v f = record { seen = f.seen; kept = All-nil (Kept list); told = All-nil (λ brought. Begins brought list); knows = f.knows; holds = λ t e. absurd (cc) }

  fits_spent : (word : ℕ) (list : List E) → Fit word list spent_view
  fits_spent word list = record { seen = begins_nil list; kept = All-nil (Kept list); told = All-nil (λ brought. Begins brought list); knows = λ s e. absurd (cc); holds = λ t e. absurd (cc) }

  pub copies : (id : ℕ) (v : View E S) → Splits R id v v (copied_view v)
  copies id v s r me = subst (λ vs. R record { words = s.words; homes = s.homes; views = vs ++ copied_view v ∷ [] }) (sym (set_again s.views id v me))
      (comes s r (copied_view v) (fits_copied r.word r.list v (r.fits id v me)) refl)

  pub enters : (slots : ℕ) (m : Me (Option T) (View E S)) (st : Step (Option T)) → Enters R slots 0 (λ n w. entered entries owner setting_of st m n (w, []))
  enters slots m st s r wide _ = (spent_view, comes s r spent_view (fits_spent r.word r.list) refl, refl)

  fits_joined : (word : ℕ) (list : List E) (v w : View E S) → Fit word list v → Fit word list w → Fit word list (joined_view v w)
  fits_joined word list v w f h = let Told : List E → Type 0 = λ brought. Begins brought list in record {
    seen = begins_longer v.seen w.seen list f.seen h.seen;
    kept = All-append (Kept list) v.kept w.kept f.kept h.kept;
    told = All-cons Told w.seen (v.seen ∷ (v.told ++ w.told)) h.seen (All-cons Told v.seen (v.told ++ w.told) f.seen (All-append Told v.told w.told f.told h.told));
    knows = f.knows;
    holds = λ t e. let hold = f.holds t e in record { whole = hold.whole; seen = longer_whole v.seen w.seen list hold.seen h.seen; word_is = hold.word_is; keeps = keeps_left v.number v.kept w.kept hold.keeps };
  }

  pub joins : (id : ℕ) (v : View E S) (other : ℕ) (w : View E S) → w.taken ≡ None → Joins R id v other w (joined_view v w) spent_view
  joins id v other w idle s r me apart them = let both : View E S = joined_view v w in
      let theirs = there (λ (u : View E S). Keeps 0 u.kept) s.views id v other w both spent_view me apart them in record {
        few = r.few;
        word = r.word;
        list = r.list;
        words = r.words;
        added = r.added;
        fits = each_join (λ (u : View E S). Keeps 0 u.kept) s.views id v other w both spent_view me apart them (Fit r.word r.list) (fits_joined r.word r.list v w (r.fits id v me) (r.fits other w theirs)) (fits_spent r.word r.list) r.fits;
        whole = has_join (λ (u : View E S). u.seen ≡ r.list) s.views id v other w both spent_view me apart them
            (λ whole. longer_whole v.seen w.seen r.list whole (r.fits other w theirs).seen) (λ whole. longer_whole_right v.seen w.seen r.list whole (r.fits id v me).seen) r.whole;
        once = λ n. once_join (λ (u : View E S). Keeps n u.kept) s.views id v other w both spent_view me apart them (λ k. k) (keeps_either n v.kept w.kept) (r.once n);
        every = λ n l. has_join (λ (u : View E S). Keeps n u.kept) s.views id v other w both spent_view me apart them (keeps_left n v.kept w.kept) (keeps_right n v.kept w.kept) (r.every n l);
        free = r.free;
        held = λ ne. let h = r.held ne in (h.0, has_join (λ (u : View E S). (t : List E) × (u.taken ≡ Some t)) s.views id v other w both spent_view me apart them (λ t. t) (λ t. let e : Some t.0 ≡ None = sym t.1 ∙ idle in absurd (cc)) h.1);
      }

-- the chair after a join
module _ {E S : Type 0} where
  pub joined_state : (table away : TableId) (v w : View E S) → w.kept ≡ [] → w.told ≡ [] → chair_of table (joined_view v w) ≡ joined (chair_of table v) (note_of away w)
  joined_state table away v w kept told = let k : v.kept ++ w.kept ≡ v.kept = ap (λ l. v.kept ++ l) kept ∙ append-nil v.kept in let t : v.told ++ w.told ≡ v.told = ap (λ l. v.told ++ l) told ∙ append-nil v.told in
      λ i. record (chair_of table v) { seen = longer v.seen w.seen; own = own_of (k i); told = w.seen ∷ v.seen ∷ t i }

  joined_chair : (v w : View E S) → w.kept ≡ [] → w.told ≡ [] → IsChairView v → IsChairView (joined_view v w)
  joined_chair v w kept told ok = let k : v.kept ++ w.kept ≡ v.kept = ap (λ l. v.kept ++ l) kept ∙ append-nil v.kept in let t : v.told ++ w.told ≡ v.told = ap (λ l. v.told ++ l) told ∙ append-nil v.told in
      let long : List E = longer v.seen w.seen in let P : List E → Type 0 = λ brought. length brought ≤ length long in let le = longer_left v.seen w.seen in
      record {
        kept = k ∙ (ok.kept ∙ ap (λ l. (v.number, own_of l) ∷ []) (sym k));
        own = omega (arith, ok.own, ap (λ l. length (own_of l)) k);
        told = All-cons P w.seen (v.seen ∷ (v.told ++ w.told)) (longer_right v.seen w.seen) (All-cons P v.seen (v.told ++ w.told) le (subst (All P) (sym t) (λ n d l. let x = ok.told n d l in omega arith)));
      }

module _ {T E S : Type 0} where
  joined_turn : (size : ℕ) (v w : View E S) (slots : List (ℕ × Option T)) (o : Option (List E)) → w.kept ≡ []
      → MatchOption o (slots ≡ []) (λ taken. HasTaken size (v, slots) taken) → MatchOption o (slots ≡ []) (λ taken. HasTaken size (joined_view v w, slots) taken)
  joined_turn size v w slots None kept h = h
  joined_turn size v w slots (Some taken) kept h = record { size_is = h.size_is; slot = h.slot; own = ap own_of (ap (λ l. v.kept ++ l) kept ∙ append-nil v.kept) ∙ h.own }

  pub joined_ok : (number size : ℕ) (m m' : Me (Option T) (View E S)) (n : Me (Option T) (View E S)) → IsChair number size m → IsNote n → m' ≡ (joined_view m.0 n.0, m.1) → IsChair number size m'
  joined_ok number size m m' n ok note is = subst (IsChair number size) (sym is)
      (record { number_is = ok.number_is; view = joined_chair m.0 n.0 note.kept note.told ok.view; turn = joined_turn size m.0 n.0 m.1 m.0.taken note.kept ok.turn })
