-- Views that are copied, that come, and that are joined.
use Rattle.std.proofs.Common.{◌≡◌, ℕ, ◌≤◌, max, List, [], ◌∷◌, ◌++◌, length, sym, refl, ap, ◌∙◌, subst, arith, append-nil, Option, Some, None, MatchOption}
use Rattle.std.specs.List.{All}
use Rattle.std.proofs.Math.Nat.{le-max_left, le-max_right, max-le}
use Rattle.std.proofs.lemmas.List.Elements.{All-nil, All-cons, All-append}
use Rattle.atomic_table.specs.Seated.{TableId}
use Rattle.atomic_table.specs.Table.{Me, Step, Splits, Joins, Enters}
use Rattle.atomic_table.proofs.Lists.{set_again}
use Rattle.mz_board.specs.declared.story.Story.{Ghosts}
use Rattle.mz_board.specs.declared.view.View.{View}
use Rattle.mz_board.specs.Seen.{Begins, longer}
use Rattle.mz_board.specs.Views.{own_of, copied_view, joined_view, spent_view}
use Rattle.mz_board.specs.Invariant.{Keeps, Fixed, Stand, Fits, IsChairView}
use Rattle.mz_board.specs.Places.{IsChair, HasNone, HasTaken, IsNote, chair_of, note_of}
use Rattle.mz_board.specs.Chair.{joined}
use Rattle.mz_board.specs.Steps.{entered}
use Rattle.mz_board.proofs.SeenLemmas.{begins_nil, begins_longer, longer_left, longer_right, longer_most}
use Rattle.mz_board.proofs.ViewLemmas.{each_push, once_push, has_push, each_join, once_join, has_join, there}
use Rattle.mz_board.proofs.FitLemmas.{St, Rule, Kept, idle_not, keeps_left, keeps_right, keeps_either}

module _ {T E S : Type 0} (story : Ghosts T E S) (fixed : Fixed S) where
  -- a view comes that keeps no number
  comes : (s : St story fixed) (r : Rule story fixed s) (w : View E S) → Fits story fixed r.now w → w.kept ≡ []
      → Rule story fixed record { words = s.words; homes = s.homes; views = s.views ++ w ∷ [] }
  comes s r w fit none = record {
    few = r.few;
    now = r.now;
    words = r.words;
    owners = r.owners;
    fits = each_push (Fits story fixed r.now) s.views w fit r.fits;
    once = λ n. once_push (λ (u : View E S). Keeps n u.kept) s.views w (λ k. subst (Keeps n) none k) (r.once n);
    every = λ n l. has_push (λ (u : View E S). Keeps n u.kept) s.views w (r.every n l);
    free = r.free;
    held = λ ne. let h = r.held ne in (
      h.0,
      has_push (λ (u : View E S). (t : List E) × (u.taken ≡ Some t)) s.views w h.1,
    );
    posted = r.posted;
  }

  fits_copied : (now : Stand E) (v : View E S) → Fits story fixed now v → v.taken ≡ None
      → Fits story fixed now (copied_view v)
  fits_copied now v f idle = let reached = (f.idle idle).reached in record {
    seen = f.seen;
    kept = All-nil (Kept story fixed now.list);
    told = All-nil (λ brought. Begins brought now.list);
    knows = f.knows;
    holds = λ t e. absurd (cc);
    idle = λ e. record { reached = reached; appended = refl; owes = refl };
    front = λ n e. absurd (cc);
    items = λ n e. absurd (cc);
  }

  fits_spent : (now : Stand E) → Fits story fixed now spent_view
  fits_spent now = record {
    seen = begins_nil now.list;
    kept = All-nil (Kept story fixed now.list);
    told = All-nil (λ brought. Begins brought now.list);
    knows = λ s e. absurd (cc);
    holds = λ t e. absurd (cc);
    idle = λ e. record { reached = omega arith; appended = refl; owes = refl };
    front = λ n e. absurd (cc);
    items = λ n e. absurd (cc);
  }

  pub copies : (id : ℕ) (v : View E S) → v.taken ≡ None → Splits (Rule story fixed) id v v (copied_view v)
  copies id v idle s r me = subst (λ vs. Rule story fixed record {
    words = s.words;
    homes = s.homes;
    views = vs ++ copied_view v ∷ [];
  }) (sym (set_again s.views id v me))
      (comes s r (copied_view v) (fits_copied r.now v (r.fits id v me) idle) refl)

  pub enters : (slots : ℕ) (m : Me (Option T) (View E S)) (st : Step (Option T))
      → Enters (Rule story fixed) slots 0 (λ n w. entered story st m n (w, []))
  enters slots m st s r wide _ = (spent_view, comes s r spent_view (fits_spent r.now) refl, refl)

  fits_joined : (now : Stand E) (v w : View E S) → Fits story fixed now v → Fits story fixed now w → v.taken ≡ None
      → w.taken ≡ None → Fits story fixed now (joined_view v w)
  fits_joined now v w f h mine theirs = let Told : List E → Type 0 = λ brought. Begins brought now.list in
      let i = f.idle mine in let j = h.idle theirs in record {
        seen = begins_longer v.seen w.seen now.list f.seen h.seen;
        kept = All-append (Kept story fixed now.list) v.kept w.kept f.kept h.kept;
        told = All-cons Told w.seen (v.seen ∷ (v.told ++ w.told)) h.seen
            (All-cons Told v.seen (v.told ++ w.told) f.seen (All-append Told v.told w.told f.told h.told));
        knows = f.knows;
        holds = λ t e. absurd (idle_not v.taken mine t e);
        idle = λ e. record { reached = max-le i.reached j.reached; appended = i.appended; owes = i.owes };
        front = f.front;
        items = f.items;
      }

  pub joins : (id : ℕ) (v : View E S) (other : ℕ) (w : View E S) → v.taken ≡ None → w.taken ≡ None
      → Joins (Rule story fixed) id v other w (joined_view v w) spent_view
  joins id v other w mine idle s r me apart them = let both : View E S = joined_view v w in
      let theirs = there (λ (u : View E S). Keeps 0 u.kept) s.views id v other w both spent_view me apart them in
      record {
        few = r.few;
        now = r.now;
        words = r.words;
        owners = r.owners;
        fits = each_join (λ (u : View E S). Keeps 0 u.kept) s.views id v other w both spent_view me apart them
            (Fits story fixed r.now) (fits_joined r.now v w (r.fits id v me) (r.fits other w theirs) mine idle)
            (fits_spent r.now) r.fits;
        once = λ n. once_join (λ (u : View E S). Keeps n u.kept) s.views id v other w both spent_view me apart them
            (λ k. k) (keeps_either n v.kept w.kept) (r.once n);
        every = λ n l. has_join (λ (u : View E S). Keeps n u.kept) s.views id v other w both spent_view me apart them
            (keeps_left n v.kept w.kept) (keeps_right n v.kept w.kept) (r.every n l);
        free = r.free;
        held = λ ne. let h = r.held ne in (
          h.0,
          has_join (λ (u : View E S). (t : List E)
              × (u.taken ≡ Some t)) s.views id v other w both spent_view me apart them (λ t. t)
              (λ t. absurd (idle_not w.taken idle t.0 t.1)) h.1,
        );
        posted = r.posted;
      }

-- the chair after a join
module _ {E S : Type 0} where
  pub joined_state : (table away : TableId) (v w : View E S) → w.kept ≡ [] → w.told ≡ []
      → chair_of table (joined_view v w) ≡ joined (chair_of table v) (note_of away w)
  joined_state table away v w kept told = let k : v.kept ++ w.kept ≡ v.kept = ap (λ l. v.kept ++ l) kept
      ∙ append-nil v.kept in let t : v.told ++ w.told ≡ v.told = ap (λ l. v.told ++ l) told ∙ append-nil v.told in
      λ i. record (joined (chair_of table v) (note_of away w)) { own = own_of (k i); told = w.seen ∷ v.seen ∷ t i }

  joined_chair : (v w : View E S) → w.kept ≡ [] → w.told ≡ [] → length w.seen ≤ w.post.reached → IsChairView v
      → IsChairView (joined_view v w)
  joined_chair v w kept told reached ok = let k : v.kept ++ w.kept ≡ v.kept = ap (λ l. v.kept ++ l) kept
      ∙ append-nil v.kept in let t : v.told ++ w.told ≡ v.told = ap (λ l. v.told ++ l) told ∙ append-nil v.told in
      let long : List E = longer v.seen w.seen in let P : List E
      → Type 0 = λ brought. length brought ≤ length long in let le = longer_left v.seen w.seen in
      record {
        kept = k ∙ (ok.kept ∙ ap (λ l. (v.number, own_of l) ∷ []) (sym k));
        own = omega (arith, ok.own, ap (λ l. length (own_of l)) k);
        told = All-cons P w.seen (v.seen ∷ (v.told ++ w.told)) (longer_right v.seen w.seen)
            (All-cons P v.seen (v.told ++ w.told) le (subst (All P) (sym t) (λ n d l. let x = ok.told n d l in
            omega arith)));
        reached = longer_most v.seen w.seen (max v.post.reached w.post.reached)
            (let a = le-max_left v.post.reached w.post.reached in let b = ok.reached in
            omega arith) (let a = le-max_right v.post.reached w.post.reached in omega arith);
        owes = ok.owes;
      }

module _ {T E S : Type 0} where
  joined_turn : (front : Option ℕ) (v w : View E S) (slots : List (ℕ × Option T)) (o : Option (List E)) → o ≡ None
      → MatchOption o (HasNone front (v, slots)) (λ taken. HasTaken front (v, slots) taken)
      → MatchOption o (HasNone front (joined_view v w, slots)) (λ taken. HasTaken front (
        joined_view v w,
        slots,
      ) taken)
  joined_turn front v w slots None idle h = record {
    front_is = h.front_is;
    slot = h.slot;
    appended = h.appended;
    owes = h.owes;
  }
  joined_turn front v w slots (Some taken) idle h = absurd (cc)

  pub joined_ok : (number : ℕ) (front : Option ℕ) (m m' : Me (Option T) (View E S)) (n : Me (Option T) (View E S))
      → IsChair number front m → m.0.taken ≡ None → IsNote n → m' ≡ (joined_view m.0 n.0, m.1)
      → IsChair number front m'
  joined_ok number front m m' n ok idle note is = subst (IsChair number front) (sym is)
      (record {
        number_is = ok.number_is;
        view = joined_chair m.0 n.0 note.kept note.told note.reached ok.view;
        turn = joined_turn front m.0 n.0 m.1 m.0.taken idle ok.turn;
      })
