-- Views that agree with the one list, and what a step that changes a view alone keeps.
use Rattle.std.proofs.Common.{◌≡◌, ◌⊎◌, ℕ, ◌<◌, List, [], ◌∷◌, ◌++◌, length, set, sym, refl, subst, inl, inr, ⊎_elim, arith, Option, Some}
use Rattle.std.specs.List.{All}
use Rattle.std.proofs.lemmas.List.Elements.{All-nil, All-head, All-tail, All-cons, All-weaker}
use mathlib.Core.Option.{some}
use lib.ListN.{get_elem?}
use Rattle.atomic_table.specs.Table.{State}
use Rattle.mz_turn.specs.declared.view.View.{View}
use Rattle.mz_turn.specs.Seen.{GrewByOthers}
use Rattle.mz_turn.specs.Views.{own_of}
use Rattle.mz_turn.specs.Invariant.{Keeps, Fits, LockHolds}
use Rattle.mz_turn.proofs.ViewLemmas.{each_set, once_set, has_set}

module _ {E : Type 0} where
  -- a fact of each kept number holds of one that is kept
  pub keeps_all : (P : ℕ → Type 0) (n : ℕ) (ks : List (ℕ × List E)) → All (λ (k : ℕ × List E). P k.0) ks → Keeps n ks → P n
  keeps_all P n [] all h = absurd h
  keeps_all P n (k ∷ ks) all h = ⊎_elim (λ (e : k.0 ≡ n). subst P e (All-head (λ (k : ℕ × List E). P k.0) k ks all)) (λ (t : Keeps n ks). keeps_all P n ks (All-tail (λ (k : ℕ × List E). P k.0) k ks all) t) h

  -- and holds of each where it holds of those that are kept
  pub all_keeps : (P : ℕ → Type 0) (ks : List (ℕ × List E)) → ((n : ℕ) → Keeps n ks → P n) → All (λ (k : ℕ × List E). P k.0) ks
  all_keeps P [] f = All-nil (λ (k : ℕ × List E). P k.0)
  all_keeps P (k ∷ ks) f = All-cons (λ (k : ℕ × List E). P k.0) k ks (f k.0 (inl refl)) (all_keeps P ks (λ n h. f n (inr h)))

  pub keeps_left : (n : ℕ) (ks ls : List (ℕ × List E)) → Keeps n ks → Keeps n (ks ++ ls)
  keeps_left n [] ls h = absurd h
  keeps_left n (k ∷ ks) ls h = ⊎_elim (λ (e : k.0 ≡ n). inl e) (λ (t : Keeps n ks). inr (keeps_left n ks ls t)) h

  pub keeps_right : (n : ℕ) (ks ls : List (ℕ × List E)) → Keeps n ls → Keeps n (ks ++ ls)
  keeps_right n [] ls h = h
  keeps_right n (k ∷ ks) ls h = inr (keeps_right n ks ls h)

  pub keeps_either : (n : ℕ) (ks ls : List (ℕ × List E)) → Keeps n (ks ++ ls) → Keeps n ks ⊎ Keeps n ls
  keeps_either n [] ls h = inr h
  keeps_either n (k ∷ ks) ls h = ⊎_elim (λ (e : k.0 ≡ n). inl (inl e)) (λ (t : Keeps n (ks ++ ls)). ⊎_elim (λ (a : Keeps n ks). inl (inr a)) (λ (b : Keeps n ls). inr b) (keeps_either n ks ls t)) h

module _ {T E S : Type 0} (entries : T → List E) (owner : E → ℕ) (setting_of : T → S) (start : List E) (setting : S) (seats : ℕ) where
  abbrev pub St : Type 0
  St = State (Option T) (View E S)

  abbrev pub Rule : St → Type 0
  Rule = LockHolds entries owner setting_of start setting seats

  abbrev pub At : St → ℕ → View E S → Type 0
  At s i v = get_elem? s.views i ≡ some v

  pub keeps_below : (word : ℕ) (list : List E) (v : View E S) (n : ℕ) → Fits owner start setting seats word list v → Keeps n v.kept → n < seats
  keeps_below word list v n f h = keeps_all (λ m. m < seats) n v.kept (All-weaker (λ (k : ℕ × List E). (k.0 < seats) × GrewByOthers owner k.0 k.1 list) (λ (k : ℕ × List E). k.0 < seats) (λ k p. p.0) v.kept f.kept) h

  -- the one kept number, with the list under it
  pub only_kept : (word : ℕ) (list : List E) (v : View E S) → Fits owner start setting seats word list v → v.kept ≡ (v.number, own_of v.kept) ∷ [] → (v.number < seats) × GrewByOthers owner v.number (own_of v.kept) list
  only_kept word list v f is = All-head (λ (k : ℕ × List E). (k.0 < seats) × GrewByOthers owner k.0 k.1 list) (v.number, own_of v.kept) [] (subst (All (λ (k : ℕ × List E). (k.0 < seats) × GrewByOthers owner k.0 k.1 list)) is f.kept)

  pub one_keeps : (v : View E S) → v.kept ≡ (v.number, own_of v.kept) ∷ [] → Keeps v.number v.kept
  one_keeps v is = subst (Keeps v.number) (sym is) (inl refl)

  -- no two views hold the turn
  pub one_holder : (s : St) (r : Rule s) (i j : ℕ) (v w : View E S) (a b : List E) → At s i v → At s j w → v.taken ≡ Some a → w.taken ≡ Some b → i ≡ j
  one_holder s r i j v w a b ev ew tv tw = let hv = (r.fits i v ev).holds a tv in let hw = (r.fits j w ew).holds b tw in let same : w.number ≡ v.number = omega (arith, hv.word_is, hw.word_is) in
      r.once v.number i j v w ev ew hv.keeps (subst (λ n. Keeps n w.kept) same hw.keeps)

  -- a view with the same list, and no turn
  pub fits_idle : (word word' : ℕ) (list : List E) (v : View E S) → Fits owner start setting seats word list v → ((taken : List E) → v.taken ≡ Some taken → ⊥) → Fits owner start setting seats word' list v
  fits_idle word word' list v f idle = record { seen = f.seen; kept = f.kept; told = f.told; knows = f.knows; holds = λ taken e. absurd (idle taken e) }

  -- one view changes, and nothing else
  pub view_step : (s : St) (r : Rule s) (words' : List ℕ) (id : ℕ) (v w : View E S) → At s id v → words' ≡ r.word ∷ length r.list ∷ [] → Fits owner start setting seats r.word r.list w
      → ((n : ℕ) → Keeps n w.kept → Keeps n v.kept) → ((n : ℕ) → Keeps n v.kept → Keeps n w.kept) → ((taken : List E) → v.taken ≡ Some taken → (t : List E) × (w.taken ≡ Some t)) → (v.seen ≡ r.list → w.seen ≡ r.list)
      → Rule record { words = words'; homes = s.homes; views = set s.views id w }
  view_step s r words' id v w me same fit back go turn seen = record {
    few = r.few;
    word = r.word;
    list = r.list;
    words = same;
    added = r.added;
    fits = each_set (Fits owner start setting seats r.word r.list) s.views id w fit (λ j u e ne. r.fits j u e);
    whole = has_set (λ (u : View E S). u.seen ≡ r.list) s.views id v w me seen r.whole;
    once = λ n. once_set (λ (u : View E S). Keeps n u.kept) s.views id v w me (back n) (r.once n);
    every = λ n l. has_set (λ (u : View E S). Keeps n u.kept) s.views id v w me (go n) (r.every n l);
    free = r.free;
    held = λ taken. let h = r.held taken in (h.0, has_set (λ (u : View E S). (t : List E) × (u.taken ≡ Some t)) s.views id v w me (λ t. turn t.0 t.1) h.1);
  }
