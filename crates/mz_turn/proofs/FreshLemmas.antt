-- Chairs as the opening gives them, and all of them back at the close.
use Rattle.std.proofs.Common.{◌≡◌, ℕ, zero, suc, ◌+◌, ◌<◌, List, [], ◌∷◌, ◌++◌, length, sym, refl, ap, ◌∙◌, arith, length-append, Some, None}
use mathlib.Core.Logic.{dite}
use native.Mathlib.Decide.{ℕ_discrete}
use Rattle.std.specs.Prelude.{slice_get, slice_index_or}
use Rattle.std.specs.List.{All}
use Rattle.std.proofs.lemmas.List.Elements.{All-nil, All-cons}
use Rattle.mz_turn.specs.Chair.{LockId, ChairState, fresh_chair, AreFresh, AreAllOf}

module _ {X : Type 0} where
  get_index : (xs : List X) (k : ℕ) (d x : X) → slice_get xs k ≡ Some x → slice_index_or xs k d ≡ x
  get_index [] k d x e = cc
  get_index (y ∷ xs) zero d x e = cc
  get_index (y ∷ xs) (suc k) d x e = get_index xs k d x e

  index_same : (xs : List X) (k : ℕ) (d e : X) → k < length xs → slice_index_or xs k d ≡ slice_index_or xs k e
  index_same [] k d e lt = absurd (omega arith)
  index_same (y ∷ xs) zero d e lt = refl
  index_same (y ∷ xs) (suc k) d e lt = index_same xs k d e (omega arith)

  get_before : (xs : List X) (x : X) (k : ℕ) → k < length xs → slice_get (xs ++ x ∷ []) k ≡ slice_get xs k
  get_before [] x k lt = absurd (omega arith)
  get_before (y ∷ xs) x zero lt = refl
  get_before (y ∷ xs) x (suc k) lt = get_before xs x k (omega arith)

  get_end : (xs : List X) (x : X) (k : ℕ) → k ≡ length xs → slice_get (xs ++ x ∷ []) k ≡ Some x
  get_end [] x zero e = refl
  get_end [] x (suc k) e = absurd (omega arith)
  get_end (y ∷ xs) x zero e = absurd (omega arith)
  get_end (y ∷ xs) x (suc k) e = get_end xs x k (omega arith)

-- one more chair
pub fresh_more : {E S : Type 0} (lock : LockId E S) (n : ℕ) (chairs chairs' : List (ChairState E S)) (x : ChairState E S) → AreFresh lock n chairs → x ≡ fresh_chair lock n → chairs' ≡ chairs ++ x ∷ [] → AreFresh lock (n + 1) chairs'
fresh_more lock n chairs chairs' x f is more = let count = f.count in record {
  count = omega (arith, ap length more, length-append chairs (x ∷ []));
  each = λ k lt. ap (λ l. slice_get l k) more ∙ dite (ℕ_discrete k n) (λ e. get_end chairs x k (e ∙ sym count) ∙ ap Some (is ∙ ap (fresh_chair lock) (sym e)))
      (λ ne. get_before chairs x k (omega arith) ∙ f.each k (omega (arith, ne)));
}

-- the last chair comes off
pub fresh_less : {E S : Type 0} (lock : LockId E S) (n : ℕ) (chairs rest : List (ChairState E S)) (x : ChairState E S) → AreFresh lock (suc n) chairs → chairs ≡ rest ++ x ∷ [] → (x ≡ fresh_chair lock n) × AreFresh lock n rest
fresh_less lock n chairs rest x f is = let count = f.count in let long : length rest ≡ n = omega (arith, ap length is, length-append rest (x ∷ [])) in
    let here : slice_get (rest ++ x ∷ []) n ≡ Some (fresh_chair lock n) = ap (λ l. slice_get l n) (sym is) ∙ f.each n (omega arith) in
    let last : Some x ≡ Some (fresh_chair lock n) = sym (get_end rest x n (sym long)) ∙ here in
    let same : x ≡ fresh_chair lock n = cc in
    (same, record { count = long; each = λ k lt. sym (get_before rest x k (omega arith)) ∙ (ap (λ l. slice_get l k) (sym is) ∙ f.each k (omega arith)) })

module _ {E S : Type 0} (lock : LockId E S) (seats : ℕ) (chairs : List (ChairState E S)) (fresh : AreFresh lock seats chairs) where
  pub fresh_index : (k : ℕ) (d : ChairState E S) → k < length chairs → slice_index_or chairs k d ≡ fresh_chair lock k
  fresh_index k d lt = let count = fresh.count in get_index chairs k d (fresh_chair lock k) (fresh.each k (omega arith))

  pub fresh_idle : All (λ (chair : ChairState E S). (chair.lock ≡ lock) × (chair.taken ≡ None)) chairs
  fresh_idle k d lt = let h = fresh_index k d lt in (ap (λ (c : ChairState E S). c.lock) h, ap (λ (c : ChairState E S). c.taken) h)

  -- what came of the chairs, in their order, each of the lock, without a turn and with its number
  pub all_back : (back : List (ChairState E S)) → seats ≡ lock.seats → length back ≡ length chairs
      → ((k : ℕ) (d : ChairState E S) → k < length chairs → ((slice_index_or back k d).lock ≡ lock) × ((slice_index_or back k d).taken ≡ None) × ((slice_index_or back k d).number ≡ (slice_index_or chairs k d).number)) → AreAllOf lock back
  all_back back all same each = let count = fresh.count in record {
    here = λ k d lt. let h = each k d (omega arith) in (h.0, h.1);
    every = λ n lt. let d : ChairState E S = fresh_chair lock n in let h = each n d (omega arith) in let chair : ChairState E S = slice_index_or back n d in
        (chair, (n, omega arith, index_same back n chair d (omega arith)), h.2 ∙ ap (λ (c : ChairState E S). c.number) (fresh_index n d (omega arith)));
  }

  pub all_fresh : seats ≡ lock.seats → AreAllOf lock chairs
  all_fresh all = all_back chairs all refl (λ k d lt. let h = fresh_idle k d lt in (h.0, h.1, refl))

-- the two chairs of a lock of two seats
pub both_back : {E S : Type 0} (lock : LockId E S) (a b : ChairState E S) → lock.seats ≡ 2 → (a.lock ≡ lock) × (a.taken ≡ None) × (a.number ≡ 0) → (b.lock ≡ lock) × (b.taken ≡ None) × (b.number ≡ 1) → AreAllOf lock (a ∷ b ∷ [])
both_back {E} {S} lock a b two first second = let P : ChairState E S → Type 0 = λ chair. (chair.lock ≡ lock) × (chair.taken ≡ None) in record {
  here = All-cons P a (b ∷ []) (first.0, first.1) (All-cons P b [] (second.0, second.1) (All-nil P));
  every = λ n lt. dite (ℕ_discrete n 0) (λ e. (a, (0, omega arith, refl), first.2 ∙ sym e)) (λ ne. (b, (1, omega arith, refl), second.2 ∙ omega (arith, ne)));
}
