-- What entries write, and what was read of the items.
use Rattle.std.proofs.Common.{◌≡◌, ◌≢◌, ℕ, ◌+◌, ◌≤◌, List, [], ◌∷◌, ◌++◌, length, eqb, not, cond, Bool, true, false, sym, refl, ap, ◌∙◌, subst, inl, inr, ⊎_elim, arith, append_assoc, length-append, eq-eqb, ne_eqb, unwrap_or, Option, Some, None}
use Rattle.std.specs.List.{All}
use Rattle.std.proofs.lemmas.List.Elements.{All-nil, All-head, All-tail, All-cons}
use native.Mathlib.Decide.{ℕ_discrete}
use Rattle.mz_board.specs.Items.{written, without, word_of, value_after, IsWrittenFrom, ReadOk, IsLastWrite, last_writes}

pub some_number : (x y : ℕ) → Some x ≡ Some y → x ≡ y
some_number x y e = cc

-- the two cases of an option that is known
pub optional : {P : Type 0} (o : Option ℕ) → (o ≡ None → P) → ((x : ℕ) → o ≡ Some x → P) → P
optional None none one = none refl
optional (Some x) none one = one x refl

module _ (P : ℕ × ℕ → Type 0) where
  -- what holds of all writes holds of one that is found
  written_case : (item : ℕ) (w : ℕ × ℕ) (ws : List (ℕ × ℕ)) (x : ℕ) → All P (w ∷ ws)
      → (written item ws ≡ Some x → P (item, x)) → Dec (w.0 ≡ item) → written item (w ∷ ws) ≡ Some x → P (item, x)
  written_case item w ws x all more (yes e) found = let b : eqb w.0 item ≡ true = eq-eqb w.0 item e in
      let h : Some w.1 ≡ Some x = sym (ap (λ c. cond c (Some w.1) (written item ws)) b) ∙ found in
      subst P (λ i. (e i, some_number w.1 x h i)) (All-head P w ws all)
  written_case item w ws x all more (no ne) found = more
      (sym (ap (λ c. cond c (Some w.1) (written item ws)) (ne_eqb w.0 item ne)) ∙ found)

  pub written_all : (item : ℕ) (ws : List (ℕ × ℕ)) (x : ℕ) → All P ws → written item ws ≡ Some x → P (item, x)
  written_all item [] x all found = absurd (cc)
  written_all item (w ∷ ws) x all found = written_case item w ws x all
      (λ f. written_all item ws x (All-tail P w ws all) f) (ℕ_discrete w.0 item) found

  without_case : (item : ℕ) (w : ℕ × ℕ) (ws : List (ℕ × ℕ)) → All P (w ∷ ws) → All P (without item ws) → (b : Bool)
      → All P (cond (not b) (w ∷ without item ws) (without item ws))
  without_case item w ws all more true = more
  without_case item w ws all more false = All-cons P w (without item ws) (All-head P w ws all) more

  pub without_all : (item : ℕ) (ws : List (ℕ × ℕ)) → All P ws → All P (without item ws)
  without_all item [] all = All-nil P
  without_all item (w ∷ ws) all = without_case item w ws all (without_all item ws (All-tail P w ws all))
      (eqb w.0 item)

-- a stored item is not owed, and every other one is owed as before
without_step : (item other : ℕ) (w : ℕ × ℕ) (ws : List (ℕ × ℕ)) → other ≢ item
    → written other (without item ws) ≡ written other ws → Dec (w.0 ≡ item)
    → written other (without item (w ∷ ws)) ≡ written other (w ∷ ws)
without_step item other w ws apart same (yes e) = let n : w.0 ≢ other = λ h. apart (sym h ∙ e) in
    ap (λ c. written other (cond (not c) (w ∷ without item ws) (without item ws))) (eq-eqb w.0 item e)
    ∙ (same ∙ sym (ap (λ c. cond c (Some w.1) (written other ws)) (ne_eqb w.0 other n)))
without_step item other w ws apart same (no ne) =
    ap (λ c. written other (cond (not c) (w ∷ without item ws) (without item ws))) (ne_eqb w.0 item ne)
    ∙ ap (λ (o : Option ℕ). cond (eqb w.0 other) (Some w.1) o) same

pub without_other : (item other : ℕ) (ws : List (ℕ × ℕ)) → other ≢ item
    → written other (without item ws) ≡ written other ws
without_other item other [] apart = refl
without_other item other (w ∷ ws) apart = without_step item other w ws apart (without_other item other ws apart)
    (ℕ_discrete w.0 item)

without_none : (item : ℕ) (w : ℕ × ℕ) (ws : List (ℕ × ℕ)) → written item (without item ws) ≡ None → Dec (w.0 ≡ item)
    → written item (without item (w ∷ ws)) ≡ None
without_none item w ws none (yes e) = ap (λ c. written item (cond (not c) (w ∷ without item ws) (without item ws)))
    (eq-eqb w.0 item e) ∙ none
without_none item w ws none (no ne) = ap (λ c. written item (cond (not c) (w ∷ without item ws) (without item ws)))
    (ne_eqb w.0 item ne) ∙ (ap (λ c. cond c (Some w.1) (written item (without item ws))) (ne_eqb w.0 item ne) ∙ none)

pub without_same : (item : ℕ) (ws : List (ℕ × ℕ)) → written item (without item ws) ≡ None
without_same item [] = refl
without_same item (w ∷ ws) = without_none item w ws (without_same item ws) (ℕ_discrete w.0 item)

module _ {E : Type 0} (writes : E → List (ℕ × ℕ)) where
  -- one entry more
  pub value_push : (item opening : ℕ) (list : List E) (e : E)
      → value_after writes item opening (list ++ e ∷ []) ≡ unwrap_or (written item (writes e))
      (value_after writes item opening list)
  value_push item opening [] e = refl
  value_push item opening (x ∷ xs) e = value_push item (unwrap_or (written item (writes x)) opening) xs e

  pub value_kept : (item opening : ℕ) (list : List E) (e : E) → written item (writes e) ≡ None
      → value_after writes item opening (list ++ e ∷ []) ≡ value_after writes item opening list
  value_kept item opening list e none = value_push item opening list e
      ∙ ap (λ (o : Option ℕ). unwrap_or o (value_after writes item opening list)) none

  pub last_of : (xs : List E) (e : E) → last_writes writes (xs ++ e ∷ []) ≡ writes e
  last_of [] e = refl
  last_of (x ∷ []) e = refl
  last_of (x ∷ y ∷ ys) e = last_of (y ∷ ys) e

  -- the last entry's value is the item's value
  pub last_value : (front : ℕ) (list : List E) (item opening value : ℕ) → IsLastWrite writes front list item value
      → value_after writes item opening list ≡ value
  last_value front list item opening value h = ap (value_after writes item opening) h.list_is
      ∙ (value_push item opening h.before h.entry
      ∙ ap (λ (o : Option ℕ). unwrap_or o (value_after writes item opening h.before)) h.writes_it)

  pub last_length : (front : ℕ) (list : List E) (item value : ℕ) → IsLastWrite writes front list item value
      → length list ≡ front + 1
  last_length front list item value h = let n = h.at in
      omega (arith, ap length h.list_is, length-append h.before (h.entry ∷ []))

  pub written_last : (front from item : ℕ) (list : List E) (value : ℕ) → from ≤ front
      → IsLastWrite writes front list item value → IsWrittenFrom writes from item list
  written_last front from item list value le h = let n = h.at in
      record {
        before = h.before;
        entry = h.entry;
        after = [];
        list_is = h.list_is;
        later = omega arith;
        value = value;
        writes_it = h.writes_it;
      }

  written_more : (front item : ℕ) (list : List E) (e : E) → IsWrittenFrom writes front item list
      → IsWrittenFrom writes front item (list ++ e ∷ [])
  written_more front item list e h = record {
    before = h.before;
    entry = h.entry;
    after = h.after ++ e ∷ [];
    list_is = ap (λ l. l ++ e ∷ []) h.list_is ∙ append_assoc h.before (h.entry ∷ h.after) (e ∷ []);
    later = h.later;
    value = h.value;
    writes_it = h.writes_it;
  }

  -- what was read goes for the longer list too
  pub read_more : (front : ℕ) (opening : List ℕ) (list : List E) (e : E) (read : ℕ × ℕ) → front ≤ length list
      → ReadOk writes front opening list read → ReadOk writes front opening (list ++ e ∷ []) read
  read_more front opening list e read le ok = ⊎_elim
      (λ (is : value_after writes read.0 (word_of opening read.0) list ≡ read.1). optional (written read.0 (writes e))
      (λ none. inl (value_kept read.0 (word_of opening read.0) list e none ∙ is))
      (λ x found. inr (record {
        before = list;
        entry = e;
        after = [];
        list_is = refl;
        later = le;
        value = x;
        writes_it = found;
      })))
      (λ (h : IsWrittenFrom writes front read.0 list). inr (written_more front read.0 list e h)) ok

pub same_setting : {S : Type 0} (x y : S) → Some x ≡ Some y → x ≡ y
same_setting x y e = cc
