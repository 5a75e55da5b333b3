-- Lists that begin with others.
use Rattle.std.proofs.Common.{◌≡◌, ◌≢◌, ℕ, ◌<◌, ◌≤◌, Bool, true, false, cond, ltb, List, [], ◌∷◌, ◌++◌, length, sym, refl, ap, ◌∙◌, subst, arith, append_assoc, append-nil, length-append}
use Rattle.std.specs.List.{All}
use Rattle.std.proofs.lemmas.List.{append_cancel_left}
use Rattle.std.proofs.lemmas.List.Elements.{All-nil, All-head, All-tail, All-cons, All-push}
use borrow.Author.Tests.{ltb-true, ltb-false}
use Rattle.mz_turn.specs.Seen.{Begins, GrewByOthers, GrewByChairs, longer}

module _ {E : Type 0} where
  pub begins_self : (xs : List E) → Begins xs xs
  begins_self xs = record { rest = []; is = append-nil xs }

  pub begins_nil : (xs : List E) → Begins [] xs
  begins_nil xs = record { rest = xs; is = refl }

  pub begins_more : (xs ys zs : List E) → Begins xs ys → Begins xs (ys ++ zs)
  begins_more xs ys zs b = record { rest = b.rest ++ zs; is = sym (append_assoc xs b.rest zs) ∙ ap (λ l. l ++ zs) b.is }

  pub begins_length : (xs ys : List E) → Begins xs ys → length xs ≤ length ys
  begins_length xs ys b = omega (arith, ap length b.is, length-append xs b.rest)

  no_more : (xs : List E) → length xs ≤ 0 → xs ≡ []
  no_more [] le = refl
  no_more (x ∷ xs) le = absurd (omega arith)

  front : (xs ys r s : List E) → xs ++ r ≡ ys ++ s → length xs ≤ length ys → Begins xs ys
  front [] ys r s e le = begins_nil ys
  front (x ∷ xs) [] r s e le = absurd (omega arith)
  front (x ∷ xs) (y ∷ ys) r s e le = let t : xs ++ r ≡ ys ++ s = cc in let h : x ≡ y = cc in let b = front xs ys r s t (omega arith) in
      record { rest = b.rest; is = (λ i. h i ∷ b.is i) }

  -- of two beginnings of one list the shorter begins the longer
  pub begins_shorter : (xs ys list : List E) → Begins xs list → Begins ys list → length xs ≤ length ys → Begins xs ys
  begins_shorter xs ys list b c le = front xs ys b.rest c.rest (b.is ∙ sym c.is) le

  all_behind : (P : E → Type 0) (xs ys : List E) → All P (xs ++ ys) → All P ys
  all_behind P [] ys all = all
  all_behind P (x ∷ xs) ys all = all_behind P xs ys (All-tail P x (xs ++ ys) all)

  all_before : (P : E → Type 0) (xs ys : List E) → All P (xs ++ ys) → All P xs
  all_before P [] ys all = All-nil P
  all_before P (x ∷ xs) ys all = All-cons P x xs (All-head P x (xs ++ ys) all) (all_before P xs ys (All-tail P x (xs ++ ys) all))

  rest_of_later : (P : E → Type 0) (xs ys r s : List E) → xs ++ r ≡ ys ++ s → length xs ≤ length ys → All P r → All P s
  rest_of_later P [] ys r s e le all = all_behind P ys s (subst (All P) e all)
  rest_of_later P (x ∷ xs) [] r s e le all = absurd (omega arith)
  rest_of_later P (x ∷ xs) (y ∷ ys) r s e le all = let t : xs ++ r ≡ ys ++ s = cc in rest_of_later P xs ys r s t (omega arith) all

  begins_case : (xs ys list : List E) → Begins xs list → Begins ys list → (b : Bool) → Begins (cond b ys xs) list
  begins_case xs ys list b c true = c
  begins_case xs ys list b c false = b

  pub begins_longer : (xs ys list : List E) → Begins xs list → Begins ys list → Begins (longer xs ys) list
  begins_longer xs ys list b c = begins_case xs ys list b c (ltb (length xs) (length ys))

  whole_case : (xs ys list : List E) → xs ≡ list → length ys ≤ length list → (b : Bool) → ltb (length xs) (length ys) ≡ b → cond b ys xs ≡ list
  whole_case xs ys list is le true e = let n : length xs < length ys = ltb-true _ _ e in absurd (omega (arith, ap length is))
  whole_case xs ys list is le false e = is

  -- no beginning of a list is longer than the list
  pub longer_whole : (xs ys list : List E) → xs ≡ list → Begins ys list → longer xs ys ≡ list
  longer_whole xs ys list is b = whole_case xs ys list is (begins_length ys list b) (ltb (length xs) (length ys)) refl

  -- a beginning that is no shorter than the list is the list
  begins_whole : (xs list : List E) → Begins xs list → length list ≤ length xs → xs ≡ list
  begins_whole xs list b le = let none : b.rest ≡ [] = no_more b.rest (omega (arith, ap length b.is, length-append xs b.rest)) in sym (append-nil xs) ∙ (ap (λ l. xs ++ l) (sym none) ∙ b.is)

  whole_right_case : (xs ys list : List E) → ys ≡ list → Begins xs list → (b : Bool) → ltb (length xs) (length ys) ≡ b → cond b ys xs ≡ list
  whole_right_case xs ys list is b true e = is
  whole_right_case xs ys list is b false e = let n : length ys ≤ length xs = ltb-false _ _ e in begins_whole xs list b (omega (arith, ap length is))

  -- the same where the second list is the whole one
  pub longer_whole_right : (xs ys list : List E) → ys ≡ list → Begins xs list → longer xs ys ≡ list
  longer_whole_right xs ys list is b = whole_right_case xs ys list is b (ltb (length xs) (length ys)) refl

  left_case : (xs ys : List E) (b : Bool) → ltb (length xs) (length ys) ≡ b → length xs ≤ length (cond b ys xs)
  left_case xs ys true e = let n : length xs < length ys = ltb-true _ _ e in omega arith
  left_case xs ys false e = omega arith

  pub longer_left : (xs ys : List E) → length xs ≤ length (longer xs ys)
  longer_left xs ys = left_case xs ys (ltb (length xs) (length ys)) refl

  right_case : (xs ys : List E) (b : Bool) → ltb (length xs) (length ys) ≡ b → length ys ≤ length (cond b ys xs)
  right_case xs ys true e = omega arith
  right_case xs ys false e = let n : length ys ≤ length xs = ltb-false _ _ e in omega arith

  pub longer_right : (xs ys : List E) → length ys ≤ length (longer xs ys)
  longer_right xs ys = right_case xs ys (ltb (length xs) (length ys)) refl

module _ {E : Type 0} (owner : E → ℕ) (n : ℕ) where
  pub grew_self : (xs : List E) → GrewByOthers owner n xs xs
  grew_self xs = record { rest = []; is = append-nil xs; others = All-nil (λ e. owner e ≢ n) }

  pub grew_begins : (xs ys : List E) → GrewByOthers owner n xs ys → Begins xs ys
  grew_begins xs ys g = record { rest = g.rest; is = g.is }

  pub grew_push : (xs ys : List E) (e : E) → GrewByOthers owner n xs ys → owner e ≢ n → GrewByOthers owner n xs (ys ++ e ∷ [])
  grew_push xs ys e g other = record {
    rest = g.rest ++ e ∷ [];
    is = sym (append_assoc xs g.rest (e ∷ [])) ∙ ap (λ l. l ++ e ∷ []) g.is;
    others = All-push (λ e. owner e ≢ n) g.rest e g.others other;
  }

  -- what was seen later, up to the whole list
  pub grew_later : (own seen list : List E) → GrewByOthers owner n own list → Begins seen list → length own ≤ length seen → GrewByOthers owner n seen list
  grew_later own seen list g b le = record { rest = b.rest; is = b.is; others = rest_of_later (λ e. owner e ≢ n) own seen g.rest b.rest (g.is ∙ sym b.is) le g.others }

  -- up to what was seen later
  pub grew_so_far : (own seen list : List E) → GrewByOthers owner n own list → Begins seen list → length own ≤ length seen → GrewByOthers owner n own seen
  grew_so_far own seen list g b le = let c = begins_shorter own seen list (grew_begins own list g) b le in
      let e : g.rest ≡ c.rest ++ b.rest = append_cancel_left own g.rest (c.rest ++ b.rest) (g.is ∙ (sym b.is ∙ (ap (λ l. l ++ b.rest) (sym c.is) ∙ append_assoc own c.rest b.rest))) in
      record { rest = c.rest; is = c.is; others = all_before (λ e. owner e ≢ n) c.rest b.rest (subst (All (λ e. owner e ≢ n)) e g.others) }

-- what was added is of chairs
module _ {E : Type 0} (owner : E → ℕ) (seats : ℕ) where
  pub added_none : (xs : List E) → GrewByChairs owner seats xs xs
  added_none xs = record { rest = []; is = append-nil xs; chairs = All-nil (λ e. owner e < seats) }

  pub added_push : (xs ys : List E) (e : E) → GrewByChairs owner seats xs ys → owner e < seats → GrewByChairs owner seats xs (ys ++ e ∷ [])
  added_push xs ys e g below = record {
    rest = g.rest ++ e ∷ [];
    is = sym (append_assoc xs g.rest (e ∷ [])) ∙ ap (λ l. l ++ e ∷ []) g.is;
    chairs = All-push (λ e. owner e < seats) g.rest e g.chairs below;
  }
