-- Loads of words, one after another.
use Rattle.std.proofs.Common.{◌≡◌, ℕ, ◌+◌, ◌<◌, ◌≤◌, List, [], ◌∷◌, ◌++◌, length, get_or, map, take, refl, sym, ap, ◌∙◌, subst, arith}
use Rattle.std.specs.List.{zip}
use Rattle.std.proofs.lemmas.List.{length-append, reverse-append, take_all, take_more}
use Rattle.mz_board.specs.Chair.{ChairState, with_item}
use Rattle.mz_model.specs.declared.neighbour.Neighbour.{Neighbour}
use Rattle.mz_model.specs.declared.parts.Parts.{Parts}
use Rattle.mz_model.specs.Items.{Item, row_item, unit_item}
use Rattle.mz_model.specs.Parts.{unit_count}
use Rattle.mz_store.specs.Loads.{with_items}
use Rattle.mz_store.specs.Words.{word_of_item}

-- ---- lists

zip-push : (ws vs : List ℕ) (w v : ℕ) → length vs ≡ length ws → zip (ws ++ w ∷ []) (vs ++ v ∷ []) ≡ zip ws vs ++ (w, v) ∷ []
zip-push [] [] w v same = refl
zip-push [] (x ∷ xs) w v same = absurd (omega arith)
zip-push (y ∷ ys) [] w v same = absurd (omega arith)
zip-push (y ∷ ys) (x ∷ xs) w v same = ap (λ (ps : List (ℕ × ℕ)). (y, x) ∷ ps) (zip-push ys xs w v (omega arith))

zip-rows : (parts : Parts) (rows totals : List ℕ) → map (λ (read : Item × ℕ). (word_of_item parts read.0, read.1)) (zip (map row_item rows) totals) ≡ zip (map (λ (row : ℕ). unit_count parts + row) rows) totals
zip-rows parts [] totals = refl
zip-rows parts (row ∷ rows) [] = refl
zip-rows parts (row ∷ rows) (t ∷ ts) = ap (λ (ps : List (ℕ × ℕ)). (unit_count parts + row, t) ∷ ps) (zip-rows parts rows ts)

pub zip-around : (parts : Parts) (near : List Neighbour) (rows zones totals : List ℕ) → length zones ≡ length near
    → map (λ (read : Item × ℕ). (word_of_item parts read.0, read.1)) (zip (map (λ (n : Neighbour). unit_item n.unit) near ++ map row_item rows) (zones ++ totals))
    ≡ zip (map (λ (n : Neighbour). n.unit) near) zones ++ zip (map (λ (row : ℕ). unit_count parts + row) rows) totals
zip-around parts [] rows [] totals same = zip-rows parts rows totals
zip-around parts [] rows (z ∷ zs) totals same = absurd (omega arith)
zip-around parts (n ∷ ns) rows [] totals same = absurd (omega arith)
zip-around parts (n ∷ ns) rows (z ∷ zs) totals same = ap (λ (ps : List (ℕ × ℕ)). (n.unit, z) ∷ ps) (zip-around parts ns rows zs totals (omega arith))

-- ---- several loads

pub record HasLoaded {E S : Type 0} (old new : ChairState E S) (words values : List ℕ) : Type 0 where
  pub count : length values ≡ length words
  pub now : new ≡ with_items old (zip words values)

module _ {E S : Type 0} where
  pub loaded-none : (old : ChairState E S) (words values : List ℕ) → values ≡ [] → HasLoaded old old (take 0 words) values
  loaded-none old words values none = record {
    count = ap length none;
    now = refl;
  }

  pub loaded-more : (old now new : ChairState E S) (words values values' : List ℕ) (i w v : ℕ) → HasLoaded old now (take i words) values → i < length words → w ≡ get_or words i 0 → new ≡ with_item now w v → values' ≡ values ++ v ∷ []
      → HasLoaded old new (take (i + 1) words) values'
  loaded-more old now new words values values' i w v so_far within at loads pushed =
      let more : take (i + 1) words ≡ take i words ++ w ∷ [] = take_more words i 0 within ∙ ap (λ (n : ℕ). take i words ++ n ∷ []) (sym at) in record {
        count = ap length pushed ∙ length-append values (v ∷ []) ∙ ap (λ (n : ℕ). n + 1) so_far.count ∙ sym (ap length more ∙ length-append (take i words) (w ∷ []));
        now = loads ∙ ap (λ (c : ChairState E S). with_item c w v) so_far.now
            ∙ ap (λ (rs : List (ℕ × ℕ)). record old { post = record old.post { items = rs ++ old.post.items } }) (sym (reverse-append (zip (take i words) values) ((w, v) ∷ [])))
            ∙ ap (λ (ps : List (ℕ × ℕ)). with_items old ps) (sym (zip-push (take i words) values w v so_far.count))
            ∙ ap (λ (ws : List ℕ). with_items old (zip ws (values ++ v ∷ []))) (sym more) ∙ ap (λ (vs : List ℕ). with_items old (zip (take (i + 1) words) vs)) (sym pushed);
      }

  pub loaded-all : (old new : ChairState E S) (words values : List ℕ) (i : ℕ) → HasLoaded old new (take i words) values → length words ≤ i → HasLoaded old new words values
  loaded-all old new words values i so_far whole = subst (λ (ws : List ℕ). HasLoaded old new ws values) (take_all i words whole) so_far
