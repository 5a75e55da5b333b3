-- What a judged move writes, and how it is stored word by word.
use Rattle.std.proofs.Common.{◌≡◌, ◌≢◌, ℕ, ◌+◌, ◌<◌, Bool, true, false, cond, not, List, [], ◌∷◌, length, get_or, map, drop, Some, refl, sym, ap, ◌∙◌, arith, inl, inr, add-one, drop-cons}
use Rattle.std.specs.Prelude.{◌==◌, slice_index}
use Rattle.std.specs.List.{All, filter}
use Rattle.std.proofs.lemmas.Bool.{cases_Bool, eq-eqb, ne_eqb}
use Rattle.std.proofs.lemmas.List.{get_or_default, get_or-drop, length-drop}
use Rattle.std.proofs.lemmas.List.Elements.{All-cons, All-head, All-nil, All-tail}
use Rattle.mz_board.specs.Chair.{ChairState, with_stored}
use Rattle.mz_board.specs.Items.{without, written}
use Rattle.mz_num.proofs.PlaceLaws.{places_below-rising}
use Rattle.mz_model.specs.declared.parts.Parts.{Parts}
use Rattle.mz_model.specs.Parts.{target_count, unit_count}
use Rattle.mz_model.specs.Targets.{gain_of, is_touched, touched_rows}
use Rattle.mz_delta.specs.declared.judged.Judged.{Judged}
use Rattle.mz_delta.specs.declared.reading.Reading.{Reading}
use Rattle.mz_store.specs.Turns.{move_writes, row_writes, ShowsGains, with_owes}

-- ---- words that are no longer owed

without-absent : (word : ℕ) (ws : List (ℕ × ℕ)) → All (λ (w : ℕ × ℕ). w.0 ≢ word) ws → without word ws ≡ ws
without-absent word [] apart = refl
without-absent word (w ∷ ws) apart =
    ap (λ b. cond (not b) (w ∷ without word ws) (without word ws)) (ne_eqb w.0 word (All-head (λ (w : ℕ × ℕ). w.0 ≢ word) w ws apart))
    ∙ ap (λ (vs : List (ℕ × ℕ)). w ∷ vs) (without-absent word ws (All-tail (λ (w : ℕ × ℕ). w.0 ≢ word) w ws apart))

pub without-first : (word value : ℕ) (ws : List (ℕ × ℕ)) → All (λ (w : ℕ × ℕ). w.0 ≢ word) ws → without word ((word, value) ∷ ws) ≡ ws
without-first word value ws apart = ap (λ b. cond (not b) ((word, value) ∷ without word ws) (without word ws)) (eq-eqb word word refl) ∙ without-absent word ws apart

pub written-first : (word value : ℕ) (ws : List (ℕ × ℕ)) → written word ((word, value) ∷ ws) ≡ Some value
written-first word value ws = ap (λ b. cond b (Some value) (written word ws)) (eq-eqb word word refl)

module _ (parts : Parts) (unit from to : ℕ) where
  abbrev differs : ℕ → Bool
  differs row = not (gain_of parts row unit from == gain_of parts row unit to)

  row-words : (P : ℕ → Type 0) (rows totals : List ℕ) → All (λ row. P (unit_count parts + row)) rows → All (λ (w : ℕ × ℕ). P w.0) (row_writes parts unit from to rows totals)
  row-words P [] totals all = All-nil (λ (w : ℕ × ℕ). P w.0)
  row-words P (row ∷ rows) [] all = All-nil (λ (w : ℕ × ℕ). P w.0)
  row-words P (row ∷ rows) (total ∷ totals) all =
      let rest = row-words P rows totals (All-tail (λ row. P (unit_count parts + row)) row rows all) in
      elim (differs row) as (λ b. All (λ (w : ℕ × ℕ). P w.0) (cond b ((unit_count parts + row, total) ∷ row_writes parts unit from to rows totals) (row_writes parts unit from to rows totals))) [
        | true ↦ All-cons (λ (w : ℕ × ℕ). P w.0) (unit_count parts + row, total) (row_writes parts unit from to rows totals) (All-head (λ row. P (unit_count parts + row)) row rows all) rest
        | false ↦ rest
      ]

  later-rows : (i : ℕ) → i < length (touched_rows parts unit) → All (λ row. unit_count parts + row ≢ unit_count parts + get_or (touched_rows parts unit) i 0) (drop (i + 1) (touched_rows parts unit))
  unfolding touched_rows
  later-rows i within = λ k d h e.
      let rows = touched_rows parts unit in
      let near = length-drop (i + 1) rows in
      let rises : get_or rows i d < get_or rows ((i + 1) + k) d = places_below-rising (target_count parts) (is_touched parts unit) i ((i + 1) + k) d (omega arith) (omega (arith, near, h)) in
      let first = get_or_default rows i d 0 within in let later = get_or-drop (i + 1) rows k d in
      omega (arith, rises, first, later, e)

  -- the row at a place, and those behind it
  pub row-owed : (i : ℕ) (totals : List ℕ) → i < length (touched_rows parts unit) → length totals ≡ length (touched_rows parts unit)
      → row_writes parts unit from to (drop i (touched_rows parts unit)) (drop i totals) ≡ cond (differs (get_or (touched_rows parts unit) i 0))
      ((unit_count parts + get_or (touched_rows parts unit) i 0, get_or totals i 0) ∷ row_writes parts unit from to (drop (i + 1) (touched_rows parts unit)) (drop (i + 1) totals))
      (row_writes parts unit from to (drop (i + 1) (touched_rows parts unit)) (drop (i + 1) totals))
  row-owed i totals within count =
      let rows = touched_rows parts unit in
      let first : drop i rows ≡ get_or rows i 0 ∷ drop (i + 1) rows = drop-cons rows i 0 within ∙ ap (λ n. get_or rows i 0 ∷ drop n rows) (sym (add-one i)) in
      let second : drop i totals ≡ get_or totals i 0 ∷ drop (i + 1) totals = drop-cons totals i 0 (omega (arith, count)) ∙ ap (λ n. get_or totals i 0 ∷ drop n totals) (sym (add-one i)) in
      ap (λ (rs : List ℕ). row_writes parts unit from to rs (drop i totals)) first ∙ ap (λ (ts : List ℕ). row_writes parts unit from to (get_or rows i 0 ∷ drop (i + 1) rows) ts) second

  pub row-apart : (i : ℕ) (totals : List ℕ) → i < length (touched_rows parts unit) → All (λ (w : ℕ × ℕ). w.0 ≢ unit_count parts + get_or (touched_rows parts unit) i 0) (row_writes parts unit from to (drop (i + 1) (touched_rows parts unit)) (drop (i + 1) totals))
  row-apart i totals within = row-words (λ n. n ≢ unit_count parts + get_or (touched_rows parts unit) i 0) (drop (i + 1) (touched_rows parts unit)) (drop (i + 1) totals) (later-rows i within)

  -- no row's word is a unit's
  pub unit-apart : (totals : List ℕ) → unit < unit_count parts → All (λ (w : ℕ × ℕ). w.0 ≢ unit) (row_writes parts unit from to (touched_rows parts unit) totals)
  unit-apart totals within = row-words (λ n. n ≢ unit) (touched_rows parts unit) totals (λ k d h e. absurd (omega arith))

  pub row-writes-are : (p : ℕ → Bool) (f : ℕ → ℕ) (rows : List ℕ) → ((row : ℕ) → p row ≡ differs row) → row_writes parts unit from to rows (map f rows) ≡ map (λ (row : ℕ). (unit_count parts + row, f row)) (filter p rows)
  row-writes-are p f [] same = refl
  row-writes-are p f (row ∷ rows) same =
      let rest = row-writes-are p f rows same in elim (cases_Bool (differs row)) [
        | inl moves ↦ ap (λ b. cond b ((unit_count parts + row, f row) ∷ row_writes parts unit from to rows (map f rows)) (row_writes parts unit from to rows (map f rows))) moves
            ∙ ap (λ (ws : List (ℕ × ℕ)). (unit_count parts + row, f row) ∷ ws) rest
            ∙ ap (λ b. map (λ (row : ℕ). (unit_count parts + row, f row)) (cond b (row ∷ filter p rows) (filter p rows))) (sym (same row ∙ moves))
        | inr stays ↦ ap (λ b. cond b ((unit_count parts + row, f row) ∷ row_writes parts unit from to rows (map f rows)) (row_writes parts unit from to rows (map f rows))) stays
            ∙ rest ∙ ap (λ b. map (λ (row : ℕ). (unit_count parts + row, f row)) (cond b (row ∷ filter p rows) (filter p rows))) (sym (same row ∙ stays))
      ]

-- ---- the step over a row

module _ (parts : Parts) (reading : Reading) (judged : Judged) (shows : ShowsGains parts reading judged) where
  abbrev rows : List ℕ
  rows = touched_rows parts judged.unit

  abbrev differing : ℕ → Bool
  differing = differs parts judged.unit judged.old judged.new

  -- what is held before and after the move, and the gains, for the row at a place
  row-gains : (i d e read moved : ℕ) → i < length rows → length judged.totals.items ≡ length rows → read ≡ get_or reading.totals.items i d → moved ≡ get_or judged.totals.items i e
      → moved + gain_of parts (get_or rows i 0) judged.unit judged.old ≡ read + gain_of parts (get_or rows i 0) judged.unit judged.new
  row-gains i d e read moved within count read_is moved_is =
      let one = get_or_default reading.totals.items i d 0 (omega (arith, within, shows.count)) in
      let two = get_or_default judged.totals.items i e 0 (omega (arith, within, count)) in
      let gains = shows.gains i within in
      omega (arith, read_is, moved_is, one, two, gains)

  pub row-moves : (i d e read moved : ℕ) → i < length rows → length judged.totals.items ≡ length rows → read ≡ get_or reading.totals.items i d → moved ≡ get_or judged.totals.items i e
      → read ≢ moved → differing (get_or rows i 0) ≡ true
  row-moves i d e read moved within count read_is moved_is apart =
      let gains = row-gains i d e read moved within count read_is moved_is in
      ap not (ne_eqb (gain_of parts (get_or rows i 0) judged.unit judged.old) (gain_of parts (get_or rows i 0) judged.unit judged.new) (λ same. apart (omega (arith, gains, same))))

  pub row-stays : (i d e read moved : ℕ) → i < length rows → length judged.totals.items ≡ length rows → read ≡ get_or reading.totals.items i d → moved ≡ get_or judged.totals.items i e
      → read ≡ moved → differing (get_or rows i 0) ≡ false
  row-stays i d e read moved within count read_is moved_is equal =
      let gains = row-gains i d e read moved within count read_is moved_is in
      ap not (eq-eqb (gain_of parts (get_or rows i 0) judged.unit judged.old) (gain_of parts (get_or rows i 0) judged.unit judged.new) (omega (arith, gains, equal)))

module _ {E S : Type 0} where
  pub row-stored : (parts parts' : Parts) (reading : Reading) (judged : Judged) (i d e read moved word units place : ℕ) (before after : ChairState E S) → parts' ≡ parts → ShowsGains parts reading judged
      → i < length (touched_rows parts judged.unit) → length judged.totals.items ≡ length (touched_rows parts judged.unit)
      → before.post.owes ≡ row_writes parts judged.unit judged.old judged.new (drop i (touched_rows parts judged.unit)) (drop i judged.totals.items)
      → read ≡ get_or reading.totals.items i d → moved ≡ get_or judged.totals.items i e → read ≢ moved
      → units ≡ unit_count parts' → place ≡ slice_index (touched_rows parts' judged.unit) i → word ≡ units + place → after ≡ with_stored before word
      → after ≡ with_owes before (row_writes parts judged.unit judged.old judged.new (drop (i + 1) (touched_rows parts judged.unit)) (drop (i + 1) judged.totals.items))
  row-stored parts parts' reading judged i d e read moved word units place before after same shows within count owes read_is moved_is apart units_are place_is word_is stored =
      let unit = judged.unit in let from = judged.old in let to = judged.new in let totals = judged.totals.items in
      let row = get_or (touched_rows parts unit) i 0 in
      let rest = row_writes parts unit from to (drop (i + 1) (touched_rows parts unit)) (drop (i + 1) totals) in
      let moves = row-moves parts reading judged shows i d e read moved within count read_is moved_is apart in
      let at : word ≡ unit_count parts + row = word_is ∙ ap (λ n. n + place) (units_are ∙ ap unit_count same) ∙ ap (λ n. unit_count parts + n) (place_is ∙ ap (λ p. slice_index (touched_rows p unit) i) same) in
      let owed : before.post.owes ≡ (unit_count parts + row, get_or totals i 0) ∷ rest = owes ∙ row-owed parts unit from to i totals within count
      ∙ ap (λ b. cond b ((unit_count parts + row, get_or totals i 0) ∷ rest) rest) moves in
      stored ∙ ap (λ (ws : List (ℕ × ℕ)). with_owes before ws)
      (ap (λ w. without w before.post.owes) at ∙ ap (without (unit_count parts + row)) owed ∙ without-first (unit_count parts + row) (get_or totals i 0) rest (row-apart parts unit from to i totals within))

  pub row-passed : (parts : Parts) (reading : Reading) (judged : Judged) (i d e read moved : ℕ) (before : ChairState E S) → ShowsGains parts reading judged
      → i < length (touched_rows parts judged.unit) → length judged.totals.items ≡ length (touched_rows parts judged.unit)
      → before.post.owes ≡ row_writes parts judged.unit judged.old judged.new (drop i (touched_rows parts judged.unit)) (drop i judged.totals.items)
      → read ≡ get_or reading.totals.items i d → moved ≡ get_or judged.totals.items i e → read ≡ moved
      → before ≡ with_owes before (row_writes parts judged.unit judged.old judged.new (drop (i + 1) (touched_rows parts judged.unit)) (drop (i + 1) judged.totals.items))
  row-passed parts reading judged i d e read moved before shows within count owes read_is moved_is equal =
      let unit = judged.unit in let from = judged.old in let to = judged.new in let totals = judged.totals.items in
      let row = get_or (touched_rows parts unit) i 0 in
      let rest = row_writes parts unit from to (drop (i + 1) (touched_rows parts unit)) (drop (i + 1) totals) in
      let stays = row-stays parts reading judged shows i d e read moved within count read_is moved_is equal in
      ap (λ (ws : List (ℕ × ℕ)). with_owes before ws) (owes ∙ row-owed parts unit from to i totals within count ∙ ap (λ b. cond b ((unit_count parts + row, get_or totals i 0) ∷ rest) rest) stays)

  pub unit-stored : (parts : Parts) (judged : Judged) (before after : ChairState E S) → judged.unit < unit_count parts → before.post.owes ≡ move_writes parts judged true → after ≡ with_stored before judged.unit
      → after ≡ with_owes before (row_writes parts judged.unit judged.old judged.new (touched_rows parts judged.unit) judged.totals.items)
  unit-stored parts judged before after within owes stored =
      let rest = row_writes parts judged.unit judged.old judged.new (touched_rows parts judged.unit) judged.totals.items in
      stored ∙ ap (λ (ws : List (ℕ × ℕ)). with_owes before ws)
      (ap (without judged.unit) owes ∙ without-first judged.unit judged.new rest (unit-apart parts judged.unit judged.old judged.new judged.totals.items within))
