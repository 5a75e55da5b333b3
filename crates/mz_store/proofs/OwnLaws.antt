-- The entries of a seat in a list, and how they grow.
use Rattle.std.proofs.Common.{◌≡◌, ◌≢◌, ℕ, ◌+◌, cond, List, [], ◌∷◌, ◌++◌, length, refl, sym, ap, ◌∙◌, arith, append-nil}
use Rattle.std.specs.Prelude.{◌==◌}
use Rattle.std.specs.List.{All}
use Rattle.std.proofs.lemmas.Bool.{eq-eqb, ne_eqb}
use Rattle.std.proofs.lemmas.List.{map-append}
use Rattle.std.proofs.lemmas.List.Elements.{All-head, All-map, All-tail, filter-append}
use Rattle.std.proofs.lemmas.List.Sums.{sum_by-append}
use Rattle.mz_board.specs.Seen.{Begins, GrewByOthers}
use Rattle.mz_history.specs.declared.entry.Entry.{Entry}
use Rattle.mz_history.specs.Core.{seats_of}
use Rattle.mz_history.specs.History.{entries_of_seat}
use Rattle.mz_history.specs.Replay.{turns_of}
use Rattle.mz_store.specs.declared.told.Told.{Told}
use Rattle.mz_store.specs.Told.{seat_of, untold}
use Rattle.mz_store.proofs.ToldLaws.{untold-append}

abbrev pub OfOthers : ℕ → List Entry → Type 0
OfOthers seat es = All (λ (e : Entry). e.seat ≢ seat) es

abbrev pub OfSeat : ℕ → List Entry → Type 0
OfSeat seat es = All (λ (e : Entry). e.seat ≡ seat) es

-- ---- counts

turns-append : (seat : ℕ) (es fs : List Entry) → turns_of seat (seats_of (es ++ fs)) ≡ turns_of seat (seats_of es) + turns_of seat (seats_of fs)
turns-append seat es fs = ap (turns_of seat) (map-append (λ (e : Entry). e.seat) es fs) ∙ sum_by-append (λ turn. cond (turn == seat) 1 0) (seats_of es) (seats_of fs)

others-turns : (seat : ℕ) (es : List Entry) → OfOthers seat es → turns_of seat (seats_of es) ≡ 0
others-turns seat [] others = refl
others-turns seat (e ∷ es) others =
    let first : turns_of seat (seats_of (e ∷ es)) ≡ (0 + 0) + turns_of seat (seats_of es) = sum_by-append (λ turn. cond (turn == seat) 1 0) (e.seat ∷ []) (seats_of es) ∙ ap (λ b. (0 + cond b 1 0) + turns_of seat (seats_of es)) (ne_eqb e.seat seat (All-head (λ (e : Entry). e.seat ≢ seat) e es others)) in
    omega (arith, first, others-turns seat es (All-tail (λ (e : Entry). e.seat ≢ seat) e es others))

own-turns : (seat : ℕ) (es : List Entry) → OfSeat seat es → turns_of seat (seats_of es) ≡ length es
own-turns seat [] own = refl
own-turns seat (e ∷ es) own =
    let first : turns_of seat (seats_of (e ∷ es)) ≡ (0 + 1) + turns_of seat (seats_of es) = sum_by-append (λ turn. cond (turn == seat) 1 0) (e.seat ∷ []) (seats_of es) ∙ ap (λ b. (0 + cond b 1 0) + turns_of seat (seats_of es)) (eq-eqb e.seat seat (All-head (λ (e : Entry). e.seat ≡ seat) e es own)) in
    omega (arith, first, own-turns seat es (All-tail (λ (e : Entry). e.seat ≡ seat) e es own))

pub grew-turns : (seat : ℕ) (es fs : List Entry) → GrewByOthers (λ (e : Entry). e.seat) seat es fs → turns_of seat (seats_of fs) ≡ turns_of seat (seats_of es)
grew-turns seat es fs grew =
    let whole : turns_of seat (seats_of fs) ≡ turns_of seat (seats_of es) + turns_of seat (seats_of grew.rest) = ap (λ (gs : List Entry). turns_of seat (seats_of gs)) (sym grew.is) ∙ turns-append seat es grew.rest in
    omega (arith, whole, others-turns seat grew.rest grew.others)

pub added-turns : (seat : ℕ) (es fs : List Entry) → OfSeat seat fs → turns_of seat (seats_of (es ++ fs)) ≡ turns_of seat (seats_of es) + length fs
added-turns seat es fs own = turns-append seat es fs ∙ ap (λ n. turns_of seat (seats_of es) + n) (own-turns seat fs own)

-- ---- entries

others-none : (seat : ℕ) (es : List Entry) → OfOthers seat es → entries_of_seat seat es ≡ []
others-none seat [] others = refl
others-none seat (e ∷ es) others =
    ap (λ b. cond b (e ∷ entries_of_seat seat es) (entries_of_seat seat es)) (ne_eqb e.seat seat (All-head (λ (e : Entry). e.seat ≢ seat) e es others))
    ∙ others-none seat es (All-tail (λ (e : Entry). e.seat ≢ seat) e es others)

own-all : (seat : ℕ) (es : List Entry) → OfSeat seat es → entries_of_seat seat es ≡ es
own-all seat [] own = refl
own-all seat (e ∷ es) own =
    ap (λ b. cond b (e ∷ entries_of_seat seat es) (entries_of_seat seat es)) (eq-eqb e.seat seat (All-head (λ (e : Entry). e.seat ≡ seat) e es own))
    ∙ ap (λ (xs : List Entry). e ∷ xs) (own-all seat es (All-tail (λ (e : Entry). e.seat ≡ seat) e es own))

pub grew-own : (seat : ℕ) (es fs : List Entry) → GrewByOthers (λ (e : Entry). e.seat) seat es fs → entries_of_seat seat fs ≡ entries_of_seat seat es
grew-own seat es fs grew =
    ap (entries_of_seat seat) (sym grew.is) ∙ filter-append (λ (e : Entry). e.seat == seat) es grew.rest
    ∙ ap (λ (xs : List Entry). entries_of_seat seat es ++ xs) (others-none seat grew.rest grew.others) ∙ append-nil (entries_of_seat seat es)

pub added-own : (seat : ℕ) (es fs : List Entry) → OfSeat seat fs → entries_of_seat seat (es ++ fs) ≡ entries_of_seat seat es ++ fs
added-own seat es fs own = filter-append (λ (e : Entry). e.seat == seat) es fs ∙ ap (λ (xs : List Entry). entries_of_seat seat es ++ xs) (own-all seat fs own)

-- ---- as the board tells

pub untold-grew : (seat : ℕ) (ts us : List Told) → GrewByOthers seat_of seat ts us → GrewByOthers (λ (e : Entry). e.seat) seat (untold ts) (untold us)
untold-grew seat ts us grew = record {
  rest = untold grew.rest;
  is = sym (untold-append ts grew.rest) ∙ ap untold grew.is;
  others = All-map (λ (e : Entry). e.seat ≢ seat) (λ (t : Told). t.entry) grew.rest grew.others;
}

pub untold-begins : (ts us : List Told) → Begins ts us → Begins (untold ts) (untold us)
untold-begins ts us begins = record {
  rest = untold begins.rest;
  is = sym (untold-append ts begins.rest) ∙ ap untold begins.is;
}
