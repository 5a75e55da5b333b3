-- What callers need of legal histories: their beginnings, their numbers, their plans.
use Rattle.std.proofs.Common.{◌≡◌, ℕ, zero, suc, ◌+◌, ◌*◌, ◌<◌, ◌≤◌, ◌==◌, true, false, List, [], ◌∷◌, ◌++◌, length, get_or, take, map, Some, refl, sym, ap, subst, ◌∙◌, arith, inl, inr, length-set, get_or-set_other, get_or-set_same}
use Rattle.std.specs.Prelude.{IsTrue, slice_index}
use Rattle.std.specs.List.{last_or, range_with_len}
use Rattle.std.proofs.Math.Seq.{set_out, take-length}
use Rattle.std.proofs.lemmas.Bool.Decides.{leb_tells}
use Rattle.std.proofs.lemmas.Bool.{cases_Bool, cases_eq, cond-true, cond-false, eq-eqb, ne_eqb}
use Rattle.std.proofs.lemmas.List.{append-nil, map_push, take-map, take_more}
use Rattle.std.proofs.lemmas.List.Elements.{filter-append}
use Rattle.std.proofs.lemmas.List.FromFn.{map-range_with_len_more}
use Rattle.mz_draw.specs.Words.{pick_of, word_at}
use Rattle.mz_draw.proofs.DrawLemmas.{draw_at-number}
use Rattle.mz_draw.proofs.WordLemmas.{pick_of-lt, word_at-lt}
use Rattle.mz_num.proofs.PlaceLaws.{get_or-list_below, length-list_below}
use Rattle.mz_model.specs.declared.parts.Parts.{Parts}
use Rattle.mz_model.specs.Parts.{unit_count}
use Rattle.mz_model.specs.Plans.{IsLegalPlan}
use Rattle.mz_model.specs.Move.{moved_plan}
use Rattle.mz_model.specs.declared.score.Score.{Score}
use Rattle.mz_model.specs.Valid.{IsValid}
use Rattle.mz_model.specs.Zones.{allowed_zones, counts_of, free_units, is_allowed, is_free}
use Rattle.mz_model.proofs.ZoneLaws.{step_of-allowed}
use Rattle.mz_history.specs.declared.entry.Entry.{Entry}
use Rattle.mz_history.specs.Core.{entry_of_seat, next_draw, seats_of}
use Rattle.mz_history.specs.Entry.{plan_after}
use Rattle.mz_history.specs.History.{entries_of_seat, IsHistory, IsSound}
use Rattle.mz_history.specs.Replay.{entries_from, entry_of_turn, IsLegalHistory, plan_of_history, replay_of, Setting, turns_of}
use Rattle.mz_history.specs.Start.{free_before, is_drawn, start_seat, starting_plan, starting_zone}
use Rattle.mz_history.specs.World.{IsWorld, WorldState}
use Rattle.mz_history.proofs.HistoryLaws.{plan-push, replay_of-push, turns_of-other, turns_of-own}
use Rattle.mz_history.proofs.StartLemmas.{allowed_at, some_allowed}

-- ---- beginnings

entries_from-take : (s : Setting) (earlier plan turns : List ℕ) (n : ℕ) → take n (entries_from s earlier plan turns) ≡ entries_from s earlier plan (take n turns)
unfolding entries_from
entries_from-take s earlier plan turns zero = refl
entries_from-take s earlier plan [] (suc n) = refl
entries_from-take s earlier plan (seat ∷ turns) (suc n) =
    ap (λ es. entry_of_turn s earlier plan seat ∷ es) (entries_from-take s (earlier ++ seat ∷ []) (plan_after plan (entry_of_turn s earlier plan seat)) turns n)

-- a beginning of a legal history is legal
pub legal-take : (s : Setting) (history : List Entry) (n : ℕ) → IsLegalHistory s history → IsLegalHistory s (take n history)
legal-take s history n legal =
    ap (take n) legal ∙ entries_from-take s [] (starting_plan s.parts s.prop s.seed s.run) (seats_of history) n
    ∙ ap (replay_of s) (take-map (λ (e : Entry). e.seat) n history)

last_of : (xs : List Entry) (x d : Entry) (o : Entry) → last_or (Some o) (xs ++ x ∷ []) ≡ Some x
last_of [] x d o = refl
last_of (y ∷ ys) x d o = last_of ys x d y

some-injective : (x y : Entry) → Some x ≡ Some y → x ≡ y
some-injective x y e = cc

same_last : (xs ys : List Entry) (x y : Entry) → xs ++ x ∷ [] ≡ ys ++ y ∷ [] → x ≡ y
same_last xs ys x y e = some-injective x y (sym (last_of xs x x x) ∙ ap (last_or (Some x)) e ∙ last_of ys y y x)

pub legal-none : (s : Setting) → IsLegalHistory s []
unfolding entries_from
legal-none s = refl

-- the last entry of a legal history is the next one of its seat, and the entries before it are a legal history
pub record IsLegalStep (s : Setting) (before : List Entry) (entry : Entry) : Type 0 where
  pub legal : IsLegalHistory s before
  pub next : entry ≡ entry_of_seat s before entry.seat

pub legal-last : (s : Setting) (before : List Entry) (entry : Entry) → IsLegalHistory s (before ++ entry ∷ []) → IsLegalHistory s before → IsLegalStep s before entry
legal-last s before entry whole legal =
    let turns = seats_of before in
    let grown : before ++ entry ∷ [] ≡ replay_of s turns ++ entry_of_turn s turns (plan_of_history s (replay_of s turns)) entry.seat ∷ [] =
    whole ∙ ap (replay_of s) (map_push (λ (e : Entry). e.seat) before entry) ∙ replay_of-push s turns entry.seat in record {
      legal = legal;
      next = same_last before (replay_of s turns) entry _ grown ∙ ap (λ es. entry_of_turn s turns (plan_of_history s es) entry.seat) (sym legal);
    }

-- each entry of a legal history is the next one of its seat, after the entries before it
pub legal-at : (s : Setting) (history : List Entry) (n : ℕ) (d : Entry) → IsLegalHistory s history → n < length history → IsLegalStep s (take n history) (get_or history n d)
legal-at s history n d legal within =
    legal-last s (take n history) (get_or history n d) (subst (IsLegalHistory s) (take_more history n d within) (legal-take s history (n + 1) legal)) (legal-take s history n legal)

-- what holds of the empty history, and with each next entry of what it held of before, holds of each legal history
begun : (s : Setting) (P : List Entry → Type 0) (history : List Entry) → IsLegalHistory s history → P [] → ((before : List Entry) (entry : Entry) → IsLegalStep s before entry → P before → P (before ++ entry ∷ []))
    → (n : ℕ) → n ≤ length history → P (take n history)
begun s P history legal none more zero within = none
begun s P [] legal none more (suc n) within = none
begun s P (e ∷ es) legal none more (suc n) within =
    subst P (sym (take_more (e ∷ es) n e within) ∙ ap (λ k. take k (e ∷ es)) (let same : n + 1 ≡ suc n = omega arith in same))
    (more (take n (e ∷ es)) (get_or (e ∷ es) n e) (legal-at s (e ∷ es) n e legal within) (begun s P (e ∷ es) legal none more n (omega arith)))

pub legal-induction : (s : Setting) (P : List Entry → Type 0) (history : List Entry) → IsLegalHistory s history → P [] → ((before : List Entry) (entry : Entry) → IsLegalStep s before entry → P before → P (before ++ entry ∷ [])) → P history
legal-induction s P history legal none more = subst P (take-length history) (begun s P history legal none more (length history) (omega arith))

-- ---- numbers

map-id : (xs : List ℕ) → map (λ (k : ℕ). k) xs ≡ xs
map-id [] = refl
map-id (x ∷ xs) = ap (λ ks. x ∷ ks) (map-id xs)

range-more : (n : ℕ) → range_with_len 0 (n + 1) ≡ range_with_len 0 n ++ n ∷ []
range-more n = sym (map-id (range_with_len 0 (n + 1))) ∙ map-range_with_len_more (λ k. k) 0 n n (omega arith) ∙ ap (λ ns. ns ++ n ∷ []) (map-id (range_with_len 0 n))

filter-own : (seat : ℕ) (history : List Entry) (entry : Entry) → entry.seat ≡ seat → entries_of_seat seat (history ++ entry ∷ []) ≡ entries_of_seat seat history ++ entry ∷ []
filter-own seat history entry own =
    filter-append (λ (e : Entry). e.seat == seat) history (entry ∷ [])
    ∙ ap (λ es. entries_of_seat seat history ++ es) (cond-true (entry.seat == seat) (entry ∷ []) [] (eq-eqb entry.seat seat own))

filter-other : (seat : ℕ) (history : List Entry) (entry : Entry) → (entry.seat ≡ seat → ⊥) → entries_of_seat seat (history ++ entry ∷ []) ≡ entries_of_seat seat history
filter-other seat history entry other =
    filter-append (λ (e : Entry). e.seat == seat) history (entry ∷ [])
    ∙ ap (λ es. entries_of_seat seat history ++ es) (cond-false (entry.seat == seat) (entry ∷ []) [] (ne_eqb entry.seat seat other))
    ∙ append-nil (entries_of_seat seat history)

AreNumbered : ℕ → List Entry → Type 0
AreNumbered seat history = map (λ (e : Entry). e.number) (entries_of_seat seat history) ≡ range_with_len 0 (turns_of seat (seats_of history))

-- the number of the next entry of a seat
next-number : (s : Setting) (before : List Entry) (seat : ℕ) → (entry_of_seat s before seat).number ≡ turns_of seat (seats_of before)
next-number s before seat = draw_at-number s.seed s.run seat (free_units s.parts) (counts_of s.parts) (turns_of seat (seats_of before))

numbered-more : (s : Setting) (seat : ℕ) (before : List Entry) (entry : Entry) → IsLegalStep s before entry → AreNumbered seat before → AreNumbered seat (before ++ entry ∷ [])
unfolding AreNumbered
numbered-more s seat before entry step so_far = elim (cases_eq entry.seat seat) [
  | inl own ↦
      let count = turns_of seat (seats_of before) in
      let turns : turns_of seat (seats_of (before ++ entry ∷ [])) ≡ count + 1 =
      ap (turns_of seat) (map_push (λ (e : Entry). e.seat) before entry ∙ ap (λ n. seats_of before ++ n ∷ []) own) ∙ turns_of-own seat (seats_of before) in
      let number : entry.number ≡ count = ap (λ (e : Entry). e.number) step.next ∙ next-number s before entry.seat ∙ ap (λ n. turns_of n (seats_of before)) own in
      ap (map (λ (e : Entry). e.number)) (filter-own seat before entry own) ∙ map_push (λ (e : Entry). e.number) (entries_of_seat seat before) entry
      ∙ ap (λ ns. ns ++ entry.number ∷ []) so_far ∙ ap (λ n. range_with_len 0 count ++ n ∷ []) number
      ∙ sym (range-more count) ∙ ap (range_with_len 0) (sym turns)
  | inr other ↦
      ap (map (λ (e : Entry). e.number)) (filter-other seat before entry other) ∙ so_far
      ∙ ap (range_with_len 0) (sym (ap (turns_of seat) (map_push (λ (e : Entry). e.seat) before entry) ∙ turns_of-other seat entry.seat (seats_of before) other))
]

numbered : (s : Setting) (seat : ℕ) (history : List Entry) → IsLegalHistory s history → AreNumbered seat history
unfolding AreNumbered
numbered s seat history legal = legal-induction s (AreNumbered seat) history legal refl (λ before entry step so_far. numbered-more s seat before entry step so_far)

-- ---- plans

starting_zone-allowed : (parts : Parts) (prop seed run unit : ℕ) → IsValid parts → unit < unit_count parts → IsTrue (is_allowed parts unit (starting_zone parts prop seed run unit))
starting_zone-allowed parts prop seed run unit valid within =
    let zones = allowed_zones parts unit in
    let some = some_allowed parts unit valid within in
    let first = allowed_at parts unit 0 zones refl some in
    elim (cases_Bool (is_free parts unit)) [
      | inl free ↦ elim (cases_Bool (is_drawn prop (word_at seed run start_seat (2 * free_before parts unit)))) [
        | inl drawn ↦
            let place = pick_of (length zones) (word_at seed run start_seat (2 * free_before parts unit + 1)) in
            rw (free, drawn) (allowed_at parts unit place zones refl (pick_of-lt (length zones) _ some (word_at-lt seed run start_seat (2 * free_before parts unit + 1))))
        | inr still ↦ elim (cases_Bool (is_allowed parts unit parts.available)) [
          | inl may ↦ rw (free, still, may) may
          | inr may_not ↦ rw (free, still, may_not) first
        ]
      ]
      | inr fixed ↦ rw fixed first
    ]

starting_plan-legal : (parts : Parts) (prop seed run : ℕ) → IsValid parts → IsLegalPlan parts (starting_plan parts prop seed run)
unfolding starting_plan
starting_plan-legal parts prop seed run valid = record {
  whole = length-list_below (unit_count parts) (starting_zone parts prop seed run);
  allowed = λ unit within. subst (λ zone. IsTrue (is_allowed parts unit zone)) (sym (get_or-list_below (unit_count parts) unit (starting_zone parts prop seed run) 0 within)) (starting_zone-allowed parts prop seed run unit valid within);
}

-- a plan with one unit in another of its allowed zones is legal
set-legal : (parts : Parts) (plan : List ℕ) (unit zone : ℕ) → IsLegalPlan parts plan → unit < unit_count parts → IsTrue (is_allowed parts unit zone) → IsLegalPlan parts (moved_plan plan unit zone)
set-legal parts plan unit zone legal within may = record {
  whole = length-set plan unit zone ∙ legal.whole;
  allowed = λ k there. elim (cases_eq k unit) [
    | inl e ↦ subst (λ u. IsTrue (is_allowed parts u (slice_index (moved_plan plan unit zone) u))) (sym e) (subst (λ z. IsTrue (is_allowed parts unit z)) (sym (get_or-set_same plan unit zone 0 (omega (arith, legal.whole)))) may)
    | inr other ↦ subst (λ z. IsTrue (is_allowed parts k z)) (sym (get_or-set_other plan unit k zone 0 other)) (legal.allowed k there)
  ];
}

-- the plan after an accepted entry, and after a refused one
pub after-accepted : (plan : List ℕ) (entry : Entry) → entry.accepted ≡ true → plan_after plan entry ≡ moved_plan plan entry.unit entry.new
after-accepted plan entry taken = rw taken refl

pub after-refused : (plan : List ℕ) (entry : Entry) → entry.accepted ≡ false → plan_after plan entry ≡ plan
after-refused plan entry refused = rw refused refl

-- the plan after a draw's entry is legal
after-legal : (s : Setting) (before : List Entry) (seat : ℕ) → IsValid s.parts → IsLegalPlan s.parts (plan_of_history s before) → IsLegalPlan s.parts (plan_after (plan_of_history s before) (entry_of_seat s before seat))
after-legal s before seat valid legal =
    let plan = plan_of_history s before in let entry = entry_of_seat s before seat in
    elim (cases_Bool entry.accepted) [
      | inl taken ↦ subst (IsLegalPlan s.parts) (sym (after-accepted plan entry taken)) (elim (leb_tells (unit_count s.parts) entry.unit) [
        | inl past ↦ subst (IsLegalPlan s.parts) (sym (set_out plan entry.unit entry.new (omega (arith, legal.whole, past.1)))) legal
        | inr within ↦ set-legal s.parts plan entry.unit entry.new legal within.1
            (step_of-allowed s.parts entry.unit (slice_index plan entry.unit) (next_draw s.parts s.seed s.run before seat).shift valid within.1 (legal.allowed entry.unit within.1)).allowed
      ])
      | inr refused ↦ subst (IsLegalPlan s.parts) (sym (after-refused plan entry refused)) legal
    ]

pub last_plan-legal : (s : Setting) (history : List Entry) → IsValid s.parts → IsLegalHistory s history → IsLegalPlan s.parts (plan_of_history s history)
last_plan-legal s history valid legal =
    legal-induction s (λ h. IsLegalPlan s.parts (plan_of_history s h)) history legal (starting_plan-legal s.parts s.prop s.seed s.run valid)
    (λ before entry step so_far. subst (IsLegalPlan s.parts) (sym (plan-push s before entry ∙ ap (plan_after (plan_of_history s before)) step.next)) (after-legal s before entry.seat valid so_far))

-- all that callers need of a legal history of a problem
pub legal-history : (s : Setting) (history : List Entry) → IsValid s.parts → IsLegalHistory s history → IsHistory s history
unfolding AreNumbered
legal-history s history valid legal = record {
  beginnings = λ n. legal-take s history n legal;
  numbers = λ seat. numbered s seat history legal;
  last_plan = last_plan-legal s history valid legal;
}

-- the journal of a world is sound
pub sound : (w : WorldState) (plan : List ℕ) (score : Score) (room : ℕ) → IsWorld w plan score room → IsSound w
sound w plan score room is = record {
  legal = is.journal.history;
  history = legal-history w.setting w.core.journal is.playable.valid is.journal.history;
  few = is.journal.few;
  owners = is.journal.owners;
}
