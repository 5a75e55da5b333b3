-- Laws of histories: one entry more, and what turns play.
use Rattle.std.proofs.Common.{◌≡◌, ℕ, ◌+◌, ◌*◌, ◌≤◌, ◌==◌, cond, List, [], ◌∷◌, ◌++◌, length, map, refl, sym, ap, ◌∙◌, append_assoc, arith}
use Rattle.std.proofs.lemmas.Bool.{eq-eqb, ne_eqb}
use Rattle.std.proofs.lemmas.List.{append-nil, map_push}
use Rattle.std.proofs.lemmas.List.Sums.{count_by-le-length, sum_by-append}
use Rattle.mz_draw.specs.declared.draw.Draw.{Draw}
use Rattle.mz_draw.specs.Draws.{draw_at}
use Rattle.mz_draw.specs.Words.{SeatWords}
use Rattle.mz_model.specs.Zones.{free_units, counts_of}
use Rattle.mz_history.specs.declared.entry.Entry.{Entry}
use Rattle.mz_history.specs.Entry.{next_entry, plan_after}
use Rattle.mz_history.specs.Replay.{Setting, turns_of, entry_of_turn, entries_from, replay_of, plan_after_all, plan_of_history, IsLegalHistory}
use Rattle.mz_history.specs.Start.{starting_plan}

-- ---- one entry more

pub plan_after_all-push : (plan : List ℕ) (entries : List Entry) (entry : Entry) → plan_after_all plan (entries ++ entry ∷ []) ≡ plan_after (plan_after_all plan entries) entry
plan_after_all-push plan [] entry = refl
plan_after_all-push plan (e ∷ entries) entry = plan_after_all-push (plan_after plan e) entries entry

entries_from-push : (s : Setting) (earlier plan turns : List ℕ) (seat : ℕ)
    → entries_from s earlier plan (turns ++ seat ∷ []) ≡ entries_from s earlier plan turns ++ entry_of_turn s (earlier ++ turns) (plan_after_all plan (entries_from s earlier plan turns)) seat ∷ []
unfolding entries_from
entries_from-push s earlier plan [] seat = ap (λ before. entry_of_turn s before plan seat ∷ []) (sym (append-nil earlier))
entries_from-push s earlier plan (turn ∷ turns) seat =
    ap (λ more. entry_of_turn s earlier plan turn ∷ more)
    (entries_from-push s (earlier ++ turn ∷ []) (plan_after plan (entry_of_turn s earlier plan turn)) turns seat
    ∙ ap (λ before. entries_from s (earlier ++ turn ∷ []) (plan_after plan (entry_of_turn s earlier plan turn)) turns
    ++ entry_of_turn s before (plan_after_all (plan_after plan (entry_of_turn s earlier plan turn)) (entries_from s (earlier ++ turn ∷ []) (plan_after plan (entry_of_turn s earlier plan turn)) turns)) seat ∷ []) (append_assoc earlier (turn ∷ []) turns))

-- the plan after one turn more
pub plan_of_history-push : (s : Setting) (turns : List ℕ) (seat : ℕ)
    → plan_of_history s (replay_of s (turns ++ seat ∷ [])) ≡ plan_after (plan_of_history s (replay_of s turns)) (entry_of_turn s turns (plan_of_history s (replay_of s turns)) seat)
plan_of_history-push s turns seat =
    let start = starting_plan s.parts s.prop s.seed s.run in
    ap (plan_after_all start) (entries_from-push s [] start turns seat) ∙ plan_after_all-push start (entries_from s [] start turns) _

-- the entries after one turn more
pub replay_of-push : (s : Setting) (turns : List ℕ) (seat : ℕ) → replay_of s (turns ++ seat ∷ []) ≡ replay_of s turns ++ entry_of_turn s turns (plan_of_history s (replay_of s turns)) seat ∷ []
replay_of-push s turns seat = entries_from-push s [] (starting_plan s.parts s.prop s.seed s.run) turns seat

-- ---- turns of a seat

pub turns_of-own : (seat : ℕ) (turns : List ℕ) → turns_of seat (turns ++ seat ∷ []) ≡ turns_of seat turns + 1
turns_of-own seat turns = sum_by-append (λ turn. cond (turn == seat) 1 0) turns (seat ∷ []) ∙ ap (λ b. turns_of seat turns + (0 + cond b 1 0)) (eq-eqb seat seat refl)

pub turns_of-other : (seat other : ℕ) (turns : List ℕ) → (other ≡ seat → ⊥) → turns_of seat (turns ++ other ∷ []) ≡ turns_of seat turns
turns_of-other seat other turns apart =
    let more : turns_of seat (turns ++ other ∷ []) ≡ turns_of seat turns + (0 + 0) = sum_by-append (λ turn. cond (turn == seat) 1 0) turns (other ∷ []) ∙ ap (λ b. turns_of seat turns + (0 + cond b 1 0)) (ne_eqb other seat apart) in
    omega arith

pub turns_of-le : (seat : ℕ) (turns : List ℕ) → turns_of seat turns ≤ length turns
turns_of-le seat turns = count_by-le-length (λ turn. turn == seat) turns

-- ---- the entry of a turn

-- the entry that is made of a history's plan by the draw of a drawer that stands at its seat's next draw
pub turn-entry : (s : Setting) (turns plan free counts : List ℕ) (position seat : ℕ) (words : SeatWords) (draw : Draw) (entry : Entry)
    → plan ≡ plan_of_history s (replay_of s turns) → position ≡ length turns
    → words ≡ record { seed = s.seed; run = s.run; seat = seat; taken = 3 * turns_of seat turns } → free ≡ free_units s.parts → counts ≡ counts_of s.parts
    → ((k : ℕ) → words.taken ≡ 3 * k → draw ≡ draw_at words.seed words.run words.seat free counts k)
    → entry ≡ next_entry s.parts s.cooling plan position seat draw
    → entry ≡ entry_of_turn s turns (plan_of_history s (replay_of s turns)) seat
turn-entry s turns plan free counts position seat words draw entry so_far place stands units zones drawn decided =
    let k = turns_of seat turns in
    let own : draw ≡ draw_at s.seed s.run seat (free_units s.parts) (counts_of s.parts) k =
    drawn k (ap (λ (w : SeatWords). w.taken) stands)
    ∙ ap (λ (w : SeatWords). draw_at w.seed w.run w.seat free counts k) stands
    ∙ ap (λ (f : List ℕ). draw_at s.seed s.run seat f counts k) units
    ∙ ap (λ (c : List ℕ). draw_at s.seed s.run seat (free_units s.parts) c k) zones in
    decided ∙ ap (next_entry s.parts s.cooling plan position seat) own
    ∙ ap (λ (n : ℕ). next_entry s.parts s.cooling plan n seat (draw_at s.seed s.run seat (free_units s.parts) (counts_of s.parts) k)) place
    ∙ ap (λ (p : List ℕ). entry_of_turn s turns p seat) so_far

-- the seats of the entries are the turns
seats_of_entries : (s : Setting) (earlier plan turns : List ℕ) → map (λ (entry : Entry). entry.seat) (entries_from s earlier plan turns) ≡ turns
unfolding entries_from
seats_of_entries s earlier plan [] = refl
seats_of_entries s earlier plan (seat ∷ turns) =
    ap (λ (more : List ℕ). seat ∷ more) (seats_of_entries s (earlier ++ seat ∷ []) (plan_after plan (entry_of_turn s earlier plan seat)) turns)

-- what turns play is a legal history
pub replay_of-legal : (s : Setting) (turns : List ℕ) → IsLegalHistory s (replay_of s turns)
replay_of-legal s turns = ap (replay_of s) (sym (seats_of_entries s [] (starting_plan s.parts s.prop s.seed s.run) turns))

-- ---- laws of legal histories

-- a history with the next entry of some seat behind it is legal
pub legal-push : (s : Setting) (history : List Entry) (seat : ℕ) (entry : Entry) → IsLegalHistory s history → entry ≡ entry_of_turn s (map (λ (e : Entry). e.seat) history) (plan_of_history s history) seat
    → IsLegalHistory s (history ++ entry ∷ [])
legal-push s history seat entry legal next =
    let turns = map (λ (e : Entry). e.seat) history in
    let own : entry.seat ≡ seat = ap (λ (e : Entry). e.seat) next in
    let played : history ++ entry ∷ [] ≡ replay_of s (turns ++ seat ∷ []) =
    ap (λ (es : List Entry). es ++ entry ∷ []) legal
    ∙ ap (λ (e : Entry). replay_of s turns ++ e ∷ []) (next ∙ ap (λ (es : List Entry). entry_of_turn s turns (plan_of_history s es) seat) legal)
    ∙ sym (replay_of-push s turns seat) in
    played ∙ ap (λ (ts : List ℕ). replay_of s ts) (sym (map_push (λ (e : Entry). e.seat) history entry ∙ ap (λ (n : ℕ). turns ++ n ∷ []) own))

pub plan-push : (s : Setting) (history : List Entry) (entry : Entry) → plan_of_history s (history ++ entry ∷ []) ≡ plan_after (plan_of_history s history) entry
plan-push s history entry = plan_after_all-push (starting_plan s.parts s.prop s.seed s.run) history entry
