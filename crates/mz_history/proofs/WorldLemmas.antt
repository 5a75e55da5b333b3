-- The core, event by event, and what a world keeps.
use Rattle.std.proofs.Common.{◌≡◌, ℕ, ◌+◌, ◌<◌, ◌≤◌, ◌^◌, true, false, List, [], ◌∷◌, ◌++◌, length, get_or, set, take, Some, None, refl, sym, ap, ◌∙◌, subst, arith, length-append}
use Rattle.std.specs.Prelude.{slice_get}
use Rattle.std.specs.List.{All}
use Rattle.std.proofs.Math.ListN.{length-set}
use Rattle.std.proofs.lemmas.Bool.{eq-eqb, ne_eqb}
use Rattle.std.proofs.lemmas.List.{length-map, map_push, take_more}
use Rattle.std.proofs.lemmas.Option.{none-some}
use Rattle.std.proofs.lemmas.List.Elements.{All-nil, All-push, All-set, All-from_get_or}
use Rattle.mz_cool.specs.Schedule.{Cooling}
use Rattle.mz_draw.specs.declared.draw.Draw.{Draw}
use Rattle.mz_num.specs.Places.{list_below}
use Rattle.mz_num.proofs.PlaceLaws.{get_or-list_below, length-list_below}
use Rattle.mz_model.specs.declared.parts.Parts.{Parts}
use Rattle.mz_model.specs.declared.score.Score.{Score}
use Rattle.mz_model.specs.Plans.{IsLegalPlan}
use Rattle.mz_model.specs.Scores.{score_of_plan}
use Rattle.mz_model.specs.Valid.{IsValid}
use Rattle.mz_model.specs.Zones.{free_units}
use Rattle.mz_history.specs.declared.rules.Rules.{Rules}
use Rattle.mz_history.specs.declared.entry.Entry.{Entry}
use Rattle.mz_history.specs.declared.event.Reply.{Reply}
use Rattle.mz_history.specs.declared.event.Reply.TheVariants.{Looked, Decided, Again, Full, Strange}
use Rattle.mz_history.specs.declared.seat.SeatReading.{SeatReading}
use Rattle.mz_history.specs.declared.seat.SeatState.{SeatState}
use Rattle.mz_history.specs.Core.{answered, commit, committed, Core, entry_of_seat, is_in_sight, look, new_seat, next_draw, reading_of, seats_of, spent, with_seat}
use Rattle.mz_history.specs.Entry.{next_entry, plan_after}
use Rattle.mz_history.specs.Moves.{IsMove}
use Rattle.mz_history.specs.Replay.{entries_from, plan_of_history, replay_of, Setting, turns_of}
use Rattle.mz_history.specs.Rules.{IsRules, setting_with}
use Rattle.mz_history.specs.Start.{starting_plan}
use Rattle.mz_history.specs.Verdict.{overtaking_entry, verdict_if, verdict_of}
use Rattle.mz_history.specs.World.{IsJournal, IsPlayable, IsSeat, IsWorld, WorldState}
use Rattle.mz_history.proofs.HistoryLaws.{legal-push, plan-push, turns_of-other, turns_of-own}

-- ---- turns of a seat in a journal

one_more : (journal : List Entry) (i : ℕ) (d : Entry) → i < length journal → seats_of (take (i + 1) journal) ≡ seats_of (take i journal) ++ (get_or journal i d).seat ∷ []
one_more journal i d within = ap seats_of (take_more journal i d within) ∙ map_push (λ (e : Entry). e.seat) (take i journal) (get_or journal i d)

pub turns-own : (journal : List Entry) (i seat turns : ℕ) (d : Entry) → i < length journal → turns ≡ turns_of seat (seats_of (take i journal)) → (get_or journal i d).seat ≡ seat → turns + 1 ≡ turns_of seat (seats_of (take (i + 1) journal))
turns-own journal i seat turns d within so_far own =
    ap (λ (n : ℕ). n + 1) so_far ∙ sym (ap (turns_of seat) (one_more journal i d within ∙ ap (λ (n : ℕ). seats_of (take i journal) ++ n ∷ []) own) ∙ turns_of-own seat (seats_of (take i journal)))

pub turns-other : (journal : List Entry) (i seat turns : ℕ) (d : Entry) → i < length journal → turns ≡ turns_of seat (seats_of (take i journal)) → ((get_or journal i d).seat ≡ seat → ⊥) → turns ≡ turns_of seat (seats_of (take (i + 1) journal))
turns-other journal i seat turns d within so_far other =
    so_far ∙ sym (ap (turns_of seat) (one_more journal i d within) ∙ turns_of-other seat (get_or journal i d).seat (seats_of (take i journal)) other)

-- ---- the answers of a commit

pub commit-strange : (s : Setting) (limit seat : ℕ) (core : Core) → reading_of (slice_get core.seats seat) ≡ None → commit s limit core seat ≡ (Strange, core)
commit-strange s limit seat core none = ap (committed s limit core seat) none

pub commit-full : (s : Setting) (limit seat : ℕ) (core : Core) (reading : SeatReading) → reading_of (slice_get core.seats seat) ≡ Some reading → length core.journal ≡ limit → commit s limit core seat ≡ (Full, spent core seat)
commit-full s limit seat core reading read all = ap (committed s limit core seat) read ∙ rw (eq-eqb (length core.journal) limit all) refl

pub commit-again : (s : Setting) (limit seat position : ℕ) (core : Core) (reading : SeatReading) → reading_of (slice_get core.seats seat) ≡ Some reading → (length core.journal ≡ limit → ⊥)
    → overtaking_entry s.parts core.journal reading.front reading.unit ≡ Some position → commit s limit core seat ≡ (Again position, spent core seat)
commit-again s limit seat position core reading read some_left overtaken =
    let verdict : verdict_of s.parts core.journal limit reading.front reading.unit ≡ verdict_if (Some position) = rw (ne_eqb (length core.journal) limit some_left) (ap verdict_if overtaken) in
    ap (committed s limit core seat) read ∙ ap (answered s core seat) verdict

pub commit-decided : (s : Setting) (limit seat : ℕ) (core : Core) (reading : SeatReading) → reading_of (slice_get core.seats seat) ≡ Some reading → (length core.journal ≡ limit → ⊥)
    → overtaking_entry s.parts core.journal reading.front reading.unit ≡ None
    → commit s limit core seat ≡ (Decided (entry_of_seat s core.journal seat), spent (record core { journal = core.journal ++ entry_of_seat s core.journal seat ∷ [] }) seat)
commit-decided s limit seat core reading read some_left free =
    let verdict : verdict_of s.parts core.journal limit reading.front reading.unit ≡ verdict_if None = rw (ne_eqb (length core.journal) limit some_left) (ap verdict_if free) in
    ap (committed s limit core seat) read ∙ ap (answered s core seat) verdict

-- ---- the answers of a look

pub look-looked : (s : Setting) (seat front unit : ℕ) (core : Core) → is_in_sight (length core.journal) front (slice_get core.seats seat) ≡ true → unit ≡ (next_draw s.parts s.seed s.run core.journal seat).unit
    → look s core seat front ≡ (Looked, with_seat core seat (record { seen = front; reading = Some (record { front = front; unit = unit }) }))
look-looked s seat front unit core sees drawn =
    rw sees (ap (λ (u : ℕ). let answer : Reply × Core = (Looked, with_seat core seat (record { seen = front; reading = Some (record { front = front; unit = u }) })) in answer) (sym drawn))

pub look-strange : (s : Setting) (seat front : ℕ) (core : Core) → is_in_sight (length core.journal) front (slice_get core.seats seat) ≡ false → look s core seat front ≡ (Strange, core)
look-strange s seat front core hidden = rw hidden refl

-- ---- what a world keeps

pub seat_kept : (w : WorldState) (plan : List ℕ) (score : Score) (room seat : ℕ) (state : SeatState) → IsWorld w plan score room → IsSeat w.setting w.core.journal state → IsWorld (record w { core = with_seat w.core seat state }) plan score room
seat_kept w plan score room seat state is own =
    let same : length w.core.seats ≡ length (set w.core.seats seat state) = sym (length-set w.core.seats seat state) in record {
      playable = subst (IsPlayable w.setting w.limit) same is.playable;
      journal = subst (λ n. IsJournal w.setting w.limit n w.core.journal) same is.journal;
      seats = All-set (IsSeat w.setting w.core.journal) w.core.seats seat state own is.seats;
      played = is.played;
      room_is = is.room_is;
    }

later : (s : Setting) (journal : List Entry) (entry : Entry) (state : SeatState) → IsSeat s journal state → IsSeat s (journal ++ entry ∷ []) state
later s journal entry state is = record { seen = omega (arith, is.seen, length-append journal (entry ∷ [])); unit = is.unit }

pub entry_kept : (w : WorldState) (plan plan' : List ℕ) (score score' : Score) (room seat : ℕ) (entry : Entry) → IsWorld w plan score room → seat < length w.core.seats → length w.core.journal < w.limit
    → entry ≡ entry_of_seat w.setting w.core.journal seat → IsMove w.setting.parts entry → plan' ≡ plan_after plan entry → IsLegalPlan w.setting.parts plan' → score' ≡ score_of_plan w.setting.parts plan' → score'.total ≤ 10 ^ 25
    → IsWorld (record w { core = record w.core { journal = w.core.journal ++ entry ∷ [] } }) plan' score' room
entry_kept w plan plan' score score' room seat entry is within some_left next moves moved legal scored small =
    let own : entry.seat ≡ seat = ap (λ (e : Entry). e.seat) next in record {
      playable = is.playable;
      journal = record {
        history = legal-push w.setting w.core.journal seat entry is.journal.history next;
        few = omega (arith, length-append w.core.journal (entry ∷ []));
        owners = All-push (λ (e : Entry). e.seat < length w.core.seats) w.core.journal entry is.journal.owners (omega (arith, own));
        moves = All-push (IsMove w.setting.parts) w.core.journal entry is.journal.moves moves;
      };
      seats = λ k d h. later w.setting w.core.journal entry _ (is.seats k d h);
      played = record {
        plan_is = moved ∙ ap (λ (p : List ℕ). plan_after p entry) is.played.plan_is ∙ sym (plan-push w.setting w.core.journal entry);
        legal = legal;
        score_is = scored;
        small = small;
      };
      room_is = is.room_is;
    }

-- the entry that is decided by a seat's next draw
pub seat_entry : (s : Setting) (parts : Parts) (cooling : Cooling) (journal : List Entry) (plan : List ℕ) (len seat : ℕ) (draw : Draw) (entry : Entry) → parts ≡ s.parts → cooling ≡ s.cooling → plan ≡ plan_of_history s journal → len ≡ length journal
    → draw ≡ next_draw parts s.seed s.run journal seat → entry ≡ next_entry parts cooling plan len seat draw → entry ≡ entry_of_seat s journal seat
seat_entry s parts cooling journal plan len seat draw entry same cools so_far all drawn decided =
    decided ∙ ap (next_entry parts cooling plan len seat) drawn
    ∙ ap (λ (p : Parts). next_entry p cooling plan len seat (next_draw p s.seed s.run journal seat)) same
    ∙ ap (λ (c : Cooling). next_entry s.parts c plan len seat (next_draw s.parts s.seed s.run journal seat)) cools
    ∙ ap (λ (p : List ℕ). next_entry s.parts s.cooling p len seat (next_draw s.parts s.seed s.run journal seat)) so_far
    ∙ ap (λ (n : ℕ). next_entry s.parts s.cooling (plan_of_history s journal) n seat (next_draw s.parts s.seed s.run journal seat)) (all ∙ sym (length-map journal (λ (e : Entry). e.seat)))

-- one entry more, and its seat has seen the whole journal
pub added_kept : (w : WorldState) (plan plan' : List ℕ) (score score' : Score) (room room' seat seen : ℕ) (entry : Entry) (journal' : List Entry) → IsWorld w plan score room → seat < length w.core.seats → length w.core.journal < w.limit
    → entry ≡ entry_of_seat w.setting w.core.journal seat → IsMove w.setting.parts entry → plan' ≡ plan_after plan entry → IsLegalPlan w.setting.parts plan' → score' ≡ score_of_plan w.setting.parts plan' → score'.total ≤ 10 ^ 25
    → journal' ≡ w.core.journal ++ entry ∷ [] → room' ≡ room → seen ≡ length w.core.journal + 1
    → IsWorld (record w { core = record { journal = journal'; seats = set w.core.seats seat (record { seen = seen; reading = None }) } }) plan' score' room'
added_kept w plan plan' score score' room room' seat seen entry journal' is within some_left next moves moved legal scored small more kept all =
    let grown : WorldState = record w { core = record w.core { journal = w.core.journal ++ entry ∷ [] } } in
    let so_far : IsWorld grown plan' score' room = entry_kept w plan plan' score score' room seat entry is within some_left next moves moved legal scored small in
    let own : IsSeat grown.setting grown.core.journal (record { seen = seen; reading = None }) = record { seen = omega (arith, length-append w.core.journal (entry ∷ [])); unit = λ reading none_read. absurd (none-some reading none_read) } in
    let with_own : IsWorld (record grown { core = with_seat grown.core seat (record { seen = seen; reading = None }) }) plan' score' room = seat_kept grown plan' score' room seat (record { seen = seen; reading = None }) so_far own in
    subst (λ (js : List Entry). IsWorld (record w { core = record { journal = js; seats = set w.core.seats seat (record { seen = seen; reading = None }) } }) plan' score' room') (sym more)
    (subst (λ (n : ℕ). IsWorld (record w { core = record { journal = w.core.journal ++ entry ∷ []; seats = set w.core.seats seat (record { seen = seen; reading = None }) } }) plan' score' n) (sym kept) with_own)

-- an empty journal, and seats that have seen and read nothing
pub opened : (parts : Parts) (rules : Rules) (seed run seats room : ℕ) (journal : List Entry) (states : List SeatState) (plan : List ℕ) (score : Score) → IsRules rules → run ≤ 1000 → 0 < length (free_units parts) → seats ≤ 60 → IsValid parts
    → journal ≡ [] → states ≡ list_below seats (λ _. new_seat) → rules.limit ≤ room
    → plan ≡ starting_plan parts rules.prop seed run → IsLegalPlan parts plan → score ≡ score_of_plan parts plan → score.total ≤ 10 ^ 25
    → IsWorld (record { setting = setting_with parts rules seed run; limit = rules.limit; core = record { journal = journal; seats = states } }) plan score room
unfolding entries_from
opened parts rules seed run seats room journal states plan score is runs some_free few valid none fresh wide starts legal scored small =
    let count : length states ≡ seats = ap length fresh ∙ length-list_below seats (λ _. new_seat) in
    let empty : length journal ≡ 0 = ap length none in record {
      playable = record { valid = valid; some_free = some_free; runs = runs; few = is.few; own_limit = is.own_limit; workers = omega arith };
      journal = record {
        history = none ∙ ap (λ (es : List Entry). replay_of (setting_with parts rules seed run) (seats_of es)) (sym none);
        few = omega arith;
        owners = subst (All (λ (e : Entry). e.seat < length states)) (sym none) (All-nil (λ (e : Entry). e.seat < length states));
        moves = subst (All (IsMove parts)) (sym none) (All-nil (IsMove parts));
      };
      seats = subst (All (IsSeat (setting_with parts rules seed run) journal)) (sym fresh) (All-from_get_or (IsSeat (setting_with parts rules seed run) journal) (list_below seats (λ _. new_seat)) new_seat
          (λ i h. subst (IsSeat (setting_with parts rules seed run) journal) (sym (get_or-list_below seats i (λ _. new_seat) new_seat (omega (arith, length-list_below seats (λ _. new_seat)))))
          (record { seen = omega arith; unit = λ reading none_read. absurd (none-some reading none_read) })));
      played = record {
        plan_is = starts ∙ ap (λ (es : List Entry). plan_of_history (setting_with parts rules seed run) es) (sym none);
        legal = legal;
        score_is = scored;
        small = small;
      };
      room_is = wide;
    }
