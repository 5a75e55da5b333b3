-- One decided move more: what a kept state keeps.
use Rattle.std.proofs.Common.{◌≡◌, ℕ, ◌+◌, ◌<◌, ◌≤◌, ◌^◌, ◌==◌, Bool, true, false, cond, ℤ, pos, ◌-ℤ◌, List, [], ◌∷◌, ◌++◌, length, get_or, set, refl, sym, ap, subst, ◌∙◌, arith, length-append, length-set}
use Rattle.std.specs.Prelude.{IsTrue, not, slice_index, unsigned_abs, if◌then◌else◌}
use Rattle.std.proofs.lemmas.Bool.{eq-eqb, ne_eqb}
use Rattle.std.proofs.lemmas.Int.{ints}
use Rattle.std.proofs.lemmas.List.{length-map, map_push}
use Rattle.std.proofs.lemmas.List.Elements.{All-push}
use Rattle.mz_num.specs.Places.{list_below}
use Rattle.mz_num.proofs.PlaceLaws.{get_or-list_below, list_below-same, list_below-set}
use Rattle.mz_cool.specs.Acceptance.{is_accepted}
use Rattle.mz_cool.specs.Schedule.{Cooling, temperature_at}
use Rattle.mz_model.specs.declared.parts.Parts.{Parts}
use Rattle.mz_model.specs.declared.score.Score.{Score}
use Rattle.mz_model.specs.Items.{Item, row_item, unit_item}
use Rattle.mz_model.specs.Move.{change_of_score, moved_plan}
use Rattle.mz_model.specs.Parts.{target_count, unit_count}
use Rattle.mz_model.specs.Plans.{IsLegalPlan}
use Rattle.mz_model.specs.Scores.{score_of_plan}
use Rattle.mz_model.specs.Targets.{gain_of}
use Rattle.mz_model.specs.Valid.{IsValid}
use Rattle.mz_model.specs.Zones.{is_allowed, step_of}
use Rattle.mz_model.proofs.ScoreLaws.{score-le}
use Rattle.mz_model.proofs.ZoneLaws.{step_of-allowed}
use Rattle.mz_delta.specs.declared.judged.Judged.{Judged}
use Rattle.mz_delta.specs.Judged.{IsDifference}
use Rattle.mz_delta.proofs.MoveLaws.{moved-legal}
use Rattle.mz_history.specs.declared.entry.Entry.{Entry}
use Rattle.mz_history.specs.Core.{entry_of_seat, next_draw, seats_of}
use Rattle.mz_history.specs.Entry.{drawn_zone, plan_after}
use Rattle.mz_history.specs.Moves.{IsMove}
use Rattle.mz_history.specs.Replay.{plan_of_history, turns_of}
use Rattle.mz_history.proofs.HistoryLaws.{legal-push, plan-push, turns_of-le, turns_of-other, turns_of-own}
use Rattle.mz_state.specs.Kept.{AreVersions, Keeps, KeptState}
use Rattle.mz_state.specs.NextMove.{IsNextMove}
use Rattle.mz_state.specs.Standing.{IsMoveFrom, IsPosition}
use Rattle.mz_state.specs.Versions.{raised_rows, version_of}
use Rattle.mz_state.proofs.VersionLaws.{last_accepted-push, version-push}

-- ---- the move that is decided

moves-here : (k : KeptState) (draws plan totals : List ℕ) (score : Score) (units rows : List ℕ) (last room : ℕ) (judged : Judged) → Keeps k draws plan totals score units rows last room → judged.unit < unit_count k.setting.parts → IsNextMove k judged
    → IsMoveFrom k.setting.parts plan judged
moves-here k draws plan totals score units rows last room judged keeps within next =
    let s = k.setting in let parts = s.parts in let old = plan_of_history s k.journal in
    let draw = next_draw parts s.seed s.run k.journal judged.seat in
    let is : plan ≡ old = keeps.agrees.played.plan_is in
    let legal : IsLegalPlan parts plan = keeps.agrees.played.legal in
    let zone : judged.new ≡ step_of parts judged.unit (slice_index plan judged.unit) draw.shift =
    next.new ∙ ap (λ (u : ℕ). step_of parts u (slice_index old u) draw.shift) (sym next.unit) ∙ ap (λ (p : List ℕ). step_of parts judged.unit (slice_index p judged.unit) draw.shift) (sym is) in
    let stepped = step_of-allowed parts judged.unit (slice_index plan judged.unit) draw.shift keeps.kept.valid within (legal.allowed judged.unit within) in
    let one : IsDifference parts old (moved_plan old draw.unit judged.new) judged = subst (λ (z : ℕ). IsDifference parts old (moved_plan old draw.unit z) judged) (sym next.new) next.difference in
    let two : IsDifference parts old (moved_plan old judged.unit judged.new) judged = subst (λ (u : ℕ). IsDifference parts old (moved_plan old u judged.new) judged) (sym next.unit) one in record {
      legal = legal;
      unit = within;
      from = next.old ∙ ap (λ (u : ℕ). slice_index old u) (sym next.unit) ∙ ap (λ (p : List ℕ). slice_index p judged.unit) (sym is);
      allowed = subst (λ (z : ℕ). IsTrue (is_allowed parts judged.unit z)) (sym zone) stepped.allowed;
      difference = subst (λ (p : List ℕ). IsDifference parts p (moved_plan p judged.unit judged.new) judged) (sym is) two;
    }

pub moves-from : (k now : KeptState) (draws plan totals : List ℕ) (score : Score) (units rows : List ℕ) (last room : ℕ) (parts : Parts) (judged : Judged) → k ≡ now → Keeps k draws plan totals score units rows last room → parts ≡ now.setting.parts
    → judged.unit < unit_count parts → IsNextMove now judged → IsMoveFrom parts plan judged
moves-from k now draws plan totals score units rows last room parts judged same keeps own within next =
    let there : parts ≡ k.setting.parts = own ∙ sym (ap (λ (k : KeptState). k.setting.parts) same) in
    subst (λ (p : Parts). IsMoveFrom p plan judged) (sym there)
    (moves-here k draws plan totals score units rows last room judged keeps (subst (λ (p : Parts). judged.unit < unit_count p) there within) (subst (λ (k : KeptState). IsNextMove k judged) (sym same) next))

difference-small : (a b m : ℕ) → a ≤ m → b ≤ m → unsigned_abs (pos a -ℤ pos b) ≤ m
difference-small a b m one other = omega (arith, ints)

pub move-small : (parts : Parts) (plan : List ℕ) (judged : Judged) → IsValid parts → IsMoveFrom parts plan judged → unsigned_abs judged.change ≤ 10 ^ 25
move-small parts plan judged valid moves =
    let after = moved_plan plan judged.unit judged.new in
    subst (λ (d : ℤ). unsigned_abs d ≤ 10 ^ 25) (sym moves.difference.total)
    (difference-small (score_of_plan parts after).total (score_of_plan parts plan).total (10 ^ 25) (score-le parts after valid (moved-legal parts plan judged.unit judged.new moves.legal moves.unit moves.allowed)) (score-le parts plan valid moves.legal))

pub kept-valid : (k now : KeptState) (draws plan totals : List ℕ) (score : Score) (units rows : List ℕ) (last room : ℕ) (parts : Parts) → k ≡ now → Keeps k draws plan totals score units rows last room → parts ≡ now.setting.parts → IsValid parts
kept-valid k now draws plan totals score units rows last room parts same keeps own = subst IsValid (sym (own ∙ sym (ap (λ (k : KeptState). k.setting.parts) same))) keeps.kept.valid

pub draw-small : (k now : KeptState) (draws plan totals : List ℕ) (score : Score) (units rows : List ℕ) (last room seat number d : ℕ) → k ≡ now → Keeps k draws plan totals score units rows last room → seat < now.seats → number ≡ get_or draws seat d → number ≤ 10000000
draw-small k now draws plan totals score units rows last room seat number d same keeps within at =
    let is : number ≡ turns_of seat (seats_of k.journal) = at ∙ ap (λ ns. get_or ns seat d) keeps.agrees.draws_are ∙ get_or-list_below k.seats seat (λ (s : ℕ). turns_of s (seats_of k.journal)) d (let seats = ap (λ (k : KeptState). k.seats) same in omega arith) in
    omega (arith, is, turns_of-le seat (seats_of k.journal), length-map k.journal (λ (e : Entry). e.seat), keeps.kept.journal.few, keeps.kept.few)

-- ---- its entry

abbrev pub entry_from : Judged → Bool → Entry
entry_from judged accepted = record { seat = judged.seat; number = judged.number; unit = judged.unit; old = judged.old; new = judged.new; word = judged.word; change = judged.change; accepted = accepted }

pub entry-next : (now : KeptState) (judged : Judged) (change : ℤ) (accepted : Bool) (cooling : Cooling) (position temperature : ℕ) (entry : Entry) → cooling ≡ now.setting.cooling → position ≡ length now.journal → IsNextMove now judged → change ≡ judged.change
    → temperature ≡ temperature_at cooling position → accepted ≡ is_accepted change temperature judged.word → entry ≡ entry_from judged accepted → entry ≡ entry_of_seat now.setting now.journal judged.seat
entry-next now judged change accepted cooling position temperature entry cools at next same warm decided made =
    let s = now.setting in let old = plan_of_history s now.journal in let draw = next_draw s.parts s.seed s.run now.journal judged.seat in
    let moved : judged.change ≡ change_of_score s.parts old (moved_plan old draw.unit (drawn_zone s.parts old draw)) = next.difference.total in
    let taken : accepted ≡ is_accepted (change_of_score s.parts old (moved_plan old draw.unit (drawn_zone s.parts old draw))) (temperature_at s.cooling (length (seats_of now.journal))) draw.word =
    decided ∙ ap (λ (d : ℤ). is_accepted d temperature judged.word) (same ∙ moved)
    ∙ ap (λ (t : ℕ). is_accepted (change_of_score s.parts old (moved_plan old draw.unit (drawn_zone s.parts old draw))) t judged.word)
    (warm ∙ ap (λ (c : Cooling). temperature_at c position) cools ∙ ap (temperature_at s.cooling) (at ∙ sym (length-map now.journal (λ (e : Entry). e.seat))))
    ∙ ap (is_accepted (change_of_score s.parts old (moved_plan old draw.unit (drawn_zone s.parts old draw))) (temperature_at s.cooling (length (seats_of now.journal)))) next.word in
    made ∙ (λ k. record { seat = judged.seat; number = next.number k; unit = next.unit k; old = next.old k; new = next.new k; word = next.word k; change = moved k; accepted = taken k })

-- ---- what is kept

-- what an entry does to a unit's version, and to a row's
unit-raised : (parts : Parts) (journal : List Entry) (judged : Judged) (unit : ℕ) → unit ≡ judged.unit → length journal + 1 ≡ version_of parts (journal ++ entry_from judged true ∷ []) (unit_item unit)
unit-raised parts journal judged unit own = sym (version-push parts journal (entry_from judged true) (unit_item unit) ∙ ap (λ b. if b then length journal + 1 else version_of parts journal (unit_item unit)) (eq-eqb judged.unit unit (sym own)))

unit-stays : (parts : Parts) (journal : List Entry) (judged : Judged) (unit : ℕ) → (unit ≡ judged.unit → ⊥) → version_of parts journal (unit_item unit) ≡ version_of parts (journal ++ entry_from judged true ∷ []) (unit_item unit)
unit-stays parts journal judged unit other = sym (version-push parts journal (entry_from judged true) (unit_item unit) ∙ ap (λ b. if b then length journal + 1 else version_of parts journal (unit_item unit)) (ne_eqb judged.unit unit (λ e. other (sym e))))

refused-stays : (parts : Parts) (journal : List Entry) (judged : Judged) (item : Item) → version_of parts journal item ≡ version_of parts (journal ++ entry_from judged false ∷ []) item
refused-stays parts journal judged (unit_item unit) = sym (version-push parts journal (entry_from judged false) (unit_item unit))
refused-stays parts journal judged (row_item row) = sym (version-push parts journal (entry_from judged false) (row_item row))

turned : (b : Bool) (x y : ℕ) → cond b x y ≡ (if not b then y else x)
turned true x y = refl
turned false x y = refl

row-raised : (parts : Parts) (journal : List Entry) (judged : Judged) (row : ℕ) → cond (gain_of parts row judged.unit judged.old == gain_of parts row judged.unit judged.new) (version_of parts journal (row_item row)) (length journal + 1)
    ≡ version_of parts (journal ++ entry_from judged true ∷ []) (row_item row)
row-raised parts journal judged row =
    turned (gain_of parts row judged.unit judged.old == gain_of parts row judged.unit judged.new) (version_of parts journal (row_item row)) (length journal + 1)
    ∙ sym (version-push parts journal (entry_from judged true) (row_item row))

-- the versions after the entry
versions-more : (parts : Parts) (k : KeptState) (judged : Judged) (accepted : Bool) (units rows units' rows' : List ℕ) (last last' : ℕ) → k.setting.parts ≡ parts → AreVersions k units rows last → judged.unit < unit_count k.setting.parts
    → units' ≡ (if accepted then set units judged.unit (length k.journal + 1) else units) → rows' ≡ (if accepted then raised_rows k.setting.parts judged.unit judged.old judged.new (length k.journal + 1) rows else rows)
    → last' ≡ (if accepted then length k.journal + 1 else last) → AreVersions (record k { journal = k.journal ++ entry_from judged accepted ∷ [] }) units' rows' last'
versions-more parts k judged true units rows units' rows' last last' own are within more_units more_rows more_last =
    let p = k.setting.parts in let h = k.journal in let after = h ++ entry_from judged true ∷ [] in record {
      units_are = more_units ∙ ap (λ us. set us judged.unit (length h + 1)) are.units_are
          ∙ list_below-set (unit_count p) judged.unit (λ u. version_of p h (unit_item u)) (λ u. version_of p after (unit_item u)) (length h + 1) 0 within (unit-raised p h judged judged.unit refl) (λ u below other. unit-stays p h judged u other);
      rows_are = more_rows ∙ list_below-same (target_count p) (λ r. cond (gain_of p r judged.unit judged.old == gain_of p r judged.unit judged.new) (slice_index rows r) (length h + 1)) (λ r. version_of p after (row_item r)) 0
          (λ r below. ap (λ v. cond (gain_of p r judged.unit judged.old == gain_of p r judged.unit judged.new) v (length h + 1)) (ap (λ vs. get_or vs r 0) are.rows_are ∙ get_or-list_below (target_count p) r (λ (n : ℕ). version_of p h (row_item n)) 0 below) ∙ row-raised p h judged r);
      last_is = more_last ∙ sym (last_accepted-push h (entry_from judged true));
    }
versions-more parts k judged false units rows units' rows' last last' own are within more_units more_rows more_last =
    let p = k.setting.parts in let h = k.journal in let after = h ++ entry_from judged false ∷ [] in record {
      units_are = more_units ∙ are.units_are ∙ list_below-same (unit_count p) (λ u. version_of p h (unit_item u)) (λ u. version_of p after (unit_item u)) 0 (λ u below. refused-stays p h judged (unit_item u));
      rows_are = more_rows ∙ are.rows_are ∙ list_below-same (target_count p) (λ r. version_of p h (row_item r)) (λ r. version_of p after (row_item r)) 0 (λ r below. refused-stays p h judged (row_item r));
      last_is = more_last ∙ are.last_is ∙ sym (last_accepted-push h (entry_from judged false));
    }

draws-more : (seats seat number d : ℕ) (journal : List Entry) (entry : Entry) (draws : List ℕ) → draws ≡ list_below seats (λ seat. turns_of seat (seats_of journal)) → seat < seats → entry.seat ≡ seat → number ≡ get_or draws seat d
    → set draws seat (number + 1) ≡ list_below seats (λ seat. turns_of seat (seats_of (journal ++ entry ∷ [])))
draws-more seats seat number d journal entry draws are within own at =
    let more : (n : ℕ) → turns_of n (seats_of (journal ++ entry ∷ [])) ≡ turns_of n (seats_of journal ++ seat ∷ []) = λ n. ap (turns_of n) (map_push (λ (e : Entry). e.seat) journal entry ∙ ap (λ (m : ℕ). seats_of journal ++ m ∷ []) own) in
    let is : number ≡ turns_of seat (seats_of journal) = at ∙ ap (λ ns. get_or ns seat d) are ∙ get_or-list_below seats seat (λ (s : ℕ). turns_of s (seats_of journal)) d within in
    ap (λ ns. set ns seat (number + 1)) are
    ∙ list_below-set seats seat (λ s. turns_of s (seats_of journal)) (λ s. turns_of s (seats_of (journal ++ entry ∷ []))) (number + 1) 0 within
    (ap (λ (n : ℕ). n + 1) is ∙ sym (more seat ∙ turns_of-own seat (seats_of journal)))
    (λ n below other. sym (more n ∙ turns_of-other n seat (seats_of journal) (λ e. other (sym e))))

-- a move that can be decided, and its entry
pub record IsDecided (now : KeptState) (parts : Parts) (judged : Judged) (accepted : Bool) (count : ℕ) : Type 0 where
  pub own : parts ≡ now.setting.parts
  pub unit : judged.unit < unit_count parts
  pub some_left : length now.journal < now.limit
  pub seat : judged.seat < now.seats
  pub next : IsNextMove now judged
  pub entry : entry_from judged accepted ≡ entry_of_seat now.setting now.journal judged.seat
  pub count_is : count ≡ length now.journal + 1

-- where the run stands after it
pub record IsStanding (parts : Parts) (judged : Judged) (accepted : Bool) (count : ℕ) (plan units rows : List ℕ) (last : ℕ) (plan' totals' : List ℕ) (score' : Score) (units' rows' : List ℕ) (last' : ℕ) : Type 0 where
  pub plan_is : plan' ≡ (if accepted then moved_plan plan judged.unit judged.new else plan)
  pub position : IsPosition parts plan' totals' score'
  pub units_are : units' ≡ (if accepted then set units judged.unit count else units)
  pub rows_are : rows' ≡ (if accepted then raised_rows parts judged.unit judged.old judged.new count rows else rows)
  pub last_is : last' ≡ (if accepted then count else last)

grown : (k : KeptState) (draws plan totals : List ℕ) (score : Score) (units rows : List ℕ) (last room number d count : ℕ) (judged : Judged) (accepted : Bool) (plan' totals' : List ℕ) (score' : Score) (units' rows' : List ℕ) (last' : ℕ)
    → Keeps k draws plan totals score units rows last room → IsDecided k k.setting.parts judged accepted count → number ≡ get_or draws judged.seat d → IsStanding k.setting.parts judged accepted count plan units rows last plan' totals' score' units' rows' last'
    → Keeps (record k { journal = k.journal ++ entry_from judged accepted ∷ [] }) (set draws judged.seat (number + 1)) plan' totals' score' units' rows' last' room
grown k draws plan totals score units rows last room number d count judged accepted plan' totals' score' units' rows' last' keeps decided at stands =
    let s = k.setting in let entry = entry_from judged accepted in
    let moves = moves-here k draws plan totals score units rows last room judged keeps decided.unit decided.next in
    let old_zone : IsTrue (is_allowed s.parts judged.unit judged.old) = subst (λ (z : ℕ). IsTrue (is_allowed s.parts judged.unit z)) (sym moves.from) (moves.legal.allowed judged.unit moves.unit) in record {
      kept = record {
        valid = keeps.kept.valid;
        runs = keeps.kept.runs;
        few = keeps.kept.few;
        own_limit = keeps.kept.own_limit;
        workers = keeps.kept.workers;
        journal = record {
          history = legal-push s k.journal judged.seat entry keeps.kept.journal.history decided.entry;
          few = omega (arith, decided.some_left, length-append k.journal (entry ∷ []));
          owners = All-push (λ (e : Entry). e.seat < k.seats) k.journal entry keeps.kept.journal.owners decided.seat;
          moves = All-push (IsMove s.parts) k.journal entry keeps.kept.journal.moves (record { unit = moves.unit; old = old_zone; new = moves.allowed });
        };
      };
      agrees = record {
        played = record {
          plan_is = stands.plan_is ∙ ap (λ (p : List ℕ). plan_after p entry) keeps.agrees.played.plan_is ∙ sym (plan-push s k.journal entry);
          legal = stands.position.legal;
          score_is = stands.position.score_is;
          small = subst (λ (sc : Score). sc.total ≤ 10 ^ 25) (sym stands.position.score_is) (score-le s.parts plan' keeps.kept.valid stands.position.legal);
        };
        totals_are = stands.position.totals_are;
        draws_are = draws-more k.seats judged.seat number d k.journal entry draws keeps.agrees.draws_are decided.seat refl at;
        versions = versions-more s.parts k judged accepted units rows units' rows' last last' refl keeps.agrees.versions decided.unit
            (stands.units_are ∙ ap (λ (n : ℕ). if accepted then set units judged.unit n else units) decided.count_is)
            (stands.rows_are ∙ ap (λ (n : ℕ). if accepted then raised_rows s.parts judged.unit judged.old judged.new n rows else rows) decided.count_is)
            (stands.last_is ∙ ap (λ (n : ℕ). if accepted then n else last) decided.count_is);
      };
      room_is = keeps.room_is;
    }

pub applied : (k now : KeptState) (draws plan totals : List ℕ) (score : Score) (units rows : List ℕ) (last room room' number d count : ℕ) (parts : Parts) (judged : Judged) (accepted : Bool) (entry : Entry) (journal' : List Entry) (plan' totals' : List ℕ) (score' : Score) (units' rows' : List ℕ) (last' : ℕ)
    → k ≡ now → Keeps k draws plan totals score units rows last room → length draws ≡ k.seats → IsDecided now parts judged accepted count → number ≡ get_or draws judged.seat d → entry ≡ entry_from judged accepted → journal' ≡ k.journal ++ entry ∷ [] → room' ≡ room
    → IsStanding parts judged accepted count plan units rows last plan' totals' score' units' rows' last'
    → Keeps (record { setting = k.setting; limit = k.limit; seats = length (set draws judged.seat (number + 1)); journal = journal' }) (set draws judged.seat (number + 1)) plan' totals' score' units' rows' last' room'
applied k now draws plan totals score units rows last room room' number d count parts judged accepted entry journal' plan' totals' score' units' rows' last' same keeps seats decided at made more kept stands =
    let there : parts ≡ k.setting.parts = decided.own ∙ sym (ap (λ (k : KeptState). k.setting.parts) same) in
    let here : IsDecided k parts judged accepted count = subst (λ (k : KeptState). IsDecided k parts judged accepted count) (sym same) decided in
    let own : IsDecided k k.setting.parts judged accepted count = subst (λ (p : Parts). IsDecided k p judged accepted count) there here in
    let is : IsStanding k.setting.parts judged accepted count plan units rows last plan' totals' score' units' rows' last' = subst (λ (p : Parts). IsStanding p judged accepted count plan units rows last plan' totals' score' units' rows' last') there stands in
    let after = grown k draws plan totals score units rows last room number d count judged accepted plan' totals' score' units' rows' last' keeps own at is in
    let draws' = set draws judged.seat (number + 1) in
    subst (λ (r : ℕ). Keeps (record { setting = k.setting; limit = k.limit; seats = length draws'; journal = journal' }) draws' plan' totals' score' units' rows' last' r) (sym kept)
    (subst (λ (h : List Entry). Keeps (record { setting = k.setting; limit = k.limit; seats = length draws'; journal = h }) draws' plan' totals' score' units' rows' last' room) (sym (more ∙ ap (λ (e : Entry). k.journal ++ e ∷ []) made))
    (subst (λ (n : ℕ). Keeps (record { setting = k.setting; limit = k.limit; seats = n; journal = k.journal ++ entry_from judged accepted ∷ [] }) draws' plan' totals' score' units' rows' last' room) (sym (length-set draws judged.seat (number + 1) ∙ seats)) after))
