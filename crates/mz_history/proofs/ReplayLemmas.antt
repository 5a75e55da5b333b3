-- A list of turns, played one after another.
use Rattle.std.proofs.Common.{◌≡◌, ℕ, ◌+◌, ◌*◌, ◌<◌, ◌≤◌, ◌^◌, ◌%◌, List, [], ◌∷◌, ◌++◌, length, map, get_or, set, take, sym, ap, ◌∙◌, subst, arith, length-append}
use Rattle.std.specs.List.{All}
use Rattle.std.proofs.Math.Seq.{take-length}
use Rattle.std.proofs.lemmas.List.{length-take, take_more}
use Rattle.std.proofs.lemmas.List.Elements.{All-get_or}
use Rattle.mz_num.specs.Places.{list_below}
use Rattle.mz_num.proofs.PlaceLaws.{get_or-list_below, list_below-set}
use Rattle.mz_model.specs.Plans.{IsLegalPlan}
use Rattle.mz_model.specs.Scores.{score_of_plan}
use Rattle.mz_model.specs.declared.score.Score.{Score}
use Rattle.mz_draw.specs.declared.draw.Draw.{Draw}
use Rattle.mz_draw.specs.Draws.{IsDrawFrom}
use Rattle.mz_draw.specs.Words.{SeatWords}
use Rattle.mz_history.specs.declared.entry.Entry.{Entry}
use Rattle.mz_history.specs.Entry.{plan_after}
use Rattle.mz_history.specs.Replay.{Setting, turns_of, entries_from, entry_of_turn, replay_of, plan_of_history}
use Rattle.mz_history.specs.SeatWords.{words_after}
use Rattle.mz_history.specs.Rules.{IsReplayed}
use Rattle.mz_history.specs.Start.{starting_plan}
use Rattle.mz_history.proofs.HistoryLaws.{plan_of_history-push, replay_of-legal, replay_of-push, turns_of-le, turns_of-other, turns_of-own}

-- ---- the drawers of all seats

-- the drawers of the seats below 60
abbrev pub AreDrawers : ℕ → ℕ → List ℕ → List SeatWords → Type 0
AreDrawers seed run turns drawers = drawers ≡ list_below 60 (words_after seed run turns)

-- any words, which stand for those past the last seat
abbrev pub no_words : SeatWords
no_words = record { seed = 0; run = 0; seat = 0; taken = 0 }

pub drawer-at : (seed run seat : ℕ) (turns : List ℕ) (drawers : List SeatWords) (d : SeatWords) → AreDrawers seed run turns drawers → seat < 60 → get_or drawers seat d ≡ words_after seed run turns seat
drawer-at seed run seat turns drawers d are within = ap (λ ws. get_or ws seat d) are ∙ get_or-list_below 60 seat (words_after seed run turns) d within

pub drawers-more : (seed run seat : ℕ) (turns : List ℕ) (drawers drawers' : List SeatWords) (old new : SeatWords) → AreDrawers seed run turns drawers → seat < 60 → old ≡ words_after seed run turns seat
    → new ≡ record old { taken = old.taken + 3 } → drawers' ≡ set drawers seat new → AreDrawers seed run (turns ++ seat ∷ []) drawers'
drawers-more seed run seat turns drawers drawers' old new are within stood moved changed =
    let count : 3 * turns_of seat turns + 3 ≡ 3 * turns_of seat (turns ++ seat ∷ []) = omega (arith, turns_of-own seat turns) in
    let own : new ≡ words_after seed run (turns ++ seat ∷ []) seat =
    moved ∙ ap (λ (w : SeatWords). let after : SeatWords = record w { taken = w.taken + 3 } in after) stood
    ∙ ap (λ (n : ℕ). let after : SeatWords = record { seed = seed; run = run; seat = seat; taken = n } in after) count in
    changed ∙ ap (λ ws. set ws seat new) are
    ∙ list_below-set 60 seat (words_after seed run turns) (words_after seed run (turns ++ seat ∷ [])) new no_words within own
    (λ k below other. ap (λ (n : ℕ). let stays : SeatWords = record { seed = seed; run = run; seat = k; taken = 3 * n } in stays) (sym (turns_of-other k seat turns (λ e. other (sym e)))))

pub drawer-whole : (seed run seat : ℕ) (turns : List ℕ) (words : SeatWords) → words ≡ words_after seed run turns seat → words.taken % 3 ≡ 0
drawer-whole seed run seat turns words are = let taken : words.taken ≡ 3 * turns_of seat turns = ap (λ (w : SeatWords). w.taken) are in omega arith

pub drawer-left : (seed run seat : ℕ) (turns : List ℕ) (words : SeatWords) → words ≡ words_after seed run turns seat → length turns ≤ 10000000 → words.taken + 3 < 2 ^ 64
drawer-left seed run seat turns words are few = let taken : words.taken ≡ 3 * turns_of seat turns = ap (λ (w : SeatWords). w.taken) are in omega (arith, turns_of-le seat turns)

-- a draw is of a unit of the problem
pub draw-in_range : (free counts : List ℕ) (units : ℕ) (draw : Draw) → All (λ unit. unit < units) free → IsDrawFrom free counts draw → draw.unit < units
draw-in_range free counts units draw all is = subst (λ unit. unit < units) (sym is.unit) (All-get_or (λ unit. unit < units) free is.place 0 is.within all)

-- ---- the turns so far

pub record Plays (s : Setting) (turns : List ℕ) (entries : List Entry) (plan : List ℕ) (score : Score) (drawers : List SeatWords) : Type 0 where
  pub entries_are : entries ≡ replay_of s turns
  pub plan_is : plan ≡ plan_of_history s (replay_of s turns)
  pub legal : IsLegalPlan s.parts plan
  pub score_is : score ≡ score_of_plan s.parts plan
  pub small : score.total ≤ 10 ^ 25
  pub drawers_are : AreDrawers s.seed s.run turns drawers
  pub as_many : length entries ≡ length turns

pub record Decides (s : Setting) (turns : List ℕ) (seat : ℕ) (old_plan new_plan : List ℕ) (score : Score) (entry : Entry) : Type 0 where
  pub entry_is : entry ≡ entry_of_turn s turns (plan_of_history s (replay_of s turns)) seat
  pub plan_is : new_plan ≡ plan_after old_plan entry
  pub legal : IsLegalPlan s.parts new_plan
  pub score_is : score ≡ score_of_plan s.parts new_plan
  pub small : score.total ≤ 10 ^ 25

pub plays-more : (s : Setting) (turns : List ℕ) (seat : ℕ) (entries entries' : List Entry) (plan plan' : List ℕ) (score score' : Score) (drawers drawers' : List SeatWords) (entry : Entry) (old new : SeatWords)
    → Plays s turns entries plan score drawers → Decides s turns seat plan plan' score' entry → entries' ≡ entries ++ entry ∷ []
    → seat < 60 → old ≡ words_after s.seed s.run turns seat → new ≡ record old { taken = old.taken + 3 } → drawers' ≡ set drawers seat new
    → Plays s (turns ++ seat ∷ []) entries' plan' score' drawers'
plays-more s turns seat entries entries' plan plan' score score' drawers drawers' entry old new so_far decided more within stood moved changed = record {
  entries_are = more ∙ ap (λ es. es ++ entry ∷ []) so_far.entries_are ∙ ap (λ e. replay_of s turns ++ e ∷ []) decided.entry_is ∙ sym (replay_of-push s turns seat);
  plan_is = decided.plan_is ∙ ap (λ p. plan_after p entry) so_far.plan_is ∙ ap (plan_after (plan_of_history s (replay_of s turns))) decided.entry_is ∙ sym (plan_of_history-push s turns seat);
  legal = decided.legal;
  score_is = decided.score_is;
  small = decided.small;
  drawers_are = drawers-more s.seed s.run seat turns drawers drawers' old new so_far.drawers_are within stood moved changed;
  as_many = ap length more ∙ length-append entries (entry ∷ []) ∙ ap (λ (n : ℕ). n + 1) so_far.as_many ∙ sym (length-append turns (seat ∷ []));
}

-- the same, of the turns of a longer list
pub plays-next : (s : Setting) (turns : List ℕ) (i d : ℕ) (entries : List Entry) (plan : List ℕ) (score : Score) (drawers : List SeatWords) → i < length turns
    → Plays s (take i turns ++ get_or turns i d ∷ []) entries plan score drawers → Plays s (take (i + 1) turns) entries plan score drawers
plays-next s turns i d entries plan score drawers within plays = subst (λ ts. Plays s ts entries plan score drawers) (sym (take_more turns i d within)) plays

pub plays-none : (s : Setting) (entries : List Entry) (plan : List ℕ) (score : Score) (drawers : List SeatWords) → entries ≡ [] → plan ≡ starting_plan s.parts s.prop s.seed s.run → IsLegalPlan s.parts plan
    → score ≡ score_of_plan s.parts plan → score.total ≤ 10 ^ 25 → drawers ≡ list_below 60 (words_after s.seed s.run []) → Plays s [] entries plan score drawers
unfolding entries_from
plays-none s entries plan score drawers none starts legal scored small fresh = record { entries_are = none; plan_is = starts; legal = legal; score_is = scored; small = small; drawers_are = fresh; as_many = ap length none }

pub taken-few : (turns : List ℕ) (i limit most : ℕ) → length turns ≤ limit → limit ≤ most → length (take i turns) ≤ most
taken-few turns i limit most few within = omega (arith, length-take i turns)

-- once all turns are played
pub replayed : (s : Setting) (turns : List ℕ) (i : ℕ) (entries : List Entry) (plan : List ℕ) (score : Score) (drawers : List SeatWords) → i ≡ length turns → Plays s (take i turns) entries plan score drawers → IsReplayed s turns entries plan score
replayed s turns i entries plan score drawers all plays =
    let whole : take i turns ≡ turns = ap (λ n. take n turns) all ∙ take-length turns in
    let are : entries ≡ replay_of s turns = plays.entries_are ∙ ap (replay_of s) whole in record {
      entries_are = are;
      history = are ∙ replay_of-legal s turns ∙ ap (λ (es : List Entry). replay_of s (map (λ (entry : Entry). entry.seat) es)) (sym are);
      plan_is = plays.plan_is ∙ ap (plan_of_history s) (sym plays.entries_are);
      legal = plays.legal;
      score_is = plays.score_is;
    }
