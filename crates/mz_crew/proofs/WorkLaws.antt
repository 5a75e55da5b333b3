-- What a worker's commits and proposals leave of its pass.
use Rattle.std.proofs.Common.{◌≡◌, ℕ, ◌+◌, ◌<◌, ◌≤◌, Bool, true, false, List, [], ◌++◌, length, length-append, Option, None, Some, refl, sym, ap, ◌∙◌, subst, arith, append_assoc, append-nil}
use Rattle.std.specs.Prelude.{◌==◌, if◌then◌else◌}
use Rattle.std.proofs.lemmas.Bool.{eqb-true, eqb-false}
use Rattle.mz_board.specs.Seen.{Begins}
use Rattle.mz_draw.specs.declared.draw.Draw.{Draw}
use Rattle.mz_draw.specs.Words.{SeatWords}
use Rattle.mz_model.specs.declared.parts.Parts.{Parts}
use Rattle.mz_model.specs.Parts.{unit_count}
use Rattle.mz_delta.specs.declared.judged.Judged.{Judged}
use Rattle.mz_delta.specs.declared.reading.Reading.{Reading}
use Rattle.mz_delta.specs.Rooms.{FitsJudged, FitsReading}
use Rattle.mz_history.specs.declared.entry.Entry.{Entry}
use Rattle.mz_history.specs.Verdict.{decided, full, overtaking_entry, verdict_if}
use Rattle.mz_history.specs.World.{IsJournal}
use Rattle.mz_history.proofs.OvertakenLaws.{overtaking-is}
use Rattle.mz_store.specs.declared.verdict.Verdict.{Verdict}
use Rattle.mz_store.specs.declared.verdict.Verdict.TheVariants.{Again, Decided, Full}
use Rattle.mz_store.specs.Commits.{Commits}
use Rattle.mz_store.specs.Pass.{draw_of, Looks, PassState}
use Rattle.mz_store.specs.RunSetting.{RunSetting}
use Rattle.mz_store.specs.Verdict.{added, answer_of, verdict_on}
use Rattle.mz_crew.specs.Ahead.{AreAhead, draws_at_once}
use Rattle.mz_crew.specs.Works.{Leads, Proposes}

-- ---- a proposal

abbrev Left : RunSetting → ℕ → List Entry → Verdict → Type 0
Left run before journal (Decided receipt) = (before < length journal) × (length journal ≤ run.limit)
Left run before journal (Again position) = (before < length journal) × (length journal ≤ run.limit)
Left run before journal Full = (length journal ≡ run.limit) × IsJournal run.setting run.limit run.seats journal

left-by : (run : RunSetting) (history : List Entry) (seat before : ℕ) (o : Option ℕ) (all : Bool) (verdict : Verdict) → verdict ≡ answer_of run.setting history seat (if all then full else verdict_if o) → IsJournal run.setting run.limit run.seats history
    → (all ≡ true → length history ≡ run.limit) → (all ≡ false → length history < run.limit) → ((position : ℕ) → o ≡ Some position → before < length history) → before ≤ length history
    → Left run before (history ++ added verdict) verdict
left-by run history seat before o true verdict is journal whole room past least =
    subst (λ (v : Verdict). Left run before (history ++ added v) v) (sym is)
    (omega (arith, length-append history [], whole refl), subst (IsJournal run.setting run.limit run.seats) (sym (append-nil history)) journal)
left-by run history seat before None false verdict is journal whole room past least =
    let v : Verdict = answer_of run.setting history seat decided in
    subst (λ (v : Verdict). Left run before (history ++ added v) v) (sym is)
    (omega (arith, length-append history (added v), least), omega (arith, length-append history (added v), room refl))
left-by run history seat before (Some position) false verdict is journal whole room past least =
    subst (λ (v : Verdict). Left run before (history ++ added v) v) (sym is)
    (omega (arith, length-append history [], past position refl), omega (arith, length-append history [], room refl))

left-of : (run : RunSetting) (history : List Entry) (reading : Reading) (seat before : ℕ) (verdict : Verdict) → verdict ≡ answer_of run.setting history seat (verdict_on run history reading) → IsJournal run.setting run.limit run.seats history
    → before ≤ reading.front → reading.front ≤ length history → Left run before (history ++ added verdict) verdict
left-of run history reading seat before verdict is journal from least =
    left-by run history seat before (overtaking_entry run.setting.parts history reading.front reading.unit) (length history == run.limit) verdict is journal
    (λ e. eqb-true (length history) run.limit e)
    (λ n. let apart = eqb-false (length history) run.limit n in let few = journal.few in grind arith)
    (λ position e. let o = overtaking-is run.setting.parts history reading.front reading.unit position e in omega (arith, o.from, o.within, from))
    (omega (arith, from, least))

leads-by : (run : RunSetting) (old new : PassState) (journal : List Entry) (verdict : Verdict) → new.seen ≡ journal → new.reached ≡ length journal → Left run old.reached journal verdict → Leads run old new verdict
leads-by run old new journal (Decided receipt) seen reached left = (omega (arith, reached, left.0), omega (arith, reached, left.1))
leads-by run old new journal (Again position) seen reached left = (omega (arith, reached, left.0), omega (arith, reached, left.1))
leads-by run old new journal Full seen reached left = (ap length seen ∙ left.0, subst (IsJournal run.setting run.limit run.seats) (sym seen) left.1)

-- a look and a commit
pub proposed : (run : RunSetting) (old between new : PassState) (unit : ℕ) (reading : Reading) (verdict : Verdict) → Looks run old between unit reading → Commits run between new reading verdict → Proposes run old new verdict
proposed run old between new unit reading verdict looks commits =
    let c = subst (λ (p : PassState). Commits run p new reading verdict) looks.now commits in
    let seen : new.seen ≡ c.history ++ added verdict = ap (λ (p : PassState). p.seen) c.now in
    let reached : new.reached ≡ length (c.history ++ added verdict) = ap (λ (p : PassState). p.reached) c.now in record {
      store_is = ap (λ (p : PassState). p.store) c.now;
      seat_is = ap (λ (p : PassState). p.seat) c.now;
      begins = record {
        rest = c.finds.seen.rest ++ added verdict;
        is = sym (append_assoc old.seen c.finds.seen.rest (added verdict)) ∙ ap (λ (es : List Entry). es ++ added verdict) c.finds.seen.is ∙ sym seen;
      };
      leads = leads-by run old new (c.history ++ added verdict) verdict seen reached (left-of run c.history reading old.seat old.reached verdict c.verdict_is c.finds.journal looks.least c.finds.least);
      number_is = ap (λ (p : PassState). p.number) c.now;
    }

-- ---- the loop

-- where a worker stands: its draw is the pass's next one, those that are made ahead are the ones behind it, and the
-- rooms fit
pub record StandsAt (run : RunSetting) (parts : Parts) (first pass : PassState) (draw : Draw) (behind : List Draw) (words : SeatWords) (reading : Reading) (judged : Judged) : Type 0 where
  pub store_is : pass.store ≡ first.store
  pub seat_is : pass.seat ≡ first.seat
  pub begins : Begins first.seen pass.seen
  pub drawn : draw ≡ draw_of run pass
  pub unit : draw.unit < unit_count parts
  pub ahead : AreAhead run pass (pass.number + 1) behind words
  pub few : length behind < draws_at_once
  pub reading_fits : FitsReading parts reading
  pub judged_fits : FitsJudged parts judged
