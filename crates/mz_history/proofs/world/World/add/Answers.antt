use Rattle.std.proofs.Common.{◌≡◌, ℕ, ◌+◌, List, ap, sym, subst, ◌∙◌, length, arith}
use Rattle.mz_model.specs.declared.parts.Parts.{Parts}
use Rattle.mz_model.specs.Plans.{IsLegalPlan}
use Rattle.mz_model.specs.Scores.{score_of_plan}
use Rattle.mz_history.specs.declared.entry.Entry.{Entry}
use Rattle.mz_history.specs.Core.{next_draw}
use Rattle.mz_history.specs.Moves.{IsMove}
use Rattle.mz_history.specs.Rules.{setting_with}
use Rattle.mz_history.specs.World.{WorldState}
use Rattle.mz_history.proofs.WorldLemmas.{added_kept, seat_entry}
use Rattle.mz_history.proofs.world.World.add.Goals as goal

pub invariant_of-self : goal.invariant_of-self
invariant_of-self c =
    let i = c.self.inside in let s = setting_with i.problem.value i.rules.value i.seed i.run in
    let w : WorldState = record { setting = s; limit = i.rules.value.limit; core = record { journal = i.journal.items; seats = i.seats.items } } in
    let same : c.args.problem.now ≡ s.parts = c.requires.problem ∙ sym (ap (λ (w : WorldState). w.setting.parts) c.self.view_is) in
    let cools : c.args.rules.now.schedule ≡ s.cooling = c.requires.schedule ∙ sym (ap (λ (w : WorldState). w.setting.cooling) c.self.view_is) in
    let all : c.len-length.result ≡ length i.journal.items = omega (arith, c.len-length.ensures, i.journal.ok.0) in
    let e = c.decide-entry.ensures in
    added_kept w _ _ _ _ _ _ c.args.seat _ c.decide-entry.result _ c.self.invariant
    (let seats = ap (λ (w : WorldState). length w.core.seats) c.self.view_is in omega (arith, c.requires.seat))
    (let entries = ap (λ (w : WorldState). length w.core.journal) c.self.view_is in let limits = ap (λ (w : WorldState). w.limit) c.self.view_is in omega (arith, c.requires.not_full))
    (seat_entry s c.args.problem.now c.args.rules.now.schedule i.journal.items _ _ c.args.seat c.next_draw-draw.result c.decide-entry.result same cools c.self.invariant.played.plan_is all (c.next_draw-draw.ensures.draw ∙ ap (λ (js : List Entry). next_draw c.args.problem.now i.seed i.run js c.args.seat) c.as_slice.ensures.value) e.entry)
    (subst (λ (p : Parts). IsMove p c.decide-entry.result) same e.moves) e.plan (subst (λ (p : Parts). IsLegalPlan p c.decide-entry.new.plan) same e.stays_legal)
    (e.new_score ∙ ap (λ (p : Parts). score_of_plan p c.decide-entry.new.plan) same) e.stays_small c.push_reserved.ensures.items c.push_reserved.ensures.capacity (ap (λ (n : ℕ). n + 1) all)
