use Rattle.std.proofs.Common.{sym, ◌∙◌, ap, ◌==◌}
use Rattle.std.specs.Int.{bit_at}
use Rattle.std.proofs.lemmas.Bool.{eqb-true, le-ltb}
use Rattle.std.proofs.lemmas.Nat.Bits.{shr_and_one}
use Rattle.mz_model.specs.Parts.{zone_count}
use Rattle.mz_model.proofs.ZoneLaws.{zone-in_range, past_word}
use Rattle.mz_model.proofs.problem.Problem.is_allowed.Goals as goal

pub returns-then-zone-lt64-clause-in_range : goal.returns-then-zone-lt64-clause-in_range
returns-then-zone-lt64-clause-in_range c = λ set. zone-in_range (zone_count c.args.self.now) c.allowed-set.result c.args.zone c.allowed-set.ensures.of_zones (sym (shr_and_one c.allowed-set.result c.args.zone) ∙ eqb-true _ 1 set)

pub returns-else-zone-lt64-clause-test : goal.returns-else-zone-lt64-clause-test
returns-else-zone-lt64-clause-test c = le-ltb c.args.zone 64 c.if-zone-lt64.false ∙ sym (ap (λ s. bit_at s c.args.zone == 1) (sym c.allowed-set.ensures.set) ∙ past_word c.allowed-set.result c.args.zone c.allowed-set.type_inv c.if-zone-lt64.false)
