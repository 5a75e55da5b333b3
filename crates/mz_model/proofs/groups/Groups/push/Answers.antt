use Rattle.std.proofs.Common.{◌≡◌, ◌++◌, ◌∷◌, [], length, arith}
use Rattle.std.proofs.lemmas.Grind.{common_steps}
use Rattle.mz_model.proofs.GroupLaws.{groups_of_pushed}
use Rattle.mz_model.proofs.groups.Groups.push.Goals as goal

pub returns : goal.returns
returns g c =
    let pushed : c.push.new.self.items ≡ c.self.inside.starts.items ++ c.len.result ∷ [] = grind (arith, common_steps, c.push.ensures.items, c.is_err.ensures.negation, c.if-is_err.false) in
    let end : c.len.result ≡ length c.extend_from_slice.new.self.items = grind (arith, common_steps) in
    groups_of_pushed _ _ _ _ _ _ _ c.self.invariant c.self.view_is pushed c.in_ok-extend_from_slice.ensures.items end
