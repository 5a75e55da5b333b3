use Rattle.std.proofs.Common.{◌∙◌}
use Rattle.mz_model.proofs.GroupLaws.{group_is}
use Rattle.mz_model.proofs.groups.Groups.at.Goals as goal

pub part-requires-clause-next : goal.part-requires-clause-next
part-requires-clause-next g c = rw c.as_slice.ensures.value (group_is _ _ _ _ c.self.invariant c.self.view_is c.requires).next

pub part-requires-clause-rising : goal.part-requires-clause-rising
part-requires-clause-rising g c = rw c.as_slice.ensures.value (group_is _ _ _ _ c.self.invariant c.self.view_is c.requires).rising

pub part-requires-clause-inside : goal.part-requires-clause-inside
part-requires-clause-inside g c = rw (c.as_slice.ensures.value, c.as_slice-2.ensures.value) (group_is _ _ _ _ c.self.invariant c.self.view_is c.requires).inside

pub returns : goal.returns
returns g c = c.part.ensures ∙ (rw (c.as_slice.ensures.value, c.as_slice-2.ensures.value) (group_is _ _ _ _ c.self.invariant c.self.view_is c.requires).part)
