use Rattle.std.proofs.Common.{arith, refl}
use Rattle.mz_model.proofs.FillingLaws.{filling-pushed, filling-stored, open-at, stored-inside}
use Rattle.mz_model.proofs.filling.Filling.push.Goals as goal

pub index-end-requires : goal.index-end-requires
index-end-requires g c = omega (arith, c.self.inside.ends.ok.0, (open-at _ _ _ _ _ _ refl c.self.invariant c.self.view_is c.requires.inside c.requires.room).place_in)

pub index_mut-requires : goal.index_mut-requires
index_mut-requires g c = omega (arith, c.self.inside.items.ok.0, stored-inside _ _ _ _ _ (open-at _ _ _ _ _ _ refl c.self.invariant c.self.view_is c.requires.inside c.requires.room) c.index-end.ensures)

pub overflow_add-end : goal.overflow_add-end
overflow_add-end g c = omega (arith, c.self.inside.items.ok.0, c.self.inside.items.small, stored-inside _ _ _ _ _ (open-at _ _ _ _ _ _ refl c.self.invariant c.self.view_is c.requires.inside c.requires.room) c.index-end.ensures)

pub index_mut-requires-2 : goal.index_mut-requires-2
index_mut-requires-2 g c = omega (arith, c.self.inside.ends.ok.0, (open-at _ _ _ _ _ _ refl c.self.invariant c.self.view_is c.requires.inside c.requires.room).place_in)

pub invariant_of-self : goal.invariant_of-self
invariant_of-self g c = filling-stored _ _ _ _ _ _ c.self.invariant (open-at _ _ _ _ _ _ refl c.self.invariant c.self.view_is c.requires.inside c.requires.room) c.index-end.ensures

pub returns : goal.returns
returns g c = filling-pushed _ _ _ _ _ _ _ c.self.invariant c.self.view_is (open-at _ _ _ _ _ _ refl c.self.invariant c.self.view_is c.requires.inside c.requires.room) c.index-end.ensures
