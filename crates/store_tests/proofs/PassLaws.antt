-- All passes of a store, in the order of their seats.
use Rattle.std.proofs.Common.{◌≡◌, ℕ, zero, suc, ◌<◌, ◌≤◌, List, [], ◌∷◌, length, get_or, Some, sym, ap, ◌∙◌, arith}
use Rattle.std.specs.Prelude.{slice_get}
use Rattle.std.specs.List.{All}
use Rattle.std.proofs.lemmas.List.Elements.{Contains-get_or}
use Rattle.mz_store.specs.Leaves.{AreAllOf}
use Rattle.mz_store.specs.Pass.{AreFresh, fresh_pass, PassState}
use Rattle.mz_store.specs.Store.{StoreState}
use Rattle.store_tests.specs.Proposals.{AreInOrder}

got : {X : Type 0} (xs : List X) (k : ℕ) (d x : X) → slice_get xs k ≡ Some x → get_or xs k d ≡ x
got [] k d x e = cc
got (y ∷ xs) zero d x e = cc
got (y ∷ xs) (suc k) d x e = got xs k d x e

pub all-in-order : (store : StoreState) (passes : List PassState) → AreInOrder store passes → AreAllOf store passes
all-in-order store passes order =
    let other = fresh_pass store.board 0 in record {
      count = order.count;
      here = λ i d h. (order.each i d h).0;
      every = λ seat h.
          let within : seat < length passes = omega (arith, h, order.count) in
          (get_or passes seat other, Contains-get_or passes seat other within, (order.each seat other within).1);
    }

pub fresh-in-order : (store : StoreState) (seats : ℕ) (passes : List PassState) → AreFresh store.board seats passes → store.run.seats ≡ seats → AreInOrder store passes
fresh-in-order store seats passes fresh count = record {
  count = fresh.count ∙ sym count;
  each = λ seat other h.
      let is : get_or passes seat other ≡ fresh_pass store.board seat = got passes seat other (fresh_pass store.board seat) (fresh.each seat (omega (arith, h, fresh.count))) in
      (ap (λ (p : PassState). p.store) is, ap (λ (p : PassState). p.seat) is);
}

pub fresh-all : (store : StoreState) (seats : ℕ) (passes : List PassState) → AreFresh store.board seats passes → seats ≤ 60 → All (λ (pass : PassState). (pass.store ≡ store.board) × (pass.seat < 60)) passes
fresh-all store seats passes fresh few = λ seat other h.
    let is : get_or passes seat other ≡ fresh_pass store.board seat = got passes seat other (fresh_pass store.board seat) (fresh.each seat (omega (arith, h, fresh.count))) in
    let own : (get_or passes seat other).seat ≡ seat = ap (λ (p : PassState). p.seat) is in
    (ap (λ (p : PassState). p.store) is, omega (arith, own, h, fresh.count, few))

-- each pass comes back as one of its store and seat
pub back-in-order : (store : StoreState) (before after : List PassState) → AreInOrder store before → length after ≡ length before
    → ((seat : ℕ) (other : PassState) → seat < length before → (pass : PassState) × ((default : PassState) → get_or before seat default ≡ pass) × (((get_or after seat other).store ≡ pass.store) × ((get_or after seat other).seat ≡ pass.seat)))
    → AreInOrder store after
back-in-order store before after order count gave = record {
  count = count ∙ order.count;
  each = λ seat other h.
      let within : seat < length before = omega (arith, h, count) in
      let back = gave seat other within in
      let was = order.each seat back.0 within in
      let is : get_or before seat back.0 ≡ back.0 = back.1 back.0 in
      (back.2.0 ∙ ap (λ (p : PassState). p.store) (sym is) ∙ was.0, back.2.1 ∙ ap (λ (p : PassState). p.seat) (sym is) ∙ was.1);
}
