-- What a chair is sure of after each step of its turn.
use Rattle.std.proofs.Common.{◌≡◌, ℕ, List, [], ◌∷◌, length, sym, ap, ◌∙◌, subst, Option, Some, None, MatchOption}
use Rattle.std.specs.List.{All}
use Rattle.std.proofs.lemmas.List.Elements.{All-head}
use Rattle.atomic_table.specs.Seated.{TableId}
use Rattle.atomic_table.specs.Table.{Me, rest}
use Rattle.mz_turn.specs.declared.view.View.{View}
use Rattle.mz_turn.specs.Seen.{GrewByOthers, GrewByChairs}
use Rattle.mz_turn.specs.Views.{own_of, taken_view}
use Rattle.mz_turn.specs.Invariant.{IsChairView}
use Rattle.mz_turn.specs.Places.{IsChair, HasTaken, chair_of}
use Rattle.mz_turn.specs.Chair.{Learns, Takes, with_turn}
use Rattle.mz_turn.specs.Steps.{Teaches, Won}
use Rattle.mz_turn.proofs.SeenLemmas.{grew_later}

module _ {T E S : Type 0} (entries : T → List E) (owner : E → ℕ) (setting_of : T → S) where
  abbrev M : Type 0
  M = Me (Option T) (View E S)

  pub empty_hand : (number size : ℕ) (m : M) → IsChair number size m → m.0.taken ≡ None → m.1 ≡ []
  empty_hand number size m ok idle = subst (λ t. MatchOption t (m.1 ≡ []) (λ taken. HasTaken size m taken)) idle ok.turn

  pub full_hand : (number size : ℕ) (m : M) (taken : List E) → IsChair number size m → m.0.taken ≡ Some taken → HasTaken size m taken
  full_hand number size m taken ok holds = subst (λ t. MatchOption t (m.1 ≡ []) (λ taken. HasTaken size m taken)) holds ok.turn

  own_grew : (v : View E S) (list : List E) → IsChairView v → Teaches owner v list → GrewByOthers owner v.number (own_of v.kept) list
  own_grew v list ok t = All-head (λ (k : ℕ × List E). GrewByOthers owner k.0 k.1 list) (v.number, own_of v.kept) [] (subst (All (λ (k : ℕ × List E). GrewByOthers owner k.0 k.1 list)) ok.kept t.kept)

  pub learns : (table : TableId) (v : View E S) (list : List E) → IsChairView v → Teaches owner v list → Learns owner (chair_of table v) list
  learns table v list ok t = let g = own_grew v list ok t in record { seen = grew_later owner v.number (own_of v.kept) v.seen list g t.seen ok.own; own = g; told = t.told }

  -- a try that wins: m goes to m₁ by the try, to m₂ by the exchange of the slot, and to m₃ by the load
  module _ (number before size : ℕ) (m m₁ m₂ m₃ : M) (ok : IsChair number before m) (idle : m.0.taken ≡ None) (won : Won entries owner setting_of m m₁) (out : Option T) (x : T)
      (e₁ : m₁.1 ≡ (0, out) ∷ rest m₁.1) (e₂ : m₂ ≡ (m₁.0, (0, None) ∷ rest m₁.1)) (e₃ : m₃ ≡ m₂) (found : (taken : List E) → m₂.0.taken ≡ Some taken → size ≡ length taken) (e₄ : out ≡ Some x) where
    value_is : won.value ≡ x
    value_is = let h : (0, Some won.value) ∷ m.1 ≡ (0, out) ∷ rest m₁.1 = sym won.out ∙ e₁ in let a : ℕ × Option T = (0, Some won.value) in let b : ℕ × Option T = (0, out) in let q : a ≡ b = cc in let p : Some won.value ≡ Some x = ap (λ (z : ℕ × Option T). z.1) q ∙ e₄ in cc

    view_is : m₃.0 ≡ taken_view m.0 (entries x)
    view_is = ap (λ (y : M). y.0) (e₃ ∙ e₂) ∙ (won.view ∙ ap (λ y. taken_view m.0 (entries y)) value_is)

    pub takes : (table : TableId) → Takes entries owner setting_of (chair_of table m.0) x × (chair_of table m₃.0 ≡ with_turn (chair_of table m.0) (entries x))
    takes table = (
      record {
        setting_is = won.setting_is ∙ ap (λ y. Some (setting_of y)) value_is;
        learns = learns table m.0 (entries x) ok.view (subst (λ y. Teaches owner m.0 (entries y)) value_is won.teaches);
        added = subst (λ y. GrewByChairs owner m.0.seats m.0.opening (entries y)) value_is won.added;
      },
      ap (chair_of table) view_is,
    )
