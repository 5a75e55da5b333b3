-- What the holder does with the value that has come home to its slot.
use Rattle.std.specs.Prelude.{◌≡◌, ◌<◌, ◌^◌, ℕ, List, [], ◌∷◌, ◌++◌, length, Bool, true, false, Option, Some}
use Rattle.atomic_table.specs.Table.{Me}
use Rattle.mz_turn.specs.declared.view.View.{View}
use Rattle.mz_turn.specs.Views.{appended_view, own_of}

module _ {E : Type 0} (owner : E → ℕ) (number : ℕ) (taken list : List E) where
  -- the list has one entry of the number more than the taken one, or none
  abbrev pub GrowsBy : Bool → Type 0
  GrowsBy true = (entry : E) × (list ≡ taken ++ entry ∷ []) × (owner entry ≡ number)
  GrowsBy false = list ≡ taken

module _ {T E S : Type 0} (entries : T → List E) where
  pub record MayAppend (owner : E → ℕ) (me : Me (Option T) (View E S)) (grew : Bool) : Type 0 where
    pub value : T
    pub taken : List E
    pub home : me.1 ≡ (0, Some value) ∷ []
    pub holds : me.0.taken ≡ Some taken
    pub kept : me.0.kept ≡ (me.0.number, own_of me.0.kept) ∷ []
    pub grows : GrowsBy owner me.0.number taken (entries value) grew
    pub fits : length (entries value) < 2 ^ 64

  abbrev pub Appends : Bool → Me (Option T) (View E S) → Me (Option T) (View E S) → Type 0
  Appends false me me' = me' ≡ me
  Appends true me me' = (value : T) → me.1 ≡ (0, Some value) ∷ []
      → (me' ≡ (appended_view me.0 (entries value), me.1)) × (me.0.taken ≡ Some me.0.seen)
