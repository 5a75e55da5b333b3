-- What contracts see of a seat at the table, and what a chair and a note are sure of.
use Rattle.std.specs.Prelude.{◌≡◌, ℕ, List, [], ◌∷◌, length, Option, None, MatchOption}
use Rattle.atomic_table.specs.Seated.{TableId}
use Rattle.atomic_table.specs.Table.{Me}
use Rattle.mz_turn.specs.declared.view.View.{View}
use Rattle.mz_turn.specs.Views.{own_of}
use Rattle.mz_turn.specs.Chair.{LockId, ChairState, NoteState}
use Rattle.mz_turn.specs.Invariant.{IsChairView}

abbrev pub lock_of : {E S : Type 0} → TableId → ℕ → Option S → List E → LockId E S
lock_of table seats setting opening = record { table = table; seats = seats; setting = setting; opening = opening }

module _ {E S : Type 0} where
  abbrev pub chair_of : TableId → View E S → ChairState E S
  chair_of table v = record {
    lock = lock_of table v.seats v.setting v.opening;
    number = v.number;
    seen = v.seen;
    own = own_of v.kept;
    told = v.told;
    taken = v.taken;
    tries = v.tries;
    found = v.found;
  }

  abbrev pub note_of : TableId → View E S → NoteState E S
  note_of table v = record { lock = lock_of table v.seats v.setting v.opening; seen = v.seen }

-- the slot is out with the chair that holds the turn, and empty until the value is put back
pub record HasTaken {T E S : Type 0} (size : ℕ) (me : Me (Option T) (View E S)) (taken : List E) : Type 0 where
  pub size_is : size ≡ length taken
  pub slot : me.1 ≡ (0, None) ∷ []
  pub own : own_of me.0.kept ≡ taken

pub record IsChair {T E S : Type 0} (number size : ℕ) (me : Me (Option T) (View E S)) : Type 0 where
  pub number_is : number ≡ me.0.number
  pub view : IsChairView me.0
  pub turn : MatchOption me.0.taken (me.1 ≡ []) (λ taken. HasTaken size me taken)

pub record IsNote {T E S : Type 0} (me : Me (Option T) (View E S)) : Type 0 where
  pub slot : me.1 ≡ []
  pub kept : me.0.kept ≡ []
  pub told : me.0.told ≡ []
  pub taken : me.0.taken ≡ None
