-- What contracts see of a seat at the table, and what a chair and a note are sure of.
use Rattle.std.specs.Prelude.{◌≡◌, ◌≤◌, ℕ, List, [], ◌∷◌, length, cond, false, Option, Some, None, MatchOption}
use Rattle.atomic_table.specs.Seated.{TableId}
use Rattle.atomic_table.specs.Table.{Me}
use Rattle.mz_board.specs.declared.view.View.{View}
use Rattle.mz_board.specs.Views.{own_of}
use Rattle.mz_board.specs.Chair.{BoardId, ChairState, NoteState}
use Rattle.mz_board.specs.Invariant.{IsChairView}

abbrev pub board_of : {S : Type 0} → TableId → ℕ → Option S → List ℕ → BoardId S
board_of table seats setting opening = record { table = table; seats = seats; setting = setting; opening = opening }

module _ {E S : Type 0} where
  abbrev pub chair_of : TableId → View E S → ChairState E S
  chair_of table v = record {
    lock = board_of table v.seats v.setting v.opening;
    number = v.number;
    seen = v.seen;
    own = own_of v.kept;
    told = v.told;
    taken = v.taken;
    tries = v.tries;
    found = v.found;
    post = v.post;
  }

  abbrev pub note_of : TableId → View E S → NoteState E S
  note_of table v = record {
    lock = board_of table v.seats v.setting v.opening;
    seen = v.seen;
    reached = v.post.reached;
  }

-- the slot is out with the chair that holds the turn, and empty until the value is put back; `front` is the one to
-- publish
pub record HasTaken {T E S : Type 0} (front : Option ℕ) (me : Me (Option T) (View E S)) (taken : List E) : Type 0
  where
    pub front_is : front ≡ cond me.0.post.appended (Some (length taken)) None
    pub slot : me.1 ≡ (0, None) ∷ []
    pub own : own_of me.0.kept ≡ taken
    pub seen : me.0.seen ≡ taken

-- a chair without the turn holds no slot, owes nothing and has nothing to publish
pub record HasNone {T E S : Type 0} (front : Option ℕ) (me : Me (Option T) (View E S)) : Type 0 where
  pub front_is : front ≡ None
  pub slot : me.1 ≡ []
  pub appended : me.0.post.appended ≡ false
  pub owes : me.0.post.owes ≡ []

pub record IsChair {T E S : Type 0} (number : ℕ) (front : Option ℕ) (me : Me (Option T) (View E S)) : Type 0 where
  pub number_is : number ≡ me.0.number
  pub view : IsChairView me.0
  pub turn : MatchOption me.0.taken (HasNone front me) (λ taken. HasTaken front me taken)

pub record IsNote {T E S : Type 0} (me : Me (Option T) (View E S)) : Type 0 where
  pub slot : me.1 ≡ []
  pub kept : me.0.kept ≡ []
  pub told : me.0.told ≡ []
  pub taken : me.0.taken ≡ None
  pub reached : length me.0.seen ≤ me.0.post.reached
