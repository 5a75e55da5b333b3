-- What contracts see of a lock, a chair and a note.
use Rattle.std.specs.Prelude.{◌≡◌, ◌≢◌, ◌+◌, ◌<◌, ◌≤◌, ◌⊎◌, ℕ, List, [], ◌∷◌, ◌++◌, length, slice_get, Option, Some, None}
use Rattle.std.specs.List.{All, Contains}
use Rattle.atomic_table.specs.Seated.{TableId}
use Rattle.mz_turn.specs.Seen.{Begins, GrewByOthers, GrewByChairs, longer}

-- which lock it is, how many chairs it has, the setting of its value, and the value's list at the opening
pub record LockId (E S : Type 0) : Type 0 where
  pub table : TableId
  pub seats : ℕ
  pub setting : Option S
  pub opening : List E

pub record ChairState (E S : Type 0) : Type 0 where
  -- the lock that the chair is at, with its setting and its list at the opening
  pub lock : LockId E S
  pub number : ℕ
  -- the list that the chair has seen
  pub seen : List E
  -- the list that it has seen under its own number: no later entry has this number
  pub own : List E
  -- the lists that joins brought since the last count or take
  pub told : List (List E)
  -- the list that was taken, where the chair holds the turn
  pub taken : Option (List E)
  -- how many tries for the lock failed, and the lock word that the last of these found
  pub tries : ℕ
  pub found : ℕ

pub record NoteState (E S : Type 0) : Type 0 where
  pub lock : LockId E S
  pub seen : List E

-- the list begins with what the chair has seen, and what was added is not the chair's; it begins with what
-- joins brought
pub record Learns {E S : Type 0} (owner : E → ℕ) (chair : ChairState E S) (list : List E) : Type 0 where
  pub seen : GrewByOthers owner chair.number chair.seen list
  pub own : GrewByOthers owner chair.number chair.own list
  pub told : All (λ brought. Begins brought list) chair.told

-- a chair at the opening: it has seen the value's list, and holds nothing
abbrev pub fresh_chair : {E S : Type 0} → LockId E S → ℕ → ChairState E S
fresh_chair lock number = record {
  lock = lock;
  number = number;
  seen = lock.opening;
  own = lock.opening;
  told = [];
  taken = None;
  tries = 0;
  found = 0;
}

-- so many chairs, numbered in order, as at the opening
pub record AreFresh {E S : Type 0} (lock : LockId E S) (seats : ℕ) (chairs : List (ChairState E S)) : Type 0 where
  pub count : length chairs ≡ seats
  pub each : (number : ℕ) → number < seats → slice_get chairs number ≡ Some (fresh_chair lock number)

-- after a take the chair has seen the whole list, under its number too
abbrev pub with_turn : {E S : Type 0} → ChairState E S → List E → ChairState E S
with_turn chair list = record chair { seen = list; own = list; told = []; taken = Some list }

-- what a take gives: the value has the chair's setting, its list goes on from what the chair knew, and behind the list
-- of the opening each entry is a chair's
pub record Takes {T E S : Type 0} (entries : T → List E) (owner : E → ℕ) (setting : T → S) (chair : ChairState E S)
    (value : T) : Type 0 where
  pub setting_is : chair.lock.setting ≡ Some (setting value)
  pub learns : Learns owner chair (entries value)
  pub added : GrewByChairs owner chair.lock.seats chair.lock.opening (entries value)

-- the lock word is the number of another chair of the lock, and 1
pub record FoundAnother {E S : Type 0} (chair : ChairState E S) (word : ℕ) : Type 0 where
  pub other : ℕ
  pub word_is : word ≡ other + 1
  pub apart : other ≢ chair.number
  pub within : other < chair.lock.seats

-- what was found changes only with a failed try, and then the last of these found another chair's turn
abbrev pub FailedTries : {E S : Type 0} → ChairState E S → ChairState E S → Type 0
FailedTries old new = ((new.tries ≡ old.tries) × (new.found ≡ old.found))
    ⊎ ((old.tries < new.tries) × FoundAnother old new.found)

-- a take after some failed tries: the chair holds the turn
pub record TookTurn {E S : Type 0} (old new : ChairState E S) (list : List E) : Type 0 where
  pub now : new ≡ record (with_turn old list) { tries = new.tries; found = new.found }
  pub tries : old.tries ≤ new.tries
  pub failed : FailedTries old new

-- a failed try: the turn is another chair's, and nothing else changed
pub record Misses {E S : Type 0} (old new : ChairState E S) (other : ℕ) : Type 0 where
  pub apart : other ≢ old.number
  pub chair : other < old.lock.seats
  pub now : new ≡ record old { tries = old.tries + 1; found = other + 1 }

-- the chair holds the turn, and the list is the taken one, or has one entry more, of the chair's number
pub record EndsTurn {E S : Type 0} (owner : E → ℕ) (chair : ChairState E S) (list : List E) : Type 0 where
  pub taken : List E
  pub holds : chair.taken ≡ Some taken
  pub step : (list ≡ taken) ⊎ ((entry : E) × (list ≡ taken ++ entry ∷ []) × (owner entry ≡ chair.number))

-- after the turn the chair has seen the list that it put back
abbrev pub without_turn : {E S : Type 0} → ChairState E S → List E → ChairState E S
without_turn chair list = record chair { seen = list; own = list; taken = None }

-- what was seen is also seen under the chair's number
abbrev pub counted : {E S : Type 0} → ChairState E S → ChairState E S
counted chair = record chair { own = chair.seen; told = [] }

abbrev pub note_of_chair : {E S : Type 0} → ChairState E S → NoteState E S
note_of_chair chair = record { lock = chair.lock; seen = chair.seen }

-- the longer list is then the seen one, and both are told
abbrev pub joined : {E S : Type 0} → ChairState E S → NoteState E S → ChairState E S
joined chair note = record chair { seen = longer chair.seen note.seen; told = note.seen ∷ chair.seen ∷ chair.told }

-- all chairs of the lock, none of which holds the turn
pub record AreAllOf {E S : Type 0} (lock : LockId E S) (chairs : List (ChairState E S)) : Type 0 where
  pub here : All (λ chair. (chair.lock ≡ lock) × (chair.taken ≡ None)) chairs
  pub every : (number : ℕ) → number < lock.seats → (chair : ChairState E S) × Contains chairs chair
      × (chair.number ≡ number)
