-- What contracts see of a board, a chair and a note.
use Rattle.std.specs.Prelude.{◌≡◌, ◌≢◌, ◌+◌, ◌<◌, ◌≤◌, ◌⊎◌, ℕ, max, List, [], ◌∷◌, ◌++◌, length, slice_get, true, false, Option, Some, None}
use Rattle.std.specs.List.{All, Contains}
use Rattle.atomic_table.specs.Seated.{TableId}
use Rattle.mz_board.specs.declared.post.Post.{Post}
use Rattle.mz_board.specs.declared.story.Story.{Ghosts}
use Rattle.mz_board.specs.Seen.{Begins, GrewByOthers, longer}
use Rattle.mz_board.specs.Items.{without, ReadOk}
use Rattle.mz_board.specs.Views.{new_post}

-- which board it is, how many chairs it has, the setting of its value, and the words that its items had at the opening
pub record BoardId (S : Type 0) : Type 0 where
  pub table : TableId
  pub seats : ℕ
  pub setting : Option S
  pub opening : List ℕ

pub record ChairState (E S : Type 0) : Type 0 where
  -- the board that the chair is at, with its setting and its opening words
  pub lock : BoardId S
  pub number : ℕ
  -- the list that the chair has seen
  pub seen : List E
  -- the list that it has seen under its own number: no later entry has this number
  pub own : List E
  -- the lists that joins brought since the last count or take
  pub told : List (List E)
  -- the list that was taken, with what was appended, where the chair holds the turn
  pub taken : Option (List E)
  -- how many tries for the lock failed, and the lock word that the last of these found
  pub tries : ℕ
  pub found : ℕ
  -- how many entries it has seen, what it owes, the last front that it loaded, with the items since, and how many
  -- fronts it loaded
  pub post : Post

pub record NoteState (E S : Type 0) : Type 0 where
  pub lock : BoardId S
  pub seen : List E
  pub reached : ℕ

-- the list begins with what the chair has seen, and what was added is not the chair's; it begins with what joins
-- brought
pub record Learns {E S : Type 0} (owner : E → ℕ) (chair : ChairState E S) (list : List E) : Type 0 where
  pub seen : GrewByOthers owner chair.number chair.seen list
  pub own : GrewByOthers owner chair.number chair.own list
  pub told : All (λ brought. Begins brought list) chair.told

-- what was read of the published words goes for the list: it has at least as many entries as were seen, and each item
-- that was loaded has this value after the list, or an entry at the front or later writes it
pub record Reads {E : Type 0} (writes : E
    → List (ℕ × ℕ)) (opening : List ℕ) (post : Post) (list : List E) : Type 0 where
  pub reached : post.reached ≤ length list
  pub front : (front : ℕ) → post.front ≡ Some front → front ≤ length list
  pub items : (front : ℕ) → post.front ≡ Some front → All (ReadOk writes front opening list) post.items

-- a chair at the opening: it has seen nothing, and holds nothing
abbrev pub fresh_chair : {E S : Type 0} → BoardId S → ℕ → ChairState E S
fresh_chair lock number = record {
  lock = lock;
  number = number;
  seen = [];
  own = [];
  told = [];
  taken = None;
  tries = 0;
  found = 0;
  post = new_post 0;
}

-- so many chairs, numbered in order, as at the opening
pub record AreFresh {E S : Type 0} (lock : BoardId S) (seats : ℕ) (chairs : List (ChairState E S)) : Type 0 where
  pub count : length chairs ≡ seats
  pub each : (number : ℕ) → number < seats → slice_get chairs number ≡ Some (fresh_chair lock number)

-- after a take the chair has seen just the whole list, under its number too, and has appended nothing yet
abbrev pub with_turn : {E S : Type 0} → ChairState E S → List E → ChairState E S
with_turn chair list = record chair {
  seen = list;
  own = list;
  told = [];
  taken = Some list;
  post = record chair.post { reached = length list; appended = false; owes = [] };
}

-- what a take gives: the value has the chair's setting, and its list goes on from what the chair knew and has read
pub record Takes {T E S : Type 0} (story : Ghosts T E S) (chair : ChairState E S) (value : T) : Type 0 where
  pub setting_is : chair.lock.setting ≡ Some (story.setting value)
  pub learns : Learns story.owner chair (story.entries value)
  pub reads : Reads story.writes chair.lock.opening chair.post (story.entries value)
  -- every entry is a chair's, and they are not too many
  pub owners : All (λ entry. story.owner entry < chair.lock.seats) (story.entries value)
  pub few : length (story.entries value) ≤ story.most (story.setting value)

-- the lock word is the number of another chair of the board, and 1
pub record FoundAnother {E S : Type 0} (chair : ChairState E S) (word : ℕ) : Type 0 where
  pub other : ℕ
  pub word_is : word ≡ other + 1
  pub apart : other ≢ chair.number
  pub within : other < chair.lock.seats

-- what was found changes only with a failed try, and then the last of these found another chair's turn
abbrev pub FailedTries : {E S : Type 0} → ChairState E S → ChairState E S → Type 0
FailedTries old new = ((new.tries ≡ old.tries) × (new.found ≡ old.found)) ⊎ ((old.tries < new.tries)
    × FoundAnother old new.found)

-- a take after some failed tries: the chair holds the turn
pub record TookTurn {E S : Type 0} (old new : ChairState E S) (list : List E) : Type 0 where
  pub now : new ≡ record (with_turn old list) { tries = new.tries; found = new.found }
  pub tries : old.tries ≤ new.tries
  pub failed : FailedTries old new

-- a failed try: the turn is another chair's, and nothing else changed
pub record Misses {E S : Type 0} (old new : ChairState E S) (other : ℕ) : Type 0 where
  pub apart : other ≢ old.number
  pub chair : other < old.lock.seats
  pub now : new ≡ record old { tries = old.tries + 1; found = other + 1 }

-- an entry writes only items of the board, with values that they may have
abbrev pub Fitting : {T E S : Type 0} → Ghosts T E S → S → List ℕ → E → Type 0
Fitting story setting opening entry = All (λ (w : ℕ × ℕ). (w.0 < length opening)
    × (story.may_have setting w.0 w.1 ≡ true)) (story.writes entry)

-- the chair holds the turn and has appended nothing in it, and the value's list has one entry more, of the chair's
-- number
pub record MayAppend {T E S : Type 0} (story : Ghosts T E S) (chair : ChairState E S) (value : T) : Type 0 where
  pub taken : List E
  pub holds : chair.taken ≡ Some taken
  pub first : chair.post.appended ≡ false
  pub entry : E
  pub grows : story.entries value ≡ taken ++ entry ∷ []
  pub own : story.owner entry ≡ chair.number
  pub few : length (story.entries value) ≤ story.most (story.setting value)
  pub fitting : Fitting story (story.setting value) chair.lock.opening entry

-- the chair has then seen the longer list, and owes what the entry writes
abbrev pub with_entry : {E S : Type 0} → ChairState E S → List E → List (ℕ × ℕ) → ChairState E S
with_entry chair list owes = record chair {
  seen = list;
  own = list;
  taken = Some list;
  post = record chair.post { reached = length list; appended = true; owes = owes };
}

-- an item is no longer owed
abbrev pub with_stored : {E S : Type 0} → ChairState E S → ℕ → ChairState E S
with_stored chair item = record chair { post = record chair.post { owes = without item chair.post.owes } }

-- the chair holds the turn and owes nothing, and the list is the one that it has seen
pub record EndsTurn {E S : Type 0} (chair : ChairState E S) (list : List E) : Type 0 where
  pub taken : List E
  pub holds : chair.taken ≡ Some taken
  pub paid : chair.post.owes ≡ []
  pub whole : list ≡ chair.seen

abbrev pub without_turn : {E S : Type 0} → ChairState E S → ChairState E S
without_turn chair = record chair { taken = None; post = record chair.post { appended = false; owes = [] } }

-- what was seen is also seen under the chair's number
abbrev pub counted : {E S : Type 0} → ChairState E S → ChairState E S
counted chair = record chair { own = chair.seen; told = [] }

-- a front was loaded, and no item since
abbrev pub with_front : {E S : Type 0} → ChairState E S → ℕ → ChairState E S
with_front chair front = record chair {
  post = record chair.post {
    reached = front;
    front = Some front;
    items = [];
    fronts = chair.post.fronts + 1;
  };
}

abbrev pub with_item : {E S : Type 0} → ChairState E S → ℕ → ℕ → ChairState E S
with_item chair item value = record chair { post = record chair.post { items = (item, value) ∷ chair.post.items } }

abbrev pub note_of_chair : {E S : Type 0} → ChairState E S → NoteState E S
note_of_chair chair = record { lock = chair.lock; seen = chair.seen; reached = chair.post.reached }

-- the longer list is then the seen one, and both are told; the number of entries seen is the greater one
abbrev pub joined : {E S : Type 0} → ChairState E S → NoteState E S → ChairState E S
joined chair note = record chair {
  seen = longer chair.seen note.seen;
  told = note.seen ∷ chair.seen ∷ chair.told;
  post = record chair.post { reached = max chair.post.reached note.reached };
}

-- all chairs of the board, none of which holds the turn
pub record AreAllOf {E S : Type 0} (lock : BoardId S) (chairs : List (ChairState E S)) : Type 0 where
  pub here : All (λ chair. (chair.lock ≡ lock) × (chair.taken ≡ None)) chairs
  pub every : (number : ℕ) → number < lock.seats
      → (chair : ChairState E S) × Contains chairs chair × (chair.number ≡ number)
