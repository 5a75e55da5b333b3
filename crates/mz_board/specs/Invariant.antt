-- The board's invariant, which holds between any two steps. The words are the lock word, the count word, the front word
-- and a word for each item, and one slot holds the value.
use Rattle.std.specs.Prelude.{◌≡◌, ◌≢◌, ◌+◌, ◌<◌, ◌≤◌, ◌⊎◌, ℕ, List, [], ◌∷◌, length, slice_index_or, Bool, true, false, cond, Option, Some, None}
use Rattle.std.specs.List.{All}
use Rattle.mz_num.specs.Limits.{most_workers}
use mathlib.Core.Option.{some, none}
use mathlib.Core.Option as maybe
use lib.ListN.{get_elem?}
use Rattle.atomic_table.specs.Table.{State}
use Rattle.mz_board.specs.declared.story.Story.{Ghosts}
use Rattle.mz_board.specs.declared.view.View.{View}
use Rattle.mz_board.specs.Seen.{Begins, GrewByOthers}
use Rattle.mz_board.specs.Items.{written, word_of, value_after, ReadOk, IsLastWrite}
use Rattle.mz_board.specs.Views.{own_of}
use Rattle.mz_board.specs.Chair.{Fitting}

-- the number is among those kept
abbrev pub Keeps : {E : Type 0} → ℕ → List (ℕ × List E) → Type 0
Keeps n [] = ⊥
Keeps n (k ∷ ks) = (k.0 ≡ n) ⊎ Keeps n ks

-- what is fixed at the opening
pub record Fixed (S : Type 0) : Type 0 where
  pub setting : S
  pub seats : ℕ
  pub opening : List ℕ

-- how the board stands: its words, the longest list that was seen, whose length is the count word, and what is owed
pub record Stand (E : Type 0) : Type 0 where
  pub word : ℕ
  pub list : List E
  pub front : ℕ
  pub items : List ℕ
  pub owed : List (ℕ × ℕ)

abbrev pub words_of : {E : Type 0} → Stand E → List ℕ
words_of now = now.word ∷ length now.list ∷ now.front ∷ now.items

-- an entry that was appended and isn't published yet
abbrev pub more : Bool → ℕ
more appended = cond appended 1 0

-- a view that holds the turn has seen and taken the whole list, and the lock word is its number and 1; it alone owes
-- items
pub record HoldsTurn {E S : Type 0} (now : Stand E) (v : View E S) (taken : List E) : Type 0 where
  pub whole : taken ≡ now.list
  pub seen : v.seen ≡ now.list
  pub word_is : now.word ≡ v.number + 1
  pub keeps : Keeps v.number v.kept
  pub reached : v.post.reached ≤ length now.list
  pub front_is : now.front + more v.post.appended ≡ length now.list
  pub owes : v.post.owes ≡ now.owed

-- every other view has seen no more entries than are published, and owes nothing
pub record IsIdle {E S : Type 0} (front : ℕ) (v : View E S) : Type 0 where
  pub reached : v.post.reached ≤ front
  pub appended : v.post.appended ≡ false
  pub owes : v.post.owes ≡ []

module _ {T E S : Type 0} (story : Ghosts T E S) (fixed : Fixed S) (now : Stand E) where
  -- a view agrees with the one list, the longest that was seen
  pub record Fits (v : View E S) : Type 0 where
    pub seen : Begins v.seen now.list
    pub kept : All (λ (k : ℕ × List E). (k.0 < fixed.seats) × GrewByOthers story.owner k.0 k.1 now.list) v.kept
    pub told : All (λ brought. Begins brought now.list) v.told
    pub knows : (s : S) → v.setting ≡ Some s → (s ≡ fixed.setting) × (v.opening ≡ fixed.opening)
    pub holds : (taken : List E) → v.taken ≡ Some taken → HoldsTurn now v taken
    pub idle : v.taken ≡ None → IsIdle now.front v
    pub front : (front : ℕ) → v.post.front ≡ Some front → front ≤ now.front
    pub items : (front : ℕ) → v.post.front ≡ Some front
        → All (ReadOk story.writes front fixed.opening now.list) v.post.items

  -- the value is at home, with the list and the setting, and all is published
  pub record IsHome (homes : List (maybe.Option (Option T))) : Type 0 where
    pub value : T
    pub home : homes ≡ some (Some value) ∷ []
    pub list_is : story.entries value ≡ now.list
    pub setting_is : story.setting value ≡ fixed.setting
    pub level : now.front ≡ length now.list
    pub paid : now.owed ≡ []

  -- the published words follow the list
  pub record IsPosted : Type 0 where
    pub few : length now.list ≤ story.most fixed.setting
    pub front : now.front ≤ length now.list
    pub width : length now.items ≡ length fixed.opening
    -- an item that isn't owed has its value after the list, and one that is owed is written by the last entry
    pub values : (item : ℕ) → item < length fixed.opening → written item now.owed ≡ None
        → slice_index_or now.items item 0 ≡ value_after story.writes item (word_of fixed.opening item) now.list
    pub owed : (item value : ℕ) → written item now.owed ≡ Some value
        → IsLastWrite story.writes now.front now.list item value
    pub may : (item : ℕ) → item < length fixed.opening
        → story.may_have fixed.setting item (slice_index_or now.items item 0) ≡ true
    pub fitting : All (Fitting story fixed.setting fixed.opening) now.list

module _ {T E S : Type 0} (story : Ghosts T E S) (fixed : Fixed S) where
  pub record BoardHolds (s : State (Option T) (View E S)) : Type 0 where
    pub few : fixed.seats ≤ most_workers
    pub now : Stand E
    pub words : s.words ≡ words_of now
    pub owners : All (λ entry. story.owner entry < fixed.seats) now.list
    pub fits : (i : ℕ) (v : View E S) → get_elem? s.views i ≡ some v → Fits story fixed now v
    -- each chair's number is kept by exactly one view
    pub once : (n i j : ℕ) (v w : View E S) → get_elem? s.views i ≡ some v → get_elem? s.views j ≡ some w
        → Keeps n v.kept → Keeps n w.kept → i ≡ j
    pub every : (n : ℕ) → n < fixed.seats → (i : ℕ) × ((v : View E S) × (get_elem? s.views i ≡ some v)
        × Keeps n v.kept)
    -- the value is at home where no view holds the turn, and else a view has it
    pub free : now.word ≡ 0 → IsHome story fixed now s.homes
    pub held : now.word ≢ 0 → (s.homes ≡ none ∷ []) × ((i : ℕ)
        × ((v : View E S) × (get_elem? s.views i ≡ some v) × ((taken : List E) × (v.taken ≡ Some taken))))
    pub posted : IsPosted story fixed now

-- the view of a chair, which keeps its own number alone
pub record IsChairView {E S : Type 0} (v : View E S) : Type 0 where
  pub kept : v.kept ≡ (v.number, own_of v.kept) ∷ []
  pub own : length (own_of v.kept) ≤ length v.seen
  pub told : All (λ brought. length brought ≤ length v.seen) v.told
  pub reached : length v.seen ≤ v.post.reached
  pub owes : All (λ (w : ℕ × ℕ). w.0 < length v.opening) v.post.owes
