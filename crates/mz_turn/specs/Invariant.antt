-- The lock's invariant, which holds between any two steps. The words are the lock word and the count word,
-- and one slot holds the value.
use Rattle.std.specs.Prelude.{◌≡◌, ◌≢◌, ◌+◌, ◌<◌, ◌≤◌, ◌⊎◌, ℕ, List, [], ◌∷◌, length, Option, Some}
use Rattle.mz_num.specs.Limits.{most_workers}
use Rattle.std.specs.List.{All}
use mathlib.Core.Option.{some, none}
use mathlib.Core.Option as maybe
use lib.ListN.{get_elem?}
use Rattle.atomic_table.specs.Table.{State}
use Rattle.mz_turn.specs.declared.view.View.{View}
use Rattle.mz_turn.specs.Seen.{Begins, GrewByOthers, GrewByChairs}
use Rattle.mz_turn.specs.Views.{own_of}

-- the number is among those kept
abbrev pub Keeps : {E : Type 0} → ℕ → List (ℕ × List E) → Type 0
Keeps n [] = ⊥
Keeps n (k ∷ ks) = (k.0 ≡ n) ⊎ Keeps n ks

-- a view that holds the turn has seen and taken the whole list, and the lock word is its number and 1
pub record HoldsTurn {E S : Type 0} (word : ℕ) (list : List E) (v : View E S) (taken : List E) : Type 0 where
  pub whole : taken ≡ list
  pub seen : v.seen ≡ list
  pub word_is : word ≡ v.number + 1
  pub keeps : Keeps v.number v.kept

module _ {E S : Type 0} (owner : E → ℕ) (start : List E) (setting : S) (seats word : ℕ) (list : List E) where
  -- a view agrees with the one list, the longest that was seen
  pub record Fits (v : View E S) : Type 0 where
    pub seen : Begins v.seen list
    pub kept : All (λ (k : ℕ × List E). (k.0 < seats) × GrewByOthers owner k.0 k.1 list) v.kept
    pub told : All (λ brought. Begins brought list) v.told
    pub knows : (s : S) → v.setting ≡ Some s → (s ≡ setting) × (v.opening ≡ start)
    pub holds : (taken : List E) → v.taken ≡ Some taken → HoldsTurn word list v taken

module _ {T E S : Type 0} (entries : T → List E) (owner : E → ℕ) (setting_of : T → S) where
  -- the value is at home, with the list and the setting
  pub record IsHome (setting : S) (list : List E) (homes : List (maybe.Option (Option T))) : Type 0 where
    pub value : T
    pub home : homes ≡ some (Some value) ∷ []
    pub list_is : entries value ≡ list
    pub setting_is : setting_of value ≡ setting

  -- `start` is the value's list at the opening
  pub record LockHolds (start : List E) (setting : S) (seats : ℕ) (s : State (Option T) (View E S)) : Type 0 where
    pub few : seats ≤ most_workers
    pub word : ℕ
    pub list : List E
    pub words : s.words ≡ word ∷ length list ∷ []
    -- what was added belongs to chairs
    pub added : GrewByChairs owner seats start list
    pub fits : (i : ℕ) (v : View E S) → get_elem? s.views i ≡ some v → Fits owner start setting seats word list v
    -- some view has seen the whole list
    pub whole : (i : ℕ) × ((v : View E S) × (get_elem? s.views i ≡ some v) × (v.seen ≡ list))
    -- each chair's number is kept by exactly one view
    pub once : (n i j : ℕ) (v w : View E S) → get_elem? s.views i ≡ some v → get_elem? s.views j ≡ some w
        → Keeps n v.kept → Keeps n w.kept → i ≡ j
    pub every : (n : ℕ) → n < seats → (i : ℕ) × ((v : View E S) × (get_elem? s.views i ≡ some v) × Keeps n v.kept)
    -- the value is at home where no view holds the turn, and else a view has it
    pub free : word ≡ 0 → IsHome setting list s.homes
    pub held : word ≢ 0 → (s.homes ≡ none ∷ [])
        × ((i : ℕ) × ((v : View E S) × (get_elem? s.views i ≡ some v) × ((taken : List E) × (v.taken ≡ Some taken))))

-- the view of a chair, which keeps its own number alone
pub record IsChairView {E S : Type 0} (v : View E S) : Type 0 where
  pub kept : v.kept ≡ (v.number, own_of v.kept) ∷ []
  pub own : length (own_of v.kept) ≤ length v.seen
  pub told : All (λ brought. length brought ≤ length v.seen) v.told
