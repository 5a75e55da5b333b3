-- Many lists in one: where each starts among the items.
use Rattle.std.specs.Prelude.{◌≡◌, ℕ, ◌+◌, ◌-◌, ◌<◌, ◌≤◌, List, [], ◌∷◌, ◌++◌, length}
use Rattle.std.specs.Prelude.{slice_index, slice_index_or, slice_range, slice_set}
use Rattle.mz_num.specs.Places.{list_below, values_at}

-- the lists: each from its start up to the next one's
abbrev pub groups_of : {X : Type 0} → List ℕ → List X → List (List X)
groups_of starts items =
    list_below (length starts - 1) (λ k. slice_range items (slice_index starts k) (slice_index starts (k + 1)))

-- the starts rise, and the last one is the number of items
pub record IsCut (starts : List ℕ) (count : ℕ) : Type 0 where
  pub some_start : 0 < length starts
  pub rising : (k : ℕ) → k + 1 < length starts → slice_index starts k ≤ slice_index starts (k + 1)
  pub last : slice_index starts (length starts - 1) ≡ count

-- the lists with more values behind them: each in the list of its place
abbrev pub filled : {X : Type 0} → List (List X) → List (ℕ × X) → List (List X)
filled lists entries = list_below (length lists) (λ k. slice_index_or lists k [] ++ values_at k entries)

-- lists that are being filled, and how many items each of them is to have
pub record Filling (X : Type 0) : Type 0 where
  pub lists : List (List X)
  pub room : List ℕ

-- lists with no item yet, with room for so many items each
abbrev pub unfilled : {X : Type 0} → List ℕ → Filling X
unfilled {X} counts = record { lists = list_below (length counts) (λ _. []); room = counts }

-- one item more in the list of a place
abbrev pub pushed : {X : Type 0} → Filling X → ℕ → X → Filling X
pushed {X} filling place item =
    record filling { lists = slice_set filling.lists place (slice_index_or filling.lists place [] ++ item ∷ []) }

-- one more at a place
abbrev pub one_more : List ℕ → ℕ → List ℕ
one_more counts place = slice_set counts place (slice_index counts place + 1)

-- the lists so far: each from its start up to its end
abbrev pub lists_upto : {X : Type 0} → List ℕ → List ℕ → List X → List (List X)
lists_upto starts ends items =
    list_below (length ends) (λ k. slice_range items (slice_index starts k) (slice_index ends k))

-- the room of each list: from its start up to the next one's
abbrev pub room_of : List ℕ → ℕ → List ℕ
room_of starts places = list_below places (λ k. slice_index starts (k + 1) - slice_index starts k)

abbrev pub filling_of : {X : Type 0} → List ℕ → List ℕ → List X → Filling X
filling_of starts ends items = record { lists = lists_upto starts ends items; room = room_of starts (length ends) }

-- each end lies between its list's start and the next one's
pub record IsFilling (starts ends : List ℕ) (count : ℕ) : Type 0 where
  pub cut : IsCut starts count
  pub places : length starts ≡ length ends + 1
  pub begun : (k : ℕ) → k < length ends → slice_index starts k ≤ slice_index ends k
  pub inside : (k : ℕ) → k < length ends → slice_index ends k ≤ slice_index starts (k + 1)

-- numbers by place with the number of values behind them that each place has
abbrev pub counts_with : {X : Type 0} → List ℕ → List (ℕ × X) → List ℕ
counts_with counts entries = list_below (length counts) (λ k. slice_index counts k + length (values_at k entries))

-- the lists have room for more values
abbrev pub HasRoom : {X : Type 0} → Filling X → List (ℕ × X) → Type 0
HasRoom {X} filling entries =
    (k : ℕ) → k < length filling.lists
    → length (slice_index_or filling.lists k []) + length (values_at k entries) ≤ slice_index filling.room k
