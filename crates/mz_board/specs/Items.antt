-- What entries write into the items of a board, and what an item's value is after a list.
use Rattle.std.specs.Prelude.{◌≡◌, ◌≤◌, ◌⊎◌, ℕ, List, [], ◌∷◌, ◌++◌, length, eqb, not, cond, slice_index_or, unwrap_or, Option, Some, None}
use Rattle.std.specs.List.{filter}

-- the value that writes have for an item, if they have one
abbrev pub written : ℕ → List (ℕ × ℕ) → Option ℕ
written item [] = None
written item (w ∷ ws) = cond (eqb w.0 item) (Some w.1) (written item ws)

-- the writes of all other items
abbrev pub without : ℕ → List (ℕ × ℕ) → List (ℕ × ℕ)
without item ws = filter (λ w. not (eqb w.0 item)) ws

-- the opening word of an item
abbrev pub word_of : List ℕ → ℕ → ℕ
word_of words item = slice_index_or words item 0

module _ {E : Type 0} (writes : E → List (ℕ × ℕ)) where
  -- what the last entry that writes the item wrote, else the opening word
  abbrev pub value_after : ℕ → ℕ → List E → ℕ
  value_after item opening [] = opening
  value_after item opening (e ∷ es) = value_after item (unwrap_or (written item (writes e)) opening) es

  -- an entry at the front or later writes the item
  pub record IsWrittenFrom (front item : ℕ) (list : List E) : Type 0 where
    pub before : List E
    pub entry : E
    pub after : List E
    pub list_is : list ≡ before ++ entry ∷ after
    pub later : front ≤ length before
    pub value : ℕ
    pub writes_it : written item (writes entry) ≡ Some value

  -- an item has the value that was read after the list, or was written since the front
  abbrev pub ReadOk : ℕ → List ℕ → List E → ℕ × ℕ → Type 0
  ReadOk front opening list read = (value_after read.0 (word_of opening read.0) list ≡ read.1) ⊎ IsWrittenFrom front
      read.0 list

  -- the list ends with an entry, at the front, that writes the value into the item
  pub record IsLastWrite (front : ℕ) (list : List E) (item value : ℕ) : Type 0 where
    pub before : List E
    pub entry : E
    pub list_is : list ≡ before ++ entry ∷ []
    pub at : length before ≡ front
    pub writes_it : written item (writes entry) ≡ Some value

  -- what the last entry writes
  abbrev pub last_writes : List E → List (ℕ × ℕ)
  last_writes [] = []
  last_writes (e ∷ []) = writes e
  last_writes (e ∷ f ∷ es) = last_writes (f ∷ es)
