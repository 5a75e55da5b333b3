-- Entries with what they write into the published words.
use Rattle.std.specs.Prelude.{◌≡◌, ℕ, cond, List, [], ◌∷◌, ◌++◌, map}
use Rattle.std.specs.List.{filter}
use Rattle.mz_model.specs.declared.parts.Parts.{Parts}
use Rattle.mz_model.specs.Items.{Item, row_item, unit_item}
use Rattle.mz_model.specs.Targets.{touched_rows}
use Rattle.mz_board.specs.Items.{value_after, word_of}
use Rattle.mz_history.specs.declared.entry.Entry.{Entry}
use Rattle.mz_history.specs.Items.{changes, value_of_item}
use Rattle.mz_history.specs.Replay.{Setting}
use Rattle.mz_store.specs.declared.told.Told.{Told}
use Rattle.mz_store.specs.Words.{IsItem, word_of_item}

-- the items that an entry changes: its unit, and those of the target rows that the unit touches
abbrev pub changed_items : Parts → Entry → List Item
changed_items parts entry = cond entry.accepted
    (unit_item entry.unit
    ∷ map row_item (filter (λ row. changes parts entry (row_item row)) (touched_rows parts entry.unit)))
    []

-- each of these with its value after the entry, which follows a history
abbrev pub writes_of : Setting → List Entry → Entry → List (ℕ × ℕ)
writes_of s history entry =
    map (λ item. (word_of_item s.parts item, value_of_item s (history ++ entry ∷ []) item))
    (changed_items s.parts entry)

abbrev pub told : Setting → List Entry → Entry → Told
told s history entry = record { entry = entry; writes = writes_of s history entry }

-- entries that follow a history, each with its writes
abbrev pub told_after : Setting → List Entry → List Entry → List Told
told_after s history [] = []
told_after s history (entry ∷ entries) = told s history entry ∷ told_after s (history ++ entry ∷ []) entries

-- the entries of a journal, each with its writes
abbrev pub told_all : Setting → List Entry → List Told
told_all s journal = told_after s [] journal

abbrev pub writes : Told → List (ℕ × ℕ)
writes t = t.writes

abbrev pub seat_of : Told → ℕ
seat_of t = t.entry.seat

-- the entries alone
abbrev pub untold : List Told → List Entry
untold ts = map (λ (t : Told). t.entry) ts

-- by the writes of a journal and the opening words, each item's word has the item's value in the journal's last plan
abbrev pub WordsFollow : Setting → List ℕ → List Entry → Type 0
WordsFollow s opening journal = (item : Item) → IsItem s.parts item
    → value_after writes (word_of_item s.parts item) (word_of opening (word_of_item s.parts item)) (told_all s journal)
    ≡ value_of_item s journal item
