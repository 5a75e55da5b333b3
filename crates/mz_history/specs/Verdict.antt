-- What a commit is answered.
use Rattle.std.specs.Prelude.{ℕ, pos, Bool, false, ◌&&◌, ◌==◌, nat_le, List, length, slice_index_or, Option, None, Some, if◌then◌else◌}
use Rattle.std.specs.List.{last_or}
use Rattle.mz_num.specs.Places.{places_below}
use Rattle.mz_model.specs.declared.parts.Parts.{Parts}
use Rattle.mz_history.specs.declared.entry.Entry.{Entry}
use Rattle.mz_history.specs.Items.{changes_around}

-- an entry that changes nothing, which stands for one past the last
abbrev pub no_entry : Entry
no_entry = record { seat = 0; number = 0; unit = 0; old = 0; new = 0; word = 0; change = pos 0; accepted = false }

-- the entry at the position stands at the front or later and changes an item of the unit
abbrev pub overtakes : Parts → List Entry → ℕ → ℕ → ℕ → Bool
overtakes parts history front unit position =
    nat_le front position && changes_around parts unit (slice_index_or history position no_entry)

-- the last position whose entry overtakes a reading of the unit with that front, if there is one
abbrev pub overtaking_entry : Parts → List Entry → ℕ → ℕ → Option ℕ
overtaking_entry parts history front unit =
    last_or None (places_below (length history) (overtakes parts history front unit))

pub data Verdict : Type 0 where
  full : Verdict
  again : ℕ → Verdict
  decided : Verdict

abbrev pub verdict_if : Option ℕ → Verdict
verdict_if None = decided
verdict_if (Some position) = again position

-- full where the history has as many entries as it may have; else again where the reading was overtaken; else decided
abbrev pub verdict_of : Parts → List Entry → ℕ → ℕ → ℕ → Verdict
verdict_of parts history limit front unit =
    (if length history == limit then full else verdict_if (overtaking_entry parts history front unit))
