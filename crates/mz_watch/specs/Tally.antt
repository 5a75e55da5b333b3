-- The notes of a tally: how many entries were accepted, and how many refused.
use Rattle.std.specs.Prelude.{ℕ, if◌then◌else◌, List, [], ◌∷◌, ℤ, pos}
use Rattle.mz_history.specs.declared.entry.Entry.{Entry}
use Rattle.mz_watch.specs.Notes.{sum_to_ends, reported}

-- each entry counts once, over all runs
abbrev pub tally_after : List ℤ → Entry → List ℤ
tally_after (accepted ∷ refused ∷ []) entry =
    if entry.accepted
    then sum_to_ends accepted (pos 1) ∷ refused ∷ []
    else accepted ∷ sum_to_ends refused (pos 1) ∷ []
tally_after notes entry = notes

-- how many were accepted
abbrev pub tally_report : List ℤ → ℕ
tally_report (accepted ∷ refused ∷ []) = reported accepted
tally_report notes = 0
