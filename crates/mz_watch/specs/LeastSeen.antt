-- The notes on the least score of a run: the run, the sum of its accepted changes, the least that this sum was, and
-- how many entries led there.
use Rattle.std.specs.Prelude.{ℕ, ◌+◌, ◌==◌, if◌then◌else◌, List, [], ◌∷◌, ℤ, pos, int_lt}
use Rattle.mz_history.specs.declared.entry.Entry.{Entry}
use Rattle.mz_watch.specs.Notes.{sum_to_ends, reported}

abbrev pub seen : ℕ → ℤ → ℤ → ℕ → List ℤ
seen run sum least place = pos run ∷ sum ∷ least ∷ pos place ∷ []

-- the change of the entry at a position is added; where the sum is lower than ever, it led there
abbrev pub seen_after_change : ℕ → ℤ → ℤ → ℕ → ℕ → ℤ → List ℤ
seen_after_change run sum least place at change =
    if int_lt (sum_to_ends sum change) least
    then seen run (sum_to_ends sum change) (sum_to_ends sum change) (at + 1)
    else seen run (sum_to_ends sum change) least place

-- a refused entry changes nothing
abbrev pub seen_after : ℕ → ℤ → ℤ → ℕ → ℕ → Entry → List ℤ
seen_after run sum least place at entry =
    if entry.accepted then seen_after_change run sum least place at entry.change else seen run sum least place

-- another run begins anew
abbrev pub least_after : List ℤ → ℕ → ℕ → Entry → List ℤ
least_after (pos noted ∷ sum ∷ least ∷ pos place ∷ []) run at entry =
    if noted == run
    then seen_after run sum least place at entry
    else seen_after run (pos 0) (pos 0) 0 at entry
least_after notes run at entry = notes

-- how many entries led to the least score
abbrev pub least_report : List ℤ → ℕ
least_report (run ∷ sum ∷ least ∷ place ∷ []) = reported place
least_report notes = 0
