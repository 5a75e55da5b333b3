-- What contracts see of a watcher, and what it notes and reports, by its kind.
use Rattle.std.specs.Prelude.{ℕ, ◌+◌, ◌==◌, if◌then◌else◌, List, [], ◌∷◌, ℤ}
use Rattle.mz_history.specs.declared.entry.Entry.{Entry}
use Rattle.mz_watch.specs.LeastSeen.{least_after, least_report}
use Rattle.mz_watch.specs.Tally.{tally_after, tally_report}

-- the kind says what the notes are: 0 is a tally, 1 looks for the least score
pub record WatcherState : Type 0 where
  pub kind : ℕ
  pub notes : List ℤ

-- the notes after the entry at a position of a run's journal; those of every other kind stay
abbrev pub notes_after : ℕ → List ℤ → ℕ → ℕ → Entry → List ℤ
notes_after kind notes run at entry =
    if kind == 0 then tally_after notes entry
    else (if kind == 1 then least_after notes run at entry else notes)

-- the number that the notes come to
abbrev pub report_of : WatcherState → ℕ
report_of watcher =
    if watcher.kind == 0 then tally_report watcher.notes
    else (if watcher.kind == 1 then least_report watcher.notes else 0)

-- the kind never changes
abbrev pub after_entry : ℕ → ℕ → Entry → WatcherState → WatcherState
after_entry run at entry watcher = record watcher { notes = notes_after watcher.kind watcher.notes run at entry }

-- after entries that stand from a position on in a run's journal, in order
abbrev pub after_entries : ℕ → ℕ → List Entry → WatcherState → WatcherState
after_entries run at [] watcher = watcher
after_entries run at (entry ∷ entries) watcher = after_entries run (at + 1) entries (after_entry run at entry watcher)

-- after a run's journal
abbrev pub after_journal : ℕ → List Entry → WatcherState → WatcherState
after_journal run journal watcher = after_entries run 0 journal watcher
