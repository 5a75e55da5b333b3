-- What watchers note of the runs of a job, and report.
use Rattle.std.specs.Prelude.{◌≡◌, ℕ, List, [], ◌∷◌, ◌++◌, map}
use Rattle.mz_history.specs.Replay.{replay_of}
use Rattle.mz_watch.specs.Watcher.{WatcherState, after_journal, report_of}
use Rattle.mz_run.specs.declared.job.Job.{Job}
use Rattle.mz_files.specs.declared.trail.RunTrail.{RunTrail}
use Rattle.mz_run.specs.Run.{setting_of}

-- after the journal that a trail's turns play
abbrev pub after_trail : Job → RunTrail → WatcherState → WatcherState
after_trail job trail watcher = after_journal trail.run (replay_of (setting_of job trail.run) trail.turns) watcher

-- after the journals of these trails, in order
abbrev pub after_trails : Job → List RunTrail → WatcherState → WatcherState
after_trails job [] watcher = watcher
after_trails job (trail ∷ trails) watcher = after_trails job trails (after_trail job trail watcher)

-- the watchers were told the journals of these trails, one after another
abbrev pub AreTold : Job → List RunTrail → List WatcherState → List WatcherState → Type 0
AreTold job trails old new = new ≡ map (after_trails job trails) old

-- the watchers were told the journals of the trails that came behind the earlier ones: of none or of one
pub data AreToldMore (job : Job) (before after : List RunTrail) (old new : List WatcherState) : Type 0 where
  told_nothing : after ≡ before → new ≡ old → AreToldMore job before after old new
  told_run : (trail : RunTrail) → after ≡ before ++ trail ∷ [] → new ≡ map (after_trail job trail) old
      → AreToldMore job before after old new

-- the number that each watcher's notes come to
abbrev pub reports_of : List WatcherState → List ℕ
reports_of watchers = map report_of watchers
