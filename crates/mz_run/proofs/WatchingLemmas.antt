-- What watchers are told of runs one after another.
use Rattle.std.proofs.Common.{◌≡◌, ℕ, ◌≤◌, cond, true, Bool, List, [], ◌∷◌, ◌++◌, length, map, take, refl, sym, ap, ◌∙◌}
use Rattle.std.proofs.lemmas.List.{map-id, take_all}
use Rattle.mz_history.specs.Replay.{replay_of}
use Rattle.mz_history.specs.declared.entry.Entry.{Entry}
use Rattle.mz_watch.specs.Watcher.{WatcherState, after_journal}
use Rattle.mz_run.specs.declared.job.Job.{Job}
use Rattle.mz_run.specs.declared.run_end.RunEnd.{RunEnd}
use Rattle.mz_files.specs.declared.trail.RunTrail.{RunTrail}
use Rattle.mz_run.specs.End.{IsEnd}
use Rattle.mz_run.specs.Run.{setting_of}
use Rattle.mz_run.specs.Watching.{AreTold, AreToldMore, after_trail, after_trails}
use Rattle.mz_run.specs.Watching.AreToldMore.{told_nothing, told_run}

-- of no runs they were told nothing
pub told_none : (job : Job) (trails : List RunTrail) (watching : List WatcherState) → trails ≡ [] → AreTold job trails watching watching
told_none job trails watching none =
    sym (map-id watching) ∙ ap (λ (ts : List RunTrail). map (after_trails job ts) watching) (sym none)

after_trails-push : (job : Job) (trails : List RunTrail) (trail : RunTrail) (watcher : WatcherState) → after_trails job (trails ++ trail ∷ []) watcher ≡ after_trail job trail (after_trails job trails watcher)
after_trails-push job [] trail watcher = refl
after_trails-push job (first ∷ trails) trail watcher = after_trails-push job trails trail (after_trail job first watcher)

all-push : (job : Job) (trails : List RunTrail) (trail : RunTrail) (watching : List WatcherState) → map (after_trail job trail) (map (after_trails job trails) watching) ≡ map (after_trails job (trails ++ trail ∷ [])) watching
all-push job trails trail [] = refl
all-push job trails trail (watcher ∷ watching) =
    ap (λ (w : WatcherState). w ∷ map (after_trail job trail) (map (after_trails job trails) watching)) (sym (after_trails-push job trails trail watcher))
    ∙ ap (λ (ws : List WatcherState). after_trails job (trails ++ trail ∷ []) watcher ∷ ws) (all-push job trails trail watching)

-- and of those so far and then of what came behind them
pub told_on : (job : Job) (before after : List RunTrail) (watching between told : List WatcherState) → AreTold job before watching between → AreToldMore job before after between told → AreTold job after watching told
told_on job before after watching between told so_far (told_nothing same still) =
    still ∙ so_far ∙ ap (λ (ts : List RunTrail). map (after_trails job ts) watching) (sym same)
told_on job before after watching between told so_far (told_run trail grown one) =
    one ∙ ap (map (after_trail job trail)) so_far ∙ all-push job before trail watching
    ∙ ap (λ (ts : List RunTrail). map (after_trails job ts) watching) (sym grown)

-- each item's own function of what is seen of it is a function of what is seen of all
seen_through : {X Y Z : Type 0} (f : X → Y) (h : Y → Z) (items : List X) → map (λ x. h (f x)) items ≡ map h (map f items)
seen_through f h [] = refl
seen_through {X} {Y} {Z} f h (x ∷ items) = ap (λ (zs : List Z). h (f x) ∷ zs) (seen_through f h items)

-- they were told the journal of a run that ended, once its trail was kept
pub told_end : {X : Type 0} (noted : X → WatcherState) (job : Job) (run : ℕ) (before after : List RunTrail) (trail : RunTrail) (kept : Bool) (end : RunEnd) (journal : List Entry) (last : List ℕ → List ℕ) (old new : List X)
    → IsEnd job run last end → trail.run ≡ run → trail.turns ≡ end.turns → kept ≡ true → after ≡ cond kept (before ++ trail ∷ []) before → journal ≡ end.journal.items
    → map noted new ≡ map (λ w. after_journal run journal (noted w)) old
    → AreToldMore job before after (map noted old) (map noted new)
told_end noted job run before after trail kept end journal last old new is number turns ok grown same told =
    let replayed : journal ≡ replay_of (setting_of job run) trail.turns = same ∙ is.journal_is ∙ ap (replay_of (setting_of job run)) (sym turns) in
    told_run trail (grown ∙ ap (λ b. cond b (before ++ trail ∷ []) before) ok)
    (told ∙ seen_through noted (after_journal run journal) old
    ∙ ap (λ (entries : List Entry). map (after_journal run entries) (map noted old)) replayed
    ∙ ap (λ n. map (after_journal n (replay_of (setting_of job n) trail.turns)) (map noted old)) (sym number))

-- reports of the watchers, seen through their notes
pub reports_seen : {X Y : Type 0} (f : X → Y) (h : Y → ℕ) (items : List X) (count : ℕ) (reports : List ℕ) → length items ≤ count → reports ≡ map (λ x. h (f x)) (take count items) → reports ≡ map h (map f items)
reports_seen f h items count reports whole is = is ∙ ap (map (λ x. h (f x))) (take_all count items whole) ∙ seen_through f h items
