-- Draws that a worker makes ahead.
use Rattle.std.specs.Prelude.{◌≡◌, ◌<◌, ◌≤◌, ◌+◌, ℕ, List, length, map}
use Rattle.std.specs.List.{All, range_with_len}
use Rattle.mz_draw.specs.declared.draw.Draw.{Draw}
use Rattle.mz_draw.specs.Draws.{draw_at}
use Rattle.mz_draw.specs.Words.{SeatWords}
use Rattle.mz_model.specs.Parts.{unit_count}
use Rattle.mz_model.specs.Zones.{counts_of, free_units}
use Rattle.mz_store.specs.Pass.{PassState}
use Rattle.mz_store.specs.RunSetting.{RunSetting}
use Rattle.mz_crew.specs.Works.{words_at}

-- how many draws are made at once
abbrev pub draws_at_once : ℕ
draws_at_once = 16

-- so many draws of the pass's seat, in order, from a number on
abbrev pub draws_of : RunSetting → PassState → ℕ → ℕ → List Draw
draws_of run pass first count =
    let setting = run.setting in
    let free = free_units setting.parts in
    map (draw_at setting.seed setting.run pass.seat free (counts_of setting.parts)) (range_with_len first count)

-- the draws are the next ones of the pass's seat from a number on, and the drawer stands behind the last of them
pub record AreAhead
    (run : RunSetting) (pass : PassState) (first : ℕ) (draws : List Draw) (words : SeatWords)
    : Type 0 where
  pub draws_are : draws ≡ draws_of run pass first (length draws)
  pub few : length draws ≤ draws_at_once
  pub units : All (λ draw. draw.unit < unit_count run.setting.parts) draws
  pub words_are : words ≡ words_at run pass (first + length draws)

-- the drawer is past the pass's next draw, by as many draws as are made at once at most
pub record IsPast (run : RunSetting) (pass : PassState) (words : SeatWords) : Type 0 where
  pub number : ℕ
  pub past : pass.number < number
  pub near : number ≤ pass.number + draws_at_once
  pub words_are : words ≡ words_at run pass number
