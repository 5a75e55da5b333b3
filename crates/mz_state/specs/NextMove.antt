-- The judged move of a draw.
use Rattle.std.specs.Prelude.{◌≡◌, ℕ, List, slice_index}
use Rattle.mz_draw.specs.declared.draw.Draw.{Draw}
use Rattle.mz_model.specs.declared.parts.Parts.{Parts}
use Rattle.mz_model.specs.Move.{moved_plan}
use Rattle.mz_delta.specs.declared.judged.Judged.{Judged}
use Rattle.mz_delta.specs.Judged.{IsDifference}
use Rattle.mz_history.specs.Core.{next_draw}
use Rattle.mz_history.specs.Entry.{drawn_zone}
use Rattle.mz_history.specs.Replay.{plan_of_history}
use Rattle.mz_state.specs.Kept.{KeptState}

-- what was judged is the draw's move of a plan, with exactly its differences and totals
pub record IsMoveOf (parts : Parts) (plan : List ℕ) (draw : Draw) (judged : Judged) : Type 0 where
  pub number : judged.number ≡ draw.number
  pub unit : judged.unit ≡ draw.unit
  pub word : judged.word ≡ draw.word
  pub old : judged.old ≡ slice_index plan draw.unit
  pub new : judged.new ≡ drawn_zone parts plan draw
  pub difference : IsDifference parts plan (moved_plan plan draw.unit (drawn_zone parts plan draw)) judged

-- the move of its seat's next draw, on the plan of the journal
abbrev pub IsNextMove : KeptState → Judged → Type 0
IsNextMove k judged =
    IsMoveOf k.setting.parts (plan_of_history k.setting k.journal)
    (next_draw k.setting.parts k.setting.seed k.setting.run k.journal judged.seat) judged
