-- What a game keeps, and the draws that are decided in it.
use Rattle.std.proofs.Common.{◌≡◌, ℕ, ◌<◌, List, sym, ap, ◌∙◌}
use Rattle.mz_draw.specs.Draws.{draw_at}
use Rattle.mz_draw.specs.declared.draw.Draw.{Draw}
use Rattle.mz_model.specs.declared.parts.Parts.{Parts}
use Rattle.mz_model.specs.Zones.{counts_of, free_units}
use Rattle.mz_delta.specs.declared.reading.Reading.{Reading}
use Rattle.mz_delta.specs.Reading.{IsWellFormed}
use Rattle.mz_history.specs.declared.entry.Entry.{Entry}
use Rattle.mz_history.specs.declared.rules.Rules.{Rules}
use Rattle.mz_history.specs.Core.{next_draw, seats_of}
use Rattle.mz_history.specs.Replay.{Setting, turns_of}
use Rattle.mz_state.specs.Kept.{KeptState}
use Rattle.state_tests.specs.Game.{IsGame}

-- the problem is that of the kept state
pub own-parts : (parts : Parts) (rules : Rules) (seed : ℕ) (k : KeptState) → IsGame parts rules seed k → parts ≡ k.setting.parts
own-parts parts rules seed k game = ap (λ (s : Setting). s.parts) (sym game.setting)

-- the draw of the seat's next number is its next draw
pub drawn-next : (parts : Parts) (rules : Rules) (seed : ℕ) (k : KeptState) (seat own number : ℕ) (draw : Draw) → IsGame parts rules seed k
    → number ≡ turns_of seat (seats_of k.journal) → draw ≡ draw_at seed 1 seat (free_units parts) (counts_of parts) number → own ≡ seat
    → draw ≡ next_draw k.setting.parts k.setting.seed k.setting.run k.journal own
drawn-next parts rules seed k seat own number draw game is drawn same =
    drawn ∙ ap (draw_at seed 1 seat (free_units parts) (counts_of parts)) is
    ∙ ap (λ (s : Setting). draw_at s.seed s.run seat (free_units s.parts) (counts_of s.parts) (turns_of seat (seats_of k.journal))) (sym game.setting)
    ∙ ap (λ n. next_draw k.setting.parts k.setting.seed k.setting.run k.journal n) (sym same)

-- another journal leaves the game what it is
pub goes-on : (parts : Parts) (rules : Rules) (seed : ℕ) (k after : KeptState) (journal : List Entry) → IsGame parts rules seed k → after ≡ record k { journal = journal } → IsGame parts rules seed after
goes-on parts rules seed k after journal game is = record {
  setting = ap (λ (x : KeptState). x.setting) is ∙ game.setting;
  limit = ap (λ (x : KeptState). x.limit) is ∙ game.limit;
  seats = ap (λ (x : KeptState). x.seats) is ∙ game.seats;
  some_free = game.some_free;
}

-- a well-formed reading is well formed with any front
pub any-front : (parts : Parts) (reading : Reading) (front : ℕ) → IsWellFormed parts reading → IsWellFormed parts (record reading { front = front })
any-front parts reading front formed = record {
  unit = formed.unit;
  zone = formed.zone;
  degree = formed.degree;
  neighbours = formed.neighbours;
  touched = formed.touched;
  totals = formed.totals;
}
