-- Where the words of a seat stand.
use Rattle.std.specs.Prelude.{ℕ, ◌*◌, List}
use Rattle.mz_draw.specs.Words.{SeatWords}
use Rattle.mz_history.specs.Replay.{turns_of}

-- the words of a seat that its draws in some turns leave: each draw takes three
abbrev pub words_after : ℕ → ℕ → List ℕ → ℕ → SeatWords
words_after seed run turns seat = record { seed = seed; run = run; seat = seat; taken = 3 * turns_of seat turns }
