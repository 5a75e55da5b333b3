-- The turns text.
use Rattle.std.specs.Prelude.{ℕ, ◌+◌, ◌-◌, ◌*◌, ◌<◌, List, ◌++◌, codes, decimal, drop, length, map, take}
use Rattle.std.specs.Prelude.{if◌then◌else◌, nat_lt}
use Rattle.std.specs.Int.{div_ceil}
use Rattle.std.specs.List.{All, concat, flat_map}
use Rattle.mz_num.specs.Limits.{most_workers}
use Rattle.mz_num.specs.Places.{list_below}
use Rattle.mz_files.specs.declared.trail.RunTrail.{RunTrail}

-- each is the seat of a worker
abbrev pub AreSeats : List ℕ → Type 0
AreSeats seats = All (λ seat. seat < most_workers) seats

-- a seat as a character: 0 to 9, then A to Z, then a to x
abbrev pub seat_code : ℕ → ℕ
seat_code seat =
    if nat_lt seat 10 then 48 + seat else (if nat_lt seat 36 then 65 + (seat - 10) else 97 + (seat - 36))

-- how many lines of 64 characters there are, of which the last may be shorter
abbrev pub line_count : List ℕ → ℕ
line_count turns = div_ceil (length turns) 64

-- the turns that stand in a line
abbrev pub turns_in : List ℕ → ℕ → List ℕ
turns_in turns line = take 64 (drop (line * 64) turns)

abbrev pub turn_line : List ℕ → ℕ → List ℕ
turn_line turns line = map seat_code (turns_in turns line) ++ codes "\n"

abbrev pub turn_lines : List ℕ → List ℕ
turn_lines turns = concat (list_below (line_count turns) (turn_line turns))

-- a run's number, random seed and number of entries, and its turns
abbrev pub run_turns : RunTrail → List ℕ
run_turns trail =
    codes "run " ++ decimal trail.run ++ codes " seed " ++ decimal trail.seed ++ codes " entries "
    ++ decimal (length trail.turns) ++ codes "\n" ++ turn_lines trail.turns

-- a header, and what stands for each run
unfoldable pub turns_text : List RunTrail → List ℕ
turns_text trails = codes "marzone turns 1\n" ++ flat_map run_turns trails
