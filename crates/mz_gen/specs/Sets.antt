-- The files of zone sets and of locks.
use Rattle.std.specs.Prelude.{ℕ, ◌+◌, ◌%◌, ◌==◌, if◌then◌else◌, List, [], ◌++◌, codes, decimal}
use Rattle.std.specs.List.{concat}
use Rattle.mz_num.specs.Places.{list_below}

-- one unit in 200 may have the first two zones alone
abbrev pub zone_set_lines : ℕ → List ℕ
zone_set_lines unit =
    if unit % 200 == 100 then decimal (unit + 1) ++ codes ",1\n" ++ decimal (unit + 1) ++ codes ",2\n" else []

unfoldable pub zone_sets_text : ℕ → List ℕ
zone_sets_text units = codes "puid,zoneid\n" ++ concat (list_below units zone_set_lines)

-- and one has the third zone
abbrev pub lock_line : ℕ → List ℕ
lock_line unit = if unit % 200 == 0 then decimal (unit + 1) ++ codes ",3\n" else []

unfoldable pub locks_text : ℕ → List ℕ
locks_text units = codes "puid,zoneid\n" ++ concat (list_below units lock_line)
