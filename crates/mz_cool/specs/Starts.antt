-- Where the search for the steps above a word begins.
use Rattle.std.specs.Prelude.{◌≡◌, ℕ, ◌+◌, ◌*◌, ◌^◌, ◌<◌, ◌≤◌, List, length, slice_index}
use Rattle.mz_cool.specs.Acceptance.{descent}

-- words are grouped by 2^20, and the groups are counted down from the greatest word: so many first steps stand above
-- each word of the group
pub record IsStart (group start : ℕ) : Type 0 where
  pub few : start ≤ 1408
  pub above : (n : ℕ) → n < start → 2 ^ 32 ≤ descent n + group * 2 ^ 20

-- a start for each of so many groups
pub record AreStarts (groups : ℕ) (starts : List ℕ) : Type 0 where
  pub length : length starts ≡ groups
  pub each : (group : ℕ) → group < groups → IsStart group (slice_index starts group)
