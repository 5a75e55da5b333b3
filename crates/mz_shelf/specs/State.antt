-- What a contract sees of a shelf.
use Rattle.std.specs.Prelude.{◌≡◌, ℕ, ◌+◌, ◌-◌, ◌^◌, ◌≤◌, min, List, ◌++◌, Option}
use Rattle.std.specs.Option.{option_map}
use Rattle.std.specs.Ordering.{nat_cmp}
use Rattle.std.specs.Cmp.Lexicographic.{slice_cmp}
use Rattle.std.specs.FinMap.{FinMap}

-- the bytes of each file, by the bytes of its name
abbrev pub Files : Type 0
Files = FinMap (slice_cmp nat_cmp) (List ℕ)

-- the files and the said bytes; `None` where the shelf doesn't tell
pub record Contents : Type 0 where
  pub files : Option Files
  pub said : Option (List ℕ)

-- how often a call failed, missed a file, and met one that is too long
pub record Counts : Type 0 where
  pub faults : ℕ
  pub misses : ℕ
  pub overs : ℕ

-- the names that were read, in order; `None` where the shelf doesn't tell
abbrev pub Names : Type 0
Names = Option (List (List ℕ))

pub record State : Type 0 where
  pub contents : Contents
  pub counts : Counts
  pub reads : Names

-- once these were read too, each once and in this order, and no other
abbrev pub reads_after : List (List ℕ) → Names → Names
reads_after names reads = option_map (λ earlier. earlier ++ names) reads

-- one more, up to the last value of a u64
abbrev pub raised : ℕ → ℕ
raised count = min (count + 1) (2 ^ 64 - 1)

-- a count rose where it grew, or stands at the last value of a u64
abbrev pub Rose : ℕ → ℕ → Type 0
Rose before now = raised before ≤ now

-- it rose by one, or stands at that value as before
pub record RoseOnce (before now : ℕ) : Type 0 where
  pub by_one : now ≡ raised before
  pub keeps : before ≤ now

-- no count fell
pub record KeepsCounts (before now : Counts) : Type 0 where
  pub faults : before.faults ≤ now.faults
  pub misses : before.misses ≤ now.misses
  pub overs : before.overs ≤ now.overs

-- one count alone rose, by one: of calls that failed, of missed files, or of files that are too long
pub record OneFault (before now : Counts) : Type 0 where
  pub faults : RoseOnce before.faults now.faults
  pub misses : now.misses ≡ before.misses
  pub overs : now.overs ≡ before.overs

pub record OneMiss (before now : Counts) : Type 0 where
  pub faults : now.faults ≡ before.faults
  pub misses : RoseOnce before.misses now.misses
  pub overs : now.overs ≡ before.overs

pub record OneOver (before now : Counts) : Type 0 where
  pub faults : now.faults ≡ before.faults
  pub misses : now.misses ≡ before.misses
  pub overs : RoseOnce before.overs now.overs
