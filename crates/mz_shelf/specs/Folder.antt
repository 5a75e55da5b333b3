-- What a contract sees of the real files below a folder.
use Rattle.std.specs.Prelude.{ℕ, List, [], ◌∷◌, ◌++◌, None}
use Rattle.mz_shelf.specs.declared.shelf.ShelfErr.{ShelfErr}
use Rattle.mz_shelf.specs.declared.shelf.ShelfErr.TheVariants.{Failed, Absent, TooLong, NoMemory}
use Rattle.mz_shelf.specs.State.{Counts, State, raised}

-- neither files nor said bytes nor reads are told
abbrev pub untold : Counts → State
untold counts = record { contents = record { files = None; said = None }; counts = counts; reads = None }

-- a call that ended so is counted
abbrev pub counts_after : ShelfErr → Counts → Counts
counts_after Failed counts = record counts { faults = raised counts.faults }
counts_after Absent counts = record counts { misses = raised counts.misses }
counts_after TooLong counts = record counts { overs = raised counts.overs }
counts_after NoMemory counts = counts

-- an empty folder leaves a name as it is, and else a `/` stands between them
abbrev pub path_of : List ℕ → List ℕ → List ℕ
path_of [] name = name
path_of (byte ∷ folder) name = (byte ∷ folder) ++ 47 ∷ name
