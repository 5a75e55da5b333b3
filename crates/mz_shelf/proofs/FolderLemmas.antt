-- A shelf that tells nothing keeps the promises by its counts.
use Rattle.std.proofs.Common.{◌≡◌, ℕ, List, refl, ap}
use Rattle.mz_shelf.specs.declared.shelf.ShelfErr.{ShelfErr}
use Rattle.mz_shelf.specs.declared.shelf.ShelfErr.TheVariants.{Failed, Absent, TooLong, NoMemory}
use Rattle.mz_shelf.specs.State.{Counts, KeepsCounts, OneFault}
use Rattle.mz_shelf.specs.Act.{Act}
use Rattle.mz_shelf.specs.Act.Act.{Say, Write}
use Rattle.mz_shelf.specs.Shelf.{ReadStopped, ActFailed}
use Rattle.mz_shelf.specs.Folder.{untold, counts_after}

-- the count of failed calls alone rose
one_fault : (old new : Counts) → new ≡ counts_after Failed old → KeepsCounts old new → OneFault old new
one_fault old new e keeps = record {
  faults = record { by_one = ap (λ (c : Counts). c.faults) e; keeps = keeps.faults };
  misses = ap (λ (c : Counts). c.misses) e;
  overs = ap (λ (c : Counts). c.overs) e;
}

pub ReadStopped-untold : (name : List ℕ) (error : ShelfErr) (old new : Counts) → new ≡ counts_after error old → KeepsCounts old new
    → ReadStopped name (untold old) (untold new) error
ReadStopped-untold name Failed old new e keeps =
    record { contents = refl; counts = one_fault old new e keeps; reads = refl }
ReadStopped-untold name Absent old new e keeps = record {
  contents = refl;
  counts = record {
    faults = ap (λ (c : Counts). c.faults) e;
    misses = record { by_one = ap (λ (c : Counts). c.misses) e; keeps = keeps.misses };
    overs = ap (λ (c : Counts). c.overs) e;
  };
  reads = refl;
  told = tt;
}
ReadStopped-untold name TooLong old new e keeps = record {
  contents = refl;
  counts = record {
    faults = ap (λ (c : Counts). c.faults) e;
    misses = ap (λ (c : Counts). c.misses) e;
    overs = record { by_one = ap (λ (c : Counts). c.overs) e; keeps = keeps.overs };
  };
  reads = refl;
  told = tt;
}
ReadStopped-untold name NoMemory old new e keeps = ap untold e

pub ActFailed-untold : (act : Act) (old new : Counts) → new ≡ counts_after Failed old → KeepsCounts old new
    → ActFailed act (untold old) (untold new)
ActFailed-untold (Say bytes) old new e keeps =
    record { done = 0; contents = refl; counts = one_fault old new e keeps; reads = refl }
ActFailed-untold (Write name bytes) old new e keeps =
    record { done = 0; contents = refl; counts = one_fault old new e keeps; reads = refl }
