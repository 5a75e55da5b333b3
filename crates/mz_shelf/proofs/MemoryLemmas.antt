-- A call that fails by its number keeps the promise of a failing call.
use Rattle.std.proofs.Common.{ℕ, ◌≤◌, List, refl}
use Rattle.mz_shelf.specs.Act.{Act}
use Rattle.mz_shelf.specs.Act.Act.{Say, Write}
use Rattle.mz_shelf.specs.Shelf.{ReadFailed, ActFailed}
use Rattle.mz_shelf.specs.State.{raised}
use Rattle.mz_shelf.specs.Memory.{Failing, state_of, told, held_after, held_after_read, ReadFailedInTurn, FailedInTurn}
use Rattle.mz_shelf.specs.Act.{first}

read_faulted : (name : List ℕ) (old : Failing) → old.faults ≤ raised old.faults
    → ReadFailed name (state_of old) (told (raised old.faults) (held_after_read name old.held))
read_faulted name old keeps = record {
  contents = refl;
  counts = record { faults = record { by_one = refl; keeps = keeps }; misses = refl; overs = refl };
  reads = refl;
}

pub ReadFailed-in_turn : (name : List ℕ) (old new : Failing) → old.faults ≤ new.faults → ReadFailedInTurn name old new
    → ReadFailed name (state_of old) (state_of new)
ReadFailed-in_turn name old new keeps turn = rw turn.left (read_faulted name old (rw turn.left at keeps))

act_faulted : (act : Act) (old : Failing) → old.faults ≤ raised old.faults
    → ActFailed act (state_of old) (told (raised old.faults) (held_after (first old.cut act) old.held))
act_faulted (Say bytes) old keeps = record {
  done = old.cut;
  contents = refl;
  counts = record { faults = record { by_one = refl; keeps = keeps }; misses = refl; overs = refl };
  reads = refl;
}
act_faulted (Write name bytes) old keeps = record {
  done = old.cut;
  contents = refl;
  counts = record { faults = record { by_one = refl; keeps = keeps }; misses = refl; overs = refl };
  reads = refl;
}

pub ActFailed-in_turn : (act : Act) (old new : Failing) → old.faults ≤ new.faults → FailedInTurn act old new
    → ActFailed act (state_of old) (state_of new)
ActFailed-in_turn act old new keeps turn = rw turn.left (act_faulted act old (rw turn.left at keeps))
