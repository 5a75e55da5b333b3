-- What a contract sees of the shelves in memory.
use Rattle.std.specs.Prelude.{◌≡◌, ℕ, ◌+◌, ◌-◌, ◌^◌, ◌==◌, min, Bool, true, false, List, [], ◌∷◌, ◌++◌, Some, refl}
use Rattle.std.specs.List.{list_any}
use Rattle.std.specs.FinMap.{insert}
use Rattle.std.specs.Coded.{Coded, code_by, coded×, coded_ℕ, coded_list}
use Rattle.mz_shelf.specs.declared.shelf.ShelfErr.{ShelfErr}
use Rattle.mz_shelf.specs.declared.shelf.ShelfErr.TheVariants.{Failed, Absent, TooLong, NoMemory}
use Rattle.mz_shelf.specs.State.{Files, State, raised}
use Rattle.mz_shelf.specs.Entries.{files_code}
use Rattle.mz_shelf.specs.Act.{Act, first}
use Rattle.mz_shelf.specs.Act.Act.{Say, Write}

-- what a shelf holds, the names that were read, and how often a read missed its file and met one that is too long
pub record Held : Type 0 where
  pub files : Files
  pub said : List ℕ
  pub reads : List (List ℕ)
  pub misses : ℕ
  pub overs : ℕ

-- a shelf some of whose calls fail: how many did, the number of the next call, the numbers of those
-- that fail, and how many bytes such a call takes
pub record Failing : Type 0 where
  pub held : Held
  pub faults : ℕ
  pub calls : ℕ
  pub fails : List ℕ
  pub cut : ℕ

abbrev pub held_code : Coded Held
held_code =
    code_by (Files × (List ℕ × (List (List ℕ) × (ℕ × ℕ))))
    (coded× files_code (coded× (coded_list coded_ℕ)
    (coded× (coded_list (coded_list coded_ℕ)) (coded× coded_ℕ coded_ℕ))))
    (λ h. (h.files, (h.said, (h.reads, (h.misses, h.overs)))))
    (λ p. record { files = p.0; said = p.1.0; reads = p.1.1.0; misses = p.1.1.1.0; overs = p.1.1.1.1 })
    (λ _. refl)

abbrev pub failing_code : Coded Failing
failing_code =
    code_by (Held × (ℕ × (ℕ × (List ℕ × ℕ))))
    (coded× held_code (coded× coded_ℕ (coded× coded_ℕ (coded× (coded_list coded_ℕ) coded_ℕ))))
    (λ f. (f.held, (f.faults, (f.calls, (f.fails, f.cut)))))
    (λ p. record { held = p.0; faults = p.1.0; calls = p.1.1.0; fails = p.1.1.1.0; cut = p.1.1.1.1 })
    (λ _. refl)

-- files, said bytes and reads are told
abbrev pub told : ℕ → Held → State
told faults held = record {
  contents = record { files = Some held.files; said = Some held.said };
  counts = record { faults = faults; misses = held.misses; overs = held.overs };
  reads = Some held.reads;
}

abbrev pub state_of : Failing → State
state_of shelf = told shelf.faults shelf.held

abbrev pub held_after : Act → Held → Held
held_after (Say bytes) held = record held { said = held.said ++ bytes }
held_after (Write name bytes) held = record held { files = insert held.files name bytes }

-- a name was read, whatever came of it
abbrev pub held_after_read : List ℕ → Held → Held
held_after_read name held = record held { reads = held.reads ++ name ∷ [] }

-- what a read leaves where it gave nothing: it counts the missed file, or the one that is too long
abbrev pub held_after_error : List ℕ → ShelfErr → Held → Held
held_after_error name Failed held = held_after_read name held
held_after_error name Absent held = record (held_after_read name held) { misses = raised held.misses }
held_after_error name TooLong held = record (held_after_read name held) { overs = raised held.overs }
held_after_error name NoMemory held = held

-- the next call is one of those that fail
abbrev pub is_failing : Failing → Bool
is_failing shelf = list_any (λ number. number == shelf.calls) shelf.fails

-- after one more call; the number stops at the last value of a u128, which no u64 reaches
abbrev pub called : Failing → Failing
called shelf = record shelf { calls = min (shelf.calls + 1) (2 ^ 128 - 1) }

-- after one more call that failed
abbrev pub faulted : Failing → Failing
faulted shelf = record shelf { faults = raised shelf.faults; calls = min (shelf.calls + 1) (2 ^ 128 - 1) }

-- a call that isn't to fail read a file
pub record ReadInTurn (name : List ℕ) (old new : Failing) : Type 0 where
  pub passes : is_failing old ≡ false
  pub left : new ≡ record (called old) { held = held_after_read name old.held }

-- a call that isn't to fail found no file, or one that is too long
pub record MissedInTurn (name : List ℕ) (error : ShelfErr) (old new : Failing) : Type 0 where
  pub passes : is_failing old ≡ false
  pub left : new ≡ record (called old) { held = held_after_error name error old.held }

-- a call that is to fail read nothing
pub record ReadFailedInTurn (name : List ℕ) (old new : Failing) : Type 0 where
  pub fails : is_failing old ≡ true
  pub left : new ≡ record (faulted old) { held = held_after_read name old.held }

abbrev pub ReadStoppedInTurn : List ℕ → Failing → Failing → ShelfErr → Type 0
ReadStoppedInTurn name old new Failed = ReadFailedInTurn name old new
ReadStoppedInTurn name old new Absent = MissedInTurn name Absent old new
ReadStoppedInTurn name old new TooLong = MissedInTurn name TooLong old new
ReadStoppedInTurn name old new NoMemory = new ≡ old

-- a call that isn't to fail did the act
pub record DidInTurn (act : Act) (old new : Failing) : Type 0 where
  pub passes : is_failing old ≡ false
  pub left : new ≡ record (called old) { held = held_after act old.held }

-- a call that is to fail did the act with the first `cut` bytes
pub record FailedInTurn (act : Act) (old new : Failing) : Type 0 where
  pub fails : is_failing old ≡ true
  pub left : new ≡ record (faulted old) { held = held_after (first old.cut act) old.held }

abbrev pub StoppedInTurn : Act → Failing → Failing → ShelfErr → Type 0
StoppedInTurn act old new Failed = FailedInTurn act old new
StoppedInTurn act old new Absent = ⊥
StoppedInTurn act old new TooLong = ⊥
StoppedInTurn act old new NoMemory = new ≡ old
