-- What a shelf's calls do, each answer with the state that it leaves.
use Rattle.std.specs.Prelude.{◌≡◌, ◌<◌, ◌≤◌, ℕ, List, [], ◌∷◌, length, Some, None, IfSome, IsSomeAnd}
use Rattle.std.specs.FinMap.{get}
use Rattle.mz_shelf.specs.declared.shelf.ShelfErr.{ShelfErr}
use Rattle.mz_shelf.specs.declared.shelf.ShelfErr.TheVariants.{Failed, Absent, TooLong, NoMemory}
use Rattle.mz_num.specs.Limits.{most_file_bytes}
use Rattle.mz_shelf.specs.State.{State, Files, OneFault, OneMiss, OneOver, reads_after}
use Rattle.mz_shelf.specs.Act.{Act, after, first}

-- a read gave these bytes, which are the file's where files are told; a call that was done leaves all counts
pub record ReadsFile (name : List ℕ) (old new : State) (bytes : List ℕ) : Type 0 where
  pub contents : new.contents ≡ old.contents
  pub counts : new.counts ≡ old.counts
  pub reads : new.reads ≡ reads_after (name ∷ []) old.reads
  pub short : length bytes ≤ most_file_bytes
  pub told : IfSome old.contents.files (λ (files : Files). get files name ≡ Some bytes)

-- a read failed: the device did, or no file has the name, or it has too many bytes; the count of such calls alone rose
pub record ReadFailed (name : List ℕ) (old new : State) : Type 0 where
  pub contents : new.contents ≡ old.contents
  pub counts : OneFault old.counts new.counts
  pub reads : new.reads ≡ reads_after (name ∷ []) old.reads

pub record FoundNoFile (name : List ℕ) (old new : State) : Type 0 where
  pub contents : new.contents ≡ old.contents
  pub counts : OneMiss old.counts new.counts
  pub reads : new.reads ≡ reads_after (name ∷ []) old.reads
  pub told : IfSome old.contents.files (λ (files : Files). get files name ≡ None)

pub record FoundLongFile (name : List ℕ) (old new : State) : Type 0 where
  pub contents : new.contents ≡ old.contents
  pub counts : OneOver old.counts new.counts
  pub reads : new.reads ≡ reads_after (name ∷ []) old.reads
  pub told : IfSome old.contents.files
      (λ (files : Files). IsSomeAnd (get files name) (λ bytes. most_file_bytes < length bytes))

-- why a read gave nothing; after want of memory nothing changed
abbrev pub ReadStopped : List ℕ → State → State → ShelfErr → Type 0
ReadStopped name old new Failed = ReadFailed name old new
ReadStopped name old new Absent = FoundNoFile name old new
ReadStopped name old new TooLong = FoundLongFile name old new
ReadStopped name old new NoMemory = new ≡ old

-- an act was done whole
pub record DidAct (act : Act) (old new : State) : Type 0 where
  pub contents : new.contents ≡ after act old.contents
  pub counts : new.counts ≡ old.counts
  pub reads : new.reads ≡ old.reads

-- an act failed after some of its bytes
pub record ActFailed (act : Act) (old new : State) : Type 0 where
  pub done : ℕ
  pub contents : new.contents ≡ after (first done act) old.contents
  pub counts : OneFault old.counts new.counts
  pub reads : new.reads ≡ old.reads

-- why an act wasn't done whole; a write or a say is never Absent or TooLong
abbrev pub ActStopped : Act → State → State → ShelfErr → Type 0
ActStopped act old new Failed = ActFailed act old new
ActStopped act old new Absent = ⊥
ActStopped act old new TooLong = ⊥
ActStopped act old new NoMemory = new ≡ old
