-- Laws of chains of acts: what was done in parts was done as a whole.
use Rattle.std.proofs.Common.{◌≡◌, ℕ, ◌+◌, min, List, [], ◌∷◌, ◌++◌, take, length, refl, sym, ap, ◌∙◌, append_assoc, arith}
use Rattle.std.proofs.Math.Seq.{take-append-add, take-length}
use Rattle.std.proofs.lemmas.List.{take_min, take-append-le}
use Rattle.mz_shelf.specs.State.{State, Contents, OneFault}
use Rattle.mz_shelf.specs.Act.{Act, after, after_all, name_of}
use Rattle.mz_shelf.specs.Shelf.{DidAct, ActFailed}
use Rattle.mz_shelf.specs.Chain.{DidAll, StoppedAt, StoppedBetween}
use Rattle.mz_shelf.proofs.CountLemmas.{OneFault-from}

-- acts in order

pub after_all-append : (acts more : List Act) (c : Contents) → after_all (acts ++ more) c ≡ after_all more (after_all acts c)
after_all-append [] more c = refl
after_all-append (act ∷ acts) more c = after_all-append acts more (after act c)

pub DidAll-nil : (state : State) → DidAll [] state state
DidAll-nil state = record { contents = refl; counts = refl; reads = refl }

pub DidAll-one : {act : Act} {old new : State} → DidAct act old new → DidAll (act ∷ []) old new
DidAll-one did = record { contents = did.contents; counts = did.counts; reads = did.reads }

pub DidAll-append : {done rest : List Act} {old between new : State}
    → DidAll done old between → DidAll rest between new → DidAll (done ++ rest) old new
DidAll-append {done} {rest} {old} {between} {new} early late = record {
  contents =
      late.contents ∙ ap (after_all rest) early.contents ∙ sym (after_all-append done rest old.contents);
  counts = late.counts ∙ early.counts;
  reads = late.reads ∙ early.reads;
}

-- a chain that a fault ended

-- one act failed
pub StoppedAt-one : {act : Act} {old new : State} → ActFailed act old new → StoppedAt (act ∷ []) (name_of act) old new
StoppedAt-one {act} {old} {new} failed = record {
  done = [];
  failed = act;
  left = [];
  split = refl;
  named = refl;
  between = old;
  whole = DidAll-nil old;
  part = failed;
}

-- a later part stopped after an earlier one was done
pub StoppedAt-after : {done rest : List Act} {name : List ℕ} {old between new : State}
    → DidAll done old between → StoppedAt rest name between new → StoppedAt (done ++ rest) name old new
StoppedAt-after {done} {rest} {name} {old} {between} {new} whole stop = record {
  done = done ++ stop.done;
  failed = stop.failed;
  left = stop.left;
  split = ap (λ (acts : List Act). done ++ acts) stop.split ∙ sym (append_assoc done stop.done (stop.failed ∷ stop.left));
  named = stop.named;
  between = stop.between;
  whole = DidAll-append whole stop.whole;
  part = stop.part;
}

-- a chain that stopped did none of the acts behind it
pub StoppedAt-before : {acts : List Act} {name : List ℕ} {old new : State} (more : List Act)
    → StoppedAt acts name old new → StoppedAt (acts ++ more) name old new
StoppedAt-before {acts} {name} {old} {new} more stop = record {
  done = stop.done;
  failed = stop.failed;
  left = stop.left ++ more;
  split =
      ap (λ (front : List Act). front ++ more) stop.split ∙ append_assoc stop.done (stop.failed ∷ stop.left) more;
  named = stop.named;
  between = stop.between;
  whole = stop.whole;
  part = stop.part;
}

-- the faults alone rose in the whole chain, and by one
pub StoppedAt-one_fault : {acts : List Act} {name : List ℕ} {old new : State}
    → StoppedAt acts name old new → OneFault old.counts new.counts
StoppedAt-one_fault stop = OneFault-from stop.whole.counts stop.part.counts

-- a chain that ended between two acts

pub StoppedBetween-nothing : {old new : State} (acts : List Act) → new ≡ old → StoppedBetween acts old new
StoppedBetween-nothing {old} {new} acts e = record {
  count = 0;
  contents = ap (λ (state : State). state.contents) e;
  counts = ap (λ (state : State). state.counts) e;
  reads = ap (λ (state : State). state.reads) e;
}

pub StoppedBetween-all : {acts : List Act} {old new : State} → DidAll acts old new → StoppedBetween acts old new
StoppedBetween-all {acts} {old} {new} did = record {
  count = length acts;
  contents = did.contents ∙ ap (λ (done : List Act). after_all done old.contents) (sym (take-length acts));
  counts = did.counts;
  reads = did.reads;
}

-- a later part ended after an earlier one was done
pub StoppedBetween-after : {done rest : List Act} {old between new : State}
    → DidAll done old between → StoppedBetween rest between new → StoppedBetween (done ++ rest) old new
StoppedBetween-after {done} {rest} {old} {between} {new} whole stop = record {
  count = length done + stop.count;
  contents =
      stop.contents
      ∙ ap (after_all (take stop.count rest)) whole.contents
      ∙ sym (after_all-append done (take stop.count rest) old.contents)
      ∙ ap (λ (acts : List Act). after_all acts old.contents) (sym (take-append-add done rest stop.count));
  counts = stop.counts ∙ whole.counts;
  reads = stop.reads ∙ whole.reads;
}

take_min-append : (acts more : List Act) (n : ℕ) → take (min n (length acts)) (acts ++ more) ≡ take n acts
take_min-append acts more n =
    take-append-le (min n (length acts)) acts more (omega arith) ∙ take_min n acts

-- acts behind the end weren't done
pub StoppedBetween-before : {acts : List Act} {old new : State} (more : List Act)
    → StoppedBetween acts old new → StoppedBetween (acts ++ more) old new
StoppedBetween-before {acts} {old} {new} more stop = record {
  count = min stop.count (length acts);
  contents = stop.contents ∙ ap (λ (done : List Act). after_all done old.contents) (sym (take_min-append acts more stop.count));
  counts = stop.counts;
  reads = stop.reads;
}
