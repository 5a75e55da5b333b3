-- Chains of acts in parts.
use Rattle.std.proofs.Common.{◌≡◌, ℕ, List, [], ◌∷◌, ◌++◌, Result, Ok, Err, sym, subst}
use Rattle.mz_shelf.specs.State.{State}
use Rattle.mz_shelf.specs.Act.{Act, name_of}
use Rattle.mz_shelf.specs.Chain.{DidAll, StoppedAt}
use Rattle.mz_shelf.specs.Shelf.{ActFailed}
use Rattle.mz_shelf.specs.Performed.{Stopped, Performed}
use Rattle.mz_shelf.specs.declared.stop.Stop.{Stop}
use Rattle.mz_shelf.specs.declared.stop.Stop.TheVariants.{Fault, NoMemory}
use Rattle.mz_shelf.proofs.ChainLemmas.{DidAll-append, StoppedAt-one, StoppedAt-after, StoppedAt-before, StoppedBetween-after, StoppedBetween-before, StoppedBetween-all}

-- one act failed, under a name that is the act's
pub stopped_one : (act : Act) (name : List ℕ) {old new : State} → name ≡ name_of act → ActFailed act old new → StoppedAt (act ∷ []) name old new
stopped_one act name {old} {new} named fails = subst (λ n. StoppedAt (act ∷ []) n old new) (sym named) (StoppedAt-one fails)

-- the first part stopped
pub stopped_first : (first more : List Act) (old new : State) (stop : Stop) → Stopped first old new stop → Stopped (first ++ more) old new stop
stopped_first first more old new (Fault name) h = StoppedAt-before more h
stopped_first first more old new NoMemory h = StoppedBetween-before more h

-- a later part stopped
pub stopped_later : (first more : List Act) (old between new : State) (stop : Stop) → DidAll first old between → Stopped more between new stop → Stopped (first ++ more) old new stop
stopped_later first more old between new (Fault name) did h = StoppedAt-after did h
stopped_later first more old between new NoMemory did h = StoppedBetween-after did h

-- memory ended the chain after the first part
pub stopped_here : (first more : List Act) (old between : State) → DidAll first old between → Stopped (first ++ more) old between NoMemory
stopped_here first more old between did = StoppedBetween-before more (StoppedBetween-all did)

-- a later part was performed
pub performed_later : {X : Type 0} (first more : List Act) (old between new : State) (r : Result X Stop) → DidAll first old between → Performed more between new r → Performed (first ++ more) old new r
performed_later first more old between new (Ok x) did h = DidAll-append did h
performed_later first more old between new (Err stop) did h = stopped_later first more old between new stop did h
