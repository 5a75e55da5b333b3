-- Distinct ids, while they are added one by one.
use Rattle.std.proofs.Common.{◌≡◌, ℕ, ◌<◌, ◌==◌, Bool, true, false, List, [], ◌∷◌, ◌++◌, length, get_or, cond, refl, ap, sym, ◌∙◌}
use Rattle.std.specs.Prelude.{◌≢◌}
use Rattle.std.specs.List.{AllPairs}
use Rattle.std.proofs.lemmas.Bool.{eq-eqb, false≢true}
use Rattle.std.proofs.lemmas.List.Folds.{list_any_at}
use Rattle.std.proofs.lemmas.List.Quantifiers.{all_pairs_push}
use Rattle.std.proofs.Common.{Result, Ok, Err}
use Rattle.mz_tables.specs.Ids.{has_id, with_id}
use Rattle.mz_tables.specs.declared.fault.RowFault.{RowFault}
use Rattle.mz_tables.specs.declared.fault.RowFault.TheVariants.{Repeated, NoMemory}
use Rattle.mz_rows.specs.Answer.{IsFaultOf}
use Rattle.mz_rows.specs.Rows.{new_id, unless_earlier}
use Rattle.mz_rows.proofs.AnswerLemmas.{fault-on}

pub with_id-new : (ids : List ℕ) (id : ℕ) → has_id ids id ≡ false → with_id ids id ≡ ids ++ id ∷ []
with_id-new ids id new = ap (λ b. cond b ids (ids ++ id ∷ [])) new

-- a new id differs from each of the others
pub new-differs : (ids : List ℕ) (id k d : ℕ) → has_id ids id ≡ false → k < length ids → get_or ids k d ≢ id
new-differs ids id k d new h = λ same. false≢true (sym new ∙ list_any_at (λ other. id == other) ids k d h (eq-eqb id (get_or ids k d) (sym same)))

pub distinct-more : (ids : List ℕ) (id : ℕ) → AllPairs (λ a b. a ≢ b) ids → has_id ids id ≡ false → AllPairs (λ a b. a ≢ b) (ids ++ id ∷ [])
distinct-more ids id distinct new = all_pairs_push (λ a b. a ≢ b) ids id distinct (λ k d h. new-differs ids id k d new h)

-- ---- what comes of adding the id of a row

fault_in : Result (Unit {0}) RowFault → RowFault
fault_in (Ok nothing) = NoMemory
fault_in (Err fault) = fault

stops : {X : Type 0} (known : Bool) (line : ℕ) (whole : Result X RowFault) → (known ≡ true → whole ≡ Err (Repeated line)) → (f : RowFault) → unless_earlier {Item = Unit {0}} known line tt ≡ Err f → whole ≡ Err f
unfolding fault_in
stops true line whole repeated f e = repeated refl ∙ ap Err (ap fault_in e)
stops false line whole repeated f e = cc

-- the fault of an id that may not be added is that of the whole where the id is known
pub new_id-fault : {X : Type 0} (ids : List ℕ) (id line : ℕ) (fault : RowFault) (whole : Result X RowFault) → IsFaultOf fault (new_id ids id line) → (has_id ids id ≡ true → whole ≡ Err (Repeated line)) → IsFaultOf fault whole
new_id-fault ids id line fault whole is repeated = fault-on fault (new_id ids id line) whole is (stops (has_id ids id) line whole repeated)

none_known : (known : Bool) (line : ℕ) → unless_earlier {Item = Unit {0}} known line tt ≡ Ok tt → known ≡ false
none_known true line e = cc
none_known false line e = refl

-- an id that was added is new
pub new_id-new : (ids : List ℕ) (id line : ℕ) → new_id ids id line ≡ Ok tt → has_id ids id ≡ false
new_id-new ids id line e = none_known (has_id ids id) line e
