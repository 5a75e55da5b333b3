-- The parameters of a file without a fault are in their ranges.
use Rattle.std.proofs.Common.{◌≡◌, ◌≢◌, ℕ, zero, suc, ◌≤◌, ◌*◌, ◌⊎◌, inl, inr, Bool, true, false, ◌&&◌, ◌||◌, not, eqb, ltb, List, [], ◌∷◌, length, Option, Some, None, Result, Ok, Err, ℤ, pos, negsuc, neg_ℤ, refl, sym, ◌∙◌, ap, subst, arith}
use Rattle.std.proofs.lemmas.Bool.{ltb-false, eqb-false, eqb-true, or_cases, cond_both}
use Rattle.std.proofs.lemmas.Bool.Decides.{nat_tests}
use Rattle.std.specs.Option.{option_or, is_some, is_none, IfSome}
use Rattle.std.specs.Result.{result_unwrap_or}
use Rattle.mz_num.specs.Blank.{trimmed}
use Rattle.mz_num.specs.Digits.{digits_number}
use Rattle.mz_num.specs.NumberText.{signed_of, signed_in, signed_answer, has_minus, behind_sign}
use Rattle.mz_num.specs.declared.fault.NumFault.{NumFault}
use Rattle.mz_num.specs.declared.fault.NumFault.TheVariants.{TooLarge}
use Rattle.mz_params.specs.declared.key.Key.{Key}
use Rattle.mz_params.specs.declared.key.Key.TheVariants.{AvailableZone, Blm, CoolFac, Prop, MissLevel, NumReps, NumItns, NumTemp, SaveRun, SaveBest, SaveSummary, SaveTargMet, SaveSumSoln, SaveTurns, RandSeed, RunMode}
use Rattle.mz_params.specs.declared.fault.ParamFault.{ParamFault}
use Rattle.mz_params.specs.declared.fault.ParamFault.TheVariants.{LeftOut}
use Rattle.mz_params.specs.declared.params.Params.{Params}
use Rattle.mz_params.specs.KeyLine.{KeyLine}
use Rattle.mz_params.specs.Lines.{value_of}
use Rattle.mz_params.specs.Value.{whole_value, millionths_value, seed_value, seed_from, mode_value, mode_from, first_word}
use Rattle.mz_params.specs.Given.{read_or, whole_at, millionths_at, seed_of, mode_of, params_of}
use Rattle.mz_params.specs.ParamFile.{fault_where, missing_fault, limit_fault, IsAccepted}
use Rattle.mz_params.proofs.ValueLemmas.{IsTaken, whole_value-taken, millionths_value-taken}

-- numbers that were read or are the default are in the range of their key
read_whole-taken : (key : Key) (default : ℕ) (given : Option (List ℕ)) → IsTaken key default → IsTaken key (read_or default (whole_value key) given)
read_whole-taken key default None taken = taken
read_whole-taken key default (Some text) taken = whole_value-taken key default text taken

whole_at-taken : (entries : List KeyLine) (key : Key) (default : ℕ) → IsTaken key default → IsTaken key (whole_at entries key default)
unfolding whole_at
whole_at-taken entries key default taken = read_whole-taken key default (value_of key entries) taken

read_millionths-taken : (key : Key) (default : ℕ) (given : Option (List ℕ)) → IsTaken key default → IsTaken key (read_or default (millionths_value key) given)
read_millionths-taken key default None taken = taken
read_millionths-taken key default (Some text) taken = millionths_value-taken key default text taken

millionths_at-taken : (entries : List KeyLine) (key : Key) (default : ℕ) → IsTaken key default → IsTaken key (millionths_at entries key default)
unfolding millionths_at
millionths_at-taken entries key default taken = read_millionths-taken key default (value_of key entries) taken

-- a seed is at most 2147483647
abbrev IsSmall : Result ℤ NumFault → Type 0
IsSmall (Ok (pos n)) = n ≤ 2147483647
IsSmall _ = Unit {0}

small_negative : (n : ℕ) → IsSmall (Ok (neg_ℤ (pos n)))
small_negative zero = omega arith
small_negative (suc n) = tt

small_answer : (minus : Bool) (n : Option ℕ) → IsSmall (signed_answer minus n)
small_answer minus None = tt
small_answer true (Some n) = cond_both (ltb 2147483648 n) (Err TooLarge) (Ok (neg_ℤ (pos n))) IsSmall (λ above. tt) (λ within. small_negative n)
small_answer false (Some n) = cond_both (ltb 2147483647 n) (Err TooLarge) (Ok (pos n)) IsSmall (λ above. tt) (λ within. ltb-false 2147483647 n within)

small_in : (text : List ℕ) → IsSmall (signed_in text)
small_in [] = tt
small_in (b ∷ text) = small_answer (has_minus (b ∷ text)) (digits_number 38 (behind_sign (b ∷ text)))

small_signed : (text : List ℕ) → IsSmall (signed_of text)
unfolding signed_of
small_signed text = small_in (trimmed text)

small_seed : (r : Result ℤ NumFault) → IsSmall r → IfSome (result_unwrap_or (seed_from RandSeed r) None) (λ s. s ≤ 2147483647)
small_seed (Err fault) small = tt
small_seed (Ok (pos n)) small = small
small_seed (Ok (negsuc n)) small = tt

small_seed_value : (text : List ℕ) → IfSome (result_unwrap_or (seed_value RandSeed text) None) (λ s. s ≤ 2147483647)
unfolding seed_value
small_seed_value text = small_seed (signed_of (first_word text)) (small_signed (first_word text))

seed_given : (given : Option (List ℕ)) → IfSome (read_or None (seed_value RandSeed) given) (λ s. s ≤ 2147483647)
seed_given None = tt
seed_given (Some text) = small_seed_value text

seed_of-range : (entries : List KeyLine) → IfSome (seed_of entries) (λ s. s ≤ 2147483647)
unfolding seed_of
seed_of-range entries = seed_given (value_of RandSeed entries)

-- a mode is one of the three
abbrev IsMode : ℕ → Type 0
IsMode m = (m ≡ 1) ⊎ ((m ≡ 4) ⊎ (m ≡ 6))

mode_named : (n : ℕ) → (eqb n 1 || eqb n 4 || eqb n 6) ≡ true → IsMode n
mode_named n e = elim (or_cases (eqb n 1 || eqb n 4) (eqb n 6) e) [
  | inl first ↦ elim (or_cases (eqb n 1) (eqb n 4) first) [ inl one ↦ inl (eqb-true n 1 one) | inr four ↦ inr (inl (eqb-true n 4 four)) ]
  | inr six ↦ inr (inr (eqb-true n 6 six))
]

mode_result : (r : Result ℤ NumFault) → IsMode (result_unwrap_or (mode_from RunMode r) 1)
mode_result (Err fault) = inl refl
mode_result (Ok (negsuc n)) = inl refl
mode_result (Ok (pos n)) = cond_both (eqb n 1 || eqb n 4 || eqb n 6) (Ok n) (Err (LeftOut RunMode)) (λ r. IsMode (result_unwrap_or r 1)) (mode_named n) (λ other. inl refl)

mode_text : (text : List ℕ) → IsMode (result_unwrap_or (mode_value RunMode text) 1)
unfolding mode_value
mode_text text = mode_result (signed_of (first_word text))

mode_given : (given : Option (List ℕ)) → IsMode (read_or 1 (mode_value RunMode) given)
mode_given None = inl refl
mode_given (Some text) = mode_text text

mode_of-one : (entries : List KeyLine) → IsMode (mode_of entries)
unfolding mode_of
mode_of-one entries = mode_given (value_of RunMode entries)

-- where no fault is found, no test held
option_or-none : (a b : Option ParamFault) → option_or a b ≡ None → (a ≡ None) × (b ≡ None)
option_or-none None b e = (refl, e)
option_or-none (Some fault) b e = cc

fault_where-none : (test : Bool) (fault : ParamFault) → fault_where test fault ≡ None → test ≡ false
fault_where-none true fault e = cc
fault_where-none false fault e = refl

no_three : (a b c : Bool) (f g h : ParamFault) → option_or (fault_where a f) (option_or (fault_where b g) (fault_where c h)) ≡ None → (a ≡ false) × (b ≡ false) × (c ≡ false)
no_three a b c f g h e =
    let outer = option_or-none (fault_where a f) (option_or (fault_where b g) (fault_where c h)) e in
    let inner = option_or-none (fault_where b g) (fault_where c h) outer.1 in
    (fault_where-none a f outer.0, fault_where-none b g inner.0, fault_where-none c h inner.1)

together : (features amounts : Option (List ℕ)) → (is_none features && is_some amounts) ≡ false → (is_some features && is_none amounts) ≡ false → is_some features ≡ is_some amounts
together None None a b = refl
together (Some f) (Some g) a b = refl
together None (Some g) a b = sym a
together (Some f) None a b = b

cooled : (start : Option ℕ) (cool : ℕ) → (is_some start && ltb 1000000 cool) ≡ false → IfSome start (λ s. cool ≤ 1000000)
cooled None cool e = tt
cooled (Some s) cool e = ltb-false 1000000 cool e

turned : (save proposals : ℕ) → (not (eqb save 0) && ltb 200000000 proposals) ≡ false → save ≢ 0 → proposals ≤ 200000000
turned save proposals e given = grind (arith, nat_tests)

full : (units : List ℕ) → eqb (length units) 0 ≡ false → units ≢ []
full units e none = eqb-false (length units) 0 e (ap length none)

accepted_params : (entries : List KeyLine) → missing_fault (params_of entries) ≡ None → limit_fault (params_of entries) ≡ None → IsAccepted (params_of entries)
unfolding params_of
accepted_params entries missing limit =
    let p = params_of entries in
    let named = no_three (eqb (length p.units) 0) (is_none p.features && is_some p.amounts) (is_some p.features && is_none p.amounts) _ _ _ missing in
    let limits = no_three (ltb 1000000000 (p.reps * p.iterations)) (is_some p.start && ltb 1000000 p.cool) (not (eqb p.save_turns 0) && ltb 200000000 (p.reps * p.iterations)) _ _ _ limit in
    record {
      units = full p.units named.0;
      features_with_amounts = together p.features p.amounts named.1 named.2;
      available = (whole_at-taken entries AvailableZone 1 (omega arith, omega arith)).1;
      blm = (millionths_at-taken entries Blm 0 (omega arith, omega arith)).1;
      prop = (millionths_at-taken entries Prop 0 (omega arith, omega arith)).1;
      miss_level = (millionths_at-taken entries MissLevel 1000000 (omega arith, omega arith)).1;
      seed = seed_of-range entries;
      some_reps = (whole_at-taken entries NumReps 1 (omega arith, omega arith)).0;
      reps = (whole_at-taken entries NumReps 1 (omega arith, omega arith)).1;
      iterations = (whole_at-taken entries NumItns 0 (omega arith, omega arith)).1;
      some_levels = (whole_at-taken entries NumTemp 1 (omega arith, omega arith)).0;
      levels = (whole_at-taken entries NumTemp 1 (omega arith, omega arith)).1;
      mode = mode_of-one entries;
      save_run = (whole_at-taken entries SaveRun 0 (omega arith, omega arith)).1;
      save_best = (whole_at-taken entries SaveBest 0 (omega arith, omega arith)).1;
      save_summary = (whole_at-taken entries SaveSummary 0 (omega arith, omega arith)).1;
      save_missing = (whole_at-taken entries SaveTargMet 0 (omega arith, omega arith)).1;
      save_summed = (whole_at-taken entries SaveSumSoln 0 (omega arith, omega arith)).1;
      save_turns = (whole_at-taken entries SaveTurns 0 (omega arith, omega arith)).1;
      proposals = ltb-false 1000000000 (p.reps * p.iterations) limits.0;
      cool_in_range = (millionths_at-taken entries CoolFac 1000000 (omega arith, omega arith)).1;
      cool = cooled p.start p.cool limits.1;
      turns = turned p.save_turns (p.reps * p.iterations) limits.2;
    }

pub accepted : (entries : List KeyLine) (params : Params) → params ≡ params_of entries → option_or (missing_fault params) (limit_fault params) ≡ None → IsAccepted params
accepted entries params same none =
    let parts = option_or-none (missing_fault params) (limit_fault params) none in
    subst IsAccepted (sym same) (accepted_params entries (ap missing_fault (sym same) ∙ parts.0) (ap limit_fault (sym same) ∙ parts.1))
