-- What a whole parameter file reads as, step by step.
use Rattle.std.proofs.Common.{◌≡◌, ℕ, List, [], Option, Some, None, Result, Ok, Err, sym, ◌∙◌, ap}
use Rattle.std.specs.Option.{option_or}
use Rattle.mz_params.specs.declared.fault.ParamFault.{ParamFault}
use Rattle.mz_params.specs.declared.fault.ParamFault.TheVariants.{Repeated, BadValue, OutOfRange, LeftOut, Missing, NoMemory}
use Rattle.mz_params.specs.declared.params.Params.{Params}
use Rattle.mz_params.specs.Lines.{lines_of, first_fault}
use Rattle.mz_params.specs.Given.{params_of}
use Rattle.mz_params.specs.ParamFile.{Answers, IsFirstFault, missing_fault, limit_fault, params_from, unless}

-- an answer that is a fault
Answers-fault : (fault : ParamFault) (made : Result Params ParamFault) → made ≡ Err fault → Answers (Err fault) made
Answers-fault NoMemory made e = tt
Answers-fault (Repeated key) made e = e
Answers-fault (BadValue key) made e = e
Answers-fault (OutOfRange key) made e = e
Answers-fault (LeftOut key) made e = e
Answers-fault (Missing key) made e = e

-- the definition where the lines have a fault
from_line_fault : (bytes : List ℕ) (fault : ParamFault) → first_fault [] (lines_of bytes) ≡ Some fault → params_from bytes ≡ Err fault
unfolding params_from
from_line_fault bytes fault e = ap (λ first. unless (option_or first (option_or (missing_fault (params_of (lines_of bytes))) (limit_fault (params_of (lines_of bytes))))) (params_of (lines_of bytes))) e

-- and where they have none
from_good_lines : (bytes : List ℕ) (params : Params) → first_fault [] (lines_of bytes) ≡ None → params ≡ params_of (lines_of bytes) → params_from bytes ≡ unless (option_or (missing_fault params) (limit_fault params)) params
unfolding params_from
from_good_lines bytes params e same =
    ap (λ first. unless (option_or first (option_or (missing_fault (params_of (lines_of bytes))) (limit_fault (params_of (lines_of bytes))))) (params_of (lines_of bytes))) e
    ∙ ap (λ p. unless (option_or (missing_fault p) (limit_fault p)) p) (sym same)

-- the answer at each of the three ends
pub answers_line_fault : (bytes : List ℕ) (fault : ParamFault) → IsFirstFault fault (first_fault [] (lines_of bytes)) → Answers (Err fault) (params_from bytes)
answers_line_fault bytes NoMemory first = tt
answers_line_fault bytes (Repeated key) first = from_line_fault bytes (Repeated key) first
answers_line_fault bytes (BadValue key) first = from_line_fault bytes (BadValue key) first
answers_line_fault bytes (OutOfRange key) first = from_line_fault bytes (OutOfRange key) first
answers_line_fault bytes (LeftOut key) first = from_line_fault bytes (LeftOut key) first
answers_line_fault bytes (Missing key) first = from_line_fault bytes (Missing key) first

pub answers_late_fault : (bytes : List ℕ) (params : Params) (fault : ParamFault) → first_fault [] (lines_of bytes) ≡ None → params ≡ params_of (lines_of bytes) → option_or (missing_fault params) (limit_fault params) ≡ Some fault → Answers (Err fault) (params_from bytes)
answers_late_fault bytes params fault good same e = Answers-fault fault (params_from bytes) (from_good_lines bytes params good same ∙ ap (λ first. unless first params) e)

pub answers_params : (bytes : List ℕ) (params : Params) → first_fault [] (lines_of bytes) ≡ None → params ≡ params_of (lines_of bytes) → option_or (missing_fault params) (limit_fault params) ≡ None → params_from bytes ≡ Ok params
answers_params bytes params good same e = from_good_lines bytes params good same ∙ ap (λ first. unless first params) e

-- the later faults, as the code finds them
pub late_fault : (params : Params) (missing limit first found : Option ParamFault) → missing ≡ missing_fault params → limit ≡ limit_fault params → first ≡ option_or missing limit → first ≡ found → option_or (missing_fault params) (limit_fault params) ≡ found
late_fault params None limit first found m l f e = ap (λ o. option_or o (limit_fault params)) (sym m) ∙ (sym l ∙ (sym f ∙ e))
late_fault params (Some fault) limit first found m l f e = ap (λ o. option_or o (limit_fault params)) (sym m) ∙ (sym f ∙ e)
