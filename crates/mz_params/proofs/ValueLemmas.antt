-- What values read as.
use Rattle.std.proofs.Common.{◌≡◌, ℕ, ◌≤◌, ◌||◌, List, Ok, Err, Result, sym, ◌∙◌, ap, subst, ltb}
use Rattle.std.proofs.lemmas.Bool.{cond-true, cond-false, cond_both, or_parts, ltb-false, false_from_ne_true}
use Rattle.std.proofs.lemmas.Str.{is_utf8-from_IsUtf8, IsUtf8-from_is_utf8}
use Rattle.std.specs.Result.{result_unwrap_or}
use Rattle.std.specs.Str.{IsUtf8, is_utf8}
use Rattle.mz_num.specs.declared.fault.NumFault.{NumFault}
use Rattle.mz_num.specs.NumberText.{whole_of, mic6_of}
use Rattle.mz_params.specs.declared.key.Key.{Key}
use Rattle.mz_params.specs.declared.fault.ParamFault.{ParamFault}
use Rattle.mz_params.specs.declared.fault.ParamFault.TheVariants.{BadValue, OutOfRange}
use Rattle.mz_params.specs.KeyRange.{least_of, greatest_of}
use Rattle.mz_params.specs.Value.{text_value, whole_value, millionths_value, in_range, first_word}

pub text_value-good : (key : Key) (text found : List ℕ) → found ≡ text → IsUtf8 text → text_value key text ≡ Ok found
unfolding text_value
text_value-good key text found e good = cond-true (is_utf8 text) (Ok text) (Err (BadValue key)) (is_utf8-from_IsUtf8 text good) ∙ ap Ok (sym e)

pub text_value-bad : (key : Key) (text : List ℕ) → (IsUtf8 text → ⊥) → text_value key text ≡ Err (BadValue key)
unfolding text_value
text_value-bad key text bad =
    cond-false (is_utf8 text) (Ok text) (Err (BadValue key)) (false_from_ne_true (is_utf8 text) (λ t. bad (IsUtf8-from_is_utf8 text t)))

-- the number is one that the key takes
abbrev pub IsTaken : Key → ℕ → Type 0
IsTaken key n = (least_of key ≤ n) × (n ≤ greatest_of key)

-- a number in the key's range, or a default in it, is in it
in_range-taken : (key : Key) (default : ℕ) (r : Result ℕ NumFault) → IsTaken key default → IsTaken key (result_unwrap_or (in_range key r) default)
in_range-taken key default (Err fault) taken = taken
in_range-taken key default (Ok n) taken =
    cond_both (ltb n (least_of key) || ltb (greatest_of key) n) (Err (OutOfRange key)) (Ok n) (λ r. IsTaken key (result_unwrap_or r default))
    (λ outside. taken)
    (λ inside. let parts = or_parts (ltb n (least_of key)) (ltb (greatest_of key) n) inside in (ltb-false n (least_of key) parts.0, ltb-false (greatest_of key) n parts.1))

pub whole_value-taken : (key : Key) (default : ℕ) (text : List ℕ) → IsTaken key default → IsTaken key (result_unwrap_or (whole_value key text) default)
unfolding whole_value
whole_value-taken key default text taken = in_range-taken key default (whole_of (greatest_of key) (first_word text)) taken

pub millionths_value-taken : (key : Key) (default : ℕ) (text : List ℕ) → IsTaken key default → IsTaken key (result_unwrap_or (millionths_value key text) default)
unfolding millionths_value
millionths_value-taken key default text taken = in_range-taken key default (mic6_of (first_word text)) taken

-- the same, as the code reaches it
pub whole-taken : (key : Key) (default n : ℕ) (r : Result ℕ ParamFault) (text : List ℕ) → r ≡ whole_value key text → n ≡ result_unwrap_or r default → IsTaken key default → IsTaken key n
whole-taken key default n r text e v taken = subst (IsTaken key) (sym (v ∙ ap (λ r. result_unwrap_or r default) e)) (whole_value-taken key default text taken)

pub millionths-taken : (key : Key) (default n : ℕ) (r : Result ℕ ParamFault) (text : List ℕ) → r ≡ millionths_value key text → n ≡ result_unwrap_or r default → IsTaken key default → IsTaken key n
millionths-taken key default n r text e v taken = subst (IsTaken key) (sym (v ∙ ap (λ r. result_unwrap_or r default) e)) (millionths_value-taken key default text taken)
