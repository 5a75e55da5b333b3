-- Steps over the lines of a parameter file.
use Rattle.std.proofs.Common.{◌≡◌, ℕ, ◌+◌, ◌<◌, suc, List, [], ◌∷◌, ◌++◌, length, get_or, drop, Option, Some, None, refl, sym, ◌∙◌, ap, append_assoc, arith, drop-cons, add-one}
use Rattle.std.proofs.lemmas.Grind.{common_steps}
use Rattle.std.proofs.lemmas.List.{append-nil}
use Rattle.std.specs.List.{filter_map, cons_option, slice_split}
use Rattle.std.specs.Option.{option_or}
use Rattle.mz_params.specs.declared.fault.ParamFault.{ParamFault}
use Rattle.mz_params.specs.declared.fault.ParamFault.TheVariants.{Repeated, BadValue, OutOfRange, LeftOut, Missing, NoMemory}
use Rattle.mz_params.specs.KeyLine.{KeyLine}
use Rattle.mz_params.specs.Lines.{line_of, line_fault, first_fault, lines_of, is_line_feed, without_mark}
use Rattle.mz_params.specs.ParamFile.{IsFirstFault}

-- the first n lines are read: the entries of these are found, and none has a fault
pub record IsReadTo (all : List (List ℕ)) (found : List KeyLine) (n : ℕ) : Type 0 where
  pub entries : found ++ filter_map line_of (drop n all) ≡ filter_map line_of all
  pub faults : first_fault found (filter_map line_of (drop n all)) ≡ first_fault [] (filter_map line_of all)

pub read_to_start : (all : List (List ℕ)) → IsReadTo all [] 0
read_to_start all = record { entries = refl; faults = refl }

-- the lines from one of them on
line_at : (all : List (List ℕ)) (n : ℕ) (line : List ℕ) → n < length all → line ≡ get_or all n line → drop n all ≡ line ∷ drop (n + 1) all
line_at all n line h is = rw (add-one, drop-cons all n line) (ap (λ l. l ∷ drop (suc n) all) (sym is))

entries_from : (line : List ℕ) (later : List (List ℕ)) (found : Option KeyLine) → line_of line ≡ found → filter_map line_of (line ∷ later) ≡ cons_option found (filter_map line_of later)
entries_from line later found e = ap (λ o. cons_option o (filter_map line_of later)) e

entries_at : (all : List (List ℕ)) (n : ℕ) (line : List ℕ) (found : Option KeyLine) → n < length all → line ≡ get_or all n line → line_of line ≡ found → filter_map line_of (drop n all) ≡ cons_option found (filter_map line_of (drop (n + 1) all))
entries_at all n line found h is e = ap (filter_map line_of) (line_at all n line h is) ∙ entries_from line (drop (n + 1) all) found e

-- a line without a key is skipped
pub read_to_skip : (all : List (List ℕ)) (found : List KeyLine) (n m : ℕ) (line : List ℕ) → m ≡ n + 1 → n < length all → line ≡ get_or all n line → line_of line ≡ None → IsReadTo all found n → IsReadTo all found m
read_to_skip all found n m line next h is e done =
    let same : filter_map line_of (drop n all) ≡ filter_map line_of (drop m all) = entries_at all n line None h is e ∙ ap (λ k. filter_map line_of (drop k all)) (sym next) in
    record {
      entries = ap (λ es. found ++ es) (sym same) ∙ done.entries;
      faults = ap (first_fault found) (sym same) ∙ done.faults;
    }

-- a line with a key and no fault is taken
pub read_to_take : (all : List (List ℕ)) (found more : List KeyLine) (n m : ℕ) (line : List ℕ) (entry : KeyLine) → m ≡ n + 1 → n < length all → line ≡ get_or all n line → line_of line ≡ Some entry → line_fault found entry ≡ None → more ≡ found ++ entry ∷ [] → IsReadTo all found n → IsReadTo all more m
read_to_take all found more n m line entry next h is e good grown done =
    let same : filter_map line_of (drop n all) ≡ entry ∷ filter_map line_of (drop m all) = entries_at all n line (Some entry) h is e ∙ ap (λ k. entry ∷ filter_map line_of (drop k all)) (sym next) in
    let step : first_fault found (entry ∷ filter_map line_of (drop m all)) ≡ first_fault (found ++ entry ∷ []) (filter_map line_of (drop m all)) = ap (λ f. option_or f (first_fault (found ++ entry ∷ []) (filter_map line_of (drop m all)))) good in
    record {
      entries = ap (λ es. es ++ filter_map line_of (drop m all)) grown ∙ (append_assoc found (entry ∷ []) (filter_map line_of (drop m all)) ∙ (ap (λ es. found ++ es) (sym same) ∙ done.entries));
      faults = ap (λ es. first_fault es (filter_map line_of (drop m all))) grown ∙ (sym step ∙ (ap (first_fault found) (sym same) ∙ done.faults));
    }

-- and the fault of a line is the first
pub read_to_fault : (all : List (List ℕ)) (found : List KeyLine) (n : ℕ) (line : List ℕ) (entry : KeyLine) (fault : ParamFault) → n < length all → line ≡ get_or all n line → line_of line ≡ Some entry → line_fault found entry ≡ Some fault → IsReadTo all found n → first_fault [] (filter_map line_of all) ≡ Some fault
read_to_fault all found n line entry fault h is e bad done =
    sym done.faults ∙ (ap (first_fault found) (entries_at all n line (Some entry) h is e) ∙ ap (λ f. option_or f (first_fault (found ++ entry ∷ []) (filter_map line_of (drop (n + 1) all)))) bad)

-- all lines are read
drop_all : (all : List (List ℕ)) (n : ℕ) → n ≡ length all → drop n all ≡ []
drop_all all n e = grind (arith, common_steps)

pub read_to_end-entries : (all : List (List ℕ)) (found : List KeyLine) (n : ℕ) → n ≡ length all → IsReadTo all found n → found ≡ filter_map line_of all
read_to_end-entries all found n e done =
    let none : filter_map line_of (drop n all) ≡ [] = ap (filter_map line_of) (drop_all all n e) in
    sym (append-nil found) ∙ (ap (λ es. found ++ es) (sym none) ∙ done.entries)

pub read_to_end-faults : (all : List (List ℕ)) (found : List KeyLine) (n : ℕ) → n ≡ length all → IsReadTo all found n → first_fault [] (filter_map line_of all) ≡ None
read_to_end-faults all found n e done =
    let none : filter_map line_of (drop n all) ≡ [] = ap (filter_map line_of) (drop_all all n e) in
    sym done.faults ∙ ap (first_fault found) none

-- the first fault of the lines, as the reader answers it
pub IsFirstFault-from : (fault : ParamFault) (first : Option ParamFault) → first ≡ Some fault → IsFirstFault fault first
IsFirstFault-from NoMemory first e = tt
IsFirstFault-from (Repeated key) first e = e
IsFirstFault-from (BadValue key) first e = e
IsFirstFault-from (OutOfRange key) first e = e
IsFirstFault-from (LeftOut key) first e = e
IsFirstFault-from (Missing key) first e = e

-- the entries of a file by its lines
pub lines_of-split : (bytes : List ℕ) → lines_of bytes ≡ filter_map line_of (slice_split is_line_feed (without_mark bytes))
unfolding lines_of
lines_of-split bytes = refl
