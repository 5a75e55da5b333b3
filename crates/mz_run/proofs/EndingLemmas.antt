-- How the refusal line ends.
use Rattle.std.proofs.Common.{◌≡◌, ℕ, List, Result, Ok, Err, sym, subst}
use Rattle.std.specs.Result.{MatchResult}
use Rattle.mz_shelf.specs.State.{State}
use Rattle.mz_shelf.specs.Act.Act.{Say}
use Rattle.mz_shelf.specs.declared.shelf.ShelfErr.{ShelfErr}
use Rattle.mz_shelf.specs.declared.shelf.ShelfErr.TheVariants.{Failed, Absent, TooLong, NoMemory}
use Rattle.mz_shelf.specs.Shelf.{DidAct, ActStopped}
use Rattle.mz_run.specs.declared.status.Status.{Status}
use Rattle.mz_project.specs.declared.fault.InputFault.{InputFault}
use Rattle.mz_run.specs.declared.status.Status.TheVariants as status
use Rattle.mz_run.specs.Ending.{SaysLine, Refuses}
use Rattle.mz_run.specs.Ending.SaysLine.{said, failed, unsaid}
use Rattle.mz_run.specs.Refusal.{refusal_line}

-- whatever comes of the refusal's own say, the line was said, or a front of it, or nothing
says_stopped : (line : List ℕ) {old new : State} (e : ShelfErr) → ActStopped (Say line) old new e → SaysLine line old new
says_stopped line Failed part = failed part
says_stopped line Absent h = absurd h
says_stopped line TooLong h = absurd h
says_stopped line NoMemory same = unsaid same

pub says_line : {X : Type 0} (line : List ℕ) {old new : State} (r : Result X ShelfErr) → MatchResult r (λ _. DidAct (Say line) old new) (λ e. ActStopped (Say line) old new e) → SaysLine line old new
says_line line (Ok x) did = said did
says_line line (Err e) stop = says_stopped line e stop

-- each refusal says its line
pub refuses_words : (s : Status) {old new : State} → s ≡ status.Words → SaysLine (refusal_line s) old new → Refuses s old new
refuses_words s {old} {new} is says = subst (λ t. SaysLine (refusal_line t) old new → Refuses t old new) (sym is) (λ h. h) says

pub refuses_input : (s : Status) (fault : InputFault) {old new : State} → s ≡ status.Input fault → SaysLine (refusal_line s) old new → Refuses s old new
refuses_input s fault {old} {new} is says = subst (λ t. SaysLine (refusal_line t) old new → Refuses t old new) (sym is) (λ h. h) says

pub refuses_fault : (s : Status) (name : List ℕ) {old new : State} → s ≡ status.ShelfFault name → SaysLine (refusal_line s) old new → Refuses s old new
refuses_fault s name {old} {new} is says = subst (λ t. SaysLine (refusal_line t) old new → Refuses t old new) (sym is) (λ h. h) says

pub refuses_absent : (s : Status) (name : List ℕ) {old new : State} → s ≡ status.Absent name → SaysLine (refusal_line s) old new → Refuses s old new
refuses_absent s name {old} {new} is says = subst (λ t. SaysLine (refusal_line t) old new → Refuses t old new) (sym is) (λ h. h) says
