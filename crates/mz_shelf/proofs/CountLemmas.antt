-- Laws of a shelf's counts.
use Rattle.std.proofs.Common.{◌≡◌, ◌≤◌, ℕ, sym, subst, arith}
use Rattle.mz_shelf.specs.State.{Counts, Rose, RoseOnce, KeepsCounts, OneFault, OneMiss, OneOver}

pub KeepsCounts-refl : (counts : Counts) → KeepsCounts counts counts
KeepsCounts-refl counts = record { faults = omega arith; misses = omega arith; overs = omega arith }

pub KeepsCounts-trans : {a b c : Counts} → KeepsCounts a b → KeepsCounts b c → KeepsCounts a c
KeepsCounts-trans h k = record { faults = omega arith; misses = omega arith; overs = omega arith }

-- counts that stay the same
pub KeepsCounts-same : {a b : Counts} → b ≡ a → KeepsCounts a b
KeepsCounts-same {a} {b} same = subst (λ (c : Counts). KeepsCounts a c) (sym same) (KeepsCounts-refl a)

pub KeepsCounts-fault : {a b : Counts} → OneFault a b → KeepsCounts a b
KeepsCounts-fault one = record { faults = one.faults.keeps; misses = omega (arith, one.misses); overs = omega (arith, one.overs) }

pub KeepsCounts-miss : {a b : Counts} → OneMiss a b → KeepsCounts a b
KeepsCounts-miss one = record { faults = omega (arith, one.faults); misses = one.misses.keeps; overs = omega (arith, one.overs) }

pub KeepsCounts-over : {a b : Counts} → OneOver a b → KeepsCounts a b
KeepsCounts-over one = record { faults = omega (arith, one.faults); misses = omega (arith, one.misses); overs = one.overs.keeps }

-- what rose once rose
pub Rose-once : {a b : ℕ} → RoseOnce a b → Rose a b
Rose-once once = omega (arith, once.by_one)

-- a count that rose from a later value rose from an earlier one
pub Rose-from : (a b c : ℕ) → a ≤ b → Rose b c → Rose a c
Rose-from a b c h rose = omega arith

-- a count that rose stays risen
pub Rose-to : (a b c : ℕ) → Rose a b → b ≤ c → Rose a c
Rose-to a b c rose h = omega arith

-- one call behind calls that left the counts as they were
pub OneFault-from : {a b c : Counts} → b ≡ a → OneFault b c → OneFault a c
OneFault-from {a} {b} {c} same one = subst (λ (x : Counts). OneFault x c) same one

pub OneMiss-from : {a b c : Counts} → b ≡ a → OneMiss b c → OneMiss a c
OneMiss-from {a} {b} {c} same one = subst (λ (x : Counts). OneMiss x c) same one

pub OneOver-from : {a b c : Counts} → b ≡ a → OneOver b c → OneOver a c
OneOver-from {a} {b} {c} same one = subst (λ (x : Counts). OneOver x c) same one
