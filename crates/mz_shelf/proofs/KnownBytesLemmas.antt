-- What is known of a reader's and a writer's bytes, over several reads and writes.
use Rattle.std.proofs.Common.{◌≡◌, ℕ, ◌+◌, ◌-◌, ◌≤◌, List, [], ◌++◌, take, drop, length, min, Option, None, Some, sym, ap, ◌∙◌, append_assoc, append-nil, take-add, arith}
use Rattle.std.specs.Option.{IfSome, option_map}
use Rattle.std.specs.Io.KnownBytes.{Appends, Keeps}
use Rattle.std.proofs.lemmas.List.{take_all, take_rest, length-take}

-- what was read under a limit is all, where it doesn't reach the limit
pub whole_below_limit : {R : Type 0} (remaining : R → Option (List ℕ)) (inner source : R) (limit most : ℕ) (start bytes : List ℕ)
    → inner ≡ source → limit ≡ most + 1 → start ≡ [] → length bytes ≤ most
    → IfSome (option_map (take limit) (remaining inner)) (λ xs. bytes ≡ start ++ xs)
    → IfSome (remaining source) (λ all. bytes ≡ all)
whole_below_limit remaining inner source limit most start bytes same limited empty short read =
    rw (← same) (known (remaining inner) read)
  where
    known : (left : Option (List ℕ)) → IfSome (option_map (take limit) left) (λ xs. bytes ≡ start ++ xs) → IfSome left (λ all. bytes ≡ all)
    known None h = tt
    known (Some all) h =
        let e : bytes ≡ take limit all = h ∙ ap (λ (front : List ℕ). front ++ take limit all) empty in
        let n : length bytes ≡ min limit (length all) = ap length e ∙ length-take limit all in
        e ∙ take_all limit all (omega arith)

pub Appends-nothing : (known : Option (List ℕ)) (bytes : List ℕ) → Appends known known (take 0 bytes)
Appends-nothing None bytes = tt
Appends-nothing (Some xs) bytes = sym (append-nil xs)

Appends-added : (old between new : Option (List ℕ)) (bytes : List ℕ) (m n : ℕ)
    → Appends old between (take m bytes) → Appends between new (take n (drop m bytes)) → Appends old new (take (m + n) bytes)
Appends-added None between new bytes m n early late = tt
Appends-added (Some xs) None new bytes m n early late = absurd early
Appends-added (Some xs) (Some ys) None bytes m n early late = absurd late
Appends-added (Some xs) (Some ys) (Some zs) bytes m n early late =
    late ∙ ap (λ (front : List ℕ). front ++ take n (drop m bytes)) early
    ∙ append_assoc xs (take m bytes) (take n (drop m bytes))
    ∙ ap (λ (more : List ℕ). xs ++ more) (sym (take-add m n bytes))

-- a front, and then some of the rest
pub Appends-more : (old between new : Option (List ℕ)) (bytes : List ℕ) (m n k : ℕ)
    → k ≡ m + n → Appends old between (take m bytes) → Appends between new (take n (take (length bytes - m) (drop m bytes)))
    → Appends old new (take k bytes)
Appends-more old between new bytes m n k more early late =
    rw more (Appends-added old between new bytes m n early (rw take_rest at late))

Appends-kept : (old between new : Option (List ℕ)) (bytes : List ℕ)
    → Appends old between bytes → Keeps between new → Appends old new bytes
Appends-kept None between new bytes early late = tt
Appends-kept (Some xs) None new bytes early late = absurd early
Appends-kept (Some xs) (Some ys) None bytes early late = absurd late
Appends-kept (Some xs) (Some ys) (Some zs) bytes early late = late ∙ early

-- a front, and then nothing
pub Appends-keeps : (old between new : Option (List ℕ)) (bytes : List ℕ) (m k : ℕ)
    → k ≡ m → Appends old between (take m bytes) → Keeps between new → Appends old new (take k bytes)
Appends-keeps old between new bytes m k same early late = rw same (Appends-kept old between new (take m bytes) early late)
