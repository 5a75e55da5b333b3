-- Tables that grow by a value, and are read.
use Rattle.std.proofs.Common.{◌≡◌, ℕ, ◌+◌, ◌<◌, List, [], ◌∷◌, ◌++◌, length, get_or, sym, ap, ◌∙◌, arith, length-append, below_more, subst}
use Rattle.std.proofs.Math.ListN.{get_or-append}
use Rattle.std.proofs.Math.Seq.{get_or-append_seam}
use Rattle.std.proofs.lemmas.Grind.{get_or_default_zero}
use Rattle.mz_cool.specs.Table.{IsTable}

pub IsTable-none : (f : ℕ → ℕ) (values : List ℕ) → values ≡ [] → IsTable f 0 values
IsTable-none f values none = record { length = ap length none; each = λ k h. absurd (omega arith) }

IsTable-push : (f : ℕ → ℕ) (n : ℕ) (values : List ℕ) (v : ℕ) → IsTable f n values → v ≡ f n
    → IsTable f (n + 1) (values ++ v ∷ [])
IsTable-push f n values v table is = record {
  length = length-append values (v ∷ []) ∙ ap (λ (m : ℕ). m + 1) table.length;
  each = below_more _ _
      (λ k h. let within : k < length values = omega (arith, table.length) in
      get_or-append values (v ∷ []) 0 k within ∙ table.each k h)
      (ap (λ (m : ℕ). get_or (values ++ v ∷ []) m 0) (sym table.length) ∙ get_or-append_seam values v [] 0 ∙ is);
}

pub IsTable-more : (f : ℕ → ℕ) (n : ℕ) (values more : List ℕ) (v : ℕ) → IsTable f n values → v ≡ f n
    → more ≡ values ++ v ∷ [] → IsTable f (n + 1) more
IsTable-more f n values more v table is grown =
    let P : List ℕ → Type 0 = IsTable f (n + 1) in
    subst P (sym grown) (IsTable-push f n values v table is)

pub IsTable-whole : (f : ℕ → ℕ) (n m : ℕ) (values : List ℕ) → IsTable f n values → n ≡ m → IsTable f m values
IsTable-whole f n m values table all = let P : ℕ → Type 0 = λ k. IsTable f k values in subst P all table

pub IsTable-read : (f : ℕ → ℕ) (n : ℕ) (values : List ℕ) (k v : ℕ) → IsTable f n values → k < n
    → v ≡ get_or values k v → v ≡ f k
IsTable-read f n values k v table h read =
    let within : k < length values = omega (arith, table.length) in
    read ∙ get_or_default_zero values k v within ∙ table.each k h
