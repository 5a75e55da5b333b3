-- The sample of changes.
use Rattle.std.proofs.Common.{◌≡◌, ℕ, ◌+◌, ◌*◌, ◌<◌, ◌≤◌, ◌^◌, ◌%◌, ℤ, pos, List, [], ◌∷◌, ◌++◌, length, replicate, Bool, true, false, refl, sym, ap, subst, ◌∙◌, arith}
use Rattle.std.specs.Prelude.{unsigned_abs, nat_lt}
use Rattle.std.specs.List.{All}
use Rattle.std.proofs.lemmas.List.Elements.{All-nil, All-push}
use Rattle.mz_num.specs.Places.{list_below}
use Rattle.mz_num.proofs.PlaceLaws.{length-list_below, list_below-more, list_below-same, replicate-list_below}
use Rattle.mz_draw.specs.Draws.{draw_at}
use Rattle.mz_draw.specs.Words.{SeatWords}
use Rattle.mz_model.specs.declared.parts.Parts.{Parts}
use Rattle.mz_model.specs.Zones.{counts_of, free_units}
use Rattle.mz_delta.specs.declared.judged.Judged.{Judged}
use Rattle.mz_delta.specs.declared.reading.Reading.{Reading}
use Rattle.mz_delta.specs.Rooms.{FitsJudged, FitsReading}
use Rattle.mz_history.specs.Cooling.{change_by_draw, sampled_change, sampled_changes}
use Rattle.mz_history.specs.Start.{starting_plan}

abbrev pub sample_at : Parts → List ℕ → ℕ → ℕ → ℕ → ℤ
sample_at parts plan seed run k = change_by_draw parts plan (draw_at seed run 61 (free_units parts) (counts_of parts) k)

-- the changes of the first n draws of the sample, and a drawer that has given them
pub record HasSampled (parts : Parts) (plan : List ℕ) (seed run n : ℕ) (changes : List ℤ) (words : SeatWords) (reading : Reading) (judged : Judged) : Type 0 where
  pub changes_are : changes ≡ list_below n (sample_at parts plan seed run)
  pub sizes : All (λ d. unsigned_abs d ≤ 10 ^ 25) changes
  pub words_are : words ≡ record { seed = seed; run = run; seat = 61; taken = 3 * n }
  pub reading_fits : FitsReading parts reading
  pub judged_fits : FitsJudged parts judged

pub sampled-none : (parts : Parts) (plan : List ℕ) (seed run : ℕ) (changes : List ℤ) (words : SeatWords) (reading : Reading) (judged : Judged) → changes ≡ [] → words ≡ record { seed = seed; run = run; seat = 61; taken = 0 } → FitsReading parts reading → FitsJudged parts judged
    → HasSampled parts plan seed run 0 changes words reading judged
sampled-none parts plan seed run changes words reading judged none fresh reading_fits judged_fits = record {
  changes_are = none;
  sizes = subst (All (λ d. unsigned_abs d ≤ 10 ^ 25)) (sym none) (All-nil (λ (d : ℤ). unsigned_abs d ≤ 10 ^ 25));
  words_are = fresh;
  reading_fits = reading_fits;
  judged_fits = judged_fits;
}

pub sampled-whole : (parts : Parts) (plan : List ℕ) (seed run n : ℕ) (changes : List ℤ) (words : SeatWords) (reading : Reading) (judged : Judged) → HasSampled parts plan seed run n changes words reading judged → words.taken % 3 ≡ 0
sampled-whole parts plan seed run n changes words reading judged so_far = let taken : words.taken ≡ 3 * n = ap (λ (w : SeatWords). w.taken) so_far.words_are in omega arith

pub sampled-early : (parts : Parts) (plan : List ℕ) (seed run n : ℕ) (changes : List ℤ) (words : SeatWords) (reading : Reading) (judged : Judged) → HasSampled parts plan seed run n changes words reading judged → n ≤ 1000 → words.taken ≤ 3000
sampled-early parts plan seed run n changes words reading judged so_far few = let taken : words.taken ≡ 3 * n = ap (λ (w : SeatWords). w.taken) so_far.words_are in omega arith

pub sampled-more : (parts : Parts) (plan : List ℕ) (seed run n : ℕ) (changes changes' : List ℤ) (words words' : SeatWords) (reading reading' : Reading) (judged judged' : Judged) (change : ℤ) → HasSampled parts plan seed run n changes words reading judged
    → ((k : ℕ) → words.taken ≡ 3 * k → change ≡ change_by_draw parts plan (draw_at words.seed words.run words.seat (free_units parts) (counts_of parts) k)) → unsigned_abs change ≤ 10 ^ 25
    → words' ≡ record words { taken = words.taken + 3 } → FitsReading parts reading' → FitsJudged parts judged' → changes' ≡ changes ++ change ∷ []
    → HasSampled parts plan seed run (n + 1) changes' words' reading' judged'
sampled-more parts plan seed run n changes changes' words words' reading reading' judged judged' change so_far drawn small taken reading_fits judged_fits more =
    let own : change ≡ sample_at parts plan seed run n =
    drawn n (ap (λ (w : SeatWords). w.taken) so_far.words_are) ∙ ap (λ (w : SeatWords). change_by_draw parts plan (draw_at w.seed w.run w.seat (free_units parts) (counts_of parts) n)) so_far.words_are in
    let count : 3 * n + 3 ≡ 3 * (n + 1) = omega arith in record {
      changes_are = more ∙ ap (λ (ds : List ℤ). ds ++ change ∷ []) so_far.changes_are ∙ ap (λ (d : ℤ). list_below n (sample_at parts plan seed run) ++ d ∷ []) own ∙ sym (list_below-more n (sample_at parts plan seed run));
      sizes = subst (All (λ d. unsigned_abs d ≤ 10 ^ 25)) (sym more) (All-push (λ (d : ℤ). unsigned_abs d ≤ 10 ^ 25) changes change so_far.sizes small);
      words_are = taken ∙ ap (λ (w : SeatWords). let after : SeatWords = record w { taken = w.taken + 3 } in after) so_far.words_are ∙ ap (λ (m : ℕ). let after : SeatWords = record { seed = seed; run = run; seat = 61; taken = m } in after) count;
      reading_fits = reading_fits;
      judged_fits = judged_fits;
    }

-- the sample of a problem with a free unit, and of one without
pub sample-free : (parts : Parts) (prop seed run : ℕ) (plan : List ℕ) (changes : List ℤ) (has : Bool) → has ≡ nat_lt 0 (length (free_units parts)) → has ≡ true → plan ≡ starting_plan parts prop seed run → changes ≡ list_below 1000 (sample_at parts plan seed run)
    → changes ≡ sampled_changes parts prop seed run
unfolding sampled_changes
sample-free parts prop seed run plan changes has is some start are =
    are ∙ ap (λ (p : List ℕ). list_below 1000 (sample_at parts p seed run)) start
    ∙ list_below-same 1000 (sample_at parts (starting_plan parts prop seed run) seed run) (sampled_change parts prop seed run) (pos 0) (λ k below. sym (rw (sym is ∙ some) refl))

pub sample-fixed : (parts : Parts) (prop seed run : ℕ) (changes : List ℤ) (has : Bool) → has ≡ nat_lt 0 (length (free_units parts)) → has ≡ false → changes ≡ replicate 1000 (pos 0) → changes ≡ sampled_changes parts prop seed run
unfolding sampled_changes
sample-fixed parts prop seed run changes has is none zeros =
    zeros ∙ replicate-list_below 1000 (sampled_change parts prop seed run) (pos 0) (pos 0) (λ k below. sym (rw (sym is ∙ none) refl))

-- there is some sample
pub some-sample : (parts : Parts) (prop seed run : ℕ) (changes items : List ℤ) → items ≡ changes → changes ≡ sampled_changes parts prop seed run → 0 < length items
unfolding sampled_changes
some-sample parts prop seed run changes items same are = omega (arith, ap length same, ap length are, length-list_below 1000 (sampled_change parts prop seed run))
