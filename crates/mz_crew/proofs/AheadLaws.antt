-- Draws that a worker makes ahead.
use Rattle.std.proofs.Common.{◌≡◌, ℕ, suc, ◌+◌, ◌<◌, List, ◌∷◌, length, get_or, drop, refl, sym, ap, ◌∙◌, arith}
use Rattle.std.specs.Prelude.{All}
use Rattle.std.proofs.lemmas.List.{ext_get_or}
use Rattle.std.proofs.lemmas.List.Elements.{All-rest}
use Rattle.std.proofs.lemmas.List.FromFn.{get_or-map-range_with_len, length-map-range_with_len}
use Rattle.mz_draw.specs.declared.draw.Draw.{Draw}
use Rattle.mz_draw.specs.Draws.{draw_at}
use Rattle.mz_draw.specs.Words.{SeatWords}
use Rattle.mz_model.specs.Parts.{unit_count}
use Rattle.mz_model.specs.Zones.{counts_of, free_units}
use Rattle.mz_store.specs.Pass.{PassState}
use Rattle.mz_store.specs.RunSetting.{RunSetting}
use Rattle.mz_crew.specs.Ahead.{AreAhead, draws_at_once, draws_of, IsPast}
use Rattle.mz_crew.specs.Works.{words_at}

-- the draw of the pass's seat that has the number
abbrev pub draw_numbered : RunSetting → PassState → ℕ → Draw
draw_numbered run pass =
    draw_at run.setting.seed run.setting.run pass.seat (free_units run.setting.parts) (counts_of run.setting.parts)

-- ---- draws are there

-- as many as are made at once
pub ahead-made : (run : RunSetting) (pass : PassState) (first : ℕ) (draws : List Draw) (words : SeatWords) → draws ≡ draws_of run pass first draws_at_once → All (λ (draw : Draw). draw.unit < unit_count run.setting.parts) draws
    → words ≡ words_at run pass (first + draws_at_once) → AreAhead run pass first draws words
ahead-made run pass first draws words draws_are units words_are =
    let long : length draws ≡ draws_at_once = ap length draws_are ∙ length-map-range_with_len (draw_numbered run pass) first draws_at_once in record {
      draws_are = draws_are ∙ ap (draws_of run pass first) (sym long);
      few = omega (arith, long);
      units = units;
      words_are = words_are ∙ ap (λ k. words_at run pass (first + k)) (sym long);
    }

-- the first of them is taken
pub ahead-taken : (run : RunSetting) (pass : PassState) (first : ℕ) (draws behind : List Draw) (draw : Draw) (words : SeatWords) → AreAhead run pass first draws words → draws ≡ draw ∷ behind → AreAhead run pass (first + 1) behind words
ahead-taken run pass first draws behind draw words ahead taken =
    let long : length draws ≡ suc (length behind) = ap length taken in
    let whole : draw ∷ behind ≡ draw_numbered run pass first ∷ draws_of run pass (first + 1) (length behind) = sym taken ∙ ahead.draws_are ∙ ap (draws_of run pass first) long in record {
      draws_are = ap (drop 1) whole;
      few = omega (arith, long, ahead.few);
      units = All-rest (λ (d : Draw). d.unit < unit_count run.setting.parts) draw behind draws taken ahead.units;
      words_are = ahead.words_are ∙ ap (words_at run pass) (omega (arith, long));
    }

-- where the ones behind the next draw are made, the drawer is past this draw, also once the pass has seen more
pub past-of : (run : RunSetting) (old new : PassState) (draws : List Draw) (words : SeatWords) → AreAhead run old (old.number + 1) draws words → length draws < draws_at_once → new.seat ≡ old.seat → new.number ≡ old.number
    → IsPast run new words
past-of run old new draws words ahead few seat number = record {
  number = old.number + 1 + length draws;
  past = omega (arith, number);
  near = omega (arith, number, few);
  words_are = ahead.words_are ∙ ap (λ (k : ℕ). words_at run (record old { seat = k }) (old.number + 1 + length draws)) (sym seat);
}

-- ---- draws are made

-- the first places hold the next draws, and each place holds some draw
pub record DrawnBelow (run : RunSetting) (pass : PassState) (n : ℕ) (draws : List Draw) (words : SeatWords) : Type 0 where
  pub long : length draws ≡ draws_at_once
  pub draws_are : (default : Draw) (place : ℕ) → place < n → get_or draws place default ≡ draw_numbered run pass (pass.number + place)
  pub units : All (λ draw. draw.unit < unit_count run.setting.parts) draws
  pub words_are : words ≡ words_at run pass (pass.number + n)

-- all of them
pub drawn-all : (run : RunSetting) (pass : PassState) (draws : List Draw) (words : SeatWords) → DrawnBelow run pass draws_at_once draws words → draws ≡ draws_of run pass pass.number draws_at_once
drawn-all run pass draws words all =
    let numbered = draw_numbered run pass in
    let default = numbered 0 in
    ext_get_or default draws (draws_of run pass pass.number draws_at_once)
    (all.long ∙ sym (length-map-range_with_len numbered pass.number draws_at_once))
    (λ place below.
    let within : place < draws_at_once = omega (arith, below, all.long) in
    all.draws_are default place within ∙ sym (get_or-map-range_with_len numbered pass.number draws_at_once place (pass.number + place) default within refl))
