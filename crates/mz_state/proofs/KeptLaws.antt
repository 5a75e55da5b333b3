-- What a kept state keeps: at the opening, and what is read of it.
use Rattle.std.proofs.Common.{◌≡◌, ℕ, ◌<◌, ◌≤◌, ◌^◌, List, [], length, get_or, replicate, Option, None, refl, sym, ap, subst, ◌∙◌, arith}
use Rattle.std.proofs.lemmas.List.{length-replicate}
use Rattle.std.proofs.lemmas.List.Elements.{All-nil}
use Rattle.mz_num.specs.Places.{list_below}
use Rattle.mz_num.proofs.PlaceLaws.{get_or-list_below, length-list_below, replicate-list_below}
use Rattle.mz_model.specs.declared.parts.Parts.{Parts}
use Rattle.mz_model.specs.declared.score.Score.{Score}
use Rattle.mz_model.specs.Items.{row_item, unit_item}
use Rattle.mz_model.specs.Parts.{target_count, unit_count}
use Rattle.mz_model.specs.Valid.{IsValid}
use Rattle.mz_model.proofs.ScoreLaws.{score-le}
use Rattle.mz_delta.specs.declared.reading.Reading.{Reading}
use Rattle.mz_delta.specs.Reading.{Agrees, IsReadingOf}
use Rattle.mz_history.specs.declared.entry.Entry.{Entry}
use Rattle.mz_history.specs.declared.rules.Rules.{Rules}
use Rattle.mz_history.specs.Core.{seats_of}
use Rattle.mz_history.specs.Moves.{IsMove}
use Rattle.mz_history.specs.Replay.{plan_of_history, turns_of}
use Rattle.mz_history.specs.Rules.{IsRules, setting_with}
use Rattle.mz_history.specs.Start.{starting_plan}
use Rattle.mz_history.proofs.LegalHistoryLaws.{legal-none}
use Rattle.mz_state.specs.Kept.{AreVersions, Keeps, KeptState}
use Rattle.mz_state.specs.Looks.{IsLook}
use Rattle.mz_state.specs.Standing.{IsPosition}
use Rattle.mz_state.specs.Versions.{position_past, version_around, version_of}
use Rattle.mz_history.specs.Verdict.{overtaking_entry}
use Rattle.mz_state.proofs.ReadingLaws.{agrees-right}
use Rattle.mz_state.proofs.VersionLaws.{touched-none, touched-some}

-- ---- the opening

begun : (parts : Parts) (rules : Rules) (seed run room : ℕ) (draws plan totals : List ℕ) (score : Score) (units rows : List ℕ) → IsRules rules → run ≤ 1000 → length draws ≤ 60 → IsValid parts
    → draws ≡ replicate (length draws) 0 → rules.limit ≤ room → plan ≡ starting_plan parts rules.prop seed run → IsPosition parts plan totals score
    → units ≡ replicate (unit_count parts) 0 → rows ≡ replicate (target_count parts) 0
    → Keeps (record { setting = setting_with parts rules seed run; limit = rules.limit; seats = length draws; journal = [] }) draws plan totals score units rows 0 room
begun parts rules seed run room draws plan totals score units rows is runs few valid fresh wide starts position no_units no_rows = record {
  kept = record {
    valid = valid;
    runs = runs;
    few = is.few;
    own_limit = is.own_limit;
    workers = few;
    journal = record {
      history = legal-none (setting_with parts rules seed run);
      few = omega arith;
      owners = All-nil (λ (e : Entry). e.seat < length draws);
      moves = All-nil (IsMove parts);
    };
  };
  agrees = record {
    played = record { plan_is = starts; legal = position.legal; score_is = position.score_is; small = subst (λ (s : Score). s.total ≤ 10 ^ 25) (sym position.score_is) (score-le parts plan valid position.legal) };
    totals_are = position.totals_are;
    draws_are = fresh ∙ replicate-list_below (length draws) (λ seat. turns_of seat []) 0 0 (λ k h. refl);
    versions = record {
      units_are = no_units ∙ replicate-list_below (unit_count parts) (λ unit. version_of parts [] (unit_item unit)) 0 0 (λ k h. refl);
      rows_are = no_rows ∙ replicate-list_below (target_count parts) (λ row. version_of parts [] (row_item row)) 0 0 (λ k h. refl);
      last_is = refl;
    };
  };
  room_is = wide;
}

pub opened : (parts : Parts) (rules : Rules) (parts' : Parts) (rules' : Rules) (seed run limit seats last room : ℕ) (journal : List Entry) (draws plan totals : List ℕ) (score : Score) (units rows : List ℕ)
    → parts' ≡ parts → rules' ≡ rules → IsRules rules → run ≤ 1000 → seats ≤ 60 → IsValid parts → journal ≡ [] → limit ≡ rules.limit
    → draws ≡ replicate seats 0 → rules.limit ≤ room → plan ≡ starting_plan parts rules.prop seed run → IsPosition parts plan totals score
    → units ≡ replicate (unit_count parts) 0 → rows ≡ replicate (target_count parts) 0 → last ≡ 0
    → Keeps (record { setting = setting_with parts' rules' seed run; limit = limit; seats = length draws; journal = journal }) draws plan totals score units rows last room
opened parts rules parts' rules' seed run limit seats last room journal draws plan totals score units rows same same_rules is runs few valid none own fresh wide starts position no_units no_rows start =
    let count : length draws ≡ seats = ap length fresh ∙ length-replicate seats 0 in
    let so_far = begun parts rules seed run room draws plan totals score units rows is runs (omega arith) valid (fresh ∙ ap (λ n. replicate n 0) (sym count)) wide starts position no_units no_rows in
    subst (λ (l : ℕ). Keeps (record { setting = setting_with parts' rules' seed run; limit = l; seats = length draws; journal = journal }) draws plan totals score units rows last room) (sym own)
    (subst (λ (js : List Entry). Keeps (record { setting = setting_with parts' rules' seed run; limit = rules.limit; seats = length draws; journal = js }) draws plan totals score units rows last room) (sym none)
    (subst (λ (l : ℕ). Keeps (record { setting = setting_with parts' rules' seed run; limit = rules.limit; seats = length draws; journal = [] }) draws plan totals score units rows l room) (sym start)
    (subst (λ (r : Rules). Keeps (record { setting = setting_with parts' r seed run; limit = rules.limit; seats = length draws; journal = [] }) draws plan totals score units rows 0 room) (sym same_rules)
    (subst (λ (p : Parts). Keeps (record { setting = setting_with p rules seed run; limit = rules.limit; seats = length draws; journal = [] }) draws plan totals score units rows 0 room) (sym same) so_far))))

-- ---- a seat's next draw

pub drawn-next : (k now : KeptState) (draws : List ℕ) (seat number d : ℕ) → k ≡ now → draws ≡ list_below k.seats (λ seat. turns_of seat (seats_of k.journal)) → seat < now.seats → number ≡ get_or draws seat d → number ≡ turns_of seat (seats_of now.journal)
drawn-next k now draws seat number d same are within at =
    at ∙ ap (λ ns. get_or ns seat d) are ∙ get_or-list_below k.seats seat (λ (s : ℕ). turns_of s (seats_of k.journal)) d (let seats = ap (λ (k : KeptState). k.seats) same in omega arith)
    ∙ ap (λ (k : KeptState). turns_of seat (seats_of k.journal)) same

-- ---- a look

pub looked : (k now : KeptState) (draws plan totals : List ℕ) (score : Score) (units rows : List ℕ) (last room : ℕ) (parts : Parts) (seat place front : ℕ) (old new : Reading)
    → k ≡ now → Keeps k draws plan totals score units rows last room → parts ≡ now.setting.parts → IsReadingOf parts plan place old new → front ≡ length now.journal → IsLook now seat place (record new { seat = seat; front = front })
looked k now draws plan totals score units rows last room parts seat place front old new same keeps own reads count =
    let read : IsReadingOf now.setting.parts plan place old new = subst (λ (p : Parts). IsReadingOf p plan place old new) own reads in
    let is : plan ≡ plan_of_history now.setting now.journal = keeps.agrees.played.plan_is ∙ ap (λ (k : KeptState). plan_of_history k.setting k.journal) same in
    let agrees : Agrees now.setting.parts (plan_of_history now.setting now.journal) new = subst (λ (p : List ℕ). Agrees now.setting.parts p new) is read.agrees in
    let seen : Reading = record new { seat = seat; front = front } in
    let sees : Agrees now.setting.parts (plan_of_history now.setting now.journal) seen = record { unit = agrees.unit; neighbours = agrees.neighbours; totals = agrees.totals } in record {
      seat = refl;
      front = count;
      unit = read.unit;
      well_formed = record { unit = read.well_formed.unit; zone = read.well_formed.zone; degree = read.well_formed.degree; neighbours = read.well_formed.neighbours; touched = read.well_formed.touched; totals = read.well_formed.totals };
      agrees = sees;
      right = agrees-right now.setting now.journal seen count sees;
    }

-- ---- what overtakes a reading

pub none-touched : (k now : KeptState) (units rows : List ℕ) (last front unit : ℕ) → k ≡ now → AreVersions k units rows last → last ≤ front → None ≡ overtaking_entry now.setting.parts now.journal front unit
none-touched k now units rows last front unit same are early = touched-none k units rows last front unit are early ∙ ap (λ (k : KeptState). overtaking_entry k.setting.parts k.journal front unit) same

pub unit-count : (k now : KeptState) (units rows : List ℕ) (last : ℕ) (parts : Parts) → k ≡ now → parts ≡ now.setting.parts → AreVersions k units rows last → length units ≡ unit_count parts
unit-count k now units rows last parts same own are = ap length are.units_are ∙ length-list_below (unit_count k.setting.parts) (λ unit. version_of k.setting.parts k.journal (unit_item unit)) ∙ ap (λ (k : KeptState). unit_count k.setting.parts) same ∙ ap unit_count (sym own)

pub row-count : (k now : KeptState) (units rows : List ℕ) (last : ℕ) (parts : Parts) → k ≡ now → parts ≡ now.setting.parts → AreVersions k units rows last → length rows ≡ target_count parts
row-count k now units rows last parts same own are = ap length are.rows_are ∙ length-list_below (target_count k.setting.parts) (λ row. version_of k.setting.parts k.journal (row_item row)) ∙ ap (λ (k : KeptState). target_count k.setting.parts) same ∙ ap target_count (sym own)

pub some-touched : (k now : KeptState) (units rows : List ℕ) (last front unit version : ℕ) (answer : Option ℕ) (parts : Parts) → k ≡ now → parts ≡ now.setting.parts → IsValid k.setting.parts → AreVersions k units rows last → unit < unit_count parts
    → version ≡ version_around parts units rows unit → answer ≡ position_past front version → answer ≡ overtaking_entry now.setting.parts now.journal front unit
some-touched k now units rows last front unit version answer parts same own valid are within is answered =
    let there : parts ≡ k.setting.parts = own ∙ sym (ap (λ (k : KeptState). k.setting.parts) same) in
    answered ∙ ap (position_past front) (is ∙ ap (λ p. version_around p units rows unit) there)
    ∙ touched-some k units rows last front unit valid are (subst (λ p. unit < unit_count p) there within)
    ∙ ap (λ (k : KeptState). overtaking_entry k.setting.parts k.journal front unit) same
