-- What a look leaves of a pass.
use Rattle.std.proofs.Common.{◌≡◌, ℕ, ◌+◌, ◌<◌, ◌≤◌, ◌^◌, List, [], ◌∷◌, ◌++◌, length, reverse, Option, Some, refl, sym, ap, ◌∙◌, subst, arith, append_assoc}
use Rattle.std.specs.Prelude.{IsTrue}
use Rattle.std.specs.List.{All, zip}
use Rattle.std.proofs.lemmas.List.{reverse-append}
use Rattle.mz_board.specs.Chair.{ChairState, with_front, with_item}
use Rattle.mz_model.specs.declared.parts.Parts.{Parts}
use Rattle.mz_model.specs.Boundary.{neighbours_of}
use Rattle.mz_model.specs.Items.{items_of}
use Rattle.mz_model.specs.Parts.{unit_count}
use Rattle.mz_model.specs.Targets.{touched_rows}
use Rattle.mz_model.specs.Zones.{is_allowed}
use Rattle.mz_delta.specs.declared.reading.Reading.{Reading}
use Rattle.mz_delta.specs.Reading.{IsWellFormed}
use Rattle.mz_store.specs.declared.told.Told.{Told}
use Rattle.mz_store.specs.Loads.{AreZonesAround, places_around, rows_of, with_items}
use Rattle.mz_store.specs.Looks.{IsLoaded, loads_of}
use Rattle.mz_store.specs.Pass.{IsPass, Looks, pass_of, PassState, Room}
use Rattle.mz_store.specs.RunSetting.{RunSetting}
use Rattle.mz_store.specs.Store.{IsStore, StoreState}
use Rattle.mz_store.proofs.LoadLaws.{zip-around}
use Rattle.mz_store.proofs.StoreLaws.{run-known}
use Rattle.mz_store.proofs.ToldLaws.{length-untold}
use Rattle.mz_store.specs.Told.{untold}
use Rattle.mz_history.specs.declared.entry.Entry.{Entry}
use Rattle.mz_history.specs.Core.{seats_of}
use Rattle.mz_history.proofs.HistoryLaws.{turns_of-le}
use Rattle.std.proofs.lemmas.List.{length-map}

-- the loads of a reading, the last one first: rows, neighbours, unit
loads-turned : (parts : Parts) (reading : Reading) → length reading.neighbours.items ≡ length (neighbours_of parts reading.unit)
    → reverse (loads_of parts reading) ≡ reverse (zip (rows_of parts reading.unit) reading.totals.items) ++ (reverse (zip (places_around parts reading.unit) reading.neighbours.items) ++ (reading.unit, reading.zone) ∷ [])
unfolding items_of
loads-turned parts reading count =
    let near = zip (places_around parts reading.unit) reading.neighbours.items in
    let rows = zip (rows_of parts reading.unit) reading.totals.items in
    let start : List (ℕ × ℕ) = (reading.unit, reading.zone) ∷ [] in
    ap (λ (ls : List (ℕ × ℕ)). reverse ((reading.unit, reading.zone) ∷ ls)) (zip-around parts (neighbours_of parts reading.unit) (touched_rows parts reading.unit) reading.neighbours.items reading.totals.items count)
    ∙ reverse-append start (near ++ rows) ∙ ap (λ (ls : List (ℕ × ℕ)). ls ++ start) (reverse-append near rows) ∙ append_assoc (reverse rows) (reverse near) start

-- the chair after a look
abbrev look_chair : {E S : Type 0} → Parts → ChairState E S → Reading → ChairState E S
look_chair parts chair reading = record chair {
  post = record chair.post {
    reached = reading.front;
    front = Some reading.front;
    items = reverse (loads_of parts reading);
    fronts = chair.post.fronts + 1;
  };
}

-- what the loads of a look gave
pub record HasLooked {E S : Type 0} (parts : Parts) (before first second third after : ChairState E S) (reading : Reading) : Type 0 where
  pub front : first ≡ with_front before reading.front
  pub zone : second ≡ with_item first reading.unit reading.zone
  pub neighbours : third ≡ with_items second (zip (places_around parts reading.unit) reading.neighbours.items)
  pub totals : after ≡ with_items third (zip (rows_of parts reading.unit) reading.totals.items)
  pub unit_is : reading.unit < unit_count parts
  pub allowed : IsTrue (is_allowed parts reading.unit reading.zone)
  pub around : AreZonesAround parts reading.unit reading.neighbours.items
  pub count : length reading.totals.items ≡ length (touched_rows parts reading.unit)
  pub small : All (λ total. total ≤ 10 ^ 18) reading.totals.items

module _ {E S : Type 0} where
  looked-chair : (parts : Parts) (before first second third after : ChairState E S) (reading : Reading) → HasLooked parts before first second third after reading → after ≡ look_chair parts before reading
  looked-chair parts before first second third after reading h =
      let near = zip (places_around parts reading.unit) reading.neighbours.items in
      let rows = zip (rows_of parts reading.unit) reading.totals.items in
      h.totals ∙ ap (λ (c : ChairState E S). with_items c rows) h.neighbours ∙ ap (λ (c : ChairState E S). with_items (with_items c near) rows) h.zone
      ∙ ap (λ (c : ChairState E S). with_items (with_items (with_item c reading.unit reading.zone) near) rows) h.front
      ∙ ap (λ (ls : List (ℕ × ℕ)). record before { post = record before.post { reached = reading.front; front = Some reading.front; items = ls; fronts = before.post.fronts + 1 } }) (sym (loads-turned parts reading h.around.count))

  looked-formed : (parts : Parts) (before first second third after : ChairState E S) (reading : Reading) → HasLooked parts before first second third after reading → IsWellFormed parts reading
  looked-formed parts before first second third after reading h = record {
    unit = h.unit_is;
    zone = h.allowed;
    degree = h.around.count;
    neighbours = h.around.allowed;
    touched = h.count;
    totals = h.small;
  }

some-same : {X : Type 0} (x y : X) → Some x ≡ Some y → x ≡ y
some-same x y e = cc

-- the pass keeps what its chair loaded
pub looked-pass : (now : StoreState) (before first second third after : ChairState Told RunSetting) (seat number reached : ℕ) (room : Room) (last : Option Reading) (value reading : Reading) → IsStore now → before.lock ≡ now.board
    → IsPass before seat number reached last room → HasLooked now.run.setting.parts before first second third after reading → (before.post.reached ≤ reading.front) × (length before.seen ≤ reading.front) → reading.seat ≡ seat → value ≡ reading
    → IsPass after seat number reading.front (Some value) room
looked-pass now before first second third after seat number reached room last value reading is here pass h least own same =
    let parts = now.run.setting.parts in
    subst (λ (v : Reading). IsPass after seat number reading.front (Some v) room) (sym same)
    (subst (λ (c : ChairState Told RunSetting). IsPass c seat number reading.front (Some reading) room) (sym (looked-chair parts before first second third after reading h)) (record {
      idle = pass.idle;
      own = pass.own;
      told = pass.told;
      seat_is = pass.seat_is;
      within = pass.within;
      number_is = pass.number_is;
      reached_is = refl;
      least = least.1;
      read = λ (other : Reading) (run : RunSetting) it known.
          let run_is : now.run ≡ run = some-same now.run run (sym (run-known now before.lock is here) ∙ known) in
          let loaded : IsLoaded parts before.number (look_chair parts before reading).post reading = record {
            seat_is = own ∙ pass.seat_is;
            front_is = refl;
            loads_are = refl;
            well_formed = looked-formed parts before first second third after reading h;
          } in
          subst (λ (r : Reading). IsLoaded run.setting.parts before.number (look_chair parts before reading).post r) (some-same reading other it)
          (subst (λ (r : RunSetting). IsLoaded r.setting.parts before.number (look_chair parts before reading).post reading) run_is loaded);
      room_is = pass.room_is;
      unused = pass.unused;
    }))

-- and contracts see the look
pub looked-looks : (now : StoreState) (before first second third after : ChairState Told RunSetting) (seat number reached : ℕ) (room : Room) (unit : ℕ) (last : Option Reading) (value reading : Reading) (old : PassState) → pass_of before number reached last ≡ old
    → IsPass before seat number reached last room → HasLooked now.run.setting.parts before first second third after reading → (before.post.reached ≤ reading.front) × (length before.seen ≤ reading.front) → reading.front ≤ now.run.limit
    → reading.seat ≡ seat → reading.unit ≡ unit → value ≡ reading → Looks now.run old (pass_of after number reading.front (Some value)) unit reading
looked-looks now before first second third after seat number reached room unit last value reading old seen pass h least most own same_unit same =
    let parts = now.run.setting.parts in
    subst (λ (p : PassState). Looks now.run p (pass_of after number reading.front (Some value)) unit reading) seen (record {
      unit_is = same_unit;
      seat_is = own ∙ pass.seat_is;
      well_formed = looked-formed parts before first second third after reading h;
      least = omega (arith, least.0, pass.reached_is);
      most = most;
      now = ap (λ (v : Reading). pass_of after number reading.front (Some v)) same
          ∙ ap (λ (c : ChairState Told RunSetting). pass_of c number reading.front (Some reading)) (looked-chair parts before first second third after reading h);
    })

-- a pass has drawn no more often than it has seen entries
pub few-draws : (chair : ChairState Told RunSetting) (seat number reached : ℕ) (last : Option Reading) (room : Room) (pass : PassState) → pass_of chair number reached last ≡ pass → IsPass chair seat number reached last room → number ≤ pass.reached
few-draws chair seat number reached last room pass seen is =
    omega (
      arith,
      is.number_is,
      turns_of-le chair.number (seats_of (untold chair.seen)),
      length-map (untold chair.seen) (λ (e : Entry). e.seat),
      length-untold chair.seen,
      is.least,
      is.reached_is,
      ap (λ (p : PassState). p.reached) seen,
    )
