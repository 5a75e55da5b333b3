-- What each step on the lock's table tells: of the step, the seat before, the number found and the seat after.
use Rattle.std.specs.Prelude.{◌≡◌, ◌≢◌, ◌+◌, ◌<◌, ◌≤◌, ℕ, List, [], ◌∷◌, length, Option, Some}
use Rattle.mz_num.specs.Limits.{most_workers}
use Rattle.std.specs.List.{All}
use Rattle.atomic_table.specs.Table.{Me, Step, rest}
use Rattle.mz_turn.specs.declared.view.View.{View}
use Rattle.mz_turn.specs.Seen.{Begins, GrewByOthers, GrewByChairs}
use Rattle.mz_turn.specs.Views.{taken_view, missed_view, counted_view, appended_view, released_view, spent_view}

-- the list goes on from what a view knew
pub record Teaches {E S : Type 0} (owner : E → ℕ) (v : View E S) (list : List E) : Type 0 where
  pub seen : Begins v.seen list
  pub kept : All (λ (k : ℕ × List E). GrewByOthers owner k.0 k.1 list) v.kept
  pub told : All (λ brought. Begins brought list) v.told

module _ {T E S : Type 0} (entries : T → List E) (owner : E → ℕ) (setting : T → S) where
  abbrev pub Sat : Type 0
  Sat = Me (Option T) (View E S)

  abbrev pub Tells : Type 1
  Tells = Step (Option T) → Sat → ℕ → Sat → Type 0

  -- the turn was free, and the value goes out with the seat
  pub record Won (m m' : Sat) : Type 0 where
    pub value : T
    pub out : m'.1 ≡ (0, Some value) ∷ m.1
    pub view : m'.0 ≡ taken_view m.0 (entries value)
    pub teaches : Teaches owner m.0 (entries value)
    pub setting_is : m.0.setting ≡ Some (setting value)
    pub added : GrewByChairs owner m.0.seats m.0.opening (entries value)

  -- another chair has the turn
  pub record Missed (m : Sat) (found : ℕ) (m' : Sat) : Type 0 where
    pub view : m' ≡ (missed_view m.0 found, m.1)
    pub other : ℕ
    pub found_is : found ≡ other + 1
    pub few : other < most_workers
    pub apart : other ≢ m.0.number
    pub chair : other < m.0.seats

  abbrev pub tried : Tells
  tried st m found m' = (found ≡ 0 → Won m m') × (found ≢ 0 → Missed m found m')

  -- the holder finds the length of the list that it took
  abbrev pub measured : Tells
  measured st m found m' = (m' ≡ m) × ((taken : List E) → m.0.taken ≡ Some taken → found ≡ length taken)

  abbrev pub counted : Tells
  counted st m found m' = (m' ≡ (counted_view m.0, m.1)) × (length m.0.seen ≤ found) × Teaches owner m.0 m.0.seen
      × ((taken : List E) → m.0.taken ≡ Some taken → (m.0.seen ≡ taken) × (found ≡ length taken))

  -- the value has come home to the held slot, with one entry more
  abbrev pub appended : Tells
  appended st m found m' = (value : T) → m.1 ≡ (0, Some value) ∷ []
      → (m' ≡ (appended_view m.0 (entries value), m.1)) × (m.0.taken ≡ Some m.0.seen)

  abbrev pub released : Tells
  released st m found m' = (m' ≡ (released_view m.0, rest m.1)) × (m.0.taken ≡ Some m.0.seen)

  -- a seat that knows nothing
  abbrev pub entered : Tells
  entered st m found m' = m'.0 ≡ spent_view
