-- What each step on the board's table tells: of the step, the seat before, the number found and the seat after.
use Rattle.std.specs.Prelude.{◌≡◌, ◌≢◌, ◌+◌, ◌-◌, ◌<◌, ◌≤◌, ℕ, List, ◌∷◌, length, true, Option, Some}
use Rattle.std.specs.List.{All}
use Rattle.mz_num.specs.Limits.{most_workers}
use Rattle.atomic_table.specs.Table.{Me, Step, rest}
use Rattle.mz_board.specs.declared.story.Story.{Ghosts}
use Rattle.mz_board.specs.declared.view.View.{View}
use Rattle.mz_board.specs.Seen.{Begins, GrewByOthers}
use Rattle.mz_board.specs.Items.{last_writes}
use Rattle.mz_board.specs.Chair.{Reads}
use Rattle.mz_board.specs.Views.{taken_view, missed_view, counted_view, appended_view, stored_view, published_view, released_view, front_view, item_view, spent_view}

-- the list goes on from what a view knew
pub record Teaches {E S : Type 0} (owner : E → ℕ) (v : View E S) (list : List E) : Type 0 where
  pub seen : Begins v.seen list
  pub kept : All (λ (k : ℕ × List E). GrewByOthers owner k.0 k.1 list) v.kept
  pub told : All (λ brought. Begins brought list) v.told

-- where the words of the items begin
abbrev pub first_item : ℕ
first_item = 3

module _ {T E S : Type 0} (story : Ghosts T E S) where
  abbrev pub Sat : Type 0
  Sat = Me (Option T) (View E S)

  abbrev pub Tells : Type 1
  Tells = Step (Option T) → Sat → ℕ → Sat → Type 0

  -- the turn was free, and the value goes out with the seat
  pub record Won (m m' : Sat) : Type 0 where
    pub value : T
    pub out : m'.1 ≡ (0, Some value) ∷ m.1
    pub view : m'.0 ≡ taken_view m.0 (story.entries value)
    pub teaches : Teaches story.owner m.0 (story.entries value)
    pub setting_is : m.0.setting ≡ Some (story.setting value)
    pub reads : Reads story.writes m.0.opening m.0.post (story.entries value)
    pub owners : All (λ entry. story.owner entry < m.0.seats) (story.entries value)
    pub few : length (story.entries value) ≤ story.most (story.setting value)

  -- another chair has the turn
  pub record Missed (m : Sat) (found : ℕ) (m' : Sat) : Type 0 where
    pub view : m' ≡ (missed_view m.0 found, m.1)
    pub other : ℕ
    pub found_is : found ≡ other + 1
    pub few : other < most_workers
    pub apart : other ≢ m.0.number
    pub chair : other < m.0.seats

  abbrev pub tried : Tells
  tried st m found m' = (found ≡ 0 → Won m m') × (found ≢ 0 → Missed m found m')

  abbrev pub counted : Tells
  counted st m found m' = (m' ≡ (counted_view m.0, m.1)) × (m.0.post.reached ≤ found)
      × Teaches story.owner m.0 m.0.seen × ((taken : List E) → m.0.taken ≡ Some taken → (m.0.seen ≡ taken)
      × (found ≡ length taken))

  -- the list has grown to this one
  abbrev pub appended : List E → Tells
  appended list st m found m' = m' ≡ (appended_view m.0 list (last_writes story.writes list), m.1)

  abbrev pub stored : Tells
  stored st m found m' = m' ≡ (stored_view m.0 (st.word - first_item), m.1)

  abbrev pub published : Tells
  published st m found m' = m' ≡ (published_view m.0, m.1)

  abbrev pub released : Tells
  released st m found m' = m' ≡ (released_view m.0, rest m.1)

  -- the front is at least what was seen, and at most the most entries of a list
  abbrev pub fronted : Tells
  fronted st m found m' = (m' ≡ (front_view m.0 found, m.1)) × (m.0.post.reached ≤ found)
      × ((s : S) → m.0.setting ≡ Some s → found ≤ story.most s)

  -- the value is one that the item may have
  abbrev pub loaded : Tells
  loaded st m found m' = (m' ≡ (item_view m.0 (st.word - first_item) found, m.1))
      × ((s : S) → m.0.setting ≡ Some s → story.may_have s (st.word - first_item) found ≡ true)

  -- a seat that knows nothing
  abbrev pub entered : Tells
  entered st m found m' = m'.0 ≡ spent_view
