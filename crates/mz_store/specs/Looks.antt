-- Readings whose items are loaded one by one.
use Rattle.std.specs.Prelude.{reverse, ◌≡◌, ℕ, List, map, Some}
use Rattle.mz_board.specs.declared.post.Post.{Post}
use Rattle.mz_model.specs.declared.parts.Parts.{Parts}
use Rattle.mz_model.specs.Items.{Item}
use Rattle.mz_delta.specs.declared.reading.Reading.{Reading}
use Rattle.mz_delta.specs.Reading.{IsWellFormed}
use Rattle.mz_state.specs.Looks.{read_values}
use Rattle.mz_store.specs.Words.{word_of_item}

-- the words of a reading's items, each with the read value
abbrev pub loads_of : Parts → Reading → List (ℕ × ℕ)
loads_of parts reading = map (λ (read : Item × ℕ). (word_of_item parts read.0, read.1)) (read_values parts reading)

-- a reading of a seat is what was loaded: its front is the last front that was found, and its values are what loads of
-- their words found after it; of the loads the last one comes first
pub record IsLoaded (parts : Parts) (seat : ℕ) (post : Post) (reading : Reading) : Type 0 where
  pub seat_is : reading.seat ≡ seat
  pub front_is : post.front ≡ Some reading.front
  pub loads_are : post.items ≡ reverse (loads_of parts reading)
  pub well_formed : IsWellFormed parts reading
