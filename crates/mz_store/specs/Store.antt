-- What contracts see of a store, and what its type keeps.
use Rattle.std.specs.Prelude.{◌≡◌, ◌≤◌, Some}
use Rattle.mz_num.specs.Limits.{most_proposals, most_workers}
use Rattle.mz_board.specs.Chair.{BoardId}
use Rattle.mz_model.specs.Valid.{IsValid}
use Rattle.mz_store.specs.RunSetting.{RunSetting}
use Rattle.mz_store.specs.Words.{opening_words}

-- which store it is, and its run
pub record StoreState : Type 0 where
  pub board : BoardId RunSetting
  pub run : RunSetting

pub record IsStore (s : StoreState) : Type 0 where
  pub setting_is : s.board.setting ≡ Some s.run
  pub seats_are : s.board.seats ≡ s.run.seats
  pub opening_is : s.board.opening ≡ opening_words s.run.setting
  pub valid : IsValid s.run.setting.parts
  pub few : s.run.limit ≤ most_proposals
  pub some_seat : 1 ≤ s.run.seats
  pub workers : s.run.seats ≤ most_workers
