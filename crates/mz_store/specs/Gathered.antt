-- The chairs of passes.
use Rattle.std.specs.Prelude.{◌≡◌, List, None}
use Rattle.std.specs.List.{All, Contains}
use Rattle.mz_board.specs.Chair.{BoardId, ChairState}
use Rattle.mz_store.specs.declared.told.Told.{Told}
use Rattle.mz_store.specs.Pass.{PassState}
use Rattle.mz_store.specs.RunSetting.{RunSetting}
use Rattle.mz_store.specs.Told.{untold}

-- the chair knows what the pass does
pub record Knows (pass : PassState) (chair : ChairState Told RunSetting) : Type 0 where
  pub seat : chair.number ≡ pass.seat
  pub seen : untold chair.seen ≡ pass.seen
  pub reached : chair.post.reached ≡ pass.reached

-- chairs of the store, none of which holds the turn, and among them one for each pass
pub record AreGathered (store : BoardId RunSetting) (passes : List PassState)
    (chairs : List (ChairState Told RunSetting)) : Type 0
  where
    pub idle : All (λ (chair : ChairState Told RunSetting). (chair.lock ≡ store) × (chair.taken ≡ None)) chairs
    pub each : (pass : PassState) → Contains passes pass
        → (chair : ChairState Told RunSetting) × Contains chairs chair × Knows pass chair
