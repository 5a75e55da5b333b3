-- What the holder's helpers ask of its seat.
use Rattle.std.specs.Prelude.{◌≡◌, ◌≤◌, ℕ, List, [], ◌∷◌, ◌++◌, length, true, false, Option, Some, MatchOption}
use Rattle.atomic_table.specs.Table.{Me}
use Rattle.mz_board.specs.declared.story.Story.{Ghosts}
use Rattle.mz_board.specs.declared.view.View.{View}
use Rattle.mz_board.specs.Views.{own_of}
use Rattle.mz_board.specs.Chair.{Fitting}

module _ {T E S : Type 0} (story : Ghosts T E S) where
  -- the list has one entry more than the taken one
  pub record Grows (v : View E S) (setting : S) (list : List E) : Type 0 where
    pub taken : List E
    pub holds : v.taken ≡ Some taken
    pub first : v.post.appended ≡ false
    pub kept : v.kept ≡ (v.number, own_of v.kept) ∷ []
    pub entry : E
    pub grows : list ≡ taken ++ entry ∷ []
    pub own : story.owner entry ≡ v.number
    pub few : length list ≤ story.most setting
    pub fitting : Fitting story setting v.opening entry

module _ {T E S : Type 0} where
  -- the holder owes nothing, and the front is the one to publish
  pub record MayPublish (front : Option ℕ) (me : Me (Option T) (View E S)) : Type 0 where
    pub taken : List E
    pub holds : me.0.taken ≡ Some taken
    pub paid : me.0.post.owes ≡ []
    pub front_is : MatchOption front (me.0.post.appended ≡ false) (λ n. (me.0.post.appended ≡ true)
        × (n ≡ length me.0.seen))
