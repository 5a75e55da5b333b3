-- What a seat at the table knows, and how each step changes it.
use Rattle.std.specs.Prelude.{◌+◌, ℕ, zero, suc, max, List, [], ◌∷◌, ◌++◌, length, true, false, Some, None}
use Rattle.mz_board.specs.declared.post.Post.{Post}
use Rattle.mz_board.specs.declared.view.View.{View}
use Rattle.mz_board.specs.Seen.{longer}
use Rattle.mz_board.specs.Items.{without}

module _ {E : Type 0} where
  -- the n numbers from this one on, each with the list
  abbrev pub kept_from : ℕ → ℕ → List E → List (ℕ × List E)
  kept_from number zero list = []
  kept_from number (suc n) list = (number, list) ∷ kept_from (suc number) n list

  -- all numbers but the first
  abbrev pub others_of : List (ℕ × List E) → List (ℕ × List E)
  others_of [] = []
  others_of (k ∷ ks) = ks

  -- the first number
  abbrev pub number_of : List (ℕ × List E) → ℕ
  number_of [] = 0
  number_of (k ∷ ks) = k.0

  -- the list that was seen under the only number
  abbrev pub own_of : List (ℕ × List E) → List E
  own_of [] = []
  own_of (k ∷ ks) = k.1

-- so many entries were seen, and no front was loaded
abbrev pub new_post : ℕ → Post
new_post reached = record { reached = reached; appended = false; owes = []; front = None; items = []; fronts = 0 }

module _ {E S : Type 0} where
  -- at the opening the first view keeps every number
  abbrev pub first_view : S → List ℕ → ℕ → View E S
  first_view setting opening seats = record {
    number = 0;
    seats = seats;
    setting = Some setting;
    opening = opening;
    seen = [];
    kept = kept_from 0 seats [];
    told = [];
    taken = None;
    tries = 0;
    found = 0;
    post = new_post 0;
  }

  abbrev pub spent_view : View E S
  spent_view = record {
    number = 0;
    seats = 0;
    setting = None;
    opening = [];
    seen = [];
    kept = [];
    told = [];
    taken = None;
    tries = 0;
    found = 0;
    post = new_post 0;
  }

  -- the whole list was seen, under the chair's number too, and the turn is held
  abbrev pub taken_view : View E S → List E → View E S
  taken_view v list = record v {
    seen = list;
    kept = (v.number, list) ∷ [];
    told = [];
    taken = Some list;
    post = record v.post { reached = length list };
  }

  abbrev pub missed_view : View E S → ℕ → View E S
  missed_view v word = record v { tries = v.tries + 1; found = word }

  -- what was seen was also seen under the chair's number
  abbrev pub counted_view : View E S → View E S
  counted_view v = record v { kept = (v.number, v.seen) ∷ []; told = [] }

  -- the list has one entry more, whose writes are owed
  abbrev pub appended_view : View E S → List E → List (ℕ × ℕ) → View E S
  appended_view v list owes = record v {
    seen = list;
    kept = (v.number, list) ∷ [];
    taken = Some list;
    post = record v.post { reached = length list; appended = true; owes = owes };
  }

  -- an item is no longer owed
  abbrev pub stored_view : View E S → ℕ → View E S
  stored_view v item = record v { post = record v.post { owes = without item v.post.owes } }

  abbrev pub published_view : View E S → View E S
  published_view v = record v { post = record v.post { appended = false } }

  abbrev pub released_view : View E S → View E S
  released_view v = record v { taken = None }

  -- the front was loaded, and no item since
  abbrev pub front_view : View E S → ℕ → View E S
  front_view v front = record v {
    post = record v.post {
      reached = front;
      front = Some front;
      items = [];
      fronts = v.post.fronts + 1;
    };
  }

  abbrev pub item_view : View E S → ℕ → ℕ → View E S
  item_view v item value = record v { post = record v.post { items = (item, value) ∷ v.post.items } }

  -- a copy of what was seen, which keeps no number
  abbrev pub copied_view : View E S → View E S
  copied_view v = record v {
    kept = [];
    told = [];
    taken = None;
    tries = 0;
    found = 0;
    post = new_post v.post.reached;
  }

  -- the longer list and the greater number, with both lists told, and every number of both
  abbrev pub joined_view : View E S → View E S → View E S
  joined_view v w = record v {
    seen = longer v.seen w.seen;
    kept = v.kept ++ w.kept;
    told = w.seen ∷ v.seen ∷ (v.told ++ w.told);
    post = record v.post { reached = max v.post.reached w.post.reached };
  }

  -- one number is given over
  abbrev pub dealing_view : View E S → View E S
  dealing_view v = record v { kept = others_of v.kept }

  -- the view that gets it
  abbrev pub dealt_view : View E S → View E S
  dealt_view v = record v { number = number_of v.kept; kept = (number_of v.kept, own_of v.kept) ∷ [] }
