-- What a seat at the table knows, and how each step changes it.
use Rattle.std.specs.Prelude.{◌+◌, ℕ, zero, suc, List, [], ◌∷◌, ◌++◌, Some, None}
use Rattle.mz_turn.specs.declared.view.View.{View}
use Rattle.mz_turn.specs.Seen.{longer}

module _ {E : Type 0} where
  -- the n numbers from this one on, each with the list
  abbrev pub kept_from : ℕ → ℕ → List E → List (ℕ × List E)
  kept_from number zero list = []
  kept_from number (suc n) list = (number, list) ∷ kept_from (suc number) n list

  -- all numbers but the first
  abbrev pub others_of : List (ℕ × List E) → List (ℕ × List E)
  others_of [] = []
  others_of (k ∷ ks) = ks

  -- the first number
  abbrev pub number_of : List (ℕ × List E) → ℕ
  number_of [] = 0
  number_of (k ∷ ks) = k.0

  -- the list that was seen under the only number
  abbrev pub own_of : List (ℕ × List E) → List E
  own_of [] = []
  own_of (k ∷ ks) = k.1

module _ {E S : Type 0} where
  -- at the opening the first view keeps every number
  abbrev pub first_view : List E → S → ℕ → View E S
  first_view list setting seats = record {
    number = 0;
    seats = seats;
    setting = Some setting;
    opening = list;
    seen = list;
    kept = kept_from 0 seats list;
    told = [];
    taken = None;
    tries = 0;
    found = 0;
  }

  abbrev pub spent_view : View E S
  spent_view = record {
    number = 0;
    seats = 0;
    setting = None;
    opening = [];
    seen = [];
    kept = [];
    told = [];
    taken = None;
    tries = 0;
    found = 0;
  }

  -- the whole list was seen, under the chair's number too, and the turn is held
  abbrev pub taken_view : View E S → List E → View E S
  taken_view v list = record v { seen = list; kept = (v.number, list) ∷ []; told = []; taken = Some list }

  abbrev pub missed_view : View E S → ℕ → View E S
  missed_view v word = record v { tries = v.tries + 1; found = word }

  -- what was seen was also seen under the chair's number
  abbrev pub counted_view : View E S → View E S
  counted_view v = record v { kept = (v.number, v.seen) ∷ []; told = [] }

  abbrev pub appended_view : View E S → List E → View E S
  appended_view v list = record v { seen = list; kept = (v.number, list) ∷ []; taken = Some list }

  abbrev pub released_view : View E S → View E S
  released_view v = record v { taken = None }

  -- a copy of what was seen, which keeps no number
  abbrev pub copied_view : View E S → View E S
  copied_view v = record v { kept = []; told = []; taken = None; tries = 0; found = 0 }

  -- the longer list, with both told, and every number of both
  abbrev pub joined_view : View E S → View E S → View E S
  joined_view v w = record v {
    seen = longer v.seen w.seen;
    kept = v.kept ++ w.kept;
    told = w.seen ∷ v.seen ∷ (v.told ++ w.told);
  }

  -- one number is given over
  abbrev pub dealing_view : View E S → View E S
  dealing_view v = record v { kept = others_of v.kept }

  -- the view that gets it
  abbrev pub dealt_view : View E S → View E S
  dealt_view v = record v { number = number_of v.kept; kept = (number_of v.kept, own_of v.kept) ∷ [] }
