-- What a turn of a chair comes to.
use Rattle.std.specs.Prelude.{◌≡◌, ◌<◌, ℕ, false, not, ◌==◌, ◌+◌, cond, Bool, List, [], ◌∷◌, ◌++◌, length, slice_index}
use Rattle.std.specs.Prelude.{Some, None}
use Rattle.mz_board.specs.Chair.{ChairState}
use Rattle.mz_model.specs.declared.parts.Parts.{Parts}
use Rattle.mz_model.specs.Parts.{unit_count}
use Rattle.mz_model.specs.Targets.{gain_of, touched_rows}
use Rattle.mz_delta.specs.declared.judged.Judged.{Judged}
use Rattle.mz_delta.specs.declared.reading.Reading.{Reading}
use Rattle.mz_history.specs.Core.{seats_of}
use Rattle.mz_history.specs.Replay.{turns_of}
use Rattle.mz_state.specs.Kept.{IsKept, KeptState}
use Rattle.mz_state.specs.Looks.{IsRightFor}
use Rattle.mz_store.specs.declared.store.commits.Turn.{Turn}
use Rattle.mz_store.specs.RunSetting.{RunSetting}
use Rattle.mz_store.specs.Verdict.{added, answer_of, verdict_on}

-- the chair has taken the list, and has appended nothing
pub record HasTurn {E S : Type 0} (chair : ChairState E S) (list : List E) : Type 0 where
  pub taken : chair.taken ≡ Some list
  pub seen : chair.seen ≡ list
  pub own : chair.own ≡ list
  pub reached : chair.post.reached ≡ length list
  pub level : chair.post.appended ≡ false
  pub paid : chair.post.owes ≡ []

-- a chair that has put the list back
abbrev pub ended : {E S : Type 0} → ChairState E S → List E → ChairState E S
ended chair list = record chair {
  seen = list;
  own = list;
  taken = None;
  post = record chair.post { reached = length list; appended = false; owes = [] };
}

abbrev pub with_owes : {E S : Type 0} → ChairState E S → List (ℕ × ℕ) → ChairState E S
with_owes chair owes = record chair { post = record chair.post { owes = owes } }

-- of target rows with totals, those for which the unit gains otherwise in the new zone than in the old one, each by its
-- word with the total
abbrev pub row_writes : Parts → ℕ → ℕ → ℕ → List ℕ → List ℕ → List (ℕ × ℕ)
row_writes parts unit from to [] totals = []
row_writes parts unit from to (row ∷ rows) [] = []
row_writes parts unit from to (row ∷ rows) (total ∷ totals) =
    cond (not (gain_of parts row unit from == gain_of parts row unit to))
    ((unit_count parts + row, total) ∷ row_writes parts unit from to rows totals)
    (row_writes parts unit from to rows totals)

-- what a judged move writes
abbrev pub move_writes : Parts → Judged → Bool → List (ℕ × ℕ)
move_writes parts judged accepted = cond accepted
    ((judged.unit, judged.new)
    ∷ row_writes parts judged.unit judged.old judged.new (touched_rows parts judged.unit) judged.totals.items)
    []

-- what a unit gains in a zone for the row at a place among those that it touches
abbrev pub touched_gain : Parts → ℕ → ℕ → ℕ → ℕ
touched_gain parts unit i zone = gain_of parts (slice_index (touched_rows parts unit) i) unit zone

-- for each target row that the judged unit touches, as much more is held after the move than was read as the unit gains
-- more in its new zone than in its old one
pub record ShowsGains (parts : Parts) (reading : Reading) (judged : Judged) : Type 0 where
  pub count : length reading.totals.items ≡ length (touched_rows parts judged.unit)
  pub gains : (i : ℕ) → i < length (touched_rows parts judged.unit)
      → slice_index judged.totals.items i + touched_gain parts judged.unit i judged.old
      ≡ slice_index reading.totals.items i + touched_gain parts judged.unit i judged.new

-- a turn over a kept state: it is answered the verdict of the journal on the reading, which is right for it, and puts
-- back the journal with the entries that the verdict adds
pub record Decides {E : Type 0}
    (run : RunSetting) (old new : ChairState E RunSetting) (list : List E)
    (k : KeptState) (reading : Reading) (turn : Turn)
    : Type 0 where
  pub kept : IsKept k
  pub right : IsRightFor k.setting k.journal reading
  pub verdict_is : turn.verdict ≡ answer_of k.setting k.journal old.number (verdict_on run k.journal reading)
  pub length_is : turn.length ≡ length (k.journal ++ added turn.verdict)
  pub number_is : turn.number ≡ turns_of old.number (seats_of (k.journal ++ added turn.verdict))
  pub now : new ≡ ended old list
