-- A reader in the middle of a text, and the records that it has left.
use Rattle.std.specs.Prelude.{ℕ, ◌+◌, ◌≡◌, Bool, true, false, List, [], ◌∷◌, length, Option, Some, None, IsSome}
use Rattle.std.specs.Borrow.{Bor}
use Rattle.csv.specs.Reading.{Ready, is_flexible, reader_config, reader_state, reader_trim, records_from, source_of}
use Rattle.csv.specs.declared.parser.Config.{Config}
use Rattle.csv.specs.declared.parser.State.{State}
use Rattle.csv.specs.declared.reader.Reader.{Reader}
use Rattle.csv.specs.declared.reader.Trim.TheVariants as trim

-- a reader over bytes in memory
abbrev pub BytesReader : Type 0
BytesReader = Reader (Bor (List ℕ))

-- the bytes behind a slice, which are all known
abbrev pub known_bytes : Bor (List ℕ) → Option (List ℕ)
known_bytes slice = Some slice.now

-- every record from a state and the bytes that are left
unfoldable pub records_left : Config → State → Option (List ℕ) → List (List (List ℕ))
records_left config state None = []
records_left config state (Some bytes) = records_from config (length bytes + 1) state bytes

-- the records that the reader has yet to give
abbrev pub rest_of : BytesReader → List (List (List ℕ))
rest_of reader = records_left (reader_config reader) (reader_state reader) (source_of known_bytes reader)

-- the next read gives one record as it stands, of any number of fields
pub record IsReading (reader : BytesReader) : Type 0 where
  pub untrimmed : reader_trim reader ≡ trim.None
  pub ready : Ready reader
  pub flexible : is_flexible reader ≡ true
  pub known : IsSome (source_of known_bytes reader)

-- a read found a record and left the others, or found none since none were left
abbrev pub Takes : Bool → List (List ℕ) → List (List (List ℕ)) → List (List (List ℕ)) → Type 0
Takes true fields before after = before ≡ fields ∷ after
Takes false fields before after = before ≡ []
