-- The records that a reader has left: one read takes the first of them.
use Rattle.std.proofs.Common.{◌≡◌, ◌⊎◌, ℕ, zero, suc, ◌+◌, ◌<◌, ◌≤◌, Bool, true, false, List, [], ◌∷◌, ◌++◌, length, Option, Some, None, refl, sym, ◌∙◌, ap, inl, inr, arith, add-one}
use Rattle.std.proofs.lemmas.Bool.{false≢true}
use Rattle.std.specs.Prelude.{IsSome, if◌then◌else◌}
use Rattle.csv.specs.Machine.{Read, ends_at_end, is_end, step, fields_after, field_after, next_record}
use Rattle.csv.specs.Reading.{ReadRecord, Reached, is_bom, reader_config, reader_state, records, records_from, records_next, source_of, strip_bom}
use Rattle.csv.specs.declared.parser.Config.{Config}
use Rattle.csv.specs.declared.parser.State.{State}
use Rattle.csv.specs.declared.parser.State.TheVariants as st
use Rattle.csv.proofs.ReadFacts.{rows-end, rows-more}
use Rattle.mz_tables.specs.Reading.{BytesReader, Takes, known_bytes, records_left, rest_of}

-- after a record fewer bytes are left, or none and the reader stands at a start
IsShorter : List ℕ → Read → Type 0
IsShorter bytes p = (length p.2 < length bytes) ⊎ ((p.1 ≡ st.StartRecord) × (p.2 ≡ []))

one_more : (byte : ℕ) (bytes : List ℕ) (p : Read) → IsShorter bytes p → IsShorter (byte ∷ bytes) p
unfolding IsShorter
one_more byte bytes p (inl h) = inl (omega arith)
one_more byte bytes p (inr h) = inr h

at_end : (b : Bool) (q p : Read) → q.1 ≡ st.StartRecord → q.2 ≡ [] → (if b then Some q else None) ≡ Some p → IsShorter [] p
unfolding IsShorter
at_end true q p start nothing e =
    let same : q ≡ p = cc in
    inr (sym (ap (λ (r : Read). r.1) same) ∙ start, sym (ap (λ (r : Read). r.2) same) ∙ nothing)
at_end false q p start nothing e = cc

in_text : (b : Bool) (byte : ℕ) (bytes : List ℕ) (q p : Read) (more : Option Read) → q.2 ≡ bytes → (more ≡ Some p → IsShorter bytes p) → (if b then Some q else more) ≡ Some p → IsShorter (byte ∷ bytes) p
unfolding IsShorter
in_text true byte bytes q p more rest later e =
    let same : q ≡ p = cc in
    let left : length p.2 ≡ length bytes = ap length (ap (λ (r : Read). r.2) (sym same) ∙ rest) in
    inl (omega arith)
in_text false byte bytes q p more rest later e = one_more byte bytes p (later e)

shorter : (cfg : Config) (s : State) (fields : List (List ℕ)) (field bytes : List ℕ) (p : Read) → next_record cfg s fields field bytes ≡ Some p → IsShorter bytes p
unfolding next_record
shorter cfg s fields field [] p e = at_end (ends_at_end s) (fields ++ (field ∷ []), st.StartRecord, []) p refl refl e
shorter cfg s fields field (byte ∷ bytes) p e =
    in_text (is_end (step cfg s byte).1) byte bytes (fields_after (step cfg s byte).1 fields field, (step cfg s byte).0, bytes) p
    (next_record cfg (step cfg s byte).0 (fields_after (step cfg s byte).1 fields field) (field_after (step cfg s byte).1 byte field) bytes)
    refl (shorter cfg (step cfg s byte).0 (fields_after (step cfg s byte).1 fields field) (field_after (step cfg s byte).1 byte field) bytes p) e

-- nothing is left at the end of a text
none_at_start : (cfg : Config) (n : ℕ) → records_from cfg n st.StartRecord [] ≡ []
unfolding records_from next_record
none_at_start cfg zero = refl
none_at_start cfg (suc n) = refl

same_next : (f g : State → List ℕ → List (List (List ℕ))) (o : Option Read) → ((p : Read) → o ≡ Some p → f p.1 p.2 ≡ g p.1 p.2) → records_next f o ≡ records_next g o
same_next f g None same = refl
same_next f g (Some p) same = ap (λ rest. p.0 ∷ rest) (same p refl)

-- any number of turns above the number of bytes finds the same records
enough_after : (cfg : Config) (n m : ℕ) (bytes : List ℕ) (p : Read) → ((s : State) (left : List ℕ) → length left < n → length left < m → records_from cfg n s left ≡ records_from cfg m s left) → length bytes < suc n → length bytes < suc m → IsShorter bytes p → records_from cfg n p.1 p.2 ≡ records_from cfg m p.1 p.2
unfolding IsShorter
enough_after cfg n m bytes p same h k (inl less) = same p.1 p.2 (omega arith) (omega arith)
enough_after cfg n m bytes p same h k (inr (start, nothing)) = rw (start, nothing) (none_at_start cfg n ∙ sym (none_at_start cfg m))

enough : (cfg : Config) (n m : ℕ) (s : State) (bytes : List ℕ) → length bytes < n → length bytes < m → records_from cfg n s bytes ≡ records_from cfg m s bytes
unfolding records_from
enough cfg zero m s bytes h k = absurd (omega arith)
enough cfg (suc n) zero s bytes h k = absurd (omega arith)
enough cfg (suc n) (suc m) s bytes h k = same_next (records_from cfg n) (records_from cfg m) (next_record cfg s [] [] bytes) (λ p e. enough_after cfg n m bytes p (enough cfg n m) h k (shorter cfg s [] [] bytes p e))

after_first : (cfg : Config) (bytes : List ℕ) (p : Read) → IsShorter bytes p → records_from cfg (length bytes) p.1 p.2 ≡ records_from cfg (length p.2 + 1) p.1 p.2
unfolding IsShorter
after_first cfg bytes p (inl less) = enough cfg (length bytes) (length p.2 + 1) p.1 p.2 less (omega arith)
after_first cfg bytes p (inr (start, nothing)) = rw (start, nothing) (none_at_start cfg (length bytes) ∙ sym (none_at_start cfg (length {A = ℕ} [] + 1)))

-- what is left before a read that found a record, and before one that found none
left-some : (cfg : Config) (s : State) (bytes : List ℕ) (p : Read) → next_record cfg s [] [] bytes ≡ Some p → records_left cfg s (Some bytes) ≡ p.0 ∷ records_left cfg p.1 (Some p.2)
unfolding records_left records_from
left-some cfg s bytes p e =
    let turn : records_from cfg (suc (length bytes)) s bytes ≡ p.0 ∷ records_from cfg (length bytes) p.1 p.2 = ap (records_next (records_from cfg (length bytes))) e in
    rw add-one (turn ∙ ap (λ rest. p.0 ∷ rest) (after_first cfg bytes p (shorter cfg s [] [] bytes p e)))

left-none : (cfg : Config) (s : State) (bytes : List ℕ) → next_record cfg s [] [] bytes ≡ None → records_left cfg s (Some bytes) ≡ []
unfolding records_left records_from
left-none cfg s bytes e = rw add-one (ap (records_next (records_from cfg (length bytes))) e)

known_of : (o : Option (List ℕ)) → IsSome o → (bytes : List ℕ) × (o ≡ Some bytes)
known_of None h = absurd (false≢true h)
known_of (Some bytes) h = (bytes, refl)

take_same : (cfg cfg2 : Config) (p : Read) (fields : List (List ℕ)) (s : State) (bytes : List ℕ) (source : Option (List ℕ)) → fields ≡ p.0 → p.1 ≡ s → p.2 ≡ bytes → source ≡ Some bytes → cfg2 ≡ cfg → p.0 ∷ records_left cfg p.1 (Some p.2) ≡ fields ∷ records_left cfg2 s source
take_same cfg cfg2 p fields s bytes source a b c d e = cc

-- a read takes the first of the records that are left, and leaves a reader that knows its bytes
pub read-takes : (old new : BytesReader) (found : Bool) (fields : List (List ℕ)) → IsSome (source_of known_bytes old) → ReadRecord known_bytes old new found fields → Takes found fields (rest_of old) (rest_of new)
unfolding Reached
read-takes old new true fields known r =
    let k = known_of (source_of known_bytes old) known in
    let m = rows-more known_bytes old new fields (reader_config old) (reader_state old) k.0 k.0 [] refl k.1 (refl, refl) r in
    let p : Read = m.2.0 in
    ap (records_left (reader_config old) (reader_state old)) k.1
    ∙ (left-some (reader_config old) (reader_state old) k.0 p m.2.1
    ∙ take_same (reader_config old) (reader_config new) p fields (reader_state new) m.0 (source_of known_bytes new) m.2.2 m.2.3.0 m.2.3.1 m.1 r.2)
read-takes old new false fields known r =
    let k = known_of (source_of known_bytes old) known in
    ap (records_left (reader_config old) (reader_state old)) k.1 ∙ left-none (reader_config old) (reader_state old) k.0 (rows-end known_bytes old new fields (reader_config old) k.0 refl k.1 r)

-- a reader at the start of a text has all its records left
pub rest-start : (reader : BytesReader) (cfg : Config) (bytes : List ℕ) → reader_config reader ≡ cfg → reader_state reader ≡ st.StartRecord → source_of known_bytes reader ≡ Some bytes → rest_of reader ≡ records cfg bytes
unfolding records_left
rest-start reader cfg bytes config start source =
    ap (λ (c : Config). records_left c (reader_state reader) (source_of known_bytes reader)) config
    ∙ (ap (λ (s : State). records_left cfg s (source_of known_bytes reader)) start
    ∙ ap (records_left cfg st.StartRecord) source)

few_next : (n : ℕ) (more : State → List ℕ → List (List (List ℕ))) (o : Option Read) → ((s : State) (bytes : List ℕ) → length (more s bytes) ≤ n) → length (records_next more o) ≤ suc n
few_next n more None few = omega arith
few_next n more (Some p) few = omega (arith, few p.1 p.2)

few_from : (cfg : Config) (n : ℕ) (s : State) (bytes : List ℕ) → length (records_from cfg n s bytes) ≤ n
unfolding records_from
few_from cfg zero s bytes = omega arith
few_from cfg (suc n) s bytes = few_next n (records_from cfg n) (next_record cfg s [] [] bytes) (few_from cfg n)

short_choice : (b : Bool) (rest whole : List ℕ) → length rest ≤ length whole → length (if b then rest else whole) ≤ length whole
short_choice true rest whole h = h
short_choice false rest whole h = omega arith

short_strip : (bytes : List ℕ) → length (strip_bom bytes) ≤ length bytes
unfolding strip_bom
short_strip [] = omega arith
short_strip (a ∷ []) = omega arith
short_strip (a ∷ b ∷ []) = omega arith
short_strip (a ∷ b ∷ c ∷ rest) = short_choice (is_bom a b c) rest (a ∷ b ∷ c ∷ rest) (omega arith)

-- behind the header stand no more records than the text has bytes
pub few-behind : (cfg : Config) (bytes : List ℕ) (header : List (List ℕ)) (rest : List (List (List ℕ))) → records cfg (strip_bom bytes) ≡ header ∷ rest → length rest ≤ length bytes
few-behind cfg bytes header rest e =
    let some = few_from cfg (length (strip_bom bytes) + 1) st.StartRecord (strip_bom bytes) in
    let fewer = short_strip bytes in
    let count : length (records cfg (strip_bom bytes)) ≡ suc (length rest) = ap length e in
    omega arith
