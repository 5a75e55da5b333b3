-- Readings one after another.
use Rattle.std.proofs.Common.{◌≡◌, ℕ, ◌≤◌, ◌<◌, false, List, [], ◌∷◌, ◌++◌, length, Option, Some, None, Result, Ok, Err, append_assoc, append-nil, refl, sym, ap, subst, ◌∙◌}
use Rattle.std.specs.Prelude.{nat_lt}
use Rattle.std.specs.Option.{IfSome, IsSomeAnd}
use Rattle.std.specs.FinMap.{get}
use Rattle.std.proofs.lemmas.Bool.{le-ltb, lt-ltb}
use Rattle.std.proofs.lemmas.Option.{IfSome_then}
use Rattle.mz_num.specs.Limits.{most_file_bytes}
use Rattle.mz_shelf.specs.State.{State, Contents, Files, Names, reads_after}
use Rattle.mz_shelf.specs.Shelf.{ReadsFile, ReadStopped, ReadFailed, FoundNoFile, FoundLongFile}
use Rattle.mz_shelf.specs.declared.shelf.ShelfErr.{ShelfErr}
use Rattle.mz_shelf.specs.declared.shelf.ShelfErr.TheVariants.{Failed}
use Rattle.mz_shelf.proofs.CountLemmas.{OneMiss-from, OneOver-from}
use Rattle.mz_params.specs.Folder.{file_in}
use Rattle.mz_params.specs.declared.params.Params.{Params}
use Rattle.mz_tables.specs.declared.fault.RowFault.{RowFault}
use Rattle.mz_tables.specs.declared.wants.Want.{Want}
use Rattle.mz_tables.specs.Table.{Row as TableRow}
use Rattle.mz_project.specs.declared.fault.Which.{Which}
use Rattle.mz_project.specs.declared.fault.InputFault.{InputFault}
use Rattle.mz_project.specs.declared.fault.InputFault.TheVariants.{TooLong, Param, Table, Row, Sum, Weight}
use Rattle.mz_project.specs.declared.fault.ReadFault.{ReadFault}
use Rattle.mz_project.specs.declared.fault.ReadFault.TheVariants.{Shelf, Absent, Input, NoMemory}
use Rattle.mz_project.specs.InputFiles.{columns_of, file_named}
use Rattle.mz_project.specs.ReadAs.{IfTold, OnlyRead, ReadEach, ReadFirst, ReadBefore, RoseForFault, IsGiven, IsRefused, IsMissing, IsUnread, IsStopped, ReadAs, TakenAs}
use Rattle.mz_project.specs.Reads.{Reads, Outcome, bytes_of, file_read, made_or, of_rows, outcome_of, read_behind, rows_or_default, rows_read, table_by_name, table_given, table_read, taken, then_read}
use Rattle.mz_project.specs.Reads.Outcome.{Missing, Refused, Given}

-- names that were read, one list after another
reads_after-nil : (reads : Names) → reads_after [] reads ≡ reads
reads_after-nil None = refl
reads_after-nil (Some earlier) = ap Some (append-nil earlier)

reads_after-append : (names more : List (List ℕ)) (reads : Names) → reads_after (names ++ more) reads ≡ reads_after more (reads_after names reads)
reads_after-append names more None = refl
reads_after-append names more (Some earlier) = ap Some (sym (append_assoc earlier names more))

read_none : (st : State) → ReadEach [] st st
read_none st = sym (reads_after-nil st.reads)

pub read_on : (names more : List (List ℕ)) (old mid new : State) → ReadEach names old mid → ReadEach more mid new → ReadEach (names ++ more) old new
read_on names more old mid new early late = late ∙ ap (reads_after more) early ∙ sym (reads_after-append names more old.reads)

-- nothing was read
pub only_read : (st : State) → OnlyRead st st
only_read st = record { contents = refl; counts = refl }

read_along : {old mid new : State} → OnlyRead old mid → OnlyRead mid new → OnlyRead old new
read_along early late = record { contents = late.contents ∙ early.contents; counts = late.counts ∙ early.counts }

pub told_along : (old mid : State) (P : Files → Type 0) → mid.contents ≡ old.contents → IfTold mid P → IfTold old P
told_along old mid P same h = subst (λ (c : Contents). IfSome c.files P) same h

pub if_both : {X : Type 0} (o : Option X) (P Q R : X → Type 0) → ((x : X) → P x → Q x → R x) → IfSome o P → IfSome o Q → IfSome o R
if_both None P Q R both p q = tt
if_both (Some x) P Q R both p q = both x p q

always : (o : Option Files) (P : Files → Type 0) → ((files : Files) → P files) → IfSome o P
always None P all = tt
always (Some files) P all = all files

rose_along : (fault : InputFault) (old mid new : State) → mid.counts ≡ old.counts → RoseForFault fault mid new → RoseForFault fault old new
rose_along (TooLong which) old mid new same rose = OneOver-from same rose
rose_along (Param fault) old mid new same rose = (rose.0 ∙ same, rose.1)
rose_along (Table which fault) old mid new same rose = (rose.0 ∙ same, rose.1)
rose_along (Row which fault) old mid new same rose = (rose.0 ∙ same, rose.1)
rose_along (Sum what) old mid new same rose = rose ∙ same
rose_along (Weight id) old mid new same rose = rose ∙ same

-- what comes of a first reading that ended, and of one that went on
ends_missing : {X Y : Type 0} (reads : Reads X) (next : X → Reads Y) (name : List ℕ) → reads.outcome ≡ Missing name → (then_read reads next).outcome ≡ Missing name
ends_missing reads next name is = ap (λ (o : Outcome _). (read_behind reads.names o next).outcome) is

ends_refused : {X Y : Type 0} (reads : Reads X) (next : X → Reads Y) (fault : InputFault) → reads.outcome ≡ Refused fault → (then_read reads next).outcome ≡ Refused fault
ends_refused reads next fault is = ap (λ (o : Outcome _). (read_behind reads.names o next).outcome) is

goes_on_as : {X Y : Type 0} (reads : Reads X) (next : X → Reads Y) (x : X) (o : Outcome Y) → reads.outcome ≡ Given x → (next x).outcome ≡ o → (then_read reads next).outcome ≡ o
goes_on_as reads next x o is later = ap (λ (p : Outcome _). (read_behind reads.names p next).outcome) is ∙ later

-- the names of a first reading that ended are those of both
names_missing : {X Y : Type 0} (reads : Reads X) (next : X → Reads Y) (name : List ℕ) → reads.outcome ≡ Missing name → (then_read reads next).names ≡ reads.names
names_missing reads next name is = ap (λ (o : Outcome _). (read_behind reads.names o next).names) is

names_refused : {X Y : Type 0} (reads : Reads X) (next : X → Reads Y) (fault : InputFault) → reads.outcome ≡ Refused fault → (then_read reads next).names ≡ reads.names
names_refused reads next fault is = ap (λ (o : Outcome _). (read_behind reads.names o next).names) is

names_given : {X Y : Type 0} (reads : Reads X) (next : X → Reads Y) (x : X) → reads.outcome ≡ Given x → (then_read reads next).names ≡ reads.names ++ (next x).names
names_given reads next x is = ap (λ (o : Outcome _). (read_behind reads.names o next).names) is

each_of : (names all : List (List ℕ)) (old new : State) → all ≡ names → ReadEach names old new → ReadEach all old new
each_of names all old new same each = subst (λ (ns : List (List ℕ)). ReadEach ns old new) (sym same) each

-- the first names of a reading are first of more
first_of_more : (names more : List (List ℕ)) (old new : State) → ReadFirst names old new → ReadFirst (names ++ more) old new
first_of_more names more old new h = record {
  front = h.front;
  behind = h.behind ++ more;
  split = ap (λ (ns : List (List ℕ)). ns ++ more) h.split ∙ append_assoc h.front h.behind more;
  read = h.read;
}

before_of_more : (names more : List (List ℕ)) (name : List ℕ) (old new : State) → ReadBefore names name old new → ReadBefore (names ++ more) name old new
before_of_more names more name old new h = record {
  front = h.front;
  behind = h.behind ++ more;
  split = ap (λ (ns : List (List ℕ)). ns ++ more) h.split ∙ append_assoc h.front (name ∷ h.behind) more;
  read = h.read;
}

ends_first : {X Y : Type 0} (names : List (List ℕ)) (o : Outcome X) (next : X → Reads Y) (old new : State) → ReadFirst names old new → ReadFirst (read_behind names o next).names old new
ends_first names (Missing n) next old new h = h
ends_first names (Refused fault) next old new h = h
ends_first names (Given x) next old new h = first_of_more names (next x).names old new h

ends_before : {X Y : Type 0} (names : List (List ℕ)) (o : Outcome X) (next : X → Reads Y) (name : List ℕ) (old new : State) → ReadBefore names name old new → ReadBefore (read_behind names o next).names name old new
ends_before names (Missing n) next name old new h = h
ends_before names (Refused fault) next name old new h = h
ends_before names (Given x) next name old new h = before_of_more names (next x).names name old new h

-- the first names of a later reading stand behind those of the first
first_later : (names more all : List (List ℕ)) (old mid new : State) → all ≡ names ++ more → ReadEach names old mid → ReadFirst more mid new → ReadFirst all old new
first_later names more all old mid new whole each h = record {
  front = names ++ h.front;
  behind = h.behind;
  split = whole ∙ ap (λ (ns : List (List ℕ)). names ++ ns) h.split ∙ sym (append_assoc names h.front h.behind);
  read = read_on names h.front old mid new each h.read;
}

before_later : (names more all : List (List ℕ)) (name : List ℕ) (old mid new : State) → all ≡ names ++ more → ReadEach names old mid → ReadBefore more name mid new → ReadBefore all name old new
before_later names more all name old mid new whole each h = record {
  front = names ++ h.front;
  behind = h.behind;
  split = whole ∙ ap (λ (ns : List (List ℕ)). names ++ ns) h.split ∙ sym (append_assoc names h.front (name ∷ h.behind));
  read = read_on names h.front old mid new each h.read;
}

-- memory ended it before a file was read
pub nothing_read : {X : Type 0} (reads : Files → Reads X) (st : State) → IsStopped reads st st NoMemory
nothing_read reads st = record {
  read = only_read st;
  names = always st.contents.files (λ files. ReadFirst (reads files).names st st) (λ files. record { front = []; behind = (reads files).names; split = refl; read = read_none st });
}

-- a first reading stopped
pub stops : {X Y : Type 0} (first : Files → Reads X) (next : X → Files → Reads Y) (old new : State) (fault : ReadFault) → IsStopped first old new fault → IsStopped (λ files. then_read (first files) (λ x. next x files)) old new fault
stops first next old new (Shelf name) h = record {
  between = h.between;
  read = h.read;
  names = IfSome_then old.contents.files h.names (λ files before. ends_before (first files).names (first files).outcome (λ x. next x files) name old h.between before);
  failed = h.failed;
}
stops first next old new (Absent name) h = record {
  contents = h.contents;
  names = if_both old.contents.files (λ files. (first files).outcome ≡ Missing name) (λ files. ReadEach (first files).names old new) (λ files. ReadEach (then_read (first files) (λ x. next x files)).names old new)
      (λ files is each. each_of (first files).names _ old new (names_missing (first files) (λ x. next x files) name is) each) h.missing h.names;
  rose = h.rose;
  missing = IfSome_then old.contents.files h.missing (λ files is. ends_missing (first files) (λ x. next x files) name is);
}
stops first next old new (Input fault) h = record {
  contents = h.contents;
  names = if_both old.contents.files (λ files. (first files).outcome ≡ Refused fault) (λ files. ReadEach (first files).names old new) (λ files. ReadEach (then_read (first files) (λ x. next x files)).names old new)
      (λ files is each. each_of (first files).names _ old new (names_refused (first files) (λ x. next x files) fault is) each) h.refused h.names;
  rose = h.rose;
  refused = IfSome_then old.contents.files h.refused (λ files is. ends_refused (first files) (λ x. next x files) fault is);
}
stops first next old new NoMemory h = record {
  read = h.read;
  names = IfSome_then old.contents.files h.names (λ files front. ends_first (first files).names (first files).outcome (λ x. next x files) old new front);
}

-- a first reading gave something, and what follows it answers
later_is : {X Y : Type 0} (first : Files → Reads X) (next : X → Files → Reads Y) (x : X) (o : Outcome Y) (old mid : State) → IsGiven first old mid x → IfTold mid (λ files. (next x files).outcome ≡ o) → IfTold old (λ files. (then_read (first files) (λ y. next y files)).outcome ≡ o)
later_is first next x o old mid given later =
    if_both old.contents.files (λ files. (first files).outcome ≡ Given x) (λ files. (next x files).outcome ≡ o) (λ files. (then_read (first files) (λ y. next y files)).outcome ≡ o)
    (λ files is more. goes_on_as (first files) (λ y. next y files) x o is more) given.given (told_along old mid (λ files. (next x files).outcome ≡ o) given.read.contents later)

-- the names of both, from those of the later reading
later_names : {X Y : Type 0} (first : Files → Reads X) (next : X → Files → Reads Y) (x : X) (old mid : State) (P Q : List (List ℕ) → Type 0)
    → ((names more all : List (List ℕ)) → all ≡ names ++ more → ReadEach names old mid → P more → Q all)
    → IsGiven first old mid x → IfTold mid (λ files. P (next x files).names) → IfTold old (λ files. Q (then_read (first files) (λ y. next y files)).names)
later_names first next x old mid P Q joins given later =
    if_both old.contents.files (λ files. (first files).outcome ≡ Given x) (λ files. ReadEach (first files).names old mid × P (next x files).names) (λ files. Q (then_read (first files) (λ y. next y files)).names)
    (λ files is both. joins (first files).names (next x files).names _ (names_given (first files) (λ y. next y files) x is) both.0 both.1) given.given
    (if_both old.contents.files (λ files. ReadEach (first files).names old mid) (λ files. P (next x files).names) (λ files. ReadEach (first files).names old mid × P (next x files).names)
    (λ files each more. (each, more)) given.names (told_along old mid (λ files. P (next x files).names) given.read.contents later))

later_each : {X Y : Type 0} (first : Files → Reads X) (next : X → Files → Reads Y) (x : X) (old mid new : State) → IsGiven first old mid x → IfTold mid (λ files. ReadEach (next x files).names mid new) → IfTold old (λ files. ReadEach (then_read (first files) (λ y. next y files)).names old new)
later_each first next x old mid new given later =
    later_names first next x old mid (λ more. ReadEach more mid new) (λ all. ReadEach all old new)
    (λ names more all whole each rest. each_of (names ++ more) all old new whole (read_on names more old mid new each rest)) given later

pub goes_on : {X Y : Type 0} (first : Files → Reads X) (next : X → Files → Reads Y) (x : X) (old mid new : State) (answer : Result Y ReadFault) → IsGiven first old mid x → ReadAs (next x) mid new answer
    → ReadAs (λ files. then_read (first files) (λ y. next y files)) old new answer
goes_on first next x old mid new (Ok y) given h = record {
  read = read_along given.read h.read;
  names = later_each first next x old mid new given h.names;
  given = later_is first next x (Given y) old mid given h.given;
}
goes_on first next x old mid new (Err (Shelf name)) given h = record {
  between = h.between;
  read = read_along given.read h.read;
  names = later_names first next x old mid (λ more. ReadBefore more name mid h.between) (λ all. ReadBefore all name old h.between)
      (λ names more all whole each before. before_later names more all name old mid h.between whole each before) given h.names;
  failed = h.failed;
}
goes_on first next x old mid new (Err (Absent name)) given h = record {
  contents = h.contents ∙ given.read.contents;
  names = later_each first next x old mid new given h.names;
  rose = OneMiss-from given.read.counts h.rose;
  missing = later_is first next x (Missing name) old mid given h.missing;
}
goes_on first next x old mid new (Err (Input fault)) given h = record {
  contents = h.contents ∙ given.read.contents;
  names = later_each first next x old mid new given h.names;
  rose = rose_along fault old mid new given.read.counts h.rose;
  refused = later_is first next x (Refused fault) old mid given h.refused;
}
goes_on first next x old mid new (Err NoMemory) given h = record {
  read = read_along given.read h.read;
  names = later_names first next x old mid (λ more. ReadFirst more mid new) (λ all. ReadFirst all old new)
      (λ names more all whole each front. first_later names more all old mid new whole each front) given h.names;
}

-- memory ended the reading behind a first part
pub ends_here : {X Y : Type 0} (first : Files → Reads X) (next : X → Files → Reads Y) (x : X) (old mid : State) → IsGiven first old mid x → IsStopped (λ files. then_read (first files) (λ y. next y files)) old mid NoMemory
ends_here first next x old mid given = goes_on first next x old mid mid (Err NoMemory) given (nothing_read (next x) mid)

-- without a file
none_read : {X : Type 0} (made : Result X InputFault) (st : State) → IfTold st (λ files. ReadEach (taken made).names st st)
none_read made st = always st.contents.files (λ files. ReadEach [] st st) (λ files. read_none st)

outcome_is : {X : Type 0} (made answer : Result X InputFault) → made ≡ answer → outcome_of made ≡ outcome_of answer
outcome_is made answer is = ap outcome_of is

pub is_taken : {X : Type 0} (made : Result X InputFault) (st : State) (answer : Result X ReadFault) → TakenAs made answer → ReadAs (λ files. taken made) st st answer
is_taken made st (Ok x) is = record { read = only_read st; names = none_read made st; given = always st.contents.files (λ files. outcome_of made ≡ Given x) (λ files. outcome_is made (Ok x) is) }
is_taken made st (Err (Shelf name)) is = absurd is
is_taken made st (Err (Absent name)) is = absurd is
is_taken made st (Err (Input (TooLong which))) is = absurd is
is_taken made st (Err (Input (Param fault))) is = record { contents = refl; names = none_read made st; rose = (refl, is.1); refused = always st.contents.files (λ files. outcome_of made ≡ Refused (Param fault)) (λ files. outcome_is made (Err (Param fault)) is.0) }
is_taken made st (Err (Input (Table which fault))) is = record { contents = refl; names = none_read made st; rose = (refl, is.1); refused = always st.contents.files (λ files. outcome_of made ≡ Refused (Table which fault)) (λ files. outcome_is made (Err (Table which fault)) is.0) }
is_taken made st (Err (Input (Row which fault))) is = record { contents = refl; names = none_read made st; rose = (refl, is.1); refused = always st.contents.files (λ files. outcome_of made ≡ Refused (Row which fault)) (λ files. outcome_is made (Err (Row which fault)) is.0) }
is_taken made st (Err (Input (Sum what))) is = record { contents = refl; names = none_read made st; rose = refl; refused = always st.contents.files (λ files. outcome_of made ≡ Refused (Sum what)) (λ files. outcome_is made (Err (Sum what)) is) }
is_taken made st (Err (Input (Weight id))) is = record { contents = refl; names = none_read made st; rose = refl; refused = always st.contents.files (λ files. outcome_of made ≡ Refused (Weight id)) (λ files. outcome_is made (Err (Weight id)) is) }
is_taken made st (Err NoMemory) is = nothing_read (λ files. taken made) st

-- what the bytes, or the rows, of a first reading are taken as
pub read_and_taken : {X Y : Type 0} (first : Files → Reads X) (make : X → Result Y InputFault) (x : X) (old new : State) (answer : Result Y ReadFault) → IsGiven first old new x → TakenAs (make x) answer
    → ReadAs (λ files. then_read (first files) (λ y. taken (make y))) old new answer
read_and_taken first make x old new answer given is = goes_on first (λ y files. taken (make y)) x old new new answer given (is_taken (make x) new answer is)

-- what stands without a file
pub by_default : {X : Type 0} (x default : X) (st : State) → x ≡ default → IsGiven (λ files. taken (Ok default)) st st x
by_default x default st is = record { read = only_read st; names = none_read (Ok default) st; given = always st.contents.files (λ files. Given default ≡ Given x) (λ files. ap Given (sym is)) }

-- one file
fits : (n : ℕ) → n ≤ most_file_bytes → nat_lt most_file_bytes n ≡ false
fits n short = le-ltb most_file_bytes n short

given_bytes : (name bytes : List ℕ) (which : Which) (found : Option (List ℕ)) → length bytes ≤ most_file_bytes → found ≡ Some bytes → bytes_of name which found ≡ Given bytes
given_bytes name bytes which found short is = rw (is, fits (length bytes) short) refl

one_read : (name : List ℕ) (which : Which) (old new : State) → ReadEach (name ∷ []) old new → IfTold old (λ files. ReadEach (file_read files name which).names old new)
one_read name which old new each = always old.contents.files (λ files. ReadEach (name ∷ []) old new) (λ files. each)

pub file_given : (name bytes : List ℕ) (which : Which) {old new : State} → ReadsFile name old new bytes → IsGiven (λ files. file_read files name which) old new bytes
file_given name bytes which {old} {new} file = record {
  read = record { contents = file.contents; counts = file.counts };
  names = one_read name which old new file.reads;
  given = IfSome_then old.contents.files file.told (λ files is. given_bytes name bytes which (get files name) file.short is);
}

file_failed : (name : List ℕ) (which : Which) {old new : State} → ReadFailed name old new → IsUnread (λ files. file_read files name which) old new name
file_failed name which {old} {new} failed = record {
  between = old;
  read = only_read old;
  names = always old.contents.files (λ files. ReadBefore (name ∷ []) name old old) (λ files. record { front = []; behind = []; split = refl; read = read_none old });
  failed = failed;
}

pub failed_as : (name file : List ℕ) (which : Which) (error : ShelfErr) {old new : State} → file ≡ name → error ≡ Failed → ReadStopped name old new error → IsUnread (λ files. file_read files name which) old new file
failed_as name file which error {old} {new} same is stopped =
    subst (IsUnread (λ files. file_read files name which) old new) (sym same) (file_failed name which (subst (ReadStopped name old new) is stopped))

pub file_missing : (name : List ℕ) (which : Which) {old new : State} → FoundNoFile name old new → IsMissing (λ files. file_read files name which) old new name
file_missing name which {old} {new} none = record {
  contents = none.contents;
  names = one_read name which old new none.reads;
  rose = none.counts;
  missing = IfSome_then old.contents.files none.told (λ files is. ap (bytes_of name which) is);
}

long_bytes : (name : List ℕ) (which : Which) (found : Option (List ℕ)) → IsSomeAnd found (λ bytes. most_file_bytes < length bytes) → bytes_of name which found ≡ Refused (TooLong which)
long_bytes name which None long = absurd long
long_bytes name which (Some bytes) long = rw (lt-ltb most_file_bytes (length bytes) long) refl

pub file_long : (name : List ℕ) (which : Which) {old new : State} → FoundLongFile name old new → IsRefused (λ files. file_read files name which) old new (TooLong which)
file_long name which {old} {new} long = record {
  contents = long.contents;
  names = one_read name which old new long.reads;
  rose = long.counts;
  refused = IfSome_then old.contents.files long.told (λ files is. long_bytes name which (get files name) is);
}

-- what a reader makes of the rows of a table that was read
pub rows_taken : {X : Type 0} (folder name : List ℕ) (which : Which) (wants : List Want) (reader : List TableRow → Result X RowFault) (table : List TableRow) (old new : State) (answer : Result X ReadFault)
    → IsGiven (λ files. table_read files (file_in folder name) which wants) old new table → TakenAs (of_rows which (reader table)) answer → ReadAs (λ files. rows_read files folder name which wants reader) old new answer
rows_taken folder name which wants reader table old new answer given is = read_and_taken (λ files. table_read files (file_in folder name) which wants) (λ rows. of_rows which (reader rows)) table old new answer given is

-- the table of a file that the parameters don't give, and of one that they give, under names of its own
pub no_table : (params : Params) (which : Which) (st : State) → None ≡ file_named params which → IsGiven (table_given params which) st st None
no_table params which st is = subst (λ (o : Option (List ℕ)). IsGiven (λ files. table_by_name files params.input_dir o which) st st None) is (by_default None None st refl)

abbrev pub IsSameRead : Params → Which → List ℕ → List ℕ → List Want → List ℕ → Type 0
IsSameRead params which dir file wants name = (Some name ≡ file_named params which) × (dir ≡ params.input_dir) × (file ≡ name) × (wants ≡ columns_of which)

pub some_table : (params : Params) (which : Which) (dir file name : List ℕ) (wants : List Want) (table : List TableRow) (old new : State) → IsSameRead params which dir file wants name
    → IsGiven (λ files. table_read files (file_in dir file) which wants) old new table → IsGiven (table_given params which) old new (Some table)
some_table params which dir file name wants table old new same given =
    let there : IsGiven (λ files. table_read files (file_in params.input_dir name) which (columns_of which)) old new table = rw (← same.1, ← same.2, ← same.3) given in
    subst (λ (o : Option (List ℕ)). IsGiven (λ files. table_by_name files params.input_dir o which) old new (Some table)) same.0
    (read_and_taken (λ files. table_read files (file_in params.input_dir name) which (columns_of which)) (λ rows. Ok (Some rows)) table old new (Ok (Some table)) there refl)

pub stopped_table : (params : Params) (which : Which) (dir file name : List ℕ) (wants : List Want) (old new : State) (fault : ReadFault) → IsSameRead params which dir file wants name
    → IsStopped (λ files. table_read files (file_in dir file) which wants) old new fault → IsStopped (table_given params which) old new fault
stopped_table params which dir file name wants old new fault same stopped =
    let there : IsStopped (λ files. table_read files (file_in params.input_dir name) which (columns_of which)) old new fault = rw (← same.1, ← same.2, ← same.3) stopped in
    subst (λ (o : Option (List ℕ)). IsStopped (λ files. table_by_name files params.input_dir o which) old new fault) same.0
    (stops (λ files. table_read files (file_in params.input_dir name) which (columns_of which)) (λ rows files. taken (Ok (Some rows))) old new fault there)

-- what a reader makes of such a table
pub made_stop : {X : Type 0} (params : Params) (which : Which) (default : X) (reader : List TableRow → Result X RowFault) (old new : State) (fault : ReadFault)
    → IsStopped (table_given params which) old new fault → IsStopped (rows_or_default params which default reader) old new fault
made_stop params which default reader old new fault stopped = stops (table_given params which) (λ table files. taken (made_or which default reader table)) old new fault stopped

pub made_read : {X : Type 0} (params : Params) (which : Which) (default : X) (reader : List TableRow → Result X RowFault) (table : Option (List TableRow)) (old new : State) (answer : Result X ReadFault)
    → IsGiven (table_given params which) old new table → TakenAs (made_or which default reader table) answer → ReadAs (rows_or_default params which default reader) old new answer
made_read params which default reader table old new answer given made = read_and_taken (table_given params which) (made_or which default reader) table old new answer given made
