-- What is done to a shelf, and what it holds afterwards.
use Rattle.std.specs.Prelude.{ℕ, List, [], ◌∷◌, ◌++◌, take}
use Rattle.std.specs.Option.{option_map}
use Rattle.std.specs.FinMap.{insert}
use Rattle.mz_shelf.specs.State.{Contents}

pub data Act : Type 0 where
  Say : List ℕ → Act
  Write : List ℕ → List ℕ → Act

-- a say is named `-`, a write by its file
abbrev pub name_of : Act → List ℕ
name_of (Say bytes) = 45 ∷ []
name_of (Write name bytes) = name

-- a say is appended, a written file replaces the one of its name
abbrev pub after : Act → Contents → Contents
after (Say bytes) c = record c { said = option_map (λ said. said ++ bytes) c.said }
after (Write name bytes) c = record c { files = option_map (λ files. insert files name bytes) c.files }

-- the acts in order
abbrev pub after_all : List Act → Contents → Contents
after_all [] c = c
after_all (act ∷ acts) c = after_all acts (after act c)

-- the act with the first n of its bytes
abbrev pub first : ℕ → Act → Act
first n (Say bytes) = Say (take n bytes)
first n (Write name bytes) = Write name (take n bytes)
