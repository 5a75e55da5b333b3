-- A map of texts answers and changes as the files that it stands for.
use Rattle.std.proofs.Common.{◌≡◌, ℕ, Bool, true, false, cond, List, [], ◌∷◌, map, Option, Some, String, Vec, BTreeMap, string_bytes, refl, sym, ap, ◌∙◌}
use Rattle.std.specs.Ordering.{nat_cmp, eq_by_cmp}
use Rattle.std.specs.Option.{option_map}
use Rattle.std.specs.Cmp.Lexicographic.{slice_cmp, nat_list_cmp_total, nat_list_eq_equiv}
use Rattle.std.specs.String.{string_cmp}
use Rattle.std.specs.Str.{bytes_eq}
use Rattle.std.specs.Map.{lookup}
use Rattle.std.specs.BTreeMap.{is_at, get_by_text, Updates}
use Rattle.std.specs.FinMap.{find, get, insert, get-insert, get-from_entries, same_map, slice_cmp-IsAntisymmetric, nat_cmp-IsAntisymmetric}
use Rattle.std.proofs.lemmas.Map.Text.{btree_map_updates_text, is_eq-slice_cmp}
use Rattle.mz_shelf.specs.State.{Files}
use Rattle.mz_shelf.specs.Entries.{files_of}

module _ {B : Type 0} where
  option_map-cond : (b : Bool) (v : Vec ℕ B) (rest : Option (Vec ℕ B))
      → option_map (λ (w : Vec ℕ B). w.items) (cond b (Some v) rest) ≡ cond b (Some v.items) (option_map (λ (w : Vec ℕ B). w.items) rest)
  option_map-cond true v rest = refl
  option_map-cond false v rest = refl

module _ {A B : Type 0} where
  find-entries : (entries : List (String A × Vec ℕ B)) (name : List ℕ)
      → find (slice_cmp nat_cmp) name (map (λ entry. (string_bytes entry.0, entry.1.items)) entries)
      ≡ option_map (λ (v : Vec ℕ B). v.items) (lookup (is_at (λ k. slice_cmp nat_cmp name (string_bytes k))) entries)
  find-entries [] name = refl
  find-entries (entry ∷ entries) name =
      ap (cond (eq_by_cmp (slice_cmp nat_cmp) name (string_bytes entry.0)) (Some entry.1.items)) (find-entries entries name)
      ∙ sym (option_map-cond (eq_by_cmp (slice_cmp nat_cmp) name (string_bytes entry.0)) entry.1 _)

  get-files_of : (m : BTreeMap (String A) (Vec ℕ B)) (name : List ℕ)
      → get (files_of m.entries) name ≡ option_map (λ (v : Vec ℕ B). v.items) (get_by_text m name)
  get-files_of m name = get-from_entries nat_list_cmp_total _ name ∙ find-entries m.entries name

  -- what a look-up by text finds
  pub get-files_of_same : (m : BTreeMap (String A) (Vec ℕ B)) (files : Files) (name : List ℕ) (found : Option (Vec ℕ B))
      → files_of m.entries ≡ files → found ≡ get_by_text m name → option_map (λ (v : Vec ℕ B). v.items) found ≡ get files name
  get-files_of_same m files name found same is =
      ap (option_map (λ (v : Vec ℕ B). v.items)) is ∙ sym (get-files_of m name) ∙ ap (λ (f : Files). get f name) same

  files_of-insert : (m n : BTreeMap (String A) (Vec ℕ B)) (name : String A) (bytes : Vec ℕ B)
      → Updates string_cmp m n name (Some bytes)
      → files_of n.entries ≡ insert (files_of m.entries) (string_bytes name) bytes.items
  files_of-insert m n name bytes updates =
      same_map nat_list_cmp_total (slice_cmp-IsAntisymmetric nat_cmp-IsAntisymmetric) _ _ (λ other.
      get-files_of n other
      ∙ ap (option_map (λ (v : Vec ℕ B). v.items)) (btree_map_updates_text (string_bytes name) m n (Some bytes) updates other)
      ∙ option_map-cond (bytes_eq (string_bytes name) other) bytes (get_by_text m other)
      ∙ ap (λ b. cond b (Some bytes.items) (option_map (λ (v : Vec ℕ B). v.items) (get_by_text m other)))
      (nat_list_eq_equiv.symm (string_bytes name) other ∙ sym (is_eq-slice_cmp other (string_bytes name)))
      ∙ ap (cond (eq_by_cmp (slice_cmp nat_cmp) other (string_bytes name)) (Some bytes.items)) (sym (get-files_of m other))
      ∙ sym (get-insert nat_list_cmp_total (files_of m.entries) (string_bytes name) bytes.items other))

  -- what an insertion leaves
  pub files_of-insert_same : (m n : BTreeMap (String A) (Vec ℕ B)) (files : Files) (key : String A) (value : Vec ℕ B) (name bytes : List ℕ)
      → files_of m.entries ≡ files → string_bytes key ≡ name → value.items ≡ bytes → Updates string_cmp m n key (Some value)
      → files_of n.entries ≡ insert files name bytes
  files_of-insert_same m n files key value name bytes same named written updates =
      files_of-insert m n key value updates
      ∙ ap (λ (f : Files). insert f (string_bytes key) value.items) same
      ∙ ap (λ (k : List ℕ). insert files k value.items) named
      ∙ ap (insert files name) written
