-- All chairs come together in one view, and the value comes out.
use Rattle.std.proofs.Common.{◌≡◌, ℕ, ◌<◌, List, [], ◌∷◌, ◌++◌, length, map, sym, refl, ap, ◌∙◌, subst, inl, arith, Option, Some, None}
use Rattle.std.specs.List.{All}
use Rattle.std.proofs.lemmas.List.{map-append}
use Rattle.std.proofs.lemmas.List.Elements.{All-nil, All-head, All-cons, All-tail, All-push, All-contains, All-weaker}
use mathlib.Core.Logic.{dite}
use mathlib.Core.Option.{some, some-injective}
use native.Mathlib.Decide.{ℕ_discrete}
use lib.ListN.{get_elem?}
use Rattle.atomic_table.specs.Seated.{TableId}
use Rattle.atomic_table.specs.Table.{Me, Final, Seen}
use Rattle.mz_turn.specs.declared.view.View.{View}
use Rattle.mz_turn.specs.Seen.{Begins, GrewByOthers, GrewByChairs}
use Rattle.mz_turn.specs.Views.{joined_view}
use Rattle.mz_turn.specs.Invariant.{Keeps, IsChairView}
use Rattle.mz_turn.specs.Places.{IsChair, chair_of}
use Rattle.mz_turn.specs.Chair.{LockId, ChairState, Learns, AreAllOf}
use Rattle.mz_turn.specs.Gathering.{Gathers}
use Rattle.mz_turn.specs.Steps.{Teaches}
use Rattle.mz_turn.proofs.FitLemmas.{St, Rule, keeps_left, keeps_right, keeps_below}
use Rattle.mz_turn.proofs.ChairLemmas.{learns}

module _ {X : Type 0} (P : X → Type 0) where
  all_left : (xs ys : List X) → All P (xs ++ ys) → All P xs
  all_left [] ys all = All-nil P
  all_left (x ∷ xs) ys all = All-cons P x xs (All-head P x (xs ++ ys) all) (all_left xs ys (All-tail P x (xs ++ ys) all))

  all_right : (xs ys : List X) → All P (xs ++ ys) → All P ys
  all_right [] ys all = all
  all_right (x ∷ xs) ys all = all_right xs ys (All-tail P x (xs ++ ys) all)

  pub popped : (all rest : List X) (c : X) → all ≡ rest ++ c ∷ [] → All P all → All P rest × P c
  popped all rest c more h = let t = subst (All P) more h in (all_left rest (c ∷ []) t, All-head P c [] (all_right rest (c ∷ []) t))

-- the last holder is taken off
pub last_held : {X Y : Type 0} (f : X → Y) (all rest : List X) (x : X) → all ≡ rest ++ x ∷ [] → map f all ≡ map f rest ++ f x ∷ []
last_held f all rest x e = ap (map f) e ∙ map-append f rest (x ∷ [])

pub none_left : {X : Type 0} (n : ℕ) (xs : List X) → n ≡ length xs → n ≡ 0 → xs ≡ []
none_left n [] e z = refl
none_left n (x ∷ xs) e z = absurd (omega arith)

-- what a joined view is taught both are taught
module _ {E S : Type 0} (owner : E → ℕ) (v w : View E S) (list : List E) (t : Teaches owner (joined_view v w) list) where
  abbrev Told : List E → Type 0
  Told brought = Begins brought list

  abbrev Kept : ℕ × List E → Type 0
  Kept k = GrewByOthers owner k.0 k.1 list

  behind : All Told (v.seen ∷ (v.told ++ w.told))
  behind = All-tail Told w.seen (v.seen ∷ (v.told ++ w.told)) t.told

  both : All Told (v.told ++ w.told)
  both = All-tail Told v.seen (v.told ++ w.told) behind

  pub teaches_left : Teaches owner v list
  teaches_left = record { seen = All-head Told v.seen (v.told ++ w.told) behind; kept = all_left Kept v.kept w.kept t.kept; told = all_left Told v.told w.told both }

  pub teaches_right : Teaches owner w list
  teaches_right = record { seen = All-head Told w.seen (v.seen ∷ (v.told ++ w.told)) t.told; kept = all_right Kept v.kept w.kept t.kept; told = all_right Told v.told w.told both }

-- a view in which the chairs came together but those of `rest`: what it keeps and is taught, once they come too, goes for all chairs
pub record GathersBut {T E S : Type 0} (owner : E → ℕ) (chairs rest : List (ChairState E S)) (me : Me (Option T) (View E S)) : Type 0 where
  pub idle : me.0.taken ≡ None
  pub hand : me.1 ≡ []
  pub keeps : (kept : List (ℕ × List E)) → ((n : ℕ) → Keeps n me.0.kept → Keeps n kept) → All (λ (chair : ChairState E S). Keeps chair.number kept) rest → All (λ (chair : ChairState E S). Keeps chair.number kept) chairs
  pub teaches : (list : List E) → Teaches owner me.0 list → All (λ chair. Learns owner chair list) rest → All (λ chair. Learns owner chair list) chairs

module _ {T E S : Type 0} (entries : T → List E) (owner : E → ℕ) (setting_of : T → S) where
  abbrev M : Type 0
  M = Me (Option T) (View E S)

  -- one more chair has come
  gathers_one : (table : TableId) (chairs rest : List (ChairState E S)) (me : M) (w : View E S) → IsChairView w → GathersBut owner chairs (rest ++ chair_of table w ∷ []) me → GathersBut owner chairs rest (joined_view me.0 w, me.1)
  gathers_one table chairs rest me w ok gb = let c : ChairState E S = chair_of table w in record {
    idle = gb.idle;
    hand = gb.hand;
    keeps = λ kept go all. gb.keeps kept (λ n h. go n (keeps_left n me.0.kept w.kept h))
        (All-push (λ (chair : ChairState E S). Keeps chair.number kept) rest c all (go w.number (keeps_right w.number me.0.kept w.kept (subst (Keeps w.number) (sym ok.kept) (inl refl)))));
    teaches = λ list t all. gb.teaches list (teaches_left owner me.0 w list t) (All-push (λ chair. Learns owner chair list) rest c all (learns entries owner setting_of table w list ok (teaches_right owner me.0 w list t)));
  }

  pub gathers_more : (table : TableId) (chairs all rest : List (ChairState E S)) (c : ChairState E S) (number size : ℕ) (me me' m : M) → IsChair number size m → chair_of table m.0 ≡ c → all ≡ rest ++ c ∷ [] → GathersBut owner chairs all me → me' ≡ (joined_view me.0 m.0, me.1)
      → GathersBut owner chairs rest me'
  gathers_more table chairs all rest c number size me me' m ok is more gb after = subst (GathersBut owner chairs rest) (sym after)
      (gathers_one table chairs rest me m.0 ok.view (subst (λ l. GathersBut owner chairs l me) (more ∙ ap (λ x. rest ++ x ∷ []) (sym is)) gb))

  pub gathered : (lock : LockId E S) (chairs rest : List (ChairState E S)) (me : M) → AreAllOf lock chairs → rest ≡ [] → GathersBut owner chairs rest me → Gathers owner lock.seats chairs me.0
  gathered lock chairs rest me all none gb = record {
    idle = gb.idle;
    keeps = λ n lt. let h = all.every n lt in let P : ChairState E S → Type 0 = λ chair. Keeps chair.number me.0.kept in
        subst (λ k. Keeps k me.0.kept) h.2 (All-contains P chairs h.0 (gb.keeps me.0.kept (λ n h. h) (subst (All P) (sym none) (All-nil P))) h.1);
    teaches = λ list t. gb.teaches list t (subst (All (λ chair. Learns owner chair list)) (sym none) (All-nil (λ chair. Learns owner chair list)));
  }

  module _ (start : List E) (setting : S) (seats : ℕ) where
    abbrev R : St entries owner setting_of start setting seats → Type 0
    R = Rule entries owner setting_of start setting seats

    -- the value is at home where no number's view holds the turn
    free_word : (s : St entries owner setting_of start setting seats) (r : R s) (id : ℕ) (v : View E S) → get_elem? s.views id ≡ some v → v.taken ≡ None → ((n : ℕ) → n < seats → Keeps n v.kept) → r.word ≡ 0
    free_word s r id v me idle all = dite (ℕ_discrete r.word 0) (λ e. e) (λ ne. let h = (r.held ne).1 in let u : View E S = h.1.0 in let hold = (r.fits h.0 u h.1.1).holds h.1.2.0 h.1.2.1 in
        let below = keeps_below entries owner setting_of start setting seats r.word r.list u u.number (r.fits h.0 u h.1.1) hold.keeps in
        let same : h.0 ≡ id = r.once u.number h.0 id u v h.1.1 me hold.keeps (all u.number below) in let one : u ≡ v = some-injective u v (sym h.1.1 ∙ (ap (λ i. get_elem? s.views i) same ∙ me)) in
        let t : Some h.1.2.0 ≡ None = sym h.1.2.1 ∙ (ap (λ (x : View E S). x.taken) one ∙ idle) in absurd (cc))

    pub record Comes (v : View E S) (xs : List (Option T)) : Type 0 where
      pub value : T
      pub home : get_elem? xs 0 ≡ some (Some value)
      pub setting_is : setting_of value ≡ setting
      pub teaches : Teaches owner v (entries value)
      pub added : GrewByChairs owner seats start (entries value)

    pub closes : (id : ℕ) (v : View E S) (ws : List ℕ) (xs : List (Option T)) → v.taken ≡ None → ((n : ℕ) → n < seats → Keeps n v.kept) → Final (Seen R id v) ws xs → Comes v xs
    closes id v ws xs idle all fin = let s = fin.0 in let r = fin.1.0 in let me = fin.1.1 in let f = r.fits id v me in let home = r.free (free_word s r id v me idle all) in
        let teaches : Teaches owner v r.list = record { seen = f.seen; kept = All-weaker (λ (k : ℕ × List E). (k.0 < seats) × GrewByOthers owner k.0 k.1 r.list) (λ (k : ℕ × List E). GrewByOthers owner k.0 k.1 r.list) (λ k p. p.1) v.kept f.kept; told = f.told } in record {
          value = home.value;
          home = fin.4 0 (Some home.value) (ap (λ hs. get_elem? hs 0) home.home);
          setting_is = home.setting_is;
          teaches = subst (Teaches owner v) (sym home.list_is) teaches;
          added = subst (GrewByChairs owner seats start) (sym home.list_is) r.added;
        }

    module _ (v : View E S) (xs : List (Option T)) (comes : Comes v xs) (o : Option T) (at : get_elem? xs 0 ≡ some o) where
      pub out : o ≡ Some comes.value
      out = some-injective o (Some comes.value) (sym at ∙ comes.home)

      module _ (x : T) (is : o ≡ Some x) where
        value_is : comes.value ≡ x
        value_is = let h : Some comes.value ≡ Some x = sym out ∙ is in cc

        pub out_setting : Some setting ≡ Some (setting_of x)
        out_setting = ap Some (sym comes.setting_is ∙ ap setting_of value_is)

        pub out_teaches : Teaches owner v (entries x)
        out_teaches = subst (λ y. Teaches owner v (entries y)) value_is comes.teaches

        pub out_added : GrewByChairs owner seats start (entries x)
        out_added = subst (λ y. GrewByChairs owner seats start (entries y)) value_is comes.added
