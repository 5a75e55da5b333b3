-- All chairs come together in one view, and the value comes out.
use Rattle.std.proofs.Common.{◌≡◌, ℕ, ◌<◌, ◌≤◌, List, [], ◌∷◌, ◌++◌, length, sym, refl, ap, ◌∙◌, subst, inl, arith, Option, Some, None}
use Rattle.std.specs.List.{All}
use Rattle.std.proofs.Math.Nat.{le-max_left, le-max_right}
use Rattle.std.proofs.lemmas.List.Elements.{All-nil, All-head, All-cons, All-tail, All-push, All-contains}
use mathlib.Core.Logic.{dite}
use mathlib.Core.Option.{some, some-injective}
use native.Mathlib.Decide.{ℕ_discrete}
use lib.ListN.{get_elem?}
use Rattle.atomic_table.specs.Seated.{TableId}
use Rattle.atomic_table.specs.Table.{Me, Final, Seen}
use Rattle.mz_board.specs.declared.story.Story.{Ghosts}
use Rattle.mz_board.specs.declared.view.View.{View}
use Rattle.mz_board.specs.Seen.{Begins, GrewByOthers}
use Rattle.mz_board.specs.Views.{joined_view}
use Rattle.mz_board.specs.Invariant.{Keeps, Fixed, IsChairView}
use Rattle.mz_board.specs.Places.{IsChair, chair_of}
use Rattle.mz_board.specs.Chair.{BoardId, ChairState, Learns, AreAllOf}
use Rattle.mz_board.specs.Gathering.{Gathers}
use Rattle.mz_board.specs.Steps.{Teaches}
use Rattle.mz_board.proofs.FitLemmas.{St, Rule, taught, keeps_left, keeps_right, keeps_below}
use Rattle.mz_board.proofs.ChairLemmas.{learns}

module _ {X : Type 0} (P : X → Type 0) where
  all_left : (xs ys : List X) → All P (xs ++ ys) → All P xs
  all_left [] ys all = All-nil P
  all_left (x ∷ xs) ys all = All-cons P x xs (All-head P x (xs ++ ys) all)
      (all_left xs ys (All-tail P x (xs ++ ys) all))

  all_right : (xs ys : List X) → All P (xs ++ ys) → All P ys
  all_right [] ys all = all
  all_right (x ∷ xs) ys all = all_right xs ys (All-tail P x (xs ++ ys) all)

  pub popped : (all rest : List X) (c : X) → all ≡ rest ++ c ∷ [] → All P all → All P rest × P c
  popped all rest c more h = let t = subst (All P) more h in
      (all_left rest (c ∷ []) t, All-head P c [] (all_right rest (c ∷ []) t))

pub none_left : {X : Type 0} (n : ℕ) (xs : List X) → n ≡ length xs → n ≡ 0 → xs ≡ []
none_left n [] e z = refl
none_left n (x ∷ xs) e z = absurd (omega arith)

-- what a joined view is taught both are taught
module _ {E S : Type 0} (owner : E
    → ℕ) (v w : View E S) (list : List E) (t : Teaches owner (joined_view v w) list) where
  abbrev Told : List E → Type 0
  Told brought = Begins brought list

  abbrev Kept : ℕ × List E → Type 0
  Kept k = GrewByOthers owner k.0 k.1 list

  behind : All Told (v.seen ∷ (v.told ++ w.told))
  behind = All-tail Told w.seen (v.seen ∷ (v.told ++ w.told)) t.told

  both : All Told (v.told ++ w.told)
  both = All-tail Told v.seen (v.told ++ w.told) behind

  pub teaches_left : Teaches owner v list
  teaches_left = record {
    seen = All-head Told v.seen (v.told ++ w.told) behind;
    kept = all_left Kept v.kept w.kept t.kept;
    told = all_left Told v.told w.told both;
  }

  pub teaches_right : Teaches owner w list
  teaches_right = record {
    seen = All-head Told w.seen (v.seen ∷ (v.told ++ w.told)) t.told;
    kept = all_right Kept v.kept w.kept t.kept;
    told = all_right Told v.told w.told both;
  }

-- a view in which the chairs came together but those of `rest`: what it keeps and is taught, once they come too, goes for all chairs
pub record GathersBut {T E S : Type 0} (owner : E
    → ℕ) (chairs rest : List (ChairState E S)) (me : Me (Option T) (View E S)) : Type 0 where
  pub idle : me.0.taken ≡ None
  pub hand : me.1 ≡ []
  pub keeps : (kept : List (ℕ × List E)) → ((n : ℕ) → Keeps n me.0.kept → Keeps n kept)
      → All (λ (chair : ChairState E S). Keeps chair.number kept) rest
      → All (λ (chair : ChairState E S). Keeps chair.number kept) chairs
  pub teaches : (list : List E) → Teaches owner me.0 list → All (λ chair. Learns owner chair list) rest
      → All (λ chair. Learns owner chair list) chairs
  pub reached : (n : ℕ) → me.0.post.reached ≤ n → All (λ (chair : ChairState E S). chair.post.reached ≤ n) rest
      → All (λ (chair : ChairState E S). chair.post.reached ≤ n) chairs

module _ {T E S : Type 0} (story : Ghosts T E S) where
  abbrev M : Type 0
  M = Me (Option T) (View E S)

  -- one more chair has come
  gathers_one : (table : TableId) (chairs rest : List (ChairState E S)) (me : M) (w : View E S) → IsChairView w
      → GathersBut story.owner chairs (rest ++ chair_of table w ∷ []) me
      → GathersBut story.owner chairs rest (joined_view me.0 w, me.1)
  gathers_one table chairs rest me w ok gb = let c : ChairState E S = chair_of table w in record {
    idle = gb.idle;
    hand = gb.hand;
    keeps = λ kept go all. gb.keeps kept (λ n h. go n (keeps_left n me.0.kept w.kept h))
        (All-push (λ (chair : ChairState E S). Keeps chair.number kept) rest c all
        (go w.number (keeps_right w.number me.0.kept w.kept (subst (Keeps w.number) (sym ok.kept) (inl refl)))));
    teaches = λ list t all. gb.teaches list (teaches_left story.owner me.0 w list t)
        (All-push (λ chair. Learns story.owner chair list) rest c all
        (learns story table w list ok (teaches_right story.owner me.0 w list t)));
    reached = λ n le all. let l = le-max_left me.0.post.reached w.post.reached in
        let r = le-max_right me.0.post.reached w.post.reached in
        gb.reached n (omega arith) (All-push (λ (chair : ChairState E S). chair.post.reached ≤ n) rest c all
        (omega arith));
  }

  pub gathers_more : (table : TableId) (chairs all rest : List (ChairState E S)) (c : ChairState E S) (number : ℕ)
      (front : Option ℕ) (me me' m : M) → IsChair number front m → chair_of table m.0 ≡ c → all ≡ rest ++ c ∷ []
      → GathersBut story.owner chairs all me → me' ≡ (joined_view me.0 m.0, me.1)
      → GathersBut story.owner chairs rest me'
  gathers_more table chairs all rest c number front me me' m ok is more gb after = subst
      (GathersBut story.owner chairs rest) (sym after)
      (gathers_one table chairs rest me m.0 ok.view (subst (λ l. GathersBut story.owner chairs l me) (more
      ∙ ap (λ x. rest ++ x ∷ []) (sym is)) gb))

  pub gathered : (lock : BoardId S) (chairs rest : List (ChairState E S)) (me : M) → AreAllOf lock chairs → rest ≡ []
      → GathersBut story.owner chairs rest me → Gathers story.owner lock.seats chairs me.0
  gathered lock chairs rest me all none gb = record {
    idle = gb.idle;
    keeps = λ n lt. let h = all.every n lt in let P : ChairState E S
        → Type 0 = λ chair. Keeps chair.number me.0.kept in
        subst (λ k. Keeps k me.0.kept) h.2 (All-contains P chairs h.0
        (gb.keeps me.0.kept (λ n h. h) (subst (All P) (sym none) (All-nil P))) h.1);
    teaches = λ list t. gb.teaches list t (subst (All (λ chair. Learns story.owner chair list)) (sym none)
        (All-nil (λ chair. Learns story.owner chair list)));
    reached = λ n le. gb.reached n le (subst (All (λ (chair : ChairState E S). chair.post.reached ≤ n)) (sym none)
        (All-nil (λ (chair : ChairState E S). chair.post.reached ≤ n)));
  }

  module _ (fixed : Fixed S) where
    -- the value is at home where no number's view holds the turn
    free_word : (s : St story fixed) (r : Rule story fixed s) (id : ℕ) (v : View E S) → get_elem? s.views id ≡ some v
        → v.taken ≡ None → ((n : ℕ) → n < fixed.seats → Keeps n v.kept) → r.now.word ≡ 0
    free_word s r id v me idle all = dite (ℕ_discrete r.now.word 0) (λ e. e) (λ ne. let h = (r.held ne).1 in
        let u : View E S = h.1.0 in let hold = (r.fits h.0 u h.1.1).holds h.1.2.0 h.1.2.1 in
        let below = keeps_below story fixed r.now u u.number (r.fits h.0 u h.1.1) hold.keeps in
        let same : h.0 ≡ id = r.once u.number h.0 id u v h.1.1 me hold.keeps (all u.number below) in
        let one : u ≡ v = some-injective u v (sym h.1.1 ∙ (ap (λ i. get_elem? s.views i) same ∙ me)) in
        let t : Some h.1.2.0 ≡ None = sym h.1.2.1 ∙ (ap (λ (x : View E S). x.taken) one ∙ idle) in absurd (cc))

    pub record Comes (v : View E S) (xs : List (Option T)) : Type 0 where
      pub value : T
      pub home : get_elem? xs 0 ≡ some (Some value)
      pub setting_is : story.setting value ≡ fixed.setting
      pub teaches : Teaches story.owner v (story.entries value)
      pub reached : v.post.reached ≤ length (story.entries value)
      pub owners : All (λ entry. story.owner entry < fixed.seats) (story.entries value)

    pub closes : (id : ℕ) (v : View E S) (ws : List ℕ) (xs : List (Option T)) → v.taken ≡ None
        → ((n : ℕ) → n < fixed.seats → Keeps n v.kept) → Final (Seen (Rule story fixed) id v) ws xs → Comes v xs
    closes id v ws xs idle all fin = let s = fin.0 in let r = fin.1.0 in let me = fin.1.1 in
        let f = r.fits id v me in let home = r.free (free_word s r id v me idle all) in
        let reached = (f.idle idle).reached in let level = home.level in record {
          value = home.value;
          home = fin.4 0 (Some home.value) (ap (λ hs. get_elem? hs 0) home.home);
          setting_is = home.setting_is;
          teaches = subst (Teaches story.owner v) (sym home.list_is) (taught story fixed r.now v f);
          reached = omega (arith, ap length home.list_is);
          owners = subst (All (λ entry. story.owner entry < fixed.seats)) (sym home.list_is) r.owners;
        }

    module _ (v : View E S) (xs : List (Option T)) (comes : Comes v xs) (o : Option T) (at : get_elem? xs 0 ≡ some o)
      where
        pub out : o ≡ Some comes.value
        out = some-injective o (Some comes.value) (sym at ∙ comes.home)

        module _ (x : T) (is : o ≡ Some x) where
          value_is : comes.value ≡ x
          value_is = let h : Some comes.value ≡ Some x = sym out ∙ is in cc

          pub out_setting : Some fixed.setting ≡ Some (story.setting x)
          out_setting = ap Some (sym comes.setting_is ∙ ap story.setting value_is)

          pub out_teaches : Teaches story.owner v (story.entries x)
          out_teaches = subst (λ y. Teaches story.owner v (story.entries y)) value_is comes.teaches

          pub out_reached : v.post.reached ≤ length (story.entries x)
          out_reached = subst (λ y. v.post.reached ≤ length (story.entries y)) value_is comes.reached

          pub out_owners : All (λ entry. story.owner entry < fixed.seats) (story.entries x)
          out_owners = subst (λ y. All (λ entry. story.owner entry < fixed.seats) (story.entries y)) value_is
              comes.owners
