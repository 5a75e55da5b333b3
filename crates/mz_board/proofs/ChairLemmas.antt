-- What a chair is sure of after each step of its turn.
use Rattle.std.proofs.Common.{◌≡◌, ℕ, ◌<◌, ◌≤◌, List, [], ◌∷◌, ◌++◌, length, sym, refl, ap, ◌∙◌, subst, arith, length-append, cond, Bool, true, false, Option, Some, None, MatchOption}
use Rattle.std.specs.List.{All}
use Rattle.std.proofs.lemmas.List.Elements.{All-nil, All-head}
use Rattle.atomic_table.specs.Seated.{TableId}
use Rattle.atomic_table.specs.Table.{Me, rest}
use Rattle.mz_board.specs.declared.story.Story.{Ghosts}
use Rattle.mz_board.specs.declared.view.View.{View}
use Rattle.mz_board.specs.Seen.{GrewByOthers}
use Rattle.mz_board.specs.Items.{written, without, last_writes}
use Rattle.mz_board.specs.Views.{own_of, taken_view, appended_view, stored_view, published_view, released_view}
use Rattle.mz_board.specs.Invariant.{IsChairView}
use Rattle.mz_board.specs.Places.{IsChair, HasNone, HasTaken, chair_of}
use Rattle.mz_board.specs.Chair.{Learns, Takes, MayAppend, EndsTurn, with_turn, with_entry, without_turn}
use Rattle.mz_board.specs.Turn.{Grows, MayPublish}
use Rattle.mz_board.specs.Steps.{Teaches, Won}
use Rattle.mz_board.proofs.SeenLemmas.{grew_later}
use Rattle.mz_board.proofs.ItemLemmas.{without_all, last_of}

module _ {T E S : Type 0} where
  pub empty_hand : (number : ℕ) (front : Option ℕ) (m : Me (Option T) (View E S)) → IsChair number front m
      → m.0.taken ≡ None → HasNone front m
  empty_hand number front m ok idle = subst (λ t. MatchOption t (HasNone front m) (λ taken. HasTaken front m taken))
      idle ok.turn

  pub full_hand : (number : ℕ) (front : Option ℕ) (m : Me (Option T) (View E S)) (taken : List E)
      → IsChair number front m → m.0.taken ≡ Some taken → HasTaken front m taken
  full_hand number front m taken ok holds = subst
      (λ t. MatchOption t (HasNone front m) (λ taken. HasTaken front m taken)) holds ok.turn

  -- a chair that owes an item holds the turn
  owing : (front : Option ℕ) (m : Me (Option T) (View E S)) (item value : ℕ) (o : Option (List E))
      → MatchOption o (HasNone front m) (λ taken. HasTaken front m taken) → written item m.0.post.owes ≡ Some value
      → (taken : List E) × (o ≡ Some taken)
  owing front m item value None none owes = let z : None ≡ Some value = ap (written item) (sym none.owes) ∙ owes in
      absurd (cc)
  owing front m item value (Some taken) has owes = (taken, refl)

  pub who_owes : (number : ℕ) (front : Option ℕ) (m : Me (Option T) (View E S)) (item value : ℕ)
      → IsChair number front m → written item m.0.post.owes ≡ Some value → (taken : List E) × (m.0.taken ≡ Some taken)
  who_owes number front m item value ok owes = owing front m item value m.0.taken ok.turn owes

  stored_turn : (front : Option ℕ) (m : Me (Option T) (View E S)) (item : ℕ) (o : Option (List E))
      → MatchOption o (HasNone front m) (λ taken. HasTaken front m taken)
      → MatchOption o (HasNone front (stored_view m.0 item, m.1)) (λ taken. HasTaken front (
        stored_view m.0 item,
        m.1,
      ) taken)
  stored_turn front m item None h = record {
    front_is = h.front_is;
    slot = h.slot;
    appended = h.appended;
    owes = ap (without item) h.owes;
  }
  stored_turn front m item (Some taken) h = record {
    front_is = h.front_is;
    slot = h.slot;
    own = h.own;
    seen = h.seen;
  }

  pub stored_ok : (number : ℕ) (front : Option ℕ) (m m' : Me (Option T) (View E S)) (item : ℕ)
      → IsChair number front m → m' ≡ (stored_view m.0 item, m.1) → IsChair number front m'
  stored_ok number front m m' item ok is = subst (IsChair number front) (sym is) (record {
    number_is = ok.number_is;
    view = let v = ok.view in record {
      kept = v.kept;
      own = v.own;
      told = v.told;
      reached = v.reached;
      owes = without_all (λ (w : ℕ × ℕ). w.0 < length m.0.opening) item m.0.post.owes v.owes;
    };
    turn = stored_turn front m item m.0.taken ok.turn;
  })

module _ {T E S : Type 0} (story : Ghosts T E S) where
  abbrev M : Type 0
  M = Me (Option T) (View E S)

  own_grew : (v : View E S) (list : List E) → IsChairView v → Teaches story.owner v list
      → GrewByOthers story.owner v.number (own_of v.kept) list
  own_grew v list ok t = let P : ℕ × List E → Type 0 = λ k. GrewByOthers story.owner k.0 k.1 list in
      All-head P (v.number, own_of v.kept) [] (subst (All P) ok.kept t.kept)

  pub learns : (table : TableId) (v : View E S) (list : List E) → IsChairView v → Teaches story.owner v list
      → Learns story.owner (chair_of table v) list
  learns table v list ok t = let g = own_grew v list ok t in
      record {
        seen = grew_later story.owner v.number (own_of v.kept) v.seen list g t.seen ok.own;
        own = g;
        told = t.told;
      }

  -- a try that wins: m goes to m₁ by the try, and to m₂ by the exchange of the slot
  module _ (number : ℕ) (front : Option ℕ) (m m₁ m₂ : M) (ok : IsChair number front m) (idle : m.0.taken ≡ None)
      (won : Won story m m₁) (out : Option T) (x : T)
      (e₁ : m₁.1 ≡ (0, out) ∷ rest m₁.1) (e₂ : m₂ ≡ (m₁.0, (0, None) ∷ rest m₁.1)) (e₄ : out ≡ Some x) where
    value_is : won.value ≡ x
    value_is = let h : (0, Some won.value) ∷ m.1 ≡ (0, out) ∷ rest m₁.1 = sym won.out ∙ e₁ in
        let a : ℕ × Option T = (0, Some won.value) in let b : ℕ × Option T = (0, out) in let q : a ≡ b = cc in
        let p : Some won.value ≡ Some x = ap (λ (z : ℕ × Option T). z.1) q ∙ e₄ in cc

    view_is : m₂.0 ≡ taken_view m.0 (story.entries x)
    view_is = ap (λ (y : M). y.0) e₂ ∙ (won.view ∙ ap (λ y. taken_view m.0 (story.entries y)) value_is)

    pub takes : (table : TableId) → Takes story (chair_of table m.0) x
        × (chair_of table m₂.0 ≡ with_turn (chair_of table m.0) (story.entries x))
    takes table = (
      subst (λ y. Takes story (chair_of table m.0) y) value_is (record {
        setting_is = won.setting_is;
        learns = learns table m.0 (story.entries won.value) ok.view won.teaches;
        reads = won.reads;
        owners = won.owners;
        few = won.few;
      }),
      ap (chair_of table) view_is ∙ (let none = empty_hand number front m ok idle in
          λ i. record (chair_of table (taken_view m.0 (story.entries x))) {
            post = record m.0.post {
              reached = length (story.entries x);
              appended = none.appended i;
              owes = none.owes i;
            };
          }),
    )

    hand_is : m₂.1 ≡ (0, None) ∷ []
    hand_is = let none = empty_hand number front m ok idle in
        ap (λ (y : M). y.1) e₂ ∙ ap (λ (l : List (ℕ × Option T)). (0, None) ∷ rest l) (won.out
        ∙ ap (λ (l : List (ℕ × Option T)). (0, Some won.value) ∷ l) none.slot)

    taken_seat : m₂ ≡ (taken_view m.0 (story.entries x), (0, None) ∷ [])
    taken_seat = λ i. (view_is i, hand_is i)

    pub takes_ok : IsChair number front m₂
    takes_ok = let none = empty_hand number front m ok idle in let list : List E = story.entries x in
        subst (IsChair number front) (sym taken_seat) (record {
          number_is = ok.number_is;
          view = let v = ok.view in record {
            kept = refl;
            own = omega arith;
            told = All-nil (λ brought. length brought ≤ length list);
            reached = omega arith;
            owes = v.owes;
          };
          turn = record {
            front_is = none.front_is ∙ sym (ap (λ b. cond b (Some (length list)) None) none.appended);
            slot = refl;
            own = refl;
            seen = refl;
          };
        })

  -- an entry is appended
  module _ (table : TableId) (number : ℕ) (front : Option ℕ) (m : M) (ok : IsChair number front m) (value : T)
      (may : MayAppend story (chair_of table m.0) value) where
    pub grows : Grows story m.0 (story.setting value) (story.entries value)
    grows = record {
      taken = may.taken;
      holds = may.holds;
      first = may.first;
      kept = ok.view.kept;
      entry = may.entry;
      grows = may.grows;
      own = may.own;
      few = may.few;
      fitting = may.fitting;
    }

    pub seen_grows : story.entries value ≡ m.0.seen ++ may.entry ∷ []
    seen_grows = let has = full_hand number front m may.taken ok may.holds in
        may.grows ∙ ap (λ l. l ++ may.entry ∷ []) (sym has.seen)

    pub grown_owes : (entry : E) → story.entries value ≡ m.0.seen ++ entry ∷ []
        → last_writes story.writes (story.entries value) ≡ story.writes entry
    grown_owes entry is = ap (last_writes story.writes) is ∙ last_of story.writes m.0.seen entry

    module _ (m' : M) (is : m' ≡ (
      appended_view m.0 (story.entries value)
          (last_writes story.writes (story.entries value)),
      m.1,
    )) where
      pub grown_chair : (entry : E) → story.entries value ≡ m.0.seen ++ entry ∷ []
          → chair_of table m'.0 ≡ with_entry (chair_of table m.0) (story.entries value) (story.writes entry)
      grown_chair entry grew = ap (λ (x : M). chair_of table x.0) is
          ∙ ap (with_entry (chair_of table m.0) (story.entries value)) (grown_owes entry grew)

      pub grown_ok : (n : ℕ) → n ≡ length (story.entries value) → IsChair number (Some n) m'
      grown_ok n long = let list : List E = story.entries value in
          let has = full_hand number front m may.taken ok may.holds in
          let le : length m.0.seen ≤ length list = omega (
            arith,
            ap length seen_grows,
            length-append m.0.seen (may.entry ∷ []),
          ) in
          subst (IsChair number (Some n)) (sym is) (record {
            number_is = ok.number_is;
            view = record {
              kept = refl;
              own = omega arith;
              told = λ k d l. let t = ok.view.told k d l in omega arith;
              reached = omega arith;
              owes = subst (λ ws. All (λ (w : ℕ
                  × ℕ). w.0 < length m.0.opening) ws) (sym (grown_owes may.entry seen_grows))
                  (λ k d l. (may.fitting k d l).0);
            };
            turn = record { front_is = ap Some long; slot = has.slot; own = refl; seen = refl };
          })

  publishes_case : (list : List E) (front : Option ℕ) (b : Bool) (p : Bool) → b ≡ p
      → front ≡ cond b (Some (length list)) None → MatchOption front (b ≡ false) (λ n. (b ≡ true) × (n ≡ length list))
  publishes_case list None true p e is = absurd (cc)
  publishes_case list None false p e is = refl
  publishes_case list (Some n) true p e is = (refl, (let h : Some n ≡ Some (length list) = is in cc))
  publishes_case list (Some n) false p e is = absurd (cc)

  -- the turn ends: m goes to m₁ by the publishing, and the value is put into the slot, and to m₂ by the release
  module _ (table : TableId) (number : ℕ) (front : Option ℕ) (m : M) (ok : IsChair number front m) (value : T)
      (ends : EndsTurn (chair_of table m.0) (story.entries value)) where
    pub may_publish : MayPublish front m
    may_publish = let has = full_hand number front m ends.taken ok ends.holds in record {
      taken = ends.taken;
      holds = ends.holds;
      paid = ends.paid;
      front_is = publishes_case m.0.seen front m.0.post.appended m.0.post.appended refl (has.front_is
          ∙ ap (λ l. cond m.0.post.appended (Some (length l)) None) (sym has.seen));
    }

    module _ (m₁ m₂ : M) (e₁ : m₁ ≡ (published_view m.0, m.1)) (e₂ : m₂ ≡ (m₁.0, (0, Some value) ∷ rest m₁.1)) where
      pub home : m₂ ≡ (published_view m.0, (0, Some value) ∷ [])
      home = let has = full_hand number front m ends.taken ok ends.holds in
          e₂ ∙ (ap (λ (x : M). (x.0, (0, Some value) ∷ rest x.1)) e₁
          ∙ ap (λ (l : List (ℕ × Option T)). (published_view m.0, (0, Some value) ∷ rest l)) has.slot)

      module _ (m₃ : M) (e₃ : m₃ ≡ (released_view m₂.0, rest m₂.1)) where
        ended : m₃ ≡ (released_view (published_view m.0), [])
        ended = e₃ ∙ ap (λ (x : M). (released_view x.0, rest x.1)) home

        pub ended_chair : chair_of table m₃.0 ≡ without_turn (chair_of table m.0)
        ended_chair = ap (λ (x : M). chair_of table x.0) ended
            ∙ λ i. record (chair_of table (released_view (published_view m.0)))
            { post = record m.0.post { appended = false; owes = ends.paid i } }

        pub ended_ok : IsChair number None m₃
        ended_ok = subst (IsChair number None) (sym ended) (record {
          number_is = ok.number_is;
          view = let v = ok.view in record {
            kept = v.kept;
            own = v.own;
            told = v.told;
            reached = v.reached;
            owes = v.owes;
          };
          turn = record { front_is = refl; slot = refl; appended = refl; owes = ends.paid };
        })
