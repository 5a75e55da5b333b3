-- Passes meet, and come together at the close.
use Rattle.std.proofs.Common.{◌≡◌, ℕ, ◌+◌, ◌≤◌, ◌⊎◌, List, [], ◌∷◌, ◌++◌, length, length-append, get_or, Option, None, refl, sym, ap, ◌∙◌, subst, arith, inl, inr}
use Rattle.std.specs.List.{All, Contains}
use Rattle.std.proofs.lemmas.List.Elements.{All-cons, All-nil, All-push, Contains-append_left, Contains-push, Contains-push_cases}
use Rattle.std.proofs.Math.Seq.{get_or-append_seam}
use Rattle.std.proofs.lemmas.List.{get_or_append_left}
use Rattle.mz_delta.specs.declared.reading.Reading.{Reading}
use Rattle.mz_board.specs.Chair.{BoardId, ChairState}
use Rattle.mz_store.specs.declared.told.Told.{Told}
use Rattle.mz_store.specs.Gathered.{AreGathered, Knows}
use Rattle.mz_store.specs.Pass.{IsPass, pass_of, PassState, Room}
use Rattle.mz_store.specs.RunSetting.{RunSetting}

-- some of the passes are left, and of each other one there is the chair; there is room for all
pub record Gathers (store : BoardId RunSetting) (passes left : List PassState) (chairs : List (ChairState Told RunSetting)) (room : ℕ) : Type 0 where
  pub here : All (λ (pass : PassState). pass.store ≡ store) left
  pub few : length chairs + length left ≤ store.seats
  pub fits : store.seats ≤ room
  pub idle : All (λ (chair : ChairState Told RunSetting). (chair.lock ≡ store) × (chair.taken ≡ None)) chairs
  pub each : (pass : PassState) → Contains passes pass → Contains left pass ⊎ ((chair : ChairState Told RunSetting) × Contains chairs chair × Knows pass chair)

-- ---- chairs of passes

nothing-left : {X : Type 0} (xs : List X) (x : X) → xs ≡ [] → Contains xs x → ⊥
nothing-left xs x none has = absurd (omega (arith, ap length none, has.1))

-- what a pass's own chair knows
own-knows : (chair : ChairState Told RunSetting) (seat number reached : ℕ) (reading : Option Reading) (room : Room) (pass : PassState) → IsPass chair seat number reached reading room → pass_of chair number reached reading ≡ pass → Knows pass chair
own-knows chair seat number reached reading room pass is seen = subst (λ (p : PassState). Knows p chair) seen (record { seat = refl; seen = refl; reached = sym is.reached_is })

all-last : {X : Type 0} (P : X → Type 0) (xs ys : List X) (x : X) → xs ≡ ys ++ x ∷ [] → All P xs → P x
all-last P xs ys x is all = subst P (ap (λ (zs : List _). get_or zs (length ys) x) is ∙ get_or-append_seam ys x [] x) (all (length ys) x (omega (arith, ap length is, length-append ys (x ∷ []))))

all-rest : {X : Type 0} (P : X → Type 0) (xs ys : List X) (x : X) → xs ≡ ys ++ x ∷ [] → All P xs → All P ys
all-rest P xs ys x is all = λ k d h. subst P (ap (λ (zs : List _). get_or zs k d) is ∙ get_or_append_left ys (x ∷ []) d k h) (all k d (omega (arith, h, ap length is, length-append ys (x ∷ []))))

module _ (store : BoardId RunSetting) (passes : List PassState) where
  -- the first chair, which brings the room
  pub gathers-first : (left : List PassState) (chair : ChairState Told RunSetting) (chairs : List (ChairState Told RunSetting)) (seat number reached room : ℕ) (reading : Option Reading) (own : Room) (pass : PassState)
      → All (λ (p : PassState). p.store ≡ store) passes → length passes ≤ store.seats → passes ≡ left ++ pass ∷ [] → IsPass chair seat number reached reading own → pass_of chair number reached reading ≡ pass
      → chairs ≡ chair ∷ [] → own.capacity ≤ room → Gathers store passes left chairs room
  gathers-first left chair chairs seat number reached room reading own pass here few split is seen first fits =
      let home : chair.lock ≡ store = ap (λ (p : PassState). p.store) seen ∙ all-last (λ (p : PassState). p.store ≡ store) passes left pass split here in
      let seats : store.seats ≤ own.capacity = subst (λ (b : BoardId RunSetting). b.seats ≤ own.capacity) home is.room_is in record {
        here = all-rest (λ (p : PassState). p.store ≡ store) passes left pass split here;
        few = omega (arith, few, ap length split, ap length first, length-append left (pass ∷ []));
        fits = omega (arith, seats, fits);
        idle = subst (All (λ (c : ChairState Told RunSetting). (c.lock ≡ store) × (c.taken ≡ None))) (sym first)
            (All-cons (λ (c : ChairState Told RunSetting). (c.lock ≡ store) × (c.taken ≡ None)) chair [] (home, is.idle) (All-nil (λ (c : ChairState Told RunSetting). (c.lock ≡ store) × (c.taken ≡ None))));
        each = λ p has. elim (Contains-push_cases left pass p (subst (λ (ps : List PassState). Contains ps p) split has)) [
          | inl there ↦ inl there
          | inr same ↦ inr (chair, subst (λ (cs : List (ChairState Told RunSetting)). Contains cs chair) (sym first) (Contains-push [] chair), subst (λ (q : PassState). Knows q chair) same (own-knows chair seat number reached reading own pass is seen))
        ];
      }

  -- one chair more
  pub gathers-more : (left left' : List PassState) (chair : ChairState Told RunSetting) (chairs chairs' : List (ChairState Told RunSetting)) (seat number reached room room' : ℕ) (reading : Option Reading) (own : Room) (pass : PassState)
      → Gathers store passes left chairs room → left ≡ left' ++ pass ∷ [] → IsPass chair seat number reached reading own → pass_of chair number reached reading ≡ pass
      → chairs' ≡ chairs ++ chair ∷ [] → room' ≡ room → Gathers store passes left' chairs' room'
  gathers-more left left' chair chairs chairs' seat number reached room room' reading own pass so_far split is seen pushed stays =
      let home : chair.lock ≡ store = ap (λ (p : PassState). p.store) seen ∙ all-last (λ (p : PassState). p.store ≡ store) left left' pass split so_far.here in record {
        here = all-rest (λ (p : PassState). p.store ≡ store) left left' pass split so_far.here;
        few = omega (arith, so_far.few, ap length split, ap length pushed, length-append left' (pass ∷ []), length-append chairs (chair ∷ []));
        fits = omega (arith, so_far.fits, stays);
        idle = subst (All (λ (c : ChairState Told RunSetting). (c.lock ≡ store) × (c.taken ≡ None))) (sym pushed)
            (All-push (λ (c : ChairState Told RunSetting). (c.lock ≡ store) × (c.taken ≡ None)) chairs chair so_far.idle (home, is.idle));
        each = λ p has. elim (so_far.each p has) [
          | inl waits ↦ elim (Contains-push_cases left' pass p (subst (λ (ps : List PassState). Contains ps p) split waits)) [
            | inl there ↦ inl there
            | inr same ↦ inr (chair, subst (λ (cs : List (ChairState Told RunSetting)). Contains cs chair) (sym pushed) (Contains-push chairs chair), subst (λ (q : PassState). Knows q chair) same (own-knows chair seat number reached reading own pass is seen))
          ]
          | inr found ↦ inr (found.0, subst (λ (cs : List (ChairState Told RunSetting)). Contains cs found.0) (sym pushed) (Contains-append_left chairs (chair ∷ []) found.0 found.1), found.2)
        ];
      }

  pub gathers-all : (left : List PassState) (chairs : List (ChairState Told RunSetting)) (room : ℕ) → Gathers store passes left chairs room → left ≡ [] → AreGathered store passes chairs
  gathers-all left chairs room so_far none = record {
    idle = so_far.idle;
    each = λ p has. elim (so_far.each p has) [
      | inl waits ↦ absurd (nothing-left left p none waits)
      | inr found ↦ found
    ];
  }

pub nil-of : {X : Type 0} (xs : List X) → length xs ≡ 0 → xs ≡ []
nil-of [] none = refl
nil-of (x ∷ xs) none = absurd (omega arith)
