-- The list of all views, where one changes, one comes, a number is dealt, or two are joined. `K` is that a view keeps a number.
use Rattle.std.proofs.Common.{◌≡◌, ◌≢◌, ◌⊎◌, ℕ, zero, suc, ◌<◌, List, [], ◌∷◌, ◌++◌, length, set, sym, refl, ◌∙◌, subst, inl, inr, ⊎_elim, arith}
use mathlib.Core.Logic.{dite}
use mathlib.Core.Option.{some, some-injective, some-ne-none}
use native.Mathlib.Decide.{ℕ_discrete}
use lib.ListN.{get_elem?}
use Rattle.atomic_table.proofs.Lists.{at_set, set_here, set_else, at_longer, at_last}

module _ {V : Type 0} where
  pub in_list : (vs : List V) (i : ℕ) (v : V) → get_elem? vs i ≡ some v → i < length vs
  in_list [] i v e = absurd (some-ne-none v (sym e))
  in_list (x ∷ xs) zero v e = omega arith
  in_list (x ∷ xs) (suc i) v e = let r = in_list xs i v e in omega arith

  pub set_in : (vs : List V) (i : ℕ) (v w : V) → get_elem? vs i ≡ some v → get_elem? (set vs i w) i ≡ some w
  set_in vs i v w e = set_here vs i w (in_list vs i v e)

  at_end : (vs : List V) (a b : V) (j : ℕ) → get_elem? (vs ++ a ∷ []) j ≡ some b
      → (get_elem? vs j ≡ some b) ⊎ ((j ≡ length vs) × (a ≡ b))
  at_end [] a b zero e = inr (refl, some-injective a b e)
  at_end [] a b (suc j) e = absurd (some-ne-none b (sym e))
  at_end (x ∷ xs) a b zero e = inl e
  at_end (x ∷ xs) a b (suc j) e = ⊎_elim (λ (t : get_elem? xs j ≡ some b). inl t) (λ (t : (j ≡ length xs)
      × (a ≡ b)). inr (omega (arith, t.0), t.1)) (at_end xs a b j e)

  pub each_set : (F : V → Type 0) (vs : List V) (id : ℕ) (w : V) → F w
      → ((j : ℕ) (u : V) → get_elem? vs j ≡ some u → j ≢ id → F u)
      → (j : ℕ) (u : V) → get_elem? (set vs id w) j ≡ some u → F u
  each_set F vs id w here others j u e = ⊎_elim (λ (t : (j ≡ id) × (w ≡ u)). subst F t.1 here) (λ (t : (j ≢ id)
      × (get_elem? vs j ≡ some u)). others j u t.1 t.0) (at_set vs id j w u e)

  pub each_push : (F : V → Type 0) (vs : List V) (w : V) → F w → ((j : ℕ) (u : V) → get_elem? vs j ≡ some u → F u)
      → (j : ℕ) (u : V) → get_elem? (vs ++ w ∷ []) j ≡ some u → F u
  each_push F vs w here others j u e = ⊎_elim (λ (t : get_elem? vs j ≡ some u). others j u t) (λ (t : (j ≡ length vs)
      × (w ≡ u)). subst F t.1 here) (at_end vs w u j e)

  module _ (K : V → Type 0) where
    abbrev pub Once : List V → Type 0
    Once vs = (i j : ℕ) (v w : V) → get_elem? vs i ≡ some v → get_elem? vs j ≡ some w → K v → K w → i ≡ j

    abbrev pub Has : List V → Type 0
    Has vs = (i : ℕ) × ((v : V) × (get_elem? vs i ≡ some v) × K v)

    origin : (vs : List V) (id : ℕ) (v w : V) → get_elem? vs id ≡ some v → (K w → K v) → (i : ℕ) (u : V)
        → get_elem? (set vs id w) i ≡ some u → K u → (o : V) × (get_elem? vs i ≡ some o) × K o
    origin vs id v w me back i u e k = ⊎_elim (λ (t : (i ≡ id) × (w ≡ u)).
        let m : get_elem? vs i ≡ some v = subst (λ (x : ℕ). get_elem? vs x ≡ some v) (sym t.0) me in
        let h : (o : V) × (get_elem? vs i ≡ some o) × K o = (v, m, back (subst K (sym t.1) k)) in h)
        (λ (t : (i ≢ id) × (get_elem? vs i ≡ some u)). let h : (o : V) × (get_elem? vs i ≡ some o)
        × K o = (u, t.1, k) in h) (at_set vs id i w u e)

    pub once_set : (vs : List V) (id : ℕ) (v w : V) → get_elem? vs id ≡ some v → (K w → K v) → Once vs
        → Once (set vs id w)
    once_set vs id v w me back once i j x y ex ey kx ky = let a = origin vs id v w me back i x ex kx in
        let b = origin vs id v w me back j y ey ky in once i j a.0 b.0 a.1 b.1 a.2 b.2

    pub has_set : (vs : List V) (id : ℕ) (v w : V) → get_elem? vs id ≡ some v → (K v → K w) → Has vs
        → Has (set vs id w)
    has_set vs id v w me go h = dite (ℕ_discrete h.0 id)
        (λ e. let m : get_elem? vs id ≡ some h.1.0 = subst (λ (x : ℕ). get_elem? vs x ≡ some h.1.0) e h.1.1 in
        let same : h.1.0 ≡ v = some-injective _ _ (sym m ∙ me) in
        let r : Has (set vs id w) = (id, (w, set_in vs id v w me, go (subst K same h.1.2))) in r)
        (λ ne. let r : Has (set vs id w) = (h.0, (h.1.0, set_else vs id h.0 w ne ∙ h.1.1, h.1.2)) in r)

    pub once_push : (vs : List V) (w : V) → ¬ K w → Once vs → Once (vs ++ w ∷ [])
    once_push vs w none once i j x y ex ey kx ky = ⊎_elim
        (λ (a : get_elem? vs i ≡ some x). ⊎_elim (λ (b : get_elem? vs j ≡ some y). once i j x y a b kx ky)
        (λ (b : (j ≡ length vs) × (w ≡ y)). absurd (none (subst K (sym b.1) ky))) (at_end vs w y j ey))
        (λ (a : (i ≡ length vs) × (w ≡ x)). absurd (none (subst K (sym a.1) kx))) (at_end vs w x i ex)

    pub has_push : (vs : List V) (w : V) → Has vs → Has (vs ++ w ∷ [])
    has_push vs w h = (h.0, (h.1.0, at_longer vs (w ∷ []) h.0 h.1.0 h.1.1, h.1.2))

    -- what one view kept goes to it and to a new one
    module _ (vs : List V) (id : ℕ) (v left right : V) (me : get_elem? vs id ≡ some v) where
      abbrev dealt : List V
      dealt = set vs id left ++ right ∷ []

      pub once_deal : (K left → K v) → (K right → K v) → (K left → K right → ⊥) → Once vs → Once dealt
      once_deal l r apart once i j x y ex ey kx ky =
          let base = once_set vs id v left me l once in
          let mixed : (a b : ℕ) (p q : V) → get_elem? (set vs id left) a ≡ some p → right ≡ q → K p → K q → ⊥
          = λ a b p q ep eq kp kq. let o = origin vs id v left me l a p ep kp in
          let kr : K right = subst K (sym eq) kq in let here : a ≡ id = once a id o.0 v o.1 me o.2 (r kr) in
          let lp : left ≡ p = some-injective left p (sym (set_in vs id v left me)
          ∙ subst (λ (z : ℕ). get_elem? (set vs id left) z ≡ some p) here ep) in apart (subst K (sym lp) kp) kr in
          ⊎_elim (λ (a : get_elem? (set vs id left) i ≡ some x). ⊎_elim
          (λ (b : get_elem? (set vs id left) j ≡ some y). base i j x y a b kx ky)
          (λ (b : (j ≡ length (set vs id left))
          × (right ≡ y)). absurd (mixed i j x y a b.1 kx ky)) (at_end (set vs id left) right y j ey))
          (λ (a : (i ≡ length (set vs id left))
          × (right ≡ x)). ⊎_elim (λ (b : get_elem? (set vs id left) j ≡ some y). absurd
          (mixed j i y x b a.1 ky kx))
          (λ (b : (j ≡ length (set vs id left)) × (right ≡ y)). a.0
          ∙ sym b.0) (at_end (set vs id left) right y j ey)) (at_end (set vs id left) right x i ex)

      pub has_deal : (K v → K left ⊎ K right) → Has vs → Has dealt
      has_deal cut h = dite (ℕ_discrete h.0 id)
          (λ e. let m : get_elem? vs id ≡ some h.1.0 = subst (λ (x : ℕ). get_elem? vs x ≡ some h.1.0) e h.1.1 in
          let same : h.1.0 ≡ v = some-injective _ _ (sym m ∙ me) in
          ⊎_elim (λ (kl : K left). let r : Has dealt = (
            id,
            (left, at_longer (set vs id left) (right ∷ []) id left (set_in vs id v left me), kl),
          ) in r)
          (λ (kr : K right). let r : Has dealt = (
            length (set vs id left),
            (right, at_last (set vs id left) right (length (set vs id left)) refl, kr),
          ) in
          r) (cut (subst K same h.1.2)))
          (λ ne. let r : Has dealt = (
            h.0,
            (
              h.1.0,
              at_longer (set vs id left) (right ∷ []) h.0 h.1.0 (set_else vs id h.0 left ne ∙ h.1.1),
              h.1.2,
            ),
          ) in r)

    -- what two views kept one keeps
    module _ (vs : List V) (id : ℕ) (v : V) (other : ℕ) (w both spent : V) (me : get_elem? vs id ≡ some v)
        (apart : other ≢ id) (them : get_elem? (set vs id both) other ≡ some w) where
      abbrev joined : List V
      joined = set (set vs id both) other spent

      pub there : get_elem? vs other ≡ some w
      there = sym (set_else vs id other both apart) ∙ them

      abbrev Origin : ℕ → Type 0
      Origin i = (o : ℕ) × ((u : V) × (get_elem? vs o ≡ some u) × K u
          × (((o ≡ i) × (o ≢ other)) ⊎ ((o ≡ other) × (i ≡ id))))

      from : ¬ K spent → (K both → K v ⊎ K w) → (i : ℕ) (u : V) → get_elem? joined i ≡ some u → K u → Origin i
      from gone cut i u e k = ⊎_elim (λ (t : (i ≡ other) × (spent ≡ u)). absurd (gone (subst K (sym t.1) k)))
          (λ (t : (i ≢ other) × (get_elem? (set vs id both) i ≡ some u)). ⊎_elim (λ (q : (i ≡ id)
          × (both ≡ u)). ⊎_elim
          (λ (kv : K v). let r : Origin i = (id, (v, me, kv, inl (sym q.0, λ z. apart (sym z)))) in r)
          (λ (kw : K w). let r : Origin i = (other, (w, there, kw, inr (refl, q.0))) in
          r) (cut (subst K (sym q.1) k)))
          (λ (q : (i ≢ id) × (get_elem? vs i ≡ some u)). let r : Origin i = (i, (u, q.1, k, inl (refl, t.0))) in
          r) (at_set vs id i both u t.1)) (at_set (set vs id both) other i spent u e)

      pub once_join : ¬ K spent → (K both → K v ⊎ K w) → Once vs → Once joined
      once_join gone cut once i j x y ex ey kx ky = let a = from gone cut i x ex kx in
          let b = from gone cut j y ey ky in
          let same : a.0 ≡ b.0 = once a.0 b.0 a.1.0 b.1.0 a.1.1 b.1.1 a.1.2 b.1.2 in
          ⊎_elim (λ (p : (a.0 ≡ i) × (a.0 ≢ other)). ⊎_elim (λ (q : (b.0 ≡ j) × (b.0 ≢ other)). sym p.0
          ∙ (same ∙ q.0)) (λ (q : (b.0 ≡ other) × (j ≡ id)). absurd (p.1 (same ∙ q.0))) b.1.3)
          (λ (p : (a.0 ≡ other) × (i ≡ id)). ⊎_elim (λ (q : (b.0 ≡ j)
          × (b.0 ≢ other)). absurd (q.1 (sym same ∙ p.0))) (λ (q : (b.0 ≡ other) × (j ≡ id)). p.1
          ∙ sym q.1) b.1.3) a.1.3

      stays : get_elem? joined id ≡ some both
      stays = set_else (set vs id both) other id spent (λ z. apart (sym z)) ∙ set_in vs id v both me

      pub has_join : (K v → K both) → (K w → K both) → Has vs → Has joined
      has_join gv gw h = dite (ℕ_discrete h.0 id)
          (λ e. let m : get_elem? vs id ≡ some h.1.0 = subst (λ (x : ℕ). get_elem? vs x ≡ some h.1.0) e h.1.1 in
          let same : h.1.0 ≡ v = some-injective _ _ (sym m ∙ me) in
          let r : Has joined = (id, (both, stays, gv (subst K same h.1.2))) in r)
          (λ ne. dite (ℕ_discrete h.0 other)
          (λ e. let m : get_elem? vs other ≡ some h.1.0 = subst (λ (x : ℕ). get_elem? vs x ≡ some h.1.0) e h.1.1 in
          let same : h.1.0 ≡ w = some-injective _ _ (sym m ∙ there) in
          let r : Has joined = (id, (both, stays, gw (subst K same h.1.2))) in r)
          (λ no_other. let r : Has joined = (
            h.0,
            (
              h.1.0,
              set_else (set vs id both) other h.0 spent no_other ∙ (set_else vs id h.0 both ne ∙ h.1.1),
              h.1.2,
            ),
          ) in r))

      pub each_join : (F : V → Type 0) → F both → F spent → ((j : ℕ) (u : V) → get_elem? vs j ≡ some u → F u)
          → (j : ℕ) (u : V) → get_elem? joined j ≡ some u → F u
      each_join F fb fs others = each_set F (set vs id both) other spent fs
          (λ j u e ne. each_set F vs id both fb (λ k x f nk. others k x f) j u e)
