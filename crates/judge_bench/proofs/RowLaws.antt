-- Laws of rows in order.
use Rattle.std.proofs.Common.{◌≡◌, ℕ, ◌+◌, ◌*◌, ◌<◌, ◌≤◌, ◌^◌, List, [], ◌∷◌, ◌++◌, get_or, refl, ap, sym, ◌∙◌, subst, inl, inr, arith}
use Rattle.std.specs.List.{All}
use Rattle.std.proofs.lemmas.Bool.{cases_lt, cases_order}
use Rattle.std.proofs.lemmas.List.{get_or_append_left, get_or_push, length_push}
use Rattle.std.proofs.lemmas.List.Elements.{All-nil, All-push, All-weaker}
use Rattle.std.proofs.lemmas.List.Quantifiers.{all_pairs_push}
use Rattle.mz_num.specs.Order.{IsBefore}
use Rattle.mz_model.specs.declared.parts.Target.{Target}
use Rattle.mz_model.specs.Parts.{no_target}
use Rattle.judge_bench.specs.Region.{AreRows, AreTargets, IsTarget}

-- the two places of a row as one number
abbrev pub key_of : ℕ × ℕ × ℕ → ℕ
key_of row = row.0 * 4294967296 + row.1

before_from_key : (a b : ℕ × ℕ × ℕ) → key_of a < key_of b → a.1 < 4294967296 → b.1 < 4294967296 → IsBefore a b
before_from_key a b less h g =
    elim (cases_order a.0 b.0) [
      | inl same ↦ inr (same, omega arith)
      | inr other ↦ elim other [
        | inl below ↦ inl below
        | inr above ↦ absurd (omega arith)
      ]
    ]

-- rows so far, all of whose keys are below a number
pub record AreFirst (count least firsts seconds : ℕ) (list : List (ℕ × ℕ × ℕ)) : Type 0 where
  pub rows : AreRows count firsts seconds list
  pub below : All (λ row. key_of row < least) list

pub no_rows : (least firsts seconds : ℕ) → AreFirst 0 least firsts seconds []
no_rows least firsts seconds = record {
  rows = record { few = omega arith; first = All-nil (λ (row : ℕ × ℕ × ℕ). row.0 < firsts); second = All-nil (λ (row : ℕ × ℕ × ℕ). row.1 < seconds); positive = All-nil (λ (row : ℕ × ℕ × ℕ). 0 < row.2); small = All-nil (λ (row : ℕ × ℕ × ℕ). row.2 ≤ 10 ^ 9); order = λ i j d h k. absurd (omega arith) };
  below = All-nil (λ (row : ℕ × ℕ × ℕ). key_of row < least);
}

-- one row more
pub more_rows : (count least least' firsts seconds : ℕ) (rows rows' : List (ℕ × ℕ × ℕ)) (row : ℕ × ℕ × ℕ) → AreFirst count least firsts seconds rows → rows' ≡ rows ++ row ∷ [] → seconds < 4294967296 → row.0 < firsts → row.1 < seconds → 0 < row.2 → row.2 ≤ 10 ^ 9 → least ≤ key_of row → least' ≡ key_of row + 1 → AreFirst (count + 1) least' firsts seconds rows'
more_rows count least least' firsts seconds rows rows' row are pushed narrow first second positive small after next =
    subst (AreFirst (count + 1) least' firsts seconds) (sym pushed)
    (record {
      rows = record {
        few = omega (arith, are.rows.few, length_push rows row);
        first = All-push (λ (r : ℕ × ℕ × ℕ). r.0 < firsts) rows row are.rows.first first;
        second = All-push (λ (r : ℕ × ℕ × ℕ). r.1 < seconds) rows row are.rows.second second;
        positive = All-push (λ (r : ℕ × ℕ × ℕ). 0 < r.2) rows row are.rows.positive positive;
        small = All-push (λ (r : ℕ × ℕ × ℕ). r.2 ≤ 10 ^ 9) rows row are.rows.small small;
        order = all_pairs_push IsBefore rows row are.rows.order (λ k d h. let earlier : key_of (get_or rows k d) < least = are.below k d h in let narrow' : (get_or rows k d).1 < seconds = are.rows.second k d h in before_from_key (get_or rows k d) row (omega arith) (omega arith) (omega arith));
      };
      below = All-push (λ (r : ℕ × ℕ × ℕ). key_of r < least') rows row (All-weaker (λ (r : ℕ × ℕ × ℕ). key_of r < least) (λ (r : ℕ × ℕ × ℕ). key_of r < least') (λ r h. omega arith) rows are.below) (omega arith);
    })

pub all_rows : (count most least firsts seconds : ℕ) (rows : List (ℕ × ℕ × ℕ)) → AreFirst count least firsts seconds rows → count ≤ most → AreRows most firsts seconds rows
all_rows count most least firsts seconds rows are h = record { few = omega (arith, are.rows.few); first = are.rows.first; second = are.rows.second; positive = are.rows.positive; small = are.rows.small; order = are.rows.order }

-- ---- targets

pub no_targets : AreTargets 0 []
no_targets = record { whole = refl; each = λ feature h. absurd (omega arith) }

-- one target more
pub more_targets : (features : ℕ) (targets targets' : List Target) (target : Target) → AreTargets features targets → targets' ≡ targets ++ target ∷ [] → IsTarget features target → AreTargets (features + 1) targets'
more_targets features targets targets' target are pushed is =
    subst (AreTargets (features + 1)) (sym pushed)
    (record {
      whole = length_push targets target ∙ ap (λ n. n + 1) are.whole;
      each = λ feature h. elim (cases_lt feature features) [
        | inl below ↦ subst (IsTarget feature) (sym (get_or_append_left targets (target ∷ []) no_target feature (omega (arith, are.whole)))) (are.each feature below)
        | inr last ↦ (let same : feature ≡ features = omega arith in
            subst (IsTarget feature) (sym (get_or_push targets target no_target feature (are.whole ∙ sym same))) (subst (λ f. IsTarget f target) (sym same) is))
      ];
    })
