-- The sums of amounts: those of the rows that count, which are the positive ones.
use Rattle.std.proofs.Common.{◌≡◌, ℕ, ◌+◌, ◌*◌, ◌<◌, ◌≤◌, Bool, true, false, cond, List, [], ◌∷◌, length, get_or, Result, Ok, refl, ap, sym, ◌∙◌, subst, arith, inl, inr, zero-add}
use Rattle.std.specs.Prelude.{◌&&◌, ◌||◌, nat_lt}
use Rattle.std.specs.List.{All, AllPairs, filter, list_any}
use Rattle.std.proofs.lemmas.Bool.{cases_lt, false≢true, le-ltb, lt-ltb, ltb-true}
use Rattle.std.proofs.lemmas.List.Sums.{sum_by-cons}
use Rattle.mz_num.specs.Limits.{greatest_quantity, most_amount_rows}
use Rattle.mz_num.specs.Order.{IsBefore}
use Rattle.mz_tables.specs.Table.{Row}
use Rattle.mz_tables.specs.declared.fault.RowFault.{RowFault}
use Rattle.mz_rows.specs.Answer.{IsFaultOf}
use Rattle.mz_rows.specs.Pairs.{added_pairs, names, number_for, pair_sum}
use Rattle.mz_rows.specs.Rows.{go_on}
use Rattle.mz_rows.proofs.AddedLaws.{list_any-filter, pairs_below-same, sum-filter}
use Rattle.mz_rows.proofs.AddedPairLemmas.{added-le}
use Rattle.mz_rows.proofs.AnswerLemmas.{fault-on}
use Rattle.mz_rows.proofs.PairListLemmas.{IsPairBelow, pairs_below-each, pairs_below-in_order}
use Rattle.mz_targets.specs.Amounts.{Amount, AreAmounts, amount_rows, amounts_of, sums_of}

-- a row that counts
abbrev pub counts : ℕ × ℕ × ℕ → Bool
counts row = nat_lt 0 row.2

cond_none : (b : Bool) (x : ℕ) → x ≡ 0 → cond b x 0 ≡ 0
cond_none true x e = e
cond_none false x e = refl

not_counted : (x : ℕ) → nat_lt 0 x ≡ false → x ≡ 0
not_counted x e = elim (cases_lt 0 x) [ inl h ↦ absurd (false≢true (sym e ∙ lt-ltb 0 x h)) | inr h ↦ omega arith ]

sum-counted : (rows : List Amount) (u v : ℕ) → pair_sum (filter counts rows) u v ≡ pair_sum rows u v
sum-counted rows u v = sum-filter (number_for u v) counts rows (λ row e. cond_none (names u v row) row.2 (not_counted row.2 e))

and_false : (b : Bool) → (b && false) ≡ false
and_false true = refl
and_false false = refl

positive_first : (named : Bool) (x sum : ℕ) (rest : Bool) → rest ≡ nat_lt 0 sum → ((nat_lt 0 x && named) || rest) ≡ nat_lt 0 (cond named x 0 + sum)
positive_first false x sum rest e = ap (λ b. b || rest) (and_false (nat_lt 0 x)) ∙ e ∙ ap (nat_lt 0) (sym (zero-add sum))
positive_first true x sum rest e = elim (cases_lt 0 x) [
  | inl h ↦ ap (λ b. (b && true) || rest) (lt-ltb 0 x h) ∙ sym (lt-ltb 0 (x + sum) (omega arith))
  | inr h ↦ (let none : x + sum ≡ sum = omega arith in ap (λ b. (b && true) || rest) (le-ltb 0 x h) ∙ e ∙ ap (nat_lt 0) (sym none))
]

-- the rows that count name the pairs of positive sums
named-counted : (rows : List Amount) (u v : ℕ) → list_any (λ row. counts row && names u v row) rows ≡ nat_lt 0 (pair_sum rows u v)
named-counted [] u v = refl
named-counted (row ∷ rows) u v = positive_first (names u v row) row.2 (pair_sum rows u v) (list_any (λ row. counts row && names u v row) rows) (named-counted rows u v) ∙ ap (nat_lt 0) (sym (sum_by-cons (number_for u v) row rows))

pub sums-are : (units features : ℕ) (rows kept sums : List (ℕ × ℕ × ℕ)) → kept ≡ filter counts rows → sums ≡ added_pairs units features kept → sums ≡ sums_of units features rows
sums-are units features rows kept sums are e =
    e ∙ ap (added_pairs units features) are
    ∙ pairs_below-same units features (λ u v. list_any (names u v) (filter counts rows)) (λ u v. nat_lt 0 (pair_sum rows u v)) (pair_sum (filter counts rows)) (pair_sum rows)
    (λ u v. list_any-filter (names u v) counts rows ∙ named-counted rows u v)
    (λ u v _. sum-counted rows u v)

-- what sums are, for whoever takes them
pub sums-fit : (units features : ℕ) (rows sums : List (ℕ × ℕ × ℕ)) → sums ≡ sums_of units features rows → All (λ row. row.2 ≤ greatest_quantity) rows → length rows ≤ most_amount_rows → length sums ≤ length rows → AreAmounts units features sums
sums-fit units features rows sums are small few fewer = record {
  few = omega arith;
  in_order = subst (λ (ss : List Amount). AllPairs IsBefore ss) (sym are) (pairs_below-in_order units features (λ u v. nat_lt 0 (pair_sum rows u v)) (pair_sum rows));
  each = λ k d h.
      let test : ℕ → ℕ → Bool = λ u v. nat_lt 0 (pair_sum rows u v) in
      let sum : Amount = get_or sums k d in
      let is : IsPairBelow units features test (pair_sum rows) sum = subst (All (IsPairBelow units features test (pair_sum rows))) (sym are) (pairs_below-each units features test (pair_sum rows)) k d h in
      let some : 0 < pair_sum rows sum.0 sum.1 = ltb-true 0 (pair_sum rows sum.0 sum.1) is.passes in
      let most : pair_sum rows sum.0 sum.1 ≤ length rows * greatest_quantity = added-le rows greatest_quantity sum.0 sum.1 small in
      let number : sum.2 ≡ pair_sum rows sum.0 sum.1 = is.has_number in
      record {
        unit = is.first_below;
        feature = is.second_below;
        positive = omega arith;
        small = omega arith;
      };
}

pub amounts-are : (units features : List ℕ) (table : List Row) (rows sums : List (ℕ × ℕ × ℕ)) → amount_rows units features table ≡ Ok rows → sums ≡ sums_of (length units) (length features) rows → amounts_of units features table ≡ Ok sums
unfolding amounts_of
amounts-are units features table rows sums e are = ap (λ (made : Result (List Amount) RowFault). go_on made (λ read. Ok (sums_of (length units) (length features) read))) e ∙ ap Ok (sym are)

-- the first fault of the rows
pub amounts-stopped : (units features : List ℕ) (table : List Row) (fault : RowFault) → IsFaultOf fault (amount_rows units features table) → IsFaultOf fault (amounts_of units features table)
unfolding amounts_of
amounts-stopped units features table fault is =
    fault-on fault (amount_rows units features table) (go_on (amount_rows units features table) (λ read. Ok (sums_of (length units) (length features) read))) is
    (λ f e. ap (λ (made : Result (List Amount) RowFault). go_on made (λ read. Ok (sums_of (length units) (length features) read))) e)
