-- The rows of zone boundary costs, while they are read, and what comes of them.
use Rattle.std.proofs.Common.{◌≡◌, ℕ, ◌+◌, ◌*◌, ◌/◌, ◌%◌, ◌^◌, ◌<◌, ◌≤◌, ◌==◌, Bool, true, false, cond, List, [], ◌∷◌, ◌++◌, length, get_or, set, map, Option, Some, None, Result, Ok, Err, refl, ap, sym, ◌∙◌, subst, arith, inl, inr}
use Rattle.std.specs.Prelude.{◌⊎◌, min, max, option_map, unwrap_or}
use Rattle.std.specs.List.{All, find}
use Rattle.std.specs.Option.{option_or}
use Rattle.std.proofs.Math.ListN.{length-set, replicate}
use Rattle.std.proofs.lemmas.Bool.{cases_eq, cases_lt, eqb-true, false≢true, not-false}
use Rattle.std.proofs.lemmas.List.{get_or-map, get_or_default, get_or-replicate, get_or-set_other, get_or-set_same, length-map, length-replicate}
use Rattle.std.proofs.lemmas.List.Elements.{All-map, All-replicate, All-set}
use Rattle.std.proofs.lemmas.List.Folds.{find-append}
use Rattle.mz_tables.specs.Table.{Row}
use Rattle.mz_tables.specs.declared.fault.RowFault.{RowFault}
use Rattle.mz_tables.specs.declared.fault.RowFault.TheVariants.{Repeated}
use Rattle.mz_rows.specs.Rows.{RowReader, go_on, line_behind}
use Rattle.mz_num.proofs.PlaceLaws.{list_below-from}
use Rattle.mz_rows.proofs.PairLemmas.{first-below, pair-below, pair-first, pair-second, pair-whole, second-below}
use Rattle.mz_rows.proofs.RowLemmas.{HasRead, by_line, by_line-is, has_read-all, has_read-fault, has_read-more, has_read-none}
use Rattle.mz_rows.specs.Pairs.{names}
use Rattle.mz_bounds.specs.ZoneBounds.{AreZoneBounds, IsEven, cost_at, is_another, settled, unless_another, zone_bound_rows, zone_bounds_of, zone_costs}
use Rattle.mz_bounds.specs.Pairs.{PairRow, zone_bound_in}
use Rattle.mz_rows.proofs.AddedPairLemmas.{both_are, both_true}

-- ---- places of two zones

same_first : (n a b c d : ℕ) → b < n → d < n → a * n + b ≡ c * n + d → a ≡ c
same_first n a b c d h k e = sym (pair-first a n b h) ∙ ap (λ i. i / n) e ∙ pair-first c n d k

same_second : (n a b c d : ℕ) → b < n → d < n → a * n + b ≡ c * n + d → b ≡ d
same_second n a b c d h k e = sym (pair-second a n b h) ∙ ap (λ i. i % n) e ∙ pair-second c n d k

place-lt : (n a b : ℕ) → a < n → b < n → a * n + b < n * n
place-lt n a b h k = pair-below a n n b h k

first_place : {X : Type 0} (xs : List X) (a b k : ℕ) (x d : X) → a < length xs → (k ≡ a) ⊎ (k ≡ b) → (k ≡ b → ⊥) → get_or (set xs a x) k d ≡ x
first_place xs a b k x d h (inl e) other = ap (λ j. get_or (set xs a x) j d) e ∙ get_or-set_same xs a x d h
first_place xs a b k x d h (inr e) other = absurd (other e)

-- two places that were set to one value
set_two : {X : Type 0} (xs : List X) (a b k : ℕ) (x d : X) → a < length xs → b < length xs → (k ≡ a) ⊎ (k ≡ b) → get_or (set (set xs a x) b x) k d ≡ x
set_two xs a b k x d h m at = elim (cases_eq k b) [
  | inl e ↦ ap (λ j. get_or (set (set xs a x) b x) j d) e ∙ get_or-set_same (set xs a x) b x d (omega (arith, length-set xs a x))
  | inr other ↦ get_or-set_other (set xs a x) b k x d other ∙ first_place xs a b k x d h at other
]

set_neither : {X : Type 0} (xs : List X) (a b k : ℕ) (x d : X) → (k ≡ a → ⊥) → (k ≡ b → ⊥) → get_or (set (set xs a x) b x) k d ≡ get_or xs k d
set_neither xs a b k x d h m = get_or-set_other (set xs a x) b k x d m ∙ get_or-set_other xs a k x d h

-- ---- the cost of two zones, with one more row

abbrev number_of : PairRow → ℕ
number_of row = row.2

cost_more : (earlier : List PairRow) (item : PairRow) (first second : ℕ) → cost_at (earlier ++ item ∷ []) first second ≡ option_map number_of (option_or (find (names (min first second) (max first second)) earlier) (cond (names (min first second) (max first second) item) (Some item) None))
cost_more earlier item first second = ap (option_map number_of) (find-append (names (min first second) (max first second)) earlier (item ∷ []))

kept : (found : Option PairRow) → option_or found None ≡ found
kept None = refl
kept (Some row) = refl

cost-other : (earlier : List PairRow) (item : PairRow) (first second : ℕ) → names (min first second) (max first second) item ≡ false → cost_at (earlier ++ item ∷ []) first second ≡ cost_at earlier first second
cost-other earlier item first second e =
    cost_more earlier item first second
    ∙ ap (λ (b : Bool). option_map number_of (option_or (find (names (min first second) (max first second)) earlier) (cond b (Some item) None))) e
    ∙ ap (option_map number_of) (kept (find (names (min first second) (max first second)) earlier))

settled_cost : (found : Option PairRow) (item : PairRow) → is_another (option_map number_of found) item.2 ≡ false → option_map number_of (option_or found (Some item)) ≡ Some item.2
settled_cost None item e = refl
settled_cost (Some row) item e = ap Some (eqb-true row.2 item.2 (not-false (row.2 == item.2) e))

cost-named : (earlier : List PairRow) (item : PairRow) (first second : ℕ) → item.0 ≡ min first second → item.1 ≡ max first second → item.0 ≤ item.1 → is_another (cost_at earlier item.0 item.1) item.2 ≡ false → cost_at (earlier ++ item ∷ []) first second ≡ Some item.2
cost-named earlier item first second low high up e =
    let least : min item.0 item.1 ≡ min first second = omega arith in
    let most : max item.0 item.1 ≡ max first second = omega arith in
    let agrees : is_another (option_map number_of (find (names (min first second) (max first second)) earlier)) item.2 ≡ false =
    sym (ap (λ n. is_another (option_map number_of (find (names n (max item.0 item.1)) earlier)) item.2) least
    ∙ ap (λ n. is_another (option_map number_of (find (names (min first second) n) earlier)) item.2) most) ∙ e in
    cost_more earlier item first second
    ∙ ap (λ (b : Bool). option_map number_of (option_or (find (names (min first second) (max first second)) earlier) (cond b (Some item) None))) (both_true item.0 item.1 (min first second) (max first second) low high)
    ∙ settled_cost (find (names (min first second) (max first second)) earlier) item agrees

-- ---- rows that may repeat a cost

pub settled-fault : (read : RowReader PairRow) (earlier : List PairRow) (row : Row) (fault : RowFault) → read earlier row ≡ Err fault → settled read earlier row ≡ Err fault
settled-fault read earlier row fault e = ap (λ (r : Result PairRow RowFault). go_on r (λ item. unless_another (is_another (cost_at earlier item.0 item.1) item.2) (line_behind earlier) item)) e

pub settled-as : (read : RowReader PairRow) (earlier : List PairRow) (row : Row) (item : PairRow) (b : Bool) → read earlier row ≡ Ok item → is_another (cost_at earlier item.0 item.1) item.2 ≡ b → settled read earlier row ≡ unless_another b (line_behind earlier) item
settled-as read earlier row item b e another =
    ap (λ (r : Result PairRow RowFault). go_on r (λ item. unless_another (is_another (cost_at earlier item.0 item.1) item.2) (line_behind earlier) item)) e
    ∙ ap (λ b. unless_another b (line_behind earlier) item) another

-- ---- the rows of the file

abbrev pub zone_bound_reader : List ℕ → RowReader PairRow
zone_bound_reader zones = settled (by_line (zone_bound_in zones))

abbrev IsSmall : Option ℕ → Type 0
IsSmall cost = unwrap_or cost 0 ≤ 10 ^ 18

-- what the rows before this one gave
pub record AreListedSoFar (zones : List ℕ) (rows : List Row) (listed : List (Option ℕ)) (row : ℕ) : Type 0 where
  pub earlier : List PairRow
  pub read : HasRead (zone_bound_reader zones) rows earlier row
  pub size : length listed ≡ length zones * length zones
  pub each : (first second : ℕ) → first < length zones → second < length zones → get_or listed (first * length zones + second) None ≡ cost_at earlier first second
  pub small : All IsSmall listed

pub listed-none : (zones : List ℕ) (rows : List Row) (listed : List (Option ℕ)) (n : ℕ) → n ≡ length zones * length zones → listed ≡ replicate n None → AreListedSoFar zones rows listed 0
listed-none zones rows listed n size e = record {
  earlier = [];
  read = has_read-none (zone_bound_reader zones) rows;
  size = ap length e ∙ length-replicate n None ∙ size;
  each = λ first second h k. ap (λ (ls : List (Option ℕ)). get_or ls (first * length zones + second) None) e ∙ get_or-replicate n (first * length zones + second) None None (omega (arith, place-lt (length zones) first second h k));
  small = subst (All IsSmall) (sym e) (All-replicate IsSmall n None (omega arith));
}

-- what the rows read as decides what they give
goes-on : (zones : List ℕ) (rows : List Row) (made : Result (List PairRow) RowFault) → zone_bound_rows zones rows ≡ made → zone_bounds_of zones rows ≡ go_on made (λ read. Ok (zone_costs (length zones) read))
unfolding zone_bounds_of
goes-on zones rows made e = ap (λ (made : Result (List PairRow) RowFault). go_on made (λ read. Ok (zone_costs (length zones) read))) e

pub listed-fault : (zones : List ℕ) (rows : List Row) (listed : List (Option ℕ)) (row : ℕ) (fault : RowFault) → AreListedSoFar zones rows listed row → row < length rows → zone_bound_in zones (row + 2) (get_or rows row []) ≡ Err fault → zone_bounds_of zones rows ≡ Err fault
unfolding zone_bound_rows
listed-fault zones rows listed row fault so_far h e =
    goes-on zones rows (Err fault)
    (has_read-fault (zone_bound_reader zones) rows so_far.earlier row fault so_far.read h
    (settled-fault (by_line (zone_bound_in zones)) so_far.earlier (get_or rows row []) fault
    (by_line-is (zone_bound_in zones) so_far.earlier (get_or rows row []) row (Err fault) so_far.read.count e)))

-- the cost that a row's two zones have
known : (zones : List ℕ) (rows : List Row) (listed : List (Option ℕ)) (row : ℕ) (item : PairRow) (at : Option ℕ) → AreListedSoFar zones rows listed row → item.0 ≤ item.1 → item.1 < length zones → at ≡ get_or listed (item.0 * length zones + item.1) at → (so_far : AreListedSoFar zones rows listed row) → at ≡ cost_at so_far.earlier item.0 item.1
known zones rows listed row item at _ low high is so_far =
    is ∙ get_or_default listed (item.0 * length zones + item.1) at None (omega (arith, so_far.size, place-lt (length zones) item.0 item.1 (omega arith) high)) ∙ so_far.each item.0 item.1 (omega arith) high

pub listed-repeated : (zones : List ℕ) (rows : List Row) (listed : List (Option ℕ)) (row : ℕ) (item : PairRow) (at : Option ℕ) → AreListedSoFar zones rows listed row → row < length rows → zone_bound_in zones (row + 2) (get_or rows row []) ≡ Ok item → item.0 ≤ item.1 → item.1 < length zones → at ≡ get_or listed (item.0 * length zones + item.1) at → is_another at item.2 ≡ true → zone_bounds_of zones rows ≡ Err (Repeated (row + 2))
unfolding zone_bound_rows
listed-repeated zones rows listed row item at so_far h e low high is another =
    goes-on zones rows (Err (Repeated (row + 2)))
    (has_read-fault (zone_bound_reader zones) rows so_far.earlier row (Repeated (row + 2)) so_far.read h
    (settled-as (by_line (zone_bound_in zones)) so_far.earlier (get_or rows row []) item true
    (by_line-is (zone_bound_in zones) so_far.earlier (get_or rows row []) row (Ok item) so_far.read.count e)
    (ap (λ (cost : Option ℕ). is_another cost item.2) (sym (known zones rows listed row item at so_far low high is so_far)) ∙ another)
    ∙ ap (λ n. Err (Repeated (n + 2))) so_far.read.count))

-- the two places of a row's zones
each_more : (n : ℕ) (earlier : List PairRow) (listed : List (Option ℕ)) (item : PairRow) → length listed ≡ n * n → ((first second : ℕ) → first < n → second < n → get_or listed (first * n + second) None ≡ cost_at earlier first second) → item.0 ≤ item.1 → item.1 < n → is_another (cost_at earlier item.0 item.1) item.2 ≡ false → (first second : ℕ) → first < n → second < n → (b : Bool) → names (min first second) (max first second) item ≡ b → get_or (set (set listed (item.0 * n + item.1) (Some item.2)) (item.1 * n + item.0) (Some item.2)) (first * n + second) None ≡ cost_at (earlier ++ item ∷ []) first second
each_more n earlier listed item size each low high agrees first second h k true e =
    let are : (item.0 ≡ min first second) × (item.1 ≡ max first second) = both_are item.0 item.1 (min first second) (max first second) e in
    let least : item.0 ≡ min first second = are.0 in
    let most : item.1 ≡ max first second = are.1 in
    let at : (first * n + second ≡ item.0 * n + item.1) ⊎ (first * n + second ≡ item.1 * n + item.0) = elim (cases_lt second first) [
      | inl less ↦ (let a : first ≡ item.1 = omega arith in let b : second ≡ item.0 = omega arith in inr (ap (λ i. i * n + second) a ∙ ap (λ i. item.1 * n + i) b))
      | inr more ↦ (let a : first ≡ item.0 = omega arith in let b : second ≡ item.1 = omega arith in inl (ap (λ i. i * n + second) a ∙ ap (λ i. item.0 * n + i) b))
    ] in
    set_two listed (item.0 * n + item.1) (item.1 * n + item.0) (first * n + second) (Some item.2) None (omega (arith, place-lt n item.0 item.1 (omega arith) high)) (omega (arith, place-lt n item.1 item.0 high (omega arith))) at
    ∙ sym (cost-named earlier item first second least most low agrees)
each_more n earlier listed item size each low high agrees first second h k false e =
    set_neither listed (item.0 * n + item.1) (item.1 * n + item.0) (first * n + second) (Some item.2) None
    (λ same. (let a : first ≡ item.0 = same_first n first second item.0 item.1 k high same in let b : second ≡ item.1 = same_second n first second item.0 item.1 k high same in
    false≢true (sym e ∙ both_true item.0 item.1 (min first second) (max first second) (omega arith) (omega arith))))
    (λ same. (let a : first ≡ item.1 = same_first n first second item.1 item.0 k (omega arith) same in let b : second ≡ item.0 = same_second n first second item.1 item.0 k (omega arith) same in
    false≢true (sym e ∙ both_true item.0 item.1 (min first second) (max first second) (omega arith) (omega arith))))
    ∙ each first second h k ∙ sym (cost-other earlier item first second e)

pub listed-more : (zones : List ℕ) (rows : List Row) (listed : List (Option ℕ)) (row : ℕ) (item : PairRow) (at : Option ℕ) → AreListedSoFar zones rows listed row → row < length rows → zone_bound_in zones (row + 2) (get_or rows row []) ≡ Ok item → item.0 ≤ item.1 → item.1 < length zones → item.2 ≤ 10 ^ 18 → at ≡ get_or listed (item.0 * length zones + item.1) at → is_another at item.2 ≡ false → AreListedSoFar zones rows (set (set listed (item.0 * length zones + item.1) (Some item.2)) (item.1 * length zones + item.0) (Some item.2)) (row + 1)
listed-more zones rows listed row item at so_far h e low high small is another =
    let agrees : is_another (cost_at so_far.earlier item.0 item.1) item.2 ≡ false = ap (λ (cost : Option ℕ). is_another cost item.2) (sym (known zones rows listed row item at so_far low high is so_far)) ∙ another in
    record {
      earlier = so_far.earlier ++ item ∷ [];
      read = has_read-more (zone_bound_reader zones) rows so_far.earlier row item so_far.read h
          (settled-as (by_line (zone_bound_in zones)) so_far.earlier (get_or rows row []) item false
          (by_line-is (zone_bound_in zones) so_far.earlier (get_or rows row []) row (Ok item) so_far.read.count e) agrees);
      size = length-set (set listed (item.0 * length zones + item.1) (Some item.2)) (item.1 * length zones + item.0) (Some item.2) ∙ length-set listed (item.0 * length zones + item.1) (Some item.2) ∙ so_far.size;
      each = λ first second m k. each_more (length zones) so_far.earlier listed item so_far.size so_far.each low high agrees first second m k (names (min first second) (max first second) item) refl;
      small = All-set IsSmall (set listed (item.0 * length zones + item.1) (Some item.2)) (item.1 * length zones + item.0) (Some item.2) small
          (All-set IsSmall listed (item.0 * length zones + item.1) (Some item.2) small so_far.small);
    }

-- ---- the costs of all zones

listed-all : (zones : List ℕ) (rows : List Row) (listed : List (Option ℕ)) (row : ℕ) → (so_far : AreListedSoFar zones rows listed row) → length rows ≤ row → zone_bound_rows zones rows ≡ Ok so_far.earlier
unfolding zone_bound_rows
listed-all zones rows listed row so_far h = has_read-all (zone_bound_reader zones) rows so_far.earlier row so_far.read h

costs-size : (zones : List ℕ) (rows : List Row) (listed : List (Option ℕ)) (row : ℕ) (costs : List ℕ) → AreListedSoFar zones rows listed row → costs ≡ map (λ cost. unwrap_or cost 0) listed → length costs ≡ length zones * length zones
costs-size zones rows listed row costs so_far e = ap length e ∙ length-map listed (λ (cost : Option ℕ). unwrap_or cost 0) ∙ so_far.size

costs-each : (zones : List ℕ) (rows : List Row) (listed : List (Option ℕ)) (row : ℕ) (costs : List ℕ) → (so_far : AreListedSoFar zones rows listed row) → costs ≡ map (λ cost. unwrap_or cost 0) listed → (first second : ℕ) → first < length zones → second < length zones → get_or costs (first * length zones + second) 0 ≡ unwrap_or (cost_at so_far.earlier first second) 0
costs-each zones rows listed row costs so_far e first second h k =
    ap (λ (cs : List ℕ). get_or cs (first * length zones + second) 0) e
    ∙ get_or-map (λ (cost : Option ℕ). unwrap_or cost 0) listed (first * length zones + second) None 0 (omega (arith, so_far.size, place-lt (length zones) first second h k))
    ∙ ap (λ (cost : Option ℕ). unwrap_or cost 0) (so_far.each first second h k)

costs-are : (zones : List ℕ) (rows : List Row) (listed : List (Option ℕ)) (row : ℕ) (costs : List ℕ) → (so_far : AreListedSoFar zones rows listed row) → costs ≡ map (λ cost. unwrap_or cost 0) listed → costs ≡ zone_costs (length zones) so_far.earlier
costs-are zones rows listed row costs so_far e =
    let n : ℕ = length zones in
    list_below-from (n * n) (λ place. unwrap_or (cost_at so_far.earlier (place / n) (place % n)) 0) costs 0 (costs-size zones rows listed row costs so_far e)
    (λ k h. ap (λ i. get_or costs i 0) (sym (pair-whole k n)) ∙ costs-each zones rows listed row costs so_far e (k / n) (k % n) (first-below k n n h) (second-below k n n h))

pub costs-listed : (zones : List ℕ) (rows : List Row) (listed : List (Option ℕ)) (row : ℕ) (costs : List ℕ) → AreListedSoFar zones rows listed row → length rows ≤ row → costs ≡ map (λ cost. unwrap_or cost 0) listed → zone_bounds_of zones rows ≡ Ok costs
costs-listed zones rows listed row costs so_far h e =
    goes-on zones rows (Ok so_far.earlier) (listed-all zones rows listed row so_far h)
    ∙ ap Ok (sym (costs-are zones rows listed row costs so_far e))

either_order : (earlier : List PairRow) (first second : ℕ) → cost_at earlier first second ≡ cost_at earlier second first
either_order earlier first second =
    let least : min first second ≡ min second first = omega arith in
    let most : max first second ≡ max second first = omega arith in
    ap (λ n. option_map number_of (find (names n (max first second)) earlier)) least ∙ ap (λ n. option_map number_of (find (names (min second first) n) earlier)) most

pub costs-fit : (zones : List ℕ) (rows : List Row) (listed : List (Option ℕ)) (row : ℕ) (costs : List ℕ) → AreListedSoFar zones rows listed row → costs ≡ map (λ cost. unwrap_or cost 0) listed → AreZoneBounds (length zones) costs
costs-fit zones rows listed row costs so_far e =
    let each : (first second : ℕ) → first < length zones → second < length zones → get_or costs (first * length zones + second) 0 ≡ unwrap_or (cost_at so_far.earlier first second) 0 = costs-each zones rows listed row costs so_far e in
    record {
      all_pairs = costs-size zones rows listed row costs so_far e;
      small = subst (All (λ cost. cost ≤ 10 ^ 18)) (sym e) (All-map (λ cost. cost ≤ 10 ^ 18) (λ (cost : Option ℕ). unwrap_or cost 0) listed so_far.small);
      even = λ first second h k. each first second h k ∙ ap (λ (cost : Option ℕ). unwrap_or cost 0) (either_order so_far.earlier first second) ∙ sym (each second first k h);
    }

-- what each cost gives is as even as the costs
pub even-map : (f : ℕ → ℕ) (zones : ℕ) (costs rates : List ℕ) → rates ≡ map f costs → length costs ≡ zones * zones → IsEven zones costs → IsEven zones rates
even-map f zones costs rates e size even first second h k =
    ap (λ (rs : List ℕ). get_or rs (first * zones + second) 0) e
    ∙ get_or-map f costs (first * zones + second) 0 0 (omega (arith, size, place-lt zones first second h k))
    ∙ ap f (even first second h k)
    ∙ sym (ap (λ (rs : List ℕ). get_or rs (second * zones + first) 0) e ∙ get_or-map f costs (second * zones + first) 0 0 (omega (arith, size, place-lt zones second first k h)))
