-- Steps over the digits of a text.
use Rattle.std.proofs.Common.{◌≡◌, ℕ, ◌+◌, ◌-◌, ◌*◌, ◌^◌, ◌<◌, ◌≤◌, suc, true, ◌&&◌, List, [], ◌∷◌, ◌++◌, length, get_or, drop, Option, Some, None, refl, sym, ◌∙◌, ap, subst, arith, drop-cons, add-one, length-append, if◌then◌else◌, IfSome}
use Rattle.std.proofs.Math.Nat.{pow-suc, one-le-pow, pow-le-pow_right, mul-le-mul_left, mul-le-mul_right}
use Rattle.std.proofs.lemmas.Nat.{pow-add}
use Rattle.std.proofs.lemmas.Bool.Decides.{nat_tests}
use Rattle.std.specs.Char.{is_ascii_digit, digit_value}
use Rattle.std.specs.Str.{all_ascii_digits}
use Rattle.std.specs.Str.Parse.{digits_value_after, digits_value}
use Rattle.mz_num.specs.Digits.{digits_number}

-- one more digit of a number leaves room for as many as before, less one
pub digit_room : (n d k m : ℕ) → d ≤ 9 → (n + 1) * 10 ^ suc k ≤ m → (n * 10 + d + 1) * 10 ^ k ≤ m
digit_room n d k m small room =
    let p : 10 ^ suc k ≡ 10 ^ k * 10 = pow-suc 10 k in
    let r : (n + 1) * (10 ^ k * 10) ≤ m = subst (λ x. (n + 1) * x ≤ m) p room in
    let w : (n * 10 + d + 1) * 10 ^ k ≤ (n * 10 + 10) * 10 ^ k = mul-le-mul_right (10 ^ k) (omega arith) in
    grind arith

-- and its number fits
pub digit_fits : (n d k m : ℕ) → d ≤ 9 → (n + 1) * 10 ^ suc k ≤ m → n * 10 + d + 1 ≤ m
digit_fits n d k m small room =
    let one : 1 ≤ 10 ^ k = one-le-pow k 10 (omega arith) in
    let r : (n * 10 + d + 1) * 10 ^ k ≤ m = digit_room n d k m small room in
    let w : (n * 10 + d + 1) * 1 ≤ (n * 10 + d + 1) * 10 ^ k = mul-le-mul_left (n * 10 + d + 1) one in
    omega arith

pub digit_value-digit : (b : ℕ) → is_ascii_digit b ≡ true → (digit_value b ≡ b - 48) × (b - 48 ≤ 9)
digit_value-digit b h = (grind (arith, nat_tests), grind (arith, nat_tests))

pub all_ascii_digits-append : (xs ys : List ℕ) → all_ascii_digits (xs ++ ys) ≡ (all_ascii_digits xs && all_ascii_digits ys)
all_ascii_digits-append [] ys = refl
all_ascii_digits-append (x ∷ xs) ys = grind (arith, all_ascii_digits-append xs ys)

pub digits_value_after-append : (n : ℕ) (xs ys : List ℕ) → digits_value_after 10 n (xs ++ ys) ≡ digits_value_after 10 (digits_value_after 10 n xs) ys
digits_value_after-append n [] ys = refl
digits_value_after-append n (x ∷ xs) ys = digits_value_after-append (n * 10 + digit_value x) xs ys

-- a text of two parts is digits where both parts are
pub digits_number-first_none : (xs ys : List ℕ) → (if all_ascii_digits xs then Some (digits_value 10 xs) else None) ≡ None → digits_number 38 (xs ++ ys) ≡ None
digits_number-first_none xs ys h = grind (arith, nat_tests, all_ascii_digits-append xs ys)

pub digits_number-append : (xs ys : List ℕ) (n : ℕ) → 0 < length xs + length ys → length xs + length ys ≤ 38 → (if all_ascii_digits xs then Some (digits_value 10 xs) else None) ≡ Some n → (if all_ascii_digits ys then Some (digits_value_after 10 n ys) else None) ≡ digits_number 38 (xs ++ ys)
digits_number-append xs ys n some few h = grind (arith, nat_tests, all_ascii_digits-append xs ys, digits_value_after-append 0 xs ys, length-append xs ys)

-- the powers of ten that fit
pub power_fits : (k m : ℕ) → k ≤ m → 1 * 10 ^ k ≤ 10 ^ m
power_fits k m h = let w : 10 ^ k ≤ 10 ^ m = pow-le-pow_right (omega arith) h in omega arith

pub product_fits : (n j k : ℕ) → j + k ≤ 38 → n + 1 ≤ 1 * 10 ^ j → (n + 1) * 10 ^ k ≤ 10 ^ 38
product_fits n j k h small =
    let s : n + 1 ≤ 10 ^ j = omega arith in
    let w : (n + 1) * 10 ^ k ≤ 10 ^ j * 10 ^ k = mul-le-mul_right (10 ^ k) s in
    let e : 10 ^ (j + k) ≡ 10 ^ j * 10 ^ k = pow-add 10 j k in
    let u : 10 ^ (j + k) ≤ 10 ^ 38 = pow-le-pow_right (omega arith) h in
    omega arith

-- a number of few digits is small
pub small_digits : (r : Option ℕ) (k m : ℕ) → k ≤ m → IfSome r (λ n. n + 1 ≤ (0 + 1) * 10 ^ k) → IfSome r (λ n. n < 10 ^ m)
small_digits None k m h s = tt
small_digits (Some n) k m h s = let w : 10 ^ k ≤ 10 ^ m = pow-le-pow_right (omega arith) h in omega arith

-- a text from one of its bytes on
pub rest_of : (s : List ℕ) (i : ℕ) → i < length s → drop i s ≡ get_or s i 0 ∷ drop (i + 1) s
rest_of s i h = rw (add-one, drop-cons s i 0) refl

-- the step over a digit
pub digits_step : (s : List ℕ) (i : ℕ) → i < length s → is_ascii_digit (get_or s i 0) ≡ true → all_ascii_digits (drop (i + 1) s) ≡ all_ascii_digits (drop i s)
digits_step s i h digit = let e : drop i s ≡ get_or s i 0 ∷ drop (i + 1) s = rest_of s i h in rw e (rw digit refl)

pub value_step : (s : List ℕ) (i n d : ℕ) → i < length s → is_ascii_digit (get_or s i 0) ≡ true → d ≡ get_or s i 0 - 48 → digits_value_after 10 (n * 10 + d) (drop (i + 1) s) ≡ digits_value_after 10 n (drop i s)
value_step s i n d h digit is =
    let e : drop i s ≡ get_or s i 0 ∷ drop (i + 1) s = rest_of s i h in
    let v : digit_value (get_or s i 0) ≡ d = (digit_value-digit (get_or s i 0) digit).0 ∙ sym is in
    ap (λ k. digits_value_after 10 (n * 10 + k) (drop (i + 1) s)) (sym v) ∙ sym (ap (digits_value_after 10 n) e)

pub room_step : (s : List ℕ) (i n d m : ℕ) → i < length s → is_ascii_digit (get_or s i 0) ≡ true → d ≡ get_or s i 0 - 48 → (n + 1) * 10 ^ length (drop i s) ≤ m → ((n * 10 + d + 1) * 10 ^ length (drop (i + 1) s) ≤ m) × (n * 10 + d + 1 ≤ m)
room_step s i n d m h digit is room =
    let small : d ≤ 9 = let v : get_or s i 0 - 48 ≤ 9 = (digit_value-digit (get_or s i 0) digit).1 in omega arith in
    let e : length (drop i s) ≡ suc (length (drop (i + 1) s)) = ap length (rest_of s i h) in
    let r : (n + 1) * 10 ^ suc (length (drop (i + 1) s)) ≤ m = subst (λ k. (n + 1) * 10 ^ k ≤ m) e room in
    (digit_room n d (length (drop (i + 1) s)) m small r, digit_fits n d (length (drop (i + 1) s)) m small r)

-- what the digits of both parts of a mantissa give is small
pub small_product : (r : Option ℕ) (n j k : ℕ) → j + k ≤ 38 → n + 1 ≤ 1 * 10 ^ j → IfSome r (λ m. m + 1 ≤ (n + 1) * 10 ^ k) → IfSome r (λ m. m < 10 ^ 38)
small_product None n j k h s l = tt
small_product (Some m) n j k h s l = let w : (n + 1) * 10 ^ k ≤ 10 ^ 38 = product_fits n j k h s in omega arith
