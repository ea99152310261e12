-- A number read from a place on, and what its cap leaves of it.
use mathlib.Core.Path.{◌≡◌, refl, sym, ap, ◌∙◌}
use mathlib.Core.List.{List, [], ◌∷◌}
use mathlib.Core.Bool.{Bool, true, false, cond, ◌&&◌, ◌||◌}
use Prim.Native.Nat.{ℕ, ◌+◌, ◌-◌, ◌*◌, ◌/◌, ◌<◌, ◌≤◌}
use native.Mathlib.Nat.{div-lt_iff_lt-mul, le-div_iff_mul-le, mul-le-mul_left}
use native.Mathlib.Decide.{dec_le, dec_lt}
use native.Mathlib.Numerals.{add-one}
use native.Mathlib.Omega.{arith}
use lib.Dec.{eqb, leb, ltb}
use lib.ListN.{length, drop, get_or, drop_of_length-le}
use lib.Seq.{drop-cons}
use borrow.Author.Tests.{eq-eqb, ne_eqb, le-leb, lt-leb, lt-ltb, le-ltb}
use Rattle.std.specs.Prelude.{Some, None}
use Rattle.program.specs.Number.{digit_of, is_digit, digit, all_digits, is_number, said_after, said_in, most, capped, number_in, number_of, is_hex, either_of}

-- ---- the cap

pub capped_small : (n : ℕ) → n ≤ most → capped n ≡ n
capped_small n h = rw (le-leb n most h)

pub capped-great : (n : ℕ) → most ≤ n → capped n ≡ most
capped-great n h = by-test (dec_le n most)
  where
    by-test : Dec (n ≤ most) → capped n ≡ most
    by-test (yes l) = capped_small n l ∙ omega arith
    by-test (no l) = rw (lt-leb n most (omega arith))

capped-most : (n : ℕ) → capped n ≤ most
capped-most n = by-test (dec_le n most)
  where
    by-test : Dec (n ≤ most) → capped n ≤ most
    by-test (yes l) = omega (arith, capped_small n l)
    by-test (no l) = omega (arith, capped-great n (omega arith))

-- one digit more, where 64 bits hold it and where they don't
module _ (b n d : ℕ) (some : 0 < b) (small : d ≤ most) where
  pub too-great : (most - d) / b < n → capped (n * b + d) ≡ most
  too-great h = capped-great (n * b + d) (omega (arith, small, (div-lt_iff_lt-mul {k = b} {x = most - d} {y = n} some).0 h))

  pub within : n ≤ (most - d) / b → n * b + d ≤ most
  within h = omega (arith, small, (le-div_iff_mul-le {k = b} {x = n} {y = most - d} some).0 h)

-- digits only add to what was said before them
grows : (b n : ℕ) (s : List ℕ) → 0 < b → n ≤ said_after b n s
unfolding said_after
grows b n [] h = omega arith
grows b n (x ∷ xs) h = omega (arith, grows b (n * b + digit_of x) xs h, mul-le-mul_left {m = 1} {n = b} n (omega arith))

-- what was capped on the way is capped at the end
cap-once : (b n : ℕ) (s : List ℕ) → 0 < b → capped (said_after b (capped n) s) ≡ capped (said_after b n s)
cap-once b n s h = by-test (dec_le n most)
  where
    by-test : Dec (n ≤ most) → capped (said_after b (capped n) s) ≡ capped (said_after b n s)
    by-test (yes l) = ap (λ (m : ℕ). capped (said_after b m s)) (capped_small n l)
    by-test (no l) =
        ap (λ (m : ℕ). capped (said_after b m s)) (capped-great n (omega arith))
        ∙ capped-great (said_after b most s) (grows b most s h)
        ∙ sym (capped-great (said_after b n s) (omega (arith, grows b n s h)))

-- ---- a digit, by its range

inside : (a x b : ℕ) → a ≤ x → x ≤ b → leb a x && leb x b ≡ true
inside a x b h l = rw (le-leb a x h, le-leb x b l)

below : (a x b : ℕ) → x < a → leb a x && leb x b ≡ false
below a x b h = rw (lt-leb a x h)

above : (a x b : ℕ) → b < x → leb a x && leb x b ≡ false
above a x b h = rw (lt-leb x b h) (and_no (leb a x))
  where
    and_no : (t : Bool) → t && false ≡ false
    and_no true = refl
    and_no false = refl

module _ (x : ℕ) where
  says : (d : ℕ) → digit_of x ≡ d → d < 16 → Some d ≡ digit x
  says d e h = rw (e, lt-ltb d 16 h)

  says-none : leb 48 x && leb x 57 ≡ false → leb 97 x && leb x 102 ≡ false → leb 65 x && leb x 70 ≡ false → None ≡ digit x
  unfolding digit_of
  says-none e f g = rw (e, f, g)

  -- what is said of a digit, and of what is none
  pub said-by : (d : ℕ) → Some d ≡ digit x → digit_of x ≡ d
  said-by d e = by_test (ltb (digit_of x) 16) e
    where
      by_test : (t : Bool) → Some d ≡ cond t (Some (digit_of x)) None → digit_of x ≡ d
      by_test true f = grind (arith, f)
      by_test false f = grind (arith, f)

  pub none-by : None ≡ digit x → 16 ≤ digit_of x
  none-by e = by_test (dec_lt (digit_of x) 16)
    where
      by_test : Dec (digit_of x < 16) → 16 ≤ digit_of x
      by_test (yes h) =
          let f : None ≡ Some (digit_of x) = e ∙ ap (λ (t : Bool). cond t (Some (digit_of x)) None) (lt-ltb (digit_of x) 16 h) in
          absurd (grind (arith, f))
      by_test (no l) = omega arith

  pub decimal_digit : 48 ≤ x → x ≤ 57 → Some (x - 48) ≡ digit x
  unfolding digit_of
  decimal_digit h l = says (x - 48) (rw (inside 48 x 57 h l)) (omega arith)

  pub lower_digit : 97 ≤ x → x ≤ 102 → Some (x - 87) ≡ digit x
  unfolding digit_of
  lower_digit h l = says (x - 87) (rw (above 48 x 57 (omega arith), inside 97 x 102 h l)) (omega arith)

  pub upper_digit : 65 ≤ x → x ≤ 70 → Some (x - 55) ≡ digit x
  unfolding digit_of
  upper_digit h l = says (x - 55) (rw (above 48 x 57 (omega arith), below 97 x 102 (omega arith), inside 65 x 70 h l)) (omega arith)

  pub below_digits : x < 48 → None ≡ digit x
  below_digits h = says-none (below 48 x 57 h) (below 97 x 102 (omega arith)) (below 65 x 70 (omega arith))

  pub before_upper : 57 < x → x < 65 → None ≡ digit x
  before_upper h l = says-none (above 48 x 57 h) (below 97 x 102 (omega arith)) (below 65 x 70 l)

  pub before_lower : 70 < x → x < 97 → None ≡ digit x
  before_lower h l = says-none (above 48 x 57 (omega arith)) (below 97 x 102 l) (above 65 x 70 h)

  pub above_digits : 102 < x → None ≡ digit x
  above_digits h = says-none (above 48 x 57 (omega arith)) (above 97 x 102 h) (above 65 x 70 (omega arith))

-- ---- the digits of a text

-- the digits of a text s up to place i said n
pub record Reading (b : ℕ) (s : List ℕ) (i n : ℕ) : Type 0 where
  pub digits : all_digits b s ≡ all_digits b (drop i s)
  pub value : capped (said_in b s) ≡ capped (said_after b n (drop i s))
  pub small : n ≤ most

pub start : (b : ℕ) (s : List ℕ) → Reading b s 0 0
start b s = record { digits = refl; value = refl; small = omega arith }

some : (b : ℕ) (s : List ℕ) → 0 < length s → is_number b s ≡ all_digits b s
unfolding is_number
some b [] h = absurd (omega arith)
some b (x ∷ xs) h = refl

pub empty : (b : ℕ) (s : List ℕ) → length s ≤ 0 → None ≡ number_in b s
unfolding number_in is_number
empty b [] h = refl
empty b (x ∷ xs) h = absurd (omega arith)

module _ (b : ℕ) (s : List ℕ) (i n : ℕ) (positive : 0 < b) (inside : i < length s) (g : Reading b s i n) where
  here : drop i s ≡ get_or s i 0 ∷ drop (i + 1) s
  here = rw (add-one i) (drop-cons s i 0 inside)

  tested : all_digits b s ≡ is_digit b (get_or s i 0) && all_digits b (drop (i + 1) s)
  unfolding all_digits
  tested = g.digits ∙ ap (all_digits b) here

  said : capped (said_in b s) ≡ capped (said_after b (n * b + digit_of (get_or s i 0)) (drop (i + 1) s))
  unfolding said_after
  said = g.value ∙ ap (λ (l : List ℕ). capped (said_after b n l)) here

  no_number : is_digit b (get_or s i 0) ≡ false → None ≡ number_in b s
  unfolding number_in
  no_number e = rw (some b s (omega arith), tested, e)

  pub other : (d : ℕ) → Some d ≡ digit (get_or s i 0) → b ≤ d → None ≡ number_in b s
  other d e h = no_number (le-ltb (digit_of (get_or s i 0)) b (omega (arith, said-by (get_or s i 0) d e)))

  pub no_digit : b ≤ 16 → None ≡ digit (get_or s i 0) → None ≡ number_in b s
  no_digit l e = no_number (le-ltb (digit_of (get_or s i 0)) b (omega (arith, none-by (get_or s i 0) e)))

  pub next : (d m : ℕ) → Some d ≡ digit (get_or s i 0) → d < b → m ≡ capped (n * b + d) → Reading b s (i + 1) m
  next d m e h f =
      let k : m ≡ capped (n * b + digit_of (get_or s i 0)) = f ∙ ap (λ (x : ℕ). capped (n * b + x)) (sym (said-by (get_or s i 0) d e)) in
      record {
        digits = tested ∙ rw (lt-ltb (digit_of (get_or s i 0)) b (omega (arith, said-by (get_or s i 0) d e)));
        value = said ∙ sym (cap-once b (n * b + digit_of (get_or s i 0)) (drop (i + 1) s) positive) ∙ sym (ap (λ (x : ℕ). capped (said_after b x (drop (i + 1) s))) k);
        small = omega (arith, k, capped-most (n * b + digit_of (get_or s i 0)));
      }

-- ---- the answer

pub all_read : (b : ℕ) (s : List ℕ) → 0 < length s → (i n : ℕ) → length s ≤ i → Reading b s i n → Some n ≡ number_in b s
unfolding number_in all_digits said_after
all_read b s h i n l g =
    let none : drop i s ≡ [] = drop_of_length-le s l in
    let yes : is_number b s ≡ true = some b s h ∙ g.digits ∙ ap (all_digits b) none in
    let value : capped (said_in b s) ≡ n = g.value ∙ ap (λ (x : List ℕ). capped (said_after b n x)) none ∙ capped_small n g.small in
    rw yes (ap Some (sym value))

-- ---- `0x`

pub too_short : (s : List ℕ) → length s < 2 → false ≡ is_hex s
unfolding is_hex
too_short [] h = refl
too_short (x ∷ []) h = refl
too_short (x ∷ y ∷ s) h = absurd (omega arith)

pub by_mark : (s : List ℕ) → 2 ≤ length s → get_or s 0 0 ≡ 48 → eqb (get_or s 1 0) 120 || eqb (get_or s 1 0) 88 ≡ is_hex s
unfolding is_hex
by_mark [] h e = absurd (omega arith)
by_mark (x ∷ []) h e = absurd (omega arith)
by_mark (x ∷ y ∷ s) h e = rw (eq-eqb x 48 e)

pub by_zero : (s : List ℕ) → 2 ≤ length s → (get_or s 0 0 ≡ 48 → ⊥) → false ≡ is_hex s
unfolding is_hex
by_zero [] h n = absurd (omega arith)
by_zero (x ∷ []) h n = absurd (omega arith)
by_zero (x ∷ y ∷ s) h n = rw (ne_eqb x 48 n)

-- the mark is two bytes
pub two_or_more : (s : List ℕ) → is_hex s ≡ true → 2 ≤ length s
unfolding is_hex
two_or_more [] e = absurd (grind (arith, e))
two_or_more (x ∷ []) e = absurd (grind (arith, e))
two_or_more (x ∷ y ∷ s) e = omega arith

-- what it decides
pub hexadecimal : (s : List ℕ) → is_hex s ≡ true → number_in 16 (drop 2 s) ≡ either_of s
unfolding either_of
hexadecimal s e = rw e

pub decimal : (s : List ℕ) → is_hex s ≡ false → number_of s ≡ either_of s
unfolding either_of
decimal s e = rw e

-- ---- by example: `0023`, `+1`, `1x`, and `18446744073709551616`, the first number of more than 64 bits

pub zeros-in-front : number_of (48 ∷ 48 ∷ 50 ∷ 51 ∷ []) ≡ Some 23
unfolding number_of number_in is_number all_digits said_after digit_of
zeros-in-front = refl

pub no_sign : number_of (43 ∷ 49 ∷ []) ≡ None
unfolding number_of number_in is_number all_digits said_after digit_of
no_sign = refl

pub no-letter : number_of (49 ∷ 120 ∷ []) ≡ None
unfolding number_of number_in is_number all_digits said_after digit_of
no-letter = refl

pub beyond : number_of (49 ∷ 56 ∷ 52 ∷ 52 ∷ 54 ∷ 55 ∷ 52 ∷ 52 ∷ 48 ∷ 55 ∷ 51 ∷ 55 ∷ 48 ∷ 57 ∷ 53 ∷ 53 ∷ 49 ∷ 54 ∷ 49 ∷ 54 ∷ []) ≡ Some most
unfolding number_of number_in is_number all_digits said_after digit_of
beyond = refl

-- `0x8086`, `0X0fF`, `023`; `0x` and `0xg` and `1f` are none; and `0x10000000000000000`

pub hex-lower : either_of (48 ∷ 120 ∷ 56 ∷ 48 ∷ 56 ∷ 54 ∷ []) ≡ Some 32902
unfolding either_of is_hex number_in is_number all_digits said_after digit_of
hex-lower = refl

pub hex-upper : either_of (48 ∷ 88 ∷ 48 ∷ 102 ∷ 70 ∷ []) ≡ Some 255
unfolding either_of is_hex number_in is_number all_digits said_after digit_of
hex-upper = refl

pub never-octal : either_of (48 ∷ 50 ∷ 51 ∷ []) ≡ Some 23
unfolding either_of is_hex number_of number_in is_number all_digits said_after digit_of
never-octal = refl

pub hex-none : either_of (48 ∷ 120 ∷ []) ≡ None
unfolding either_of is_hex number_in is_number all_digits said_after digit_of
hex-none = refl

pub hex-other : either_of (48 ∷ 120 ∷ 103 ∷ []) ≡ None
unfolding either_of is_hex number_in is_number all_digits said_after digit_of
hex-other = refl

pub no-mark : either_of (49 ∷ 102 ∷ []) ≡ None
unfolding either_of is_hex number_of number_in is_number all_digits said_after digit_of
no-mark = refl

pub hex-beyond : either_of (48 ∷ 120 ∷ 49 ∷ 48 ∷ 48 ∷ 48 ∷ 48 ∷ 48 ∷ 48 ∷ 48 ∷ 48 ∷ 48 ∷ 48 ∷ 48 ∷ 48 ∷ 48 ∷ 48 ∷ 48 ∷ 48 ∷ []) ≡ Some most
unfolding either_of is_hex number_in is_number all_digits said_after digit_of
hex-beyond = refl
