-- Comparator facts, once over the width w: places on a counter of 2^w, and how many firings fall into n ticks.
use Rattle.std.proofs.Common.{◌≡◌, ℕ, suc, ◌+◌, ◌-◌, ◌*◌, ◌/◌, ◌%◌, ◌^◌, ◌<◌, ◌≤◌, Bool, true, false, cond, eqb, sym, refl, ap, ◌∙◌, add_assoc, mul-le-mul_right, suc-mul, div-add-mod', zero-mul, div-mul-le_self, add-one, arith, pow_pos, le-ltb, lt-ltb, eq-eqb, ne_eqb, eqb-true}
use native.Mathlib.Nat.{div-zero, zero-div, lt-div-mul-add, div-eq_of_lt-le, mod-add-mod}
use native.Mathlib.Decide.{dec_le, dec_lt, ℕ_discrete}
use Rattle.timer.specs.Closed.{times}
use borrow.Author.Tests.{eqb-false}

-- two tests agree if the equations that they test do
pub eqb-iff : (a b a' b' : ℕ) → (a ≡ b → a' ≡ b') → (a' ≡ b' → a ≡ b) → eqb a b ≡ eqb a' b'
eqb-iff a b a' b' f g = go (eqb a' b') refl
  where
    go : (t : Bool) → eqb a' b' ≡ t → eqb a b ≡ eqb a' b'
    go true e = eq-eqb a b (g (eqb-true a' b' e)) ∙ sym e
    go false e = ne_eqb a b (λ q. eqb-false a' b' e (f q)) ∙ sym e

-- a number less than the modulus that changes no remainder is 0
no-turn : (m a k : ℕ) → 0 < m → k < m → (a + k) % m ≡ a % m → k ≡ 0
no-turn m a k hm hk e = go (dec_le ((a + k) / m) (a / m))
  where
    go : Dec ((a + k) / m ≤ a / m) → k ≡ 0
    go (yes h) = omega (arith, div-add-mod' (a + k) m, div-add-mod' a m, mul-le-mul_right m h)
    go (no h) =
        let z : suc (a / m) ≤ (a + k) / m = omega arith in
        let y : suc (a / m) * m ≤ (a + k) / m * m = mul-le-mul_right m z in
        omega (arith, div-add-mod' (a + k) m, div-add-mod' a m, suc-mul (a / m) m)

-- two places nearer than the modulus that have one remainder are one place
pub same_place : (w c x e : ℕ) → x < e + 2 ^ w → e < x + 2 ^ w → (c + x) % 2 ^ w ≡ (c + e) % 2 ^ w → x ≡ e
same_place w c x e hx he q = go (dec_le x e)
  where
    go : Dec (x ≤ e) → x ≡ e
    go (yes h) =
        let r : c + x + (e - x) ≡ c + e = omega arith in
        let p : (c + x + (e - x)) % 2 ^ w ≡ (c + x) % 2 ^ w = ap (λ (z : ℕ). z % 2 ^ w) r ∙ sym q in
        omega (arith, no-turn (2 ^ w) (c + x) (e - x) (pow_pos w) (omega arith) p)
    go (no h) =
        let r : c + e + (x - e) ≡ c + x = omega arith in
        let p : (c + e + (x - e)) % 2 ^ w ≡ (c + e) % 2 ^ w = ap (λ (z : ℕ). z % 2 ^ w) r ∙ q in
        omega (arith, no-turn (2 ^ w) (c + e) (x - e) (pow_pos w) (omega arith) p)

pub times-never : (s n : ℕ) → times 0 s n ≡ 0
unfolding times
times-never s n = refl

pub times-early : (d s n : ℕ) → n < d → times d s n ≡ 0
unfolding times
times-early d s n h = simp (ne_eqb d 0 (omega arith), lt-ltb n d h)

pub times-late : (d s n : ℕ) → 0 < d → d ≤ n → times d s n ≡ 1 + (n - d) / s
unfolding times
times-late d s n p h = simp (ne_eqb d 0 (omega arith), le-ltb n d h)

abbrev Grows : ℕ → ℕ → ℕ → Type 0
Grows d s n = times d s (suc n) ≡ times d s n + cond (eqb (suc n) (d + times d s n * s)) 1 0

grows_from :
    (d s n f g : ℕ) → times d s n ≡ f → times d s (suc n) ≡ g → g ≡ f + cond (eqb (suc n) (d + f * s)) 1 0 → Grows d s n
grows_from d s n f g e e' h = rw (e, e') h

-- the quotient of n + 1 - d from that of n - d
grows-late : (d s n : ℕ) → 0 < d → d ≤ n → Grows d s n
grows-late d s n p h = by-s (dec_lt 0 s)
  where
    q : ℕ
    q = (n - d) / s

    at_next : suc n ≡ d + (1 + q) * s → 0 < s → Grows d s n
    at_next e hs =
        let l : (1 + q) * s ≤ suc n - d = omega arith in
        let r : suc n - d < (1 + q + 1) * s = omega (arith, suc-mul (1 + q) s, add-one (1 + q)) in
        grows_from d s n (1 + q) (1 + (1 + q)) (times-late d s n p h)
        (times-late d s (suc n) p (omega arith) ∙ ap (λ (z : ℕ). 1 + z) (div-eq_of_lt-le s l r))
        (rw (eq-eqb (suc n) (d + (1 + q) * s) e) (omega arith))

    not_yet : (suc n ≡ d + (1 + q) * s → ⊥) → 0 < s → Grows d s n
    not_yet e hs =
        let l : q * s ≤ suc n - d = omega (arith, div-mul-le_self (n - d) s) in
        let r : suc n - d < (q + 1) * s = omega (arith, lt-div-mul-add {a = n - d} {b = s} hs) in
        grows_from d s n (1 + q) (1 + q) (times-late d s n p h)
        (times-late d s (suc n) p (omega arith) ∙ ap (λ (z : ℕ). 1 + z) (div-eq_of_lt-le s l r))
        (rw (ne_eqb (suc n) (d + (1 + q) * s) e) (omega arith))

    by_place : 0 < s → Dec (suc n ≡ d + (1 + q) * s) → Grows d s n
    by_place hs (yes e) = at_next e hs
    by_place hs (no e) = not_yet e hs

    by-s : Dec (0 < s) → Grows d s n
    by-s (yes hs) = by_place hs (ℕ_discrete (suc n) (d + (1 + q) * s))
    by-s (no hs) =
        let e : s ≡ 0 = omega arith in
        grows_from d s n 1 1 (times-late d s n p h ∙ rw e (rw div-zero refl))
        (times-late d s (suc n) p (omega arith) ∙ rw e (rw div-zero refl))
        (rw (ne_eqb (suc n) (d + 1 * s) (omega arith)))

-- one tick more: one firing more exactly where the tick is the next one due
pub grows : (d s n : ℕ) → Grows d s n
grows d s n = by-d (dec_lt 0 d)
  where
    never : d ≡ 0 → Grows d s n
    never e =
        grows_from d s n 0 0 (rw e (times-never s n)) (rw e (times-never s (suc n)))
        (simp (e, zero-mul, ne_eqb (suc n) 0 (omega arith)))

    early : suc n < d → Grows d s n
    early h =
        grows_from d s n 0 0 (times-early d s n (omega arith)) (times-early d s (suc n) h)
        (simp (ne_eqb (suc n) (d + 0 * s) (omega (arith, zero-mul s))))

    due : suc n ≡ d → Grows d s n
    due e =
        let z : suc n - d ≡ 0 = omega arith in
        grows_from d s n 0 1 (times-early d s n (omega arith))
        (times-late d s (suc n) (omega arith) (omega arith) ∙ rw z (rw zero-div refl))
        (simp (eq-eqb (suc n) (d + 0 * s) (omega (arith, zero-mul s))))

    by_n : 0 < d → Dec (d ≤ n) → Dec (suc n ≡ d) → Grows d s n
    by_n p (yes h) e = grows-late d s n p h
    by_n p (no h) (yes e) = due e
    by_n p (no h) (no e) = early (omega arith)

    by-d : Dec (0 < d) → Grows d s n
    by-d (yes p) = by_n p (dec_le d n) (ℕ_discrete (suc n) d)
    by-d (no p) = never (omega arith)

-- the place of the next firing is less than a turn ahead
pub near : (w d s n : ℕ) → d < 2 ^ w → s < 2 ^ w → suc n < 2 ^ w → d + times d s n * s < suc n + 2 ^ w
near w d s n hd hs hn = by-d (dec_lt 0 d) (dec_le d n)
  where
    by-d : Dec (0 < d) → Dec (d ≤ n) → d + times d s n * s < suc n + 2 ^ w
    by-d (yes p) (yes h) = rw (times-late d s n p h) (omega (arith, div-mul-le_self (n - d) s))
    by-d (yes p) (no h) = rw (times-early d s n (omega arith)) (omega (arith, zero-mul s))
    by-d (no p) h =
        let e : d ≡ 0 = omega arith in
        rw e (rw (times-never s n) (omega (arith, zero-mul s)))

-- at the counter c + n + 1 the comparator k, moved on at each firing so far, matches exactly where that tick is the next one due
pub hit :
    (w c k d s n : ℕ) → d < 2 ^ w → s < 2 ^ w → suc n < 2 ^ w → (c + d) % 2 ^ w ≡ k →
    eqb ((c + suc n) % 2 ^ w) ((k + times d s n * s) % 2 ^ w) ≡ eqb (suc n) (d + times d s n * s)
hit w c k d s n hd hs hn e =
    ap (λ (z : ℕ). eqb ((c + suc n) % 2 ^ w) z) place
    ∙ eqb-iff ((c + suc n) % 2 ^ w) ((c + (d + times d s n * s)) % 2 ^ w) (suc n) (d + times d s n * s)
    (same_place w c (suc n) (d + times d s n * s) (omega arith) (near w d s n hd hs hn))
    (ap (λ (z : ℕ). (c + z) % 2 ^ w))
  where
    place : (k + times d s n * s) % 2 ^ w ≡ (c + (d + times d s n * s)) % 2 ^ w
    place =
        ap (λ (z : ℕ). (z + times d s n * s) % 2 ^ w) (sym e)
        ∙ mod-add-mod (c + d) (2 ^ w) (times d s n * s)
        ∙ ap (λ (z : ℕ). z % 2 ^ w) (add_assoc c d (times d s n * s))
