-- A key's masks as sums of its fields, and what they decide: the same as the low word does.
use mathlib.Core.Path.{◌≡◌, refl, sym, ap, ap₂, ◌∙◌}
use mathlib.Core.Bool.{Bool, true, false, not, cond, ◌&&◌, ◌||◌}
use mathlib.Core.List.{List}
use Prim.Native.Nat.{ℕ, zero, suc, ◌+◌, ◌*◌, ◌/◌, ◌%◌, ◌^◌, ◌<◌, ◌≤◌, min}
use native.Mathlib.Nat.{mod-lt, mod-eq_of_lt, zero-add, add-zero, add_comm}
use native.Mathlib.Omega.{arith}
use native.Mathlib.Decide.{ℕ_discrete}
use lib.Dec.{eqb, ltb, lit<}
use borrow.Author.Tests.{eq-eqb, ne_eqb, lt-ltb, le-ltb}
use lib.Bits.{bit_and, bit_or, bit_xor, and_mask, and_high, and_le_l, and_le_r, xor_lt, xor_add_and, xor_block, or_shifted_r}
use lib.Count.{count_trailing_zeros, under}
use mir.Val.{bool_byte}
use Rattle.pins.specs.Pins.{bits_from, bits_of, first_from}
use Rattle.pins.proofs.Bit.{and_split}
use Rattle.pins.proofs.Fill.{get_or-tab}
use Rattle.pins.proofs.Digits.{bits-lt, bits-over, bits-same, zeros-first}
use Rattle.entries.specs.declared.Entries.{Entries}
use Rattle.entries.specs.Word.{mode_of, remote_of, level_of, masked_of}
use Rattle.entries.specs.Pin.{asserted, eligible}
use Rattle.entries.specs.Table.{low_at, level_at, held_at, eligible_at, first_eligible}
use Rattle.entries.specs.Inner.{eligible_pins, edge_eligible, level_eligible, key_of, keys_of, eligible_by_key}

-- ---- the fields of a key are those of twice the key

module _ (k : ℕ) (fits : k < 2 ^ 16) where
  mode-14 : k % 16384 / 128 % 8 ≡ k / 128 % 8
  mode-14 = omega arith

  mode-13 : k % 8192 / 128 % 8 ≡ k / 128 % 8
  mode-13 = omega arith

  and-edge : bit_and k 0xc380 ≡ k / 16384 * 16384 + k / 128 % 8 * 128
  and-edge =
      and_split k 14 3 0x380 (lit< tt)
      ∙ ap₂ (λ (x y : ℕ). x * 16384 + y)
      (and_mask (k / 16384) 2 ∙ mod-eq_of_lt {n = k / 16384} {m = 2 ^ 2} (omega arith))
      (and_high (k % 16384) 3 7 ∙ ap (λ (x : ℕ). x * 128) mode-14)

  and-level : bit_and k 0xe380 ≡ k / 8192 * 8192 + k / 128 % 8 * 128
  and-level =
      and_split k 13 7 0x380 (lit< tt)
      ∙ ap₂ (λ (x y : ℕ). x * 8192 + y)
      (and_mask (k / 8192) 3 ∙ mod-eq_of_lt {n = k / 8192} {m = 2 ^ 3} (omega arith))
      (and_high (k % 8192) 3 7 ∙ ap (λ (x : ℕ). x * 128) mode-13)

  masked-of : k * 2 / 65536 % 2 ≡ k / 32768
  masked-of = omega arith

  level-of : k * 2 / 32768 % 2 ≡ k / 16384 % 2
  level-of = omega arith

  remote-of : k * 2 / 16384 % 2 ≡ k / 8192 % 2
  remote-of = omega arith

  active-low-of : k * 2 / 8192 % 2 ≡ k / 4096 % 2
  active-low-of = omega arith

  mode-of : k * 2 / 256 % 8 ≡ k / 128 % 8
  mode-of = omega arith

  upper-2 : k / 16384 ≡ k / 32768 * 2 + k / 16384 % 2
  upper-2 = omega arith

  upper-3 : k / 8192 ≡ k / 32768 * 4 + k / 16384 % 2 * 2 + k / 8192 % 2
  upper-3 = omega arith

below : (n : ℕ) → n < 2 → (n ≡ 1 → ⊥) → n ≡ 0
below zero h f = refl
below (suc zero) h f = absurd (f refl)
below (suc (suc n)) h f = absurd (omega arith)

-- ---- an eligible edge pin: mask, level and mode are 0, and a held edge is 1 on top of them

edge-sum : (m v d h : ℕ) → m < 2 → v < 2 → eqb ((m * 2 + v) * 16384 + d * 128 + h) 1 ≡ not (eqb m 1) && eqb d 0 && (not (eqb v 1) && eqb h 1)
edge-sum m v d h i j = go (ℕ_discrete m 1) (ℕ_discrete d 0) (ℕ_discrete v 1) (ℕ_discrete h 1)
  where
    sum : ℕ
    sum = (m * 2 + v) * 16384 + d * 128 + h

    none : (sum ≡ 1 → ⊥) → eqb sum 1 ≡ false
    none f = ne_eqb sum 1 f

    go : Dec (m ≡ 1) → Dec (d ≡ 0) → Dec (v ≡ 1) → Dec (h ≡ 1) → eqb sum 1 ≡ not (eqb m 1) && eqb d 0 && (not (eqb v 1) && eqb h 1)
    go (yes x) y z w = none (λ q. omega arith) ∙ sym (rw (eq-eqb m 1 x))
    go (no x) (no y) z w = none (λ q. y (omega arith)) ∙ sym (rw (ne_eqb m 1 x, ne_eqb d 0 y))
    go (no x) (yes y) (yes z) w = none (λ q. omega arith) ∙ sym (rw (ne_eqb m 1 x, eq-eqb d 0 y, eq-eqb v 1 z))
    go (no x) (yes y) (no z) (no w) = none (λ q. w (omega arith)) ∙ sym (rw (ne_eqb m 1 x, eq-eqb d 0 y, ne_eqb v 1 z, ne_eqb h 1 w))
    go (no x) (yes y) (no z) (yes w) =
        let a : m ≡ 0 = below m i x in
        let b : v ≡ 0 = below v j z in
        eq-eqb sum 1 (omega arith) ∙ sym (rw (ne_eqb m 1 x, eq-eqb d 0 y, ne_eqb v 1 z, eq-eqb h 1 w))

-- ---- an eligible level pin: of mask, level, remote IRR and mode level alone is 1, and the wire is asserted

pos : (a : ℕ) → (a ≡ 0 → ⊥) → 0 < a
pos a f = omega arith

xor-none : (a b : ℕ) → bit_xor a b ≡ 0 → a ≡ b
xor-none a b e = omega (arith, xor_add_and a b, and_le_l a b, and_le_r a b)

level-sum : (m v r d a x : ℕ) → m < 2 → v < 2 → r < 2 → d < 8 → a < 4 → x ≡ bit_xor ((m * 4 + v * 2 + r) * 64 + d) 128 * 128
    → ltb x a ≡ not (eqb m 1) && eqb d 0 && (eqb v 1 && not (eqb a 0) && not (eqb r 1))
level-sum m v r d a x i j k l n e = go (ℕ_discrete m 1) (ℕ_discrete d 0) (ℕ_discrete v 1) (ℕ_discrete a 0) (ℕ_discrete r 1)
  where
    bits : ℕ
    bits = (m * 4 + v * 2 + r) * 64 + d

    other : (bits ≡ 128 → ⊥) → ltb x a ≡ false
    other f = le-ltb x a (omega (arith, e, pos (bit_xor bits 128) (λ q. f (xor-none bits 128 q))))

    alone : bits ≡ 128 → x ≡ 0
    alone q = e ∙ ap (λ (y : ℕ). bit_xor y 128 * 128) q

    go : Dec (m ≡ 1) → Dec (d ≡ 0) → Dec (v ≡ 1) → Dec (a ≡ 0) → Dec (r ≡ 1) → ltb x a ≡ not (eqb m 1) && eqb d 0 && (eqb v 1 && not (eqb a 0) && not (eqb r 1))
    go (yes x) y z u t = other (λ q. omega arith) ∙ sym (rw (eq-eqb m 1 x))
    go (no x) (no y) z u t = other (λ q. y (omega arith)) ∙ sym (rw (ne_eqb m 1 x, ne_eqb d 0 y))
    go (no x) (yes y) (no z) u t = other (λ q. z (omega arith)) ∙ sym (rw (ne_eqb m 1 x, eq-eqb d 0 y, ne_eqb v 1 z))
    go (no x) (yes y) (yes z) (yes u) t = le-ltb _ a (omega arith) ∙ sym (rw (ne_eqb m 1 x, eq-eqb d 0 y, eq-eqb v 1 z, eq-eqb a 0 u))
    go (no x) (yes y) (yes z) (no u) (yes t) = other (λ q. omega arith) ∙ sym (rw (ne_eqb m 1 x, eq-eqb d 0 y, eq-eqb v 1 z, ne_eqb a 0 u, eq-eqb r 1 t))
    go (no x) (yes y) (yes z) (no u) (no t) =
        let b : m ≡ 0 = below m i x in
        let c : r ≡ 0 = below r k t in
        lt-ltb _ a (omega (arith, alone (omega arith), pos a u)) ∙ sym (rw (ne_eqb m 1 x, eq-eqb d 0 y, eq-eqb v 1 z, ne_eqb a 0 u, ne_eqb r 1 t))

-- a level of 2 or more differs from either polarity, as 2 does
differs : (l a : ℕ) → a < 2 → eqb (bit_xor (min l 2) a) 0 ≡ eqb l a
differs zero zero h = refl
differs zero (suc zero) h = refl
differs (suc zero) zero h = refl
differs (suc zero) (suc zero) h = refl
differs (suc (suc l)) zero h =
    let e : min (suc (suc l)) 2 ≡ 2 = omega arith in
    rw e (sym (ne_eqb (suc (suc l)) 0 (λ q. omega arith)))
differs (suc (suc l)) (suc zero) h =
    let e : min (suc (suc l)) 2 ≡ 2 = omega arith in
    rw e (sym (ne_eqb (suc (suc l)) 1 (λ q. omega arith)))
differs l (suc (suc a)) h = absurd (omega arith)

-- ---- what a key decides

module _ (k : ℕ) (fits : k < 2 ^ 16) where
  pub edge-eligible : (h : ℕ) → eqb (bit_and k 0xc380 + h) 1 ≡ edge_eligible (k * 2) h
  unfolding edge_eligible masked_of mode_of level_of
  edge-eligible h =
      ap (λ (x : ℕ). eqb (x + h) 1) (and-edge k fits ∙ ap (λ (x : ℕ). x * 16384 + k / 128 % 8 * 128) (upper-2 k fits))
      ∙ edge-sum (k / 32768) (k / 16384 % 2) (k / 128 % 8) h (omega arith) (mod-lt (k / 16384) (lit< tt))
      ∙ sym (rw (masked-of k fits, level-of k fits, mode-of k fits))

  differs-lt : (l : ℕ) → bit_xor (min l 2) (k / 4096 % 2) < 4
  differs-lt l = xor_lt 2 (min l 2) (k / 4096 % 2) (omega arith) (omega arith)

  level-bits : bit_xor (bit_and k 0xe380) 0x4000 ≡ bit_xor ((k / 32768 * 4 + k / 16384 % 2 * 2 + k / 8192 % 2) * 64 + k / 128 % 8) 128 * 128
  level-bits =
      let h = (k / 32768 * 4 + k / 16384 % 2 * 2 + k / 8192 % 2) * 64 + k / 128 % 8 in
      let e : bit_and k 0xe380 ≡ h * 128 + 0 = omega (arith, and-level k fits, upper-3 k fits) in
      ap (λ (x : ℕ). bit_xor x 0x4000) e ∙ xor_block 7 h 128 0 0 (lit< tt) (lit< tt) ∙ add-zero (bit_xor h 128 * 128)

  pub level-eligible : (l : ℕ) → ltb (bit_xor (bit_and k 0xe380) 0x4000) (bit_xor (min l 2) (bit_and (k / 4096) 1)) ≡ level_eligible (k * 2) l
  unfolding level_eligible masked_of mode_of level_of remote_of asserted
  level-eligible l =
      ap (λ (y : ℕ). ltb (bit_xor (bit_and k 0xe380) 0x4000) (bit_xor (min l 2) y)) (and_mask (k / 4096) 1)
      ∙ level-sum (k / 32768) (k / 16384 % 2) (k / 8192 % 2) (k / 128 % 8) (bit_xor (min l 2) (k / 4096 % 2)) (bit_xor (bit_and k 0xe380) 0x4000)
      (omega arith) (mod-lt (k / 16384) (lit< tt)) (mod-lt (k / 8192) (lit< tt)) (mod-lt (k / 128) (lit< tt)) (differs-lt l) level-bits
      ∙ sym (rw (masked-of k fits, level-of k fits, remote-of k fits, mode-of k fits, active-low-of k fits, sym (differs l (k / 4096 % 2) (mod-lt (k / 4096) (lit< tt)))))

-- an eligible pin is either
pub either-eligible : (w l h : ℕ) → eligible w l h ≡ edge_eligible w h || level_eligible w l
unfolding eligible edge_eligible level_eligible
either-eligible w l h = go (not (masked_of w) && eqb (mode_of w) 0) (not (level_of w) && eqb h 1) (level_of w && asserted w l && not (remote_of w))
  where
    go : (a x y : Bool) → a && (x || y) ≡ a && x || a && y
    go true x y = refl
    go false x y = refl

pub or_bytes : (a b : Bool) → bit_or (bool_byte a) (bool_byte b) ≡ bool_byte (a || b)
or_bytes true true = refl
or_bytes true false = refl
or_bytes false true = refl
or_bytes false false = refl

-- ---- a word's key decides as the word does

module _ (w : ℕ) where
  fits-key : w / 2 % 65536 < 2 ^ 16
  fits-key = mod-lt (w / 2) (lit< tt)

  masked-key : w / 2 % 65536 / 32768 ≡ w / 65536 % 2
  masked-key = omega arith

  level-key : w / 2 % 65536 / 16384 % 2 ≡ w / 32768 % 2
  level-key = omega arith

  remote-key : w / 2 % 65536 / 8192 % 2 ≡ w / 16384 % 2
  remote-key = omega arith

  active-low-key : w / 2 % 65536 / 4096 % 2 ≡ w / 8192 % 2
  active-low-key = omega arith

  mode-key : w / 2 % 65536 / 128 % 8 ≡ w / 256 % 8
  mode-key = omega arith

  pub key-eligible : (l h : ℕ) → eligible (key_of w * 2) l h ≡ eligible w l h
  unfolding eligible masked_of mode_of level_of remote_of asserted key_of
  key-eligible l h =
      let k = w / 2 % 65536 in
      rw (masked-of k fits-key ∙ masked-key, level-of k fits-key ∙ level-key, remote-of k fits-key ∙ remote-key, active-low-of k fits-key ∙ active-low-key, mode-of k fits-key ∙ mode-key)

-- ---- the lowest bit that is 1

module _ (p : ℕ → Bool) where
  found-above : (at n k x r : ℕ) (b : Bool) → ((x ≡ 0 → ⊥) → (suc at + count_trailing_zeros k x ≡ r) × (r < suc at + n)) → (x * 2 + bool_byte b ≡ 0 → ⊥)
      → (at + under ((x * 2 + bool_byte b) % 2) (count_trailing_zeros k ((x * 2 + bool_byte b) / 2)) ≡ cond b at r) × (cond b at r < at + suc n)
  found-above at n k x r true f g =
      let odd : (x * 2 + 1) % 2 ≡ 1 = omega arith in
      (rw odd (add-zero at), omega arith)
  found-above at n k x r false f g =
      let even : (x * 2 + 0) % 2 ≡ 0 = omega arith in
      let half : (x * 2 + 0) / 2 ≡ x = omega arith in
      let y = f (λ q. g (omega (arith, q))) in
      (rw (even, half) (omega (arith, y.0)), omega (arith, y.1))

  zeros-found : (at n k : ℕ) → n ≤ k → (bits_from p at n ≡ 0 → ⊥) → (at + count_trailing_zeros k (bits_from p at n) ≡ first_from p at n) × (first_from p at n < at + n)
  unfolding bits_from first_from count_trailing_zeros
  zeros-found at zero k h f = absurd (f refl)
  zeros-found at (suc n) zero h f = absurd (omega (arith, h))
  zeros-found at (suc n) (suc k) h f =
      found-above at n k (bits_from p (suc at) n) (first_from p (suc at) n) (p at) (zeros-found (suc at) n k (omega (arith, h))) f

  none-above : (at n x r : ℕ) (b : Bool) → (x ≡ 0 → r ≡ suc at + n) → x * 2 + bool_byte b ≡ 0 → cond b at r ≡ at + suc n
  none-above at n x r true f q = absurd (omega (arith, q))
  none-above at n x r false f q = omega (arith, f (omega (arith, q)))

  none-found : (at n : ℕ) → bits_from p at n ≡ 0 → first_from p at n ≡ at + n
  unfolding bits_from first_from
  none-found at zero e = sym (add-zero at)
  none-found at (suc n) e = none-above at n (bits_from p (suc at) n) (first_from p (suc at) n) (p at) (none-found (suc at) n) e

-- ---- all pins

module _ (e : Entries) where
  pub keys-bits : (k : List ℕ) → k ≡ keys_of e.low → (at n : ℕ) → at + n ≤ 24 → bits_from (eligible_by_key k e.level e.held) at n ≡ bits_from (eligible_at e) at n
  unfolding keys_of
  keys-bits k q at n h =
      ap (λ (x : List ℕ). bits_from (eligible_by_key x e.level e.held) at n) q
      ∙ bits-same (eligible_by_key (keys_of e.low) e.level e.held) (eligible_at e) at n
      (λ i l.
      ap (λ (x : ℕ). eligible (x * 2) (level_at e i) (held_at e i)) (get_or-tab (λ j. key_of (low_at e j)) 24 i 0 (omega arith))
      ∙ key-eligible (low_at e i) (level_at e i) (held_at e i))

  -- pins 0 to 15, and 8 to 23 on top of the lowest eight
  pub two-sixteens : bit_or (bits_from (eligible_at e) 0 16) (bits_from (eligible_at e) 8 16 * 2 ^ 8 % 2 ^ 32) ≡ eligible_pins e
  unfolding eligible_pins
  two-sixteens =
      ap (bit_or (bits_from (eligible_at e) 0 16)) (mod-eq_of_lt {n = bits_from (eligible_at e) 8 16 * 2 ^ 8} {m = 2 ^ 32} (omega (arith, bits-lt (eligible_at e) 8 16)))
      ∙ bits-over (eligible_at e) 0 8 8 8

  -- with bit 24 put in
  pub lowest-zeros : count_trailing_zeros 32 (bit_or (eligible_pins e) (2 ^ 24)) ≡ first_eligible e
  unfolding eligible_pins first_eligible
  lowest-zeros =
      let b = bits_of (eligible_at e) in
      ap (count_trailing_zeros 32) (or_shifted_r 1 24 b (bits-lt (eligible_at e) 0 24) ∙ add_comm (2 ^ 24) b)
      ∙ sym (zero-add (count_trailing_zeros 32 (b + 2 ^ 24)))
      ∙ zeros-first (eligible_at e) 0 24 32 (lit< tt)

  -- as the code counts it, where any pin is eligible
  pub lowest-counted : (eligible_pins e ≡ 0 → ⊥) → (count_trailing_zeros 32 (eligible_pins e) ≡ first_eligible e) × (first_eligible e < 24)
  unfolding eligible_pins first_eligible
  lowest-counted f =
      let x = zeros-found (eligible_at e) 0 24 32 (omega arith) f in
      (sym (zero-add (count_trailing_zeros 32 (bits_of (eligible_at e)))) ∙ x.0, omega (arith, x.1))

  -- and where none is
  pub lowest-none : eligible_pins e ≡ 0 → first_eligible e ≡ 24
  unfolding eligible_pins first_eligible
  lowest-none = none-found (eligible_at e) 0 24
