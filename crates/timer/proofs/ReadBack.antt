-- One timer's two registers: what a read gives after a write of either, over the bits written and read.
use Rattle.std.proofs.Common.{◌≡◌, ℕ, zero, suc, ◌+◌, ◌*◌, ◌/◌, ◌%◌, ◌^◌, ◌<◌, Bool, true, false, cond, eqb, sym, refl, ap, ◌∙◌, ap₂, mod-lt, one-mul, zero-mul, arith, lit<}
use native.Mathlib.Decide.{ℕ_discrete}
use mir.Val.{bool_byte}
use borrow.Author.Tests.{eqb-false}
use Rattle.timer.specs.declared.Timer.{Timer}
use Rattle.timer.specs.State.{flag, reduced, narrowed, with_comparator, with_period, with_set, reset_timer}
use Rattle.timer.specs.Mask.{in_mask, lowest}
use Rattle.timer.specs.Formed.{Formed}
use Rattle.timer.specs.Registers.{bit, configuration_of, configured_of, set_of, cleared_of}

-- a configuration of its fields: the mask above, 13:9 route, 8 32-bit mode, 6 set-comparator, 5 and 4, 3 periodic, 2 interrupt enable, 1 level type
abbrev pub fields : ℕ → ℕ → ℕ → ℕ → ℕ → ℕ → ℕ → ℕ
fields mask route narrow set periodic interrupt level =
    mask * 2 ^ 32 + (route * 2 ^ 9 + (narrow * 2 ^ 8 + (set * 2 ^ 6 + (3 * 2 ^ 4 + (periodic * 2 ^ 3 + (interrupt * 2 ^ 2 + level * 2 ^ 1))))))

-- ---- flags are bits

pub flag_is : (f : ℕ) → f < 2 → bool_byte (flag f) ≡ f
flag_is zero h = refl
flag_is (suc zero) h = refl
flag_is (suc (suc f)) h = absurd (omega arith)

bit_is : (k v : ℕ) → bool_byte (flag (bit k v)) ≡ bit k v
bit_is k v = flag_is (bit k v) (mod-lt (v / 2 ^ k) (lit< tt))

-- kept only where the other is 1
both : (a b : ℕ) → a < 2 → b < 2 → bool_byte (flag (cond (flag a) b 0)) ≡ a * b
both zero b h l = sym (zero-mul b)
both (suc zero) b h l = flag_is b l ∙ sym (one-mul b)
both (suc (suc a)) b h l = absurd (omega arith)

pub reduced-is : (b : Bool) (x : ℕ) → reduced b x ≡ cond b (x % 2 ^ 32) x
reduced-is true x = refl
reduced-is false x = refl

pub record Reads (x : ℕ) (t : Timer) : Type 0 where
  pub level : x / 2 ^ 1 % 2 ≡ t.level_type
  pub interrupt : x / 2 ^ 2 % 2 ≡ t.interrupt
  pub periodic : x / 2 ^ 3 % 2 ≡ t.periodic
  pub set : x / 2 ^ 6 % 2 ≡ t.set_comparator
  pub narrow : x / 2 ^ 8 % 2 ≡ t.narrow
  pub route : x / 2 ^ 9 % 2 ^ 5 ≡ t.route

read-fields :
    (mask : ℕ) (t : Timer) → t.route < 24 → t.narrow < 2 → t.set_comparator < 2 → t.periodic < 2 → t.interrupt < 2 → t.level_type < 2 →
    Reads (fields mask t.route t.narrow t.set_comparator t.periodic t.interrupt t.level_type) t
read-fields mask t hr hn hs hp hi hl = record { level = omega arith; interrupt = omega arith; periodic = omega arith; set = omega arith; narrow = omega arith; route = omega arith }

module _ (mask : ℕ) (t : Timer) (z : Formed mask t) where
  -- a well-formed timer's configuration, by its own numbers
  pub configuration-is : configuration_of mask t ≡ fields mask t.route t.narrow t.set_comparator t.periodic t.interrupt t.level_type
  unfolding configuration_of
  configuration-is =
      λ k.
      fields mask t.route (flag_is t.narrow (omega (arith, z.narrow-bit)) k) (flag_is t.set_comparator (omega (arith, z.set-bit)) k)
      (flag_is t.periodic (omega (arith, z.periodic-bit)) k) (flag_is t.interrupt (omega (arith, z.interrupt-bit)) k)
      (flag_is t.level_type (omega (arith, z.level-bit)) k)

  -- the fields of what the register reads are the timer's
  pub configuration-reads : Reads (configuration_of mask t) t
  configuration-reads =
      rw configuration-is
      (read-fields mask t z.route-pin (omega (arith, z.narrow-bit)) (omega (arith, z.set-bit)) (omega (arith, z.periodic-bit)) (omega (arith, z.interrupt-bit)) (omega (arith, z.level-bit)))

  -- … and above them stands the mask
  pub configuration-mask : configuration_of mask t / 2 ^ 32 ≡ mask
  configuration-mask =
      rw configuration-is
      (above mask t.route t.narrow t.set_comparator t.periodic t.interrupt t.level_type z.route-pin (omega (arith, z.narrow-bit)) (omega (arith, z.set-bit)) (omega (arith, z.periodic-bit))
      (omega (arith, z.interrupt-bit)) (omega (arith, z.level-bit)))
    where
      above : (m r n s p i l : ℕ) → r < 24 → n < 2 → s < 2 → p < 2 → i < 2 → l < 2 → fields m r n s p i l / 2 ^ 32 ≡ m
      above m r n s p i l hr hn hs hp hi hl = omega arith

  module _ (v : ℕ) where
    -- "Writable: 1 level type, 2 interrupt enable, 3 periodic, 6 set-comparator (kept only if bit 3 is written 1), 8 32-bit mode, 13:9 route.
    -- … A written route outside the mask keeps the old one"
    pub configuration-back :
        configuration_of mask (configured_of mask t v)
        ≡ fields mask (cond (in_mask mask (v / 2 ^ 9 % 2 ^ 5)) (v / 2 ^ 9 % 2 ^ 5) (configuration_of mask t / 2 ^ 9 % 2 ^ 5)) (bit 8 v) (bit 3 v * bit 6 v) (bit 3 v) (bit 2 v) (bit 1 v)
    unfolding configured_of configuration_of
    configuration-back =
        λ k.
        fields mask (cond (in_mask mask (v / 2 ^ 9 % 2 ^ 5)) (v / 2 ^ 9 % 2 ^ 5) (sym configuration-reads.route k)) (bit_is 8 v k)
        (both (bit 3 v) (bit 6 v) (mod-lt (v / 2 ^ 3) (lit< tt)) (mod-lt (v / 2 ^ 6) (lit< tt)) k) (bit_is 3 v k) (bit_is 2 v k) (bit_is 1 v k)

    -- "Writing 32-bit mode reduces comparator and period modulo 2^32."
    pub configured-comparator : (configured_of mask t v).comparator ≡ cond (eqb (bit 8 v) 1) (t.comparator % 2 ^ 32) t.comparator
    unfolding configured_of
    configured-comparator = reduced-is (flag (bit 8 v)) t.comparator

    -- "Writing edge type clears the status."
    pub configured-status : (configured_of mask t v).status ≡ cond (eqb (bit 1 v) 1) t.status 0
    unfolding configured_of
    configured-status = refl

  -- a write that makes c of the comparator and p of the period, whichever it sets
  module _ (c p : ℕ) where
    -- what is written as a comparator: "In 32-bit mode the written number is first reduced modulo 2^32"
    taken : reduced (narrowed t) c ≡ cond (eqb (configuration_of mask t / 2 ^ 8 % 2) 1) (c % 2 ^ 32) c
    taken = reduced-is (narrowed t) c ∙ ap (λ (x : ℕ). cond (eqb x 1) (c % 2 ^ 32) c) (sym configuration-reads.narrow)

    pub comparator-is : (set_of t c p).comparator ≡ cond (flag t.periodic) (cond (flag t.set_comparator) (reduced (narrowed t) c) t.comparator) (reduced (narrowed t) c)
    unfolding set_of
    comparator-is = go (flag t.periodic)
      where
        x : ℕ
        x = reduced (narrowed t) c

        y : ℕ
        y = cond (flag t.set_comparator) x t.comparator

        go : (b : Bool) → (cond b (with_set (with_period (with_comparator t y) (reduced (narrowed t) p)) 0) (with_comparator t x)).comparator ≡ cond b y x
        go true = refl
        go false = refl

    pub period-is : (set_of t c p).period ≡ cond (flag t.periodic) (reduced (narrowed t) p) t.period
    unfolding set_of
    period-is = go (flag t.periodic)
      where
        x : ℕ
        x = reduced (narrowed t) c

        y : ℕ
        y = reduced (narrowed t) p

        go : (b : Bool) → (cond b (with_set (with_period (with_comparator t (cond (flag t.set_comparator) x t.comparator)) y) 0) (with_comparator t x)).period ≡ cond b y t.period
        go true = refl
        go false = refl

    -- by the two bits of the configuration
    compared-by :
        (m q : ℕ) → configuration_of mask t / 2 ^ 3 % 2 ≡ m → configuration_of mask t / 2 ^ 6 % 2 ≡ q →
        (set_of t c p).comparator ≡ cond (flag m) (cond (flag q) (reduced (narrowed t) c) t.comparator) (reduced (narrowed t) c)
    compared-by m q e f =
        comparator-is
        ∙ ap (λ (n : ℕ). cond (flag n) (cond (flag t.set_comparator) (reduced (narrowed t) c) t.comparator) (reduced (narrowed t) c)) (sym configuration-reads.periodic ∙ e)
        ∙ ap (λ (n : ℕ). cond (flag m) (cond (flag n) (reduced (narrowed t) c) t.comparator) (reduced (narrowed t) c)) (sym configuration-reads.set ∙ f)

    -- "One-shot: the write sets it."
    pub one-shot-back : configuration_of mask t / 2 ^ 3 % 2 ≡ 0 → (set_of t c p).comparator ≡ cond (eqb (configuration_of mask t / 2 ^ 8 % 2) 1) (c % 2 ^ 32) c
    one-shot-back e = compared-by 0 (configuration_of mask t / 2 ^ 6 % 2) e refl ∙ taken

    -- "Periodic: the write sets the period, and also the comparator if bit 6 is 1"
    pub set_back : configuration_of mask t / 2 ^ 6 % 2 ≡ 1 → (set_of t c p).comparator ≡ cond (eqb (configuration_of mask t / 2 ^ 8 % 2) 1) (c % 2 ^ 32) c
    set_back f = compared-by 1 1 (configuration-reads.periodic ∙ z.set-periodic (λ q. omega (arith, sym configuration-reads.set ∙ f))) f ∙ taken

    pub period-back : configuration_of mask t / 2 ^ 3 % 2 ≡ 1 → configuration_of mask t / 2 ^ 6 % 2 ≡ 0 → (set_of t c p).comparator ≡ t.comparator
    period-back = compared-by 1 0

    -- a set-comparator bit stands on a periodic timer only
    unset : (b : Bool) → flag t.periodic ≡ b → bool_byte (flag (cond b 0 t.set_comparator)) ≡ 0
    unset true e = refl
    unset false e = go (ℕ_discrete t.set_comparator 0)
      where
        go : Dec (t.set_comparator ≡ 0) → bool_byte (flag t.set_comparator) ≡ 0
        go (yes q) = ap (λ (n : ℕ). bool_byte (flag n)) q
        go (no n) = absurd (omega (arith, eqb-false t.periodic 1 e, z.set-periodic n))

    without-set : configuration_of mask (set_of t c p) ≡ fields mask t.route t.narrow 0 t.periodic t.interrupt t.level_type
    unfolding set_of configuration_of
    without-set = go (flag t.periodic) refl
      where
        x : ℕ
        x = reduced (narrowed t) c

        y : ℕ
        y = cond (flag t.set_comparator) x t.comparator

        placed : ℕ → ℕ
        placed s =
            fields mask t.route (bool_byte (flag t.narrow)) s (bool_byte (flag t.periodic)) (bool_byte (flag t.interrupt)) (bool_byte (flag t.level_type))

        bits : placed 0 ≡ fields mask t.route t.narrow 0 t.periodic t.interrupt t.level_type
        bits =
            λ k.
            fields mask t.route (flag_is t.narrow (omega (arith, z.narrow-bit)) k) 0 (flag_is t.periodic (omega (arith, z.periodic-bit)) k)
            (flag_is t.interrupt (omega (arith, z.interrupt-bit)) k) (flag_is t.level_type (omega (arith, z.level-bit)) k)

        go :
            (b : Bool) → flag t.periodic ≡ b →
            configuration_of mask (cond b (with_set (with_period (with_comparator t y) (reduced (narrowed t) p)) 0) (with_comparator t x)) ≡ fields mask t.route t.narrow 0 t.periodic t.interrupt t.level_type
        go true e = bits
        go false e = ap placed (unset false e) ∙ bits

    -- "bit 6 then becomes 0"; the other bits stay
    pub set-configuration : configuration_of mask (set_of t c p) + configuration_of mask t / 2 ^ 6 % 2 * 2 ^ 6 ≡ configuration_of mask t
    set-configuration =
        ap₂ (λ (a b : ℕ). a + b * 2 ^ 6) without-set configuration-reads.set
        ∙ put mask t.route t.narrow t.set_comparator t.periodic t.interrupt t.level_type
        ∙ sym configuration-is
      where
        put : (m r n s p i l : ℕ) → fields m r n 0 p i l + s * 2 ^ 6 ≡ fields m r n s p i l
        put m r n s p i l = omega arith

-- ---- at a reset: the mask, and its lowest pin as the route

pub reset-configuration : (mask : ℕ) → configuration_of mask (reset_timer mask) ≡ mask * 2 ^ 32 + (lowest mask * 2 ^ 9 + 0x30)
unfolding configuration_of reset_timer
reset-configuration mask = refl

-- ---- what a write leaves of the rest

module _ (t : Timer) where
  -- a status written 1 is cleared, and nothing else
  pub cleared-status : (cleared_of t).status ≡ 0
  unfolding cleared_of
  cleared-status = refl

  pub cleared-configuration : (mask : ℕ) → configuration_of mask (cleared_of t) ≡ configuration_of mask t
  unfolding cleared_of configuration_of
  cleared-configuration mask = refl

  pub cleared-comparator : (cleared_of t).comparator ≡ t.comparator
  unfolding cleared_of
  cleared-comparator = refl

  -- a comparator write leaves the status
  pub set-status : (c p : ℕ) → (set_of t c p).status ≡ t.status
  unfolding set_of
  set-status c p = go (flag t.periodic)
    where
      x : ℕ
      x = reduced (narrowed t) c

      go :
          (b : Bool) →
          (cond b (with_set (with_period (with_comparator t (cond (flag t.set_comparator) x t.comparator)) (reduced (narrowed t) p)) 0) (with_comparator t x)).status ≡ t.status
      go true = refl
      go false = refl
