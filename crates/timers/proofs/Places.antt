-- The block's registers by their offsets: which there are, what each reads, and what a write to it does.
use Rattle.std.proofs.Common.{◌≡◌, ℕ, ◌+◌, ◌*◌, ◌%◌, ◌<◌, ◌≤◌, ◌∙◌, arith, ne_eqb}
use native.Mathlib.Decide.{dec_lt, ℕ_discrete}
use Rattle.timer.specs.Registers.{configuration_of, configured_of, compared_of}
use Rattle.timers.specs.declared.Timers.{Timers}
use Rattle.timers.specs.State.{at, mask_at, with_timer}
use Rattle.timers.specs.Registers.{numbered, timer_register, register_of, timer_written, written_of}
use Rattle.timers.proofs.Access.{read_below, read_above, read-timer, write-below, write-above, write-timer}

-- ---- a timer's two registers

module _ (n : ℕ) (l : n < 3) where
  at-configuration : numbered (0x100 + 0x20 * n) ≡ n
  at-configuration = omega arith

  at-comparator : numbered (0x108 + 0x20 * n) ≡ n
  at-comparator = omega arith

  place-0 : (0x100 + 0x20 * n) % 0x20 ≡ 0
  place-0 = omega arith

  place-8 : (0x108 + 0x20 * n) % 0x20 ≡ 8
  place-8 = omega arith

  module _ (s : Timers) where
    pub configuration-read : register_of s (0x100 + 0x20 * n) ≡ configuration_of (mask_at s n) (at s n)
    unfolding timer_register
    configuration-read =
        read-timer s (0x100 + 0x20 * n) (λ q. omega arith) (λ q. omega arith) (λ q. omega arith) (λ q. omega arith) (omega arith) (omega arith)
        ∙ rw (place-0, at-configuration)

    pub comparator-read : register_of s (0x108 + 0x20 * n) ≡ (at s n).comparator
    unfolding timer_register
    comparator-read =
        read-timer s (0x108 + 0x20 * n) (λ q. omega arith) (λ q. omega arith) (λ q. omega arith) (λ q. omega arith) (omega arith) (omega arith)
        ∙ rw (place-8, at-comparator)

    module _ (v : ℕ) where
      pub configuration-write : written_of s (0x100 + 0x20 * n) v ≡ with_timer s n (configured_of (mask_at s n) (at s n) v)
      unfolding timer_written
      configuration-write =
          write-timer s (0x100 + 0x20 * n) (λ q. omega arith) (λ q. omega arith) (λ q. omega arith) v (omega arith) (omega arith)
          ∙ rw (place-0, at-configuration)

      pub comparator-write : written_of s (0x108 + 0x20 * n) v ≡ with_timer s n (compared_of (at s n) v)
      unfolding timer_written
      comparator-write =
          write-timer s (0x108 + 0x20 * n) (λ q. omega arith) (λ q. omega arith) (λ q. omega arith) v (omega arith) (omega arith)
          ∙ rw (place-8, at-comparator)

-- ---- every offset is one of these

pub record Unlisted (o : ℕ) : Type 0 where
  pub no-capabilities : o ≡ 0x000 → ⊥
  pub no-enable : o ≡ 0x010 → ⊥
  pub no-status : o ≡ 0x020 → ⊥
  pub no-counter : o ≡ 0x0F0 → ⊥
  pub no-configuration : (n : ℕ) → n < 3 → o ≡ 0x100 + 0x20 * n → ⊥
  pub no-comparator : (n : ℕ) → n < 3 → o ≡ 0x108 + 0x20 * n → ⊥

pub data Place (o : ℕ) : Type 0 where
  capabilities : o ≡ 0x000 → Place o
  enable : o ≡ 0x010 → Place o
  status : o ≡ 0x020 → Place o
  counter : o ≡ 0x0F0 → Place o
  configuration : (n : ℕ) → n < 3 → o ≡ 0x100 + 0x20 * n → Place o
  comparator : (n : ℕ) → n < 3 → o ≡ 0x108 + 0x20 * n → Place o
  unlisted : Unlisted o → Place o

pub place : (o : ℕ) → Place o
place o = go (ℕ_discrete o 0x000) (ℕ_discrete o 0x010) (ℕ_discrete o 0x020) (ℕ_discrete o 0x0F0)
  where
    timer : (o ≡ 0x000 → ⊥) → (o ≡ 0x010 → ⊥) → (o ≡ 0x020 → ⊥) → (o ≡ 0x0F0 → ⊥) → Dec (o < 0x100) → Dec (o < 0x160) → Dec (o % 0x20 ≡ 0) → Dec (o % 0x20 ≡ 8) → Place o
    timer a b c d (yes l) y p q =
        unlisted (record { no-capabilities = a; no-enable = b; no-status = c; no-counter = d; no-configuration = λ n h e. omega arith; no-comparator = λ n h e. omega arith })
    timer a b c d (no l) (no y) p q =
        unlisted (record { no-capabilities = a; no-enable = b; no-status = c; no-counter = d; no-configuration = λ n h e. omega arith; no-comparator = λ n h e. omega arith })
    timer a b c d (no l) (yes y) (yes p) q = configuration (numbered o) (omega arith) (omega arith)
    timer a b c d (no l) (yes y) (no p) (yes q) = comparator (numbered o) (omega arith) (omega arith)
    timer a b c d (no l) (yes y) (no p) (no q) =
        unlisted (record { no-capabilities = a; no-enable = b; no-status = c; no-counter = d; no-configuration = λ n h e. p (omega arith); no-comparator = λ n h e. q (omega arith) })

    go : Dec (o ≡ 0x000) → Dec (o ≡ 0x010) → Dec (o ≡ 0x020) → Dec (o ≡ 0x0F0) → Place o
    go (yes e) b c d = capabilities e
    go (no a) (yes e) c d = enable e
    go (no a) (no b) (yes e) d = status e
    go (no a) (no b) (no c) (yes e) = counter e
    go (no a) (no b) (no c) (no d) = timer a b c d (dec_lt o 0x100) (dec_lt o 0x160) (ℕ_discrete (o % 0x20) 0) (ℕ_discrete (o % 0x20) 8)

-- ---- "Offsets not listed read 0 and ignore writes."

module _ (s : Timers) (o : ℕ) (u : Unlisted o) where
  neither : 0x100 ≤ o → o < 0x160 → (o % 0x20 ≡ 0 → ⊥) × (o % 0x20 ≡ 8 → ⊥)
  neither h l = (λ e. u.no-configuration (numbered o) (omega arith) (omega arith), λ e. u.no-comparator (numbered o) (omega arith) (omega arith))

  pub unlisted-read : register_of s o ≡ 0
  unfolding timer_register
  unlisted-read = go (dec_lt o 0x100) (dec_lt o 0x160)
    where
      go : Dec (o < 0x100) → Dec (o < 0x160) → register_of s o ≡ 0
      go (yes l) y = read_below s o u.no-enable u.no-status u.no-counter u.no-capabilities l
      go (no h) (no y) = read_above s o u.no-enable u.no-status u.no-counter u.no-capabilities (omega arith)
      go (no h) (yes y) =
          let n = neither (omega arith) y in
          read-timer s o u.no-enable u.no-status u.no-counter u.no-capabilities (omega arith) y ∙ rw (ne_eqb (o % 0x20) 0 n.0, ne_eqb (o % 0x20) 8 n.1)

  pub unlisted-write : (v : ℕ) → written_of s o v ≡ s
  unfolding timer_written
  unlisted-write v = go (dec_lt o 0x100) (dec_lt o 0x160)
    where
      go : Dec (o < 0x100) → Dec (o < 0x160) → written_of s o v ≡ s
      go (yes l) y = write-below s o u.no-enable u.no-status u.no-counter v l
      go (no h) (no y) = write-above s o u.no-enable u.no-status u.no-counter v (omega arith)
      go (no h) (yes y) =
          let n = neither (omega arith) y in
          write-timer s o u.no-enable u.no-status u.no-counter v (omega arith) y ∙ rw (ne_eqb (o % 0x20) 0 n.0, ne_eqb (o % 0x20) 8 n.1)

-- 0x000 is read only
pub capabilities-write : (s : Timers) (v : ℕ) → written_of s 0x000 v ≡ s
capabilities-write s v = write-below s 0x000 (λ q. omega arith) (λ q. omega arith) (λ q. omega arith) v (omega arith)
