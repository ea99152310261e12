-- Registers whose low half is all that can be written: the low half is the whole write, and the high half changes nothing.
use Rattle.std.proofs.Common.{◌≡◌, ℕ, zero, suc, ◌+◌, ◌*◌, ◌/◌, ◌%◌, ◌^◌, ◌<◌, ◌≤◌, Bool, true, false, cond, eqb, List, length, sym, refl, ap, ◌∙◌, subst, arith, eqb-true}
use Rattle.timer.specs.declared.Timer.{Timer}
use Rattle.timer.specs.declared.Half.TheVariants as half
use Rattle.timer.specs.State.{flag}
use Rattle.timer.specs.Halves.{half_of, replaced}
use Rattle.timer.specs.Registers.{bit, configured_of, compared_of, cleared_of}
use Rattle.timer.proofs.ReadBack.{flag_is}
use Rattle.timer.proofs.Rewritten.{configured-low, configured-high}
use Rattle.timers.specs.declared.Timers.{Timers}
use Rattle.timers.specs.State.{at, mask_at, is_enabled, with_counter, with_enabled, with_list, with_timers, with_timer}
use Rattle.timers.specs.Formed.{Formed}
use Rattle.timers.specs.Registers.{numbered, of_timer, is_configuration, is_comparator, register_of, cleared_by, timer_written, written_of, half_written}
use Rattle.timers.proofs.Three.{three-same, eta}
use Rattle.timers.proofs.Access.{read-enabled, write-enabled, write-status}
use Rattle.timers.proofs.Places.{Place, capabilities, enable, status, counter, configuration, comparator, unlisted, place, configuration-read, configuration-write, unlisted-write, capabilities-write}
use Rattle.timers.proofs.Halves.{half-replaces, half-status}

-- a block with a timer as it is
with-same : (s : Timers) → length s.timer ≡ 3 → (n : ℕ) → with_timer s n (at s n) ≡ s
with-same s size n = ap (with_list s) (three-same _ (at s) (λ i l. go i (eqb i n) refl)) ∙ sym (eta s size)
  where
    go : (i : ℕ) (b : Bool) → eqb i n ≡ b → cond b (at s n) (at s i) ≡ at s i
    go i true e = ap (at s) (sym (eqb-true i n e))
    go i false e = refl

-- ---- registers whose low half is all that can be written

-- v is the low half of w: the low half alone is the whole write, the high half changes nothing (of a block that has its three timers)
pub record LowOnly (s : Timers) (o : ℕ) : Type 0 where
  pub low : (v w : ℕ) → v ≡ half_of half.Low w → half_written s half.Low o v ≡ written_of s o w
  pub high : length s.timer ≡ 3 → (v : ℕ) → half_written s half.High o v ≡ s

low_bit : (k q v w : ℕ) → k < 3 → v ≡ half_of half.Low w → bit k (q * 2 ^ 32 + v) ≡ bit k w
low_bit zero q v w l e = omega arith
low_bit (suc zero) q v w l e = omega arith
low_bit (suc (suc zero)) q v w l e = omega arith
low_bit (suc (suc (suc k))) q v w l e = absurd (omega arith)

no-bit : (k v : ℕ) → k < 3 → bit k (v * 2 ^ 32 + 0 % 2 ^ 32) ≡ 0
no-bit zero v l = omega arith
no-bit (suc zero) v l = omega arith
no-bit (suc (suc zero)) v l = omega arith
no-bit (suc (suc (suc k))) v l = absurd (omega arith)

module _ (s : Timers) (z : Formed s) where
  -- 0x010
  enable-low-only : LowOnly s 0x010
  enable-low-only =
      record {
        low = λ v w e. half-replaces s half.Low v 0x010 (λ q. omega arith) (λ n l q. omega arith)
            ∙ write-enabled s 0x010 _ refl
            ∙ ap (with_enabled s) (low_bit 0 (register_of s 0x010 / 2 ^ 32) v w (omega arith) e)
            ∙ sym (write-enabled s 0x010 w refl);
        high = λ size v. half-replaces s half.High v 0x010 (λ q. omega arith) (λ n l q. omega arith)
            ∙ write-enabled s 0x010 _ refl
            ∙ ap (λ (x : ℕ). with_enabled s (bit 0 (v * 2 ^ 32 + x % 2 ^ 32))) (read-enabled s 0x010 refl ∙ flag_is s.enabled (omega (arith, z.enabled-bit)))
            ∙ ap (with_enabled s) (same s.enabled v z.enabled-bit);
      }
    where
      same : (x v : ℕ) → x ≤ 1 → bit 0 (v * 2 ^ 32 + x % 2 ^ 32) ≡ x
      same x v l = omega arith

  -- 0x020
  status-low-only : LowOnly s 0x020
  status-low-only =
      record {
        low = λ v w e. half-status s half.Low v
            ∙ write-status s 0x020 _ refl
            ∙ ap (λ (l : List Timer). with_list s l)
            (three-same _ _ (λ m l. ap (λ (x : ℕ). cond (flag x) (cleared_of (at s m)) (at s m)) (low_bit m 0 v w l e)))
            ∙ sym (write-status s 0x020 w refl);
        high = λ size v. half-status s half.High v
            ∙ write-status s 0x020 _ refl
            ∙ ap (λ (l : List Timer). with_list s l)
            (three-same _ (at s) (λ m l. ap (λ (x : ℕ). cond (flag x) (cleared_of (at s m)) (at s m)) (no-bit m v l)))
            ∙ sym (eta s size);
      }

  -- a timer's configuration
  configuration-low-only : (n : ℕ) → n < 3 → LowOnly s (0x100 + 0x20 * n)
  configuration-low-only n l =
      record {
        low = λ v w e. half-replaces s half.Low v (0x100 + 0x20 * n) (λ q. omega arith) (λ m g q. omega arith)
            ∙ configuration-write n l s _
            ∙ ap (with_timer s n) (configured-low (mask_at s n) (at s n) (register_of s (0x100 + 0x20 * n)) v w e)
            ∙ sym (configuration-write n l s w);
        high = λ size v. half-replaces s half.High v (0x100 + 0x20 * n) (λ q. omega arith) (λ m g q. omega arith)
            ∙ configuration-write n l s _
            ∙ ap (λ (x : ℕ). with_timer s n (configured_of (mask_at s n) (at s n) (replaced half.High x v))) (configuration-read n l s)
            ∙ ap (with_timer s n) (configured-high (mask_at s n) (at s n) (z.each n l) v)
            ∙ with-same s size n;
      }

  -- read-only and unlisted offsets
  ignored-low-only : (o : ℕ) → (o ≡ 0x020 → ⊥) → ((n : ℕ) → n < 3 → o ≡ 0x108 + 0x20 * n → ⊥) → ((v : ℕ) → written_of s o v ≡ s) → LowOnly s o
  ignored-low-only o d c i =
      record {
        low = λ v w e. half-replaces s half.Low v o d c ∙ i _ ∙ sym (i w);
        high = λ size v. half-replaces s half.High v o d c ∙ i _;
      }

  -- all but the counter and the comparators
  pub low-only : (o : ℕ) → (o ≡ 0x0F0 → ⊥) → ((n : ℕ) → n < 3 → o ≡ 0x108 + 0x20 * n → ⊥) → LowOnly s o
  low-only o d c = go (place o)
    where
      go : Place o → LowOnly s o
      go (capabilities e) = subst (LowOnly s) (sym e) (ignored-low-only 0x000 (λ q. omega arith) (λ n l q. omega arith) (capabilities-write s))
      go (enable e) = subst (LowOnly s) (sym e) enable-low-only
      go (status e) = subst (LowOnly s) (sym e) status-low-only
      go (counter e) = absurd (d e)
      go (configuration n l e) = subst (LowOnly s) (sym e) (configuration-low-only n l)
      go (comparator n l e) = absurd (c n l e)
      go (unlisted u) = ignored-low-only o u.no-status c (unlisted-write s o u)

-- a write leaves three timers
pub written-three : (s : Timers) (o v : ℕ) → length s.timer ≡ 3 → length (written_of s o v).timer ≡ 3
unfolding written_of timer_written
written-three s o v size = go (eqb o 0x010) (eqb o 0x020) (eqb o 0x0F0) (is_enabled s) (of_timer o) (is_configuration o) (is_comparator o)
  where
    n : ℕ
    n = numbered o

    go :
        (a b c d e f g : Bool) →
        length
        (cond a (with_enabled s (bit 0 v))
        (cond b (with_timers s (cleared_by v s))
        (cond c (cond d s (with_counter s v))
        (cond e (cond f (with_timer s n (configured_of (mask_at s n) (at s n) v)) (cond g (with_timer s n (compared_of (at s n) v)) s)) s)))
        ).timer
        ≡ 3
    go true b c d e f g = size
    go false true c d e f g = refl
    go false false true true e f g = size
    go false false true false e f g = size
    go false false false d true true g = refl
    go false false false d true false true = refl
    go false false false d true false false = size
    go false false false d false f g = size
