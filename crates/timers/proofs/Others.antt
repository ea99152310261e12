-- What a write to one of the block's registers leaves of the others.
use Rattle.std.proofs.Common.{◌≡◌, ℕ, ◌+◌, ◌*◌, ◌<◌, Bool, true, false, cond, eqb, sym, refl, ap, ◌∙◌, eqb-true}
use mir.Val.{bool_byte}
use Rattle.timer.specs.declared.Timer.{Timer}
use Rattle.timer.specs.State.{flag, blank}
use Rattle.timer.specs.Registers.{bit, placed, configuration_of, configured_of, compared_of, cleared_of}
use Rattle.timer.proofs.ReadBack.{cleared-configuration, cleared-comparator, set-status}
use Rattle.timers.specs.declared.Timers.{Timers}
use Rattle.timers.specs.State.{at, mask_at, is_enabled, with_counter, with_enabled, with_timers, with_timer}
use Rattle.timers.specs.Registers.{capabilities_of, status_of, register_of, cleared_by, written_of}
use Rattle.timers.proofs.Three.{at-three, at_other}
use Rattle.timers.proofs.Access.{read-capabilities, read-enabled, read-status, read-counter, write-enabled, write-status, write-counter}
use Rattle.timers.proofs.Places.{Place, capabilities, enable, status, counter, configuration, comparator, unlisted, place, configuration-read, comparator-read, configuration-write, comparator-write, unlisted-read}

-- two blocks read the same at an offset where what it shows is the same
same-register :
    (s r : Timers) (o : ℕ) → (o ≡ 0x000 → capabilities_of r ≡ capabilities_of s) → (o ≡ 0x010 → is_enabled r ≡ is_enabled s) → (o ≡ 0x020 → status_of r ≡ status_of s) → (o ≡ 0x0F0 → r.counter ≡ s.counter) →
    ((n : ℕ) → n < 3 → o ≡ 0x100 + 0x20 * n → configuration_of (mask_at r n) (at r n) ≡ configuration_of (mask_at s n) (at s n)) →
    ((n : ℕ) → n < 3 → o ≡ 0x108 + 0x20 * n → (at r n).comparator ≡ (at s n).comparator) → register_of r o ≡ register_of s o
same-register s r o ca en st co cf cm = go (place o)
  where
    go : Place o → register_of r o ≡ register_of s o
    go (capabilities e) = read-capabilities r o e ∙ ca e ∙ sym (read-capabilities s o e)
    go (enable e) = read-enabled r o e ∙ ap bool_byte (en e) ∙ sym (read-enabled s o e)
    go (status e) = read-status r o e ∙ st e ∙ sym (read-status s o e)
    go (counter e) = read-counter r o e ∙ co e ∙ sym (read-counter s o e)
    go (configuration n l e) = ap (register_of r) e ∙ configuration-read n l r ∙ cf n l e ∙ sym (configuration-read n l s) ∙ sym (ap (register_of s) e)
    go (comparator n l e) = ap (register_of r) e ∙ comparator-read n l r ∙ cm n l e ∙ sym (comparator-read n l s) ∙ sym (ap (register_of s) e)
    go (unlisted u) = unlisted-read r o u ∙ sym (unlisted-read s o u)

module _ (s : Timers) (v o : ℕ) where
  pub enable-leaves : (o ≡ 0x010 → ⊥) → register_of (written_of s 0x010 v) o ≡ register_of s o
  unfolding status_of capabilities_of
  enable-leaves d =
      ap (λ (x : Timers). register_of x o) (write-enabled s 0x010 v refl)
      ∙ same-register s (with_enabled s (bit 0 v)) o (λ e. refl) (λ e. absurd (d e)) (λ e. refl) (λ e. refl) (λ n l e. refl) (λ n l e. refl)

  pub counter-leaves : (o ≡ 0x0F0 → ⊥) → register_of (written_of s 0x0F0 v) o ≡ register_of s o
  unfolding status_of capabilities_of
  counter-leaves d = ap (λ (x : Timers). register_of x o) (write-counter s 0x0F0 v refl) ∙ go (is_enabled s)
    where
      go : (b : Bool) → register_of (cond b s (with_counter s v)) o ≡ register_of s o
      go true = refl
      go false = same-register s (with_counter s v) o (λ e. refl) (λ e. refl) (λ e. refl) (λ e. absurd (d e)) (λ n l e. refl) (λ n l e. refl)

  pub status-leaves : (o ≡ 0x020 → ⊥) → register_of (written_of s 0x020 v) o ≡ register_of s o
  unfolding capabilities_of
  status-leaves d =
      ap (λ (x : Timers). register_of x o) (write-status s 0x020 v refl)
      ∙ same-register s (with_timers s (cleared_by v s)) o (λ e. refl) (λ e. refl) (λ e. absurd (d e)) (λ e. refl)
      (λ n l e. ap (configuration_of (mask_at s n)) (at-three (cleared_by v s) blank n l) ∙ configured n (flag (bit n v)))
      (λ n l e. ap (λ (t : Timer). t.comparator) (at-three (cleared_by v s) blank n l) ∙ compared n (flag (bit n v)))
    where
      configured : (n : ℕ) (b : Bool) → configuration_of (mask_at s n) (cond b (cleared_of (at s n)) (at s n)) ≡ configuration_of (mask_at s n) (at s n)
      configured n true = cleared-configuration (at s n) (mask_at s n)
      configured n false = refl

      compared : (n : ℕ) (b : Bool) → (cond b (cleared_of (at s n)) (at s n)).comparator ≡ (at s n).comparator
      compared n true = cleared-comparator (at s n)
      compared n false = refl

  module _ (n : ℕ) (l : n < 3) where
    -- another timer n is read at its own registers and in the status
    timer-leaves :
        (x : Timer) → (o ≡ 0x020 → status_of (with_timer s n x) ≡ status_of s) → (o ≡ 0x100 + 0x20 * n → ⊥) → (o ≡ 0x108 + 0x20 * n → ⊥) →
        register_of (with_timer s n x) o ≡ register_of s o
    unfolding capabilities_of
    timer-leaves x st d0 d8 =
        same-register s (with_timer s n x) o (λ e. refl) (λ e. refl) st (λ e. refl)
        (λ m h e. ap (configuration_of (mask_at s m)) (at_other s n x m h (λ q. d0 (e ∙ ap (λ (k : ℕ). 0x100 + 0x20 * k) q))))
        (λ m h e. ap (λ (t : Timer). t.comparator) (at_other s n x m h (λ q. d8 (e ∙ ap (λ (k : ℕ). 0x108 + 0x20 * k) q))))

    pub configuration-leaves : (o ≡ 0x020 → ⊥) → (o ≡ 0x100 + 0x20 * n → ⊥) → (o ≡ 0x108 + 0x20 * n → ⊥) → register_of (written_of s (0x100 + 0x20 * n) v) o ≡ register_of s o
    configuration-leaves d2 d0 d8 =
        ap (λ (x : Timers). register_of x o) (configuration-write n l s v) ∙ timer-leaves (configured_of (mask_at s n) (at s n) v) (λ e. absurd (d2 e)) d0 d8

    same-status : (m : ℕ) → (cond (eqb m n) (compared_of (at s n) v) (at s m)).status ≡ (at s m).status
    same-status m = go (eqb m n) refl
      where
        go : (b : Bool) → eqb m n ≡ b → (cond b (compared_of (at s n) v) (at s m)).status ≡ (at s m).status
        go true e = set-status (at s n) v v ∙ sym (ap (λ (k : ℕ). (at s k).status) (eqb-true m n e))
        go false e = refl

    pub comparator-leaves : (o ≡ 0x100 + 0x20 * n → ⊥) → (o ≡ 0x108 + 0x20 * n → ⊥) → register_of (written_of s (0x108 + 0x20 * n) v) o ≡ register_of s o
    unfolding status_of
    comparator-leaves d0 d8 =
        ap (λ (x : Timers). register_of x o) (comparator-write n l s v)
        ∙ timer-leaves (compared_of (at s n) v) (λ e k. placed 2 (same-status 2 k) + (placed 1 (same-status 1 k) + placed 0 (same-status 0 k))) d0 d8
