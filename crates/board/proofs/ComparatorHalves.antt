-- One half of a comparator, as calls of a well-formed board show it: "the half is replaced in whatever the whole write
-- would set: comparator, period or both. Bit 6 clears at the first half. A high half in 32-bit mode stores 0."
use Prim.Native.Nat.{ℕ, ◌+◌, ◌-◌, ◌/◌, ◌%◌, ◌^◌, ◌<◌}
use mathlib.Core.Path.{◌≡◌, sym, ap, subst, ◌∙◌}
use mathlib.Core.Bool.{cond}
use native.Mathlib.Omega.{arith}
use native.Mathlib.Decide.{ℕ_discrete}
use lib.Dec.{eqb}
use Rattle.answers.specs.Sheet.{ok, value}
use Rattle.timer.specs.declared.Timer.{Timer}
use Rattle.timer.specs.declared.Half.{Half}
use Rattle.timer.specs.declared.Half.TheVariants as half
use Rattle.timer.specs.State.{reduced, narrowed, with_set}
use Rattle.timer.specs.Halves.{replaced}
use Rattle.timer.specs.Registers.{half_compared_of}
use Rattle.timer.proofs.ReadBack.{Reads, configuration-reads, reduced-is, comparator-is, period-is}
use Rattle.timers.specs.declared.Timers.{Timers}
use Rattle.timers.specs.State.{at, mask_at, with_timer}
use Rattle.timers.specs.Formed.{Formed as TimersFormed}
use Rattle.timers.specs.Registers.{register_of, written_of, half_written}
use Rattle.timers.proofs.Formed.{formed-in}
use Rattle.timers.proofs.Places.{configuration-read}
use Rattle.timers.proofs.InHalves.{half-compared-at, comparator-narrow-low, comparator-narrow-high, half-comparator-drives}
use Rattle.timers.proofs.InHalves as Timed
use Rattle.board.specs.declared.Board.{Board}
use Rattle.board.specs.declared.Turn.{Turn}
use Rattle.board.specs.State.{board, turn}
use Rattle.board.specs.Step.{turn_of}
use Rattle.board.specs.Accesses.{set, set_half, configuration, comparator}
use Rattle.board.proofs.Formed.{Formed}
use Rattle.board.proofs.Keeps.{keeps}
use Rattle.board.proofs.Windows.{joined-still, joined-timers}
use Rattle.board.proofs.TimersMap.{register, bit, less, shown, shown-is}
use Rattle.board.proofs.Halves.{half-sets, whole}

-- k is what the timer's configuration reads
module _ (b : Board) (z : Formed b) (n k : ℕ) (l : n < 3) (e : register b (configuration n) ≡ value k) where
  abbrev block : Timers
  block = b.timers

  abbrev t : Timer
  t = at block n

  abbrev f : TimersFormed block
  f = formed-in block z.timed

  was : register_of block (configuration n) ≡ k
  was = shown-is b z (configuration n) (omega arith) (omega arith) k e

  -- its bits are the timer's
  pub bits : Reads k t
  bits = subst (λ (x : ℕ). Reads x t) (sym (configuration-read n l block) ∙ was) (configuration-reads (mask_at block n) t (f.each n l))

  -- a one-shot timer's bit 6 is 0
  pub one-shot-unset : k / 2 ^ 3 % 2 ≡ 0 → k / 2 ^ 6 % 2 ≡ 0
  one-shot-unset p = go (ℕ_discrete (k / 2 ^ 6 % 2) 0)
    where
      go : Dec (k / 2 ^ 6 % 2 ≡ 0) → k / 2 ^ 6 % 2 ≡ 0
      go (yes q) = q
      go (no d) = absurd (omega (arith, bits.periodic, (f.each n l).set-periodic (λ q. d (bits.set ∙ q))))

  -- what is written as a number: "In 32-bit mode the written number is first reduced modulo 2^32"
  abbrev pub taken : ℕ → ℕ
  taken x = cond (eqb (k / 2 ^ 8 % 2) 1) (x % 2 ^ 32) x

  reduces : (x : ℕ) → reduced (narrowed t) x ≡ taken x
  reduces x = reduced-is (narrowed t) x ∙ ap (λ (m : ℕ). cond (eqb m 1) (x % 2 ^ 32) x) (sym bits.narrow)

  -- ---- a half v is written

  module _ (h : Half) (v : ℕ) (g : v < 2 ^ 32) where
    abbrev next : Board
    next = (turn_of b (set_half h (comparator n) v)).board

    after : next.timers ≡ half_written block h (comparator n) v
    after =
        ap (λ (r : Turn). r.board.timers) (half-sets b z h (comparator n) (omega arith) (omega arith) v g)
        ∙ joined-timers b.controller (half_written block h (comparator n) v) b.outside

    half-compared : at next.timers n ≡ half_compared_of t h v
    half-compared = ap (λ (x : Timers). at x n) after ∙ half-compared-at block f h v n l

    -- "replaced in whatever the whole write would set": one-shot the comparator; periodic the period, and the
    -- comparator too if bit 6 is 1. Each keeps its own other half
    pub half-comparator :
        (at next.timers n).comparator
        ≡ cond (eqb (k / 2 ^ 3 % 2) 1) (cond (eqb (k / 2 ^ 6 % 2) 1) (taken (replaced h t.comparator v)) t.comparator) (taken (replaced h t.comparator v))
    half-comparator =
        ap (λ (x : Timer). x.comparator) half-compared
        ∙ comparator-is (mask_at block n) t (f.each n l) _ _
        ∙ (λ i. cond (eqb (sym bits.periodic i) 1) (cond (eqb (sym bits.set i) 1) (reduces (replaced h t.comparator v) i) t.comparator) (reduces (replaced h t.comparator v) i))

    pub half-period : (at next.timers n).period ≡ cond (eqb (k / 2 ^ 3 % 2) 1) (taken (replaced h t.period v)) t.period
    half-period =
        ap (λ (x : Timer). x.period) half-compared
        ∙ period-is (mask_at block n) t (f.each n l) _ _
        ∙ (λ i. cond (eqb (sym bits.periodic i) 1) (reduces (replaced h t.period v) i) t.period)

    -- "Bit 6 clears at the first half", whichever that is; the other bits of the configuration stay
    pub half-unsets : register next (configuration n) ≡ value (k - bit 6 k)
    half-unsets =
        shown next (keeps b z (set_half h (comparator n) v)) (configuration n) (omega arith) (omega arith)
        ∙ ap (λ (x : Timers). value (register_of x (configuration n))) after
        ∙ ap value (less unset (bit 6 k) k (ap (λ (x : ℕ). unset + bit 6 x) (sym was) ∙ Timed.half-unsets block f h v n l ∙ was))
      where
        unset : ℕ
        unset = register_of (half_written block h (comparator n) v) (configuration n)

    -- one-shot it is the whole write of what the comparator reads with that half replaced
    pub half-one-shot : (r : ℕ) → register b (comparator n) ≡ value r → k / 2 ^ 3 % 2 ≡ 0 → turn_of b (set_half h (comparator n) v) ≡ turn_of b (set (comparator n) (replaced h r v))
    half-one-shot r q p =
        whole b z h (comparator n) (omega arith) (omega arith) v (replaced h r v) g
        (Timed.half-one-shot block f h v n l (sym bits.periodic ∙ p)
        ∙ ap (λ (x : ℕ). written_of block (comparator n) (replaced h x v)) (shown-is b z (comparator n) (omega arith) (omega arith) r q))

  -- ---- in 32-bit mode

  module _ (w : k / 2 ^ 8 % 2 ≡ 1) where
    pub narrow : t.narrow ≡ 1
    narrow = sym bits.narrow ∙ w

    module _ (v : ℕ) (g : v < 2 ^ 32) where
      -- the low half is the whole number
      pub narrow-low : turn_of b (set_half half.Low (comparator n) v) ≡ turn_of b (set (comparator n) v)
      narrow-low = whole b z half.Low (comparator n) (omega arith) (omega arith) v v g (comparator-narrow-low block n l narrow v g)

      -- "A high half in 32-bit mode stores 0": the comparator's low half is kept, and so is the period; bit 6 is
      -- cleared, and that is all
      pub narrow_high : turn_of b (set_half half.High (comparator n) v) ≡ turn (board b.controller (with_timer block n (with_set t 0)) b.outside) ok
      narrow_high =
          half-sets b z half.High (comparator n) (omega arith) (omega arith) v g
          ∙ ap (λ (x : Board). turn x ok) (joined-still b z _ (λ p. half-comparator-drives block p n l half.High v))
          ∙ ap (λ (x : Timers). turn (board b.controller x b.outside) ok) (comparator-narrow-high block n l narrow f v)
