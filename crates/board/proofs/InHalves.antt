-- A register of the timers written in halves, one after the other: which calls with the whole register leave the same
-- board.
use Prim.Native.Nat.{ℕ, ◌/◌, ◌%◌, ◌^◌, ◌<◌}
use mathlib.Core.Path.{◌≡◌, refl, sym, ap, subst, ◌∙◌}
use mathlib.Core.List.{List, [], ◌∷◌}
use native.Mathlib.Omega.{arith}
use lib.ListN.{length}
use Rattle.answers.specs.Sheet.{ok, value}
use Rattle.timer.specs.declared.Half.{Half}
use Rattle.timer.specs.declared.Half.TheVariants as half
use Rattle.timer.specs.State.{with_period, with_set}
use Rattle.timer.specs.Halves.{half_of, replaced}
use Rattle.timer.proofs.Halves.{other, half_lt}
use Rattle.timers.specs.declared.Timers.{Timers}
use Rattle.timers.specs.State.{at, with_timer}
use Rattle.timers.specs.Registers.{register_of, written_of, half_written}
use Rattle.timers.specs.Tick.{drives_of}
use Rattle.timers.proofs.Formed.{formed-in}
use Rattle.timers.proofs.Halves as Timed
use Rattle.timers.proofs.Places.{Place, capabilities, enable, status, counter, configuration, comparator, unlisted, place}
use Rattle.timers.proofs.LowOnly.{written-three}
use Rattle.timers.proofs.InHalves.{in_halves, counter-in-halves, comparator-in-halves, comparator-whole, comparator-narrow-low-first, comparator-narrow-high-first, counter-drives, comparator-drives, half-comparator-drives}
use Rattle.board.specs.declared.Board.{Board}
use Rattle.board.specs.declared.Call.{Call}
use Rattle.board.specs.declared.Turn.{Turn}
use Rattle.board.specs.State.{board}
use Rattle.board.specs.Wires.{joined}
use Rattle.board.specs.Step.{turn_of}
use Rattle.board.specs.Runs.{run, answers}
use Rattle.board.specs.Accesses.{set, set_half}
use Rattle.board.specs.Accesses as Accesses
use Rattle.board.proofs.Formed.{Formed}
use Rattle.board.proofs.Keeps.{keeps}
use Rattle.board.proofs.Windows.{joined-still, joined-timers, sets}
use Rattle.board.proofs.TimersMap.{register, shown, shown-is}
use Rattle.board.proofs.Halves.{Three, half-sets, half-done, low-whole, high-nothing}
use Rattle.board.proofs.ComparatorHalves.{bits, narrow}

-- ---- one half, and then the other

abbrev pub in_two : Half → ℕ → ℕ → List Call
in_two h o v = set_half h o (half_of h v) ∷ set_half (other h) o (half_of (other h) v) ∷ []

-- the first of two writes moves no wire
module _ (b : Board) (z : Formed b) (s1 : Timers) (still : (p : ℕ) → drives_of s1 p ≡ drives_of b.timers p) where
  two-writes :
      (q r : Call) (f : Timers → Timers) → (turn_of b q).board ≡ joined b.controller s1 b.outside →
      ((x : Board) → Formed x → (turn_of x r).board ≡ joined x.controller (f x.timers) x.outside) →
      run b (q ∷ r ∷ []) ≡ joined b.controller (f s1) b.outside
  unfolding run
  two-writes q r f e g =
      g (turn_of b q).board (keeps b z q)
      ∙ ap (λ (x : Board). joined x.controller (f x.timers) x.outside) (e ∙ joined-still b z s1 still)

-- what a whole write does to the block
set-joins : (o w : ℕ) → o % 8 ≡ 0 → o < 0x400 → (x : Board) → Formed x → (turn_of x (set o w)).board ≡ joined x.controller (written_of x.timers o w) x.outside
set-joins o w a l x y = ap (λ (t : Turn). t.board) (sets x y o a l w)

module _ (b : Board) (z : Formed b) (h : Half) (v : ℕ) (g : v < 2 ^ 64) where
  -- what each half does to it
  half-joins :
      (k : Half) (o : ℕ) → o % 8 ≡ 0 → o < 0x400 → (x : Board) → Formed x →
      (turn_of x (set_half k o (half_of k v))).board ≡ joined x.controller (half_written x.timers k o (half_of k v)) x.outside
  half-joins k o a l x y = ap (λ (t : Turn). t.board) (half-sets x y k o a l (half_of k v) (half_lt k v g))

  in-two-low :
      Three b → (o : ℕ) → o % 8 ≡ 0 → o < 0x400 → (o ≡ 0x0F0 → ⊥) → ((n : ℕ) → n < 3 → o ≡ Accesses.comparator n → ⊥) → run b (in_two h o v) ≡ run b (set o v ∷ [])
  unfolding run
  in-two-low three o a l d c = go h
    where
      after : Board
      after = (turn_of b (set o v)).board

      three-after : Three after
      three-after =
          ap (λ (x : Board). length x.timers.timer) (set-joins o v a l b z)
          ∙ ap (λ (x : Timers). length x.timer) (joined-timers b.controller (written_of b.timers o v) b.outside)
          ∙ written-three b.timers o v three

      go : (k : Half) → (turn_of (turn_of b (set_half k o (half_of k v))).board (set_half (other k) o (half_of (other k) v))).board ≡ after
      go half.Low =
          ap (λ (t : Turn). (turn_of t.board (set_half half.High o (half_of half.High v))).board) (low-whole b z o a l d c v g)
          ∙ ap (λ (t : Turn). t.board) (high-nothing after (keeps b z (set o v)) o a l d c three-after (half_of half.High v) (half_lt half.High v g))
      go half.High =
          ap (λ (t : Turn). (turn_of t.board (set_half half.Low o (half_of half.Low v))).board) (high-nothing b z o a l d c three (half_of half.High v) (half_lt half.High v g))
          ∙ ap (λ (t : Turn). t.board) (low-whole b z o a l d c v g)

  in-two-counter : run b (in_two h 0x0F0 v) ≡ run b (set 0x0F0 v ∷ [])
  unfolding run
  in-two-counter =
      two-writes b z (half_written b.timers h 0x0F0 (half_of h v)) (λ p. still p) _ _ (λ x. half_written x (other h) 0x0F0 (half_of (other h) v))
      (half-joins h 0x0F0 refl (omega arith) b z) (half-joins (other h) 0x0F0 refl (omega arith))
      ∙ ap (λ (x : Timers). joined b.controller x b.outside) (counter-in-halves b.timers h v)
      ∙ sym (set-joins 0x0F0 v refl (omega arith) b z)
    where
      still : (p : ℕ) → drives_of (half_written b.timers h 0x0F0 (half_of h v)) p ≡ drives_of b.timers p
      still p =
          ap (λ (x : Timers). drives_of x p) (Timed.half-replaces b.timers h (half_of h v) 0x0F0 (λ q. omega arith) (λ n l q. omega arith))
          ∙ counter-drives b.timers p _

  module _ (n : ℕ) (l : n < 3) where
    abbrev here : ℕ
    here = Accesses.comparator n

    by-halves : run b (in_two h here v) ≡ joined b.controller (in_halves b.timers h here v) b.outside
    by-halves =
        two-writes b z (half_written b.timers h here (half_of h v)) (λ p. half-comparator-drives b.timers p n l h (half_of h v)) _ _
        (λ x. half_written x (other h) here (half_of (other h) v)) (half-joins h here (omega arith) (omega arith) b z) (half-joins (other h) here (omega arith) (omega arith))

    -- two whole writes
    whole-then : (x : ℕ) → run b (set here x ∷ set here v ∷ []) ≡ joined b.controller (written_of (written_of b.timers here x) here v) b.outside
    whole-then x =
        two-writes b z (written_of b.timers here x) (λ p. comparator-drives b.timers p n l x) _ _ (λ y. written_of y here v)
        (set-joins here x (omega arith) (omega arith) b z) (set-joins here v (omega arith) (omega arith))

    -- a comparator, with bit 6 and without, at both widths: as if the first half were written with the comparator's
    -- other half as it is, and then the whole number. The second write finds bit 6 cleared: it sets the period only
    pub in-two-comparator : (r : ℕ) → register b here ≡ value r → run b (in_two h here v) ≡ run b (set here (replaced h r (half_of h v)) ∷ set here v ∷ [])
    in-two-comparator r e =
        by-halves
        ∙ ap (λ (x : Timers). joined b.controller x b.outside) (comparator-in-halves b.timers h v n l)
        ∙ sym (whole-then (replaced h (register_of b.timers here) (half_of h v)))
        ∙ ap (λ (x : ℕ). run b (set here (replaced h x (half_of h v)) ∷ set here v ∷ [])) (shown-is b z here (omega arith) (omega arith) r e)

    -- without bit 6 it is the whole write
    in-two-unset : (at b.timers n).set_comparator ≡ 0 → run b (in_two h here v) ≡ run b (set here v ∷ [])
    unfolding run
    in-two-unset e =
        by-halves
        ∙ ap (λ (x : Timers). joined b.controller x b.outside) (comparator-whole b.timers h v n l e)
        ∙ sym (set-joins here v (omega arith) (omega arith) b z)

-- ---- a comparator in 32-bit mode

module _ (b : Board) (z : Formed b) (v n k : ℕ) (g : v < 2 ^ 64) (l : n < 3) (e : register b (Accesses.configuration n) ≡ value k) (w : k / 2 ^ 8 % 2 ≡ 1) where
  narrow-here : (at b.timers n).narrow ≡ 1
  narrow-here = narrow b z n k l e w

  -- low then high is the whole write, with bit 6 too
  pub narrow-low-first : run b (in_two half.Low (Accesses.comparator n) v) ≡ run b (set (Accesses.comparator n) v ∷ [])
  unfolding run
  narrow-low-first =
      by-halves b z half.Low v g n l
      ∙ ap (λ (x : Timers). joined b.controller x b.outside) (comparator-narrow-low-first b.timers n l narrow-here v)
      ∙ sym (set-joins (Accesses.comparator n) v (omega arith) (omega arith) b z)

  -- high then low, periodic, sets the period only, to the low half; bit 6 is cleared
  pub narrow-high-first :
      k / 2 ^ 3 % 2 ≡ 1 →
      run b (in_two half.High (Accesses.comparator n) v) ≡ board b.controller (with_timer b.timers n (with_set (with_period (at b.timers n) (v % 2 ^ 32)) 0)) b.outside
  narrow-high-first p =
      by-halves b z half.High v g n l
      ∙ joined-still b z _ (λ q. half-comparator-drives _ q n l half.Low _ ∙ half-comparator-drives b.timers q n l half.High _)
      ∙ ap (λ (x : Timers). board b.controller x b.outside)
      (comparator-narrow-high-first b.timers n l narrow-here (formed-in b.timers z.timed) (sym (bits b z n k l e).periodic ∙ p) v)

-- ---- every register, whichever half comes first

module _ (b : Board) (z : Formed b) (h : Half) (o : ℕ) (a : o % 8 ≡ 0) (l : o < 0x400) (v : ℕ) (g : v < 2 ^ 64) where
  pub in-halves-done : answers b (in_two h o v) ≡ ok ∷ ok ∷ []
  unfolding answers
  in-halves-done =
      λ i.
      half-done b z h o a l (half_of h v) (half_lt h v g) i
      ∷ half-done (turn_of b (set_half h o (half_of h v))).board (keeps b z (set_half h o (half_of h v))) (other h) o a l (half_of (other h) v) (half_lt (other h) v g) i
      ∷ []

  -- is the whole write: the counter (while disabled; while enabled all three are ignored), every configuration, the
  -- status, a comparator that is one-shot or whose bit 6 is 0, and what ignores writes
  pub in_halves_lem :
      Three b → ((n k : ℕ) → n < 3 → o ≡ Accesses.comparator n → register b (Accesses.configuration n) ≡ value k → k / 2 ^ 6 % 2 ≡ 0) → run b (in_two h o v) ≡ run b (set o v ∷ [])
  in_halves_lem three unset = go (place o)
    where
      at_place : (p : ℕ) → o ≡ p → run b (in_two h p v) ≡ run b (set p v ∷ []) → run b (in_two h o v) ≡ run b (set o v ∷ [])
      at_place p e = subst (λ (x : ℕ). run b (in_two h x v) ≡ run b (set x v ∷ [])) (sym e)

      other_place : (o ≡ 0x0F0 → ⊥) → ((n : ℕ) → n < 3 → o ≡ Accesses.comparator n → ⊥) → run b (in_two h o v) ≡ run b (set o v ∷ [])
      other_place = in-two-low b z h v g three o a l

      zero-set : (n : ℕ) → n < 3 → o ≡ Accesses.comparator n → (at b.timers n).set_comparator ≡ 0
      zero-set n m e = sym (bits b z n k m reads).set ∙ unset n k m e reads
        where
          k : ℕ
          k = register_of b.timers (Accesses.configuration n)

          reads : register b (Accesses.configuration n) ≡ value k
          reads = shown b z (Accesses.configuration n) (omega arith) (omega arith)

      go : Place o → run b (in_two h o v) ≡ run b (set o v ∷ [])
      go (capabilities e) = other_place (λ q. omega arith) (λ n m q. omega arith)
      go (enable e) = other_place (λ q. omega arith) (λ n m q. omega arith)
      go (status e) = other_place (λ q. omega arith) (λ n m q. omega arith)
      go (counter e) = at_place 0x0F0 e (in-two-counter b z h v g)
      go (configuration i m e) = other_place (λ q. omega arith) (λ n j q. omega arith)
      go (comparator n m e) = at_place (Accesses.comparator n) e (in-two-unset b z h v g n m (zero-set n m e))
      go (unlisted u) = other_place u.no-counter u.no-comparator
