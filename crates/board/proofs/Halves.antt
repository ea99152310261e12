-- "Timer registers in halves" (document 02, K1), as calls of a well-formed board show them.
use Prim.Native.Nat.{ℕ, ◌+◌, ◌*◌, ◌%◌, ◌^◌, ◌<◌}
use mathlib.Core.Path.{◌≡◌, refl, sym, ap, ap₂, ◌∙◌}
use mathlib.Core.List.{[], ◌∷◌}
use native.Mathlib.Omega.{arith}
use lib.ListN.{length}
use Rattle.answers.specs.Sheet.{ok, value}
use Rattle.timer.specs.declared.Half.{Half}
use Rattle.timer.specs.declared.Half.TheVariants as half
use Rattle.timer.specs.Halves.{half_of, replaced}
use Rattle.timer.proofs.Halves.{other, half_lt, halves-whole}
use Rattle.timers.specs.declared.Timers.{Timers}
use Rattle.timers.specs.Registers.{register_of, written_of, place_of, half_written}
use Rattle.timers.proofs.Formed.{formed-in}
use Rattle.timers.proofs.Halves as Timed
use Rattle.timers.proofs.LowOnly.{LowOnly, low-only}
use Rattle.board.specs.declared.Board.{Board}
use Rattle.board.specs.declared.Turn.{Turn}
use Rattle.board.specs.State.{turn}
use Rattle.board.specs.Wires.{joined}
use Rattle.board.specs.Step.{by_timers, turn_of}
use Rattle.board.specs.Runs.{answers}
use Rattle.board.specs.Accesses.{set, set_half, show_half, comparator}
use Rattle.board.proofs.Formed.{Formed}
use Rattle.board.proofs.Windows.{same-value, joined_same, timers-reads, timers-writes, sets}
use Rattle.board.proofs.TimersMap.{register, shown, shown-is}

-- the block has its three timers, as the code's array does
abbrev pub Three : Board → Type 0
Three b = length b.timers.timer ≡ 3

module _ (b : Board) (z : Formed b) (h : Half) (o : ℕ) (a : o % 8 ≡ 0) (l : o < 0x400) where
  abbrev s : Timers
  s = b.timers

  -- ---- "A half read gives that half of the 8-byte value."

  half-shows : turn_of b (show_half h o) ≡ turn b (value (half_of h (register_of s o)))
  half-shows = timers-reads b z 4 (place_of h o) ∙ ap (λ t. turn b t.answer) (Timed.half-reads h o a s l)

  pub half-read : (r : ℕ) → register b o ≡ value r → turn_of b (show_half h o) ≡ turn b (value (half_of h r))
  half-read r e = half-shows ∙ ap (λ (x : ℕ). turn b (value (half_of h x))) (shown-is b z o a l r e)

  -- ---- "A half write replaces that half of a counter or configuration and then follows the rule for the whole
  -- register"

  pub half-sets : (v : ℕ) → v < 2 ^ 32 → turn_of b (set_half h o v) ≡ turn (joined b.controller (half_written s h o v) b.outside) ok
  half-sets v g = timers-writes b z 4 (place_of h o) v ∙ ap (by_timers b) (Timed.half-writes h o a s l v g)

  pub whole : (v w : ℕ) → v < 2 ^ 32 → half_written s h o v ≡ written_of s o w → turn_of b (set_half h o v) ≡ turn_of b (set o w)
  whole v w g e = half-sets v g ∙ ap (λ (x : Timers). turn (joined b.controller x b.outside) ok) e ∙ sym (sets b z o a l w)

  pub half-write :
      (o ≡ 0x020 → ⊥) → ((n : ℕ) → n < 3 → o ≡ comparator n → ⊥) → (r v : ℕ) → v < 2 ^ 32 → register b o ≡ value r →
      turn_of b (set_half h o v) ≡ turn_of b (set o (replaced h r v))
  half-write d c r v g e = whole v (replaced h r v) g (Timed.half-replaces s h v o d c ∙ ap (λ (x : ℕ). written_of s o (replaced h x v)) (shown-is b z o a l r e))

  pub half-done : (v : ℕ) → v < 2 ^ 32 → (turn_of b (set_half h o v)).answer ≡ ok
  half-done v g = ap (λ (t : Turn). t.answer) (half-sets v g)

-- "a status write takes the missing half as zeros"
pub half-write-status : (b : Board) → Formed b → (h : Half) (v : ℕ) → v < 2 ^ 32 → turn_of b (set_half h 0x020 v) ≡ turn_of b (set 0x020 (replaced h 0 v))
half-write-status b z h v g = whole b z h 0x020 refl (omega arith) v (replaced h 0 v) g (Timed.half-status b.timers h v)

module _ (b : Board) (z : Formed b) (o : ℕ) (a : o % 8 ≡ 0) (l : o < 0x400) where
  -- two half reads with nothing between are the whole read, at every offset, whichever comes first
  pub two-reads : (h : Half) (r : ℕ) → register b o ≡ value r → answers b (show_half h o ∷ show_half (other h) o ∷ []) ≡ value (half_of h r) ∷ value (half_of (other h) r) ∷ []
  unfolding answers
  two-reads h r e = λ i. (first i).answer ∷ (ap (λ (x : Board). (turn_of x (show_half (other h) o)).answer) (ap (λ (t : Turn). t.board) first) ∙ second) i ∷ []
    where
      first : turn_of b (show_half h o) ≡ turn b (value (half_of h r))
      first = half-read b z h o a l r e

      second : (turn_of b (show_half (other h) o)).answer ≡ value (half_of (other h) r)
      second = ap (λ (t : Turn). t.answer) (half-read b z (other h) o a l r e)

  pub reads_whole :
      (low high : ℕ) → (turn_of b (show_half half.Low o)).answer ≡ value low → (turn_of b (show_half half.High o)).answer ≡ value high →
      register b o ≡ value (high * 2 ^ 32 + low)
  reads_whole low high e f =
      shown b z o a l
      ∙ ap value (sym (halves-whole r) ∙ ap₂ (λ (x y : ℕ). y * 2 ^ 32 + x) (is-half half.Low low e) (is-half half.High high f))
    where
      r : ℕ
      r = register_of b.timers o

      is-half : (h : Half) (x : ℕ) → (turn_of b (show_half h o)).answer ≡ value x → half_of h r ≡ x
      is-half h x q = same-value _ _ (sym (ap (λ (t : Turn). t.answer) (half-shows b z h o a l)) ∙ q)

-- ---- registers whose low half is all that can be written: all but the counter and the comparators

module _ (b : Board) (z : Formed b) (o : ℕ) (a : o % 8 ≡ 0) (l : o < 0x400) (d : o ≡ 0x0F0 → ⊥) (c : (n : ℕ) → n < 3 → o ≡ comparator n → ⊥) where
  low-only-here : LowOnly b.timers o
  low-only-here = low-only b.timers (formed-in b.timers z.timed) o d c

  -- the low half is the whole write
  pub low-whole : (v : ℕ) → v < 2 ^ 64 → turn_of b (set_half half.Low o (half_of half.Low v)) ≡ turn_of b (set o v)
  low-whole v g = whole b z half.Low o a l (half_of half.Low v) v (half_lt half.Low v g) (low-only-here.low (half_of half.Low v) v refl)

  -- the high half changes nothing, bit 6 and the statuses included
  pub high-nothing : Three b → (v : ℕ) → v < 2 ^ 32 → turn_of b (set_half half.High o v) ≡ turn b ok
  high-nothing three v g =
      half-sets b z half.High o a l v g
      ∙ ap (λ (x : Timers). turn (joined b.controller x b.outside) ok) (low-only-here.high three v)
      ∙ ap (λ (x : Board). turn x ok) (joined_same b z)
