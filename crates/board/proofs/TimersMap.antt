-- The timers' registers, as calls of a well-formed board show them: document 01's list and its bits, over the numbers
-- written and read.
use mathlib.Core.Path.{◌≡◌, refl, sym, ap, ◌∙◌}
use mathlib.Core.Bool.{cond}
use mathlib.Core.List.{[], ◌∷◌}
use Prim.Native.Nat.{ℕ, ◌+◌, ◌-◌, ◌*◌, ◌/◌, ◌%◌, ◌^◌, ◌<◌}
use native.Mathlib.Omega.{arith}
use lib.Dec.{eqb}
use Rattle.answers.specs.declared.Answer.{Answer}
use Rattle.answers.specs.Sheet.{ok, value}
use Rattle.timer.specs.Mask.{in_mask}
use Rattle.timer.proofs.ReadBack.{fields}
use Rattle.timers.specs.declared.Timers.{Timers}
use Rattle.timers.specs.State.{mask_at}
use Rattle.timers.specs.Formed.{Formed as TimersFormed}
use Rattle.timers.specs.Registers.{register_of, written_of}
use Rattle.timers.proofs.Formed.{formed-in}
use Rattle.timers.proofs.Access.{read-capabilities}
use Rattle.timers.proofs.Settings.{capabilities-fit}
use Rattle.timers.proofs.Places.{Unlisted, unlisted-read, unlisted-write, capabilities-write}
use Rattle.timers.proofs.ReadBack as Back
use Rattle.timers.proofs.Others as Others
use Rattle.board.specs.declared.Board.{Board}
use Rattle.board.specs.declared.Turn.{Turn}
use Rattle.board.specs.State.{turn}
use Rattle.board.specs.Wires.{joined}
use Rattle.board.specs.Step.{turn_of}
use Rattle.board.specs.Runs.{answers}
use Rattle.board.specs.Accesses.{set, show, configuration, comparator}
use Rattle.board.proofs.Formed.{Formed}
use Rattle.board.proofs.Keeps.{keeps}
use Rattle.board.proofs.Windows.{same-value, joined_same, joined-timers, shows, sets}

-- what offset o reads
abbrev pub register : Board → ℕ → Answer
register b o = (turn_of b (show o)).answer

-- bit k of v, in its place
abbrev pub bit : ℕ → ℕ → ℕ
bit k v = v / 2 ^ k % 2 * 2 ^ k

-- bit k of r, in its place, unless it is written 1
abbrev pub left : ℕ → ℕ → ℕ → ℕ
left k r v = r / 2 ^ k % 2 * (1 - v / 2 ^ k % 2) * 2 ^ k

pub less : (x y w : ℕ) → x + y ≡ w → x ≡ w - y
less x y w h = omega arith

-- ---- the accesses, by what the timers make of them

module _ (b : Board) (z : Formed b) (o : ℕ) (a : o % 8 ≡ 0) (l : o < 0x400) where
  abbrev s : Timers
  s = b.timers

  pub shown : register b o ≡ value (register_of s o)
  shown = ap (λ (t : Turn). t.answer) (shows b z o a l)

  pub shown-is : (r : ℕ) → register b o ≡ value r → register_of s o ≡ r
  shown-is r e = same-value _ _ (sym shown ∙ e)

  module _ (v : ℕ) where
    after : (turn_of b (set o v)).board.timers ≡ written_of s o v
    after = ap (λ (t : Turn). t.board.timers) (sets b z o a l v) ∙ joined-timers b.controller (written_of s o v) b.outside

    ignored-by : written_of s o v ≡ s → turn_of b (set o v) ≡ turn b ok
    ignored-by e = sets b z o a l v ∙ ap (λ (x : Timers). turn (joined b.controller x b.outside) ok) e ∙ ap (λ (x : Board). turn x ok) (joined_same b z)

    -- what another offset reads after the write
    then : (p : ℕ) → p % 8 ≡ 0 → p < 0x400 → register (turn_of b (set o v)).board p ≡ value (register_of (written_of s o v) p)
    then p c h = ap (λ (t : Turn). t.answer) (shows (turn_of b (set o v)).board (keeps b z (set o v)) p c h) ∙ ap (λ (x : Timers). value (register_of x p)) after

    read_back : (r : ℕ) → register_of (written_of s o v) o ≡ r → answers b (set o v ∷ show o ∷ []) ≡ ok ∷ value r ∷ []
    unfolding answers
    read_back r e = λ k. (sets b z o a l v k).answer ∷ (then o a l ∙ ap value e) k ∷ []

-- ---- the list

module _ (b : Board) (z : Formed b) (v : ℕ) where
  -- "0x000, read only": period, vendor, 64-bit counter, three timers, revision 1. The period and the vendor are the
  -- settings' (document 02, K6)
  pub capabilities-back :
      answers b (set 0x000 v ∷ show 0x000 ∷ []) ≡ ok ∷ value (b.timers.tick_period * 2 ^ 32 + (b.timers.vendor * 2 ^ 16 + 0x2201)) ∷ []
  capabilities-back =
      read_back b z 0x000 refl (omega arith) v _
      (ap (λ (s : Timers). register_of s 0x000) (capabilities-write b.timers v)
      ∙ read-capabilities b.timers 0x000 refl
      ∙ capabilities-fit b.timers z.timed)

  pub capabilities-ignored : turn_of b (set 0x000 v) ≡ turn b ok
  capabilities-ignored = ignored-by b z 0x000 refl (omega arith) v (capabilities-write b.timers v)

  -- "0x010: bit 0 enable. Other bits read 0."
  pub enable-back : answers b (set 0x010 v ∷ show 0x010 ∷ []) ≡ ok ∷ value (v % 2) ∷ []
  enable-back = read_back b z 0x010 refl (omega arith) v (v % 2) (Back.enable-back b.timers v)

  -- "0x020: bit n is timer n's status. Writing 1 to it clears it. Other bits read 0."
  pub status-back : (r : ℕ) → register b 0x020 ≡ value r → answers b (set 0x020 v ∷ show 0x020 ∷ []) ≡ ok ∷ value (left 2 r v + (left 1 r v + left 0 r v)) ∷ []
  status-back r e =
      read_back b z 0x020 refl (omega arith) v (left 2 r v + (left 1 r v + left 0 r v))
      (Back.status-back b.timers v ∙ ap (λ (x : ℕ). left 2 x v + (left 1 x v + left 0 x v)) (shown-is b z 0x020 refl (omega arith) r e))

  -- "0x0F0: main counter. A write while enabled is ignored."
  pub counter-back : register b 0x010 ≡ value 0 → answers b (set 0x0F0 v ∷ show 0x0F0 ∷ []) ≡ ok ∷ value v ∷ []
  counter-back e = read_back b z 0x0F0 refl (omega arith) v v (Back.counter-back b.timers v (shown-is b z 0x010 refl (omega arith) 0 e))

  pub counter-ignored : register b 0x010 ≡ value 1 → turn_of b (set 0x0F0 v) ≡ turn b ok
  counter-ignored e = ignored-by b z 0x0F0 refl (omega arith) v (Back.counter-ignored b.timers v (shown-is b z 0x010 refl (omega arith) 1 e))

  -- "Offsets not listed read 0 and ignore writes."
  module _ (o : ℕ) (a : o % 8 ≡ 0) (l : o < 0x400) (u : Unlisted o) where
    pub unlisted-reads : register b o ≡ value 0
    unlisted-reads = shown b z o a l ∙ ap value (unlisted-read b.timers o u)

    pub unlisted-ignored : turn_of b (set o v) ≡ turn b ok
    unlisted-ignored = ignored-by b z o a l v (unlisted-write b.timers o u v)

-- ---- a timer's two registers

module _ (b : Board) (z : Formed b) (v n k : ℕ) (l : n < 3) (e : register b (configuration n) ≡ value k) where
  abbrev block : Timers
  block = b.timers

  abbrev f : TimersFormed block
  f = formed-in block z.timed

  a0 : configuration n % 8 ≡ 0
  a0 = omega arith

  a8 : comparator n % 8 ≡ 0
  a8 = omega arith

  was : register_of block (configuration n) ≡ k
  was = shown-is b z (configuration n) a0 (omega arith) k e

  -- "Writable: 1 level type, 2 interrupt enable, 3 periodic, 6 set-comparator (kept only if bit 3 is written 1), 8
  -- 32-bit mode, 13:9 route. Bits 5 and 4 read 1; … the rest read 0." Bits 63:32 read the timer's mask, and "a written
  -- route outside the mask keeps the old one" (document 02, K6); "the other bits are taken."
  pub configuration-back :
      answers b (set (configuration n) v ∷ show (configuration n) ∷ [])
      ≡ ok
      ∷ value
      (mask_at block n * 2 ^ 32
      + (cond (in_mask (mask_at block n) (v / 2 ^ 9 % 2 ^ 5)) (v / 2 ^ 9 % 2 ^ 5) (k / 2 ^ 9 % 2 ^ 5) * 2 ^ 9
      + (bit 8 v + (v / 2 ^ 3 % 2 * (v / 2 ^ 6 % 2) * 2 ^ 6 + (3 * 2 ^ 4 + (bit 3 v + (bit 2 v + bit 1 v)))))))
      ∷ []
  configuration-back =
      read_back b z (configuration n) a0 (omega arith) v _
      (Back.configuration-back block f n l v
      ∙ ap
      (λ (x : ℕ). fields (mask_at block n) (cond (in_mask (mask_at block n) (v / 2 ^ 9 % 2 ^ 5)) (v / 2 ^ 9 % 2 ^ 5) (x / 2 ^ 9 % 2 ^ 5)) (v / 2 ^ 8 % 2) (v / 2 ^ 3 % 2 * (v / 2 ^ 6 % 2)) (v / 2 ^ 3 % 2) (v / 2 ^ 2 % 2) (v / 2 ^ 1 % 2))
      was)

  -- "Writing edge type clears the status."
  pub configuration-status :
      (m r q : ℕ) → m < 3 → register b 0x020 ≡ value r → register (turn_of b (set (configuration n) v)).board 0x020 ≡ value q →
      q / 2 ^ m % 2 ≡ cond (eqb m n) (cond (eqb (v / 2 ^ 1 % 2) 1) (r / 2 ^ m % 2) 0) (r / 2 ^ m % 2)
  configuration-status m r q h er eq =
      ap (λ (x : ℕ). x / 2 ^ m % 2) (same-value _ _ (sym eq ∙ then b z (configuration n) a0 (omega arith) v 0x020 refl (omega arith)))
      ∙ Back.configuration-status block f n l v m h
      ∙ ap (λ (x : ℕ). cond (eqb m n) (cond (eqb (v / 2 ^ 1 % 2) 1) (x / 2 ^ m % 2) 0) (x / 2 ^ m % 2)) (shown-is b z 0x020 refl (omega arith) r er)

  -- what is written as a comparator: "In 32-bit mode the written number is first reduced modulo 2^32."
  abbrev pub taken : ℕ
  taken = cond (eqb (k / 2 ^ 8 % 2) 1) (v % 2 ^ 32) v

  module _ (r : ℕ) (q : register b (comparator n) ≡ value r) where
    held : register_of block (comparator n) ≡ r
    held = shown-is b z (comparator n) a8 (omega arith) r q

    -- "Writing 32-bit mode reduces comparator and period modulo 2^32."
    pub configuration-reduces : register (turn_of b (set (configuration n) v)).board (comparator n) ≡ value (cond (eqb (v / 2 ^ 8 % 2) 1) (r % 2 ^ 32) r)
    configuration-reduces =
        then b z (configuration n) a0 (omega arith) v (comparator n) a8 (omega arith)
        ∙ ap value (Back.configuration-reduces block f n l v ∙ ap (λ (x : ℕ). cond (eqb (v / 2 ^ 8 % 2) 1) (x % 2 ^ 32) x) held)

    -- periodic without bit 6: the comparator stays
    pub comparator-kept : k / 2 ^ 3 % 2 ≡ 1 → k / 2 ^ 6 % 2 ≡ 0 → answers b (set (comparator n) v ∷ show (comparator n) ∷ []) ≡ ok ∷ value r ∷ []
    comparator-kept p g =
        read_back b z (comparator n) a8 (omega arith) v r
        (Back.comparator-kept block f n l v (ap (λ (x : ℕ). x / 2 ^ 3 % 2) was ∙ p) (ap (λ (x : ℕ). x / 2 ^ 6 % 2) was ∙ g) ∙ held)

  narrow : cond (eqb (register_of block (configuration n) / 2 ^ 8 % 2) 1) (v % 2 ^ 32) v ≡ taken
  narrow = ap (λ (x : ℕ). cond (eqb (x / 2 ^ 8 % 2) 1) (v % 2 ^ 32) v) was

  -- "One-shot: the write sets it."
  pub comparator-one-shot : k / 2 ^ 3 % 2 ≡ 0 → answers b (set (comparator n) v ∷ show (comparator n) ∷ []) ≡ ok ∷ value taken ∷ []
  comparator-one-shot p =
      read_back b z (comparator n) a8 (omega arith) v taken (Back.comparator-one-shot block f n l v (ap (λ (x : ℕ). x / 2 ^ 3 % 2) was ∙ p) ∙ narrow)

  -- "Periodic: the write sets the period, and also the comparator if bit 6 is 1"
  pub comparator-set : k / 2 ^ 6 % 2 ≡ 1 → answers b (set (comparator n) v ∷ show (comparator n) ∷ []) ≡ ok ∷ value taken ∷ []
  comparator-set p = read_back b z (comparator n) a8 (omega arith) v taken (Back.comparator-set block f n l v (ap (λ (x : ℕ). x / 2 ^ 6 % 2) was ∙ p) ∙ narrow)

  -- "bit 6 then becomes 0", and the other bits of the configuration stay
  pub comparator-unsets : register (turn_of b (set (comparator n) v)).board (configuration n) ≡ value (k - bit 6 k)
  comparator-unsets =
      then b z (comparator n) a8 (omega arith) v (configuration n) a0 (omega arith)
      ∙ ap value (less unset (bit 6 k) k (ap (λ (x : ℕ). unset + bit 6 x) (sym was) ∙ Back.comparator-unsets block f n l v ∙ was))
    where
      unset : ℕ
      unset = register_of (written_of block (comparator n) v) (configuration n)

-- ---- what a write leaves of the other registers

module _ (b : Board) (z : Formed b) (v p : ℕ) (c : p % 8 ≡ 0) (h : p < 0x400) where
  kept_by : (o : ℕ) → o % 8 ≡ 0 → o < 0x400 → register_of (written_of b.timers o v) p ≡ register_of b.timers p → register (turn_of b (set o v)).board p ≡ register b p
  kept_by o a l e = then b z o a l v p c h ∙ ap value e ∙ sym (shown b z p c h)

  pub enable-leaves : (p ≡ 0x010 → ⊥) → register (turn_of b (set 0x010 v)).board p ≡ register b p
  enable-leaves d = kept_by 0x010 refl (omega arith) (Others.enable-leaves b.timers v p d)

  pub status-leaves : (p ≡ 0x020 → ⊥) → register (turn_of b (set 0x020 v)).board p ≡ register b p
  status-leaves d = kept_by 0x020 refl (omega arith) (Others.status-leaves b.timers v p d)

  pub counter-leaves : (p ≡ 0x0F0 → ⊥) → register (turn_of b (set 0x0F0 v)).board p ≡ register b p
  counter-leaves d = kept_by 0x0F0 refl (omega arith) (Others.counter-leaves b.timers v p d)

  module _ (n : ℕ) (l : n < 3) where
    -- a configuration that is written edge clears the status, and its 32-bit mode may reduce the comparator
    pub configuration-leaves : (p ≡ 0x020 → ⊥) → (p ≡ configuration n → ⊥) → (p ≡ comparator n → ⊥) → register (turn_of b (set (configuration n) v)).board p ≡ register b p
    configuration-leaves d2 d0 d8 = kept_by (configuration n) (omega arith) (omega arith) (Others.configuration-leaves b.timers v p n l d2 d0 d8)

    pub comparator-leaves : (p ≡ configuration n → ⊥) → (p ≡ comparator n → ⊥) → register (turn_of b (set (comparator n) v)).board p ≡ register b p
    comparator-leaves d0 d8 = kept_by (comparator n) (omega arith) (omega arith) (Others.comparator-leaves b.timers v p n l d0 d8)
