-- "Timer registers", one timer's: 0x100 + 0x20n, its configuration, and 0x108 + 0x20n, its comparator. The timer's route mask is a setting of the
-- block, and given.
use Rattle.std.specs.Prelude.{ℕ, ◌+◌, ◌*◌, ◌/◌, ◌%◌, ◌^◌, cond}
use mir.Val.{bool_byte}
use Rattle.timer.specs.declared.Timer.{Timer}
use Rattle.timer.specs.declared.Half.{Half}
use Rattle.timer.specs.Halves.{replaced}
use Rattle.timer.specs.Mask.{in_mask}
use Rattle.timer.specs.State.{flag, reduced, narrowed, with_status, with_comparator, with_period, with_route, with_set, with_modes}

-- bit k of a number
abbrev pub bit : ℕ → ℕ → ℕ
bit k v = v / 2 ^ k % 2

-- ---- the configuration: 1 level type, 2 interrupt enable, 3 periodic, 6 set-comparator, 8 32-bit mode, 13:9 route

-- a flag as bit k
abbrev pub placed : ℕ → ℕ → ℕ
placed k f = bool_byte (flag f) * 2 ^ k

-- bits 5 and 4 read 1; bits 63:32 read the mask; the rest read 0
unfoldable pub configuration_of : ℕ → Timer → ℕ
configuration_of mask t =
    mask * 2 ^ 32
    + (t.route * 2 ^ 9
    + (placed 8 t.narrow
    + (placed 6 t.set_comparator
    + (3 * 2 ^ 4 + (placed 3 t.periodic + (placed 2 t.interrupt + placed 1 t.level_type))))))

-- a written route outside the mask keeps the old one
abbrev pub routed : ℕ → ℕ → Timer → ℕ
routed mask v t = cond (in_mask mask (v / 2 ^ 9 % 2 ^ 5)) (v / 2 ^ 9 % 2 ^ 5) t.route

-- set-comparator is kept only if bit 3 is written 1; writing edge type clears the status; writing 32-bit mode reduces comparator and period
unfoldable pub configured_of : ℕ → Timer → ℕ → Timer
configured_of mask t v =
    let w = with_modes t (bit 1 v) (bit 2 v) (bit 3 v) (bit 8 v) in
    let r = with_route (with_set w (cond (flag (bit 3 v)) (bit 6 v) 0)) (routed mask v t) in
    let s = with_status r (cond (flag (bit 1 v)) t.status 0) in
    with_period (with_comparator s (reduced (flag (bit 8 v)) t.comparator)) (reduced (flag (bit 8 v)) t.period)

-- ---- the comparator. In 32-bit mode the written number is first reduced modulo 2^32

-- one-shot: the write sets it. Periodic: the write sets the period, and also the comparator if bit 6 is 1; bit 6 then becomes 0.
-- Told what it makes of each of the two, since in halves that is not the same number
unfoldable pub set_of : Timer → ℕ → ℕ → Timer
set_of t comparator period =
    let x = reduced (narrowed t) comparator in
    let y = reduced (narrowed t) period in
    cond (flag t.periodic)
    (with_set (with_period (with_comparator t (cond (flag t.set_comparator) x t.comparator)) y) 0)
    (with_comparator t x)

-- the whole register: the written number, whichever is set
abbrev pub compared_of : Timer → ℕ → Timer
compared_of t v = set_of t v v

-- a half: replaced in whatever the whole write would set, comparator, period or both. Bit 6 clears at the first half,
-- since each is a write; a high half in 32-bit mode stores 0, since the number with that half replaced is reduced
abbrev pub half_compared_of : Timer → Half → ℕ → Timer
half_compared_of t h v = set_of t (replaced h t.comparator v) (replaced h t.period v)

-- ---- the status: writing 1 to it clears it

unfoldable pub cleared_of : Timer → Timer
cleared_of t = with_status t 0
