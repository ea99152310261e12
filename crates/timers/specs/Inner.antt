-- The same meanings as the code works them out, and what an advance of the board asks for: only inner functions cite these.
use Rattle.std.specs.Prelude.{ℕ, zero, suc, Bool, cond, ◌&&◌, ◌==◌, nat_lt, Result, Ok, Err, Option, Some, None}
use mir.Val.{bool_byte}
use Rattle.timer.specs.declared.Timer.{Timer}
use Rattle.timer.specs.declared.Half.{Half}
use Rattle.timer.specs.Halves.{replaced}
use Rattle.timer.specs.Registers.{configuration_of, configured_of, compared_of}
use Rattle.timer.specs.Inner.{raising, holding}
use Rattle.timers.specs.declared.Timers.{Timers}
use Rattle.timers.specs.declared.Ran.{Ran}
use Rattle.timers.specs.State.{three, at, mask_at, is_enabled}
use Rattle.answers.specs.declared.Refusal.{Refusal}
use Rattle.answers.specs.declared.Refusal.TheVariants as refusal
use Rattle.timers.specs.Registers.{aligned, inside, numbered}
use Rattle.timers.specs.Tick.{fires_in, ticks, firings}

-- ---- many ticks

-- the number, from 1, of the tick at which timer m first fires in n ticks; 0 if it does not
unfoldable pub first : ℕ → ℕ → Timers → ℕ
first m zero s = 0
first m (suc n) s = cond (first m n s == 0) (cond (fires_in (ticks n s) m) (suc n) 0) (first m n s)

abbrev pub ran : Timers → (ℕ → ℕ) → (ℕ → ℕ) → Ran
ran s fired first = record { timers = s; fired = three fired; first = three first }

unfoldable pub ran_of : Timers → ℕ → Ran
ran_of s n = ran (ticks n s) (λ m. firings m n s) (λ m. first m n s)

-- ---- wires

-- the pin that timer m drives, or none
unfoldable pub driven_pin : Timers → ℕ → Option ℕ
driven_pin s m = cond (is_enabled s && holding (at s m)) (Some (at s m).route) None

-- the same as a number, 24 for none
unfoldable pub driven_of : Timers → ℕ → ℕ
driven_of s m = cond (is_enabled s && holding (at s m)) (at s m).route 24

-- a firing level timer with its interrupt enabled holds the wire of its pin high
unfoldable pub raises_of : Timers → ℕ → Bool
raises_of s m = raising (at s m)

-- ---- what an access is tested for

-- 2 for width and alignment, then 1 for the offset
abbrev pub tested : ℕ → ℕ → Result (Unit {0}) Refusal
tested width offset = cond (aligned width offset) (cond (inside offset) (Ok tt) (Err refusal.Offset)) (Err refusal.Width)

-- ---- registers

-- one timer after a write to a place among its registers, `hit` being whether it is the one that is written
unfoldable pub timer_put : ℕ → Timer → Bool → ℕ → ℕ → Timer
timer_put mask t hit place v = cond hit (cond (place == 0) (configured_of mask t v) (cond (place == 8) (compared_of t v) t)) t

-- what stands beside a half that is written, where it counts: the counter, the enable bit, a timer's configuration
unfoldable pub beside_of : Timers → ℕ → ℕ
beside_of s offset =
    cond (offset == 0x0F0) s.counter
    (cond (offset == 0x010) (bool_byte (is_enabled s))
    (cond (nat_lt offset 0x100) 0 (configuration_of (mask_at s (numbered offset)) (at s (numbered offset)))))

abbrev pub filled_by : Timers → Half → ℕ → ℕ → ℕ
filled_by s h offset v = replaced h (cond (offset == 0x020) 0 (beside_of s offset)) v
