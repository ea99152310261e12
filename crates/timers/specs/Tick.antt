-- "One tick", literally; many ticks; how often a timer fires in them; the timers' part of the wire rule.
use Rattle.std.specs.Prelude.{ℕ, zero, suc, ◌+◌, ◌%◌, ◌^◌, Bool, cond, ◌&&◌, ◌||◌}
use Rattle.timer.specs.Tick.{meets, firing, pulsing, driving}
use Rattle.timers.specs.declared.Timers.{Timers}
use Rattle.timers.specs.State.{at, is_enabled, with_counter, with_timer}

-- ---- the steps of a tick

-- the counter goes up by one modulo 2^64
unfoldable pub counted_of : Timers → Timers
counted_of s = with_counter s ((s.counter + 1) % 2 ^ 64)

-- timer m fires if counter and comparator are equal (in 32-bit mode, modulo 2^32)
unfoldable pub matches_of : Timers → ℕ → Bool
matches_of s m = meets s.counter (at s m)

-- the firing of timer m
unfoldable pub fired_of : Timers → ℕ → Timers
fired_of s m = with_timer s m (firing (at s m))

-- timer m's turn
unfoldable pub turned_of : Timers → ℕ → Timers
turned_of s m = cond (matches_of s m) (fired_of s m) s

-- the counter goes up, then the timers below m have their turns, 0 first, each firing a step of its own
unfoldable pub up_to : ℕ → Timers → Timers
up_to zero s = counted_of s
up_to (suc m) s = turned_of (up_to m s) m

-- ---- one tick. Disabled: nothing happens

unfoldable pub tick : Timers → Timers
tick s = cond (is_enabled s) (up_to 3 s) s

-- timer m fires in the tick: it matches when its turn comes
unfoldable pub fires_in : Timers → ℕ → Bool
fires_in s m = is_enabled s && matches_of (up_to m s) m

-- ---- many ticks

unfoldable pub ticks : ℕ → Timers → Timers
ticks zero s = s
ticks (suc n) s = tick (ticks n s)

-- how often timer m fires in n ticks: a firing is counted in every case
unfoldable pub firings : ℕ → ℕ → Timers → ℕ
firings m zero s = 0
firings m (suc n) s = firings m n s + cond (fires_in (ticks n s) m) 1 0

-- ---- the wire rule, the timers' part

-- a pin's wire is high if some timer routed there has level type, interrupt enable and status, with the block enabled
unfoldable pub drives_of : Timers → ℕ → Bool
drives_of s pin = is_enabled s && (driving (at s 0) pin || (driving (at s 1) pin || driving (at s 2) pin))

-- a firing edge timer with its interrupt enabled raises the wire of its pin and drops it again
unfoldable pub pulses_of : Timers → ℕ → Bool
pulses_of s m = pulsing (at s m)

-- the pin that timer m is routed to
unfoldable pub route_of : Timers → ℕ → ℕ
route_of s m = (at s m).route
