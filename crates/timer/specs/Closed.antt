-- The closed form of many ticks of one timer: only inner functions cite it, and proofs/Closed.antt shows that it is the ticks.
use Rattle.std.specs.Prelude.{◌≡◌, ℕ, zero, suc, ◌+◌, ◌-◌, ◌*◌, ◌/◌, ◌%◌, ◌^◌, ◌<◌, cond, ◌==◌, nat_lt}
use Rattle.timer.specs.declared.Timer.{Timer}
use Rattle.timer.specs.State.{flag, width, narrowed, with_status, with_comparator}

-- how often a timer fires in n ticks whose first firing is due in d (0: not at all) and that then goes on by s
unfoldable pub times : ℕ → ℕ → ℕ → ℕ
times d s n = cond (d == 0) 0 (cond (nat_lt n d) 0 (1 + (n - d) / s))

-- the first firing's tick, in n ticks whose first firing is due in d
abbrev pub begins : ℕ → ℕ → ℕ
begins d n = cond (nat_lt n d) 0 d

-- how far a firing moves the comparator at its width
abbrev pub stride : Timer → ℕ
stride t = cond (flag t.periodic) (t.period % 2 ^ width (narrowed t)) 0

-- the timer after firings that would leave x as the comparator of a periodic timer without its width
abbrev pub fired_to : Timer → ℕ → Timer
fired_to t x =
    with_status
    (with_comparator t (cond (flag t.periodic) (x % 2 ^ width (narrowed t)) t.comparator))
    (cond (flag t.level_type) 1 t.status)

-- the timer after f firings
unfoldable pub closed : Timer → ℕ → Timer
closed t zero = t
closed t (suc f) = fired_to t (t.comparator + suc f * t.period)

-- r ticks after the counter c the timer matches, and not sooner
pub record Ahead (c : ℕ) (t : Timer) (r : ℕ) : Type 0 where
  pub ahead : r < 2 ^ width (narrowed t)
  pub meeting : (c + r) % 2 ^ width (narrowed t) ≡ t.comparator % 2 ^ width (narrowed t)
