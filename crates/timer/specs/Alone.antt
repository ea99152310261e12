-- One timer by itself under n ticks of a block whose counter was c: what it becomes, how often it fires, and when first.
use Rattle.std.specs.Prelude.{ℕ, zero, suc, ◌+◌, ◌%◌, ◌^◌, cond, ◌==◌}
use Rattle.timer.specs.declared.Timer.{Timer}
use Rattle.timer.specs.declared.Run.{Run}
use Rattle.timer.specs.Tick.{meets, firing}

-- the counter after n ticks
abbrev pub after : ℕ → ℕ → ℕ
after n c = (c + n) % 2 ^ 64

-- its turn at the counter c
unfoldable pub stepped : ℕ → Timer → Timer
stepped c t = cond (meets c t) (firing t) t

unfoldable pub alone : ℕ → ℕ → Timer → Timer
alone zero c t = t
alone (suc n) c t = stepped (after (suc n) c) (alone n c t)

unfoldable pub count : ℕ → ℕ → Timer → ℕ
count zero c t = 0
count (suc n) c t = count n c t + cond (meets (after (suc n) c) (alone n c t)) 1 0

-- the number, from 1, of the tick at which it first fires; 0 if it does not
unfoldable pub begun : ℕ → ℕ → Timer → ℕ
begun zero c t = 0
begun (suc n) c t = cond (begun n c t == 0) (cond (meets (after (suc n) c) (alone n c t)) (suc n) 0) (begun n c t)

abbrev pub run : Timer → ℕ → ℕ → Run
run t f d = record { timer = t; fired = f; first = d }

unfoldable pub run_of : Timer → ℕ → ℕ → Run
run_of t c n = run (alone n c t) (count n c t) (begun n c t)
