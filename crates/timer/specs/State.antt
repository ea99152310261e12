-- One timer's numbers: flags, width, and a timer with another of its numbers.
use Rattle.std.specs.Prelude.{ℕ, ◌-◌, ◌%◌, ◌^◌, Bool, true, false, ◌==◌}
use Rattle.timer.specs.declared.Timer.{Timer}
use Rattle.timer.specs.Mask.{lowest}

-- a flag is set where it is 1
abbrev pub flag : ℕ → Bool
flag f = f == 1

-- a timer's width in bits: 32 in 32-bit mode
abbrev pub width : Bool → ℕ
width true = 32
width false = 64

-- a number in 32-bit mode is reduced modulo 2^32
abbrev pub reduced : Bool → ℕ → ℕ
reduced true x = x % 2 ^ 32
reduced false x = x

abbrev pub narrowed : Timer → Bool
narrowed t = flag t.narrow

-- ---- a timer with another number

abbrev pub with_status : Timer → ℕ → Timer
with_status t x =
    record {
      comparator = t.comparator;
      period = t.period;
      route = t.route;
      level_type = t.level_type;
      interrupt = t.interrupt;
      periodic = t.periodic;
      set_comparator = t.set_comparator;
      narrow = t.narrow;
      status = x;
    }

abbrev pub with_comparator : Timer → ℕ → Timer
with_comparator t x =
    record {
      comparator = x;
      period = t.period;
      route = t.route;
      level_type = t.level_type;
      interrupt = t.interrupt;
      periodic = t.periodic;
      set_comparator = t.set_comparator;
      narrow = t.narrow;
      status = t.status;
    }

abbrev pub with_period : Timer → ℕ → Timer
with_period t x =
    record {
      comparator = t.comparator;
      period = x;
      route = t.route;
      level_type = t.level_type;
      interrupt = t.interrupt;
      periodic = t.periodic;
      set_comparator = t.set_comparator;
      narrow = t.narrow;
      status = t.status;
    }

abbrev pub with_route : Timer → ℕ → Timer
with_route t x =
    record {
      comparator = t.comparator;
      period = t.period;
      route = x;
      level_type = t.level_type;
      interrupt = t.interrupt;
      periodic = t.periodic;
      set_comparator = t.set_comparator;
      narrow = t.narrow;
      status = t.status;
    }

abbrev pub with_set : Timer → ℕ → Timer
with_set t x =
    record {
      comparator = t.comparator;
      period = t.period;
      route = t.route;
      level_type = t.level_type;
      interrupt = t.interrupt;
      periodic = t.periodic;
      set_comparator = x;
      narrow = t.narrow;
      status = t.status;
    }

-- the bits that a write of the configuration register takes as they are
abbrev pub with_modes : Timer → ℕ → ℕ → ℕ → ℕ → Timer
with_modes t level interrupt periodic narrow =
    record {
      comparator = t.comparator;
      period = t.period;
      route = t.route;
      level_type = level;
      interrupt = interrupt;
      periodic = periodic;
      set_comparator = t.set_comparator;
      narrow = narrow;
      status = t.status;
    }

-- ---- a timer whose numbers are all 0, and the timer at reset: everything writable 0, except the comparator and the route, which is its mask's
-- lowest pin

abbrev pub blank : Timer
blank = record { comparator = 0; period = 0; route = 0; level_type = 0; interrupt = 0; periodic = 0; set_comparator = 0; narrow = 0; status = 0 }

unfoldable pub reset_timer : ℕ → Timer
reset_timer mask = with_route (with_comparator blank (2 ^ 64 - 1)) (lowest mask)
