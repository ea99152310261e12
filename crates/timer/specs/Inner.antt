-- The wire rule's parts as the code works them out: only inner functions cite these.
use Rattle.std.specs.Prelude.{Bool, ◌&&◌}
use Rattle.timer.specs.declared.Timer.{Timer}
use Rattle.timer.specs.State.{flag}

-- a firing level timer with its interrupt enabled holds the wire of its pin high
unfoldable pub raising : Timer → Bool
raising t = flag t.level_type && flag t.interrupt

-- it drives whatever pin it is routed to
unfoldable pub holding : Timer → Bool
holding t = flag t.level_type && (flag t.interrupt && flag t.status)
