use Rattle.std.proofs.Common.{◌≡◌, ℕ, ◌<◌, length, set, ap, ◌∙◌, sym, rules}
use Rattle.timer.specs.declared.Timer.{Timer}
use Rattle.timer.specs.Tick.{firing}
use Rattle.timers.specs.declared.Timers.{Timers}
use Rattle.timers.specs.State.{at, with_list}
use Rattle.timers.specs.Tick.{fired_of, pulses_of, route_of}
use Rattle.board.specs.Tick.{effect}
use Rattle.plain_timers.proofs.Cases.{put}
use Rattle.plain.proofs.tick.fire.Goals as goal

-- timer m put into its place as its firing leaves it
put-fired : (s : Timers) (m : ℕ) (x : Timer) → length s.timer ≡ 3 → m < 3 → x ≡ firing (at s m) → with_list s (set s.timer m x) ≡ fired_of s m
unfolding fired_of
put-fired s m x size h e = ap (with_list s) (ap (set s.timer m) e ∙ put s.timer m (firing (at s m)) size h)

pub returns-then-pulses : goal.returns-then-pulses
unfolding effect pulses_of route_of
returns-then-pulses c =
    let b = c.args.b in
    let size : length b.timers.timer ≡ 3 = search rules in
    let e = put-fired b.timers c.args.m c.fired.result size c.requires c.fired.ensures in
    rw (sym c.pulses.ensures ∙ c.if-pulses.true, c.pulsed.ensures, c.wires-levels.ensures, e)

pub returns : goal.returns
unfolding effect pulses_of
returns c =
    let b = c.args.b in
    let size : length b.timers.timer ≡ 3 = search rules in
    let e = put-fired b.timers c.args.m c.fired.result size c.requires c.fired.ensures in
    rw (sym c.pulses.ensures ∙ c.if-pulses.false, c.rewired.ensures, c.wires-levels.ensures, e)
