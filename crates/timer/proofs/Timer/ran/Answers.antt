use Rattle.std.proofs.Common.{◌^◌, ◌<◌, refl, ap, ◌∙◌, arith}
use Rattle.timer.specs.declared.Timer.{Timer}
use Rattle.timer.specs.Alone.{run}
use Rattle.timer.proofs.Ran.{answer-none, answer-some, code-some}
use Rattle.timer.proofs.Timer.ran.Goals as goal

pub returns-then-fired-eq0 : goal.returns-then-fired-eq0
returns-then-fired-eq0 c = let k : c.args.self.comparator < 2 ^ 64 = omega arith in
    answer-none c.args.self c.args.counter c.args.ticks c.distance-due.result c.stride-stride.result c.firings-fired.result
    k c.ranges.ticks.fits c.distance-due.ensures c.stride-stride.ensures c.firings-fired.ensures c.if-fired-eq0.true

pub overflow_mul-last : goal.overflow_mul-last
overflow_mul-last c = let h = code-some _ _ _ _ c.firings-fired.ensures c.if-fired-eq0.false in
    omega (arith, h.far)

pub overflow_cast-result : goal.overflow_cast-result
overflow_cast-result c = let h = code-some _ _ _ _ c.firings-fired.ensures c.if-fired-eq0.false in
    omega (arith, h.few)

pub overflow_cast-result-2 : goal.overflow_cast-result-2
overflow_cast-result-2 c = let h = code-some _ _ _ _ c.firings-fired.ensures c.if-fired-eq0.false in
    omega (arith, h.due)

pub returns : goal.returns
returns c = let k : c.args.self.comparator < 2 ^ 64 = omega arith in
    ap (λ (t : Timer). run t c.firings-fired.result c.distance-due.result) c.fired_to.ensures
    ∙ answer-some c.args.self c.args.counter c.args.ticks c.distance-due.result c.stride-stride.result c.firings-fired.result
    _ _ k c.ranges.ticks.fits
    c.distance-due.ensures c.stride-stride.ensures c.firings-fired.ensures c.if-fired-eq0.false refl refl
