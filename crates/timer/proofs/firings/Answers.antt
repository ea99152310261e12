use Rattle.std.proofs.Common.{◌-◌, sym, refl, ◌∙◌, div-le_self, arith}
use native.Mathlib.Nat.{div-zero}
use Rattle.timer.proofs.Width.{times-never, times-early, times-late}
use Rattle.timer.proofs.firings.Goals as goal

pub returns-then-d-eq0 : goal.returns-then-d-eq0
returns-then-d-eq0 c = rw c.if-d-eq0.true (sym (times-never c.args.s c.args.n))

pub returns-then-m-d : goal.returns-then-m-d
returns-then-m-d c = sym (times-early c.args.d c.args.s c.args.n (omega arith))

pub returns-then-s-eq0 : goal.returns-then-s-eq0
returns-then-s-eq0 c =
    let a = c.args in
    sym (times-late a.d a.s a.n (omega arith) (omega arith) ∙ rw c.if-s-eq0.true (rw div-zero refl))

pub overflow_add-result : goal.overflow_add-result
overflow_add-result c =
    let a = c.args in
    omega (arith, div-le_self (a.n - a.d) a.s)

pub returns : goal.returns
returns c =
    let a = c.args in
    rw c.from-m.ensures (sym (times-late a.d a.s a.n (omega arith) (omega arith)))
