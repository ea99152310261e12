use Rattle.std.proofs.Common.{◌≡◌, ℕ, ◌+◌, ◌%◌, ◌^◌, ◌<◌, length, ap, arith, rules, eq-eqb, ne_eqb}
use Rattle.timers.proofs.Whole.{ran-off, ran_on}
use Rattle.timers.proofs.Timers.ran.Goals as goal

pub returns-then-self-ne1 : goal.returns-then-self-ne1
returns-then-self-ne1 c = ran-off _ _ (ne_eqb _ _ c.if-self-ne1.true)

pub returns : goal.returns
returns c =
    let a = c.args in
    let k : a.self.counter < 2 ^ 64 = omega arith in
    let l : length a.self.timer ≡ 3 = search rules in
    ran_on a.self a.ticks (eq-eqb _ _ c.if-self-ne1.false) k l
    ((a.self.counter + c.from.result) % 2 ^ 64) _ _ _
    (ap (λ (x : ℕ). (a.self.counter + x) % 2 ^ 64) c.from.ensures) (search rules) (search rules) (search rules)
