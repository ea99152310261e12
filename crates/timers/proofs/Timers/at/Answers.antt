use Rattle.std.proofs.Common.{◌≡◌, length, sym, ◌∙◌, rules}
use Rattle.timer.specs.State.{blank}
use Rattle.timers.proofs.Three.{beyond}
use Rattle.timers.proofs.Timers.at.Goals as goal

pub returns-then-m-ge-COUNT : goal.returns-then-m-ge-COUNT
returns-then-m-ge-COUNT c = let l : length c.args.self.timer ≡ 3 = search rules in
    c.blank.ensures ∙ sym (beyond c.args.self.timer blank c.args.m l c.if-m-ge-COUNT.true)
