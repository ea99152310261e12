use Rattle.std.proofs.Common.{◌≡◌, length, rules}
use Rattle.timers.proofs.Access.{written-code}
use Rattle.timers.proofs.Timers.timer_written.Goals as goal

pub returns : goal.returns
returns c =
    let a = c.args in
    let l : length a.self.timer ≡ 3 = search rules in
    written-code a.self a.offset a.value l _ _ _ c.put-x0.ensures c.put-x1.ensures c.put-x2.ensures
