use Rattle.std.proofs.Common.{◌≡◌, length, sym, rules}
use Rattle.timers.proofs.Three.{beyond}
use Rattle.timers.proofs.Timers.mask_at.Goals as goal

pub returns-then-m-ge-COUNT : goal.returns-then-m-ge-COUNT
returns-then-m-ge-COUNT c = let l : length c.args.self.masks ≡ 3 = search rules in
    sym (beyond c.args.self.masks 0 c.args.m l c.if-m-ge-COUNT.true)
