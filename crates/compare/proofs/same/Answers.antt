use Rattle.std.proofs.Common.{◌∙◌, rules}
use Rattle.compare.proofs.Equal.{Long}
use Rattle.compare.proofs.Derived.{derived-same}
use Rattle.compare.proofs.same.Goals as goal

pub returns : goal.returns
returns c =
    let s = c.args in
    let long-x : Long s.x.board = search rules in
    let long-y : Long s.y.board = search rules in
    c.eq.ensures ∙ derived-same s.x s.y long-x long-y
