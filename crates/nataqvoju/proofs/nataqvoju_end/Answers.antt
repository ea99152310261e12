use mathlib.Core.Path.{◌≡◌, sym, ◌∙◌}
use mathlib.Core.Bool.{true, false}
use borrow.Author.Rules.{rules}
use Rattle.board.specs.declared.Call.TheVariants as call
use Rattle.board.specs.Formed.{well_formed}
use Rattle.board.proofs.Served.{served-end}
use Rattle.nataqvoju.proofs.Served.{served, refuses}
use Rattle.nataqvoju.proofs.nataqvoju_end.Goals as goal

pub returns-then-not-formed : goal.returns-then-not-formed
returns-then-not-formed c =
    let ill : well_formed c.args.b.now ≡ false = search rules in
    refuses c.args.b.now (call.End c.args.vector) c.refused.result ill c.refused.ensures

pub returns : goal.returns
returns c =
    let h = c.args.b.now in
    let well : well_formed h ≡ true = search rules in
    served h (call.End c.args.vector) c.ending-turn.result c.left.new.b c.left.result well (served-end h c.args.vector ∙ sym c.ending-turn.ensures) c.left.ensures
