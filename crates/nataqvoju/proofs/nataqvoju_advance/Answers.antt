use mathlib.Core.Path.{◌≡◌, sym, ◌∙◌}
use mathlib.Core.Bool.{true, false}
use borrow.Author.Rules.{rules}
use Rattle.board.specs.declared.Call.TheVariants as call
use Rattle.board.specs.Formed.{well_formed}
use Rattle.board.proofs.Served.{served-advance}
use Rattle.nataqvoju.proofs.Served.{served, refuses}
use Rattle.nataqvoju.proofs.nataqvoju_advance.Goals as goal

pub returns-then-not-formed : goal.returns-then-not-formed
returns-then-not-formed c =
    let ill : well_formed c.args.b.now ≡ false = search rules in
    refuses c.args.b.now (call.Advance c.args.ticks) c.refused.result ill c.refused.ensures

pub returns : goal.returns
returns c =
    let h = c.args.b.now in
    let well : well_formed h ≡ true = search rules in
    served h (call.Advance c.args.ticks) c.advance-turn.result c.left.new.b c.left.result well
    (served-advance h c.args.ticks ∙ sym (c.advance-turn.ensures well)) c.left.ensures
