use mathlib.Core.Path.{◌≡◌}
use mathlib.Core.Bool.{true, false}
use borrow.Author.Rules.{rules}
use Rattle.board.specs.declared.Call.TheVariants as call
use Rattle.board.specs.Formed.{well_formed}
use Rattle.board.specs.Step.{delivering_on_board}
use Rattle.board.specs.State.{with_entry}
use Rattle.board.proofs.Served.{served-deliver}
use Rattle.nataqvoju.proofs.Served.{served, refuses}
use Rattle.nataqvoju.proofs.nataqvoju_deliver.Goals as goal

pub returns-then-not-formed : goal.returns-then-not-formed
returns-then-not-formed c =
    let ill : well_formed c.args.b.now ≡ false = search rules in
    refuses c.args.b.now call.Deliver c.refused.result ill c.refused.ensures

pub returns : goal.returns
returns c =
    let h = c.args.b.now in
    let well : well_formed h ≡ true = search rules in
    served h call.Deliver (delivering_on_board h) (with_entry h c.deliver.new.low c.deliver.new.held) c.deliver.result well (served-deliver h) c.deliver.ensures
