use mathlib.Core.Path.{◌≡◌, refl}
use mathlib.Core.Bool.{true, false}
use borrow.Author.Rules.{rules}
use Rattle.board.specs.declared.Call.TheVariants as call
use Rattle.board.specs.Formed.{well_formed}
use Rattle.board.specs.Step.{wiring_of}
use Rattle.board.specs.State.{with_wires}
use Rattle.board.proofs.Served.{served-wire}
use Rattle.nataqvoju.proofs.Served.{served, refuses}
use Rattle.nataqvoju.proofs.nataqvoju_wire.Goals as goal

pub returns-then-not-formed : goal.returns-then-not-formed
returns-then-not-formed c =
    let ill : well_formed c.args.b.now ≡ false = search rules in
    refuses c.args.b.now (call.Wire c.args.pin c.args.level) c.refused.result ill c.refused.ensures

pub returns : goal.returns
returns c =
    let h = c.args.b.now in
    let well : well_formed h ≡ true = search rules in
    served h (call.Wire c.args.pin c.args.level) (wiring_of h c.args.pin c.args.level) (with_wires h c.wire.new.levels c.wire.new.held c.wire.new.outside) c.wire.result well (served-wire h c.args.pin c.args.level) (c.wire.ensures well refl refl refl)
