use mathlib.Core.Path.{◌≡◌, sym, ap, ◌∙◌}
use mathlib.Core.Bool.{true, false}
use borrow.Author.Rules.{rules}
use Rattle.board.specs.declared.Call.TheVariants as call
use Rattle.board.specs.Formed.{well_formed}
use Rattle.answers.specs.Numbers.{numbers_of}
use Rattle.board.specs.declared.Turn.{Turn}
use Rattle.board.proofs.Leaves.{read-leaves}
use Rattle.board.proofs.Served.{served-read}
use Rattle.nataqvoju.proofs.Served.{tells, refuses}
use Rattle.nataqvoju.proofs.nataqvoju_read.Goals as goal

pub returns-then-not-formed : goal.returns-then-not-formed
returns-then-not-formed c =
    let ill : well_formed c.args.b.now ≡ false = search rules in
    refuses c.args.b.now (call.Read c.args.window c.args.width c.args.offset) c.refused.result ill c.refused.ensures

pub returns : goal.returns
returns c =
    let h = c.args.b.now in
    let well : well_formed h ≡ true = search rules in
    tells h (call.Read c.args.window c.args.width c.args.offset) c.from.result well
    (sym (read-leaves h c.args.window c.args.width c.args.offset))
    (c.from.ensures ∙ ap (λ (t : Turn). numbers_of t.answer) (c.reading.ensures ∙ sym (served-read h c.args.window c.args.width c.args.offset)))
