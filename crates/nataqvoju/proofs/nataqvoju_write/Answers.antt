use mathlib.Core.Path.{◌≡◌, sym, subst, ◌∙◌}
use Prim.Native.Nat.{ℕ, ◌%◌, ◌^◌, ◌<◌}
use Rattle.pins.proofs.PinAt.{pin-number}
use Rattle.board.specs.At.{low_write_at, low_pin_of}
use Rattle.board.specs.Step.{writing_of}
use Rattle.board.specs.State.{with_entry}
use Rattle.board.proofs.InPlace.{writing-low}
use mathlib.Core.Bool.{true, false}
use borrow.Author.Rules.{rules}
use Rattle.board.specs.declared.Call.TheVariants as call
use Rattle.board.specs.Formed.{well_formed}
use Rattle.board.proofs.Served.{served-write}
use Rattle.nataqvoju.proofs.Served.{served, refuses}
use Rattle.nataqvoju.proofs.nataqvoju_write.Goals as goal

pub returns-then-not-formed : goal.returns-then-not-formed
returns-then-not-formed c =
    let ill : well_formed c.args.b.now ≡ false = search rules in
    refuses c.args.b.now (call.Write c.args.window c.args.width c.args.offset c.args.value) c.refused.result ill c.refused.ensures

pub returns-in-Some : goal.returns-in-Some
returns-in-Some c =
    let h = c.args.b.now in
    let v = c.args.value % 2 ^ 32 in
    let p = low_pin_of h.controller.index c.args.window c.args.width c.args.offset c.args.value in
    let well : well_formed h ≡ true = search rules in
    let pin = pin-number p c.in-Some.n (sym c.in-Some.is ∙ c.low_pin.ensures) in
    let below : p < 24 = subst (λ (q : ℕ). q < 24) pin.1 pin.0 in
    let is = subst (λ (q : ℕ). writing_of h c.args.window c.args.width c.args.offset c.args.value ≡ low_write_at h q v) (sym pin.1) (writing-low h c.args.window c.args.width c.args.offset c.args.value below) in
    served h (call.Write c.args.window c.args.width c.args.offset c.args.value) (low_write_at h c.in-Some.n v) (with_entry h c.write_low.new.low c.write_low.new.held) c.write_low.result well (served-write h c.args.window c.args.width c.args.offset c.args.value ∙ is) (c.write_low.ensures h)

pub returns : goal.returns
returns c =
    let h = c.args.b.now in
    let well : well_formed h ≡ true = search rules in
    served h (call.Write c.args.window c.args.width c.args.offset c.args.value) c.writing-turn.result c.left.new.b c.left.result well (served-write h c.args.window c.args.width c.args.offset c.args.value ∙ sym c.writing-turn.ensures) c.left.ensures
