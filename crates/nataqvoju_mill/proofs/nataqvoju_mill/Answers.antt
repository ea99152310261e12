use mathlib.Core.Path.{sym, ap, ◌∙◌}
use Prim.Native.Nat.{ℕ}
use Rattle.answers.specs.Numbers.{numbers_of}
use Rattle.mill.specs.declared.MillTurn.{MillTurn}
use Rattle.nataqvoju_mill.specs.Kinds.{called_of}
use Rattle.nataqvoju_mill.proofs.Reset.{kind-7}
use Rattle.nataqvoju_mill.proofs.nataqvoju_mill.Goals as goal

pub returns-then-kind-eq-RESET : goal.returns-then-kind-eq-RESET
returns-then-kind-eq-RESET c =
    let a = c.args in
    let e = ap (λ (k : ℕ). called_of a.m.now k a.p a.q a.r a.s) c.if-kind-eq-RESET.true ∙ kind-7 a.m.now a.p a.q a.r a.s in (
      c.reset.ensures ∙ sym (ap (λ (t : MillTurn). t.mill) e),
      c.from.ensures ∙ sym (ap (λ (t : MillTurn). numbers_of t.answer) e),
    )
