use Rattle.std.proofs.Common.{◌≡◌, ℕ, sym, refl, ap, ◌∙◌, arith, eq-eqb, ne_eqb}
use Rattle.answers.specs.declared.Answer.TheVariants as answer
use Rattle.timers.specs.Tick.{counted_of, matches_of}
use Rattle.board.specs.State.{turn}
use Rattle.board.specs.Tick.{ticks, firings}
use Rattle.board.specs.Step.{advancing_of}
use Rattle.plain.proofs.Walk.{ticks-off, firings-off, firings-le, Turns, fires, rests, counted, ticked, fired0, fired1, fired2}
use Rattle.plain.proofs.tick.advancing.Goals as goal
use Rattle.plain.proofs.tick.advancing.Goals.{then-meets, else-meets, then-meets-2, else-meets-2, then-meets-3, else-meets-3}

pub returns-then-b-ne1 : goal.returns-then-b-ne1
unfolding advancing_of
returns-then-b-ne1 c =
    let b = c.args.b in
    let n = c.args.n in
    let off = ne_eqb _ 1 c.if-b-ne1.true in
    sym (λ i. turn (ticks-off n b off i) (answer.Fired (firings-off 0 n b off i) (firings-off 1 n b off i) (firings-off 2 n b off i)))

pub loop-i-init : goal.loop-i-init
unfolding ticks firings
loop-i-init c = (refl, refl, refl, refl)

pub overflow_add-fired0 : goal.overflow_add-fired0
overflow_add-fired0 c =
    omega (arith, c.loop-i.invariant.1, firings-le 0 c.loop-i._i c.args.b)

pub overflow_add-fired1 : goal.overflow_add-fired1
overflow_add-fired1 c =
    omega (arith, c.loop-i.invariant.2, firings-le 1 c.loop-i._i c.args.b)

pub overflow_add-fired2 : goal.overflow_add-fired2
overflow_add-fired2 c =
    omega (arith, c.loop-i.invariant.3, firings-le 2 c.loop-i._i c.args.b)

pub loop-i-preserved : goal.loop-i-preserved
unfolding counted_of matches_of
loop-i-preserved c =
    let counts : counted c.loop-i.next ≡ counted (ticks c.loop-i._i c.args.b) = ap counted c.loop-i.invariant.0 in
    let turn0 : Turns 0 (counted c.loop-i.next) c.loop-i.fired0 c.if-meets.next c.if-meets.fired0 = (elim c.if-meets.branch [ then-meets w ↦ fires 0 _ _ _ _ c.meets.result c.meets.ensures w.if-meets.true (w.next-is ∙ w.fire-next.ensures) w.fired0-is | else-meets w ↦ rests 0 _ _ _ _ c.meets.result c.meets.ensures w.if-meets.false w.next-is w.fired0-is ]) in
    let turn1 : Turns 1 c.if-meets.next c.loop-i.fired1 c.if-meets-2.next c.if-meets-2.fired1 = (elim c.if-meets-2.branch [ then-meets-2 w ↦ fires 1 _ _ _ _ c.meets-in-loop-i.result c.meets-in-loop-i.ensures w.if-meets-2.true (w.next-is ∙ w.fire-next-then-meets-2.ensures) w.fired1-is | else-meets-2 w ↦ rests 1 _ _ _ _ c.meets-in-loop-i.result c.meets-in-loop-i.ensures w.if-meets-2.false w.next-is w.fired1-is ]) in
    let turn2 : Turns 2 c.if-meets-2.next c.loop-i.fired2 c.if-meets-3.next c.if-meets-3.fired2 = (elim c.if-meets-3.branch [ then-meets-3 w ↦ fires 2 _ _ _ _ c.meets-in-loop-i-2.result c.meets-in-loop-i-2.ensures w.if-meets-3.true (w.next-is ∙ w.fire-next-then-meets-3.ensures) w.fired2-is | else-meets-3 w ↦ rests 2 _ _ _ _ c.meets-in-loop-i-2.result c.meets-in-loop-i-2.ensures w.if-meets-3.false w.next-is w.fired2-is ]) in
    let b = c.args.b in
    let on = eq-eqb _ 1 c.if-b-ne1.false in
    let inv = c.loop-i.invariant in (
      ticked b c.loop-i._i on _ _ _ _ c.loop-i.fired0 c.loop-i.fired1 c.loop-i.fired2 _ _ _ counts turn0 turn1 turn2,
      fired0 b c.loop-i._i on _ _ _ _ c.loop-i.fired0 c.loop-i.fired1 c.loop-i.fired2 _ _ _ counts turn0 turn1 turn2 inv.1,
      fired1 b c.loop-i._i on _ _ _ _ c.loop-i.fired0 c.loop-i.fired1 c.loop-i.fired2 _ _ _ counts turn0 turn1 turn2 inv.2,
      fired2 b c.loop-i._i on _ _ _ _ c.loop-i.fired0 c.loop-i.fired1 c.loop-i.fired2 _ _ _ counts turn0 turn1 turn2 inv.3,
    )

pub returns : goal.returns
unfolding advancing_of
returns c =
    let b = c.args.b in
    let full : c.loop-i._i ≡ c.args.n = omega arith in
    (λ i. turn (c.loop-i.invariant.0 i) (answer.Fired (c.loop-i.invariant.1 i) (c.loop-i.invariant.2 i) (c.loop-i.invariant.3 i))) ∙ ap (λ (k : ℕ). turn (ticks k b) (answer.Fired (firings 0 k b) (firings 1 k b) (firings 2 k b))) full
