use mathlib.Core.Path.{◌≡◌, refl, ap, ◌∙◌}
use mathlib.Core.Bool.{Bool, ◌||◌}
use mathlib.Core.List.{List, ◌++◌}
use lib.Dec.{eqb}
use lib.ListN.{get_or, set, drop}
use Prim.Native.Nat.{ℕ}
use mir.Val.{bool_byte}
use native.Mathlib.Omega.{arith}
use Rattle.board.specs.Wires.{high_at, wires_of}
use Rattle.board.proofs.Rule.{driven-by, high-by}
use Rattle.pins.specs.Pins.{tab}
use Rattle.pins.proofs.Fill.{fill_more, fill-all}
use Rattle.pins.proofs.Store.{pins-cong}
use Rattle.board.proofs.wires.wires.Invariants.{rule, zeros}
use Rattle.board.proofs.wires.wires.Goals as goal

pub loop-i-init : goal.loop-i-init
unfolding tab
loop-i-init c = (refl, refl)

pub loop-i-preserved : goal.loop-i-preserved
loop-i-preserved c =
    let o = c.args.outside in
    let i = c.loop-i.i in
    let f = rule o c.unwrap_or-a.result c.unwrap_or-b.result c.unwrap_or-c.result in (
      ap (λ (l : List ℕ). set l i (bool_byte (eqb (get_or o i 0) 1 || c.reached.result))) c.loop-i.invariant.0
          ∙ ap (λ (x : Bool). set (tab f 0 i ++ drop i zeros) i (bool_byte (eqb (get_or o i 0) 1 || x)))
          (c.reached.ensures ∙ ap (λ (j : ℕ). eqb c.unwrap_or-a.result j || (eqb c.unwrap_or-b.result j || eqb c.unwrap_or-c.result j)) c.loop-i.invariant.1)
          ∙ fill_more f i zeros (omega arith),
      omega (arith, c.loop-i.invariant.1),
    )

pub returns : goal.returns
unfolding wires_of
returns c =
    let o = c.args.outside in
    let s = c.args.timers in
    let f = rule o c.unwrap_or-a.result c.unwrap_or-b.result c.unwrap_or-c.result in
    let full : c.loop-i.i ≡ 24 = omega arith in
    c.loop-i.invariant.0
    ∙ ap (λ (i : ℕ). tab f 0 i ++ drop i zeros) full
    ∙ fill-all f 24 zeros refl
    ∙ pins-cong f (λ i. bool_byte (high_at o s i)) 0 (λ i h. ap bool_byte (high-by o s _ _ _ (driven-by s 0 _ _ c.unwrap_or-a.ensures c.driven.ensures) (driven-by s 1 _ _ c.unwrap_or-b.ensures c.driven-2.ensures) (driven-by s 2 _ _ c.unwrap_or-c.ensures c.driven-3.ensures) i h))
