-- A change of one outside wire is a change at one pin of a well-formed board.
use Prim.Native.Nat.{ℕ, ◌<◌}
use mathlib.Core.Path.{◌≡◌, sym, ap, ◌∙◌}
use mathlib.Core.Bool.{◌||◌}
use mathlib.Core.List.{List}
use native.Mathlib.Decide.{ℕ_discrete}
use lib.Dec.{eqb}
use lib.ListN.{get_or, length, set, length-set}
use lib.Seq.{ext_get_or, get_or-set_same, get_or-set_other}
use mir.Val.{bool_byte}
use Rattle.entries.proofs.Pulse.{wired-one}
use Rattle.controller.specs.declared.Controller.{Controller}
use Rattle.controller.specs.State.{with_entries}
use Rattle.controller.specs.Steps.{rewired}
use Rattle.controller.specs.Inner.{rewired_at}
use Rattle.timers.specs.declared.Timers.{Timers}
use Rattle.timers.specs.Tick.{drives_of}
use Rattle.board.specs.declared.Board.{Board}
use Rattle.board.specs.State.{board}
use Rattle.board.specs.Wires.{high_at, wires_of, joined}
use Rattle.board.specs.At.{level_of}
use Rattle.board.proofs.Rule.{wires-long, wires-at}
use Rattle.board.proofs.Formed.{Formed}

wires-one : (o : List ℕ) (s : Timers) (p l : ℕ) → length o ≡ 24 → p < 24 → wires_of (set o p l) s ≡ set (wires_of o s) p (level_of l s p)
unfolding high_at
wires-one o s p l k h =
    ext_get_or 0 (wires_of (set o p l) s) (set (wires_of o s) p (level_of l s p)) (wires-long (set o p l) s ∙ sym (length-set (wires_of o s) p (level_of l s p) ∙ wires-long o s))
    (λ i j. let n : i < 24 = rw (wires-long (set o p l) s) at j in wires-at (set o p l) s i n ∙ go i n (ℕ_discrete i p))
  where
    go : (i : ℕ) → i < 24 → Dec (i ≡ p) → bool_byte (eqb (get_or (set o p l) i 0) 1 || drives_of s i) ≡ get_or (set (wires_of o s) p (level_of l s p)) i 0
    go i n (yes q) = rw (q, get_or-set_same o p l 0 (rw k h), get_or-set_same (wires_of o s) p (level_of l s p) 0 (rw (wires-long o s) h))
    go i n (no d) = rw (get_or-set_other o p i l 0 d, get_or-set_other (wires_of o s) p i (level_of l s p) 0 d) (sym (wires-at o s i n))

pub joined-one :
    (b : Board) → Formed b → (p l : ℕ) → length b.outside ≡ 24 → p < 24 →
    board (rewired_at b.controller p (level_of l b.timers p)) b.timers (set b.outside p l) ≡ joined b.controller b.timers (set b.outside p l)
unfolding joined
joined-one b z p l k h =
    let o = b.outside in
    let s = b.timers in
    let c = b.controller in
    let x = level_of l s p in
    ap (λ (d : Controller). board d s (set o p l))
    (ap (with_entries c) (sym (wired-one c.entries z.sized p h x))
    ∙ ap (λ (w : List ℕ). rewired c w) (ap (λ (w : List ℕ). set w p x) z.wired ∙ sym (wires-one o s p l k h)))
