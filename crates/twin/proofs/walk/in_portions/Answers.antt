use mathlib.Core.Path.{◌≡◌, sym, ap, ◌∙◌}
use mathlib.Core.Bool.{true}
use Prim.Native.Nat.{ℕ, ◌+◌, ◌<◌}
use native.Mathlib.Omega.{arith}
use lib.ListN.{length, get_or}
use borrow.Author.Rules.{rules}
use Rattle.answers.specs.declared.Answer.TheVariants as answer
use Rattle.answers.specs.declared.Numbers.{Numbers}
use Rattle.answers.specs.Numbers.{numbers_of}
use Rattle.board.specs.declared.Board.{Board}
use Rattle.board.specs.declared.Turn.{Turn}
use Rattle.board.specs.declared.Call.TheVariants as call
use Rattle.board.specs.Formed.{well_formed}
use Rattle.board.specs.Step.{turn_of}
use Rattle.board.specs.State.{turn}
use Rattle.board.proofs.Formed.{Formed, formed-in}
use Rattle.plain.proofs.Walk.{ticks-none, firings-none, firings-le}
use Rattle.twin.proofs.Portions.{ticked, whole, board-on, fired-on}
use Rattle.board.specs.Tick.{ticks as ticks_of, firings}
use Rattle.twin.proofs.walk.in_portions.Goals as goal

good :
    (b : Board) → well_formed b ≡ true → length b.controller.entries.low ≡ 24 → length b.controller.entries.destination ≡ 24 → length b.controller.entries.level ≡ 24
    → length b.controller.entries.held ≡ 24 → Formed b
good b e low destination level held =
    formed-in b e (record { low = low; destination = destination; level = level; held = held })

-- once a portion of p ticks is made: timer m's count, which was f before it
more :
    (b : Board) (z : Formed b) (d p : ℕ) (x : Board) (t : Turn) → x ≡ ticks_of d b → t ≡ turn_of x (call.Advance p) → (n : Numbers) → n ≡ numbers_of t.answer
    → (m f : ℕ) → m < 3 → f ≡ firings m d b → f + get_or n.fired m 0 ≡ firings m (d + p) b
more b z d p x t here made n e m f l g = ap (λ (k : Numbers). f + get_or k.fired m 0) e ∙ fired-on b z d p x t here made m l f g

pub loop-done-init : goal.loop-done-init
loop-done-init c =
    let b = c.args.b in
    (omega arith, sym (ticks-none b), sym (firings-none 0 b), sym (firings-none 1 b), sym (firings-none 2 b))

pub overflow_add-fired0 : goal.overflow_add-fired0
overflow_add-fired0 c =
    omega (arith, more c.args.b (good c.args.b c.requires (search rules) (search rules) (search rules) (search rules)) c.loop-done.done c.least-portion.result c.loop-done.board c.plain_advance-turn.result c.loop-done.invariant.1 c.plain_advance-turn.ensures c.from-numbers.result c.from-numbers.ensures 0 _ (omega arith) c.loop-done.invariant.2, firings-le 0 (c.loop-done.done + c.least-portion.result) c.args.b, c.least-portion.ensures.upper_bound)

pub overflow_add-fired1 : goal.overflow_add-fired1
overflow_add-fired1 c =
    omega (arith, more c.args.b (good c.args.b c.requires (search rules) (search rules) (search rules) (search rules)) c.loop-done.done c.least-portion.result c.loop-done.board c.plain_advance-turn.result c.loop-done.invariant.1 c.plain_advance-turn.ensures c.from-numbers.result c.from-numbers.ensures 1 _ (omega arith) c.loop-done.invariant.3, firings-le 1 (c.loop-done.done + c.least-portion.result) c.args.b, c.least-portion.ensures.upper_bound)

pub overflow_add-fired2 : goal.overflow_add-fired2
overflow_add-fired2 c =
    omega (arith, more c.args.b (good c.args.b c.requires (search rules) (search rules) (search rules) (search rules)) c.loop-done.done c.least-portion.result c.loop-done.board c.plain_advance-turn.result c.loop-done.invariant.1 c.plain_advance-turn.ensures c.from-numbers.result c.from-numbers.ensures 2 _ (omega arith) c.loop-done.invariant.4, firings-le 2 (c.loop-done.done + c.least-portion.result) c.args.b, c.least-portion.ensures.upper_bound)

pub overflow_add-done : goal.overflow_add-done
overflow_add-done c = omega (arith, c.least-portion.ensures.upper_bound)

pub loop-done-smaller : goal.loop-done-smaller
loop-done-smaller c =
    omega (arith, c.least-portion.ensures.upper_bound, c.least-portion.ensures.lower_bound (omega (arith, c.loop-done-test.true)), c.loop-done-test.true)

pub loop-done-preserved : goal.loop-done-preserved
loop-done-preserved c = (
  omega (arith, c.least-portion.ensures.upper_bound),
  board-on c.args.b (good c.args.b c.requires (search rules) (search rules) (search rules) (search rules)) c.loop-done.done c.least-portion.result c.loop-done.board c.plain_advance-turn.result c.loop-done.invariant.1 c.plain_advance-turn.ensures,
  more c.args.b (good c.args.b c.requires (search rules) (search rules) (search rules) (search rules)) c.loop-done.done c.least-portion.result c.loop-done.board c.plain_advance-turn.result c.loop-done.invariant.1 c.plain_advance-turn.ensures c.from-numbers.result c.from-numbers.ensures 0 _ (omega arith) c.loop-done.invariant.2,
  more c.args.b (good c.args.b c.requires (search rules) (search rules) (search rules) (search rules)) c.loop-done.done c.least-portion.result c.loop-done.board c.plain_advance-turn.result c.loop-done.invariant.1 c.plain_advance-turn.ensures c.from-numbers.result c.from-numbers.ensures 1 _ (omega arith) c.loop-done.invariant.3,
  more c.args.b (good c.args.b c.requires (search rules) (search rules) (search rules) (search rules)) c.loop-done.done c.least-portion.result c.loop-done.board c.plain_advance-turn.result c.loop-done.invariant.1 c.plain_advance-turn.ensures c.from-numbers.result c.from-numbers.ensures 2 _ (omega arith) c.loop-done.invariant.4,
)

pub returns : goal.returns
returns c =
    let full : c.loop-done.done ≡ c.args.ticks = omega arith in
    (λ i. turn (c.loop-done.invariant.1 i) (answer.Fired (c.loop-done.invariant.2 i) (c.loop-done.invariant.3 i) (c.loop-done.invariant.4 i)))
    ∙ ap (λ (k : ℕ). ticked k c.args.b) full
    ∙ whole c.args.b (good c.args.b c.requires (search rules) (search rules) (search rules) (search rules)) c.args.ticks
