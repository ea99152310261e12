-- What an entry gives, in its two cases: on a board that its call takes what the call does, on another the refusal 5.
use mathlib.Core.Path.{◌≡◌, sym, ap, ◌∙◌}
use mathlib.Core.Bool.{true, false}
use Rattle.answers.specs.declared.Answer.{Answer}
use Rattle.answers.specs.declared.Answer.TheVariants as answer
use Rattle.answers.specs.declared.Refusal.TheVariants as refusal
use Rattle.answers.specs.declared.Numbers.{Numbers}
use Rattle.answers.specs.Numbers.{numbers_of}
use Rattle.board.specs.declared.Board.{Board}
use Rattle.board.specs.declared.Call.{Call}
use Rattle.board.specs.declared.Turn.{Turn}
use Rattle.board.specs.State.{turn}
use Rattle.board.specs.Step.{turn_of, takes, served_of}
use Rattle.board.proofs.Served.{turn-served, turn-refused}
use Rattle.nataqvoju.specs.Lent.{Gives}

-- a board and an answer that are a turn, with the answer as numbers
pub turn-gives : (t : Turn) (b : Board) (a : Answer) (n : Numbers) → turn b a ≡ t → n ≡ numbers_of a → Gives t b n
turn-gives t b a n is told = (ap (λ (u : Turn). u.board) is, told ∙ ap (λ (u : Turn). numbers_of u.answer) is)

-- what a call does, where it takes the board, is what it gives, however it is said
pub served : (b : Board) (c : Call) (t : Turn) (d : Board) (r : Numbers) → takes b c ≡ true → served_of b c ≡ t → Gives t d r → Gives (turn_of b c) d r
served b c t d r w e g =
    let is : t ≡ turn_of b c = sym (turn-served b c w ∙ e) in
    (g.0 ∙ ap (λ (u : Turn). u.board) is, g.1 ∙ ap (λ (u : Turn). numbers_of u.answer) is)

-- and where it does not take it
pub refuses : (b : Board) (c : Call) (r : Numbers) → takes b c ≡ false → r ≡ numbers_of (answer.Refused refusal.State) → Gives (turn_of b c) b r
refuses b c r w e = (ap (λ (t : Turn). t.board) (sym (turn-refused b c w)), e ∙ ap (λ (t : Turn). numbers_of t.answer) (sym (turn-refused b c w)))

-- a call that leaves the board, with its numbers alone
pub tells : (b : Board) (c : Call) (r : Numbers) → takes b c ≡ true → b ≡ (turn_of b c).board → r ≡ numbers_of (served_of b c).answer → Gives (turn_of b c) b r
tells b c r w kept e = (kept, e ∙ ap (λ (t : Turn). numbers_of t.answer) (sym (turn-served b c w)))
