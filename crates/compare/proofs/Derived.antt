-- The derived `==` of turns: it holds exactly of equal turns, and so it is the comparison field by field.
use Rattle.std.proofs.Common.{◌≡◌, ℕ, List, Bool, true, false, ◌&&◌, refl, sym, ap, subst, eqb, eqb-true}
use lib.Pointwise.{pointwise, bytes_decides, pointwise_decides}
use denote.Enum.Bare.{same_true}
use Rattle.pins.proofs.Bools.{and_left, and_right}
use Rattle.answers.specs.declared.Answer.{Answer}
use Rattle.answers.specs.declared.Answer.TheVariants as answer
use Rattle.answers.specs.contracts.Refusal.{the_type}
use Rattle.answers.specs.contracts.AnswerPartialEq.TheImpl as of-answers
use Rattle.entries.specs.declared.Entries.{Entries}
use Rattle.entries.specs.contracts.EntriesPartialEq.TheImpl as of-entries
use Rattle.controller.specs.declared.Controller.{Controller}
use Rattle.controller.specs.contracts.ControllerPartialEq.TheImpl as of-controllers
use Rattle.timer.specs.declared.Timer.{Timer}
use Rattle.timer.specs.contracts.TimerPartialEq.TheImpl as of-timer
use Rattle.timer.specs.contracts.TimerEq.TheImpl.Laws as timer-laws
use Rattle.timers.specs.declared.Timers.{Timers}
use Rattle.timers.specs.contracts.TimersPartialEq.TheImpl as of-timers
use Rattle.board.specs.declared.Board.{Board}
use Rattle.board.specs.contracts.BoardPartialEq.TheImpl as of-boards
use Rattle.board.specs.declared.Turn.{Turn}
use Rattle.board.specs.contracts.TurnPartialEq.TheImpl as of-turns
use Rattle.board.specs.contracts.TurnEq.TheImpl.Laws as turn-laws
use Rattle.compare.specs.Same.{same_timer, same_turn}
use Rattle.compare.proofs.Equal.{same-timer, Long, same-equal, equal-same}

-- ---- the parts of a comparison

two : (a b : Bool) → a && b ≡ true → (a ≡ true) × (b ≡ true)
two a b e = (and_left a b e, and_right a b e)

three : (a b c : Bool) → a && (b && c) ≡ true → (a ≡ true) × (b ≡ true) × (c ≡ true)
three a b c e = let q = two b c (and_right a (b && c) e) in (and_left a (b && c) e, q.0, q.1)

four : (a b c d : Bool) → a && (b && (c && d)) ≡ true → (a ≡ true) × (b ≡ true) × (c ≡ true) × (d ≡ true)
four a b c d e = let q = three b c d (and_right a (b && (c && d)) e) in (and_left a (b && (c && d)) e, q.0, q.1, q.2)

-- ---- it holds of equal values alone

lists : (x y : List ℕ) → pointwise eqb x y ≡ true → x ≡ y
lists x y e = (bytes_decides x y).0 e

answers : (x y : Answer) → of-answers.eq-value.it x y ≡ true → x ≡ y
answers answer.Done answer.Done e = refl
answers (answer.Value v) (answer.Value w) e = ap answer.Value (eqb-true v w e)
answers (answer.Fired a b c) (answer.Fired l m n) e =
    let p = three (eqb a l) (eqb b m) (eqb c n) e in
    λ i. answer.Fired (eqb-true a l p.0 i) (eqb-true b m p.1 i) (eqb-true c n p.2 i)
answers (answer.Interrupt a b c d) (answer.Interrupt l m n o) e =
    let p = four (eqb a l) (eqb b m) (eqb c n) (eqb d o) e in
    λ i. answer.Interrupt (eqb-true a l p.0 i) (eqb-true b m p.1 i) (eqb-true c n p.2 i) (eqb-true d o p.3 i)
answers answer.Nothing answer.Nothing e = refl
answers (answer.Refused r) (answer.Refused s) e = ap answer.Refused (same_true the_type tt r s e)
answers x y e = cc

timer : (x y : Timer) → of-timer.eq-value.it x y ≡ true → x ≡ y
unfolding same_timer
timer x y e = same-timer x y e

timer-decides : (x y : Timer) → (of-timer.eq-value.it x y ≡ true → x ≡ y) × (x ≡ y → of-timer.eq-value.it x y ≡ true)
timer-decides x y = (timer x y, λ p. subst (λ (t : Timer). of-timer.eq-value.it x t ≡ true) p (timer-laws.laws-law.refl x))

timers : (x y : Timers) → of-timers.eq-value.it x y ≡ true → x ≡ y
timers x y e =
    let masks = pointwise eqb x.masks y.masks in
    let on = eqb x.enabled y.enabled in
    let each = pointwise of-timer.eq-value.it x.timer y.timer in
    let p = four (eqb x.counter y.counter) (eqb x.tick_period y.tick_period) (eqb x.vendor y.vendor) (masks && (on && each)) e in
    let q = three masks on each p.3 in
    λ i.
    record {
      counter = eqb-true x.counter y.counter p.0 i;
      tick_period = eqb-true x.tick_period y.tick_period p.1 i;
      vendor = eqb-true x.vendor y.vendor p.2 i;
      masks = lists x.masks y.masks q.0 i;
      enabled = eqb-true x.enabled y.enabled q.1 i;
      timer = (pointwise_decides timer-decides x.timer y.timer).0 q.2 i;
    }

entries : (x y : Entries) → of-entries.eq-value.it x y ≡ true → x ≡ y
entries x y e =
    let p = four (pointwise eqb x.low y.low) (pointwise eqb x.destination y.destination) (pointwise eqb x.level y.level) (pointwise eqb x.held y.held) e in
    λ i.
    record {
      low = lists x.low y.low p.0 i;
      destination = lists x.destination y.destination p.1 i;
      level = lists x.level y.level p.2 i;
      held = lists x.held y.held p.3 i;
    }

controllers : (x y : Controller) → of-controllers.eq-value.it x y ≡ true → x ≡ y
controllers x y e =
    let p = three (eqb x.id y.id) (eqb x.index y.index) (of-entries.eq-value.it x.entries y.entries) e in
    λ i.
    record {
      id = eqb-true x.id y.id p.0 i;
      index = eqb-true x.index y.index p.1 i;
      entries = entries x.entries y.entries p.2 i;
    }

boards : (x y : Board) → of-boards.eq-value.it x y ≡ true → x ≡ y
boards x y e =
    let p = three (of-timers.eq-value.it x.timers y.timers) (of-controllers.eq-value.it x.controller y.controller) (pointwise eqb x.outside y.outside) e in
    λ i.
    record {
      timers = timers x.timers y.timers p.0 i;
      controller = controllers x.controller y.controller p.1 i;
      outside = lists x.outside y.outside p.2 i;
    }

turns : (x y : Turn) → of-turns.eq-value.it x y ≡ true → x ≡ y
turns x y e =
    let p = two (of-boards.eq-value.it x.board y.board) (of-answers.eq-value.it x.answer y.answer) e in
    λ i. record { board = boards x.board y.board p.0 i; answer = answers x.answer y.answer p.1 i }

-- ---- and of all of them

turn-itself : (x : Turn) → of-turns.eq-value.it x x ≡ true
turn-itself x = turn-laws.laws-law.refl x

-- ---- so it is the comparison field by field

both : (a b : Bool) → (a ≡ true → b ≡ true) → (b ≡ true → a ≡ true) → a ≡ b
both true b p q = sym (p refl)
both a true p q = q refl
both false false p q = refl

pub derived-same : (x y : Turn) → Long x.board → Long y.board → of-turns.eq-value.it x y ≡ same_turn x y
derived-same x y lx ly =
    both _ _ (λ e. equal-same x y (turns x y e))
    (λ e. subst (λ (t : Turn). of-turns.eq-value.it x t ≡ true) (same-equal x y lx ly e) (turn-itself x))
