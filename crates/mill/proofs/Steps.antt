-- One call on a told screen: unless it is a telling that is done, a resume that takes effect or a reset, it moves the
-- screen by what it did and by the edge that the pin holds after it.
use Prim.Native.Nat.{ℕ}
use mathlib.Core.Path.{◌≡◌, refl, sym, ap, subst, ◌∙◌}
use mathlib.Core.Bool.{Bool, true, false, cond, ◌&&◌}
use mathlib.Core.List.{List}
use lib.Dec.{ltb}
use Rattle.pins.proofs.Bools.{clash}
use Rattle.answers.specs.declared.Answer.{Answer}
use Rattle.answers.specs.declared.Answer.TheVariants as answer
use Rattle.answers.specs.declared.Refusal.TheVariants as refusal
use Rattle.answers.specs.Numbers.{is_done}
use Rattle.board.specs.declared.Call.{Call}
use Rattle.board.specs.declared.Call.TheVariants as call
use Rattle.board.specs.Step.{turn_of as board_turn}
use Rattle.board.specs.Events.{Event, reset, delivery, end, other, holds, is_edge, is_reset, delivery_of, event_of}
use Rattle.mill.specs.declared.Screen.{Screen}
use Rattle.mill.specs.declared.Mill.{Mill}
use Rattle.mill.specs.declared.MillCall.{MillCall}
use Rattle.mill.specs.declared.MillCall.TheVariants as millcall
use Rattle.mill.specs.declared.MillTurn.{MillTurn}
use Rattle.mill.specs.Screen.{blank, is_told, holds_in, moved_of, shown_after}
use Rattle.mill.specs.Mill.{held_of, turn, refused, looked_at, telling_of, is_paused, resuming_of, turn_of}
use Rattle.mill.specs.Story.{next, done, did, tells, resumes, resets}
use Rattle.mill.proofs.Rests.{rests, fitting-rests}
use Rattle.mill.proofs.Served.{by-board, tell-served, resume-served}
use Rattle.mill.proofs.Keeps.{Good, good-out}

-- ---- a call that leaves the mill

-- a telling that isn't done
pub untold-same : (m : Mill) → Good m → (p : ℕ) → done m (millcall.Tell p) ≡ false → next m (millcall.Tell p) ≡ m
unfolding telling_of
untold-same m g p e = ap (λ (t : MillTurn). t.mill) is ∙ go (ltb p 24) (is_edge m.board p) (ap (λ (t : MillTurn). is_done t.answer) (sym is) ∙ e)
  where
    is : turn_of m (millcall.Tell p) ≡ telling_of m p
    is = tell-served m p (good-out m g)

    go :
        (x y : Bool) → is_done (cond x (cond y (turn (looked_at m p) answer.Done) (refused m refusal.NotEdge)) (refused m refusal.Pin)).answer ≡ false →
        (cond x (cond y (turn (looked_at m p) answer.Done) (refused m refusal.NotEdge)) (refused m refusal.Pin)).mill ≡ m
    go true true e = clash e
    go true false e = refl
    go false y e = refl

-- a resume in another word than paused
pub resumed-same : (m : Mill) → Good m → is_paused m ≡ false → next m millcall.Resume ≡ m
unfolding resuming_of
resumed-same m g e = ap (λ (t : MillTurn). t.mill) (resume-served m (good-out m g)) ∙ ap (λ (x : Bool). cond x (looked_at m m.screen.pin) m) e

-- ---- a call of the board

abbrev resetting : Event → Bool
resetting reset = true
resetting (delivery p v) = false
resetting (end v) = false
resetting other = false

delivery-resets-not : (a : Answer) → resetting (delivery_of a) ≡ false
delivery-resets-not (answer.Interrupt p v d l) = refl
delivery-resets-not answer.Done = refl
delivery-resets-not (answer.Value v) = refl
delivery-resets-not (answer.Fired x y z) = refl
delivery-resets-not answer.Nothing = refl
delivery-resets-not (answer.Refused r) = refl

-- a reset that is done resets, and nothing else
reset-event : (c : Call) (a : Answer) → resetting (event_of c a) ≡ is_reset c && is_done a
reset-event (call.Read window width offset) a = refl
reset-event (call.Write window width offset value) a = refl
reset-event (call.Wire pin level) a = refl
reset-event (call.End vector) a = go (is_done a)
  where
    go : (x : Bool) → resetting (cond x (end vector) other) ≡ false
    go true = refl
    go false = refl
reset-event (call.Advance n) a = refl
reset-event call.Deliver a = delivery-resets-not a
reset-event (call.Reset z) a = go (is_done a)
  where
    go : (x : Bool) → resetting (cond x reset other) ≡ x
    go true = refl
    go false = refl

shown-moved : (s : Screen) (held : List ℕ) (e : Event) → resetting e ≡ false → is_told s ≡ true → shown_after s held e ≡ moved_of s (holds_in held s.pin) e
unfolding shown_after
shown-moved s held reset n t = clash n
shown-moved s held (delivery p v) n t = ap (λ (x : Bool). cond x (moved_of s (holds_in held s.pin) (delivery p v)) s) t
shown-moved s held (end v) n t = ap (λ (x : Bool). cond x (moved_of s (holds_in held s.pin) (end v)) s) t
shown-moved s held other n t = ap (λ (x : Bool). cond x (moved_of s (holds_in held s.pin) other) s) t

-- a call that did nothing leaves a fitting screen, told or not
pub shown-rests : (m : Mill) → Good m → shown_after m.screen (held_of m.board) other ≡ m.screen
shown-rests m g = fitting-rests (held_of m.board) m.screen g.screened

-- a reset that is done leaves nothing
pub shown-reset : (s : Screen) (held : List ℕ) (c : Call) (a : Answer) → is_reset c && is_done a ≡ true → shown_after s held (event_of c a) ≡ blank
unfolding shown_after
shown-reset s held c a e = go (event_of c a) (reset-event c a ∙ e)
  where
    go : (x : Event) → resetting x ≡ true → shown_after s held x ≡ blank
    go reset r = refl
    go (delivery p v) r = clash (sym r)
    go (end v) r = clash (sym r)
    go other r = clash (sym r)

-- ---- any call

module _ (m : Mill) (g : Good m) (t : is_told m.screen ≡ true) where
  -- the screen after a call that is none of the three
  abbrev Moves : MillCall → Type 0
  Moves c = (next m c).screen ≡ moved_of m.screen (holds (next m c).board m.screen.pin) (did m c)

  leaves : (c : MillCall) → next m c ≡ m → did m c ≡ other → Moves c
  leaves c same nothing =
      ap (λ (n : Mill). n.screen) same
      ∙ rests (held_of m.board) m.screen g.screened t
      ∙ ap (λ (n : Mill). moved_of m.screen (holds n.board m.screen.pin) other) (sym same)
      ∙ ap (moved_of m.screen (holds (next m c).board m.screen.pin)) (sym nothing)

  board-moves : (c : Call) → resets m (millcall.Board c) ≡ false → Moves (millcall.Board c)
  board-moves c n =
      let is = by-board m c (good-out m g) in
      let b = board_turn m.board c in
      subst (λ (u : MillTurn). u.mill.screen ≡ moved_of m.screen (holds u.mill.board m.screen.pin) (event_of c u.answer)) (sym is)
      (shown-moved m.screen (held_of b.board) (event_of c b.answer)
      (reset-event c b.answer ∙ ap (λ (u : MillTurn). is_reset c && is_done u.answer) (sym is) ∙ n) t)

  pub moves : (c : MillCall) → tells m c ≡ false → resumes m c ≡ false → resets m c ≡ false → Moves c
  moves (millcall.Board c) n o r = board-moves c r
  moves (millcall.Tell p) n o r = leaves (millcall.Tell p) (untold-same m g p n) refl
  moves millcall.Resume n o r = leaves millcall.Resume (resumed-same m g o) refl
