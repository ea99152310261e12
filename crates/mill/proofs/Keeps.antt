-- Every call turns a well-formed mill into one.
use Prim.Native.Nat.{ℕ, ◌≤◌}
use mathlib.Core.Path.{◌≡◌, refl, sym, subst}
use mathlib.Core.Bool.{Bool, true, false, cond, not, ◌&&◌}
use mathlib.Core.List.{List, [], ◌∷◌}
use native.Mathlib.Omega.{arith}
use lib.Dec.{eqb, ltb}
use borrow.Author.Tests.{ltb-true}
use Rattle.pins.proofs.Bools.{and_both}
use Rattle.answers.specs.declared.Answer.TheVariants as answer
use Rattle.answers.specs.declared.Refusal.TheVariants as refusal
use Rattle.board.specs.declared.Call.{Call}
use Rattle.answers.specs.Numbers.{is_done}
use Rattle.settings.specs.Settings.{standard}
use Rattle.settings.proofs.Ranges.{standard-in-range}
use Rattle.board.specs.Step.{turn_of as board_turn}
use Rattle.board.specs.Events.{Event, reset, delivery, end, other, is_edge, is_reset, event_of}
use Rattle.board.proofs.Formed.{Sized, Formed, formed-in, formed-out}
use Rattle.board.proofs.Keeps.{keeps as board-keeps, reset as board-reset}
use Rattle.board.proofs.Events.{event-vector}
use Rattle.mill.specs.declared.Screen.{Screen}
use Rattle.mill.specs.declared.Mill.{Mill}
use Rattle.mill.specs.declared.MillCall.{MillCall}
use Rattle.mill.specs.declared.MillCall.TheVariants as millcall
use Rattle.mill.specs.declared.MillTurn.{MillTurn}
use Rattle.mill.specs.Screen.{running, asked, taken, paused, holds_in, looked_of, moved_of, shown_after}
use Rattle.mill.specs.Mill.{reset_mill, held_of, well_formed, turn, refused, by_board, looked_at, telling_of, resuming_of, served_of, turn_of}
use Rattle.mill.specs.Runs.{run}
use Rattle.mill.proofs.Fits.{screen, Fits, untold, runs, asks, takes, pauses, fits_in, fits_out}
use Rattle.mill.proofs.Served.{board-formed, screen-fits, well-served}

-- ---- the screen

module _ (held : List ℕ) (p : ℕ) (l : p ≤ 23) where
  run-or-ask : (x : Bool) → holds_in held p ≡ x → Fits held (screen p (cond x asked running) 0)
  run-or-ask true e = asks p l
  run-or-ask false e = runs p l e

  -- a look at a pin
  pub looked-fits : Fits held (looked_of p (holds_in held p))
  unfolding looked_of
  looked-fits = run-or-ask (holds_in held p) refl

  running-fits : (x : Bool) → holds_in held p ≡ x → Fits held (cond x (screen p asked 0) (screen p running 0))
  running-fits true e = asks p l
  running-fits false e = runs p l e

  asked-fits : (x : Bool) (v : ℕ) → v ≤ 255 → Fits held (cond x (screen p taken v) (screen p asked 0))
  asked-fits true v k = takes p v l k
  asked-fits false v k = asks p l

  taken-fits : (x : Bool) (v : ℕ) → v ≤ 255 → Fits held (cond x (screen p paused v) (screen p taken v))
  taken-fits true v k = pauses p v l k
  taken-fits false v k = takes p v l k

-- a delivery's vector has eight bits
abbrev Short : Event → Type 0
Short e = (p v : ℕ) → e ≡ delivery p v → v ≤ 255

-- what a call did, whatever edges it left held
pub shown-fits : (was held : List ℕ) (s : Screen) (e : Event) → Fits was s → Short e → Fits held (shown_after s held e)
unfolding shown_after moved_of
shown-fits was held s reset f k = untold
shown-fits was held _ (delivery q w) untold k = untold
shown-fits was held _ (delivery q w) (runs p l h) k = running-fits held p l (holds_in held p) refl
shown-fits was held _ (delivery q w) (asks p l) k = asked-fits held p l (eqb q p) w (k q w refl)
shown-fits was held _ (delivery q w) (takes p v l b) k = takes p v l b
shown-fits was held _ (delivery q w) (pauses p v l b) k = pauses p v l b
shown-fits was held _ (end w) untold k = untold
shown-fits was held _ (end w) (runs p l h) k = running-fits held p l (holds_in held p) refl
shown-fits was held _ (end w) (asks p l) k = asks p l
shown-fits was held _ (end w) (takes p v l b) k = taken-fits held p l (eqb w v) v b
shown-fits was held _ (end w) (pauses p v l b) k = pauses p v l b
shown-fits was held _ other untold k = untold
shown-fits was held _ other (runs p l h) k = running-fits held p l (holds_in held p) refl
shown-fits was held _ other (asks p l) k = asks p l
shown-fits was held _ other (takes p v l b) k = takes p v l b
shown-fits was held _ other (pauses p v l b) k = pauses p v l b

-- ---- the mill

pub record Good (m : Mill) : Type 0 where
  pub boarded : Formed m.board
  pub screened : Fits (held_of m.board) m.screen

module _ (m : Mill) where
  pub good-in : well_formed m ≡ true → Sized m.board → Good m
  good-in e z =
      record {
        boarded = formed-in m.board (board-formed m e) z;
        screened = fits_in (held_of m.board) m.screen (screen-fits m e);
      }

  pub good-out : Good m → well_formed m ≡ true
  unfolding well_formed
  good-out g = and_both (formed-out m.board g.boarded) (fits_out (held_of m.board) m.screen g.screened)

pub good-reset : Good reset_mill
good-reset = record { boarded = board-reset standard standard-in-range; screened = untold }

module _ (m : Mill) (g : Good m) where
  looked-good : (p : ℕ) → p ≤ 23 → Good (looked_at m p)
  looked-good p l = record { boarded = g.boarded; screened = looked-fits (held_of m.board) p l }

  telling-good : (p : ℕ) → Good (telling_of m p).mill
  unfolding telling_of
  telling-good p = go (ltb p 24) refl (is_edge m.board p)
    where
      go : (x : Bool) → ltb p 24 ≡ x → (y : Bool) → Good (cond x (cond y (turn (looked_at m p) answer.Done) (refused m refusal.NotEdge)) (refused m refusal.Pin)).mill
      go true e true = let h = ltb-true p 24 e in looked-good p (omega arith)
      go true e false = g
      go false e y = g

  resuming-good : Good (resuming_of m).mill
  unfolding resuming_of
  resuming-good = go m.screen refl g.screened
    where
      go : (s : Screen) → m.screen ≡ s → Fits (held_of m.board) s → Good (cond (eqb s.word paused) (looked_at m s.pin) m)
      go _ e untold = g
      go _ e (runs p l h) = g
      go _ e (asks p l) = g
      go _ e (takes p v l b) = g
      go _ e (pauses p v l b) = looked-good p l

  shown-good : (c : Call) → Good (by_board m.screen c (board_turn m.board c)).mill
  shown-good c =
      let t = board_turn m.board c in
      record {
        boarded = board-keeps m.board g.boarded c;
        screened = shown-fits (held_of m.board) (held_of t.board) m.screen (event_of c t.answer) g.screened
            (λ p v e. let h = event-vector m.board c p v (formed-out m.board g.boarded) e in omega arith);
      }

  board-good : (c : Call) → Good (served_of m (millcall.Board c)).mill
  unfolding served_of
  board-good c = go (is_reset c && not (is_done (board_turn m.board c).answer))
    where
      go : (x : Bool) → Good (cond x (turn m (board_turn m.board c).answer) (by_board m.screen c (board_turn m.board c))).mill
      go true = g
      go false = shown-good c

  served-good : (c : MillCall) → Good (served_of m c).mill
  unfolding served_of
  served-good (millcall.Board c) = board-good c
  served-good (millcall.Tell p) = telling-good p
  served-good millcall.Resume = resuming-good

  pub good-keeps : (c : MillCall) → Good (turn_of m c).mill
  good-keeps c = subst (λ (t : MillTurn). Good t.mill) (sym (well-served m c (good-out m g))) (served-good c)

pub good-run : (cs : List MillCall) (m : Mill) → Good m → Good (run m cs)
unfolding run
good-run [] m g = g
good-run (c ∷ cs) m g = good-run cs (turn_of m c).mill (good-keeps m g c)

-- "well-formedness is kept"
pub every-call-keeps : (m : Mill) (c : MillCall) → Sized m.board → well_formed m ≡ true → well_formed (turn_of m c).mill ≡ true
every-call-keeps m c z e = good-out (turn_of m c).mill (good-keeps m (good-in m e z) c)
