-- What the screen's words tell, over the calls that were made: "For any sequence of its calls from reset, the screen
-- says paused only if, since the telling or the last resume that took effect, the pin held an edge, then was delivered,
-- then the delivered vector was ended."
use Rattle.std.specs.Prelude.{ℕ, ◌≡◌, Bool, true, false, ◌&&◌, ◌||◌, List, [], ◌∷◌, ◌++◌, eqb}
use Rattle.answers.specs.Numbers.{is_done}
use Rattle.board.specs.Events.{Event, delivery, end, other, holds, is_reset, event_of}
use Rattle.mill.specs.declared.Mill.{Mill}
use Rattle.mill.specs.declared.MillCall.{MillCall}
use Rattle.mill.specs.declared.MillCall.TheVariants as millcall
use Rattle.mill.specs.Mill.{reset_mill, turn_of}
use Rattle.mill.specs.Runs.{run}

-- ---- one call

abbrev pub next : Mill → MillCall → Mill
next m c = (turn_of m c).mill

abbrev pub done : Mill → MillCall → Bool
done m c = is_done (turn_of m c).answer

-- what it did to the board: a telling and a resume do nothing
abbrev pub did : Mill → MillCall → Event
did m (millcall.Board c) = event_of c (turn_of m (millcall.Board c)).answer
did m (millcall.Tell pin) = other
did m millcall.Resume = other

-- a telling that was done; a resume that took effect, which is one that came in paused; a reset that was done
abbrev pub tells : Mill → MillCall → Bool
tells m (millcall.Board c) = false
tells m (millcall.Tell pin) = done m (millcall.Tell pin)
tells m millcall.Resume = false

abbrev pub resumes : Mill → MillCall → Bool
resumes m (millcall.Board c) = false
resumes m (millcall.Tell pin) = false
resumes m millcall.Resume = eqb m.screen.word 3

abbrev pub resets : Mill → MillCall → Bool
resets m (millcall.Board c) = is_reset c && done m (millcall.Board c)
resets m (millcall.Tell pin) = false
resets m millcall.Resume = false

-- a call after which the pin is another or none; and one after which the screen looks anew, or has no pin
abbrev pub unpins : Mill → MillCall → Bool
unpins m c = tells m c || resets m c

abbrev pub stirs : Mill → MillCall → Bool
stirs m c = tells m c || (resumes m c || resets m c)

-- ---- sequences

-- none of these calls, made one after another, is such a one
unfoldable pub None : (Mill → MillCall → Bool) → Mill → List MillCall → Type 0
None such m [] = Unit
None such m (c ∷ cs) = (such m c ≡ false) × None such (next m c) cs

-- pin p is the one told last: no telling was done since, and no reset
pub record Told (cs : List MillCall) (p : ℕ) : Type 0 where
  pub before : List MillCall
  pub after : List MillCall
  pub split : cs ≡ before ++ millcall.Tell p ∷ after
  pub was-done : done (run reset_mill before) (millcall.Tell p) ≡ true
  pub last : None unpins (run reset_mill (before ++ millcall.Tell p ∷ [])) after

-- the calls since the telling or the last resume that took effect, with no reset after it
pub record Since (cs : List MillCall) (p : ℕ) : Type 0 where
  pub before : List MillCall
  pub first : MillCall
  pub after : List MillCall
  pub split : cs ≡ before ++ first ∷ after
  pub begins : tells (run reset_mill before) first || resumes (run reset_mill before) first ≡ true
  pub told : Told (before ++ first ∷ []) p
  pub last : None stirs (run reset_mill (before ++ first ∷ [])) after

-- the mill right after it
abbrev pub begun : {cs : List MillCall} {p : ℕ} → Since cs p → Mill
begun s = run reset_mill (s.before ++ s.first ∷ [])

-- ---- what the words tell, of a mill and the calls made on it since

abbrev pub Stories : Type 1
Stories = Mill → List MillCall → Type 0

-- the pin held no edge before any of these calls
unfoldable pub NotHeld : ℕ → Stories
NotHeld p m [] = Unit
NotHeld p m (c ∷ cs) = (holds m.board p ≡ false) × NotHeld p (next m c) cs

-- at some point, the start included, the pin held an edge, for the first time; and then …
pub record Held (p : ℕ) (Then : Stories) (m : Mill) (cs : List MillCall) : Type 0 where
  pub before : List MillCall
  pub after : List MillCall
  pub split : cs ≡ before ++ after
  pub first : NotHeld p m before
  pub held : holds (run m before).board p ≡ true
  pub then : Then (run m before) after

-- no delivery step gave the pin
unfoldable pub NotDelivered : ℕ → Stories
NotDelivered p m [] = Unit
NotDelivered p m (c ∷ cs) = ((v : ℕ) → did m c ≡ delivery p v → ⊥) × NotDelivered p (next m c) cs

-- a delivery step gave the pin, for the first time, with a vector; and then …
pub record Delivered (p : ℕ) (Then : ℕ → Stories) (m : Mill) (cs : List MillCall) : Type 0 where
  pub before : List MillCall
  pub call : MillCall
  pub after : List MillCall
  pub split : cs ≡ before ++ call ∷ after
  pub first : NotDelivered p m before
  pub vector : ℕ
  pub gives : did (run m before) call ≡ delivery p vector
  pub then : Then vector (next (run m before) call) after

-- no end of interrupt with vector v was done
unfoldable pub NotEnded : ℕ → Stories
NotEnded v m [] = Unit
NotEnded v m (c ∷ cs) = (did m c ≡ end v → ⊥) × NotEnded v (next m c) cs

-- an end of interrupt with vector v was done
pub record Ended (v : ℕ) (m : Mill) (cs : List MillCall) : Type 0 where
  pub before : List MillCall
  pub call : MillCall
  pub after : List MillCall
  pub split : cs ≡ before ++ call ∷ after
  pub ends : did (run m before) call ≡ end v

-- running: it never held an edge
abbrev pub RunningTells : ℕ → Stories
RunningTells p m cs = NotHeld p m cs × (holds (run m cs).board p ≡ false)

-- asked: it held an edge, and was not delivered since
abbrev pub AskedTells : ℕ → Stories
AskedTells p = Held p (NotDelivered p)

-- taken: it held an edge, then was delivered, and the delivered vector was not ended since
abbrev pub TakenTells : ℕ → Stories
TakenTells p = Held p (Delivered p NotEnded)

-- paused: it held an edge, then was delivered, then the delivered vector was ended
abbrev pub PausedTells : ℕ → Stories
PausedTells p = Held p (Delivered p Ended)

-- a story of the calls since the telling or the last resume that took effect
pub record Why (Story : ℕ → Stories) (cs : List MillCall) : Type 0 where
  pub pin : ℕ
  pub since : Since cs pin
  pub story : Story pin (begun since) since.after

-- the word after calls from reset
abbrev pub word_after : List MillCall → ℕ
word_after cs = (run reset_mill cs).screen.word
