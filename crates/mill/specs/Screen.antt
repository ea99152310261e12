-- The pause screen (document 02, K2): its four words, and what changes them.
use Rattle.std.specs.Prelude.{ℕ, Bool, cond, not, ◌&&◌, ◌||◌, List, eqb, leb, get_or}
use Rattle.board.specs.Events.{Event, reset, delivery, end, other}
use Rattle.mill.specs.declared.Screen.{Screen}

abbrev pub running : ℕ
running = 0

abbrev pub asked : ℕ
asked = 1

abbrev pub taken : ℕ
taken = 2

abbrev pub paused : ℕ
paused = 3

-- "Before a telling and after a board reset it has no pin and says running."
abbrev pub blank : Screen
blank = record { told = 0; pin = 0; word = running; vector = 0 }

abbrev pub is_told : Screen → Bool
is_told s = eqb s.told 1

-- the same pin, with another word; and with a vector remembered
abbrev pub with_word : Screen → ℕ → Screen
with_word s w = record { told = s.told; pin = s.pin; word = w; vector = s.vector }

abbrev pub with_vector : Screen → ℕ → Screen
with_vector s v = record { told = s.told; pin = s.pin; word = s.word; vector = v }

-- of the edges that a board holds: pin p's is among them
abbrev pub holds_in : List ℕ → ℕ → Bool
holds_in held p = eqb (get_or held p 0) 1

-- "When it is told, and when a resume comes in paused, the word becomes asked if that pin holds an edge, else running."
unfoldable pub looked_of : ℕ → Bool → Screen
looked_of p held = record { told = 1; pin = p; word = cond held asked running; vector = 0 }

-- "Running becomes asked when an edge is held."
abbrev pub from_running : Screen → Bool → Screen
from_running s held = cond held (with_word s asked) s

-- "Asked becomes taken when a delivery step gives that pin; the vector is remembered."
abbrev pub from_asked : Screen → Event → Screen
from_asked s (delivery p v) = cond (eqb p s.pin) (with_vector (with_word s taken) v) s
from_asked s reset = s
from_asked s (end v) = s
from_asked s other = s

-- "Taken becomes paused at the first end of interrupt with that vector."
abbrev pub from_taken : Screen → Event → Screen
from_taken s (end v) = cond (eqb v s.vector) (with_word s paused) s
from_taken s reset = s
from_taken s (delivery p v) = s
from_taken s other = s

-- "Nothing else changes the word."
unfoldable pub moved_of : Screen → Bool → Event → Screen
moved_of s held e =
    cond (eqb s.word running) (from_running s held)
    (cond (eqb s.word asked) (from_asked s e)
    (cond (eqb s.word taken) (from_taken s e) s))

-- a screen that no pin is told shows nothing of what happens
abbrev pub told : Screen → Screen → Screen
told s next = cond (is_told s) next s

-- the screen after a call that did this and left these edges held
unfoldable pub shown_after : Screen → List ℕ → Event → Screen
shown_after s held reset = blank
shown_after s held (delivery p v) = told s (moved_of s (holds_in held s.pin) (delivery p v))
shown_after s held (end v) = told s (moved_of s (holds_in held s.pin) (end v))
shown_after s held other = told s (moved_of s (holds_in held s.pin) other)

-- "No pin: running, no vector."
abbrev pub fits_blank : Screen → Bool
fits_blank s = eqb s.pin 0 && (eqb s.word running && eqb s.vector 0)

-- "A pin: at most 23; a vector exactly in taken and paused; running only if the pin holds no edge."
abbrev pub fits_told : Screen → List ℕ → Bool
fits_told s held =
    (eqb s.told 1 && (leb s.pin 23 && (leb s.word paused && leb s.vector 255)))
    && ((leb taken s.word || eqb s.vector 0) && not (eqb s.word running && holds_in held s.pin))

unfoldable pub fits : Screen → List ℕ → Bool
fits s held = cond (eqb s.told 0) (fits_blank s) (fits_told s held)
