-- The paper's number and values for each answer ("Numbers a call can answer").
use Rattle.std.specs.Prelude.{ℕ, Bool, true, false, List, [], ◌∷◌}
use Rattle.answers.specs.declared.Refusal.{Refusal}
use Rattle.answers.specs.declared.Refusal.TheVariants as refusal
use Rattle.answers.specs.declared.Answer.{Answer}
use Rattle.answers.specs.declared.Answer.TheVariants as answer
use Rattle.answers.specs.declared.Numbers.{Numbers}

unfoldable pub number_of : Refusal → ℕ
number_of refusal.Window = 1
number_of refusal.Offset = 1
number_of refusal.Width = 2
number_of refusal.Pin = 3
number_of refusal.Level = 4
number_of refusal.Value = 4
number_of refusal.State = 5
number_of refusal.Mark = 6
number_of refusal.Kind = 7
number_of refusal.Short = 8
number_of refusal.Length = 8
number_of refusal.Form = 9
number_of refusal.Range = 10
number_of refusal.NoRoom = 12
number_of refusal.NotEdge = 14

-- a number by itself: read value 0, counts 0, no delivery
abbrev pub bare : ℕ → Numbers
bare n = record { value = 0; number = n; delivered = 0; fired = 0 ∷ 0 ∷ 0 ∷ []; pin = 0; vector = 0; destination = 0; logical = 0 }

abbrev pub with_value : Numbers → ℕ → Numbers
with_value n v = record { value = v; number = n.number; delivered = n.delivered; fired = n.fired; pin = n.pin; vector = n.vector; destination = n.destination; logical = n.logical }

abbrev pub with_fired : Numbers → List ℕ → Numbers
with_fired n f = record { value = n.value; number = n.number; delivered = n.delivered; fired = f; pin = n.pin; vector = n.vector; destination = n.destination; logical = n.logical }

abbrev pub with_delivery : Numbers → ℕ → ℕ → ℕ → ℕ → Numbers
with_delivery n p v d l = record { value = n.value; number = n.number; delivered = 1; fired = n.fired; pin = p; vector = v; destination = d; logical = l }

-- 0 is done; a read gives its value, an advance its three counts, a delivery step its pin, vector, destination and
-- bit 11, or none
unfoldable pub numbers_of : Answer → Numbers
numbers_of answer.Done = bare 0
numbers_of (answer.Value v) = with_value (bare 0) v
numbers_of (answer.Fired a b c) = with_fired (bare 0) (a ∷ b ∷ c ∷ [])
numbers_of (answer.Interrupt p v d l) = with_delivery (bare 0) p v d l
numbers_of answer.Nothing = bare 0
numbers_of (answer.Refused r) = bare (number_of r)

-- a call is done, or refused
abbrev pub is_done : Answer → Bool
is_done answer.Done = true
is_done (answer.Value v) = true
is_done (answer.Fired a b c) = true
is_done (answer.Interrupt p v d l) = true
is_done answer.Nothing = true
is_done (answer.Refused r) = false

-- what follows from an answer: of a refusal f of it, of any other x
abbrev pub if_refused : {A : Type 0} → (Refusal → A) → A → Answer → A
if_refused f x answer.Done = x
if_refused f x (answer.Value v) = x
if_refused f x (answer.Fired a b c) = x
if_refused f x (answer.Interrupt p v d l) = x
if_refused f x answer.Nothing = x
if_refused f x (answer.Refused r) = f r
