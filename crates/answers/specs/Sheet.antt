-- How the bench sheets write an answer, so that a delivery step's none is no other call's ok.
use Rattle.std.specs.Prelude.{ℕ, ◌≡◌, refl, List, [], ◌∷◌, map}
use Rattle.answers.specs.declared.Refusal.{Refusal}
use Rattle.answers.specs.declared.Refusal.TheVariants as refusal
use Rattle.answers.specs.declared.Answer.{Answer}
use Rattle.answers.specs.declared.Answer.TheVariants as answer
use Rattle.answers.specs.declared.Numbers.{Numbers}
use Rattle.answers.specs.Numbers.{number_of, numbers_of}

abbrev pub ok : Answer
ok = answer.Done

abbrev pub value : ℕ → Answer
value v = answer.Value v

-- to destination 0, bit 11 clear
abbrev pub pin : ℕ → ℕ → Answer
pin p v = answer.Interrupt p v 0 0

abbrev pub none : Answer
none = answer.Nothing

abbrev pub fired : ℕ → ℕ → ℕ → Answer
fired a b c = answer.Fired a b c

-- a refusal beside its number
abbrev pub refused : (n : ℕ) (r : Refusal) → number_of r ≡ n → Answer
refused n r e = answer.Refused r

-- ---- the answers as numbers, since a sheet over answers says nothing of these

abbrev numbers : ℕ → ℕ → List ℕ → ℕ → ℕ → ℕ → ℕ → ℕ → Numbers
numbers n v f delivered p vector d l = record { value = v; number = n; delivered = delivered; fired = f; pin = p; vector = vector; destination = d; logical = l }

abbrev zeros : List ℕ
zeros = 0 ∷ 0 ∷ 0 ∷ []

-- a log's three refusals, the settings' three, a lent buffer's and the pause pin's too, whose numbers no other
-- statement has
pub told :
    map numbers_of
    (ok ∷ value 7 ∷ fired 1 2 3 ∷ answer.Interrupt 4 5 6 1 ∷ none ∷ answer.Refused refusal.Mark ∷ answer.Refused refusal.Kind ∷ answer.Refused refusal.Short ∷ answer.Refused refusal.Length ∷ answer.Refused refusal.Form ∷ answer.Refused refusal.Range ∷ answer.Refused refusal.NoRoom ∷ answer.Refused refusal.NotEdge ∷ [])
    ≡ numbers 0 0 zeros 0 0 0 0 0
    ∷ numbers 0 7 zeros 0 0 0 0 0
    ∷ numbers 0 0 (1 ∷ 2 ∷ 3 ∷ []) 0 0 0 0 0
    ∷ numbers 0 0 zeros 1 4 5 6 1
    ∷ numbers 0 0 zeros 0 0 0 0 0
    ∷ numbers 6 0 zeros 0 0 0 0 0
    ∷ numbers 7 0 zeros 0 0 0 0 0
    ∷ numbers 8 0 zeros 0 0 0 0 0
    ∷ numbers 8 0 zeros 0 0 0 0 0
    ∷ numbers 9 0 zeros 0 0 0 0 0
    ∷ numbers 10 0 zeros 0 0 0 0 0
    ∷ numbers 12 0 zeros 0 0 0 0 0
    ∷ numbers 14 0 zeros 0 0 0 0 0
    ∷ []
unfolding numbers_of number_of
told = refl
