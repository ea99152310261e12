-- A refused call gives no value: read value 0, counts 0, no delivery. Any two results that one equation allows are
-- equal.
use mathlib.Core.Path.{◌≡◌, refl, sym, ◌∙◌}
use Prim.Native.Nat.{ℕ}
use lib.ListN.{get_or}
use Rattle.answers.specs.declared.Answer.{Answer}
use Rattle.answers.specs.declared.Answer.TheVariants as answer
use Rattle.answers.specs.Numbers.{bare, numbers_of}

abbrev pub answer_number : Answer → ℕ
answer_number a = (numbers_of a).number

-- timer m's count
abbrev pub answer_fired : ℕ → Answer → ℕ
answer_fired m a = get_or (numbers_of a).fired m 0

pub refused-bare : (a : Answer) → (answer_number a ≡ 0 → ⊥) → numbers_of a ≡ bare (answer_number a)
unfolding numbers_of
refused-bare answer.Done f = absurd (f refl)
refused-bare (answer.Value v) f = absurd (f refl)
refused-bare (answer.Fired a b c) f = absurd (f refl)
refused-bare (answer.Interrupt p v d l) f = absurd (f refl)
refused-bare answer.Nothing f = absurd (f refl)
refused-bare (answer.Refused r) f = refl

pub one-result : {A : Type 0} {r s t : A} → r ≡ t → s ≡ t → r ≡ s
one-result e f = e ∙ sym f
