-- Every answer but a refusal is done, and what follows from it.
use mathlib.Core.Path.{◌≡◌, refl, sym, subst}
use mathlib.Core.Bool.{true}
use lib.Dec.{T}
use Rattle.answers.specs.declared.Refusal.{Refusal}
use Rattle.answers.specs.declared.Answer.{Answer}
use Rattle.answers.specs.declared.Answer.TheVariants as answer
use Rattle.answers.specs.Numbers.{is_done, if_refused}

-- what a match learns in the arm of all the others
abbrev pub NotRefused : Answer → Type 0
NotRefused a = (r : Refusal) → a ≡ answer.Refused r → ⊥

pub is-done : (a : Answer) → NotRefused a → is_done a ≡ true
is-done answer.Done k = refl
is-done (answer.Value v) k = refl
is-done (answer.Fired x y z) k = refl
is-done (answer.Interrupt p v d l) k = refl
is-done answer.Nothing k = refl
is-done (answer.Refused r) k = absurd (k r refl)

module _ {A : Type 0} (f : Refusal → A) (x : A) where
  pub if-done : (a : Answer) → is_done a ≡ true → if_refused f x a ≡ x
  if-done answer.Done e = refl
  if-done (answer.Value v) e = refl
  if-done (answer.Fired p q r) e = refl
  if-done (answer.Interrupt p v d l) e = refl
  if-done answer.Nothing e = refl
  if-done (answer.Refused r) e = absurd (subst T (sym e) tt)

  pub not-refused : (a : Answer) → NotRefused a → if_refused f x a ≡ x
  not-refused a k = if-done a (is-done a k)

  -- two that are the same of whatever is done
  pub alike : (y : A) (a : Answer) → (is_done a ≡ true → x ≡ y) → if_refused f x a ≡ if_refused f y a
  alike y answer.Done e = e refl
  alike y (answer.Value v) e = e refl
  alike y (answer.Fired p q r) e = e refl
  alike y (answer.Interrupt p v d l) e = e refl
  alike y answer.Nothing e = e refl
  alike y (answer.Refused r) e = refl
