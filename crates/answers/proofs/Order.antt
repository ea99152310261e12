-- The first test that holds gives the number, and a number is given exactly so.
use mathlib.Core.Path.{◌≡◌, refl, sym, subst, ◌∙◌}
use mathlib.Core.Bool.{Bool, true, false, not, cond}
use mathlib.Core.List.{List, [], ◌∷◌}
use Prim.Native.Nat.{ℕ}
use Rattle.answers.specs.declared.Refusal.{Refusal}
use Rattle.answers.specs.declared.Answer.{Answer}
use Rattle.answers.specs.declared.Answer.TheVariants as answer
use Rattle.answers.specs.Numbers.{number_of, numbers_of}
use Rattle.answers.specs.Order.{Test, test, first_number, Given, done, here, later}
use Rattle.answers.proofs.Refused.{answer_number}

pub given-first : (ts : List Test) → Given ts (first_number ts)
unfolding first_number
given-first [] = done
given-first (t ∷ ts) = go t.holds refl (given-first ts)
  where
    go : (b : Bool) → t.holds ≡ b → Given ts (first_number ts) → Given (t ∷ ts) (cond b t.number (first_number ts))
    go true e g = here t ts e
    go false e g = later t ts (first_number ts) e g

pub first-given : (ts : List Test) (n : ℕ) → Given ts n → first_number ts ≡ n
unfolding first_number
first-given [] n done = refl
first-given (t ∷ ts) n (here t' ts' e) = rw e
first-given (t ∷ ts) n (later t' ts' n' e g) = rw e (first-given ts n g)

-- whatever answers by the first test is refused with a number if and only if the paper says so
module _ (ts : List Test) (k : ℕ) (answered : k ≡ first_number ts) (n : ℕ) where
  pub only_if : k ≡ n → Given ts n
  only_if e = subst (Given ts) (sym answered ∙ e) (given-first ts)

  pub if : Given ts n → k ≡ n
  if g = answered ∙ first-given ts n g

-- what the tests decide of a call: the number of its answer, and that a refused one leaves the state
pub record Decided (S : Type 0) (ts : List Test) (before after : S) (a : Answer) : Type 0 where
  pub number : answer_number a ≡ first_number ts
  pub same : (answer_number a ≡ 0 → ⊥) → after ≡ before

module _ {S : Type 0} (s : S) where
  pub done_decided : (n : S) (a : Answer) → answer_number a ≡ 0 → Decided S [] s n a
  unfolding first_number
  done_decided n a e = record { number = e; same = λ f. absurd (f e) }

  -- a test that holds refuses; one that does not leaves it to the tests after it
  pub refused-decided : (t : Test) (ts : List Test) (r : Refusal) → t.holds ≡ true → number_of r ≡ t.number → Decided S (t ∷ ts) s s (answer.Refused r)
  unfolding first_number numbers_of
  refused-decided t ts r h e = record { number = rw h e; same = λ f. refl }

  pub later-decided : (t : Test) (ts : List Test) (n : S) (a : Answer) → t.holds ≡ false → Decided S ts s n a → Decided S (t ∷ ts) s n a
  unfolding first_number
  later-decided t ts n a h d = record { number = rw h d.number; same = d.same }

-- a turn T carries a state and an answer: a test, the turn where it refuses, and what the tests after it decide
module _ {S T : Type 0} (state : T → S) (said : T → Answer) (s : S) where
  abbrev DecidedTurn : List Test → T → Type 0
  DecidedTurn ts t = Decided S ts s (state t) (said t)

  pub then-decided : (n : ℕ) (ts : List Test) (t u : T) (f : Bool) → DecidedTurn (test n true ∷ ts) u → DecidedTurn ts t → DecidedTurn (test n (not f) ∷ ts) (cond f t u)
  then-decided n ts t u true r d = later-decided s (test n false) ts (state t) (said t) refl d
  then-decided n ts t u false r d = r
