-- An answer as its kind and values, and the answer that these stand for.
use Rattle.std.specs.Prelude.{ℕ, cond, eqb}
use Rattle.answers.specs.declared.Answer.{Answer}
use Rattle.answers.specs.declared.Answer.TheVariants as answer
use Rattle.answers.specs.declared.Refusal.{Refusal}
use Rattle.answers.specs.declared.Refusal.TheVariants as refusal

-- an answer as numbers: its kind, and its values
pub record Code : Type 0 where
  pub kind : ℕ
  pub a : ℕ
  pub b : ℕ
  pub c : ℕ
  pub d : ℕ

-- each reason by a number of its own: three of the paper's numbers stand for two reasons each
unfoldable pub rank_of : Refusal → ℕ
rank_of refusal.Window = 0
rank_of refusal.Offset = 1
rank_of refusal.Width = 2
rank_of refusal.Pin = 3
rank_of refusal.Level = 4
rank_of refusal.Value = 5
rank_of refusal.State = 6
rank_of refusal.Mark = 7
rank_of refusal.Kind = 8
rank_of refusal.Short = 9
rank_of refusal.NoRoom = 10
rank_of refusal.NotEdge = 11
rank_of refusal.Length = 12
rank_of refusal.Form = 13
rank_of refusal.Range = 14

abbrev pub code : ℕ → ℕ → ℕ → ℕ → ℕ → Code
code k a b c d = record { kind = k; a = a; b = b; c = c; d = d }

unfoldable pub code_of : Answer → Code
code_of answer.Done = code 0 0 0 0 0
code_of (answer.Value v) = code 1 v 0 0 0
code_of (answer.Fired a b c) = code 2 a b c 0
code_of (answer.Interrupt p v d l) = code 3 p v d l
code_of answer.Nothing = code 4 0 0 0 0
code_of (answer.Refused r) = code 5 (rank_of r) 0 0 0

-- the way back
unfoldable pub ranked : ℕ → Refusal
ranked n =
    cond (eqb n 0) refusal.Window
    (cond (eqb n 1) refusal.Offset
    (cond (eqb n 2) refusal.Width
    (cond (eqb n 3) refusal.Pin
    (cond (eqb n 4) refusal.Level
    (cond (eqb n 5) refusal.Value
    (cond (eqb n 6) refusal.State
    (cond (eqb n 7) refusal.Mark
    (cond (eqb n 8) refusal.Kind
    (cond (eqb n 9) refusal.Short
    (cond (eqb n 10) refusal.NoRoom
    (cond (eqb n 11) refusal.NotEdge
    (cond (eqb n 12) refusal.Length
    (cond (eqb n 13) refusal.Form refusal.Range)))))))))))))

unfoldable pub meant : Code → Answer
meant x =
    cond (eqb x.kind 0) answer.Done
    (cond (eqb x.kind 1) (answer.Value x.a)
    (cond (eqb x.kind 2) (answer.Fired x.a x.b x.c)
    (cond (eqb x.kind 3) (answer.Interrupt x.a x.b x.c x.d)
    (cond (eqb x.kind 4) answer.Nothing (answer.Refused (ranked x.a))))))
