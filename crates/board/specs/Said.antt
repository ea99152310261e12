-- How a sheet's line is written: calls, each beside its answer.
use Rattle.std.specs.Prelude.{ℕ, List, [], ◌∷◌}
use Rattle.answers.specs.declared.Answer.{Answer}
use Rattle.answers.specs.declared.Answer.TheVariants as answer
use Rattle.answers.specs.declared.Refusal.{Refusal}
use Rattle.answers.specs.Sheet.{ok, value, fired}
use Rattle.board.specs.declared.Call.{Call}
use Rattle.board.specs.declared.Call.TheVariants as call
use Rattle.board.specs.Accesses.{select, put, get, low_word, set, show}

-- a call and its answer
pub record Said : Type 0 where
  pub call : Call
  pub answer : Answer

abbrev pub says : Call → Answer → Said
says c a = record { call = c; answer = a }

-- a call that is done, a register that is read, a delivery step
abbrev pub done : Call → Said
done c = says c ok

abbrev pub reads : Call → ℕ → Said
reads c v = says c (value v)

abbrev pub pin : ℕ → ℕ → ℕ → ℕ → Answer
pin p v d l = answer.Interrupt p v d l

abbrev pub gives : Answer → Said
gives a = says call.Deliver a

abbrev pub refuses : Call → Refusal → Said
refuses c r = says c (answer.Refused r)

abbrev pub ticked : ℕ → ℕ → ℕ → ℕ → Said
ticked n x y z = says (call.Advance n) (fired x y z)

-- the index is selected, and what it names is read, or written
abbrev pub at : ℕ → ℕ → List Said
at i v = done (select i) ∷ reads get v ∷ []

abbrev pub to : ℕ → ℕ → List Said
to i v = done (select i) ∷ done (put v) ∷ []

abbrev pub entry : ℕ → ℕ → List Said
entry n v = to (low_word n) v

-- the selected register is written, and read
abbrev pub keeps : ℕ → ℕ → List Said
keeps v r = done (put v) ∷ reads get r ∷ []

-- a timer register is written, and read
abbrev pub sets : ℕ → ℕ → ℕ → List Said
sets o v r = done (set o v) ∷ reads (show o) r ∷ []

abbrev pub enabled : Said
enabled = done (set 0x010 1)

abbrev pub disabled : Said
disabled = done (set 0x010 0)

abbrev pub wire : ℕ → ℕ → Said
wire p l = done (call.Wire p l)

abbrev pub end : ℕ → Said
end v = done (call.End v)

-- every bit, and a number whose sixteen digits differ
abbrev pub ones : ℕ
ones = 0xFFFFFFFFFFFFFFFF

abbrev pub digits : ℕ
digits = 0xFEDCBA9876543210
