-- What the contracts of counts of bytes cite.
use Rattle.std.specs.Prelude.{ℕ, ◌≤◌, ⊤}
use Rattle.program.specs.declared.transfer.Step.{Step}
use Rattle.program.specs.declared.transfer.Step.TheVariants as step

-- no step moves more bytes than there are
abbrev pub StepsWithin : ℕ → Step → Type 0
StepsWithin n (step.Moved m) = m ≤ n
StepsWithin n step.Again = ⊤
StepsWithin n step.End = ⊤
