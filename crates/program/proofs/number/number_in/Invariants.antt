use Rattle.program.proofs.Numbers.{Reading}
use Rattle.program.proofs.number.number_in.Given as goal

abbrev pub invariant-loop-x : goal.invariant-loop-x
invariant-loop-x l = Reading l.base l.text l.x-index l.n
