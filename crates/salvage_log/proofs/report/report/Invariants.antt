use Rattle.salvage_log.proofs.Telling.{Telling}
use Rattle.salvage_log.proofs.report.report.Given as goal

abbrev pub invariant-loop-i : goal.invariant-loop-i
invariant-loop-i l = Telling l.list l.stretches l.records l.initial.out l.initial.at l.out l.i l.at
