use Rattle.std.proofs.Common.{◌≤◌, ◌≡◌, length}
use Rattle.program.proofs.transfer.read_all.Given as goal

abbrev pub invariant-loop : goal.invariant-loop
invariant-loop g l = (l.done ≤ length l.buf) × (length l.buf ≡ length l.initial.buf)
