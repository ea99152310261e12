-- A call as numbers: the number of its kind, and four more, of which those that the kind does not name don't count.
use Rattle.std.specs.Prelude.{◌%◌, ◌^◌, cond, eqb, Result, Ok, Err}
use Rattle.answers.specs.declared.Refusal.{Refusal}
use Rattle.answers.specs.declared.Refusal.TheVariants as refusal
use Rattle.settings.specs.Settings.{standard}
use Rattle.board.specs.declared.Call.{Call}
use Rattle.board.specs.declared.Call.TheVariants as call
use Rattle.board.specs.declared.CallNumbers.{CallNumbers}

-- a vector has eight bits and ticks 32: of a wider number the lower bits count; an unknown kind is 7
unfoldable pub named_by : CallNumbers → Result Call Refusal
named_by n =
    cond (eqb n.kind 1) (Ok (call.Read n.p n.q n.r))
    (cond (eqb n.kind 2) (Ok (call.Write n.p n.q n.r n.s))
    (cond (eqb n.kind 3) (Ok (call.Wire n.p n.q))
    (cond (eqb n.kind 4) (Ok (call.End (n.p % 2 ^ 8)))
    (cond (eqb n.kind 5) (Ok (call.Advance (n.p % 2 ^ 32)))
    (cond (eqb n.kind 6) (Ok call.Deliver)
    (cond (eqb n.kind 7) (Ok (call.Reset standard))
    (Err refusal.Kind)))))))
