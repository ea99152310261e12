use mathlib.Core.Path.{◌∙◌}
use Rattle.screen.proofs.Outputs.{untaken, by-pin}
use Rattle.screen.proofs.takes_with.Goals as goal

pub returns-in-Ok : goal.returns-in-Ok
returns-in-Ok c = c.takes.ensures ∙ by-pin c.args.bytes.now c.accepted.result c.accepted.ensures c.args.pin c.in-Ok.settings c.in-Ok.is

pub returns-in-Err : goal.returns-in-Err
returns-in-Err c = untaken c.args.bytes.now c.accepted.result c.accepted.ensures c.args.pin c.in-Err.field-0 c.in-Err.is
