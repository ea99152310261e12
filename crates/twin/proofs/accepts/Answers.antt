use mathlib.Core.Path.{◌≡◌, ◌∙◌}
use mathlib.Core.List.{List}
use Prim.Native.Nat.{ℕ}
use Rattle.std.specs.Prelude.{Result, Ok, Err, is_ok}
use Rattle.answers.specs.declared.Refusal.{Refusal}
use Rattle.settings.specs.declared.Settings.{Settings}
use Rattle.settings.specs.Record.{reading_of, read_of}
use Rattle.event_log.specs.Output.{accepts}
use Rattle.event_log.proofs.Outputs.{accepts-so}
use Rattle.twin.proofs.accepts.Goals as goal

by-result : (r : List ℕ) (x : Result Settings Refusal) → reading_of x ≡ read_of r → is_ok x ≡ accepts r
by-result r (Ok settings) e = accepts-so r _ e
by-result r (Err refusal) e = accepts-so r _ e

pub returns : goal.returns
returns c = c.is_ok.ensures.value ∙ by-result c.args.bytes.now c.accepted.result c.accepted.ensures
