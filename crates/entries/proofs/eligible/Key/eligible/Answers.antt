use mathlib.Core.Path.{ap, ap₂, sym, ◌∙◌}
use mathlib.Core.Bool.{◌||◌}
use Prim.Native.Nat.{◌*◌}
use mir.Val.{bool_byte}
use Rattle.entries.proofs.Keys.{either-eligible, or_bytes}
use Rattle.entries.proofs.eligible.Key.eligible.Goals as goal

pub returns : goal.returns
returns c =
    let a = c.args in
    or_bytes c.by_edge.result c.by_level.result
    ∙ ap bool_byte (ap₂ ◌||◌ c.by_edge.ensures c.by_level.ensures ∙ sym (either-eligible (a.self.0 * 2) a.level a.held))
