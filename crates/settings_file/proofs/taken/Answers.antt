use mathlib.Core.Path.{sym, ap, ◌∙◌}
use Rattle.pins.proofs.Bools.{clash}
use Rattle.settings.specs.Settings.{in_range}
use Rattle.settings_file.proofs.Outputs.{some-of, none-of, by-range, taken-fits, taken-ranged, none-so}
use Rattle.settings_file.proofs.taken.Goals as goal

pub returns-in_err-settings : goal.returns-in_err-settings
returns-in_err-settings c =
    none-so _ _ _ c.from_residual.ensures (λ e. none-of _ _ _ c.fields.ensures c.in_err-settings.was (taken-fits c.args.asked e))

pub returns-then-not-in_range : goal.returns-then-not-in_range
returns-then-not-in_range c =
    let k = some-of _ _ _ _ c.fields.ensures c.in_ok-settings.was in
    λ e. clash (sym (ap in_range k.1 ∙ taken-ranged c.args.asked e) ∙ sym c.in_range.ensures ∙ c.if-not-in_range.true)

pub returns : goal.returns
returns c =
    let k = some-of _ _ _ _ c.fields.ensures c.in_ok-settings.was in
    (sym (by-range c.args.asked k.0) ∙ sym (ap in_range k.1) ∙ sym c.in_range.ensures ∙ c.if-not-in_range.false, k.1)
