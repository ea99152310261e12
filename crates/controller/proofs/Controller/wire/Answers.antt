use mathlib.Core.Path.{◌≡◌}
use mathlib.Core.Bool.{false}
use Prim.Native.Nat.{ℕ}
use native.Mathlib.Omega.{arith}
use Rattle.std.proofs.lemmas.Grind.{common_steps}
use Rattle.answers.specs.declared.Refusal.TheVariants as refusal
use Rattle.controller.specs.declared.Controller.{Controller}
use Rattle.controller.specs.State.{well_formed, refused}
use Rattle.controller.specs.Steps.{wire_of}
use Rattle.controller.proofs.Controller.wire.Goals as goal

unformed : (c : Controller) (pin level : ℕ) → well_formed c ≡ false → wire_of c pin level ≡ refused c refusal.State
unfolding wire_of
unformed c pin level h = rw h

pub returns : goal.returns
returns c = grind (arith, common_steps, unformed c.args.self c.args.pin c.args.level)
