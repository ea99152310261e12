-- The number that is a pin's.
use Prim.Native.Nat.{ℕ, ◌<◌}
use mathlib.Core.Path.{◌≡◌, refl, ap}
use mathlib.Core.Bool.{Bool, true, false, cond}
use lib.Dec.{ltb}
use borrow.Author.Tests.{ltb-true}
use Rattle.std.specs.Prelude.{Option, Some, None}
use Rattle.pins.specs.Pins.{pin_at}
use Rattle.pins.proofs.Bools.{clash}

is_some : Option ℕ → Bool
is_some (Some n) = true
is_some None = false

number : Option ℕ → ℕ
number (Some n) = n
number None = 0

pub pin-number : (m n : ℕ) → Some n ≡ pin_at m → (n < 24) × (n ≡ m)
unfolding is_some number
pin-number m n e = go (ltb m 24) refl e
  where
    go : (b : Bool) → ltb m 24 ≡ b → Some n ≡ cond b (Some m) None → (n < 24) × (n ≡ m)
    go true t e = let is : n ≡ m = ap number e in (rw is (ltb-true m 24 t), is)
    go false t e = clash (ap is_some e)
