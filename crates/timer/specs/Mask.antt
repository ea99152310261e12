-- "Settings for each mill": a route mask, the pins that a timer can be routed to.
use Rattle.std.specs.Prelude.{ℕ, ◌/◌, ◌%◌, ◌^◌, Bool, ◌==◌}
use Rattle.pins.specs.Pins.{first}

-- pin p is in the mask where bit p is 1
unfoldable pub in_mask : ℕ → ℕ → Bool
in_mask mask p = mask / 2 ^ p % 2 == 1

-- the mask's lowest pin; 24, if it has none
unfoldable pub lowest : ℕ → ℕ
lowest mask = first (in_mask mask)
