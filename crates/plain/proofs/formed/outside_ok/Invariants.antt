use Rattle.std.proofs.Common.{◌≡◌, ℕ, Bool, true, leb, List, get_or}
use Rattle.pins.specs.Pins.{all_from}
use Rattle.plain.proofs.formed.outside_ok.Given as goal

abbrev pub low : List ℕ → ℕ → Bool
low o i = leb (get_or o i 0) 1

abbrev pub invariant-loop-i : goal.invariant-loop-i
invariant-loop-i l = all_from (low l.outside) 0 l.i ≡ true
