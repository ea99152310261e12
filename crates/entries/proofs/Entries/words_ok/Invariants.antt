use mathlib.Core.Path.{◌≡◌}
use mathlib.Core.Bool.{Bool}
use mathlib.Core.List.{List}
use Prim.Native.Nat.{ℕ}
use lib.ListN.{get_or}
use Rattle.pins.specs.Pins.{all_from}
use Rattle.entries.specs.Word.{word_ok}
use Rattle.entries.proofs.Entries.words_ok.Given as goal

abbrev pub fits : List ℕ → ℕ → Bool
fits w i = word_ok (get_or w i 0)

abbrev pub invariant-loop-word : goal.invariant-loop-word
invariant-loop-word l = l.ok ≡ all_from (fits l.word-items) 0 l.word-index
