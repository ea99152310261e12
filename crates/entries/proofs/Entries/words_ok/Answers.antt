use mathlib.Core.Path.{◌≡◌, refl, ap, ap₂, ◌∙◌}
use mathlib.Core.Bool.{◌&&◌}
use Rattle.pins.specs.Pins.{all_from}
use Rattle.pins.proofs.Scan.{all_more}
use Rattle.entries.specs.Inner.{words_ok}
use native.Mathlib.Omega.{arith}
use Rattle.entries.proofs.Entries.words_ok.Invariants.{fits}
use Rattle.entries.proofs.Entries.words_ok.Goals as goal

pub loop-word-init : goal.loop-word-init
unfolding all_from
loop-word-init c = refl

pub loop-word-preserved : goal.loop-word-preserved
loop-word-preserved c =
    ap₂ ◌&&◌ c.loop-word.invariant c.word_ok-ok.ensures ∙ all_more (fits c.args.low) c.loop-word.word-index

pub returns : goal.returns
unfolding words_ok
returns c =
    let full : c.loop-word.word-index ≡ 24 = omega arith in
    c.loop-word.invariant ∙ ap (all_from (fits c.args.low) 0) full
