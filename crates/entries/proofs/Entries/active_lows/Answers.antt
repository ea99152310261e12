use lib.ListN.{get_or}
use borrow.Author.Rules.{rules}
use Rattle.entries.specs.Word.{active_low_of}
use Rattle.entries.specs.Inner.{active_lows}
use Rattle.entries.proofs.Each.{tabled}
use Rattle.entries.proofs.Entries.active_lows.Goals as goal

pub returns : goal.returns
unfolding active_lows
returns c = tabled (λ i. active_low_of (get_or c.args.low i 0)) (λ i y q k. (search rules, search rules)) c.from_fn.ensures.items
