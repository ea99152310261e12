use lib.ListN.{get_or}
use borrow.Author.Rules.{rules}
use Rattle.entries.specs.Inner.{key_of, keys_of}
use Rattle.entries.proofs.Each.{tabled}
use Rattle.entries.proofs.Entries.keys.Goals as goal

pub returns : goal.returns
unfolding keys_of
returns c = tabled (λ i. key_of (get_or c.args.low i 0)) (λ i y q k. (search rules, search rules)) c.from_fn.ensures.items
