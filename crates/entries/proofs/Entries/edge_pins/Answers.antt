use lib.ListN.{get_or}
use borrow.Author.Rules.{rules}
use mir.Val.{bool_byte}
use Rattle.entries.specs.Inner.{takes_edges, edge_pins}
use Rattle.entries.proofs.Each.{tabled}
use Rattle.entries.proofs.Entries.edge_pins.Goals as goal

pub returns : goal.returns
unfolding edge_pins
returns c = tabled (λ i. bool_byte (takes_edges (get_or c.args.low i 0))) (λ i y q k. (search rules, search rules)) c.from_fn.ensures.items
