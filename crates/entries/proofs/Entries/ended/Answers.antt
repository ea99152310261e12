use mathlib.Core.Path.{ap}
use lib.ListN.{get_or}
use borrow.Author.Rules.{rules}
use Rattle.entries.specs.Pin.{ended_word}
use Rattle.entries.specs.Table.{with_low, ended}
use Rattle.entries.proofs.Each.{tabled}
use Rattle.entries.proofs.Entries.ended.Goals as goal

pub returns : goal.returns
unfolding ended
returns c =
    ap (with_low c.args.self)
    (tabled (λ i. ended_word (get_or c.args.self.low i 0) c.args.vector) (λ i y q k. (search rules, search rules)) c.from_fn.ensures.items)
