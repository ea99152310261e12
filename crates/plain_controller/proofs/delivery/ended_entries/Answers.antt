use mathlib.Core.Path.{ap}
use borrow.Author.Rules.{rules}
use Rattle.entries.specs.Pin.{ended_word}
use Rattle.entries.specs.Table.{low_at, with_low, ended}
use Rattle.entries.proofs.Each.{tabled}
use Rattle.plain_controller.proofs.delivery.ended_entries.Goals as goal

pub returns : goal.returns
unfolding ended
returns c =
    let a = c.args in
    ap (with_low a.e) (tabled (λ i. ended_word (low_at a.e i) a.v) (λ i y q k. (search rules, search rules)) c.from_fn.ensures.items)
