use Rattle.entries.specs.Decision.{write_at}
use Rattle.board.specs.At.{low_write_at}
use Rattle.board.proofs.InPlace.{entry-in-place}
use Rattle.board.proofs.Board.write_in_place.Goals as goal

pub returns : goal.returns
unfolding low_write_at
returns c = λ b. let a = c.args in
    let d = c.write-d in
    entry-in-place b (write_at a.n a.value) d.result a.low.now a.held.now _ _ d.ensures c.apply.ensures
