use mathlib.Core.Path.{sym}
use Rattle.entries.proofs.Apart.{ok-apart}
use Rattle.entries.proofs.Entries.well_formed.Goals as goal

pub returns : goal.returns
returns c =
    rw (c.words_ok.ensures, c.edges_ok.ensures, c.levels_ok.ensures)
    (sym (ok-apart c.args.self))
