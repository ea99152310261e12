use mathlib.Core.Path.{sym, ◌∙◌}
use native.Mathlib.Omega.{arith}
use borrow.Author.Tests.{leb-true}
use Rattle.lines.specs.Line.{kept_line}
use Rattle.lines.proofs.Puts.{made, left_so}
use Rattle.lines.proofs.report.kept.Goals as goal

pub returns-then-not-has_room : goal.returns-then-not-has_room
returns-then-not-has_room c =
    record {
      out_after = left_so (kept_line c.args.records) c.args.out.now c.args.at (sym c.has_room.ensures ∙ c.if-not-has_room.true);
      upper_bound = omega arith;
    }

pub put_kept-requires : goal.put_kept-requires
put_kept-requires c = leb-true _ _ (sym c.has_room.ensures ∙ c.if-not-has_room.false)

pub returns : goal.returns
returns c =
    record {
      out_after = made (kept_line c.args.records) c.args.out.now c.args.at c.put_kept.new.out c.put_kept.result (sym c.has_room.ensures ∙ c.if-not-has_room.false) c.put_kept.ensures.put;
      upper_bound = c.put_kept.ensures.upper_bound;
    }
