use mathlib.Core.Path.{sym, ◌∙◌}
use native.Mathlib.Omega.{arith}
use borrow.Author.Tests.{leb-true}
use Rattle.lines.specs.Line.{skipped_line}
use Rattle.lines.proofs.Puts.{made, left_so}
use Rattle.lines.proofs.report.skipped.Goals as goal

pub returns-then-not-has_room : goal.returns-then-not-has_room
returns-then-not-has_room c =
    record {
      out_after = left_so (skipped_line c.args.size c.args.place) c.args.out.now c.args.at (sym c.has_room.ensures ∙ c.if-not-has_room.true);
      upper_bound = omega arith;
    }

pub put_skipped-requires : goal.put_skipped-requires
put_skipped-requires c = leb-true _ _ (sym c.has_room.ensures ∙ c.if-not-has_room.false)

pub returns : goal.returns
returns c =
    record {
      out_after = made (skipped_line c.args.size c.args.place) c.args.out.now c.args.at c.put_skipped.new.out c.put_skipped.result (sym c.has_room.ensures ∙ c.if-not-has_room.false) c.put_skipped.ensures.put;
      upper_bound = c.put_skipped.ensures.upper_bound;
    }
