use mathlib.Core.Path.{sym, ◌∙◌}
use native.Mathlib.Omega.{arith}
use borrow.Author.Tests.{leb-true}
use Rattle.lines.specs.Line.{heading_line}
use Rattle.lines.proofs.Puts.{made, left_so}
use Rattle.lines.proofs.report.heading.Goals as goal

pub returns-then-not-has_room : goal.returns-then-not-has_room
returns-then-not-has_room c =
    record {
      out_after = left_so heading_line c.args.out.now c.args.at (sym c.has_room.ensures ∙ c.if-not-has_room.true);
      upper_bound = omega arith;
    }

pub put_heading-requires : goal.put_heading-requires
put_heading-requires c = leb-true _ _ (sym c.has_room.ensures ∙ c.if-not-has_room.false)

pub returns : goal.returns
returns c =
    record {
      out_after = made heading_line c.args.out.now c.args.at c.put_heading.new.out c.put_heading.result (sym c.has_room.ensures ∙ c.if-not-has_room.false) c.put_heading.ensures.put;
      upper_bound = c.put_heading.ensures.upper_bound;
    }
