use mathlib.Core.Path.{sym, ◌∙◌}
use native.Mathlib.Omega.{arith}
use borrow.Author.Tests.{leb-true}
use Rattle.lines.specs.Line.{differ_line}
use Rattle.lines.proofs.Puts.{made, left_so}
use Rattle.lines.proofs.engines.differ.Goals as goal

pub returns-then-not-has_room : goal.returns-then-not-has_room
returns-then-not-has_room c =
    record {
      out_after = left_so (differ_line c.args.number c.args.place) c.args.out.now c.args.at (sym c.has_room.ensures ∙ c.if-not-has_room.true);
      upper_bound = omega arith;
    }

pub put_differ-requires : goal.put_differ-requires
put_differ-requires c = leb-true _ _ (sym c.has_room.ensures ∙ c.if-not-has_room.false)

pub returns : goal.returns
returns c =
    record {
      out_after = made (differ_line c.args.number c.args.place) c.args.out.now c.args.at c.put_differ.new.out c.put_differ.result (sym c.has_room.ensures ∙ c.if-not-has_room.false) c.put_differ.ensures.put;
      upper_bound = c.put_differ.ensures.upper_bound;
    }
