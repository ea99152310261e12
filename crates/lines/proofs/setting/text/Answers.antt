use mathlib.Core.Path.{sym, ◌∙◌}
use native.Mathlib.Omega.{arith}
use borrow.Author.Tests.{leb-true}
use Rattle.lines.specs.Listing.{text_of}
use Rattle.lines.proofs.Puts.{made-if, left-if}
use Rattle.lines.proofs.setting.text.Goals as goal

pub returns-then-not-has_room_for : goal.returns-then-not-has_room_for
returns-then-not-has_room_for c =
    record {
      out_after = left-if 128 (text_of c.args.settings) c.args.out.now c.args.at (sym c.has_room_for.ensures ∙ c.if-not-has_room_for.true);
      upper_bound = omega arith;
    }

pub put_text-requires : goal.put_text-requires
put_text-requires c = leb-true _ _ (sym c.has_room_for.ensures ∙ c.if-not-has_room_for.false)

pub returns : goal.returns
returns c =
    record {
      out_after = made-if 128 (text_of c.args.settings) c.args.out.now c.args.at c.put_text.new.out c.put_text.result (sym c.has_room_for.ensures ∙ c.if-not-has_room_for.false) c.put_text.ensures.put;
      upper_bound = c.put_text.ensures.upper_bound;
    }
