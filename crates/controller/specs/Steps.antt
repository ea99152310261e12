-- Wires, end of interrupt and delivery (document 01, "Controller registers").
use Rattle.std.specs.Prelude.{ℕ, cond, List, leb, ltb, set}
use Rattle.answers.specs.declared.Answer.TheVariants as answer
use Rattle.answers.specs.declared.Refusal.TheVariants as refusal
use Rattle.entries.specs.Table.{first_eligible, wired, ended, given, taken}
use Rattle.controller.specs.declared.Controller.{Controller}
use Rattle.controller.specs.declared.Turn.{Turn}
use Rattle.controller.specs.State.{with_entries, turn, refused, tested}

-- all wires at once: one step, with an edge at every unmasked edge pin that went from not asserted to asserted
abbrev pub rewired : Controller → List ℕ → Controller
rewired c l = with_entries c (wired c.entries l)

-- a wire change tests 3, then 4
unfoldable pub wire_of : Controller → ℕ → ℕ → Turn
wire_of c pin level =
    tested c
    (cond (ltb pin 24)
    (cond (leb level 1)
    (turn (rewired c (set c.entries.level pin level)) answer.Done)
    (refused c refusal.Level))
    (refused c refusal.Pin))

-- every level entry whose present vector is v gets remote IRR 0
abbrev pub after_end : Controller → ℕ → Controller
after_end c v = with_entries c (ended c.entries v)

unfoldable pub end_of : Controller → ℕ → Turn
end_of c v = tested c (turn (after_end c v) answer.Done)

-- the lowest-numbered eligible pin; no eligible pin: none, same state
unfoldable pub delivering_of : Controller → Turn
delivering_of c =
    cond (ltb (first_eligible c.entries) 24)
    (turn (with_entries c (taken c.entries (first_eligible c.entries))) (given c.entries (first_eligible c.entries)))
    (turn c answer.Nothing)

unfoldable pub deliver_of : Controller → Turn
deliver_of c = tested c (delivering_of c)
