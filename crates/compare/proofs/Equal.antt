-- Two turns that are the same, field by field, are equal; and a turn is the same as itself.
use Prim.Native.Nat.{ℕ, ◌<◌}
use mathlib.Core.Path.{◌≡◌, refl, sym, ap, ◌∙◌}
use mathlib.Core.Bool.{Bool, true, ◌&&◌}
use mathlib.Core.List.{List, [], ◌∷◌}
use lib.Dec.{eqb}
use lib.ListN.{length, get_or}
use lib.Seq.{ext_get_or}
use borrow.Author.Tests.{eqb-true, eq-eqb}
use Rattle.pins.proofs.Bools.{and_left, and_right, and_both}
use Rattle.pins.proofs.Every.{every-at, every_of}
use Rattle.answers.specs.declared.Answer.{Answer}
use Rattle.answers.specs.declared.Answer.TheVariants as answer
use Rattle.answers.specs.declared.Refusal.{Refusal}
use Rattle.answers.specs.declared.Refusal.TheVariants as refusal
use Rattle.entries.specs.declared.Entries.{Entries}
use Rattle.entries.proofs.Sized.{Sized}
use Rattle.controller.specs.declared.Controller.{Controller}
use Rattle.timer.specs.declared.Timer.{Timer}
use Rattle.timer.specs.State.{blank}
use Rattle.timers.specs.declared.Timers.{Timers}
use Rattle.timers.specs.State.{at, mask_at}
use Rattle.timers.proofs.Three.{of_three}
use Rattle.board.specs.declared.Board.{Board}
use Rattle.board.specs.declared.Turn.{Turn}
use Rattle.compare.specs.Code.{Code, rank_of, code_of, ranked, meant}
use Rattle.compare.specs.Same.{same_code, same_answer, same_at, same_pins, same_timer, same_settings, same_timers, same_entries, same_controller, same_board, same_turn}

-- ---- answers

ranked-back : (r : Refusal) → ranked (rank_of r) ≡ r
unfolding rank_of ranked
ranked-back refusal.Window = refl
ranked-back refusal.Offset = refl
ranked-back refusal.Width = refl
ranked-back refusal.Pin = refl
ranked-back refusal.Level = refl
ranked-back refusal.Value = refl
ranked-back refusal.State = refl
ranked-back refusal.Mark = refl
ranked-back refusal.Kind = refl
ranked-back refusal.Short = refl
ranked-back refusal.NoRoom = refl
ranked-back refusal.NotEdge = refl
ranked-back refusal.Length = refl
ranked-back refusal.Form = refl
ranked-back refusal.Range = refl

meant-back : (a : Answer) → meant (code_of a) ≡ a
unfolding code_of meant
meant-back answer.Done = refl
meant-back (answer.Value v) = refl
meant-back (answer.Fired a b c) = refl
meant-back (answer.Interrupt p v d l) = refl
meant-back answer.Nothing = refl
meant-back (answer.Refused r) = ap answer.Refused (ranked-back r)

-- a test of two numbers before others
module _ (x y : ℕ) (rest : Bool) (e : eqb x y && rest ≡ true) where
  first : x ≡ y
  first = eqb-true x y (and_left (eqb x y) rest e)

  later : rest ≡ true
  later = and_right (eqb x y) rest e

module _ (x y : Code) where
  abbrev c3 : Bool
  c3 = eqb x.c y.c && eqb x.d y.d

  abbrev c2 : Bool
  c2 = eqb x.b y.b && c3

  abbrev c1 : Bool
  c1 = eqb x.a y.a && c2

  same_code_lem : same_code x y ≡ true → x ≡ y
  same_code_lem e =
      let e1 = later x.kind y.kind c1 e in
      let e2 = later x.a y.a c2 e1 in
      let e3 = later x.b y.b c3 e2 in
      let d = eqb x.d y.d in
      λ i.
      record {
        kind = first x.kind y.kind c1 e i;
        a = first x.a y.a c2 e1 i;
        b = first x.b y.b c3 e2 i;
        c = first x.c y.c d e3 i;
        d = eqb-true x.d y.d (later x.c y.c d e3) i;
      }

same_answer_lem : (x y : Answer) → same_answer x y ≡ true → x ≡ y
unfolding same_answer
same_answer_lem x y e = sym (meant-back x) ∙ ap meant (same_code_lem (code_of x) (code_of y) e) ∙ meant-back y

itself : (n : ℕ) → eqb n n ≡ true
itself n = eq-eqb n n refl

answer-itself : (x : Answer) → same_answer x x ≡ true
unfolding same_answer
answer-itself x =
    let k = code_of x in
    and_both (itself k.kind) (and_both (itself k.a) (and_both (itself k.b) (and_both (itself k.c) (itself k.d))))

-- ---- lists of 24

same-pins : (x y : List ℕ) → length x ≡ 24 → length y ≡ 24 → same_pins x y ≡ true → x ≡ y
unfolding same_pins
same-pins x y lx ly e = ext_get_or 0 x y (lx ∙ sym ly) (λ i l. let k : i < 24 = rw lx at l in eqb-true (get_or x i 0) (get_or y i 0) (every-at (same_at x y) e i k))

pins-itself : (x : List ℕ) → same_pins x x ≡ true
unfolding same_pins
pins-itself x = every_of (same_at x x) (λ i l. itself (get_or x i 0))

-- ---- timers

module _ (x y : Timer) where
  abbrev t7 : Bool
  t7 = eqb x.narrow y.narrow && eqb x.status y.status

  abbrev t6 : Bool
  t6 = eqb x.set_comparator y.set_comparator && t7

  abbrev t5 : Bool
  t5 = eqb x.periodic y.periodic && t6

  abbrev t4 : Bool
  t4 = eqb x.interrupt y.interrupt && t5

  abbrev t3 : Bool
  t3 = eqb x.level_type y.level_type && t4

  abbrev t2 : Bool
  t2 = eqb x.route y.route && t3

  abbrev t1 : Bool
  t1 = eqb x.period y.period && t2

  pub same-timer : same_timer x y ≡ true → x ≡ y
  unfolding same_timer
  same-timer e =
      let e1 = later x.comparator y.comparator t1 e in
      let e2 = later x.period y.period t2 e1 in
      let e3 = later x.route y.route t3 e2 in
      let e4 = later x.level_type y.level_type t4 e3 in
      let e5 = later x.interrupt y.interrupt t5 e4 in
      let e6 = later x.periodic y.periodic t6 e5 in
      let e7 = later x.set_comparator y.set_comparator t7 e6 in
      let s = eqb x.status y.status in
      λ i.
      record {
        comparator = first x.comparator y.comparator t1 e i;
        period = first x.period y.period t2 e1 i;
        route = first x.route y.route t3 e2 i;
        level_type = first x.level_type y.level_type t4 e3 i;
        interrupt = first x.interrupt y.interrupt t5 e4 i;
        periodic = first x.periodic y.periodic t6 e5 i;
        set_comparator = first x.set_comparator y.set_comparator t7 e6 i;
        narrow = first x.narrow y.narrow s e7 i;
        status = eqb-true x.status y.status (later x.narrow y.narrow s e7) i;
      }

timer-itself : (x : Timer) → same_timer x x ≡ true
unfolding same_timer
timer-itself x =
    and_both (itself x.comparator) (and_both (itself x.period) (and_both (itself x.route) (and_both (itself x.level_type) (and_both (itself x.interrupt) (and_both (itself x.periodic) (and_both (itself x.set_comparator) (and_both (itself x.narrow) (itself x.status))))))))

module _ (x y : Timers) where
  abbrev masks-2 : Bool
  masks-2 = eqb (mask_at x 2) (mask_at y 2)

  abbrev masks-1 : Bool
  masks-1 = eqb (mask_at x 1) (mask_at y 1) && masks-2

  abbrev masks-0 : Bool
  masks-0 = eqb (mask_at x 0) (mask_at y 0) && masks-1

  abbrev made : Bool
  made = eqb x.vendor y.vendor && masks-0

  same-settings :
      length x.masks ≡ 3 → length y.masks ≡ 3 → same_settings x y ≡ true → (x.tick_period ≡ y.tick_period) × (x.vendor ≡ y.vendor) × (x.masks ≡ y.masks)
  unfolding same_settings
  same-settings lx ly e =
      let e1 = later x.tick_period y.tick_period made e in
      let e2 = later x.vendor y.vendor masks-0 e1 in
      let e3 = later (mask_at x 0) (mask_at y 0) masks-1 e2 in
      let m0 = first (mask_at x 0) (mask_at y 0) masks-1 e2 in
      let m1 = first (mask_at x 1) (mask_at y 1) masks-2 e3 in
      let m2 = eqb-true (mask_at x 2) (mask_at y 2) (later (mask_at x 1) (mask_at y 1) masks-2 e3) in (
        first x.tick_period y.tick_period made e,
        first x.vendor y.vendor masks-0 e1,
        of_three x.masks 0 lx ∙ (λ j. m0 j ∷ m1 j ∷ m2 j ∷ []) ∙ sym (of_three y.masks 0 ly),
      )

  abbrev later-timers : Bool
  later-timers = same_timer (at x 1) (at y 1) && same_timer (at x 2) (at y 2)

  abbrev each : Bool
  each = same_timer (at x 0) (at y 0) && later-timers

  abbrev on : Bool
  on = eqb x.enabled y.enabled && each

  same-timers : length x.masks ≡ 3 → length y.masks ≡ 3 → length x.timer ≡ 3 → length y.timer ≡ 3 → same_timers x y ≡ true → x ≡ y
  unfolding same_timers
  same-timers kx ky lx ly e =
      let e0 = later x.counter y.counter (same_settings x y && on) e in
      let k = same-settings kx ky (and_left (same_settings x y) on e0) in
      let e1 = and_right (same_settings x y) on e0 in
      let e2 = later x.enabled y.enabled each e1 in
      let e3 = and_right (same_timer (at x 0) (at y 0)) later-timers e2 in
      let t0 = same-timer (at x 0) (at y 0) (and_left (same_timer (at x 0) (at y 0)) later-timers e2) in
      let t1 = same-timer (at x 1) (at y 1) (and_left (same_timer (at x 1) (at y 1)) (same_timer (at x 2) (at y 2)) e3) in
      let t2 = same-timer (at x 2) (at y 2) (and_right (same_timer (at x 1) (at y 1)) (same_timer (at x 2) (at y 2)) e3) in
      λ i.
      record {
        counter = first x.counter y.counter (same_settings x y && on) e i;
        tick_period = k.0 i;
        vendor = k.1 i;
        masks = k.2 i;
        enabled = first x.enabled y.enabled each e1 i;
        timer = (of_three x.timer blank lx ∙ (λ j. t0 j ∷ t1 j ∷ t2 j ∷ []) ∙ sym (of_three y.timer blank ly)) i;
      }

settings-itself : (x : Timers) → same_settings x x ≡ true
unfolding same_settings
settings-itself x =
    and_both (itself x.tick_period) (and_both (itself x.vendor) (and_both (itself (mask_at x 0)) (and_both (itself (mask_at x 1)) (itself (mask_at x 2)))))

timers-itself : (x : Timers) → same_timers x x ≡ true
unfolding same_timers
timers-itself x =
    and_both (itself x.counter)
    (and_both (settings-itself x)
    (and_both (itself x.enabled) (and_both (timer-itself (at x 0)) (and_both (timer-itself (at x 1)) (timer-itself (at x 2))))))

-- ---- entries, controller, board

module _ (x y : Entries) where
  abbrev edges : Bool
  edges = same_pins x.level y.level && same_pins x.held y.held

  abbrev but-low : Bool
  but-low = same_pins x.destination y.destination && edges

  same_entries_lem : Sized x → Sized y → same_entries x y ≡ true → x ≡ y
  unfolding same_entries
  same_entries_lem zx zy e =
      let e1 = and_right (same_pins x.low y.low) but-low e in
      let e2 = and_right (same_pins x.destination y.destination) edges e1 in
      λ i.
      record {
        low = same-pins x.low y.low zx.low zy.low (and_left (same_pins x.low y.low) but-low e) i;
        destination = same-pins x.destination y.destination zx.destination zy.destination (and_left (same_pins x.destination y.destination) edges e1) i;
        level = same-pins x.level y.level zx.level zy.level (and_left (same_pins x.level y.level) (same_pins x.held y.held) e2) i;
        held = same-pins x.held y.held zx.held zy.held (and_right (same_pins x.level y.level) (same_pins x.held y.held) e2) i;
      }

entries-itself : (x : Entries) → same_entries x x ≡ true
unfolding same_entries
entries-itself x = and_both (pins-itself x.low) (and_both (pins-itself x.destination) (and_both (pins-itself x.level) (pins-itself x.held)))

module _ (x y : Controller) where
  abbrev table : Bool
  table = same_entries x.entries y.entries

  abbrev indexed : Bool
  indexed = eqb x.index y.index && table

  same-controller : Sized x.entries → Sized y.entries → same_controller x y ≡ true → x ≡ y
  unfolding same_controller
  same-controller zx zy e =
      let e1 = later x.id y.id indexed e in
      λ i.
      record {
        id = first x.id y.id indexed e i;
        index = first x.index y.index table e1 i;
        entries = same_entries_lem x.entries y.entries zx zy (later x.index y.index table e1) i;
      }

controller-itself : (x : Controller) → same_controller x x ≡ true
unfolding same_controller
controller-itself x = and_both (itself x.id) (and_both (itself x.index) (entries-itself x.entries))

-- a board's lists are as long as the code's arrays, as those of every value that the code can have
pub record Long (b : Board) : Type 0 where
  pub entries : Sized b.controller.entries
  pub masks : length b.timers.masks ≡ 3
  pub timers : length b.timers.timer ≡ 3
  pub outside : length b.outside ≡ 24

module _ (x y : Board) where
  abbrev rest : Bool
  rest = same_controller x.controller y.controller && same_pins x.outside y.outside

  same-board : Long x → Long y → same_board x y ≡ true → x ≡ y
  unfolding same_board
  same-board zx zy e =
      let e1 = and_right (same_timers x.timers y.timers) rest e in
      λ i.
      record {
        timers = same-timers x.timers y.timers zx.masks zy.masks zx.timers zy.timers (and_left (same_timers x.timers y.timers) rest e) i;
        controller = same-controller x.controller y.controller zx.entries zy.entries (and_left (same_controller x.controller y.controller) (same_pins x.outside y.outside) e1) i;
        outside = same-pins x.outside y.outside zx.outside zy.outside (and_right (same_controller x.controller y.controller) (same_pins x.outside y.outside) e1) i;
      }

board-itself : (x : Board) → same_board x x ≡ true
unfolding same_board
board-itself x = and_both (timers-itself x.timers) (and_both (controller-itself x.controller) (pins-itself x.outside))

-- ---- turns

-- two turns that are the same are equal: the answers, and every field of the boards
pub same-equal : (x y : Turn) → Long x.board → Long y.board → same_turn x y ≡ true → x ≡ y
unfolding same_turn
same-equal x y zx zy e =
    λ i.
    record {
      board = same-board x.board y.board zx zy (and_right (same_answer x.answer y.answer) (same_board x.board y.board) e) i;
      answer = same_answer_lem x.answer y.answer (and_left (same_answer x.answer y.answer) (same_board x.board y.board) e) i;
    }

turn-itself : (x : Turn) → same_turn x x ≡ true
unfolding same_turn
turn-itself x = and_both (answer-itself x.answer) (board-itself x.board)

-- and equal ones are the same
pub equal-same : (x y : Turn) → x ≡ y → same_turn x y ≡ true
equal-same x y e = ap (λ (z : Turn). same_turn z y) e ∙ turn-itself y
