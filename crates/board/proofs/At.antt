-- On a well-formed board, the calls as the code makes them are the calls.
use Prim.Native.Nat.{ℕ, zero, suc, ◌<◌, ◌≤◌}
use mathlib.Core.Path.{◌≡◌, refl, sym, ap, ◌∙◌}
use mathlib.Core.Bool.{Bool, true, false, cond}
use mathlib.Core.List.{List}
use native.Mathlib.Omega.{arith}
use native.Mathlib.Decide.{ℕ_discrete}
use lib.Dec.{eqb, leb, ltb, lit≤}
use lib.ListN.{get_or, length, set}
use borrow.Author.Tests.{eq-eqb, ne_eqb, ltb-true}
use Rattle.pins.proofs.Bools.{clash}
use Rattle.answers.specs.declared.Answer.TheVariants as answer
use Rattle.answers.specs.declared.Refusal.TheVariants as refusal
use Rattle.std.specs.Prelude.{Option, None}
use Rattle.entries.specs.declared.Entries.{Entries}
use Rattle.entries.specs.declared.strike.Strike.{Strike}
use Rattle.entries.specs.Strike.{struck_by}
use Rattle.entries.proofs.Strikes.{struck-three, strike-none}
use Rattle.controller.specs.declared.Controller.{Controller}
use Rattle.controller.specs.State.{with_entries}
use Rattle.controller.specs.Inner.{rewired_at, struck_of}
use Rattle.timers.specs.declared.Timers.{Timers}
use Rattle.timers.specs.declared.Ran.{Ran}
use Rattle.timers.specs.State.{three, is_enabled}
use Rattle.timers.specs.Tick.{matches_of, pulses_of, route_of, ticks as timers_ticks, fires_in as timers_fires_in}
use Rattle.timers.specs.Inner.{raises_of, ran_of, first}
use Rattle.timer.specs.State.{flag}
use Rattle.timers.proofs.Each.{turns-enabled}
use Rattle.timers.proofs.Three.{at-three}
use Rattle.timers.proofs.Turns.{ticks-pulses, ticks-raises, ticks-route, turns-pulses, turns-raises, turns-route, ran-timers, ran-fired, ran-firsts, fires-on, fires-off}
use Rattle.timers.proofs.First.{first-le, first-here, fired-before}
use Rattle.board.specs.declared.Board.{Board}
use Rattle.board.specs.State.{board, turn, refused}
use Rattle.board.specs.Wires.{joined}
use Rattle.board.specs.Tick.{turned, up_to, tick, ticks, firings}
use Rattle.board.specs.Step.{wiring_of, advancing_of}
use Rattle.board.specs.At.{level_of, wiring_at, strike_at, strike_of, strikes_of, advancing_at}
use Rattle.board.proofs.Formed.{Formed}
use Rattle.board.proofs.Wire.{joined-one}
use Rattle.board.proofs.Turns.{Still, turned-quiet, turns-formed, turns-timers, turns-match, turns-keep}
use Rattle.board.proofs.Ticks.{ticks-formed, ticks-timers, ticks-outside, ticks-firings, still_after}
use Rattle.board.proofs.Order.{walk, in_order}
use Rattle.board.proofs.Strikes.{fire-strikes, strike-same}

-- ---- an outside wire

pub wiring-at : (b : Board) → Formed b → length b.outside ≡ 24 → (pin level : ℕ) → wiring_at b pin level ≡ wiring_of b pin level
unfolding wiring_at wiring_of
wiring-at b z k pin level = go (ltb pin 24) refl
  where
    go :
        (x : Bool) → ltb pin 24 ≡ x →
        cond x (cond (leb level 1) (turn (board (rewired_at b.controller pin (level_of level b.timers pin)) b.timers (set b.outside pin level)) answer.Done) (refused b refusal.Level)) (refused b refusal.Pin)
        ≡ cond x (cond (leb level 1) (turn (joined b.controller b.timers (set b.outside pin level)) answer.Done) (refused b refusal.Level)) (refused b refusal.Pin)
    go true e = ap (λ (x : Board). cond (leb level 1) (turn x answer.Done) (refused b refusal.Level)) (joined-one b z pin level k (ltb-true pin 24 e))
    go false e = refl

-- ---- the n-fold tick

-- the strikes of those timers below m that fire first at tick t, 0 first, where f has the ticks of the first firings
unfoldable strikes : Timers → List ℕ → ℕ → ℕ → Entries → Entries
strikes s f t zero e = e
strikes s f t (suc m) e = cond (eqb (get_or f m 0) t) (struck_by (strikes s f t m e) (strike_at s m)) (strikes s f t m e)

strikes-none : (s : Timers) (f : List ℕ) (t : ℕ) → ((m : ℕ) → m < 3 → get_or f m 0 ≡ t → ⊥) → (m : ℕ) → m ≤ 3 → (e : Entries) → strikes s f t m e ≡ e
unfolding strikes
strikes-none s f t q zero l e = refl
strikes-none s f t q (suc m) l e = rw (ne_eqb (get_or f m 0) t (q m l)) (strikes-none s f t q m (omega arith) e)

module _ (b : Board) (z : Formed b) (n : ℕ) (f : List ℕ) (is : f ≡ three (λ m. first m n b.timers)) where
  f-at : (m : ℕ) → m < 3 → get_or f m 0 ≡ first m n b.timers
  f-at m l = ap (λ (x : List ℕ). get_or x m 0) is ∙ at-three (λ m. first m n b.timers) 0 m l

  module _ (t : ℕ) (h : t < n) where
    abbrev y : Board
    y = ticks t b

    formed-y : Formed y
    formed-y = ticks-formed b z t

    timers-y : y.timers ≡ timers_ticks t b.timers
    timers-y = ticks-timers b z t

    -- a timer whose first firing is at the tick fires in it; one that fires otherwise is still
    fires : (m : ℕ) → m < 3 → get_or f m 0 ≡ suc t → timers_fires_in y.timers m ≡ true
    fires m l q = ap (λ (x : Timers). timers_fires_in x m) timers-y ∙ first-here m t n b.timers h (sym (f-at m l) ∙ q)

    stills : (m : ℕ) → m < 3 → timers_fires_in y.timers m ≡ true → (get_or f m 0 ≡ suc t → ⊥) → Still m y
    stills m l g q =
        still_after b z m l t (fired-before m t n b.timers h (ap (λ (x : Timers). timers_fires_in x m) (sym timers-y) ∙ g) (λ r. q (f-at m l ∙ r)))

    module _ (on : is_enabled y.timers ≡ true) where
      -- the pins after the turns below m
      abbrev After : ℕ → Type 0
      After m = (up_to m y).controller ≡ with_entries y.controller (strikes b.timers f (suc t) m y.controller.entries)

      next-turn : (m : ℕ) → m < 3 → After m → After (suc m)
      unfolding up_to strikes turned
      next-turn m l before = go (ℕ_discrete (get_or f m 0) (suc t))
        where
          x : Board
          x = up_to m y

          zx : Formed x
          zx = turns-formed y formed-y m (omega arith)

          matches : matches_of x.timers m ≡ timers_fires_in y.timers m
          matches = turns-match y formed-y m l ∙ sym (fires-on y.timers m l on)

          on-x : is_enabled x.timers ≡ true
          on-x = ap is_enabled (turns-timers y formed-y m) ∙ ap flag (turns-enabled y.timers m) ∙ on

          same-x : strike_at x.timers m ≡ strike_at b.timers m
          same-x =
              strike-same b.timers x.timers m
              (ap (λ (u : Timers). pulses_of u m) (turns-timers y formed-y m) ∙ turns-pulses y.timers m m l ∙ ap (λ (u : Timers). pulses_of u m) timers-y ∙ ticks-pulses m t b.timers l)
              (ap (λ (u : Timers). raises_of u m) (turns-timers y formed-y m) ∙ turns-raises y.timers m m l ∙ ap (λ (u : Timers). raises_of u m) timers-y ∙ ticks-raises m t b.timers l)
              (ap (λ (u : Timers). route_of u m) (turns-timers y formed-y m) ∙ turns-route y.timers m m l ∙ ap (λ (u : Timers). route_of u m) timers-y ∙ ticks-route m t b.timers l)

          go : Dec (get_or f m 0 ≡ suc t) → (turned m x).controller ≡ with_entries y.controller (strikes b.timers f (suc t) (suc m) y.controller.entries)
          go (yes q) =
              rw (eq-eqb (get_or f m 0) (suc t) q, matches ∙ fires m l q)
              (fire-strikes x zx m l on-x
              ∙ ap (λ (k : Option Strike). with_entries x.controller (struck_by x.controller.entries k)) same-x
              ∙ ap (λ (u : Controller). with_entries u (struck_by u.entries (strike_at b.timers m))) before)
          go (no d) =
              rw (ne_eqb (get_or f m 0) (suc t) d)
              (turned-quiet x zx m l (λ g. turns-keep y formed-y m l m (omega arith) (stills m l (sym matches ∙ g) d)) ∙ before)

      turns : (m : ℕ) → m ≤ 3 → After m
      unfolding up_to strikes
      turns zero l = refl
      turns (suc m) l = next-turn m l (turns m (omega arith))

    ticked : (tick y).controller ≡ with_entries y.controller (strikes b.timers f (suc t) 3 y.controller.entries)
    unfolding tick
    ticked = go (is_enabled y.timers) refl
      where
        go : (v : Bool) → is_enabled y.timers ≡ v → (cond v (up_to 3 y) y).controller ≡ with_entries y.controller (strikes b.timers f (suc t) 3 y.controller.entries)
        go true on = turns on 3 (lit≤ tt)
        go false off =
            ap (with_entries y.controller)
            (sym (strikes-none b.timers f (suc t) (λ m l q. clash (sym (fires m l q) ∙ fires-off y.timers m off)) 3 (lit≤ tt) y.controller.entries))

  -- as the ticks come
  walked : (t : ℕ) → t ≤ n → with_entries b.controller (walk (λ t. strikes b.timers f t 3) t b.controller.entries) ≡ (ticks t b).controller
  unfolding walk ticks
  walked zero l = refl
  walked (suc t) l =
      sym
      (ticked t l
      ∙ ap (λ (u : Controller). with_entries u (strikes b.timers f (suc t) 3 u.entries)) (sym (walked t (omega arith))))

  -- and in their order at once
  struck-ticks : struck_of b.controller (strikes_of b.timers f) ≡ (ticks n b).controller
  unfolding strikes_of strike_of strikes
  struck-ticks =
      ap (with_entries b.controller)
      (struck-three b.controller.entries (strikes_of b.timers f)
      ∙ sym
      (in_order (λ k x. struck_by x k) None strike-none f (strike_at b.timers 0) (strike_at b.timers 1) (strike_at b.timers 2) n (f-le 0 (omega arith)) (f-le 1 (omega arith)) (f-le 2 (omega arith))
      b.controller.entries))
      ∙ walked n (omega arith)
    where
      f-le : (m : ℕ) → m < 3 → get_or f m 0 ≤ n
      f-le m l = rw (f-at m l) (first-le m n b.timers)

-- ---- the whole answer

answered :
    (b : Board) (z : Formed b) (n : ℕ) (c : Controller) (x : Ran) → c ≡ (ticks n b).controller → x ≡ ran_of b.timers n →
    turn (board c x.timers b.outside) (answer.Fired (get_or x.fired 0 0) (get_or x.fired 1 0) (get_or x.fired 2 0)) ≡ advancing_of b n
unfolding advancing_of
answered b z n c x ec ex = λ i. turn (whole i) (answer.Fired (count 0 (omega arith) i) (count 1 (omega arith) i) (count 2 (omega arith) i))
  where
    state : x.timers ≡ timers_ticks n b.timers
    state = ap (λ (y : Ran). y.timers) ex ∙ ran-timers b.timers n

    whole : board c x.timers b.outside ≡ ticks n b
    whole = λ i. board (ec i) ((state ∙ sym (ticks-timers b z n)) i) (sym (ticks-outside b z n) i)

    count : (m : ℕ) → m < 3 → get_or x.fired m 0 ≡ firings m n b
    count m l = ap (λ (y : Ran). get_or y.fired m 0) ex ∙ ran-fired b.timers n m l ∙ sym (ticks-firings b z m n)

pub advancing-at : (b : Board) → Formed b → (n : ℕ) → advancing_at b n ≡ advancing_of b n
unfolding advancing_at
advancing-at b z n =
    answered b z n _ (ran_of b.timers n) (struck-ticks b z n (ran_of b.timers n).first (ran-firsts b.timers n)) refl
