-- Ticks, one after the other, as the loop makes them.
use Rattle.std.proofs.Common.{◌≡◌, ℕ, zero, suc, ◌+◌, ◌≤◌, Bool, true, false, cond, sym, refl, ap, ◌∙◌, ap₂, add-one, arith}
use Rattle.timer.specs.State.{flag}
use Rattle.timers.specs.State.{is_enabled}
use Rattle.timers.specs.Tick.{counted_of, matches_of}
use Rattle.timers.proofs.Each.{turned-enabled}
use Rattle.board.specs.declared.Board.{Board}
use Rattle.board.specs.State.{board}
use Rattle.board.specs.Tick.{fire, turned, up_to, tick, fires_in, ticks, firings}
use Rattle.board.proofs.Turns.{turned-timers}

-- ---- no tick yet

pub ticks-none : (b : Board) → ticks 0 b ≡ b
unfolding ticks
ticks-none b = refl

pub firings-none : (m : ℕ) (b : Board) → firings m 0 b ≡ 0
unfolding firings
firings-none m b = refl

-- ---- "Disabled: nothing happens"

tick-off : (b : Board) → is_enabled b.timers ≡ false → tick b ≡ b
unfolding tick
tick-off b off = rw off refl

pub ticks-off : (n : ℕ) (b : Board) → is_enabled b.timers ≡ false → ticks n b ≡ b
unfolding ticks
ticks-off zero b off = refl
ticks-off (suc n) b off = ap tick (ticks-off n b off) ∙ tick-off b off

fires-off : (m : ℕ) (b : Board) → is_enabled b.timers ≡ false → fires_in m b ≡ false
unfolding fires_in
fires-off m b off = rw off refl

pub firings-off : (m n : ℕ) (b : Board) → is_enabled b.timers ≡ false → firings m n b ≡ 0
unfolding firings
firings-off m zero b off = refl
firings-off m (suc n) b off =
    ap₂ (λ (x : ℕ) (f : Bool). x + cond f 1 0) (firings-off m n b off) (ap (fires_in m) (ticks-off n b off) ∙ fires-off m b off)

-- ---- counts

one : (b : Bool) → cond b 1 0 ≤ 1
one true = omega arith
one false = omega arith

pub firings-le : (m n : ℕ) (b : Board) → firings m n b ≤ n
unfolding firings
firings-le m zero b = omega arith
firings-le m (suc n) b = omega (arith, firings-le m n b, one (fires_in m (ticks n b)))

-- ---- one timer's turn

-- timer m's turn, from b to b', and its count from f to f'
pub record Turns (m : ℕ) (b : Board) (f : ℕ) (b' : Board) (f' : ℕ) : Type 0 where
  pub board : b' ≡ turned m b
  pub count : f' ≡ f + cond (matches_of b.timers m) 1 0

module _ (m : ℕ) (b : Board) (f : ℕ) (b' : Board) (f' : ℕ) (due : Bool) (is : due ≡ matches_of b.timers m) where
  pub fires : due ≡ true → b' ≡ fire m b → f' ≡ f + 1 → Turns m b f b' f'
  unfolding turned
  fires e p q = record { board = p ∙ rw (sym is ∙ e) refl; count = q ∙ rw (sym is ∙ e) refl }

  pub rests : due ≡ false → b' ≡ b → f' ≡ f → Turns m b f b' f'
  unfolding turned
  rests e p q = record { board = p ∙ rw (sym is ∙ e) refl; count = q ∙ rw (sym is ∙ e) (omega arith) }

-- ---- one tick of an enabled block

abbrev pub counted : Board → Board
counted b = board b.controller (counted_of b.timers) b.outside

turned_on : (m : ℕ) (b : Board) → is_enabled (turned m b).timers ≡ is_enabled b.timers
turned_on m b = ap is_enabled (turned-timers m b) ∙ ap flag (turned-enabled b.timers m)

counted-on : (b : Board) → is_enabled (counted b).timers ≡ is_enabled b.timers
unfolding counted_of
counted-on b = refl

tick-on : (b : Board) → is_enabled b.timers ≡ true → tick b ≡ up_to 3 b
unfolding tick
tick-on b on = rw on refl

turns-on : (b : Board) → is_enabled (up_to 3 b).timers ≡ is_enabled b.timers
unfolding up_to
turns-on b = turned_on 2 (up_to 2 b) ∙ turned_on 1 (up_to 1 b) ∙ turned_on 0 (up_to 0 b) ∙ counted-on b

pub ticks-on : (n : ℕ) (b : Board) → is_enabled b.timers ≡ true → is_enabled (ticks n b).timers ≡ true
unfolding ticks
ticks-on zero b on = on
ticks-on (suc n) b on =
    let still = ticks-on n b on in
    ap (λ (y : Board). is_enabled y.timers) (tick-on (ticks n b) still) ∙ turns-on (ticks n b) ∙ still

fires-on : (m : ℕ) (b : Board) → is_enabled b.timers ≡ true → fires_in m b ≡ matches_of (up_to m b).timers m
unfolding fires_in
fires-on m b on = rw on refl

-- the board x, which n ticks made of b, counted, and then timers 0, 1, 2 in turn: one tick more, each firing counted
module _ (b : Board) (n : ℕ) (on : is_enabled b.timers ≡ true) (b0 b1 b2 b3 : Board) (f0 f1 f2 g0 g1 g2 : ℕ)
    (c : b0 ≡ counted (ticks n b)) (t0 : Turns 0 b0 f0 b1 g0) (t1 : Turns 1 b1 f1 b2 g1) (t2 : Turns 2 b2 f2 b3 g2) where
  abbrev x : Board
  x = ticks n b

  at0 : b0 ≡ up_to 0 x
  unfolding up_to
  at0 = c

  at1 : b1 ≡ up_to 1 x
  unfolding up_to
  at1 = t0.board ∙ ap (turned 0) at0

  at2 : b2 ≡ up_to 2 x
  unfolding up_to
  at2 = t1.board ∙ ap (turned 1) at1

  at3 : b3 ≡ up_to 3 x
  unfolding up_to
  at3 = t2.board ∙ ap (turned 2) at2

  pub ticked : b3 ≡ ticks (n + 1) b
  unfolding ticks
  ticked = at3 ∙ sym (tick-on x (ticks-on n b on)) ∙ ap (λ (k : ℕ). ticks k b) (sym (add-one n))

  more : (m f g : ℕ) (y : Board) → f ≡ firings m n b → y ≡ up_to m x → g ≡ f + cond (matches_of y.timers m) 1 0 → g ≡ firings m (n + 1) b
  unfolding firings
  more m f g y e p q =
      q
      ∙ ap₂ (λ (k : ℕ) (d : Bool). k + cond d 1 0) e (ap (λ (z : Board). matches_of z.timers m) p ∙ sym (fires-on m x (ticks-on n b on)))
      ∙ ap (λ (k : ℕ). firings m k b) (sym (add-one n))

  pub fired0 : f0 ≡ firings 0 n b → g0 ≡ firings 0 (n + 1) b
  fired0 e = more 0 f0 g0 b0 e at0 t0.count

  pub fired1 : f1 ≡ firings 1 n b → g1 ≡ firings 1 (n + 1) b
  fired1 e = more 1 f1 g1 b1 e at1 t1.count

  pub fired2 : f2 ≡ firings 2 n b → g2 ≡ firings 2 (n + 1) b
  fired2 e = more 2 f2 g2 b2 e at2 t2.count
