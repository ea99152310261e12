-- "A pin level kept on the board is the one the wire rule gives", by the wires worked out for every pin.
use Rattle.std.proofs.Common.{◌≡◌, ℕ, ◌<◌, ◌≤◌, Bool, true, false, eqb, List, length, get_or, set, arith, refl, sym, ap, ◌∙◌, eqb-true, eq-eqb}
use lib.Pointwise.{pointwise, bytes_decides}
use lib.Seq.{ext_get_or, set_out}
use Rattle.pins.specs.Pins.{every}
use Rattle.pins.proofs.Every.{every-at, every_of, every-cong}
use Rattle.entries.specs.Table.{level_at}
use Rattle.board.specs.declared.Board.{Board}
use Rattle.board.specs.Wires.{wires_of}
use Rattle.board.specs.Formed.{kept_at}
use Rattle.board.proofs.Rule.{wires-at}

pub kept-by-wires : (b : Board) → every (λ i. eqb (level_at b.controller.entries i) (get_or (wires_of b.outside b.timers) i 0)) ≡ every (kept_at b)
kept-by-wires b = every-cong _ (kept_at b) (λ i l. ap (eqb (level_at b.controller.entries i)) (wires-at b.outside b.timers i l))

-- ---- the `==` of two arrays of a number for each pin is that of each pin's two numbers

abbrev at-pin : List ℕ → List ℕ → ℕ → Bool
at-pin x y i = eqb (get_or x i 0) (get_or y i 0)

-- two tests of which each says what the other says
pub both : (a b : Bool) → (a ≡ true → b ≡ true) → (b ≡ true → a ≡ true) → a ≡ b
both true b p q = sym (p refl)
both a true p q = q refl
both false false p q = refl

pub same_lists : (x y : List ℕ) → length x ≡ 24 → length y ≡ 24 → pointwise eqb x y ≡ every (at-pin x y)
same_lists x y lx ly =
    both (pointwise eqb x y) (every (at-pin x y))
    (λ e. every_of (at-pin x y) (λ i l. eq-eqb _ _ (ap (λ (k : List ℕ). get_or k i 0) ((bytes_decides x y).0 e))))
    (λ e.
    (bytes_decides x y).1 (ext_get_or 0 x y (lx ∙ sym ly) (λ i l. let k : i < 24 = rw lx at l in eqb-true (get_or x i 0) (get_or y i 0) (every-at (at-pin x y) e i k))))

-- a wire past the last is none
pub past_last : (x : List ℕ) (p v : ℕ) → length x ≡ 24 → 24 ≤ p → set x p v ≡ x
past_last x p v l h = set_out x p v (omega arith)
