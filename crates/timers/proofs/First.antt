-- Laws of the first firing, for whoever goes from one to the next.
use Rattle.std.proofs.Common.{◌≡◌, ℕ, zero, suc, ◌+◌, ◌-◌, ◌<◌, ◌≤◌, Bool, true, false, cond, eqb, ◌⊎◌, sym, refl, ap, ◌∙◌, ap₂, inl, inr, zero-le, add-zero, add-suc, add-one, arith, ne_eqb}
use native.Mathlib.Decide.{ℕ_discrete}
use lib.Dec.{eqb-suc-zero}
use Rattle.timers.specs.declared.Timers.{Timers}
use Rattle.timers.specs.Tick.{ticks, fires_in}
use Rattle.timers.specs.Inner.{first}
use Rattle.timers.proofs.Portions.{ticks-add}

-- the first firing over two portions: of the first one, or else of the second one, that many ticks later
abbrev pub either_first : ℕ → ℕ → ℕ → ℕ
either_first a f g = cond (eqb f 0) (cond (eqb g 0) 0 (a + g)) f

next-first : (a b f g : ℕ) (x : Bool) →
    cond (eqb (either_first a f g) 0) (cond x (suc (a + b)) 0) (either_first a f g)
    ≡ either_first a f (cond (eqb g 0) (cond x (suc b) 0) g)
next-first a b zero zero true = rw eqb-suc-zero (sym (add-suc a b))
next-first a b zero zero false = refl
next-first a b zero (suc g) x = rw eqb-suc-zero (rw (ne_eqb (a + suc g) 0 (omega arith)) (rw eqb-suc-zero))
next-first a b (suc f) g x = rw eqb-suc-zero (rw eqb-suc-zero)

pub first-add : (i a b : ℕ) (s : Timers) → first i (a + b) s ≡ either_first a (first i a s) (first i b (ticks a s))
unfolding first
first-add i a zero s = ap (λ (n : ℕ). first i n s) (add-zero a) ∙ none (first i a s)
  where
    none : (f : ℕ) → f ≡ either_first a f 0
    none zero = refl
    none (suc f) = rw eqb-suc-zero
first-add i a (suc b) s =
    ap (λ (n : ℕ). first i n s) (add-suc a b)
    ∙ ap₂ (λ (x : ℕ) (z : Timers). cond (eqb x 0) (cond (fires_in z i) (suc (a + b)) 0) x) (first-add i a b s) (ticks-add a b s)
    ∙ next-first a b (first i a s) (first i b (ticks a s)) (fires_in (ticks b (ticks a s)) i)

pick-le : (f n : ℕ) (b : Bool) → f ≤ n → cond (eqb f 0) (cond b (suc n) 0) f ≤ suc n
pick-le zero n true h = omega arith
pick-le zero n false h = zero-le
pick-le (suc f) n b h = rw eqb-suc-zero (omega arith)

pub first-le : (i n : ℕ) (s : Timers) → first i n s ≤ n
unfolding first
first-le i zero s = zero-le
first-le i (suc n) s = pick-le (first i n s) n (fires_in (ticks n s) i) (first-le i n s)

either_left : (a f g : ℕ) → (f ≡ 0 → ⊥) → either_first a f g ≡ f
either_left a f g n = rw (ne_eqb f 0 n)

either-right : (a f g : ℕ) → f ≡ 0 → either_first a f g ≡ 0 ⊎ a < either_first a f g
either-right a f zero e = rw e (inl refl)
either-right a f (suc g) e = rw (e, eqb-suc-zero) (inr (omega arith))

-- it stays in longer runs
pub first-kept : (i a b : ℕ) (s : Timers) → (first i a s ≡ 0 → ⊥) → first i (a + b) s ≡ first i a s
first-kept i a b s n = first-add i a b s ∙ either_left a (first i a s) (first i b (ticks a s)) n

-- where there is none in a ticks, it comes later
pub first-later : (i a b : ℕ) (s : Timers) → first i a s ≡ 0 → first i (a + b) s ≡ 0 ⊎ a < first i (a + b) s
first-later i a b s e = rw (first-add i a b s) (either-right a (first i a s) (first i b (ticks a s)) e)

-- the next tick: a firing makes it, and nothing else
pub fires-first : (i n : ℕ) (s : Timers) → fires_in (ticks n s) i ≡ true → first i (suc n) s ≡ 0 → ⊥
unfolding first
fires-first i n s e = rw e (go (first i n s))
  where
    go : (f : ℕ) → cond (eqb f 0) (suc n) f ≡ 0 → ⊥
    go zero = λ q. omega arith
    go (suc f) = rw eqb-suc-zero (λ q. omega arith)

pub first-fires : (i n : ℕ) (s : Timers) → (first i (suc n) s ≡ 0 → ⊥) → (first i n s ≡ 0 → ⊥) ⊎ (fires_in (ticks n s) i ≡ true)
unfolding first
first-fires i n s ne = go (first i n s) (fires_in (ticks n s) i) ne
  where
    go : (f : ℕ) (b : Bool) → (cond (eqb f 0) (cond b (suc n) 0) f ≡ 0 → ⊥) → (f ≡ 0 → ⊥) ⊎ (b ≡ true)
    go zero true ne = inr refl
    go zero false ne = absurd (ne refl)
    go (suc f) b ne = inl (λ q. omega arith)

-- ---- the tick of the first firing, of n ticks

module _ (i t n : ℕ) (s : Timers) (l : t < n) where
  to-n : suc t + (n - suc t) ≡ n
  to-n = omega arith

  kept : (first i (suc t) s ≡ 0 → ⊥) → first i n s ≡ first i (suc t) s
  kept ne = ap (λ (k : ℕ). first i k s) (sym to-n) ∙ first-kept i (suc t) (n - suc t) s ne

  -- the timer fires there
  pub first-here : first i n s ≡ suc t → fires_in (ticks t s) i ≡ true
  first-here e = go (ℕ_discrete (first i (suc t) s) 0)
    where
      past : (first i t s ≡ 0 → ⊥) → first i (suc t) s ≡ first i t s
      past ne = ap (λ (k : ℕ). first i k s) (sym (add-one t)) ∙ first-kept i t 1 s ne

      ends : (first i (suc t) s ≡ 0 → ⊥) → (first i t s ≡ 0 → ⊥) ⊎ (fires_in (ticks t s) i ≡ true) → fires_in (ticks t s) i ≡ true
      ends ne (inl b) = absurd (omega (arith, kept ne, past b, first-le i t s))
      ends ne (inr f) = f

      never : first i n s ≡ 0 ⊎ suc t < first i n s → ⊥
      never (inl q) = omega arith
      never (inr q) = omega arith

      go : Dec (first i (suc t) s ≡ 0) → fires_in (ticks t s) i ≡ true
      go (yes z) = absurd (never (rw to-n at (first-later i (suc t) (n - suc t) s z)))
      go (no ne) = ends ne (first-fires i t s ne)

  -- a timer that fires elsewhere has fired before
  pub fired-before : fires_in (ticks t s) i ≡ true → (first i n s ≡ suc t → ⊥) → first i t s ≡ 0 → ⊥
  unfolding first
  fired-before f ne z = ne (kept (fires-first i t s f) ∙ rw (z, f))
