-- One timer's closed form is its ticks, at both widths.
use Rattle.std.proofs.Common.{◌≡◌, ℕ, zero, suc, ◌+◌, ◌*◌, ◌%◌, ◌^◌, ◌<◌, ◌≤◌, Bool, true, false, cond, eqb, sym, refl, ap, ◌∙◌, ap₂, add-zero, mod-lt, mod-eq_of_lt, suc-mul, zero-mul, add-one, arith, pow_pos, le-ltb, lt-ltb, eq-eqb, ne_eqb}
use native.Mathlib.Nat.{add-mod-mod, mod-mod, mod-add-mod}
use native.Mathlib.Decide.{dec_le, dec_lt, ℕ_discrete}
use lib.Pow.{mod-mod-pow}
use Rattle.timer.specs.declared.Timer.{Timer}
use Rattle.timer.specs.State.{flag, width, reduced, narrowed, with_status, with_comparator}
use Rattle.timer.specs.Tick.{meets, firing}
use Rattle.timer.specs.Alone.{after, stepped, alone, count, begun}
use Rattle.timer.specs.Closed.{times, begins, stride, closed, Ahead}
use Rattle.timer.proofs.Width.{times-never, times-early, grows, hit}

-- ---- numbers at a timer's width

-- the counter's own width does not show at a timer's
pub wrap : (b : Bool) (x : ℕ) → x % 2 ^ 64 % 2 ^ width b ≡ x % 2 ^ width b
wrap true x = mod-mod-pow x 32 32
wrap false x = mod-mod x (2 ^ 64)

-- a number of the machine, reduced, is its remainder
pub reduced-mod : (b : Bool) (x : ℕ) → x < 2 ^ 64 → reduced b x ≡ x % 2 ^ width b
reduced-mod true x h = refl
reduced-mod false x h = sym (mod-eq_of_lt h)

reduced-counter : (b : Bool) (x : ℕ) → reduced b (x % 2 ^ 64) ≡ x % 2 ^ width b
reduced-counter true x = mod-mod-pow x 32 32
reduced-counter false x = refl

reduced-own : (b : Bool) (x : ℕ) → reduced b (x % 2 ^ width b) ≡ x % 2 ^ width b
reduced-own true x = mod-mod x (2 ^ 32)
reduced-own false x = refl

-- a number's steps, and its remainder's
pub steps-mod : (m k p f : ℕ) → (k + f * (p % m)) % m ≡ (k + f * p) % m
steps-mod m k p zero = rw (zero-mul (p % m), zero-mul p)
steps-mod m k p (suc f) =
    ap (λ (z : ℕ). z % m) (again (p % m) f)
    ∙ add-mod-mod (k + f * (p % m)) p m
    ∙ sym (mod-add-mod (k + f * (p % m)) m p)
    ∙ ap (λ (z : ℕ). (z + p) % m) (steps-mod m k p f)
    ∙ mod-add-mod (k + f * p) m p
    ∙ ap (λ (z : ℕ). z % m) (sym (again p f))
  where
    again : (q g : ℕ) → k + suc g * q ≡ k + g * q + q
    again q g = omega (arith, suc-mul g q)

-- ---- one more firing

twice : (b : Bool) (s : ℕ) → cond b 1 (cond b 1 s) ≡ cond b 1 s
twice true s = refl
twice false s = refl

next-moved : (per : Bool) (m k p f : ℕ) → cond per ((cond per ((k + f * p) % m) k + p) % m) (cond per ((k + f * p) % m) k) ≡ cond per ((k + suc f * p) % m) k
next-moved true m k p f = mod-add-mod (k + f * p) m p ∙ ap (λ (z : ℕ). z % m) (omega (arith, suc-mul f p))
next-moved false m k p f = refl

first-moved : (per : Bool) (m k p : ℕ) → cond per ((k + p) % m) k ≡ cond per ((k + 1 * p) % m) k
first-moved true m k p = ap (λ (z : ℕ). z % m) (omega arith)
first-moved false m k p = refl

abbrev with : Timer → ℕ → ℕ → Timer
with t k s = with_status (with_comparator t k) s

firing-closed : (t : Timer) (f : ℕ) → firing (closed t f) ≡ closed t (suc f)
unfolding closed firing
firing-closed t zero = ap (λ (k : ℕ). with t k (cond (flag t.level_type) 1 t.status)) (first-moved (flag t.periodic) (2 ^ width (narrowed t)) t.comparator t.period)
firing-closed t (suc f) =
    ap₂ (with t) (next-moved (flag t.periodic) (2 ^ width (narrowed t)) t.comparator t.period (suc f)) (twice (flag t.level_type) t.status)

step-closed : (b : Bool) (t : Timer) (f : ℕ) → cond b (firing (closed t f)) (closed t f) ≡ closed t (f + cond b 1 0)
step-closed true t f = firing-closed t f ∙ ap (closed t) (sym (add-one f))
step-closed false t f = ap (closed t) (sym (add-zero f))

-- ---- the first firing

times_zero : (d s : ℕ) → times d s 0 ≡ 0
times_zero d s = go (dec_lt 0 d)
  where
    go : Dec (0 < d) → times d s 0 ≡ 0
    go (yes h) = times-early d s 0 h
    go (no h) =
        let e : d ≡ 0 = omega arith in
        rw e (times-never s 0)

pub begins-early : (d n : ℕ) → n < d → begins d n ≡ 0
begins-early d n h = rw (lt-ltb n d h)

pub begins-late : (d n : ℕ) → d ≤ n → begins d n ≡ d
begins-late d n h = rw (le-ltb n d h)

begins-zero : (d : ℕ) → begins d 0 ≡ 0
begins-zero d = go (dec_lt 0 d)
  where
    go : Dec (0 < d) → begins d 0 ≡ 0
    go (yes h) = rw (lt-ltb 0 d h)
    go (no h) =
        let e : d ≡ 0 = omega arith in
        rw (le-ltb 0 d (omega arith)) e

begins-from :
    (d n x y : ℕ) (b : Bool) → begins d n ≡ x → begins d (suc n) ≡ y → cond (eqb x 0) (cond b (suc n) 0) x ≡ y →
    cond (eqb (begins d n) 0) (cond b (suc n) 0) (begins d n) ≡ begins d (suc n)
begins-from d n x y b e e' h = ap (λ (z : ℕ). cond (eqb z 0) (cond b (suc n) 0) z) e ∙ h ∙ sym e'

begins-grows :
    (d s n : ℕ) →
    cond (eqb (begins d n) 0) (cond (eqb (suc n) (d + times d s n * s)) (suc n) 0) (begins d n) ≡ begins d (suc n)
begins-grows d s n = by-d (dec_lt 0 d)
  where
    b : Bool
    b = eqb (suc n) (d + times d s n * s)

    by_n : 0 < d → Dec (d ≤ n) → Dec (suc n ≡ d) → cond (eqb (begins d n) 0) (cond b (suc n) 0) (begins d n) ≡ begins d (suc n)
    by_n p (yes h) e =
        begins-from d n d d b (begins-late d n h) (begins-late d (suc n) (omega arith)) (rw (ne_eqb d 0 (omega arith)))
    by_n p (no h) (yes e) =
        begins-from d n 0 d b (begins-early d n (omega arith)) (begins-late d (suc n) (omega arith))
        (rw (times-early d s n (omega arith)) (rw (eq-eqb (suc n) (d + 0 * s) (omega arith)) e))
    by_n p (no h) (no e) =
        begins-from d n 0 0 b (begins-early d n (omega arith)) (begins-early d (suc n) (omega arith))
        (rw (times-early d s n (omega arith)) (rw (ne_eqb (suc n) (d + 0 * s) (omega arith))))

    by-d : Dec (0 < d) → cond (eqb (begins d n) 0) (cond b (suc n) 0) (begins d n) ≡ begins d (suc n)
    by-d (yes p) = by_n p (dec_le d n) (ℕ_discrete (suc n) d)
    by-d (no p) =
        let e : d ≡ 0 = omega arith in
        begins-from d n 0 0 b (begins-late d n (omega arith) ∙ e) (begins-late d (suc n) (omega arith) ∙ e)
        (rw e (rw (times-never s n) (rw (ne_eqb (suc n) (0 + 0 * s) (omega arith)))))

-- ---- many ticks

-- what is compared of the comparator after f firings
met-closed : (t : Timer) → t.comparator < 2 ^ 64 → (f : ℕ) → reduced (narrowed t) (closed t f).comparator ≡ (t.comparator + f * stride t) % 2 ^ width (narrowed t)
unfolding closed
met-closed t h zero = reduced-mod (narrowed t) t.comparator h ∙ ap (λ (z : ℕ). z % 2 ^ width (narrowed t)) (omega (arith, zero-mul (stride t)))
met-closed t h (suc f) = go (flag t.periodic)
  where
    w : Bool
    w = narrowed t

    go :
        (per : Bool) → reduced w (cond per ((t.comparator + suc f * t.period) % 2 ^ width w) t.comparator)
        ≡ (t.comparator + suc f * cond per (t.period % 2 ^ width w) 0) % 2 ^ width w
    go true = reduced-own w (t.comparator + suc f * t.period) ∙ sym (steps-mod (2 ^ width w) t.comparator t.period (suc f))
    go false = reduced-mod w t.comparator h ∙ ap (λ (z : ℕ). z % 2 ^ width w) (omega arith)

closed-narrow : (t : Timer) (f : ℕ) → (closed t f).narrow ≡ t.narrow
unfolding closed
closed-narrow t zero = refl
closed-narrow t (suc f) = refl

stride-lt : (t : Timer) → stride t < 2 ^ width (narrowed t)
stride-lt t = go (flag t.periodic)
  where
    go : (b : Bool) → cond b (t.period % 2 ^ width (narrowed t)) 0 < 2 ^ width (narrowed t)
    go true = mod-lt t.period (pow_pos (width (narrowed t)))
    go false = pow_pos (width (narrowed t))

module _ (c d : ℕ) (t : Timer) (k : t.comparator < 2 ^ 64) (h : Ahead c t d) where
  next-hit : (n : ℕ) → suc n < 2 ^ width (narrowed t) → meets (after (suc n) c) (closed t (times d (stride t) n)) ≡ eqb (suc n) (d + times d (stride t) n * stride t)
  unfolding meets
  next-hit n l =
      ap (λ (x : ℕ). eqb (reduced (flag x) (after (suc n) c)) (reduced (flag x) (closed t f).comparator)) (closed-narrow t f)
      ∙ ap₂ eqb (reduced-counter (narrowed t) (c + suc n))
      (met-closed t k f ∙ sym (mod-add-mod t.comparator (2 ^ width (narrowed t)) (f * stride t)))
      ∙ hit (width (narrowed t)) c (t.comparator % 2 ^ width (narrowed t)) d (stride t) n h.ahead (stride-lt t) l h.meeting
    where
      f : ℕ
      f = times d (stride t) n

  pub alone-closed : (n : ℕ) → n < 2 ^ width (narrowed t) → alone n c t ≡ closed t (times d (stride t) n)
  unfolding alone stepped closed
  alone-closed zero l = sym (ap (closed t) (times_zero d (stride t)))
  alone-closed (suc n) l =
      ap (stepped (after (suc n) c)) (alone-closed n (omega arith))
      ∙ ap (λ (b : Bool). cond b (firing (closed t (times d (stride t) n))) (closed t (times d (stride t) n))) (next-hit n l)
      ∙ step-closed (eqb (suc n) (d + times d (stride t) n * stride t)) t (times d (stride t) n)
      ∙ ap (closed t) (sym (grows d (stride t) n))

  meets-next : (n : ℕ) → suc n < 2 ^ width (narrowed t) → meets (after (suc n) c) (alone n c t) ≡ eqb (suc n) (d + times d (stride t) n * stride t)
  meets-next n l = ap (meets (after (suc n) c)) (alone-closed n (omega arith)) ∙ next-hit n l

  pub count-closed : (n : ℕ) → n < 2 ^ width (narrowed t) → count n c t ≡ times d (stride t) n
  unfolding count
  count-closed zero l = sym (times_zero d (stride t))
  count-closed (suc n) l =
      ap₂ (λ (x : ℕ) (b : Bool). x + cond b 1 0) (count-closed n (omega arith)) (meets-next n l)
      ∙ sym (grows d (stride t) n)

  pub begun-closed : (n : ℕ) → n < 2 ^ width (narrowed t) → begun n c t ≡ begins d n
  unfolding begun
  begun-closed zero l = sym (begins-zero d)
  begun-closed (suc n) l =
      ap₂ (λ (x : ℕ) (b : Bool). cond (eqb x 0) (cond b (suc n) 0) x) (begun-closed n (omega arith)) (meets-next n l)
      ∙ begins-grows d (stride t) n
