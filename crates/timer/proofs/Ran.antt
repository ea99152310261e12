-- From the machine's numbers to the closed form: what the proofs of the functions cite.
use Rattle.std.proofs.Common.{◌≡◌, ℕ, zero, suc, ◌+◌, ◌-◌, ◌*◌, ◌/◌, ◌%◌, ◌^◌, ◌<◌, ◌≤◌, Bool, true, false, cond, sym, refl, ap, ◌∙◌, mod-lt, add_comm, div-le_self, div-mul-le_self, arith, pow_pos}
use native.Mathlib.Nat.{mod-add-mod, add-mod-mod}
use native.Mathlib.Decide.{dec_le, dec_lt}
use Rattle.timer.specs.declared.Timer.{Timer}
use Rattle.timer.specs.State.{flag, width, reduced, narrowed, with_status, with_comparator}
use Rattle.timer.specs.Alone.{run, run_of}
use Rattle.timer.specs.Closed.{times, stride, fired_to, closed, begins, Ahead}
use Rattle.timer.proofs.Width.{times-never, times-early, times-late}
use Rattle.timer.proofs.Closed.{wrap, reduced-mod, steps-mod, alone-closed, count-closed, begun-closed, begins-early, begins-late}

-- a difference modulo 2^64, at the timer's width, is the distance to the next match
pub distance-ahead : (t : Timer) (c x y : ℕ) → x < 2 ^ 64 → (x + c) % 2 ^ 64 ≡ t.comparator → y ≡ reduced (narrowed t) x → Ahead c t y
distance-ahead t c x y l e q =
    rw (q ∙ reduced-mod (narrowed t) x l)
    (record {
      ahead = mod-lt x (pow_pos (width (narrowed t)));
      meeting =
          add-mod-mod c x (2 ^ width (narrowed t))
          ∙ ap (λ (z : ℕ). z % 2 ^ width (narrowed t)) (add_comm c x)
          ∙ sym (wrap (narrowed t) (x + c))
          ∙ ap (λ (z : ℕ). z % 2 ^ width (narrowed t)) e;
    })

-- an advance of a u32 is less than a turn, at each width
less-than-a-turn : (b : Bool) (n : ℕ) → n < 2 ^ 32 → n < 2 ^ width b
less-than-a-turn true n h = h
less-than-a-turn false n h = omega arith

ran-closed : (t : Timer) (c d n : ℕ) → t.comparator < 2 ^ 64 → Ahead c t d → n < 2 ^ 32 → run (closed t (times d (stride t) n)) (times d (stride t) n) (begins d n) ≡ run_of t c n
unfolding run_of
ran-closed t c d n k h l =
    let z = less-than-a-turn (narrowed t) n l in
    sym (λ i. run (alone-closed c d t k h n z i) (count-closed c d t k h n z i) (begun-closed c d t k h n z i))

-- what is known where there is a firing
pub record Some (d s n f : ℕ) : Type 0 where
  pub soon : 0 < d
  pub due : d ≤ n
  pub far : (f - 1) * s ≤ n
  pub few : f ≤ n

some-firing : (d s n : ℕ) → (times d s n ≡ 0 → ⊥) → Some d s n (times d s n)
some-firing d s n ne = by-d (dec_lt 0 d) (dec_le d n)
  where
    by-d : Dec (0 < d) → Dec (d ≤ n) → Some d s n (times d s n)
    by-d (yes p) (yes h) =
        rw (times-late d s n p h)
        (record {
          soon = p;
          due = h;
          far =
              let z : 1 + (n - d) / s - 1 ≡ (n - d) / s = omega arith in
              rw z (omega (arith, div-mul-le_self (n - d) s));
          few = omega (arith, div-le_self (n - d) s);
        })
    by-d (yes p) (no h) = absurd (ne (times-early d s n (omega arith)))
    by-d (no p) h =
        let e : d ≡ 0 = omega arith in
        absurd (ne (rw e (times-never s n)))

no-firing : (d s n : ℕ) → times d s n ≡ 0 → begins d n ≡ 0
no-firing d s n e = by-d (dec_lt 0 d) (dec_le d n)
  where
    by-d : Dec (0 < d) → Dec (d ≤ n) → begins d n ≡ 0
    by-d (yes p) (yes h) =
        let z : 1 + (n - d) / s ≡ 0 = sym (times-late d s n p h) ∙ e in
        absurd (omega arith)
    by-d (yes p) (no h) = begins-early d n (omega arith)
    by-d (no p) h =
        let z : d ≡ 0 = omega arith in
        begins-late d n (omega arith) ∙ z

-- the facts at the code's casts and product
pub code-some : (d s n f : ℕ) → f ≡ times d s n → (f ≡ 0 → ⊥) → Some d s n f
code-some d s n f e ne = rw e (some-firing d s n (λ z. ne (e ∙ z)))

-- the comparator moved on in two sums, neither of which is too large for the machine
later : (b : Bool) (k p f s : ℕ) → 0 < f → s ≡ p % 2 ^ width b → ((k + (f - 1) * s) % 2 ^ 64 + s) % 2 ^ 64 % 2 ^ width b ≡ (k + f * p) % 2 ^ width b
later b k p f s h e =
    ap (λ (z : ℕ). z % 2 ^ width b) (mod-add-mod (k + (f - 1) * s) (2 ^ 64) s)
    ∙ wrap b (k + (f - 1) * s + s)
    ∙ ap (λ (z : ℕ). z % 2 ^ width b) (once (f - 1) ∙ ap (λ (z : ℕ). k + z * s) whole ∙ ap (λ (z : ℕ). k + f * z) e)
    ∙ steps-mod (2 ^ width b) k p f
  where
    once : (g : ℕ) → k + g * s + s ≡ k + (g + 1) * s
    once g = omega arith

    whole : f - 1 + 1 ≡ f
    whole = omega arith

-- ---- the code's two answers

abbrev made : Timer → ℕ → Timer
made t k = with_status (with_comparator t k) (cond (flag t.level_type) 1 t.status)

pub answer-none :
    (t : Timer) (c n d s f : ℕ) → t.comparator < 2 ^ 64 → n < 2 ^ 32 → Ahead c t d → s ≡ stride t → f ≡ times d s n → f ≡ 0 →
    run t 0 0 ≡ run_of t c n
unfolding closed
answer-none t c n d s f hk hn a es ef z =
    let q : times d (stride t) n ≡ 0 = ap (λ (x : ℕ). times d x n) (sym es) ∙ sym ef ∙ z in
    sym (λ i. run (closed t (q i)) (q i) (no-firing d (stride t) n q i)) ∙ ran-closed t c d n hk a hn

fired-to : (t : Timer) (f s last next : ℕ) → s ≡ stride t → (f ≡ 0 → ⊥) → last ≡ (t.comparator + (f - 1) * s) % 2 ^ 64 → next ≡ (last + s) % 2 ^ 64 → fired_to t next ≡ closed t f
unfolding closed
fired-to t zero s last next es ne el en = absurd (ne refl)
fired-to t (suc f) s last next es ne el en = go (flag t.periodic) es
  where
    w : Bool
    w = narrowed t

    go :
        (b : Bool) → s ≡ cond b (t.period % 2 ^ width w) 0 →
        made t (cond b (next % 2 ^ width w) t.comparator) ≡ made t (cond b ((t.comparator + suc f * t.period) % 2 ^ width w) t.comparator)
    go true e = ap (made t) (ap (λ (z : ℕ). z % 2 ^ width w) (en ∙ ap (λ (z : ℕ). (z + s) % 2 ^ 64) el) ∙ later w t.comparator t.period (suc f) s (omega arith) e)
    go false e = refl

pub answer-some :
    (t : Timer) (c n d s f last next : ℕ) → t.comparator < 2 ^ 64 → n < 2 ^ 32 → Ahead c t d → s ≡ stride t → f ≡ times d s n → (f ≡ 0 → ⊥) →
    last ≡ (t.comparator + (f - 1) * s) % 2 ^ 64 → next ≡ (last + s) % 2 ^ 64 → run (fired_to t next) f d ≡ run_of t c n
answer-some t c n d s f last next hk hn a es ef ne el en =
    let q : f ≡ times d (stride t) n = ef ∙ ap (λ (x : ℕ). times d x n) es in
    let y = some-firing d (stride t) n (λ z. ne (q ∙ z)) in
    (λ i. run ((fired-to t f s last next es ne el en ∙ ap (closed t) q) i) (q i) (sym (begins-late d n y.due) i)) ∙ ran-closed t c d n hk a hn
