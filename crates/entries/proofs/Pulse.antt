-- Laws of wire changes, for whoever drives the wires: the same levels again change nothing; a second pulse changes
-- nothing.
use mathlib.Core.Path.{◌≡◌, refl, sym, ap, ◌∙◌}
use mathlib.Core.Bool.{Bool, true, false, not, cond, ◌&&◌, ◌||◌}
use mathlib.Core.List.{List}
use Prim.Native.Nat.{ℕ, zero, suc, ◌/◌, ◌<◌}
use native.Mathlib.Omega.{arith}
use native.Mathlib.Decide.{ℕ_discrete, dec_lt}
use native.Mathlib.Nat.{mod-lt}
use lib.Dec.{eqb, leb, lit<}
use lib.ListN.{get_or, length, set, length-set}
use lib.Seq.{ext_get_or, get_or-set_same, get_or-set_other, set_out}
use borrow.Author.Tests.{eqb-true, leb-true}
use Rattle.pins.specs.Pins.{pins}
use Rattle.pins.proofs.Bools.{clash}
use Rattle.pins.proofs.Fill.{get_or-tab, length-tab}
use Rattle.entries.specs.declared.Entries.{Entries}
use Rattle.entries.specs.Word.{level_of, masked_of, active_low_of}
use Rattle.entries.specs.Pin.{asserted, makes_edge, held_after}
use Rattle.entries.specs.Table.{low_at, level_at, held_at, held_on, with_held, with_level, entries_ok, levels_ok, wired, pulsed}
use Rattle.entries.specs.Inner.{wired_at}
use Rattle.entries.proofs.Sized.{Sized, wired-sized}
use Rattle.entries.proofs.Formed.{levels-at, levels-of, wired-ok}

-- ---- what a wire change leaves at each pin

pub wired-level : (e : Entries) (l : List ℕ) → (wired e l).level ≡ l
unfolding wired
wired-level e l = refl

pub wired-low : (e : Entries) (l : List ℕ) → (wired e l).low ≡ e.low
unfolding wired
wired-low e l = refl

pub wired-held : (e : Entries) (l : List ℕ) (i : ℕ) → i < 24 → held_at (wired e l) i ≡ held_on e l i
unfolding wired
wired-held e l i h = get_or-tab (held_on e l) 24 i 0 h

-- a wire change that leaves every held edge and every level is none
no_change : (e : Entries) (h : ℕ → ℕ) → length e.held ≡ 24 → ((i : ℕ) → i < 24 → h i ≡ held_at e i) → pins h ≡ e.held
no_change e h k f =
    ext_get_or 0 (pins h) e.held (length-tab h 0 24 ∙ sym k)
    (λ i l. let j : i < 24 = rw (length-tab h 0 24) at l in get_or-tab h 24 i 0 j ∙ f i j)

-- ---- one pin, over the tests of it: masked, level, asserted before and after

abbrev makes : Bool → Bool → Bool → Bool → Bool
makes m l a b = not m && not l && not a && b

makes-same : (m l a : Bool) → makes m l a a ≡ false
makes-same true l a = refl
makes-same false true a = refl
makes-same false false true = refl
makes-same false false false = refl

pub held_same : (w x h : ℕ) → held_after w x x h ≡ h
unfolding held_after makes_edge
held_same w x h = rw (makes-same (masked_of w) (level_of w) (asserted w x))

-- nothing more can come of a pulse: the pin is masked, or level, or holds an edge, or its wire is high
unfoldable pub settled_as : ℕ → ℕ → ℕ → Bool
settled_as w x h = masked_of w || level_of w || eqb h 1 || eqb x 1

unfoldable pub settled : Entries → ℕ → Bool
settled e p = settled_as (low_at e p) (level_at e p) (held_at e p)

one-anyway : (x y : Bool) → cond {A = ℕ} x 1 (cond y 1 1) ≡ 1
one-anyway true y = refl
one-anyway false true = refl
one-anyway false false = refl

quiet-pin : (h : ℕ) (m l a b e : Bool) → (m || l || eqb h 1 || e) ≡ true → (e ≡ true → a ≡ b) → cond (makes m l b a) 1 (cond (makes m l a b) 1 h) ≡ h
quiet-pin h true l a b e s f = refl
quiet-pin h false true a b e s f = refl
quiet-pin h false false a b e s f = go (eqb h 1) refl e s f
  where
    go : (q : Bool) → eqb h 1 ≡ q → (e : Bool) → (q || e) ≡ true → (e ≡ true → a ≡ b) → cond (not b && a) 1 (cond (not a && b) 1 h) ≡ h
    go true t e s f = rw (eqb-true h 1 t) (one-anyway (not b && a) (not a && b))
    go false t true s f = rw (f refl, makes-same false false b)
    go false t false s f = clash (sym s)

or-true : (x : Bool) → (x || true) ≡ true
or-true true = refl
or-true false = refl

loud-pin : (h : ℕ) (m l a b e : Bool) → (e ≡ false → a ≡ not b) → (m || l || eqb (cond (makes m l b a) 1 (cond (makes m l a b) 1 h)) 1 || e) ≡ true
loud-pin h true l a b e f = refl
loud-pin h false true a b e f = refl
loud-pin h false false a b true f = or-true (eqb (cond (not b && a) 1 (cond (not a && b) 1 h)) 1)
loud-pin h false false a b false f = rw (f refl) (some b)
  where
    some : (b : Bool) → (eqb (cond (not b && not b) 1 (cond (not (not b) && b) 1 h)) 1 || false) ≡ true
    some true = refl
    some false = refl

pulse-quiet : (w x h : ℕ) → settled_as w x h ≡ true → held_after w 1 x (held_after w x 1 h) ≡ h
unfolding held_after makes_edge settled_as
pulse-quiet w x h s =
    quiet-pin h (masked_of w) (level_of w) (asserted w x) (asserted w 1) (eqb x 1) s (λ e. ap (asserted w) (eqb-true x 1 e))

differ : (x k : ℕ) → leb x 1 ≡ true → k < 2 → eqb x 1 ≡ false → not (eqb x k) ≡ not (not (eqb 1 k))
differ zero zero h l e = refl
differ zero (suc zero) h l e = refl
differ zero (suc (suc k)) h l e = absurd (omega arith)
differ (suc zero) k h l e = clash e
differ (suc (suc x)) k h l e = absurd (omega (arith, leb-true (suc (suc x)) 1 h))

pulse-settles : (w x h : ℕ) → leb x 1 ≡ true → settled_as w x (held_after w 1 x (held_after w x 1 h)) ≡ true
unfolding held_after makes_edge settled_as asserted
pulse-settles w x h ok =
    loud-pin h (masked_of w) (level_of w) (asserted w x) (asserted w 1) (eqb x 1)
    (differ x (active_low_of w) ok (mod-lt (w / 8192) (lit< tt)))

more-held : (m l h h' e e' : Bool) → (h ≡ true → h' ≡ true) → (e ≡ true → e' ≡ true) → (m || l || h || e) ≡ true → (m || l || h' || e') ≡ true
more-held true l h h' e e' f g s = refl
more-held false true h h' e e' f g s = refl
more-held false false true h' e e' f g s = rw (f refl)
more-held false false false true e e' f g s = refl
more-held false false false false e e' f g s = g s

one_kept : {x y : ℕ} → (x ≡ 1 → y ≡ 1) → eqb x 1 ≡ true → eqb y 1 ≡ true
one_kept {x} {y} f q = ap (λ (n : ℕ). eqb n 1) (f (eqb-true x 1 q))

-- held edges and high wires only make it hold more
pub settled-more :
    (e d : Entries) (p : ℕ) → d.low ≡ e.low → (held_at e p ≡ 1 → held_at d p ≡ 1) → (level_at e p ≡ 1 → level_at d p ≡ 1) →
    settled e p ≡ true → settled d p ≡ true
unfolding settled settled_as
settled-more e d p q f g s =
    ap (λ (l : List ℕ). masked_of (get_or l p 0) || level_of (get_or l p 0) || eqb (held_at d p) 1 || eqb (level_at d p) 1) q
    ∙ more-held (masked_of (low_at e p)) (level_of (low_at e p)) (eqb (held_at e p) 1) (eqb (held_at d p) 1) (eqb (level_at e p) 1) (eqb (level_at d p) 1)
    (one_kept f) (one_kept g) s

edge_kept : (w x y h : ℕ) → h ≡ 1 → held_after w x y h ≡ 1
unfolding held_after
edge_kept w x y h e = rw e (go (makes_edge w x y))
  where
    go : (b : Bool) → cond {A = ℕ} b 1 1 ≡ 1
    go true = refl
    go false = refl

-- a wire change never drops a held edge
pub wired-keeps : (e : Entries) (l : List ℕ) (p : ℕ) → p < 24 → held_at e p ≡ 1 → held_at (wired e l) p ≡ 1
wired-keeps e l p k h = wired-held e l p k ∙ edge_kept (low_at e p) (level_at e p) (get_or l p 0) (held_at e p) h

-- ---- the laws

module _ (e : Entries) (z : Sized e) where
  -- the levels that the pins have already
  pub wired-same : wired e e.level ≡ e
  unfolding wired
  wired-same =
      ap (λ (h : List ℕ). with_level (with_held e h) e.level)
      (no_change e (held_on e e.level) z.held (λ i l. held_same (low_at e i) (level_at e i) (held_at e i)))

  module _ (p : ℕ) (k : p < 24) where
    abbrev up : List ℕ
    up = set e.level p 1

    abbrev high : Entries
    high = wired e up

    p-long : p < length e.level
    p-long = rw z.level k

    -- the held edge of each pin after a pulse of pin p
    at_p : held_on high e.level p ≡ held_after (low_at e p) 1 (level_at e p) (held_after (low_at e p) (level_at e p) 1 (held_at e p))
    unfolding wired
    at_p = rw (get_or-tab (held_on e up) 24 p 0 k) (rw (get_or-set_same e.level p 1 0 p-long))

    at_other : (i : ℕ) → i < 24 → (i ≡ p → ⊥) → held_on high e.level i ≡ held_at e i
    unfolding wired
    at_other i l n =
        rw (get_or-tab (held_on e up) 24 i 0 l)
        (rw (get_or-set_other e.level p i 1 0 n)
        (rw (held_same (low_at e i) (level_at e i) (held_at e i)) (held_same (low_at e i) (level_at e i) (held_at e i))))

    -- a pulse that changes nothing
    pub pulse-rests : settled e p ≡ true → pulsed e e.level p ≡ e
    unfolding pulsed wired settled
    pulse-rests s =
        ap (λ (h : List ℕ). with_level (with_held e h) e.level)
        (no_change e (held_on high e.level) z.held (λ i l. go i l (ℕ_discrete i p)))
      where
        go : (i : ℕ) → i < 24 → Dec (i ≡ p) → held_on high e.level i ≡ held_at e i
        go i l (yes q) = rw q (at_p ∙ pulse-quiet (low_at e p) (level_at e p) (held_at e p) s)
        go i l (no n) = at_other i l n

    -- after a pulse nothing more comes of another one
    pub pulse-settled : leb (level_at e p) 1 ≡ true → settled (pulsed e e.level p) p ≡ true
    unfolding pulsed settled wired
    pulse-settled ok =
        ap (settled_as (low_at e p) (level_at e p)) (get_or-tab (held_on high e.level) 24 p 0 k ∙ at_p)
        ∙ pulse-settles (low_at e p) (level_at e p) (held_at e p) ok

-- higher levels, and a pulse of any pin, keep a pin settled

pub wired-settled : (e : Entries) (l : List ℕ) (p : ℕ) → p < 24 → (level_at e p ≡ 1 → get_or l p 0 ≡ 1) → settled e p ≡ true → settled (wired e l) p ≡ true
wired-settled e l p k f s =
    settled-more e (wired e l) p (wired-low e l) (wired-keeps e l p k)
    (λ q. ap (λ (x : List ℕ). get_or x p 0) (wired-level e l) ∙ f q) s

pub pulsed-settled : (e : Entries) (q p : ℕ) → p < 24 → settled e p ≡ true → settled (pulsed e e.level q) p ≡ true
unfolding pulsed
pulsed-settled e q p k s =
    let d = wired e (set e.level q 1) in
    settled-more e (wired d e.level) p (wired-low d e.level ∙ wired-low e (set e.level q 1))
    (λ h. wired-keeps d e.level p k (wired-keeps e (set e.level q 1) p k h))
    (λ h. ap (λ (x : List ℕ). get_or x p 0) (wired-level d e.level) ∙ h) s

-- ---- pulses keep entries well formed, and the lists long

pub set-ok : (l : List ℕ) (p x : ℕ) → leb x 1 ≡ true → levels_ok l ≡ true → levels_ok (set l p x) ≡ true
set-ok l p x e ok = levels-of (set l p x) (λ i h. go i h (ℕ_discrete i p) (dec_lt p (length l)))
  where
    go : (i : ℕ) → i < 24 → Dec (i ≡ p) → Dec (p < length l) → leb (get_or (set l p x) i 0) 1 ≡ true
    go i h (yes q) (yes k) = rw (q, get_or-set_same l p x 0 k) e
    go i h (no n) d = rw (get_or-set_other l p i x 0 n) (levels-at l ok i h)
    go i h (yes q) (no n) = rw (set_out l p x (omega arith)) (levels-at l ok i h)

pub pulsed-ok : (e : Entries) (l : List ℕ) (p : ℕ) → levels_ok l ≡ true → entries_ok e ≡ true → entries_ok (pulsed e l p) ≡ true
unfolding pulsed
pulsed-ok e l p fit ok = wired-ok (wired e (set l p 1)) (wired-ok e ok (set l p 1) (set-ok l p 1 refl fit)) l fit

pub pulsed-sized : (e : Entries) (l : List ℕ) (p : ℕ) → Sized e → length l ≡ 24 → Sized (pulsed e l p)
unfolding pulsed
pulsed-sized e l p z k = wired-sized (wired e (set l p 1)) (wired-sized e z (set l p 1) (length-set l p 1 ∙ k)) l k

pub pulsed-level : (e : Entries) (l : List ℕ) (p : ℕ) → (pulsed e l p).level ≡ l
unfolding pulsed
pulsed-level e l p = wired-level (wired e (set l p 1)) l

-- a pulse is a raise and a drop
pub pulsed-is : (e : Entries) (l : List ℕ) (p : ℕ) → pulsed e l p ≡ wired (wired e (set l p 1)) l
unfolding pulsed
pulsed-is e l p = refl

-- ---- a change of one wire is a change at one pin

module _ (e : Entries) (z : Sized e) (p : ℕ) (k : p < 24) (x : ℕ) where
  pub wired-one : wired e (set e.level p x) ≡ wired_at e p x
  unfolding wired wired_at
  wired-one =
      ap (λ (h : List ℕ). with_level (with_held e h) (set e.level p x))
      (ext_get_or 0 (pins (held_on e (set e.level p x))) (set e.held p new) (length-tab (held_on e (set e.level p x)) 0 24 ∙ sym (length-set e.held p new ∙ z.held))
      (λ i j.
      let l : i < 24 = rw (length-tab (held_on e (set e.level p x)) 0 24) at j in
      get_or-tab (held_on e (set e.level p x)) 24 i 0 l ∙ go i (ℕ_discrete i p)))
    where
      new : ℕ
      new = held_after (low_at e p) (level_at e p) x (held_at e p)

      go : (i : ℕ) → Dec (i ≡ p) → held_on e (set e.level p x) i ≡ get_or (set e.held p new) i 0
      go i (yes q) = rw (q, get_or-set_same e.level p x 0 (rw z.level k), get_or-set_same e.held p new 0 (rw z.held k))
      go i (no n) = rw (get_or-set_other e.level p i x 0 n, get_or-set_other e.held p i new 0 n) (held_same (low_at e i) (level_at e i) (held_at e i))
