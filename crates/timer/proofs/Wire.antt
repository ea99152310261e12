-- What a firing, and a write to the comparator, do to the wire of the timer's pin.
use Rattle.std.proofs.Common.{◌≡◌, ℕ, Bool, true, false, cond, not, ◌&&◌, ◌||◌, T, eqb, sym, refl, ap, subst}
use Rattle.timer.specs.declared.Timer.{Timer}
use Rattle.timer.specs.State.{flag, reduced, narrowed, with_comparator, with_period, with_set}
use Rattle.timer.specs.Registers.{set_of}
use Rattle.timer.specs.Tick.{firing, pulsing, driving}
use Rattle.timer.specs.Inner.{raising, holding}

-- edge type, or with its status set: no firing moves the wire by the timer's status
unfoldable pub risen : Timer → Bool
risen t = not (flag t.level_type) || flag t.status

module _ (t : Timer) where
  pub firing-route : (firing t).route ≡ t.route
  unfolding firing
  firing-route = refl

  pub firing-pulsing : pulsing (firing t) ≡ pulsing t
  unfolding firing pulsing
  firing-pulsing = refl

  pub firing-raising : raising (firing t) ≡ raising t
  unfolding firing raising
  firing-raising = refl

  pub firing-risen : risen (firing t) ≡ true
  unfolding firing risen
  firing-risen = go (flag t.level_type)
    where
      go : (l : Bool) → (not l || flag (cond l 1 t.status)) ≡ true
      go true = refl
      go false = refl

  pub pulsing-risen : pulsing t ≡ true → risen t ≡ true
  unfolding pulsing risen
  pulsing-risen = go (flag t.level_type) (flag t.interrupt) (flag t.status)
    where
      go : (l i s : Bool) → (not l && i) ≡ true → (not l || s) ≡ true
      go true i s e = absurd (subst T (sym e) tt)
      go false i s e = refl

  module _ (p : ℕ) where
    pub driving-pin : driving t p ≡ (holding t && eqb t.route p)
    unfolding driving holding
    driving-pin = go (flag t.level_type) (flag t.interrupt) (flag t.status) (eqb t.route p)
      where
        go : (l i s r : Bool) → (l && (i && (s && r))) ≡ ((l && (i && s)) && r)
        go true true s r = refl
        go true false s r = refl
        go false i s r = refl

    pub driving-same : risen t ≡ true → driving (firing t) p ≡ driving t p
    unfolding firing risen driving
    driving-same = go (flag t.level_type) (flag t.interrupt) t.status (eqb t.route p)
      where
        go : (l i : Bool) (s : ℕ) (r : Bool) → (not l || flag s) ≡ true → (l && (i && (flag (cond l 1 s) && r))) ≡ (l && (i && (flag s && r)))
        go true i s r e = ap (λ (x : Bool). i && (x && r)) (sym e)
        go false i s r e = refl

    -- what it drives after a firing: what it drove, and its pin, where it raises its wire
    pub driving-fired : driving (firing t) p ≡ driving t p || (raising t && eqb t.route p)
    unfolding firing raising driving
    driving-fired = go (flag t.level_type) (flag t.interrupt) t.status (eqb t.route p)
      where
        or_same : (s r : Bool) → r ≡ ((s && r) || r)
        or_same true true = refl
        or_same true false = refl
        or_same false r = refl

        go : (l i : Bool) (s : ℕ) (r : Bool) → (l && (i && (flag (cond l 1 s) && r))) ≡ ((l && (i && (flag s && r))) || ((l && i) && r))
        go true true s r = or_same (flag s) r
        go true false s r = refl
        go false i s r = refl

    pub driving-more : driving t p ≡ true → driving (firing t) p ≡ true
    unfolding firing driving
    driving-more = go (flag t.level_type) (flag t.interrupt) t.status (eqb t.route p)
      where
        and_right : (a b : Bool) → (a && b) ≡ true → b ≡ true
        and_right true b e = e
        and_right false b e = absurd (subst T (sym e) tt)

        go : (l i : Bool) (s : ℕ) (r : Bool) → (l && (i && (flag s && r))) ≡ true → (l && (i && (flag (cond l 1 s) && r))) ≡ true
        go true true s r e = and_right (flag s) r e
        go true false s r e = e
        go false i s r e = e

-- a write to the comparator register moves no wire
pub set-driving : (t : Timer) (c p pin : ℕ) → driving (set_of t c p) pin ≡ driving t pin
unfolding set_of driving
set-driving t c p pin = go (flag t.periodic)
  where
    x : ℕ
    x = reduced (narrowed t) c

    go :
        (b : Bool) →
        driving (cond b (with_set (with_period (with_comparator t (cond (flag t.set_comparator) x t.comparator)) (reduced (narrowed t) p)) 0) (with_comparator t x)) pin ≡ driving t pin
    go true = refl
    go false = refl
