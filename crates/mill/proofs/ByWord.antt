-- One call on a told screen, by the word before it; none is a telling that is done, a resume that takes effect or a
-- reset.
use Prim.Native.Nat.{ℕ}
use mathlib.Core.Path.{◌≡◌, refl, sym, ap, ◌∙◌}
use mathlib.Core.Bool.{Bool, true, false, cond, ◌||◌}
use mathlib.Core.List.{List}
use native.Mathlib.Omega.{arith}
use lib.Dec.{eqb}
use borrow.Author.Tests.{eq-eqb, eqb-true}
use Rattle.pins.proofs.Bools.{clash}
use Rattle.board.specs.Events.{Event, reset, delivery, end, other, holds}
use Rattle.mill.specs.declared.Screen.{Screen}
use Rattle.mill.specs.declared.Mill.{Mill}
use Rattle.mill.specs.declared.MillCall.{MillCall}
use Rattle.mill.specs.Screen.{running, asked, taken, paused, from_asked, from_taken, moved_of}
use Rattle.mill.specs.Story.{next, did, tells, resumes, resets, stirs, None}
use Rattle.mill.proofs.Fits.{screen}
use Rattle.mill.proofs.Keeps.{Good}
use Rattle.mill.proofs.Steps.{moves}

-- none of the three
abbrev pub Calm : Mill → List MillCall → Type 0
Calm = None stirs

pub neither : (a b : Bool) → a || b ≡ false → (a ≡ false) × (b ≡ false)
neither true b e = clash e
neither false b e = (refl, e)

-- ---- one call, by the word before it

module _ (m : Mill) (g : Good m) (c : MillCall) (calm : stirs m c ≡ false) (p w v : ℕ) (is : m.screen ≡ screen p w v) where
  moved : (next m c).screen ≡ moved_of (screen p w v) (holds (next m c).board p) (did m c)
  moved =
      let n = neither (tells m c) (resumes m c || resets m c) calm in
      let o = neither (resumes m c) (resets m c) n.1 in
      moves m g (ap (λ (s : Screen). eqb s.told 1) is) c n.0 o.0 o.1
      ∙ ap (λ (s : Screen). moved_of s (holds (next m c).board s.pin) (did m c)) is

module _ (m : Mill) (g : Good m) (c : MillCall) (calm : stirs m c ≡ false) (p : ℕ) where
  pub asks-if : m.screen ≡ screen p running 0 → holds (next m c).board p ≡ true → (next m c).screen ≡ screen p asked 0
  unfolding moved_of
  asks-if is h = moved m g c calm p running 0 is ∙ ap (λ (x : Bool). cond x (screen p asked 0) (screen p running 0)) h

  pub runs_on : m.screen ≡ screen p running 0 → holds (next m c).board p ≡ false → (next m c).screen ≡ screen p running 0
  unfolding moved_of
  runs_on is h = moved m g c calm p running 0 is ∙ ap (λ (x : Bool). cond x (screen p asked 0) (screen p running 0)) h

  pub takes-if : (v : ℕ) → m.screen ≡ screen p asked 0 → did m c ≡ delivery p v → (next m c).screen ≡ screen p taken v
  unfolding moved_of
  takes-if v is d =
      moved m g c calm p asked 0 is
      ∙ ap (from_asked (screen p asked 0)) d
      ∙ ap (λ (x : Bool). cond x (screen p taken v) (screen p asked 0)) (eq-eqb p p refl)

  pub asks-on : m.screen ≡ screen p asked 0 → ((v : ℕ) → did m c ≡ delivery p v → ⊥) → (next m c).screen ≡ screen p asked 0
  unfolding moved_of
  asks-on is n = moved m g c calm p asked 0 is ∙ go (did m c) refl
    where
      at_pin : (q v : ℕ) → did m c ≡ delivery q v → (x : Bool) → eqb q p ≡ x → cond x (screen p taken v) (screen p asked 0) ≡ screen p asked 0
      at_pin q v e true d = absurd (n v (e ∙ ap (λ (i : ℕ). delivery i v) (eqb-true q p d)))
      at_pin q v e false d = refl

      go : (e : Event) → did m c ≡ e → from_asked (screen p asked 0) e ≡ screen p asked 0
      go reset e = refl
      go (delivery q v) e = at_pin q v e (eqb q p) refl
      go (end v) e = refl
      go other e = refl

  module _ (v : ℕ) where
    pub pauses-if : m.screen ≡ screen p taken v → did m c ≡ end v → (next m c).screen ≡ screen p paused v
    unfolding moved_of
    pauses-if is d =
        moved m g c calm p taken v is
        ∙ ap (from_taken (screen p taken v)) d
        ∙ ap (λ (x : Bool). cond x (screen p paused v) (screen p taken v)) (eq-eqb v v refl)

    pub serves_on : m.screen ≡ screen p taken v → (did m c ≡ end v → ⊥) → (next m c).screen ≡ screen p taken v
    unfolding moved_of
    serves_on is n = moved m g c calm p taken v is ∙ go (did m c) refl
      where
        with-vector : (u : ℕ) → did m c ≡ end u → (x : Bool) → eqb u v ≡ x → cond x (screen p paused v) (screen p taken v) ≡ screen p taken v
        with-vector u e true d = absurd (n (e ∙ ap end (eqb-true u v d)))
        with-vector u e false d = refl

        go : (e : Event) → did m c ≡ e → from_taken (screen p taken v) e ≡ screen p taken v
        go reset e = refl
        go (delivery q u) e = refl
        go (end u) e = with-vector u e (eqb u v) refl
        go other e = refl

    pub pauses-on : m.screen ≡ screen p paused v → (next m c).screen ≡ screen p paused v
    unfolding moved_of
    pauses-on is = moved m g c calm p paused v is

-- ---- whether a call delivered the pin, or ended the vector

pub data Delivering (p : ℕ) (e : Event) : Type 0 where
  gives : (v : ℕ) → e ≡ delivery p v → Delivering p e
  gives-not : ((v : ℕ) → e ≡ delivery p v → ⊥) → Delivering p e

pub data Ending (v : ℕ) (e : Event) : Type 0 where
  ends : e ≡ end v → Ending v e
  ends-not : (e ≡ end v → ⊥) → Ending v e

pub delivering : (p : ℕ) (e : Event) → Delivering p e
delivering p reset = gives-not (λ v d. let z : ◌≡◌ {A = ℕ} 0 1 = cc in absurd (omega arith))
delivering p (end u) = gives-not (λ v d. let z : ◌≡◌ {A = ℕ} 0 1 = cc in absurd (omega arith))
delivering p other = gives-not (λ v d. let z : ◌≡◌ {A = ℕ} 0 1 = cc in absurd (omega arith))
delivering p (delivery q u) = go (eqb q p) refl
  where
    go : (x : Bool) → eqb q p ≡ x → Delivering p (delivery q u)
    go true e = gives u (ap (λ (i : ℕ). delivery i u) (eqb-true q p e))
    go false e = gives-not (λ v d. let same : q ≡ p = cc d in clash (sym (eq-eqb q p same) ∙ e))

pub ending : (v : ℕ) (e : Event) → Ending v e
ending v reset = ends-not (λ d. let z : ◌≡◌ {A = ℕ} 0 1 = cc in absurd (omega arith))
ending v (delivery q u) = ends-not (λ d. let z : ◌≡◌ {A = ℕ} 0 1 = cc in absurd (omega arith))
ending v other = ends-not (λ d. let z : ◌≡◌ {A = ℕ} 0 1 = cc in absurd (omega arith))
ending v (end u) = go (eqb u v) refl
  where
    go : (x : Bool) → eqb u v ≡ x → Ending v (end u)
    go true e = ends (ap end (eqb-true u v e))
    go false e = ends-not (λ d. let same : u ≡ v = cc d in clash (sym (eq-eqb u v same) ∙ e))
