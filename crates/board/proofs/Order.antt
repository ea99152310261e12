-- Three strikes, of whatever kind, each at one tick: as the ticks come, they are struck in the order of their ticks, and
-- in one tick as they stand.
use Prim.Native.Nat.{ℕ, zero, suc, ◌<◌, ◌≤◌}
use mathlib.Core.Path.{◌≡◌, refl, sym, ap, ◌∙◌}
use mathlib.Core.Bool.{Bool, true, false, cond}
use mathlib.Core.List.{List, ◌∷◌, []}
use native.Mathlib.Omega.{arith}
use native.Mathlib.Decide.{ℕ_discrete}
use lib.Dec.{eqb, leb, ltb}
use lib.ListN.{get_or}
use borrow.Author.Tests.{eq-eqb, ne_eqb, eqb-true, le-leb, lt-leb, leb-true, leb-false, ltb-true, ltb-false}
use Rattle.board.specs.At.{ordered}

-- what is done at each tick, for the ticks from 1 to n
unfoldable pub walk : {A : Type 0} → (ℕ → A → A) → ℕ → A → A
walk u zero x = x
walk u (suc t) x = u (suc t) (walk u t x)

module _ {A K : Type 0} (hit : K → A → A) (idle : K) (none : (x : A) → hit idle x ≡ x) where
  -- strike k, due at tick f, as tick t comes
  abbrev once : ℕ → K → ℕ → A → A
  once f k t x = cond (eqb f t) (hit k x) x

  -- it is never due at tick 0
  abbrev due : ℕ → K → K
  due f k = cond (eqb f 0) idle k

  -- it, once n ticks have come
  abbrev by : ℕ → ℕ → K → A → A
  by n f k x = cond (leb f n) (hit (due f k) x) x

  by-start : (f : ℕ) (k : K) (x : A) → by 0 f k x ≡ x
  by-start zero k x = none x
  by-start (suc f) k x = rw (lt-leb (suc f) 0 (omega arith))

  -- one more tick comes
  by_next : (n f : ℕ) (k : K) (x : A) → once f k (suc n) (by n f k x) ≡ by (suc n) f k x
  by_next n f k x = go (ℕ_discrete f (suc n)) (leb f n) refl
    where
      go : Dec (f ≡ suc n) → (b : Bool) → leb f n ≡ b → cond (eqb f (suc n)) (hit k (cond b (hit (due f k) x) x)) (cond b (hit (due f k) x) x) ≡ by (suc n) f k x
      go (yes e) true l = absurd (omega (arith, leb-true f n l))
      go (yes e) false l = rw (eq-eqb f (suc n) e, le-leb f (suc n) (omega arith), ne_eqb f 0 (omega arith))
      go (no d) true l = rw (ne_eqb f (suc n) d, le-leb f (suc n) (omega (arith, leb-true f n l)))
      go (no d) false l = rw (ne_eqb f (suc n) d, lt-leb f (suc n) (later (leb-false f n l) d))
        where
          later : n < f → (f ≡ suc n → ⊥) → suc n < f
          later h d = omega arith

  -- one that is not due before another waits for it
  by-past : (n f : ℕ) (k : K) (g : ℕ) (l : K) (x : A) → f ≤ g → once f k (suc n) (by n g l x) ≡ by n g l (once f k (suc n) x)
  by-past n f k g l x h = go (eqb f (suc n)) refl
    where
      go : (b : Bool) → eqb f (suc n) ≡ b → cond b (hit k (by n g l x)) (by n g l x) ≡ by n g l (cond b (hit k x) x)
      go true e = rw (lt-leb g n (omega (arith, eqb-true f (suc n) e)))
      go false e = refl

  module _ (f : ℕ) (a : K) (g : ℕ) (b : K) (h : ℕ) (c : K) where
    -- the three at tick t
    abbrev pub three : ℕ → A → A
    three t x = once h c t (once g b t (once f a t x))

    sorted-by : f ≤ g → g ≤ h → (n : ℕ) (x : A) → walk three n x ≡ by n h c (by n g b (by n f a x))
    unfolding walk
    sorted-by fg gh zero x = sym (by-start h c (by 0 g b (by 0 f a x)) ∙ by-start g b (by 0 f a x) ∙ by-start f a x)
    sorted-by fg gh (suc n) x =
        ap (three (suc n)) (sorted-by fg gh n x)
        ∙ ap (λ (y : A). once h c (suc n) (once g b (suc n) y)) (by-past n f a h c (by n g b (by n f a x)) (omega arith) ∙ ap (by n h c) (by-past n f a g b (by n f a x) fg ∙ ap (by n g b) (by_next n f a x)))
        ∙ ap (once h c (suc n)) (by-past n g b h c (by n g b (by (suc n) f a x)) gh ∙ ap (by n h c) (by_next n g b (by (suc n) f a x)))
        ∙ by_next n h c (by (suc n) g b (by (suc n) f a x))

    -- in their order they may as well be struck at once
    sorted : f ≤ g → g ≤ h → (n : ℕ) → h ≤ n → (x : A) → walk three n x ≡ hit (due h c) (hit (due g b) (hit (due f a) x))
    sorted fg gh n hn x = sorted-by fg gh n x ∙ rw (le-leb h n hn, le-leb g n (omega arith), le-leb f n (omega arith))

  -- ---- two that are due at different ticks may change places

  swap : (t f : ℕ) (a : K) (g : ℕ) (b : K) (x : A) → (f ≡ g → ⊥) → once g b t (once f a t x) ≡ once f a t (once g b t x)
  swap t f a g b x d = go (eqb f t) refl (eqb g t) refl
    where
      go : (p : Bool) → eqb f t ≡ p → (q : Bool) → eqb g t ≡ q → cond q (hit b (cond p (hit a x) x)) (cond p (hit a x) x) ≡ cond p (hit a (cond q (hit b x) x)) (cond q (hit b x) x)
      go true e true l = absurd (d (eqb-true f t e ∙ sym (eqb-true g t l)))
      go true e false l = refl
      go false e q l = refl

  walk_same : (u v : ℕ → A → A) → ((t : ℕ) (x : A) → u t x ≡ v t x) → (n : ℕ) (x : A) → walk u n x ≡ walk v n x
  walk_same u v e n x = ap (λ (w : ℕ → A → A). walk w n x) (λ i t y. e t y i)

  -- the first two of three, and the last two
  swap-first : (f : ℕ) (a : K) (g : ℕ) (b : K) (h : ℕ) (c : K) (n : ℕ) (x : A) → g < f → walk (three f a g b h c) n x ≡ walk (three g b f a h c) n x
  swap-first f a g b h c n x l = walk_same (three f a g b h c) (three g b f a h c) (λ t y. ap (once h c t) (swap t f a g b y (λ e. omega arith))) n x

  swap-last : (f : ℕ) (a : K) (g : ℕ) (b : K) (h : ℕ) (c : K) (n : ℕ) (x : A) → h < g → walk (three f a g b h c) n x ≡ walk (three f a h c g b) n x
  swap-last f a g b h c n x l = walk_same (three f a g b h c) (three f a h c g b) (λ t y. swap t g b h c (once f a t y) (λ e. omega arith)) n x

  -- ---- the order

  abbrev pub hits : List K → A → A
  hits k x = hit (get_or k 2 idle) (hit (get_or k 1 idle) (hit (get_or k 0 idle) x))

  module _ (f : List ℕ) (a b c : K) (n : ℕ) (f0 : get_or f 0 0 ≤ n) (f1 : get_or f 1 0 ≤ n) (f2 : get_or f 2 0 ≤ n) (x : A) where
    abbrev p : ℕ
    p = get_or f 0 0

    abbrev q : ℕ
    q = get_or f 1 0

    abbrev r : ℕ
    r = get_or f 2 0

    pub in_order : walk (three p a q b r c) n x ≡ hits (ordered f (due p a) (due q b) (due r c)) x
    unfolding ordered
    in_order = go (ltb q p) refl (ltb r q) refl (ltb r p) refl
      where
        go :
            (u : Bool) → ltb q p ≡ u → (v : Bool) → ltb r q ≡ v → (w : Bool) → ltb r p ≡ w →
            walk (three p a q b r c) n x
            ≡ hits
            (cond u
            (cond v (due r c ∷ due q b ∷ due p a ∷ []) (cond w (due q b ∷ due r c ∷ due p a ∷ []) (due q b ∷ due p a ∷ due r c ∷ [])))
            (cond w (due r c ∷ due p a ∷ due q b ∷ []) (cond v (due p a ∷ due r c ∷ due q b ∷ []) (due p a ∷ due q b ∷ due r c ∷ []))))
            x
        go true u true v w l =
            swap-first p a q b r c n x (ltb-true q p u)
            ∙ swap-last q b p a r c n x (omega (arith, ltb-true q p u, ltb-true r q v))
            ∙ swap-first q b r c p a n x (ltb-true r q v)
            ∙ sorted r c q b p a (omega (arith, ltb-true r q v)) (omega (arith, ltb-true q p u)) n f0 x
        go true u false v true w =
            swap-first p a q b r c n x (ltb-true q p u)
            ∙ swap-last q b p a r c n x (ltb-true r p w)
            ∙ sorted q b r c p a (ltb-false r q v) (omega (arith, ltb-true r p w)) n f0 x
        go true u false v false w =
            swap-first p a q b r c n x (ltb-true q p u)
            ∙ sorted q b p a r c (omega (arith, ltb-true q p u)) (ltb-false r p w) n f2 x
        go false u v k true w =
            swap-last p a q b r c n x (omega (arith, ltb-true r p w, ltb-false q p u))
            ∙ swap-first p a r c q b n x (ltb-true r p w)
            ∙ sorted r c p a q b (omega (arith, ltb-true r p w)) (ltb-false q p u) n f1 x
        go false u true v false w =
            swap-last p a q b r c n x (ltb-true r q v) ∙ sorted p a r c q b (ltb-false r p w) (omega (arith, ltb-true r q v)) n f1 x
        go false u false v false w = sorted p a q b r c (ltb-false q p u) (ltb-false r q v) n f2 x
