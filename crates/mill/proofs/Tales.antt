-- What the words tell of the calls since a look at the pin, none of which is a telling that is done, a resume that
-- takes effect or a reset:
-- each word tells its story. So the screen does not lie.
use Prim.Native.Nat.{ℕ}
use mathlib.Core.Path.{◌≡◌, refl, sym, ap, subst, ◌∙◌}
use mathlib.Core.Bool.{Bool, true, false, cond}
use mathlib.Core.List.{List, [], ◌∷◌}
use Rattle.board.specs.Events.{delivery, end, holds}
use Rattle.mill.specs.declared.Screen.{Screen}
use Rattle.mill.specs.declared.Mill.{Mill}
use Rattle.mill.specs.declared.MillCall.{MillCall}
use Rattle.mill.specs.Screen.{running, asked, taken, paused, looked_of}
use Rattle.mill.specs.Runs.{run}
use Rattle.mill.specs.Story.{Stories, next, did, None, NotHeld, Held, NotDelivered, Delivered, NotEnded, Ended, RunningTells, AskedTells, TakenTells, PausedTells, stirs}
use Rattle.mill.proofs.Fits.{screen}
use Rattle.mill.proofs.Keeps.{Good, good-keeps}
use Rattle.mill.proofs.ByWord.{Calm, asks-if, runs_on, takes-if, asks-on, pauses-if, serves_on, pauses-on, Delivering, gives, gives-not, delivering, Ending, ends, ends-not, ending}

-- ---- what a word tells: a story for each

pub data Tale (R A T P : Stories) (m : Mill) (cs : List MillCall) : ℕ → Type 0 where
  running-tells : R m cs → Tale R A T P m cs running
  asked-tells : A m cs → Tale R A T P m cs asked
  taken-tells : T m cs → Tale R A T P m cs taken
  paused-tells : P m cs → Tale R A T P m cs paused

abbrev Never : Stories
Never m cs = ⊥

module _ {R A T P R' A' T' P' : Stories} {m m' : Mill} {cs cs' : List MillCall} where
  retold : (R m cs → R' m' cs') → (A m cs → A' m' cs') → (T m cs → T' m' cs') → (P m cs → P' m' cs') → {w : ℕ} → Tale R A T P m cs w → Tale R' A' T' P' m' cs' w
  retold r a t q (running-tells x) = running-tells (r x)
  retold r a t q (asked-tells x) = asked-tells (a x)
  retold r a t q (taken-tells x) = taken-tells (t x)
  retold r a t q (paused-tells x) = paused-tells (q x)

-- ---- in paused, in taken

module _ (p v : ℕ) where
  pub paused-stays : (cs : List MillCall) (m : Mill) → Good m → m.screen ≡ screen p paused v → Calm m cs → (run m cs).screen ≡ screen p paused v
  unfolding run None
  paused-stays [] m g is calm = is
  paused-stays (c ∷ cs) m g is calm = paused-stays cs (next m c) (good-keeps m g c) (pauses-on m g c calm.0 p v is) calm.1

  abbrev TakenTale : Mill → List MillCall → ℕ → Type 0
  TakenTale = Tale Never Never (NotEnded v) (Ended v)

  later-ended : (c : MillCall) (m : Mill) (cs : List MillCall) → Ended v (next m c) cs → Ended v m (c ∷ cs)
  unfolding run
  later-ended c m cs d = record { before = c ∷ d.before; call = d.call; after = d.after; split = ap (λ (l : List MillCall). c ∷ l) d.split; ends = d.ends }

  taken-tale : (cs : List MillCall) (m : Mill) → Good m → m.screen ≡ screen p taken v → Calm m cs → TakenTale m cs (run m cs).screen.word
  unfolding run None NotEnded
  taken-tale [] m g is calm = subst (TakenTale m []) (ap (λ (s : Screen). s.word) (sym is)) (taken-tells tt)
  taken-tale (c ∷ cs) m g is calm =
      go (ending v (did m c)) (λ n. taken-tale cs (next m c) (good-keeps m g c) (serves_on m g c calm.0 p v is n) calm.1)
    where
      go :
          Ending v (did m c) → ((did m c ≡ end v → ⊥) → TakenTale (next m c) cs (run (next m c) cs).screen.word) →
          TakenTale m (c ∷ cs) (run (next m c) cs).screen.word
      go (ends e) later =
          subst (TakenTale m (c ∷ cs))
          (ap (λ (s : Screen). s.word) (sym (paused-stays cs (next m c) (good-keeps m g c) (pauses-if m g c calm.0 p v is e) calm.1)))
          (paused-tells (record { before = []; call = c; after = cs; split = refl; ends = e }))
      go (ends-not n) later = retold (λ x. x) (λ x. x) (λ x. (n, x)) (later-ended c m cs) (later n)

-- ---- in asked

module _ (p : ℕ) where
  abbrev AskedTale : Mill → List MillCall → ℕ → Type 0
  AskedTale = Tale Never (NotDelivered p) (Delivered p NotEnded) (Delivered p Ended)

  module _ (T : ℕ → Stories) (c : MillCall) (m : Mill) (cs : List MillCall) where
    now-delivered : (v : ℕ) → did m c ≡ delivery p v → T v (next m c) cs → Delivered p T m (c ∷ cs)
    unfolding run NotDelivered
    now-delivered v e x = record { before = []; call = c; after = cs; split = refl; first = tt; vector = v; gives = e; then = x }

    later-delivered : ((v : ℕ) → did m c ≡ delivery p v → ⊥) → Delivered p T (next m c) cs → Delivered p T m (c ∷ cs)
    unfolding run NotDelivered
    later-delivered n d =
        record {
          before = c ∷ d.before;
          call = d.call;
          after = d.after;
          split = ap (λ (l : List MillCall). c ∷ l) d.split;
          first = (n, d.first);
          vector = d.vector;
          gives = d.gives;
          then = d.then;
        }

  asked-tale : (cs : List MillCall) (m : Mill) → Good m → m.screen ≡ screen p asked 0 → Calm m cs → AskedTale m cs (run m cs).screen.word
  unfolding run None NotDelivered
  asked-tale [] m g is calm = subst (AskedTale m []) (ap (λ (s : Screen). s.word) (sym is)) (asked-tells tt)
  asked-tale (c ∷ cs) m g is calm =
      go (delivering p (did m c)) (λ n. asked-tale cs (next m c) (good-keeps m g c) (asks-on m g c calm.0 p is n) calm.1)
    where
      go : Delivering p (did m c) → (((v : ℕ) → did m c ≡ delivery p v → ⊥) → AskedTale (next m c) cs (run (next m c) cs).screen.word) → AskedTale m (c ∷ cs) (run (next m c) cs).screen.word
      go (gives v e) later =
          retold (λ x. x) (λ x. absurd x) (now-delivered NotEnded c m cs v e) (now-delivered Ended c m cs v e)
          (taken-tale p v cs (next m c) (good-keeps m g c) (takes-if m g c calm.0 p v is e) calm.1)
      go (gives-not n) later = retold (λ x. x) (λ x. (n, x)) (later-delivered NotEnded c m cs n) (later-delivered Ended c m cs n) (later n)

  -- ---- after a look at the pin

  -- the screen says what a look at the pin would
  abbrev pub Looks : Mill → Type 0
  Looks m = m.screen ≡ looked_of p (holds m.board p)

  pub looks-asked : (m : Mill) → Looks m → holds m.board p ≡ true → m.screen ≡ screen p asked 0
  unfolding looked_of
  looks-asked m is h = is ∙ ap (λ (x : Bool). screen p (cond x asked running) 0) h

  pub looks-running : (m : Mill) → Looks m → holds m.board p ≡ false → m.screen ≡ screen p running 0
  unfolding looked_of
  looks-running m is h = is ∙ ap (λ (x : Bool). screen p (cond x asked running) 0) h

  -- in running it goes on saying so
  pub looks_on : (m : Mill) → Good m → (c : MillCall) → stirs m c ≡ false → Looks m → holds m.board p ≡ false → Looks (next m c)
  unfolding looked_of
  looks_on m g c calm is h = go (holds (next m c).board p) refl
    where
      was : m.screen ≡ screen p running 0
      was = looks-running m is h

      go : (x : Bool) → holds (next m c).board p ≡ x → (next m c).screen ≡ screen p (cond (holds (next m c).board p) asked running) 0
      go true e = asks-if m g c calm p was e ∙ ap (λ (x : Bool). screen p (cond x asked running) 0) (sym e)
      go false e = runs_on m g c calm p was e ∙ ap (λ (x : Bool). screen p (cond x asked running) 0) (sym e)

  abbrev pub WordTells : Mill → List MillCall → ℕ → Type 0
  WordTells = Tale (RunningTells p) (AskedTells p) (TakenTells p) (PausedTells p)

  module _ (T : Stories) (m : Mill) where
    now-held : (cs : List MillCall) → holds m.board p ≡ true → T m cs → Held p T m cs
    unfolding run NotHeld
    now-held cs h x = record { before = []; after = cs; split = refl; first = tt; held = h; then = x }

    later-held : (c : MillCall) (cs : List MillCall) → holds m.board p ≡ false → Held p T (next m c) cs → Held p T m (c ∷ cs)
    unfolding run NotHeld
    later-held c cs h d =
        record { before = c ∷ d.before; after = d.after; split = ap (λ (l : List MillCall). c ∷ l) d.split; first = (h, d.first); held = d.held; then = d.then }

  pub word-tells : (cs : List MillCall) (m : Mill) → Good m → Looks m → Calm m cs → WordTells m cs (run m cs).screen.word
  unfolding run None NotHeld
  word-tells [] m g is calm = go (holds m.board p) refl
    where
      go : (x : Bool) → holds m.board p ≡ x → WordTells m [] m.screen.word
      go true h =
          retold (λ x. absurd x) (now-held (NotDelivered p) m [] h) (now-held (Delivered p NotEnded) m [] h) (now-held (Delivered p Ended) m [] h)
          (asked-tale [] m g (looks-asked m is h) calm)
      go false h = subst (WordTells m []) (ap (λ (s : Screen). s.word) (sym (looks-running m is h))) (running-tells (tt, h))
  word-tells (c ∷ cs) m g is calm = go (holds m.board p) refl (λ h. word-tells cs (next m c) (good-keeps m g c) (looks_on m g c calm.0 is h) calm.1)
    where
      go : (x : Bool) → holds m.board p ≡ x → (holds m.board p ≡ false → WordTells (next m c) cs (run (next m c) cs).screen.word) → WordTells m (c ∷ cs) (run (next m c) cs).screen.word
      go true h later =
          retold (λ x. absurd x) (now-held (NotDelivered p) m (c ∷ cs) h) (now-held (Delivered p NotEnded) m (c ∷ cs) h) (now-held (Delivered p Ended) m (c ∷ cs) h)
          (asked-tale (c ∷ cs) m g (looks-asked m is h) calm)
      go false h later =
          retold (λ x. ((h, x.0), x.1)) (later-held (NotDelivered p) m c cs h) (later-held (Delivered p NotEnded) m c cs h) (later-held (Delivered p Ended) m c cs h)
          (later h)
