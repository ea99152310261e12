-- A telling that is done and a resume that takes effect look at the pin; the pin stays until another telling or a
-- reset.
use Prim.Native.Nat.{ℕ}
use mathlib.Core.Path.{◌≡◌, refl, sym, ap, subst, ◌∙◌}
use mathlib.Core.Bool.{Bool, true, false, cond}
use mathlib.Core.List.{List, [], ◌∷◌, ◌++◌, append_assoc}
use lib.Dec.{eqb, ltb}
use Rattle.pins.proofs.Bools.{clash}
use Rattle.answers.specs.declared.Answer.TheVariants as answer
use Rattle.answers.specs.declared.Refusal.TheVariants as refusal
use Rattle.answers.specs.Numbers.{is_done}
use Rattle.board.specs.Events.{Event, reset, delivery, end, other, holds, is_edge}
use Rattle.mill.specs.declared.Screen.{Screen}
use Rattle.mill.specs.declared.Mill.{Mill}
use Rattle.mill.specs.declared.MillCall.{MillCall}
use Rattle.mill.specs.declared.MillCall.TheVariants as millcall
use Rattle.mill.specs.declared.MillTurn.{MillTurn}
use Rattle.mill.specs.Screen.{running, asked, taken, paused, is_told, from_asked, from_taken, looked_of, moved_of}
use Rattle.mill.specs.Mill.{reset_mill, turn, refused, looked_at, telling_of, is_paused, resuming_of, turn_of}
use Rattle.mill.specs.Runs.{run}
use Rattle.mill.specs.Story.{next, done, did, tells, resets, None, Told, unpins}
use Rattle.mill.proofs.Served.{tell-served, resume-served}
use Rattle.mill.proofs.Keeps.{Good, good-out, good-reset, good-keeps, good-run}
use Rattle.mill.proofs.Steps.{untold-same, resumed-same, moves}
use Rattle.mill.proofs.Sequences.{run-append}
use Rattle.mill.proofs.ByWord.{neither}
use Rattle.mill.proofs.Tales.{Looks}

-- ---- the two calls that look at the pin

module _ (m : Mill) (g : Good m) where
  pub told-looks : (p : ℕ) → done m (millcall.Tell p) ≡ true → Looks p (next m (millcall.Tell p))
  unfolding telling_of
  told-looks p e =
      subst (λ (t : MillTurn). t.mill.screen ≡ looked_of p (holds t.mill.board p)) (sym is)
      (go (ltb p 24) (is_edge m.board p) (ap (λ (t : MillTurn). is_done t.answer) (sym is) ∙ e))
    where
      is : turn_of m (millcall.Tell p) ≡ telling_of m p
      is = tell-served m p (good-out m g)

      go :
          (x y : Bool) → is_done (cond x (cond y (turn (looked_at m p) answer.Done) (refused m refusal.NotEdge)) (refused m refusal.Pin)).answer ≡ true →
          let n = (cond x (cond y (turn (looked_at m p) answer.Done) (refused m refusal.NotEdge)) (refused m refusal.Pin)).mill in n.screen ≡ looked_of p (holds n.board p)
      go true true e = refl
      go true false e = clash (sym e)
      go false y e = clash (sym e)

  pub resumed-is : is_paused m ≡ true → next m millcall.Resume ≡ looked_at m m.screen.pin
  unfolding resuming_of
  resumed-is e = ap (λ (t : MillTurn). t.mill) (resume-served m (good-out m g)) ∙ ap (λ (x : Bool). cond x (looked_at m m.screen.pin) m) e

  pub resumed-looks : is_paused m ≡ true → Looks m.screen.pin (next m millcall.Resume)
  resumed-looks e = subst (λ (n : Mill). n.screen ≡ looked_of m.screen.pin (holds n.board m.screen.pin)) (sym (resumed-is e)) refl

-- ---- the pin stays until another telling or a reset

pub record Pinned (p : ℕ) (s : Screen) : Type 0 where
  pub has-pin : is_told s ≡ true
  pub is-pin : s.pin ≡ p

pub pinned-looked : (p : ℕ) (x : Bool) → Pinned p (looked_of p x)
unfolding looked_of
pinned-looked p x = record { has-pin = refl; is-pin = refl }

module _ (p : ℕ) (s : Screen) (z : Pinned p s) where
  -- whatever moves it
  pinned-if : (x : Bool) (a b : Screen) → Pinned p a → Pinned p b → Pinned p (cond x a b)
  pinned-if true a b y n = y
  pinned-if false a b y n = n

  abbrev still : (w v : ℕ) → Pinned p (record { told = s.told; pin = s.pin; word = w; vector = v })
  still w v = record { has-pin = z.has-pin; is-pin = z.is-pin }

  pinned-asked : (e : Event) → Pinned p (from_asked s e)
  pinned-asked reset = z
  pinned-asked (delivery q v) = pinned-if (eqb q s.pin) _ s (still taken v) z
  pinned-asked (end v) = z
  pinned-asked other = z

  pinned-taken : (e : Event) → Pinned p (from_taken s e)
  pinned-taken reset = z
  pinned-taken (delivery q v) = z
  pinned-taken (end v) = pinned-if (eqb v s.vector) _ s (still paused s.vector) z
  pinned-taken other = z

  pinned-moved : (h : Bool) (e : Event) → Pinned p (moved_of s h e)
  unfolding moved_of
  pinned-moved h e =
      pinned-if (eqb s.word running) _ _ (pinned-if h _ s (still asked s.vector) z)
      (pinned-if (eqb s.word asked) _ _ (pinned-asked e)
      (pinned-if (eqb s.word taken) _ s (pinned-taken e) z))

module _ (p : ℕ) (m : Mill) (g : Good m) (z : Pinned p m.screen) where
  same-pinned : (n : Mill) → n ≡ m → Pinned p n.screen
  same-pinned n same = subst (λ (x : Mill). Pinned p x.screen) (sym same) z

  -- a call that is no done telling and no done reset
  pinned-on : (c : MillCall) → tells m c ≡ false → resets m c ≡ false → Pinned p (next m c).screen
  pinned-on (millcall.Board c) t r =
      subst (Pinned p) (sym (moves m g z.has-pin (millcall.Board c) refl refl r))
      (pinned-moved p m.screen z (holds (next m (millcall.Board c)).board m.screen.pin) (did m (millcall.Board c)))
  pinned-on (millcall.Tell q) t r = same-pinned (next m (millcall.Tell q)) (untold-same m g q t)
  pinned-on millcall.Resume t r = go (is_paused m) refl
    where
      go : (x : Bool) → is_paused m ≡ x → Pinned p (next m millcall.Resume).screen
      go true e =
          subst (λ (x : Mill). Pinned p x.screen) (sym (resumed-is m g e))
          (subst (λ (q : ℕ). Pinned p (looked_of q (holds m.board q))) (sym z.is-pin) (pinned-looked p (holds m.board p)))
      go false e = same-pinned (next m millcall.Resume) (resumed-same m g e)

pinned-along : (cs : List MillCall) (p : ℕ) (m : Mill) → Good m → Pinned p m.screen → None unpins m cs → Pinned p (run m cs).screen
unfolding run None
pinned-along [] p m g z n = z
pinned-along (c ∷ cs) p m g z n =
    let quiet = neither (tells m c) (resets m c) n.0 in
    pinned-along cs p (next m c) (good-keeps m g c) (pinned-on p m g z c quiet.0 quiet.1) n.1

-- one call more
pub run_more : (cs : List MillCall) (c : MillCall) (m : Mill) → run m (cs ++ c ∷ []) ≡ next (run m cs) c
unfolding run
run_more cs c m = run-append cs (c ∷ []) m

pub good-from-reset : (cs : List MillCall) → Good (run reset_mill cs)
good-from-reset cs = good-run cs reset_mill good-reset

-- the pin that was told last is the screen's
pub told-pinned : (cs : List MillCall) (p : ℕ) → Told cs p → Pinned p (run reset_mill cs).screen
told-pinned cs p t =
    let m = run reset_mill t.before in
    let n = run reset_mill (t.before ++ millcall.Tell p ∷ []) in
    let first : n.screen ≡ looked_of p (holds (next m (millcall.Tell p)).board p) =
    ap (λ (x : Mill). x.screen) (run_more t.before (millcall.Tell p) reset_mill) ∙ told-looks m (good-from-reset t.before) p t.was-done in
    let whole : run reset_mill cs ≡ run n t.after =
    ap (run reset_mill) (t.split ∙ sym (append_assoc t.before (millcall.Tell p ∷ []) t.after))
    ∙ run-append (t.before ++ millcall.Tell p ∷ []) t.after reset_mill in
    subst (λ (x : Mill). Pinned p x.screen) (sym whole)
    (pinned-along t.after p n (good-from-reset (t.before ++ millcall.Tell p ∷ [])) (subst (Pinned p) (sym first) (pinned-looked p (holds (next m (millcall.Tell p)).board p))) t.last)
