-- The calls since the telling or the last resume that took effect: where a screen has a pin there are such, and right
-- after the first of them the screen says what a look at the pin says.
use Prim.Native.Nat.{ℕ}
use mathlib.Core.Path.{◌≡◌, refl, sym, ap, subst, ◌∙◌}
use mathlib.Core.Bool.{Bool, true, false, ◌&&◌, ◌||◌}
use mathlib.Core.List.{List, [], ◌∷◌, ◌++◌, append_assoc, append-nil}
use lib.Dec.{eqb}
use Rattle.pins.proofs.Bools.{clash}
use Rattle.answers.specs.Numbers.{is_done}
use Rattle.board.specs.declared.Call.{Call}
use Rattle.board.specs.declared.Call.TheVariants as call
use Rattle.board.specs.Step.{turn_of as board_turn}
use Rattle.board.specs.Events.{Event, reset, delivery, end, other, is_reset, event_of}
use Rattle.mill.specs.declared.Screen.{Screen}
use Rattle.settings.specs.declared.Settings.{Settings}
use Rattle.settings.specs.Settings.{in_range}
use Rattle.mill.specs.declared.Mill.{Mill}
use Rattle.mill.specs.declared.MillCall.{MillCall}
use Rattle.mill.specs.declared.MillCall.TheVariants as millcall
use Rattle.mill.specs.declared.MillTurn.{MillTurn}
use Rattle.mill.specs.Screen.{paused, blank, looked_of, shown_after}
use Rattle.mill.specs.Mill.{reset_to, reset_mill, held_of, is_paused}
use Rattle.mill.specs.Runs.{run}
use Rattle.mill.specs.Story.{next, done, tells, resumes, resets, None, Told, Since, begun, stirs, unpins}
use Rattle.mill.proofs.Served.{by-board, reset-served}
use Rattle.mill.proofs.Keeps.{Good, good-out}
use Rattle.mill.proofs.Steps.{untold-same, resumed-same, shown-reset}
use Rattle.mill.proofs.Sequences.{run-append, run-cons, none_after, none_first, none_more, none-nil}
use Rattle.mill.proofs.Tales.{Looks}
use Rattle.mill.proofs.Pinned.{told-looks, resumed-looks, run_more, good-from-reset, told-pinned}

-- ---- right after the first of them

looks-at : (p q : ℕ) (m : Mill) → q ≡ p → Looks q m → Looks p m
looks-at p q m e is = subst (λ (i : ℕ). Looks i m) e is

looked-pin : (q : ℕ) (m : Mill) → Looks q m → m.screen.pin ≡ q
unfolding looked_of
looked-pin q m is = ap (λ (s : Screen). s.pin) is

first-looks : (before : List MillCall) (first : MillCall) (p : ℕ) → tells (run reset_mill before) first || resumes (run reset_mill before) first ≡ true → Told (before ++ first ∷ []) p → Looks p (next (run reset_mill before) first)
first-looks before (millcall.Board c) p b t = clash (sym b)
first-looks before (millcall.Tell q) p b t =
    let m = run reset_mill before in
    let is = told-looks m (good-from-reset before) q (or-false (done m (millcall.Tell q)) ∙ b) in
    let pin = (told-pinned (before ++ millcall.Tell q ∷ []) p t).is-pin in
    looks-at p q (next m (millcall.Tell q)) (sym (looked-pin q (next m (millcall.Tell q)) is) ∙ ap (λ (x : Mill). x.screen.pin) (sym (run_more before (millcall.Tell q) reset_mill)) ∙ pin) is
  where
    or-false : (x : Bool) → x ≡ x || false
    or-false true = refl
    or-false false = refl
first-looks before millcall.Resume p b t =
    let m = run reset_mill before in
    let is = resumed-looks m (good-from-reset before) b in
    let pin = (told-pinned (before ++ millcall.Resume ∷ []) p t).is-pin in
    looks-at p m.screen.pin (next m millcall.Resume) (sym (looked-pin m.screen.pin (next m millcall.Resume) is) ∙ ap (λ (x : Mill). x.screen.pin) (sym (run_more before millcall.Resume reset_mill)) ∙ pin) is

pub since-looks : (cs : List MillCall) (p : ℕ) (s : Since cs p) → Looks p (begun s)
since-looks cs p s = subst (Looks p) (sym (run_more s.before s.first reset_mill)) (first-looks s.before s.first p s.begins s.told)

pub since-good : (cs : List MillCall) (p : ℕ) (s : Since cs p) → Good (begun s)
since-good cs p s = good-from-reset (s.before ++ s.first ∷ [])

pub since-run : (cs : List MillCall) (p : ℕ) (s : Since cs p) → run reset_mill cs ≡ run (begun s) s.after
since-run cs p s =
    ap (run reset_mill) (s.split ∙ sym (append_assoc s.before (s.first ∷ []) s.after)) ∙ run-append (s.before ++ s.first ∷ []) s.after reset_mill

-- ---- there are such calls, or no pin

pub data History (cs : List MillCall) : Type 0 where
  unpinned : (run reset_mill cs).screen ≡ blank → History cs
  pinned : (p : ℕ) → Told cs p → Since cs p → History cs

-- one call more, which is none of those that would end it
told-on : (cs : List MillCall) (p : ℕ) (c : MillCall) → Told cs p → tells (run reset_mill cs) c ≡ false → resets (run reset_mill cs) c ≡ false → Told (cs ++ c ∷ []) p
told-on cs p c t no-telling no-reset =
    let first = t.before ++ millcall.Tell p ∷ [] in
    let here : run reset_mill cs ≡ run (run reset_mill first) t.after =
    ap (run reset_mill) (t.split ∙ sym (append_assoc t.before (millcall.Tell p ∷ []) t.after)) ∙ run-append first t.after reset_mill in
    record {
      before = t.before;
      after = t.after ++ c ∷ [];
      split = ap (λ (l : List MillCall). l ++ c ∷ []) t.split ∙ append_assoc t.before (millcall.Tell p ∷ t.after) (c ∷ []);
      was-done = t.was-done;
      last = none_more unpins t.after c (run reset_mill first) t.last (subst (λ (x : Mill). unpins x c ≡ false) here (rw (no-telling, no-reset) refl));
    }

since-on : (cs : List MillCall) (p : ℕ) (c : MillCall) → Since cs p → stirs (run reset_mill cs) c ≡ false → Since (cs ++ c ∷ []) p
since-on cs p c s calm =
    record {
      before = s.before;
      first = s.first;
      after = s.after ++ c ∷ [];
      split = ap (λ (l : List MillCall). l ++ c ∷ []) s.split ∙ append_assoc s.before (s.first ∷ s.after) (c ∷ []);
      begins = s.begins;
      told = s.told;
      last = none_more stirs s.after c (begun s) s.last (subst (λ (x : Mill). stirs x c ≡ false) (since-run cs p s) calm);
    }

-- a call with which they begin
since-now : (cs : List MillCall) (p : ℕ) (c : MillCall) → tells (run reset_mill cs) c || resumes (run reset_mill cs) c ≡ true → Told (cs ++ c ∷ []) p → Since (cs ++ c ∷ []) p
since-now cs p c b t =
    record { before = cs; first = c; after = []; split = refl; begins = b; told = t; last = none-nil stirs (run reset_mill (cs ++ c ∷ [])) }

told-now : (cs : List MillCall) (p : ℕ) → done (run reset_mill cs) (millcall.Tell p) ≡ true → Told (cs ++ millcall.Tell p ∷ []) p
told-now cs p e =
    record { before = cs; after = []; split = refl; was-done = e; last = none-nil unpins (run reset_mill (cs ++ millcall.Tell p ∷ [])) }

telling-now : (cs : List MillCall) (p : ℕ) → done (run reset_mill cs) (millcall.Tell p) ≡ true → History (cs ++ millcall.Tell p ∷ [])
telling-now cs p e = pinned p (told-now cs p e) (since-now cs p (millcall.Tell p) (rw e refl) (told-now cs p e))

module _ (cs : List MillCall) where
  abbrev here : Mill
  here = run reset_mill cs

  good : Good here
  good = good-from-reset cs

  after_is : (c : MillCall) (s : Screen) → (next here c).screen ≡ s → (run reset_mill (cs ++ c ∷ [])).screen ≡ s
  after_is c s e = ap (λ (x : Mill). x.screen) (run_more cs c reset_mill) ∙ e

  -- a screen with no pin
  blank-board : here.screen ≡ blank → (c : Call) → (next here (millcall.Board c)).screen ≡ blank
  unfolding shown_after
  blank-board e c =
      let t = board_turn here.board c in
      ap (λ (u : MillTurn). u.mill.screen) (by-board here c (good-out here good))
      ∙ ap (λ (s : Screen). shown_after s (held_of t.board) (event_of c t.answer)) e
      ∙ go (held_of t.board) (event_of c t.answer)
    where
      go : (held : List ℕ) (x : Event) → shown_after blank held x ≡ blank
      go held reset = refl
      go held (delivery p v) = refl
      go held (end v) = refl
      go held other = refl

  unpinned-on : here.screen ≡ blank → (c : MillCall) → History (cs ++ c ∷ [])
  unpinned-on e (millcall.Board c) = unpinned (after_is (millcall.Board c) blank (blank-board e c))
  unpinned-on e (millcall.Tell p) = go (done here (millcall.Tell p)) refl
    where
      go : (x : Bool) → done here (millcall.Tell p) ≡ x → History (cs ++ millcall.Tell p ∷ [])
      go true d = telling-now cs p d
      go false d = unpinned (after_is (millcall.Tell p) blank (ap (λ (x : Mill). x.screen) (untold-same here good p d) ∙ e))
  unpinned-on e millcall.Resume =
      unpinned (after_is millcall.Resume blank (ap (λ (x : Mill). x.screen) (resumed-same here good (ap (λ (s : Screen). eqb s.word paused) e)) ∙ e))

  -- a screen with a pin
  module _ (p : ℕ) (t : Told cs p) (s : Since cs p) where
    quiet-on : (c : MillCall) → tells here c ≡ false → resumes here c ≡ false → resets here c ≡ false → History (cs ++ c ∷ [])
    quiet-on c no-telling no-resume no-reset =
        pinned p (told-on cs p c t no-telling no-reset) (since-on cs p c s (rw (no-telling, no-resume, no-reset) refl))

    board-on : (c : Call) → History (cs ++ millcall.Board c ∷ [])
    board-on c = go (resets here (millcall.Board c)) refl
      where
        go : (x : Bool) → resets here (millcall.Board c) ≡ x → History (cs ++ millcall.Board c ∷ [])
        go true e =
            let b = board_turn here.board c in
            let is = by-board here c (good-out here good) in
            unpinned (after_is (millcall.Board c) blank
            (ap (λ (u : MillTurn). u.mill.screen) is
            ∙ shown-reset here.screen (held_of b.board) c b.answer (ap (λ (u : MillTurn). is_reset c && is_done u.answer) (sym is) ∙ e)))
        go false e = quiet-on (millcall.Board c) refl refl e

    pinned-history : (c : MillCall) → History (cs ++ c ∷ [])
    pinned-history (millcall.Board c) = board-on c
    pinned-history (millcall.Tell q) = go (done here (millcall.Tell q)) refl
      where
        go : (x : Bool) → done here (millcall.Tell q) ≡ x → History (cs ++ millcall.Tell q ∷ [])
        go true e = telling-now cs q e
        go false e = quiet-on (millcall.Tell q) e refl refl
    pinned-history millcall.Resume = go (is_paused here) refl
      where
        go : (x : Bool) → is_paused here ≡ x → History (cs ++ millcall.Resume ∷ [])
        go true e = let t' = told-on cs p millcall.Resume t refl refl in pinned p t' (since-now cs p millcall.Resume e t')
        go false e = quiet-on millcall.Resume refl e refl

  history-on : History cs → (c : MillCall) → History (cs ++ c ∷ [])
  history-on (unpinned e) c = unpinned-on e c
  history-on (pinned p t s) c = pinned-history p t s c

history-from : (cs ds : List MillCall) → History cs → History (cs ++ ds)
history-from cs [] h = subst History (sym (append-nil cs)) h
history-from cs (c ∷ ds) h = subst History (append_assoc cs (c ∷ []) ds) (history-from (cs ++ c ∷ []) ds (history-on cs h c))

pub history : (cs : List MillCall) → History cs
unfolding run
history cs = history-from [] cs (unpinned refl)

-- "Before a telling … it has no pin and says running."
pub untold-blank : (cs : List MillCall) → None tells reset_mill cs → (run reset_mill cs).screen ≡ blank
untold-blank cs n = go (history cs)
  where
    go : History cs → (run reset_mill cs).screen ≡ blank
    go (unpinned e) = e
    go (pinned p t s) =
        let there = none_after tells t.before (millcall.Tell p ∷ t.after) reset_mill (subst (None tells reset_mill) t.split n) in
        clash (sym t.was-done ∙ (none_first tells (millcall.Tell p) t.after (run reset_mill t.before) there).0)

-- "… and after a board reset it has no pin and says running."
pub reset-blank : (cs ds : List MillCall) (z : Settings) → in_range z ≡ true → None tells (reset_to z) ds → (run reset_mill (cs ++ millcall.Board (call.Reset z) ∷ ds)).screen ≡ blank
unfolding None
reset-blank cs ds z e n =
    let again = millcall.Board (call.Reset z) in
    let after : (m : Mill) → run m (again ∷ ds) ≡ run (reset_to z) ds = λ (m : Mill). run-cons again ds m ∙ ap (λ (t : MillTurn). run t.mill ds) (reset-served m z e) in
    ap (λ (x : Mill). x.screen) (run-append cs (again ∷ ds) reset_mill ∙ after (run reset_mill cs) ∙ sym (after reset_mill))
    ∙ untold-blank (again ∷ ds) (refl, subst (λ (t : MillTurn). None tells t.mill ds) (sym (reset-served reset_mill z e)) n)
