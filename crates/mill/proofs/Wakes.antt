-- The other way: the story decides the word. So the screen does not sleep.
use Prim.Native.Nat.{ℕ}
use mathlib.Core.Path.{◌≡◌, ap, subst, ◌∙◌}
use mathlib.Core.List.{List, [], ◌∷◌, ◌++◌}
use Rattle.board.specs.Events.{end}
use Rattle.mill.specs.declared.Screen.{Screen}
use Rattle.mill.specs.declared.Mill.{Mill}
use Rattle.mill.specs.declared.MillCall.{MillCall}
use Rattle.mill.specs.Screen.{running, asked, taken, paused}
use Rattle.mill.specs.Runs.{run}
use Rattle.mill.specs.Story.{Stories, next, did, None, NotHeld, Held, NotDelivered, Delivered, NotEnded, Ended, RunningTells, AskedTells, TakenTells, PausedTells, stirs}
use Rattle.mill.proofs.Fits.{screen}
use Rattle.mill.proofs.Keeps.{Good, good-keeps, good-run}
use Rattle.mill.proofs.Sequences.{run-append, run-cons, none_before, none_after, none_first}
use Rattle.mill.proofs.ByWord.{Calm, takes-if, asks-on, pauses-if, serves_on, Ending, ends, ends-not, ending}
use Rattle.mill.proofs.Tales.{paused-stays, Looks, looks-asked, looks-running, looks_on}

abbrev word_of : Mill → ℕ
word_of m = m.screen.word

module _ (p : ℕ) where
  -- ---- in taken

  module _ (v : ℕ) where
    taken-stays : (cs : List MillCall) (m : Mill) → Good m → m.screen ≡ screen p taken v → Calm m cs → NotEnded v m cs → (run m cs).screen ≡ screen p taken v
    unfolding run None NotEnded
    taken-stays [] m g is calm n = is
    taken-stays (c ∷ cs) m g is calm n = taken-stays cs (next m c) (good-keeps m g c) (serves_on m g c calm.0 p v is n.0) calm.1 n.1

    taken-pauses :
        (before : List MillCall) (c : MillCall) (after : List MillCall) (m : Mill) → Good m → m.screen ≡ screen p taken v → Calm m (before ++ c ∷ after) →
        did (run m before) c ≡ end v → (run m (before ++ c ∷ after)).screen ≡ screen p paused v
    unfolding run None
    taken-pauses [] c after m g is calm e = paused-stays p v after (next m c) (good-keeps m g c) (pauses-if m g c calm.0 p v is e) calm.1
    taken-pauses (b ∷ before) c after m g is calm e =
        go (ending v (did m b)) (λ n. taken-pauses before c after (next m b) (good-keeps m g b) (serves_on m g b calm.0 p v is n) calm.1 e)
      where
        go : Ending v (did m b) → ((did m b ≡ end v → ⊥) → (run (next m b) (before ++ c ∷ after)).screen ≡ screen p paused v) → (run (next m b) (before ++ c ∷ after)).screen ≡ screen p paused v
        go (ends d) later = paused-stays p v (before ++ c ∷ after) (next m b) (good-keeps m g b) (pauses-if m g b calm.0 p v is d) calm.1
        go (ends-not n) later = later n

    not-ended-taken : (m : Mill) (cs : List MillCall) → Good m → m.screen ≡ screen p taken v → Calm m cs → NotEnded v m cs → word_of (run m cs) ≡ taken
    not-ended-taken m cs g is calm n = ap (λ (s : Screen). s.word) (taken-stays cs m g is calm n)

    ended-paused : (m : Mill) (cs : List MillCall) → Good m → m.screen ≡ screen p taken v → Calm m cs → Ended v m cs → word_of (run m cs) ≡ paused
    ended-paused m cs g is calm d =
        ap (λ (l : List MillCall). word_of (run m l)) d.split
        ∙ ap (λ (s : Screen). s.word) (taken-pauses d.before d.call d.after m g is (subst (Calm m) d.split calm) d.ends)

  -- ---- in asked

  asked-stays : (cs : List MillCall) (m : Mill) → Good m → m.screen ≡ screen p asked 0 → Calm m cs → NotDelivered p m cs → (run m cs).screen ≡ screen p asked 0
  unfolding run None NotDelivered
  asked-stays [] m g is calm n = is
  asked-stays (c ∷ cs) m g is calm n = asked-stays cs (next m c) (good-keeps m g c) (asks-on m g c calm.0 p is n.0) calm.1 n.1

  not-delivered-asked : (m : Mill) (cs : List MillCall) → Good m → m.screen ≡ screen p asked 0 → Calm m cs → NotDelivered p m cs → word_of (run m cs) ≡ asked
  not-delivered-asked m cs g is calm n = ap (λ (s : Screen). s.word) (asked-stays cs m g is calm n)

  -- a delivery, and what decides the word from then on
  module _ (T : ℕ → Stories) (w : ℕ) (decides : (v : ℕ) (m : Mill) (cs : List MillCall) → Good m → m.screen ≡ screen p taken v → Calm m cs → T v m cs → word_of (run m cs) ≡ w) where
    delivered-word : (m : Mill) (cs : List MillCall) → Good m → m.screen ≡ screen p asked 0 → Calm m cs → Delivered p T m cs → word_of (run m cs) ≡ w
    delivered-word m cs g is calm d =
        let rest = d.call ∷ d.after in
        let n = run m d.before in
        let quiet = subst (Calm m) d.split calm in
        let good = good-run d.before m g in
        let still = asked-stays d.before m g is (none_before stirs d.before rest m quiet) d.first in
        let then = none_first stirs d.call d.after n (none_after stirs d.before rest m quiet) in
        ap (λ (l : List MillCall). word_of (run m l)) d.split
        ∙ ap word_of (run-append d.before rest m ∙ run-cons d.call d.after n)
        ∙ decides d.vector (next n d.call) d.after (good-keeps n good d.call) (takes-if n good d.call then.0 p d.vector still d.gives) then.1 d.then

  -- ---- after a look at the pin

  looks-along : (cs : List MillCall) (m : Mill) → Good m → Looks p m → Calm m cs → NotHeld p m cs → Looks p (run m cs)
  unfolding run None NotHeld
  looks-along [] m g is calm n = is
  looks-along (c ∷ cs) m g is calm n = looks-along cs (next m c) (good-keeps m g c) (looks_on p m g c calm.0 is n.0) calm.1 n.1

  -- an edge that is held, and what decides the word from then on
  module _ (T : Stories) (w : ℕ) (decides : (m : Mill) (cs : List MillCall) → Good m → m.screen ≡ screen p asked 0 → Calm m cs → T m cs → word_of (run m cs) ≡ w) where
    held_word : (m : Mill) (cs : List MillCall) → Good m → Looks p m → Calm m cs → Held p T m cs → word_of (run m cs) ≡ w
    held_word m cs g is calm d =
        let n = run m d.before in
        let quiet = subst (Calm m) d.split calm in
        let looks = looks-along d.before m g is (none_before stirs d.before d.after m quiet) d.first in
        ap (λ (l : List MillCall). word_of (run m l)) d.split
        ∙ ap word_of (run-append d.before d.after m)
        ∙ decides n d.after (good-run d.before m g) (looks-asked p n looks d.held) (none_after stirs d.before d.after m quiet) d.then

  module _ (m : Mill) (cs : List MillCall) (g : Good m) (is : Looks p m) (calm : Calm m cs) where
    pub running-if : RunningTells p m cs → word_of (run m cs) ≡ running
    running-if n = ap (λ (s : Screen). s.word) (looks-running p (run m cs) (looks-along cs m g is calm n.0) n.1)

    pub asked-if : AskedTells p m cs → word_of (run m cs) ≡ asked
    asked-if = held_word (NotDelivered p) asked not-delivered-asked m cs g is calm

    pub taken-if : TakenTells p m cs → word_of (run m cs) ≡ taken
    taken-if = held_word (Delivered p NotEnded) taken (delivered-word NotEnded taken not-ended-taken) m cs g is calm

    pub paused-if : PausedTells p m cs → word_of (run m cs) ≡ paused
    paused-if = held_word (Delivered p Ended) paused (delivered-word Ended paused ended-paused) m cs g is calm
