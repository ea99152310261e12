-- The pause screen's sentence, for a reader who looks here first: "For any sequence of its calls from reset, the screen
-- says paused only if, since the telling or the last resume that took effect, the pin held an edge, then was delivered,
-- then the delivered vector was ended." The same for the other words, and each the other way: the screen neither lies
-- nor sleeps.
use Prim.Native.Nat.{ℕ}
use mathlib.Core.Path.{◌≡◌, sym, ap, subst, ◌∙◌}
use mathlib.Core.Bool.{true}
use mathlib.Core.List.{List}
use mathlib.Core.Logic.{◌⊎◌, inl, inr}
use native.Mathlib.Omega.{arith}
use borrow.Author.Tests.{eq-eqb, eqb-true}
use Rattle.mill.specs.declared.Screen.{Screen}
use Rattle.mill.specs.declared.Mill.{Mill}
use Rattle.mill.specs.declared.MillCall.{MillCall}
use Rattle.mill.specs.declared.MillCall.TheVariants as millcall
use Rattle.mill.specs.Screen.{running, asked, taken, paused, blank}
use Rattle.mill.specs.Mill.{reset_mill}
use Rattle.mill.specs.Runs.{run}
use Rattle.mill.specs.Story.{Stories, Since, begun, RunningTells, AskedTells, TakenTells, PausedTells, Why, word_after, resumes}
use Rattle.mill.proofs.Tales.{running-tells, asked-tells, taken-tells, paused-tells, WordTells, word-tells}
use Rattle.mill.proofs.Wakes as wakes
use Rattle.mill.proofs.Since.{History, unpinned, pinned, history, since-looks, since-good, since-run}

-- ---- what a word tells

module _ (p : ℕ) (m : Mill) (cs : List MillCall) where
  running-story : (w : ℕ) → WordTells p m cs w → w ≡ running → RunningTells p m cs
  running-story _ (running-tells x) e = x
  running-story _ (asked-tells x) e = absurd (omega (arith, e))
  running-story _ (taken-tells x) e = absurd (omega (arith, e))
  running-story _ (paused-tells x) e = absurd (omega (arith, e))

  asked-story : (w : ℕ) → WordTells p m cs w → w ≡ asked → AskedTells p m cs
  asked-story _ (running-tells x) e = absurd (omega (arith, e))
  asked-story _ (asked-tells x) e = x
  asked-story _ (taken-tells x) e = absurd (omega (arith, e))
  asked-story _ (paused-tells x) e = absurd (omega (arith, e))

  taken-story : (w : ℕ) → WordTells p m cs w → w ≡ taken → TakenTells p m cs
  taken-story _ (running-tells x) e = absurd (omega (arith, e))
  taken-story _ (asked-tells x) e = absurd (omega (arith, e))
  taken-story _ (taken-tells x) e = x
  taken-story _ (paused-tells x) e = absurd (omega (arith, e))

  paused-story : (w : ℕ) → WordTells p m cs w → w ≡ paused → PausedTells p m cs
  paused-story _ (running-tells x) e = absurd (omega (arith, e))
  paused-story _ (asked-tells x) e = absurd (omega (arith, e))
  paused-story _ (taken-tells x) e = absurd (omega (arith, e))
  paused-story _ (paused-tells x) e = x

-- the word of a screen with a pin, by the calls since
since-tells : (cs : List MillCall) (p : ℕ) (s : Since cs p) → WordTells p (begun s) s.after (word_after cs)
since-tells cs p s =
    subst (λ (m : Mill). WordTells p (begun s) s.after m.screen.word) (sym (since-run cs p s))
    (word-tells p s.after (begun s) (since-good cs p s) (since-looks cs p s) s.last)

module _ (Story : ℕ → Stories) (w : ℕ) (no-blank : running ≡ w → ⊥) (tells : (p : ℕ) (m : Mill) (cs : List MillCall) (u : ℕ) → WordTells p m cs u → u ≡ w → Story p m cs) where
  only_if : (cs : List MillCall) → word_after cs ≡ w → Why Story cs
  only_if cs e = go (history cs)
    where
      go : History cs → Why Story cs
      go (unpinned b) = absurd (no-blank (ap (λ (s : Screen). s.word) (sym b) ∙ e))
      go (pinned p t s) = record { pin = p; since = s; story = tells p (begun s) s.after (word_after cs) (since-tells cs p s) e }

module _ (cs : List MillCall) where
  pub paused-only-if : word_after cs ≡ paused → Why PausedTells cs
  paused-only-if = only_if PausedTells paused (λ e. omega (arith, e)) paused-story cs

  pub taken-only-if : word_after cs ≡ taken → Why TakenTells cs
  taken-only-if = only_if TakenTells taken (λ e. omega (arith, e)) taken-story cs

  pub asked-only-if : word_after cs ≡ asked → Why AskedTells cs
  asked-only-if = only_if AskedTells asked (λ e. omega (arith, e)) asked-story cs

  -- running: it has no pin, or the pin held no edge
  pub running-only-if : word_after cs ≡ running → ((run reset_mill cs).screen ≡ blank) ⊎ Why RunningTells cs
  running-only-if e = go (history cs)
    where
      go : History cs → ((run reset_mill cs).screen ≡ blank) ⊎ Why RunningTells cs
      go (unpinned b) = inl b
      go (pinned p t s) = inr (record { pin = p; since = s; story = running-story p (begun s) s.after (word_after cs) (since-tells cs p s) e })

  -- ---- and the other way

  module _ (p : ℕ) (s : Since cs p) where
    by-story : (w : ℕ) → (run (begun s) s.after).screen.word ≡ w → word_after cs ≡ w
    by-story w e = ap (λ (m : Mill). m.screen.word) (since-run cs p s) ∙ e

    running-since : RunningTells p (begun s) s.after → word_after cs ≡ running
    running-since x = by-story running (wakes.running-if p (begun s) s.after (since-good cs p s) (since-looks cs p s) s.last x)

    asked-since : AskedTells p (begun s) s.after → word_after cs ≡ asked
    asked-since x = by-story asked (wakes.asked-if p (begun s) s.after (since-good cs p s) (since-looks cs p s) s.last x)

    taken-since : TakenTells p (begun s) s.after → word_after cs ≡ taken
    taken-since x = by-story taken (wakes.taken-if p (begun s) s.after (since-good cs p s) (since-looks cs p s) s.last x)

    paused-since : PausedTells p (begun s) s.after → word_after cs ≡ paused
    paused-since x = by-story paused (wakes.paused-if p (begun s) s.after (since-good cs p s) (since-looks cs p s) s.last x)

  pub paused-if : Why PausedTells cs → word_after cs ≡ paused
  paused-if y = paused-since y.pin y.since y.story

  pub taken-if : Why TakenTells cs → word_after cs ≡ taken
  taken-if y = taken-since y.pin y.since y.story

  pub asked-if : Why AskedTells cs → word_after cs ≡ asked
  asked-if y = asked-since y.pin y.since y.story

  pub running-if : Why RunningTells cs → word_after cs ≡ running
  running-if y = running-since y.pin y.since y.story

  -- ---- a resume takes effect exactly where the story of paused is told

  pub resumes-only-if : resumes (run reset_mill cs) millcall.Resume ≡ true → Why PausedTells cs
  resumes-only-if e = paused-only-if (eqb-true (word_after cs) 3 e)

  pub resumes-if : Why PausedTells cs → resumes (run reset_mill cs) millcall.Resume ≡ true
  resumes-if y = eq-eqb (word_after cs) 3 (paused-if y)
