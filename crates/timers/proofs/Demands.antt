-- What the paper asks of the timer block, as theorems: the paper's sentence stands above each.
use Rattle.std.proofs.Common.{◌≡◌, ℕ, suc, ◌+◌, ◌*◌, ◌%◌, ◌^◌, ◌<◌, true, eqb, List, [], ◌∷◌, sym, ap, ◌∙◌, ap₂}
use Rattle.answers.specs.declared.Answer.TheVariants as answer
use Rattle.answers.specs.Numbers.{bare, numbers_of}
use Rattle.answers.specs.Order.{Given}
use Rattle.answers.proofs.Order.{only_if, if}
use Rattle.answers.proofs.Refused.{answer_number, answer_fired, refused-bare, one-result}
use Rattle.timer.specs.declared.Timer.{Timer}
use Rattle.timer.specs.Closed.{times}
use Rattle.timer.proofs.Width.{hit}
use Rattle.timers.specs.declared.Timers.{Timers}
use Rattle.timers.specs.declared.Turn.{Turn}
use Rattle.timers.specs.State.{at}
use Rattle.timers.specs.Formed.{well_formed}
use Rattle.timers.specs.Tick.{ticks, firings}
use Rattle.timers.specs.Call.{turn, advance_of}
use Rattle.timers.specs.Calls.{Call, read, write, advance, turn_of, tests_of}
use Rattle.timers.proofs.Access.{write_done}
use Rattle.timers.proofs.Formed.{ticks-formed, read-timers, writing-formed}
use Rattle.timers.proofs.Advance.{advance-ticked, advance-timers, advance-fired}
use Rattle.timers.proofs.Decided.{decided}
use Rattle.timers.proofs.Portions.{ticks-add, firings-add, total}
use Rattle.timers.proofs.Runs.{SameBut, ticks-alike, firings-alike}

-- ---- "Comparator facts are shown once over the width, for 32 and 64."
-- A comparator k is due d ticks after the counter c and goes up by s at each firing. At tick n + 1 counter and comparator are equal exactly
-- where that tick is the next one due.

abbrev pub NextMatch : ℕ → Type 0
NextMatch w =
    (c k d s n : ℕ) → d < 2 ^ w → s < 2 ^ w → suc n < 2 ^ w → (c + d) % 2 ^ w ≡ k →
    eqb ((c + suc n) % 2 ^ w) ((k + times d s n * s) % 2 ^ w) ≡ eqb (suc n) (d + times d s n * s)

pub next-match : (w : ℕ) → NextMatch w
next-match w = hit w

pub next-match-32 : NextMatch 32
next-match-32 = next-match 32

pub next-match-64 : NextMatch 64
next-match-64 = next-match 64

-- ---- "An advance takes 0 to 4,294,967,295 ticks": it is that many single ticks, with their firings

pub advance-is-ticks : (s : Timers) (n : ℕ) → well_formed s ≡ true → advance_of s n ≡ turn (ticks n s) (answer.Fired (firings 0 n s) (firings 1 n s) (firings 2 n s))
advance-is-ticks = advance-ticked

-- ---- in any portions, zeros too

-- the state after a list of advances, and what timer m's counts in them add up to
unfoldable pub advances : List ℕ → Timers → Timers
advances [] s = s
advances (n ∷ ns) s = advances ns (advance_of s n).timers

unfoldable pub counts : ℕ → List ℕ → Timers → ℕ
counts m [] s = 0
counts m (n ∷ ns) s = answer_fired m (advance_of s n).answer + counts m ns (advance_of s n).timers

pub portions-state : (ns : List ℕ) (s : Timers) → well_formed s ≡ true → advances ns s ≡ (advance_of s (total ns)).timers
unfolding advances total ticks
portions-state [] s e = sym (advance-timers s 0 e)
portions-state (n ∷ ns) s e =
    ap (advances ns) (advance-timers s n e)
    ∙ portions-state ns (ticks n s) (ticks-formed n s e)
    ∙ advance-timers (ticks n s) (total ns) (ticks-formed n s e)
    ∙ sym (ticks-add n (total ns) s)
    ∙ sym (advance-timers s (n + total ns) e)

pub portions-counts : (m : ℕ) (ns : List ℕ) (s : Timers) → m < 3 → well_formed s ≡ true → counts m ns s ≡ answer_fired m (advance_of s (total ns)).answer
unfolding counts total firings
portions-counts m [] s l e = sym (advance-fired s 0 m l e)
portions-counts m (n ∷ ns) s l e =
    ap₂ ◌+◌ (advance-fired s n m l e)
    (ap (counts m ns) (advance-timers s n e)
    ∙ portions-counts m ns (ticks n s) l (ticks-formed n s e)
    ∙ advance-fired (ticks n s) (total ns) m l (ticks-formed n s e))
    ∙ sym (firings-add m n (total ns) s)
    ∙ sym (advance-fired s (n + total ns) m l e)

-- ---- "If two runs start well formed and agree on the counter, the enable bit and every timer but m, the same advance gives every other timer
-- the same comparator, period, status and firings, and the same counter."

pub record Alike (m : ℕ) (r r' : Turn) : Type 0 where
  pub counter : r.timers.counter ≡ r'.timers.counter
  pub comparator : (i : ℕ) → i < 3 → (i ≡ m → ⊥) → (at r.timers i).comparator ≡ (at r'.timers i).comparator
  pub period : (i : ℕ) → i < 3 → (i ≡ m → ⊥) → (at r.timers i).period ≡ (at r'.timers i).period
  pub status : (i : ℕ) → i < 3 → (i ≡ m → ⊥) → (at r.timers i).status ≡ (at r'.timers i).status
  pub firings : (i : ℕ) → i < 3 → (i ≡ m → ⊥) → answer_fired i r.answer ≡ answer_fired i r'.answer

pub two_runs : (m n : ℕ) (s s' : Timers) → well_formed s ≡ true → well_formed s' ≡ true → SameBut m s s' → Alike m (advance_of s n) (advance_of s' n)
two_runs m n s s' e e' h =
    record {
      counter = ap (λ (u : Timers). u.counter) t ∙ b.counter-same ∙ sym (ap (λ (u : Timers). u.counter) t');
      comparator = λ i l d. same (λ x. x.comparator) i l d;
      period = λ i l d. same (λ x. x.period) i l d;
      status = λ i l d. same (λ x. x.status) i l d;
      firings = λ i l d. advance-fired s n i l e ∙ firings-alike m i n s s' h l d ∙ sym (advance-fired s' n i l e');
    }
  where
    t : (advance_of s n).timers ≡ ticks n s
    t = advance-timers s n e

    t' : (advance_of s' n).timers ≡ ticks n s'
    t' = advance-timers s' n e'

    b : SameBut m (ticks n s) (ticks n s')
    b = ticks-alike m n s s' h

    same : (f : Timer → ℕ) (i : ℕ) → i < 3 → (i ≡ m → ⊥) → f (at (advance_of s n).timers i) ≡ f (at (advance_of s' n).timers i)
    same f i l d =
        ap (λ (u : Timers). f (at u i)) t
        ∙ ap f (b.others i l d)
        ∙ sym (ap (λ (u : Timers). f (at u i)) t')

-- ---- refusals

module _ (s : Timers) (k : Call) where
  -- "Given exactly when": a number is given if and only if its test holds and none before it does
  pub number-only-if : (n : ℕ) → answer_number (turn_of s k).answer ≡ n → Given (tests_of s k) n
  number-only-if = only_if (tests_of s k) (answer_number (turn_of s k).answer) (decided s k).number

  pub number-if : (n : ℕ) → Given (tests_of s k) n → answer_number (turn_of s k).answer ≡ n
  number-if = if (tests_of s k) (answer_number (turn_of s k).answer) (decided s k).number

  -- "same state"
  pub refused-same : (answer_number (turn_of s k).answer ≡ 0 → ⊥) → (turn_of s k).timers ≡ s
  refused-same = (decided s k).same

  -- "read value 0, counts 0"
  pub refused-empty : (answer_number (turn_of s k).answer ≡ 0 → ⊥) → numbers_of (turn_of s k).answer ≡ bare (answer_number (turn_of s k).answer)
  refused-empty = refused-bare (turn_of s k).answer

  -- "any two results allowed are equal" (a piece that is no call promises an equation too: one-result says it of any)
  pub one-turn : (r r' : Turn) → r ≡ turn_of s k → r' ≡ turn_of s k → r ≡ r'
  one-turn r r' = one-result

-- ---- "Every call turns a well-formed state into one."

pub every-call-keeps : (s : Timers) (k : Call) → well_formed s ≡ true → well_formed (turn_of s k).timers ≡ true
unfolding turn_of
every-call-keeps s (read w o) e = ap well_formed (read-timers s w o) ∙ e
every-call-keeps s (write w o v) e = ap (λ (r : Turn). well_formed r.timers) (write_done s w o v e) ∙ writing-formed s w o e v
every-call-keeps s (advance n) e = ap well_formed (advance-timers s n e) ∙ ticks-formed n s e
