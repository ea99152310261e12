-- Well-formedness of the block: from the test to the facts and back, and what keeps it.
use Rattle.std.proofs.Common.{◌≡◌, ℕ, zero, suc, ◌<◌, ◌≤◌, Bool, true, false, cond, ◌&&◌, eqb, ltb, leb, refl, ap, ◌∙◌, ap₂, arith, lit<, lit≤, ltb-true, eqb-true, le-leb, leb-true}
use Rattle.pins.proofs.Bools.{and_left, and_right, and_both}
use Rattle.settings.specs.declared.Settings.{Settings}
use Rattle.settings.specs.Settings.{mask_of, in_range}
use Rattle.settings.proofs.Ranges.{vendor-of, period-of, mask-of}
use Rattle.timer.specs.declared.Timer.{Timer}
use Rattle.timer.specs.declared.Half.{Half}
use Rattle.timer.specs.State.{flag, reset_timer}
use Rattle.timer.specs.Formed.{timer_formed}
use Rattle.timer.specs.Registers.{bit, configured_of, compared_of, half_compared_of, cleared_of}
use Rattle.timer.specs.Tick.{firing}
use Rattle.timer.proofs.Formed.{formed-in as timer-in, formed-out as timer-out}
use Rattle.timer.proofs.Kept.{firing-formed, configured-formed, set-formed, cleared-formed, reset-formed as reset-timer-formed}
use Rattle.timers.specs.declared.Timers.{Timers}
use Rattle.timers.specs.declared.Turn.{Turn}
use Rattle.timers.specs.State.{at, mask_at, is_enabled, with_counter, with_enabled, with_timers, with_timer, reset_to}
use Rattle.timers.specs.Formed.{settings_fit, well_formed, Formed}
use Rattle.timers.specs.Registers.{is_configuration, is_comparator, of_timer, numbered, aligned, inside, fits, cleared_by, timer_written, written_of}
use Rattle.timers.specs.Registers.{half_at, whole_at, filled, half_written, shown_of, stored_of}
use Rattle.timers.specs.Tick.{counted_of, fired_of, turned_of, up_to, tick, ticks, route_of}
use Rattle.timers.specs.Call.{turn, refused, reading_of, writing_of, read_of}
use Rattle.answers.specs.declared.Refusal.TheVariants as refusal
use Rattle.answers.specs.declared.Answer.TheVariants as answer
use Rattle.timers.proofs.Three.{at-three}
use Rattle.timers.proofs.Each.{by_turn}

-- ---- the test and its parts

module _ (s : Timers) where
  module _ (e : well_formed s ≡ true) where
    rest-formed : (settings_fit s.vendor s.tick_period && (timer_formed (mask_at s 0) (at s 0) && (timer_formed (mask_at s 1) (at s 1) && timer_formed (mask_at s 2) (at s 2)))) ≡ true
    unfolding well_formed
    rest-formed = and_right (leb s.enabled 1) (settings_fit s.vendor s.tick_period && (timer_formed (mask_at s 0) (at s 0) && (timer_formed (mask_at s 1) (at s 1) && timer_formed (mask_at s 2) (at s 2)))) e

    timers-formed : (timer_formed (mask_at s 0) (at s 0) && (timer_formed (mask_at s 1) (at s 1) && timer_formed (mask_at s 2) (at s 2))) ≡ true
    timers-formed = and_right (settings_fit s.vendor s.tick_period) (timer_formed (mask_at s 0) (at s 0) && (timer_formed (mask_at s 1) (at s 1) && timer_formed (mask_at s 2) (at s 2))) rest-formed

    enabled-fits : leb s.enabled 1 ≡ true
    unfolding well_formed
    enabled-fits = and_left (leb s.enabled 1) (settings_fit s.vendor s.tick_period && (timer_formed (mask_at s 0) (at s 0) && (timer_formed (mask_at s 1) (at s 1) && timer_formed (mask_at s 2) (at s 2)))) e

    pub settings-fit : settings_fit s.vendor s.tick_period ≡ true
    settings-fit = and_left (settings_fit s.vendor s.tick_period) (timer_formed (mask_at s 0) (at s 0) && (timer_formed (mask_at s 1) (at s 1) && timer_formed (mask_at s 2) (at s 2))) rest-formed

    pub at-formed : (m : ℕ) → m < 3 → timer_formed (mask_at s m) (at s m) ≡ true
    at-formed zero l = and_left (timer_formed (mask_at s 0) (at s 0)) (timer_formed (mask_at s 1) (at s 1) && timer_formed (mask_at s 2) (at s 2)) timers-formed
    at-formed (suc zero) l =
        and_left (timer_formed (mask_at s 1) (at s 1)) (timer_formed (mask_at s 2) (at s 2)) (and_right (timer_formed (mask_at s 0) (at s 0)) (timer_formed (mask_at s 1) (at s 1) && timer_formed (mask_at s 2) (at s 2)) timers-formed)
    at-formed (suc (suc zero)) l =
        and_right (timer_formed (mask_at s 1) (at s 1)) (timer_formed (mask_at s 2) (at s 2)) (and_right (timer_formed (mask_at s 0) (at s 0)) (timer_formed (mask_at s 1) (at s 1) && timer_formed (mask_at s 2) (at s 2)) timers-formed)
    at-formed (suc (suc (suc m))) l = absurd (omega arith)

    pub formed-in : Formed s
    formed-in = record { enabled-bit = leb-true s.enabled 1 enabled-fits; settings-fit = settings-fit; each = λ m l. timer-in (mask_at s m) (at s m) (at-formed m l) }

    -- a timer's route is a pin
    pub route-pin : (m : ℕ) → m < 3 → route_of s m < 24
    unfolding route_of
    route-pin m l = (timer-in (mask_at s m) (at s m) (at-formed m l)).route-pin

  formed-of : leb s.enabled 1 ≡ true → settings_fit s.vendor s.tick_period ≡ true → ((m : ℕ) → m < 3 → timer_formed (mask_at s m) (at s m) ≡ true) → well_formed s ≡ true
  unfolding well_formed
  formed-of e z f = and_both e (and_both z (and_both (f 0 (lit< tt)) (and_both (f 1 (lit< tt)) (f 2 (lit< tt)))))

  pub formed-out : Formed s → well_formed s ≡ true
  formed-out z = formed-of (le-leb s.enabled 1 z.enabled-bit) z.settings-fit (λ m l. timer-out (mask_at s m) (at s m) (z.each m l))

-- ---- a block with other timers

module _ (s : Timers) (e : well_formed s ≡ true) where
  with-timers-formed : (f : ℕ → Timer) → ((m : ℕ) → m < 3 → timer_formed (mask_at s m) (f m) ≡ true) → well_formed (with_timers s f) ≡ true
  with-timers-formed f h = formed-of (with_timers s f) (enabled-fits s e) (settings-fit s e) (λ m l. ap (timer_formed (mask_at s m)) (at-three f _ m l) ∙ h m l)

  with-timer-formed : (m : ℕ) (x : Timer) → timer_formed (mask_at s m) x ≡ true → well_formed (with_timer s m x) ≡ true
  with-timer-formed m x h = with-timers-formed (λ i. cond (eqb i m) x (at s i)) (λ j l. go (eqb j m) j l refl)
    where
      go : (b : Bool) (j : ℕ) → j < 3 → eqb j m ≡ b → timer_formed (mask_at s j) (cond b x (at s j)) ≡ true
      go true j l q = ap (λ (i : ℕ). timer_formed (mask_at s i) x) (eqb-true j m q) ∙ h
      go false j l q = at-formed s e j l

  -- ---- a tick's steps

  pub counted-formed : well_formed (counted_of s) ≡ true
  unfolding counted_of well_formed
  counted-formed = e

  pub fired-formed : (m : ℕ) → m < 3 → well_formed (fired_of s m) ≡ true
  unfolding fired_of
  fired-formed m l = with-timer-formed m (firing (at s m)) (firing-formed (mask_at s m) (at s m) (at-formed s e m l))

  pub turned-formed : (m : ℕ) → m < 3 → well_formed (turned_of s m) ≡ true
  turned-formed m l = by_turn s m (λ u. well_formed u ≡ true) (λ q. fired-formed m l) (λ q. e)

pub turns-formed : (m : ℕ) (s : Timers) → m ≤ 3 → well_formed s ≡ true → well_formed (up_to m s) ≡ true
unfolding up_to
turns-formed zero s l e = counted-formed s e
turns-formed (suc m) s l e = turned-formed (up_to m s) (turns-formed m s (omega arith) e) m l

pub tick-formed : (s : Timers) → well_formed s ≡ true → well_formed (tick s) ≡ true
unfolding tick
tick-formed s e = go (is_enabled s)
  where
    go : (b : Bool) → well_formed (cond b (up_to 3 s) s) ≡ true
    go true = turns-formed 3 s (lit≤ tt) e
    go false = e

pub ticks-formed : (n : ℕ) (s : Timers) → well_formed s ≡ true → well_formed (ticks n s) ≡ true
unfolding ticks
ticks-formed zero s e = e
ticks-formed (suc n) s e = tick-formed (ticks n s) (ticks-formed n s e)

-- ---- reset, and writes

module _ (z : Settings) (e : in_range z ≡ true) where
  -- with settings in range
  pub reset-formed : well_formed (reset_to z) ≡ true
  unfolding reset_to settings_fit
  reset-formed =
      formed-of (reset_to z) refl
      (and_both (vendor-of z e) (period-of z e))
      (λ m l. ap₂ timer_formed (at-three (mask_of z) 0 m l) (at-three (λ i. reset_timer (mask_of z i)) _ m l) ∙ reset-timer-formed (mask_of z m) (mask-of z e m))

module _ (s : Timers) (e : well_formed s ≡ true) (v : ℕ) where
  enabled-formed : well_formed (with_enabled s (bit 0 v)) ≡ true
  unfolding well_formed
  enabled-formed = and_both (le-leb (bit 0 v) 1 (omega arith)) (rest-formed s e)

  counter-formed : well_formed (cond (is_enabled s) s (with_counter s v)) ≡ true
  unfolding well_formed
  counter-formed = go (is_enabled s)
    where
      go : (b : Bool) → well_formed (cond b s (with_counter s v)) ≡ true
      go true = e
      go false = e

  status-formed : well_formed (with_timers s (cleared_by v s)) ≡ true
  status-formed = with-timers-formed s e (cleared_by v s) (λ m l. go (flag (bit m v)) m l)
    where
      go : (b : Bool) (m : ℕ) → m < 3 → timer_formed (mask_at s m) (cond b (cleared_of (at s m)) (at s m)) ≡ true
      go true m l = cleared-formed (mask_at s m) (at s m) (at-formed s e m l)
      go false m l = at-formed s e m l

  timer-written-formed : (o : ℕ) → numbered o < 3 → well_formed (timer_written s o v) ≡ true
  unfolding timer_written
  timer-written-formed o l = go (is_configuration o) (is_comparator o)
    where
      n : ℕ
      n = numbered o

      go : (a b : Bool) → well_formed (cond a (with_timer s n (configured_of (mask_at s n) (at s n) v)) (cond b (with_timer s n (compared_of (at s n) v)) s)) ≡ true
      go true b = with-timer-formed s e n (configured_of (mask_at s n) (at s n) v) (configured-formed (mask_at s n) (at s n) (at-formed s e n l) v)
      go false true = with-timer-formed s e n (compared_of (at s n) v) (set-formed (mask_at s n) (at s n) (at-formed s e n l) v v)
      go false false = e

  pub written-formed : (o : ℕ) → well_formed (written_of s o v) ≡ true
  unfolding written_of
  written-formed o = go (eqb o 0x010) (eqb o 0x020) (eqb o 0x0F0) (of_timer o) refl
    where
      in_three : of_timer o ≡ true → numbered o < 3
      in_three h = omega (arith, ltb-true o 0x160 (and_right (leb 0x100 o) (ltb o 0x160) h))

      go :
          (a b c d : Bool) → of_timer o ≡ d →
          well_formed
          (cond a (with_enabled s (bit 0 v))
          (cond b (with_timers s (cleared_by v s))
          (cond c (cond (is_enabled s) s (with_counter s v))
          (cond d (timer_written s o v) s))))
          ≡ true
      go true b c d q = enabled-formed
      go false true c d q = status-formed
      go false false true d q = counter-formed
      go false false false true q = timer-written-formed o (in_three q)
      go false false false false q = e

-- ---- halves, and a write of either width

module _ (s : Timers) (e : well_formed s ≡ true) where
  pub half-written-formed : (h : Half) (o v : ℕ) → well_formed (half_written s h o v) ≡ true
  unfolding half_written
  half-written-formed h o v = go (of_timer o && is_comparator o) refl
    where
      n : ℕ
      n = numbered o

      in_three : (of_timer o && is_comparator o) ≡ true → n < 3
      in_three q = omega (arith, ltb-true o 0x160 (and_right (leb 0x100 o) (ltb o 0x160) (and_left (of_timer o) (is_comparator o) q)))

      go : (b : Bool) → (of_timer o && is_comparator o) ≡ b → well_formed (cond b (with_timer s n (half_compared_of (at s n) h v)) (written_of s o (filled s h o v))) ≡ true
      go true q = with-timer-formed s e n (half_compared_of (at s n) h v) (set-formed (mask_at s n) (at s n) (at-formed s e n (in_three q)) _ _)
      go false q = written-formed s e (filled s h o v) o

  stored-formed : (w o v : ℕ) → well_formed (stored_of s w o v) ≡ true
  unfolding stored_of
  stored-formed w o v = go (eqb w 8)
    where
      go : (b : Bool) → well_formed (cond b (written_of s o v) (half_written s (half_at o) (whole_at o) v)) ≡ true
      go true = written-formed s e v o
      go false = half-written-formed (half_at o) (whole_at o) v

-- ---- the calls

module _ (s : Timers) (w o : ℕ) where
  -- a read changes no timer
  pub reading-timers : (reading_of s w o).timers ≡ s
  unfolding reading_of
  reading-timers = go (aligned w o) (inside o)
    where
      go : (a b : Bool) → (cond {A = Turn} a (cond b (turn s (answer.Value (shown_of s w o))) (refused s refusal.Offset)) (refused s refusal.Width)).timers ≡ s
      go true true = refl
      go true false = refl
      go false b = refl

  pub read-timers : (read_of s w o).timers ≡ s
  unfolding read_of
  read-timers = go (well_formed s)
    where
      go : (b : Bool) → (cond {A = Turn} b (reading_of s w o) (refused s refusal.State)).timers ≡ s
      go true = reading-timers
      go false = refl

  module _ (e : well_formed s ≡ true) (v : ℕ) where
    pub writing-formed : well_formed (writing_of s w o v).timers ≡ true
    unfolding writing_of
    writing-formed = go (aligned w o) (inside o) (fits w v)
      where
        go :
            (a b c : Bool) →
            well_formed
            (cond {A = Turn} a
            (cond b (cond c (turn (stored_of s w o v) answer.Done) (refused s refusal.Value)) (refused s refusal.Offset))
            (refused s refusal.Width)
            ).timers
            ≡ true
        go true true true = stored-formed s e w o v
        go true true false = e
        go true false c = e
        go false b c = e
