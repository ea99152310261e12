-- The calls as the code makes them, at the pins that can change: only inner functions cite these.
-- `proofs/At.antt` has that on a well-formed board each is the call of `Step.antt`.
use Rattle.std.specs.Prelude.{ℕ, ◌%◌, cond, ◌||◌, List, ◌∷◌, [], Option, None, eqb, leb, ltb, get_or, set}
use mir.Val.{bool_byte}
use Rattle.answers.specs.declared.Answer.TheVariants as answer
use Rattle.answers.specs.declared.Refusal.TheVariants as refusal
use Rattle.entries.specs.Strike.{pulse, rise}
use Rattle.entries.specs.declared.EntryDecision.{EntryDecision}
use Rattle.entries.specs.declared.strike.Strike.{Strike}
use Rattle.entries.specs.Decision.{write_at, renewed}
use Rattle.controller.specs.State.{with_entries}
use Rattle.controller.specs.Inner.{rewired_at, struck_of, low_pin}
use Rattle.timers.specs.declared.Timers.{Timers}
use Rattle.timers.specs.declared.Ran.{Ran}
use Rattle.timers.specs.Tick.{drives_of, pulses_of, route_of}
use Rattle.timers.specs.Inner.{raises_of, ran_of}
use Rattle.board.specs.declared.Board.{Board}
use Rattle.board.specs.declared.Turn.{Turn}
use Rattle.board.specs.State.{board, with_controller, turn, refused}

-- ---- an outside wire: its own pin

-- the level of pin p, where its outside wire is at l
abbrev pub level_of : ℕ → Timers → ℕ → ℕ
level_of l s p = bool_byte (eqb l 1 || drives_of s p)

unfoldable pub wiring_at : Board → ℕ → ℕ → Turn
wiring_at b pin level =
    cond (ltb pin 24)
    (cond (leb level 1)
    (turn (board (rewired_at b.controller pin (level_of level b.timers pin)) b.timers (set b.outside pin level)) answer.Done)
    (refused b refusal.Level))
    (refused b refusal.Pin)

-- ---- a low word's write: its own pin

-- the pin whose low word a write goes to, by the controller's index; 24 if it goes elsewhere or is refused
unfoldable pub low_pin_of : ℕ → ℕ → ℕ → ℕ → ℕ → ℕ
low_pin_of index window width offset value = cond (eqb window 0) (low_pin index width offset value) 24

-- what is decided of an entry, applied
abbrev pub renewed_by : Board → EntryDecision → Turn
renewed_by b d = turn (with_controller b (with_entries b.controller (renewed b.controller.entries d))) d.answer

unfoldable pub low_write_at : Board → ℕ → ℕ → Turn
low_write_at b n v = renewed_by b (write_at n v b.controller.entries.low b.controller.entries.held)

-- ---- an advance: each timer that fires strikes its pin, at its first firing

-- timer m's strike, as the controller has it: a pulse of its pin's wire, or a rise of it, or neither
unfoldable pub strike_at : Timers → ℕ → Option Strike
strike_at s m = cond (pulses_of s m) (pulse (route_of s m % 256)) (cond (raises_of s m) (rise (route_of s m % 256)) None)

-- none, where it first fires at tick 0: never
unfoldable pub strike_of : Timers → ℕ → ℕ → Option Strike
strike_of s m f = cond (eqb f 0) None (strike_at s m)

-- three strikes in the order of their ticks; in one tick, as they come
unfoldable pub ordered {ℓ} : {K : Type ℓ} → List ℕ → K → K → K → List K
ordered f a b c =
    cond (ltb (get_or f 1 0) (get_or f 0 0))
    (cond (ltb (get_or f 2 0) (get_or f 1 0)) (c ∷ b ∷ a ∷ []) (cond (ltb (get_or f 2 0) (get_or f 0 0)) (b ∷ c ∷ a ∷ []) (b ∷ a ∷ c ∷ [])))
    (cond (ltb (get_or f 2 0) (get_or f 0 0)) (c ∷ a ∷ b ∷ []) (cond (ltb (get_or f 2 0) (get_or f 1 0)) (a ∷ c ∷ b ∷ []) (a ∷ b ∷ c ∷ [])))

-- those of the timers, where f has the ticks of their first firings
unfoldable pub strikes_of : Timers → List ℕ → List (Option Strike)
strikes_of s f = ordered f (strike_of s 0 (get_or f 0 0)) (strike_of s 1 (get_or f 1 0)) (strike_of s 2 (get_or f 2 0))

abbrev pub ran_at : Board → Ran → Turn
ran_at b r =
    turn (board (struck_of b.controller (strikes_of b.timers r.first)) r.timers b.outside)
    (answer.Fired (get_or r.fired 0 0) (get_or r.fired 1 0) (get_or r.fired 2 0))

unfoldable pub advancing_at : Board → ℕ → Turn
advancing_at b n = ran_at b (ran_of b.timers n)
