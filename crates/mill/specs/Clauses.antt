-- "Well formed", the screen's clauses: screens that break one clause and no other, and screens that go as far as the
-- clauses let them.
use Rattle.std.specs.Prelude.{ℕ, ◌≡◌, refl, Bool, true, false, List, [], ◌∷◌, map, replicate, set}
use Rattle.mill.specs.declared.Screen.{Screen}
use Rattle.mill.specs.Screen.{running, asked, taken, paused, blank, fits}

-- beside a board that holds pin 7's edge alone
abbrev held : List ℕ
held = set (replicate 24 0) 7 1

abbrev screen : ℕ → ℕ → ℕ → ℕ → Screen
screen t p w v = record { told = t; pin = p; word = w; vector = v }

pub broken : List Screen
broken =
    -- "No pin: running, no vector."
    screen 0 1 running 0
    ∷ screen 0 0 asked 0
    ∷ screen 0 0 running 1
    -- "A pin: at most 23"
    ∷ screen 1 24 asked 0
    -- "a vector exactly in taken and paused"
    ∷ screen 1 3 running 0x21
    ∷ screen 1 3 asked 0x21
    -- "running only if the pin holds no edge"
    ∷ screen 1 7 running 0
    -- any other kept number fits: told is 0 or 1, there are four words, a vector has eight bits
    ∷ screen 2 3 running 0
    ∷ screen 1 3 4 0x21
    ∷ screen 1 3 taken 256
    ∷ []

pub whole : List Screen
whole =
    blank
    ∷ screen 1 23 running 0
    ∷ screen 1 0 asked 0
    ∷ screen 1 7 asked 0
    ∷ screen 1 7 taken 255
    ∷ screen 1 7 paused 0
    ∷ []

abbrev tested : List Screen → List Bool
tested = map (λ (s : Screen). fits s held)

pub broken-refused : tested broken ≡ map (λ (s : Screen). false) broken
unfolding broken fits
broken-refused = refl

pub whole-taken : tested whole ≡ map (λ (s : Screen). true) whole
unfolding whole fits
whole-taken = refl
