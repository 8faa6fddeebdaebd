-- Texts that are put piece by piece, at sinks that say how much of a text is still to come.
use Rattle.std.specs.Prelude.{◌≡◌, ℕ, Bool, true, false, List, ◌++◌, Option, []}
use Rattle.byte_ends.specs.Ends.{IsRaised, Appended, AppendedPrefix}

-- How much is due at a sink of text: from a start with a whole text to put, a rest is still to come
-- at a later state.
abbrev pub Due : Type 0 → Type 1
Due S = S → List ℕ → S → List ℕ → Type 0

-- What was put between two states is this text, given as the bytes that stand before what comes
-- behind it: of whatever was to be put from a start on, the text and a rest were still to come, and
-- then the rest.
pub record Adds {S : Type 0} (IsDue : Due S)
    (text : List ℕ → List ℕ) (was now : S) : Type 0 where
  pub before : (start : S) (whole rest : List ℕ) → IsDue start whole was (text rest)
      → IsDue start whole now rest

-- What was put between two states are these bytes, where nothing is to come behind them.
pub record Ends {S : Type 0} (IsDue : Due S)
    (bytes : List ℕ) (was now : S) : Type 0 where
  pub all : (start : S) (whole : List ℕ) → IsDue start whole was bytes
      → IsDue start whole now []

-- Of a whole text a rest is still to come behind what a sink of bytes holds and what waits to be
-- written to it; where the sink has failed, it holds a front of the text. Old is what it held at the
-- start, and new what it holds.
pub record IsPaged (old new : Option (List ℕ)) (faults_old faults_new : ℕ) (broken : Bool)
    (waiting whole rest : List ℕ) : Type 0 where
  pub well : broken ≡ false → faults_new ≡ faults_old
  pub sound : broken ≡ false
      → (done : List ℕ) × Appended old new done × (done ++ (waiting ++ rest) ≡ whole)
  pub fault : broken ≡ true → IsRaised faults_old faults_new × AppendedPrefix old new whole

-- What a step puts to a sink of bytes, unless that had failed: the bytes, or a front of them where it
-- fails now.
pub record IsPut (old new : Option (List ℕ)) (faults_old faults_new : ℕ)
    (broken_old broken_new : Bool) (bytes : List ℕ) : Type 0 where
  pub well : broken_new ≡ false → faults_new ≡ faults_old
  pub sound : broken_new ≡ false → (broken_old ≡ false) × Appended old new bytes
  pub fault : broken_old ≡ false → broken_new ≡ true
      → IsRaised faults_old faults_new × AppendedPrefix old new bytes
  pub still : broken_old ≡ true → (broken_new ≡ true) × (new ≡ old)
      × (faults_new ≡ faults_old)
