-- What a batch of lines is answered.
use Rattle.std.specs.Prelude.{◌≡◌, ℕ, ◌+◌, ◌<◌, ◌≤◌, ◌⊎◌, List, [], ◌∷◌, ◌++◌, drop, length, Option}
use Rattle.std.specs.Prelude.{None, Some}
use Rattle.text_lines.specs.Text.{Text, lines}
use Rattle.live_session.specs.declared.answers.Answered.{Answered}
use Rattle.live_session.specs.declared.answers.Answered.TheVariants as answered
use Rattle.live_session.specs.declared.batch.Batch.{Batch}
use Rattle.live_session.specs.declared.batch.Ended.{Ended}
use Rattle.live_session.specs.declared.batch.Ended.TheVariants as ended
use Rattle.live_session.specs.Answers.{LineAnswered}
use Rattle.live_session.specs.Live.{LiveView}

-- a line was served, or has no words: so many requests more
abbrev pub LineDone : LiveView → Text → ℕ → Text → LiveView → Type 0
LineDone v line n text w = ((n ≡ 1) × LineAnswered v line answered.Served text w)
    ⊎ ((n ≡ 0) × LineAnswered v line answered.Nothing text w)

-- lines were served so, one after another: so many requests, with these lines of replies
abbrev pub LinesDone : LiveView → List Text → ℕ → Text → LiveView → Type 0
LinesDone v [] n text w = (n ≡ 0) × (text ≡ []) × (w ≡ v)
LinesDone v (l ∷ ls) n text w =
    (u : LiveView) × (k m : ℕ) × (t s : Text) × LineDone v l k t u × LinesDone u ls m s w
    × (n ≡ k + m) × (text ≡ t ++ s)

-- the line behind those that are done is answered so, and nothing changes
abbrev pub IsStop : LiveView → Text → Answered → Type 0
IsStop w line a = LineAnswered w line a [] w × (LineDone w line 0 [] w → ⊥)

-- why a batch ended behind some lines, and where the text goes on that isn't used
abbrev pub EndsAs : LiveView → Text → ℕ → Text → List Text → ℕ → Ended → Type 0
EndsAs w text most after done used ended.All = (lines text ≡ done) × (used ≡ length text)
EndsAs w text most after done used ended.Full =
    (lines text ≡ done ++ lines (drop used text)) × (used < length text)
    × ((most < length after + 264) ⊎ (65536 < length after + 264))
EndsAs w text most after done used (ended.Stopped answered.NoMemory) =
    (line : Text) × (more : List Text) × (lines text ≡ done ++ line ∷ more)
    × (lines (drop used text) ≡ line ∷ more) × IsStop w line answered.NoMemory
EndsAs w text most after done used (ended.Stopped (answered.Delayed u)) =
    (line : Text) × (more : List Text) × (lines text ≡ done ++ line ∷ more)
    × (lines (drop used text) ≡ line ∷ more) × IsStop w line (answered.Delayed u)
EndsAs w text most after done used (ended.Stopped answered.NoNumber) =
    (line : Text) × (more : List Text) × (lines text ≡ done ++ line ∷ more)
    × (lines (drop used text) ≡ line ∷ more) × IsStop w line answered.NoNumber
EndsAs w text most after done used (ended.Stopped a) =
    (line : Text) × (more : List Text) × (lines text ≡ done ++ line ∷ more)
    × (lines (drop used text) ≡ more) × IsStop w line a

-- the first lines were served, up to where the batch ended. What is used is within the text, so it
-- is just what those lines take, their line feeds included, and that of a line that broke a rule:
-- no other place of the text has the lines behind it that are left
pub record BatchAnswered (v : LiveView) (text : Text) (most : ℕ) (before : Text) (b : Batch)
    (w : LiveView) (after : Text) : Type 0 where
  pub done : List Text
  pub replies : Text
  pub lines_done : LinesDone v done b.requests replies w
  pub after_is : after ≡ before ++ replies
  pub within : (length after ≤ most) ⊎ (replies ≡ [])
  pub used_within : b.used ≤ length text
  pub ends : EndsAs w text most after done b.used b.ended

-- ---- on the way. Only this crate's own functions cite these.

-- where a batch goes on that a line with this answer ends: at the line, or behind it; none, where
-- it isn't ended
abbrev pub stop_at : Answered → ℕ → ℕ → Option ℕ
stop_at answered.Served at behind = None
stop_at answered.Nothing at behind = None
stop_at (answered.Refused e) at behind = Some behind
stop_at answered.TooManyNames at behind = Some behind
stop_at (answered.Delayed u) at behind = Some at
stop_at answered.NoNumber at behind = Some at
stop_at answered.NoMemory at behind = Some at

-- how many requests a line with this answer served
abbrev pub count_of : Answered → ℕ
count_of answered.Served = 1
count_of answered.Nothing = 0
count_of (answered.Refused e) = 0
count_of answered.TooManyNames = 0
count_of (answered.Delayed u) = 0
count_of answered.NoNumber = 0
count_of answered.NoMemory = 0
