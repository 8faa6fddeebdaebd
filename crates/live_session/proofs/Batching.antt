-- A batch of lines so far, and one line more.
use Rattle.std.proofs.Common.{◌≡◌, ℕ, ◌+◌, ◌-◌, ◌<◌, ◌≤◌, ◌⊎◌, inl, inr, Bool, true, false, nat_lt, List, [], ◌∷◌, ◌++◌, length, drop, Option, Some, None, refl, sym, ◌∙◌, ap, subst, arith, append-nil, append_assoc}
use Rattle.std.proofs.lemmas.Bool.Decides.{nat_tests}
use Rattle.std.proofs.lemmas.List.{drop-drop}
use Rattle.std.proofs.lemmas.Option.{same_Some}
use Rattle.session_values.specs.Limits.{max_input}
use Rattle.text_lines.specs.Rows.{Row, row_of}
use Rattle.text_lines.specs.Text.{Text, lines, words}
use Rattle.text_lines.proofs.TextLemmas.{none_left}
use Rattle.live_session.specs.declared.answers.Answered.{Answered}
use Rattle.live_session.specs.declared.answers.Answered.TheVariants as answered
use Rattle.live_session.specs.declared.answers.LineRefusal.{LineRefusal}
use Rattle.live_session.specs.declared.answers.LineRefusal.TheVariants as rule
use Rattle.live_session.specs.declared.batch.Ended.TheVariants as ended
use Rattle.live_session.specs.Answers.{AnsweredBy, IsStill, LineAnswered, RowAnswered, WordsAnswered}
use Rattle.live_session.specs.Batches.{BatchAnswered, EndsAs, IsStop, LineDone, LinesDone, count_of, stop_at}
use Rattle.live_session.specs.Live.{LiveView}

-- ---- one line
pub too_long : (v : LiveView) (line : Text) → max_input < length line → LineAnswered v line (answered.Refused rule.TooLong) [] v
too_long v line l =
    let e : nat_lt max_input (length line) ≡ true = grind (arith, nat_tests, l) in
    subst (λ (b : Bool). AnsweredBy b v line (answered.Refused rule.TooLong) [] v) (sym e) ((refl, refl), refl)

pub by_words : (v : LiveView) (line : Text) (us : List Text) (a : Answered) (t : Text) (w : LiveView) → length line ≤ max_input → words line ≡ us → WordsAnswered v line us a t w → LineAnswered v line a t w
by_words v line us a t w l is h =
    let e : nat_lt max_input (length line) ≡ false = grind (arith, nat_tests, l) in
    subst (λ (b : Bool). AnsweredBy b v line a t w) (sym e) (subst (λ (xs : List Text). WordsAnswered v line xs a t w) (sym is) h)

-- an answer that ends a batch
abbrev pub Ends : Answered → Type 0
Ends answered.Served = ⊥
Ends answered.Nothing = ⊥
Ends (answered.Refused e) = Unit {0}
Ends answered.TooManyNames = Unit {0}
Ends (answered.Delayed u) = Unit {0}
Ends answered.NoNumber = Unit {0}
Ends answered.NoMemory = Unit {0}

-- the same, where the line is used
abbrev pub EndsUsed : Answered → Type 0
EndsUsed answered.Served = ⊥
EndsUsed answered.Nothing = ⊥
EndsUsed (answered.Refused e) = Unit {0}
EndsUsed answered.TooManyNames = Unit {0}
EndsUsed (answered.Delayed u) = ⊥
EndsUsed answered.NoNumber = ⊥
EndsUsed answered.NoMemory = ⊥

-- and where it isn't
abbrev pub EndsUnused : Answered → Type 0
EndsUnused answered.Served = ⊥
EndsUnused answered.Nothing = ⊥
EndsUnused (answered.Refused e) = ⊥
EndsUnused answered.TooManyNames = ⊥
EndsUnused (answered.Delayed u) = Unit {0}
EndsUnused answered.NoNumber = Unit {0}
EndsUnused answered.NoMemory = Unit {0}

as_end : (a : Answered) → EndsUsed a → Ends a
as_end answered.Served e = absurd e
as_end answered.Nothing e = absurd e
as_end (answered.Refused x) e = tt
as_end answered.TooManyNames e = tt
as_end (answered.Delayed u) e = absurd e
as_end answered.NoNumber e = absurd e
as_end answered.NoMemory e = absurd e

as_unused : (a : Answered) → EndsUnused a → Ends a
as_unused answered.Served e = absurd e
as_unused answered.Nothing e = absurd e
as_unused (answered.Refused x) e = absurd e
as_unused answered.TooManyNames e = absurd e
as_unused (answered.Delayed u) e = tt
as_unused answered.NoNumber e = tt
as_unused answered.NoMemory e = tt

row_still : (v : LiveView) (line : Text) (r : Row) (a : Answered) (t : Text) (w : LiveView) → RowAnswered v line r a t w → Ends a → IsStill v t w
row_still v line r answered.Served t w h e = absurd e
row_still v line r answered.Nothing t w h e = absurd e
row_still v line r (answered.Refused x) t w h e = h.0
row_still v line r answered.TooManyNames t w h e = h.0
row_still v line r (answered.Delayed u) t w h e = h.0
row_still v line r answered.NoNumber t w h e = h.0
row_still v line r answered.NoMemory t w h e = h.0

words_still : (v : LiveView) (line : Text) (us : List Text) (a : Answered) (t : Text) (w : LiveView) → WordsAnswered v line us a t w → Ends a → IsStill v t w
words_still v line [] a t w h e = h.0
words_still v line (u ∷ us) a t w h e = row_still v line (row_of 0 u us) a t w h e

-- such an answer leaves all as it was
line_still : (v : LiveView) (line : Text) (a : Answered) (t : Text) (w : LiveView) → LineAnswered v line a t w → Ends a → IsStill v t w
line_still v line a t w h e = go (nat_lt max_input (length line)) h
  where
    go : (b : Bool) → AnsweredBy b v line a t w → IsStill v t w
    go true k = k.0
    go false k = words_still v line (words line) a t w k e

no_nothing : (e : LineRefusal) → ◌≡◌ {A = Answered} answered.Nothing (answered.Refused e) → ⊥
no_nothing e p = cc

words_other : (v : LiveView) (line : Text) (us : List Text) (a : Answered) (t s : Text) (w x : LiveView) → WordsAnswered v line us a t w → Ends a → WordsAnswered v line us answered.Nothing s x → ⊥
words_other v line [] a t s w x h e k = subst Ends h.1 e
words_other v line (u ∷ us) a t s w x h e k = k

-- such a line isn't one without words
not_done : (v : LiveView) (line : Text) (a : Answered) (t s : Text) (w x : LiveView) → LineAnswered v line a t w → Ends a → LineAnswered v line answered.Nothing s x → ⊥
not_done v line a t s w x h e k = go (nat_lt max_input (length line)) h k
  where
    go : (b : Bool) → AnsweredBy b v line a t w → AnsweredBy b v line answered.Nothing s x → ⊥
    go true p q = no_nothing rule.TooLong q.1
    go false p q = words_other v line (words line) a t s w x p e q

line_stop : (v : LiveView) (line : Text) (a : Answered) (t : Text) (w : LiveView) → LineAnswered v line a t w → Ends a → IsStop v line a
line_stop v line a t w h e =
    let still = line_still v line a t w h e in
    let here : LineAnswered v line a [] v = subst (λ (x : LiveView). LineAnswered v line a [] x) still.0 (subst (λ (s : Text). LineAnswered v line a s w) still.1 h) in
    (here, other here)
  where
    other : LineAnswered v line a [] v → LineDone v line 0 [] v → ⊥
    other k (inl d) = absurd (omega (arith, d.0))
    other k (inr d) = not_done v line a [] [] v v k e d.1

ends_wanting : (w : LiveView) (text : Text) (most : ℕ) (after : Text) (done : List Text) (used : ℕ) (a : Answered) (line : Text) (more : List Text) → EndsUnused a → lines text ≡ done ++ line ∷ more → lines (drop used text) ≡ line ∷ more → IsStop w line a → EndsAs w text most after done used (ended.Stopped a)
ends_wanting w text most after done used answered.Served line more e whole behind stop = absurd e
ends_wanting w text most after done used answered.Nothing line more e whole behind stop = absurd e
ends_wanting w text most after done used (answered.Refused x) line more e whole behind stop = absurd e
ends_wanting w text most after done used answered.TooManyNames line more e whole behind stop = absurd e
ends_wanting w text most after done used (answered.Delayed u) line more e whole behind stop = (line, more, whole, behind, stop)
ends_wanting w text most after done used answered.NoNumber line more e whole behind stop = (line, more, whole, behind, stop)
ends_wanting w text most after done used answered.NoMemory line more e whole behind stop = (line, more, whole, behind, stop)

ends_refused : (w : LiveView) (text : Text) (most : ℕ) (after : Text) (done : List Text) (used : ℕ) (a : Answered) (line : Text) (more : List Text) → EndsUsed a → lines text ≡ done ++ line ∷ more → lines (drop used text) ≡ more → IsStop w line a → EndsAs w text most after done used (ended.Stopped a)
ends_refused w text most after done used answered.Served line more e whole behind stop = absurd e
ends_refused w text most after done used answered.Nothing line more e whole behind stop = absurd e
ends_refused w text most after done used (answered.Refused x) line more e whole behind stop = (line, more, whole, behind, stop)
ends_refused w text most after done used answered.TooManyNames line more e whole behind stop = (line, more, whole, behind, stop)
ends_refused w text most after done used (answered.Delayed u) line more e whole behind stop = absurd e
ends_refused w text most after done used answered.NoNumber line more e whole behind stop = absurd e
ends_refused w text most after done used answered.NoMemory line more e whole behind stop = absurd e

none_some : (n : ℕ) → ◌≡◌ {A = Option ℕ} None (Some n) → ⊥
none_some n e = cc

some_none : (n : ℕ) → ◌≡◌ {A = Option ℕ} (Some n) None → ⊥
some_none n e = cc

-- a line that doesn't end a batch was served, or has no words
pub goes_on : (v : LiveView) (line : Text) (a : Answered) (t : Text) (w : LiveView) (at behind : ℕ) → stop_at a at behind ≡ None → LineAnswered v line a t w → LineDone v line (count_of a) t w
goes_on v line answered.Served t w at behind e h = inl (refl, h)
goes_on v line answered.Nothing t w at behind e h = inr (refl, h)
goes_on v line (answered.Refused x) t w at behind e h = absurd (some_none behind e)
goes_on v line answered.TooManyNames t w at behind e h = absurd (some_none behind e)
goes_on v line (answered.Delayed u) t w at behind e h = absurd (some_none at e)
goes_on v line answered.NoNumber t w at behind e h = absurd (some_none at e)
goes_on v line answered.NoMemory t w at behind e h = absurd (some_none at e)

-- ---- many
pub lines_more : (v : LiveView) (ls : List Text) (n : ℕ) (t : Text) (u : LiveView) (l : Text) (k : ℕ) (s : Text) (w : LiveView) → LinesDone v ls n t u → LineDone u l k s w → LinesDone v (ls ++ l ∷ []) (n + k) (t ++ s) w
lines_more v [] n t u l k s w h d = (
  w,
  k,
  0,
  s,
  [],
  subst (λ (x : LiveView). LineDone x l k s w) h.2 d,
  (refl, refl, refl),
  omega (arith, h.0),
  ap (λ (x : Text). x ++ s) h.1 ∙ sym (append-nil s),
)
lines_more v (x ∷ ls) n t u l k s w h d = (
  h.0,
  h.1,
  h.2 + k,
  h.3,
  h.4 ++ s,
  h.5,
  lines_more h.0 ls h.2 h.4 u l k s w h.6 d,
  omega (arith, h.7),
  ap (λ (y : Text). y ++ s) h.8 ∙ append_assoc h.3 h.4 s,
)

-- some lines of a text were done, and this is left of it
pub record SoFar (v : LiveView) (text : Text) (most : ℕ) (before : Text) (w : LiveView) (rest : Text) (n : ℕ) (after : Text) : Type 0 where
  pub done : List Text
  pub replies : Text
  pub lines_done : LinesDone v done n replies w
  pub after_is : after ≡ before ++ replies
  pub within : (length after ≤ most) ⊎ (replies ≡ [])
  pub left : lines text ≡ done ++ lines rest
  pub back : rest ≡ drop (length text - length rest) text
  pub short : length rest ≤ length text
  pub few : n + length rest ≤ length text

all_back : (text : Text) → text ≡ drop (length text - length text) text
all_back text = let e : 0 ≡ length text - length text = omega arith in ap (λ (n : ℕ). drop n text) e

pub none_yet : (v : LiveView) (text : Text) (most : ℕ) (before : Text) → SoFar v text most before v text 0 before
none_yet v text most before = record {
  done = [];
  replies = [];
  lines_done = (refl, refl, refl);
  after_is = sym (append-nil before);
  within = inr refl;
  left = refl;
  back = all_back text;
  short = omega arith;
  few = omega arith;
}

pub back_on : (text rest next : Text) → rest ≡ drop (length text - length rest) text → length rest ≤ length text → next ≡ drop (length rest - length next) rest → length next ≤ length rest → next ≡ drop (length text - length next) text
back_on text rest next is l on m =
    let e : (length text - length rest) + (length rest - length next) ≡ length text - length next = omega (arith, l, m) in
    on ∙ ap (drop (length rest - length next)) is ∙ drop-drop (length rest - length next) (length text - length rest) text ∙ ap (λ (n : ℕ). drop n text) e

-- so many requests of a line
one_at_most : (u : LiveView) (line : Text) (k : ℕ) (s : Text) (w : LiveView) → LineDone u line k s w → k ≤ 1
one_at_most u line k s w (inl d) = omega (arith, d.0)
one_at_most u line k s w (inr d) = omega (arith, d.0)

-- ---- where a batch ends
module _ (v : LiveView) (text : Text) (most : ℕ) (before : Text) (u : LiveView) (rest : Text) (n : ℕ) (after : Text) (h : SoFar v text most before u rest n after) where
  -- all lines are used
  pub at_end : length rest ≡ 0 → BatchAnswered v text most before (record { used = length text; requests = n; ended = ended.All }) u after
  at_end none = record {
    done = h.done;
    replies = h.replies;
    lines_done = h.lines_done;
    after_is = h.after_is;
    within = h.within;
    used_within = omega arith;
    ends = (h.left ∙ ap (λ (ls : List Text). h.done ++ ls) (none_left rest none) ∙ append-nil h.done, refl);
  }

  left_over : (used : ℕ) → used ≡ length text - length rest → drop used text ≡ rest
  left_over used is = ap (λ (k : ℕ). drop k text) is ∙ sym h.back

  -- there may be no room for a reply
  pub when_full : (used : ℕ) → 0 < length rest → used ≡ length text - length rest → (most < length after + 264) ⊎ (65536 < length after + 264)
      → BatchAnswered v text most before (record { used = used; requests = n; ended = ended.Full }) u after
  when_full used some is full = record {
    done = h.done;
    replies = h.replies;
    lines_done = h.lines_done;
    after_is = h.after_is;
    within = h.within;
    used_within = omega (arith, is);
    ends = (h.left ∙ ap (λ (r : Text). h.done ++ lines r) (sym (left_over used is)), omega (arith, some, is, h.short), full);
  }

  -- one line more
  module _ (line next : Text) (is : lines rest ≡ line ∷ lines next) (back : next ≡ drop (length rest - length next) rest) (less : length next < length rest) where
    pub one_line : (k : ℕ) (s : Text) (w : LiveView) (more : Text) → LineDone u line k s w → more ≡ after ++ s → length more ≤ most → SoFar v text most before w next (n + k) more
    one_line k s w more d on within = record {
      done = h.done ++ line ∷ [];
      replies = h.replies ++ s;
      lines_done = lines_more v h.done n h.replies u line k s w h.lines_done d;
      after_is = on ∙ ap (λ (x : Text). x ++ s) h.after_is ∙ append_assoc before h.replies s;
      within = inl within;
      left = h.left ∙ ap (λ (ls : List Text). h.done ++ ls) is ∙ sym (append_assoc h.done (line ∷ []) (lines next));
      back = back_on text rest next h.back h.short back (omega (arith, less));
      short = omega (arith, less, h.short);
      few = let one = one_at_most u line k s w d in omega (arith, less, h.few, one);
    }

    whole : lines text ≡ h.done ++ line ∷ lines next
    whole = h.left ∙ ap (λ (ls : List Text). h.done ++ ls) is

    module _ (a : Answered) (s : Text) (w : LiveView) (more : Text) (d : LineAnswered u line a s w) (on : more ≡ after ++ s) where
      ended_by : Ends a → (used : ℕ) → used ≤ length text → EndsAs u text most after h.done used (ended.Stopped a) → BatchAnswered v text most before (record { used = used; requests = n; ended = ended.Stopped a }) w more
      ended_by stops used low ends =
          let still = line_still u line a s w d stops in
          let same : more ≡ after = on ∙ ap (λ (x : Text). after ++ x) still.1 ∙ append-nil after in
          subst (λ (x : LiveView). BatchAnswered v text most before (record { used = used; requests = n; ended = ended.Stopped a }) x more) (sym still.0)
          (subst (BatchAnswered v text most before (record { used = used; requests = n; ended = ended.Stopped a }) u) (sym same) (record {
            done = h.done;
            replies = h.replies;
            lines_done = h.lines_done;
            after_is = h.after_is;
            within = h.within;
            used_within = low;
            ends = ends;
          }))

      -- the line may be tried again, and isn't used
      when_wanting : (used : ℕ) → EndsUnused a → used ≡ length text - length rest → BatchAnswered v text most before (record { used = used; requests = n; ended = ended.Stopped a }) w more
      when_wanting used stops at =
          let stop : IsStop u line a = line_stop u line a s w d (as_unused a stops) in
          ended_by (as_unused a stops) used (omega (arith, at))
          (ends_wanting u text most after h.done used a line (lines next) stops whole (ap lines (left_over used at) ∙ is) stop)

      -- the line broke a rule, and is used
      when_refused : (used : ℕ) → EndsUsed a → used ≡ length text - length next → BatchAnswered v text most before (record { used = used; requests = n; ended = ended.Stopped a }) w more
      when_refused used stops at =
          let stop : IsStop u line a = line_stop u line a s w d (as_end a stops) in
          let behind : drop used text ≡ next = ap (λ (k : ℕ). drop k text) at ∙ sym (back_on text rest next h.back h.short back (omega (arith, less))) in
          ended_by (as_end a stops) used (omega (arith, at))
          (ends_refused u text most after h.done used a line (lines next) stops whole (ap lines behind) stop)

      -- one or the other
      pub when_stopped : (used at behind : ℕ) → stop_at a at behind ≡ Some used → at ≡ length text - length rest → behind ≡ length text - length next
          → BatchAnswered v text most before (record { used = used; requests = n; ended = ended.Stopped a }) w more
      when_stopped used at behind stops here there = go a refl stops
        where
          go : (x : Answered) → a ≡ x → stop_at x at behind ≡ Some used → BatchAnswered v text most before (record { used = used; requests = n; ended = ended.Stopped a }) w more
          go answered.Served p q = absurd (none_some used q)
          go answered.Nothing p q = absurd (none_some used q)
          go (answered.Refused e) p q = when_refused used (subst EndsUsed (sym p) tt) (sym (same_Some behind used q) ∙ there)
          go answered.TooManyNames p q = when_refused used (subst EndsUsed (sym p) tt) (sym (same_Some behind used q) ∙ there)
          go (answered.Delayed o) p q = when_wanting used (subst EndsUnused (sym p) tt) (sym (same_Some at used q) ∙ here)
          go answered.NoNumber p q = when_wanting used (subst EndsUnused (sym p) tt) (sym (same_Some at used q) ∙ here)
          go answered.NoMemory p q = when_wanting used (subst EndsUnused (sym p) tt) (sym (same_Some at used q) ∙ here)
