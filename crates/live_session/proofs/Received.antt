-- Requests that are given without a line: they are accepted as their rows are, and why others aren't.
use Rattle.std.proofs.Common.{◌≡◌, ◌≢◌, ℕ, ◌<◌, ◌≤◌, Bool, true, false, ◌&&◌, Option, Result, Ok, Err, OnOk, if◌then◌else◌, List, [], ◌∷◌, ◌++◌, length, map, Some, None, slice_get, refl, sym, ◌∙◌, ap, subst, arith}
use Rattle.std.specs.List.{AllByRecursion, list_all, list_any}
use Rattle.std.specs.Str.{bytes_eq}
use Rattle.std.specs.Option.{is_some, option_or, unwrap_or}
use Rattle.session_values.specs.Limits.{max_variables}
use Rattle.session_values.specs.Names.{AreDistinct, Begins, place_of, with_text}
use Rattle.session_values.specs.ReplyText.{value_text}
use Rattle.session_values.specs.declared.value.Value.{Value}
use Rattle.session_values.specs.declared.value.Value.TheVariants.{Nil}
use Rattle.session_values.proofs.Named.{begins_same, begins_then, front_kept}
use Rattle.session_values.proofs.NamesLemmas.{known_at, slice_get_last, stands_at, with_known, with_new}
use Rattle.handler_check.specs.File.{File}
use Rattle.handler_check.specs.Mentions.{file_mentions}
use Rattle.handler_check.specs.Resolved.{params_at}
use Rattle.handler_check.specs.FirstFault.{KeepsRules}
use Rattle.handler_check.proofs.Codes.{all_within}
use Rattle.serve_faults.specs.Language.{IsNamedFile}
use Rattle.serve_reading.proofs.TextsKept.{texts_kept}
use Rattle.text_lines.specs.Text.{Text}
use Rattle.text_lines.specs.Values.{is_symbol, is_value, placed, placed_all, value_of, values_of}
use Rattle.text_lines.specs.Words.{spaced}
use Rattle.text_lines.proofs.ValueLemmas.{is_value_is, placed_all_begins, placed_all_step, placed_by, value_by}
use Rattle.text_lines.proofs.ValuesBack.{nil_value, number_value}
use Rattle.request_files.specs.Requests.{AreKnown, handler_of}
use Rattle.declaration_insertion.specs.Program.{ProgramView}
use Rattle.driven_tickets.specs.Desk.{TicketsView}
use Rattle.live_session.specs.declared.answers.Answered.{Answered}
use Rattle.live_session.specs.declared.answers.Answered.TheVariants as answered
use Rattle.live_session.specs.declared.answers.InvokeError.{InvokeError}
use Rattle.live_session.specs.declared.answers.InvokeError.TheVariants as uninvoked
use Rattle.live_session.specs.declared.argument.Argument.{Argument}
use Rattle.live_session.specs.declared.argument.Argument.TheVariants as argument
use Rattle.live_session.specs.Accepting.{IsAccepted, TakesMemory}
use Rattle.live_session.specs.Answers.{RowAnswered}
use Rattle.live_session.specs.ArgumentWords.{IsHeld, argument_fault, first_fault, name_at, word_of, words_of}
use Rattle.live_session.specs.Entries.{IsHeldBack}
use Rattle.live_session.specs.Invoking.{AreFine, AreNotRead, CanBeSaid, InvokeAnswered, IsNotGiven, IsNotReceived, IsSaidAway, SaidAnswered, Takes, handler_name, invoke_error, line_given, line_of, row_given}
use Rattle.live_session.specs.Live.{IsLive, LiveView, program_in}
use Rattle.live_session.specs.Served.{line_fault}
use Rattle.live_session.proofs.ArgumentLemmas.{fine_both, passed_test, words_long}
use Rattle.live_session.proofs.Keeping.{declined}
use Rattle.live_session.proofs.Reading.{accepted_row, held_away, unread}
use Rattle.live_session.proofs.SaidLines.{handler_is, name_kept_by, said_text}
use Rattle.live_session.proofs.Words.{symbol_is_value}

-- ---- each word is a value
word_value : (names : List Text) (a : Argument) → argument_fault names a ≡ None → IsHeld a → is_value (word_of names a) ≡ true
word_value names argument.Nil h held = is_value_is names (word_of names argument.Nil) ∙ ap is_some (nil_value names)
word_value names (argument.Number n) h held = is_value_is names (word_of names (argument.Number n)) ∙ ap is_some (number_value names n held)
word_value names (argument.Symbol t) h held = symbol_is_value t.now (passed_test _ _ h)
word_value names (argument.Name n) h held = symbol_is_value (name_at names n) (passed_test _ _ h)

pub words_values : (names : List Text) (args : List Argument) → first_fault names args ≡ None → AllByRecursion IsHeld args → list_all is_value (words_of names args) ≡ true
words_values names [] h held = refl
words_values names (a ∷ args) h held =
    let fine = fine_both (argument_fault names a) (first_fault names args) h in
    ap (λ (b : Bool). b && list_all is_value (words_of names args)) (word_value names a fine.0 held.0) ∙ words_values names args fine.1 held.1

-- ---- the row of a request whose handler has this number and so many parameters
module _ (f : File) (names : List Text) (most h : ℕ) (args : List Argument) (low : h < length f.handlers) (same : length args ≡ params_at f h) (apart : AreDistinct names) (known : AreKnown names f) (keeps : KeepsRules f) where
  is : h ≡ handler_of names f (handler_name names f h)
  is = sym (handler_is names f h low apart known keeps)

  many : params_at f h ≡ length (words_of names args)
  many = sym same ∙ sym (words_long names args)

  pub received : (new : List Text) (vals : List Value) → AreFine names args → new ≡ placed_all names (words_of names args) → length new ≤ most → vals ≡ values_of new (words_of names args) → IsAccepted f names most (row_given names f h args) new vals h
  received new vals fine placed few are = accepted_row f names most (row_given names f h args) h (is, low) many new vals (words_values names args fine.0 fine.1) placed few are

  -- its row is that of a line that breaks no rule, for whatever reason it isn't read
  pub too_many : AreFine names args → most < length (placed_all names (words_of names args)) → (line_fault names f (row_given names f h args) ≡ None) × (most < length (placed_all names (words_of names args)))
  too_many fine more = unread f names most (row_given names f h args) h (is, low) many answered.TooManyNames (words_values names args fine.0 fine.1, more)

  pub no_room : AreFine names args → placed_all names (words_of names args) ≢ names → (line_fault names f (row_given names f h args) ≡ None) × TakesMemory names f (row_given names f h args)
  no_room fine other = unread f names most (row_given names f h args) h (is, low) many answered.NoMemory (words_values names args fine.0 fine.1, other)

  pub received_if : (o : Result (Unit {0}) InvokeError) (new : List Text) (vals : List Value) → OnOk o (AreFine names args) → OnOk o (new ≡ placed_all names (words_of names args)) → OnOk o (length new ≤ most) → OnOk o (vals ≡ values_of new (words_of names args)) → OnOk o (IsAccepted f names most (row_given names f h args) new vals h)
  received_if (Ok u) new vals fine placed few are = received new vals fine placed few are
  received_if (Err e) new vals fine placed few are = tt

-- ---- what an argument's fault may be
abbrev IsFault : InvokeError → Type 0
IsFault uninvoked.UnknownHandler = ⊥
IsFault uninvoked.Arity = ⊥
IsFault uninvoked.NoSymbol = Unit {0}
IsFault uninvoked.NoName = Unit {0}
IsFault uninvoked.TooManyNames = ⊥
IsFault (uninvoked.Delayed u) = ⊥
IsFault uninvoked.NoNumber = ⊥
IsFault uninvoked.NoMemory = ⊥

test_fault : (b : Bool) (f e : InvokeError) → IsFault f → (if b then None else Some f) ≡ Some e → IsFault e
test_fault true f e is h = absurd (cc)
test_fault false f e is h = let same : f ≡ e = cc in subst IsFault same is

one_fault : (names : List Text) (a : Argument) (e : InvokeError) → argument_fault names a ≡ Some e → IsFault e
one_fault names argument.Nil e h = absurd (cc)
one_fault names (argument.Number n) e h = absurd (cc)
one_fault names (argument.Symbol t) e h = test_fault (is_symbol t.now) uninvoked.NoSymbol e tt h
one_fault names (argument.Name n) e h = test_fault (is_symbol (name_at names n)) uninvoked.NoName e tt h

first_of : (o rest : Option InvokeError) → ((e : InvokeError) → o ≡ Some e → IsFault e) → ((e : InvokeError) → rest ≡ Some e → IsFault e) → (e : InvokeError) → option_or o rest ≡ Some e → IsFault e
first_of None rest one more e h = more e h
first_of (Some f) rest one more e h = one e h

some_fault : (names : List Text) (args : List Argument) (e : InvokeError) → first_fault names args ≡ Some e → IsFault e
some_fault names [] e h = absurd (cc)
some_fault names (a ∷ args) e h = first_of (argument_fault names a) (first_fault names args) (one_fault names a) (some_fault names args) e h

pub not_fine : (names : List Text) (most : ℕ) (args : List Argument) (e : InvokeError) → first_fault names args ≡ Some e → AreNotRead names most args e
not_fine names most args uninvoked.UnknownHandler h = absurd (some_fault names args uninvoked.UnknownHandler h)
not_fine names most args uninvoked.Arity h = absurd (some_fault names args uninvoked.Arity h)
not_fine names most args uninvoked.NoSymbol h = h
not_fine names most args uninvoked.NoName h = h
not_fine names most args uninvoked.TooManyNames h = absurd (some_fault names args uninvoked.TooManyNames h)
not_fine names most args (uninvoked.Delayed u) h = absurd (some_fault names args (uninvoked.Delayed u) h)
not_fine names most args uninvoked.NoNumber h = absurd (some_fault names args uninvoked.NoNumber h)
not_fine names most args uninvoked.NoMemory h = absurd (some_fault names args uninvoked.NoMemory h)

-- why a request isn't read is why it isn't accepted
module _ (p : ProgramView) (k : TicketsView) (names : List Text) (most h : ℕ) (args : List Argument) (apart : AreDistinct names) (known : AreKnown names p.file) (keeps : KeepsRules p.file) where
  said : Takes p.file h (length args) → AreFine names args → CanBeSaid names p.file h args
  said takes fine = record { handler = takes.0; params = takes.1; fine = fine.0 }

  pub not_received : (e : InvokeError) → IsNotGiven p.file names most h args e → IsNotReceived p k names most h args e
  not_received uninvoked.UnknownHandler why = why
  not_received uninvoked.Arity why = why
  not_received uninvoked.NoSymbol why = why
  not_received uninvoked.NoName why = why
  not_received uninvoked.TooManyNames why = (said why.0 why.1.0, why.1.0.1, too_many p.file names most h args why.0.0 why.0.1 apart known keeps why.1.0 why.1.1)
  not_received (uninvoked.Delayed u) why = absurd why.1
  not_received uninvoked.NoNumber why = absurd why.1
  not_received uninvoked.NoMemory why = (said why.0 why.1.0, why.1.0.1, no_room p.file names most h args why.0.0 why.0.1 apart known keeps why.1.0 why.1.1)

-- why it isn't let run is why it isn't accepted
pub not_run : (p : ProgramView) (k : TicketsView) (names : List Text) (most h : ℕ) (args : List Argument) (new : List Text) (vals : List Value) → CanBeSaid names p.file h args → AllByRecursion IsHeld args → IsAccepted p.file names most (row_given names p.file h args) new vals h
    → (a : Answered) → IsHeldBack p k h vals a → IsNotReceived p k names most h args (invoke_error a)
not_run p k names most h args new vals said held ok answered.Served why = absurd why
not_run p k names most h args new vals said held ok answered.Nothing why = absurd why
not_run p k names most h args new vals said held ok (answered.Refused e) why = absurd why
not_run p k names most h args new vals said held ok answered.TooManyNames why = absurd why
not_run p k names most h args new vals said held ok (answered.Delayed u) why = (said, held, held_away p k names most (row_given names p.file h args) new vals h ok (answered.Delayed u) why)
not_run p k names most h args new vals said held ok answered.NoNumber why = (said, held, held_away p k names most (row_given names p.file h args) new vals h ok answered.NoNumber why)
not_run p k names most h args new vals said held ok answered.NoMemory why = (said, held, held_away p k names most (row_given names p.file h args) new vals h ok answered.NoMemory why)

-- ---- what it is answered
pub named_now : (v : LiveView) → IsLive v → IsNamedFile v.names v.file
named_now v live = texts_kept v.first_names v.names live.begins (file_mentions v.file) live.named

module _ (v : LiveView) (live : IsLive v) (h : ℕ) (args : List Argument) where
  pub few_args : CanBeSaid v.names v.file h args → length args ≤ max_variables
  few_args said =
      let within = all_within v.file live.program.accepted live.program.bounds h in
      omega (arith, said.params, within.params)

  -- what its row is answered is what it is answered
  pub as_line : (said : CanBeSaid v.names v.file h args) → AllByRecursion IsHeld args → (a : Answered) (text : Text) (w : LiveView)
      → RowAnswered v (line_given v.names v.file h args) (row_given v.names v.file h args) a text w → SaidAnswered v h args a text w
  as_line said held a text w answered = (said, said_text v h args said.handler (named_now v live) said.fine held (few_args said) a text w answered)

  away : (a : Answered) (w : LiveView) → w ≡ v → IsSaidAway (program_in v) v.tickets v.names v.most_names h args a → SaidAnswered v h args a [] w
  away a w same why = as_line why.0 why.1 a [] w (declined v w (line_given v.names v.file h args) (row_given v.names v.file h args) a same why.2)

  pub not_invoked : (e : InvokeError) (w : LiveView) → w ≡ v → IsNotReceived (program_in v) v.tickets v.names v.most_names h args e → InvokeAnswered v h args (Err e) w
  not_invoked uninvoked.UnknownHandler w same why = (same, why)
  not_invoked uninvoked.Arity w same why = (same, why.0, why.1)
  not_invoked uninvoked.NoSymbol w same why = (same, why.0, why.1)
  not_invoked uninvoked.NoName w same why = (same, why.0, why.1)
  not_invoked uninvoked.TooManyNames w same why = away answered.TooManyNames w same why
  not_invoked (uninvoked.Delayed u) w same why = away (answered.Delayed u) w same why
  not_invoked uninvoked.NoNumber w same why = away answered.NoNumber w same why
  not_invoked uninvoked.NoMemory w same why = away answered.NoMemory w same why

-- ---- the line by the values
known_in : (cur : List Text) (w : Text) → is_symbol w ≡ true → list_any (bytes_eq w) (placed cur w) ≡ true
known_in cur w s = ap (list_any (bytes_eq w)) (placed_by cur w true s) ∙ go (list_any (bytes_eq w) cur) refl
  where
    go : (b : Bool) → list_any (bytes_eq w) cur ≡ b → list_any (bytes_eq w) (with_text cur w) ≡ true
    go true e = ap (list_any (bytes_eq w)) (with_known cur w e) ∙ e
    go false e = ap (list_any (bytes_eq w)) (with_new cur w e) ∙ known_at w (cur ++ w ∷ []) (length cur) (slice_get_last cur w)

known_behind : (cur new : List Text) (w : Text) → is_symbol w ≡ true → Begins (placed cur w) new → list_any (bytes_eq w) new ≡ true
known_behind cur new w s b =
    let place : ℕ = place_of (placed cur w) w in
    let there : slice_get (placed cur w) place ≡ Some w = stands_at w (placed cur w) (known_in cur w s) in
    known_at w new place (subst (λ (ns : List Text). slice_get ns place ≡ Some w) (sym b.1) (front_kept (placed cur w) b.0 place w there))

symbol_back : (cur new : List Text) (w : Text) → is_symbol w ≡ true → Begins (placed cur w) new → value_text new (unwrap_or (value_of new w) Nil) ≡ w
symbol_back cur new w s b =
    let there : slice_get new (place_of new w) ≡ Some w = stands_at w new (known_behind cur new w s b) in
    ap (λ (o : Option Value). value_text new (unwrap_or o Nil)) (value_by new w true s) ∙ ap (λ (o : Option Text). unwrap_or o []) there

word_back : (names cur new : List Text) (a : Argument) → argument_fault names a ≡ None → IsHeld a → Begins (placed cur (word_of names a)) new → value_text new (unwrap_or (value_of new (word_of names a)) Nil) ≡ word_of names a
word_back names cur new argument.Nil h held b = ap (λ (o : Option Value). value_text new (unwrap_or o Nil)) (nil_value new)
word_back names cur new (argument.Number n) h held b = ap (λ (o : Option Value). value_text new (unwrap_or o Nil)) (number_value new n held)
word_back names cur new (argument.Symbol t) h held b = symbol_back cur new t.now (passed_test _ _ h) b
word_back names cur new (argument.Name n) h held b = symbol_back cur new (name_at names n) (passed_test _ _ h) b

-- the words of the values are those of the arguments
words_back : (names cur new : List Text) (args : List Argument) → first_fault names args ≡ None → AllByRecursion IsHeld args → Begins (placed_all cur (words_of names args)) new → map (value_text new) (values_of new (words_of names args)) ≡ words_of names args
words_back names cur new [] h held b = refl
words_back names cur new (a ∷ args) h held b =
    let fine = fine_both (argument_fault names a) (first_fault names args) h in
    let w : Text = word_of names a in
    let ws : List Text = words_of names args in
    let rest : Begins (placed_all (placed cur w) ws) new = subst (λ (ns : List Text). Begins ns new) (placed_all_step cur w ws) b in
    let first : Begins (placed cur w) new = begins_then _ _ _ (placed_all_begins (placed cur w) ws) rest in
    ap (λ (t : Text). t ∷ map (value_text new) (values_of new ws)) (word_back names cur new a fine.0 held.0 first)
    ∙ ap (λ (ts : List Text). w ∷ ts) (words_back names (placed cur w) new args fine.1 held.1 rest)

pub line_same : (names new : List Text) (f : File) (h : ℕ) (args : List Argument) (vals : List Value) → AreKnown names f → CanBeSaid names f h args → AllByRecursion IsHeld args → new ≡ placed_all names (words_of names args) → vals ≡ values_of new (words_of names args) → line_of new f h vals ≡ line_given names f h args
line_same names new f h args vals known said held placed_so are =
    let ws : List Text = words_of names args in
    let begins : Begins names new = subst (Begins names) (sym placed_so) (placed_all_begins names ws) in
    let all : Begins (placed_all names ws) new = subst (λ (ns : List Text). Begins ns new) placed_so (begins_same new) in
    let back : map (value_text new) vals ≡ ws = ap (map (value_text new)) are ∙ words_back names names new args said.fine held all in
    ap (λ (n : Text). spaced (n ∷ map (value_text new) vals)) (name_kept_by names new f h begins said.handler known)
    ∙ ap (λ (ts : List Text). spaced (handler_name names f h ∷ ts)) back
