-- A row that was accepted and whose handler has run, and its reply's line.
use Rattle.std.proofs.Common.{◌≡◌, ℕ, ◌≤◌, List, [], ◌∷◌, ◌++◌, length, drop, Some, refl, subst, arith, length-append}
use Rattle.std.specs.Fmt.{decimal}
use Rattle.std.specs.List.{AllByRecursion}
use Rattle.session_values.specs.Dialogue.{Entry}
use Rattle.session_values.specs.Values.{IsValue}
use Rattle.std.proofs.lemmas.Fmt.{decimal_nonempty, length-decimal-le_succ}
use Rattle.session_values.specs.Reply.{values_of}
use Rattle.session_values.specs.ReplyText.{line_text, values_text}
use Rattle.session_values.specs.Serial.{serve}
use Rattle.session_values.specs.Tables.{Tables}
use Rattle.session_values.specs.declared.reply.Reply.{Reply}
use Rattle.session_values.specs.declared.value.Value.{Value}
use Rattle.handler_check.specs.File.{File}
use Rattle.handler_check.specs.Bounds.{calls_bound}
use Rattle.handler_check.specs.Dialogue.{env_of, next}
use Rattle.handler_check.specs.Resolved.{code_at}
use Rattle.text_lines.specs.Rows.{row_of}
use Rattle.text_lines.specs.Text.{Text}
use Rattle.live_session.specs.Accepting.{IsAccepted}
use Rattle.live_session.specs.Answers.{reply_line}
use Rattle.live_session.specs.Entries.{IsAdmitted}
use Rattle.live_session.specs.Live.{LiveView, program_in}

-- the row is accepted and let run, and its handler run alone from the session's tables gives this
-- reply and those tables
pub record Ran (v : LiveView) (name : Text) (ws : List Text) (new : List Text) (vals : List Value) (h : ℕ) (reply : Reply) (after : Tables) : Type 0 where
  pub ok : IsAccepted v.file v.names v.most_names (row_of 0 name ws) new vals h
  pub admitted : IsAdmitted (program_in v) v.tickets h vals
  pub answer : (serve (calls_bound (code_at v.file h)) (next (code_at v.file h) (env_of vals)) v.tables).answer ≡ Some reply
  pub left : after ≡ (serve (calls_bound (code_at v.file h)) (next (code_at v.file h) (env_of vals)) v.tables).after
  pub values : AllByRecursion (λ (e : Entry). IsValue e.reply) (serve (calls_bound (code_at v.file h)) (next (code_at v.file h) (env_of vals)) v.tables).entries

module _ (v : LiveView) (name : Text) (ws : List Text) (new : List Text) (vals : List Value) (h : ℕ) (reply : Reply) (after : Tables) where
  -- what is known of its run, over a file, arguments and tables that are the session's
  record Run (f : File) (vs : List Value) (ts : Tables) : Type 0 where
    answer : (serve (calls_bound (code_at f h)) (next (code_at f h) (env_of vs)) ts).answer ≡ Some reply
    left : after ≡ (serve (calls_bound (code_at f h)) (next (code_at f h) (env_of vs)) ts).after
    values : AllByRecursion (λ (e : Entry). IsValue e.reply) (serve (calls_bound (code_at f h)) (next (code_at f h) (env_of vs)) ts).entries

  pub ran : (f : File) (vs : List Value) (ts : Tables) → f ≡ v.file → vs ≡ vals → ts ≡ v.tables → IsAccepted v.file v.names v.most_names (row_of 0 name ws) new vals h → IsAdmitted (program_in v) v.tickets h vals
      → (serve (calls_bound (code_at f h)) (next (code_at f h) (env_of vs)) ts).answer ≡ Some reply → after ≡ (serve (calls_bound (code_at f h)) (next (code_at f h) (env_of vs)) ts).after
      → AllByRecursion (λ (e : Entry). IsValue e.reply) (serve (calls_bound (code_at f h)) (next (code_at f h) (env_of vs)) ts).entries → Ran v name ws new vals h reply after
  ran f vs ts ef ev et ok admitted answer left values =
      let here : Run f vs ts = record { answer = answer; left = left; values = values } in
      let run : Run v.file vals v.tables = subst (λ (x : File). Run x vals v.tables) ef (subst (λ (x : List Value). Run f x v.tables) ev (subst (λ (x : Tables). Run f vs x) et here)) in
      record { ok = ok; admitted = admitted; answer = run.answer; left = run.left; values = run.values }

-- ---- the line of a reply, from that of ticket 0
one_digit : length (decimal 0) ≡ 1
one_digit =
    let some = decimal_nonempty 0 (omega arith) in
    let few = length-decimal-le_succ 0 (omega arith) in
    omega (arith, some, few)

pub line_long : (names : List Text) (r : Reply) → 2 ≤ length (line_text names 0 r)
line_long names r =
    let whole = length-append (decimal 0 ++ values_text names (values_of r)) (10 ∷ []) in
    let front = length-append (decimal 0) (values_text names (values_of r)) in
    omega (arith, whole, front, one_digit)

without_first : (d x y : List ℕ) → length d ≡ 1 → drop 2 ((d ++ x) ++ y) ≡ drop 1 (x ++ y)
without_first [] x y e = absurd (omega (arith, e))
without_first (b ∷ []) x y e = refl
without_first (b ∷ c ∷ d) x y e = absurd (omega (arith, e))

pub line_dropped : (names : List Text) (r : Reply) → drop 2 (line_text names 0 r) ≡ reply_line names r
line_dropped names r = without_first (decimal 0) (values_text names (values_of r)) (10 ∷ []) one_digit
