-- The requests of the lines of a text, and the first fault among them.
use Rattle.std.specs.Prelude.{◌≡◌, ℕ, ◌+◌, ◌<◌, ◌≤◌, true, false, not, ◌==◌, nat_le, nat_lt, if◌then◌else◌, List, [], ◌∷◌, length, map, Option, Some, None, MatchOption}
use Rattle.std.specs.List.{list_all, position_or_len, AllByRecursion}
use Rattle.std.specs.Option.{option_or}
use Rattle.session_values.specs.Limits.{max_requests, max_session_calls, max_session_work}
use Rattle.session_values.specs.Names.{place_of}
use Rattle.session_values.specs.ReplyText.{IsPrintable}
use Rattle.session_values.specs.declared.value.Value.{Value}
use Rattle.syntax_trees.specs.declared.file.File.{File}
use Rattle.syntax_trees.specs.declared.file.Handler.{Handler}
use Rattle.handler_check.specs.Bounds.{calls_bound, work_bound}
use Rattle.handler_check.specs.Resolved.{code_at, params_at}
use Rattle.request_files.specs.declared.request.Request.{Request}
use Rattle.request_files.specs.declared.tally.Tally.{Tally}
use Rattle.request_files.specs.declared.refusal.RequestRefusal.{RequestRefusal}
use Rattle.request_files.specs.declared.refusal.RequestRefusal.TheVariants.{TooManyRequests, UnknownHandler, Arity, BadWord, TooManyCalls, TooMuchWork}
use Rattle.request_files.specs.Servable.{IsRequestOf}
use Rattle.text_lines.specs.Rows.{Row, names_behind}
use Rattle.text_lines.specs.Text.{Text}
use Rattle.text_lines.specs.Values.{is_value, values_of, placed_all}

-- ---- handlers

-- each handler's name is in the list
abbrev pub AreKnown : List Text → File → Type 0
AreKnown names f = AllByRecursion (λ (h : Handler). h.name < length names) f.handlers

-- the number of the first handler with this name, or how many there are where none has it
unfoldable pub handler_of : List Text → File → Text → ℕ
handler_of names f name = position_or_len (λ (h : Handler). h.name == place_of names name)
    f.handlers

-- what a search for the name answers
abbrev pub IsHandler : List Text → File → Text → Option ℕ → Type 0
IsHandler names f name o = MatchOption o (length f.handlers ≤ handler_of names f name)
    (λ i. (i ≡ handler_of names f name) × (i < length f.handlers))

-- ---- the sums over requests

-- the sums before any request
abbrev pub no_requests : Tally
no_requests = record { requests = 0; calls = 0; work = 0 }

-- the sums with one request more, of the handler of this number
abbrev pub with_request : File → ℕ → Tally → Tally
with_request f i t = record {
  requests = t.requests + 1;
  calls = t.calls + calls_bound (code_at f i);
  work = t.work + work_bound (code_at f i);
}

-- ---- the fault of a row, in the order in which faults are tried

-- its fault where the sums behind it are these, if it has one
abbrev pub sum_fault : Tally → ℕ → Option RequestRefusal
sum_fault t line = if nat_lt max_session_calls t.calls then Some (TooManyCalls line)
    else (if nat_lt max_session_work t.work then Some (TooMuchWork line) else None)

-- its fault where its handler has this number, if it has one
abbrev pub handler_fault : File → Tally → Row → ℕ → Option RequestRefusal
handler_fault f t r i =
    if nat_le (length f.handlers) i then Some (UnknownHandler r.line)
    else (if not (params_at f i == length r.args) then Some (Arity r.line)
    else (if not (list_all is_value r.args) then Some (BadWord r.line) else sum_fault
    (with_request f i t) r.line))

-- its fault behind requests with these sums, if it has one
unfoldable pub fault_of : List Text → File → Tally → Row → Option RequestRefusal
fault_of names f t r =
    if nat_le max_requests t.requests then Some (TooManyRequests r.line) else handler_fault f t r
    (handler_of names f r.name)

-- the first fault of the rows behind requests with these sums, if there is one
unfoldable pub first_fault : List Text → File → Tally → List Row → Option RequestRefusal
first_fault names f t [] = None
first_fault names f t (r ∷ rs) = option_or (fault_of names f t r)
    (first_fault names f (with_request f (handler_of names f r.name) t) rs)

-- ---- requests

-- a row's request: handlers go by the names before all rows, symbols by those behind them
unfoldable pub request_of : List Text → List Text → File → Row → Request
request_of old new f r = record { handler = handler_of old f r.name; args = values_of new r.args }

-- ---- what is answered

-- none where some word is no value, else their values
abbrev pub AreValues : List Text → List Text → Option (List Value) → Type 0
AreValues names ws o = MatchOption o (list_all is_value ws ≡ false)
    (λ vs. (list_all is_value ws ≡ true) × (vs ≡ values_of names ws))

-- the sums are within their limits
pub record IsWithin (t : Tally) : Type 0 where
  pub requests : t.requests ≤ max_requests
  pub calls : t.calls ≤ max_session_calls
  pub work : t.work ≤ max_session_work

-- the row has no fault, and this is its request, with the sums and the names behind it
pub record Accepted (old new : List Text) (f : File) (t : Tally) (r : Row) (request : Request)
    (next : Tally) : Type 0 where
  pub fine : fault_of old f t r ≡ None
  pub made : request ≡ request_of old new f r
  pub sums : next ≡ with_request f request.handler t
  pub names : new ≡ placed_all old r.args
  pub within : IsWithin next
  pub asked : IsRequestOf f request

-- no row has a fault, and these are their requests, with the names behind them
pub record AreRequests (old new : List Text) (f : File) (rs : List Row)
    (found : List Request) : Type 0 where
  pub fine : first_fault old f no_requests rs ≡ None
  pub requests : found ≡ map (request_of old new f) rs
  pub names : new ≡ names_behind old rs

-- each symbol among the arguments has a text, of at most 64 bytes
abbrev pub ArePrintable : List Text → List Request → Type 0
ArePrintable names found = AllByRecursion (λ r. AllByRecursion (IsPrintable names) r.args) found
