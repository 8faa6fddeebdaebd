-- A line's fault, and requests that are served one after another, each when it comes.
use Rattle.std.specs.Prelude.{◌≡◌, ℕ, not, ◌==◌, nat_le, if◌then◌else◌, List, [], ◌∷◌, length}
use Rattle.std.specs.Prelude.{Option, Some, None}
use Rattle.std.specs.List.{list_all}
use Rattle.session_values.specs.declared.reply.Reply.{Reply}
use Rattle.session_values.specs.Serial.{Served, serve}
use Rattle.session_values.specs.Tables.{Tables}
use Rattle.handler_check.specs.File.{File}
use Rattle.handler_check.specs.Bounds.{calls_bound}
use Rattle.handler_check.specs.Resolved.{code_at, params_at}
use Rattle.text_lines.specs.Rows.{Row}
use Rattle.text_lines.specs.Text.{Text}
use Rattle.text_lines.specs.Values.{is_value}
use Rattle.request_files.specs.declared.request.Request.{Request}
use Rattle.request_files.specs.Requests.{handler_of}
use Rattle.request_files.specs.Session.{dialogue_of}
use Rattle.live_session.specs.declared.answers.LineRefusal.{LineRefusal}
use Rattle.live_session.specs.declared.answers.LineRefusal.TheVariants.{Arity, BadWord}
use Rattle.live_session.specs.declared.answers.LineRefusal.TheVariants.{UnknownHandler}

-- ---- the rules on a line, in the order in which they are tried

-- the fault of a row whose handler has this number, if it has one
abbrev pub fault_at : File → Row → ℕ → Option LineRefusal
fault_at f r h =
    if nat_le (length f.handlers) h then Some UnknownHandler
    else (if not (params_at f h == length r.args) then Some Arity
    else (if not (list_all is_value r.args) then Some BadWord else None))

-- its fault, where handlers go by these names
abbrev pub line_fault : List Text → File → Row → Option LineRefusal
line_fault names f r = fault_at f r (handler_of names f r.name)

-- ---- serving

-- a request's handler run alone from these tables
abbrev pub alone : File → Request → Tables → Served
alone f r ts = serve (calls_bound (code_at f r.handler)) (dialogue_of f r) ts

-- a request was served alone from these tables: so it was answered, and those tables it left
pub record IsServed (f : File) (r : Request) (before : Tables) (reply : Reply)
    (after : Tables) : Type 0 where
  pub answer : (alone f r before).answer ≡ Some reply
  pub tables_are : after ≡ (alone f r before).after

-- requests were served so, one after another, with these replies
abbrev pub AreServed : File → Tables → List Request → List Reply → Tables → Type 0
AreServed f before [] [] after = after ≡ before
AreServed f before [] (a ∷ replies) after = ⊥
AreServed f before (r ∷ rs) [] after = ⊥
AreServed f before (r ∷ rs) (a ∷ replies) after =
    (between : Tables) × IsServed f r before a between × AreServed f between rs replies after
