-- Where a part of a handler leads, and a whole one.
use Rattle.std.specs.Prelude.{◌≡◌, List, [], Result, Ok, Err}
use Rattle.session_values.specs.declared.reply.Reply.{Reply}
use Rattle.session_values.specs.declared.value.Value.{Value}
use Rattle.session_values.specs.Dialogue.{Answers}
use Rattle.session_values.specs.Reply.{reply_of}
use Rattle.check_meaning.specs.Ahead.{Ahead, answering}
use Rattle.check_meaning.specs.Dialogue.{Env, ended, passed_by}
use Rattle.handler_machine.specs.declared.walk.Flow.{Flow}
use Rattle.handler_machine.specs.declared.walk.Flow.TheVariants.{On, Answered}

-- A part goes on with the rest k at these values of the variables, or it has answered with this
-- reply, or it was stopped. What is then ahead is what the first property is of.
abbrev pub Leads : {E : Type 0} → (Ahead → Type 0) → Type 0 → (Env → Ahead) → Env → Reply
    → Result Flow E → Type 0
Leads serves stopped k env reply (Ok On) = serves (k env)
Leads serves stopped k env reply (Ok Answered) =
    (values : List Value) × (reply ≡ reply_of values) × serves (answering values)
Leads serves stopped k env reply (Err e) = stopped

-- what is ahead is this answer alone
pub record EndsWith (ahead : Ahead) (r : Reply) : Type 0 where
  pub answers : ended (ahead []) ≡ Answers r
  pub passes : passed_by (ahead []) ≡ []

-- a whole handler has only its answer ahead, or it was stopped
abbrev pub Ends : {E : Type 0} → (Ahead → Type 0) → Type 0 → Result Reply E → Type 0
Ends serves stopped (Ok r) = (ahead : Ahead) × serves ahead × EndsWith ahead r
Ends serves stopped (Err e) = stopped
