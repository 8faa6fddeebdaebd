-- What a whole walk leaves.
use Rattle.std.proofs.Common.{◌≡◌, [], Result, Ok, Err, IsErr, refl, sym}
use Rattle.session_values.specs.declared.reply.Reply.{Reply}
use Rattle.session_values.specs.Dialogue.{Answers}
use Rattle.session_values.specs.Reply.{reply_of}
use Rattle.check_meaning.specs.Ahead.{Ahead, answering, goes}
use Rattle.check_meaning.specs.Dialogue.{Env}
use Rattle.handler_machine.specs.declared.walk.Flow.{Flow}
use Rattle.handler_machine.specs.declared.walk.Flow.TheVariants.{On, Answered}
use Rattle.handler_machine.specs.Leading.{Leads, Ends}
use Rattle.handler_machine.proofs.Steps.{leads_on, leads_answered, leads_stopped}

module _ {E : Type 0} (S : Ahead → Type 0) (T : Type 0) (env : Env) (reply : Reply) (walked : Result Flow E) (led : Leads S T goes env reply walked) where
  pub ends_on : (flow : Flow) (r : Reply) → walked ≡ Ok flow → flow ≡ On → r ≡ reply_of [] → Ends {E = E} S T (Ok r)
  ends_on flow r was is nil = (goes env, leads_on S T goes env reply flow walked was is led, record { answers = λ i. Answers (sym nil i); passes = refl })

  pub ends_answered : (flow : Flow) → walked ≡ Ok flow → flow ≡ Answered → Ends {E = E} S T (Ok reply)
  ends_answered flow was is =
      let h = leads_answered S T goes env reply flow walked was is led in
      (answering h.0, h.2, record { answers = λ i. Answers (sym h.1 i); passes = refl })

  pub ends_err : (e : E) (r : Result Reply E) → walked ≡ Err e → IsErr r → Ends S T r
  ends_err e (Ok x) was is = cc
  ends_err e (Err z) was is = leads_stopped S T goes env reply walked e was led
