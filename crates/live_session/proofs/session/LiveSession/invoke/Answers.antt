use Rattle.std.proofs.Common.{◌≡◌, ◌∷◌, ◌++◌, List, [], Err, Ok, vec_capacity, refl, sym, ◌∙◌, ap, subst}
use Rattle.session_values.specs.Tables.{Tables}
use Rattle.session_values.specs.declared.reply.Reply.{Reply}
use Rattle.session_values.specs.declared.value.Value.{Value}
use Rattle.handler_check.specs.Resolved.{shape_of}
use Rattle.text_lines.specs.Text.{Text, words}
use Rattle.driven_tickets.specs.Desk.{TicketsView}
use Rattle.driven_tickets.specs.declared.history.History.{History as Acts}
use Rattle.live_session.specs.declared.answers.Answered.TheVariants as answered
use Rattle.live_session.specs.Answers.{reply_line}
use Rattle.live_session.specs.ArgumentWords.{words_of}
use Rattle.live_session.specs.Entries.{acts_of}
use Rattle.live_session.specs.Held.{factors_in, held}
use Rattle.live_session.specs.Invoking.{InvokeAnswered, handler_name, line_given, line_of}
use Rattle.live_session.specs.Live.{IsLive, LiveView, program_in}
use Rattle.live_session.specs.contracts.session.LiveSession.{the_view}
use Rattle.live_session.proofs.DrivenActs.{with_history}
use Rattle.live_session.proofs.Keeping.{kept_held, kept_kinds, known_now, still as all_still}
use Rattle.live_session.proofs.OneRow.{Ran, ran}
use Rattle.live_session.proofs.Received.{as_line, line_same, named_now, not_invoked}
use Rattle.live_session.proofs.SaidLines.{line_words}
use Rattle.live_session.proofs.Steps.{line_served, live_on, onward, passed}
use Rattle.live_session.proofs.session.LiveSession.invoke.Goals as goal

pub accept_given-requires-clause-known : goal.accept_given-requires-clause-known
accept_given-requires-clause-known c = known_now (the_view c.self.inside) c.self.invariant.0

pub invariant_of-self : goal.invariant_of-self
invariant_of-self c =
    let v : LiveView = the_view c.self.inside in
    let same = all_still v c.accept_given.new.names (held c.accept_given.new.parts.items) (factors_in c.accept_given.new.parts.items) c.in-Err.ensures.same c.accept_given.ensures.held c.accept_given.ensures.factors in (
      subst IsLive (sym same) c.self.invariant.0,
      kept_held v.file v.most_names c.self.inside.adds.items c.self.inside.tables.parts.items c.accept_given.new.parts.items (vec_capacity c.self.inside.args.values) (vec_capacity c.accept_given.new.args) c.self.invariant.1 c.accept_given.ensures.capacity c.accept_given.ensures.held,
    )

pub returns-in-Err : goal.returns-in-Err
returns-in-Err c =
    let v : LiveView = the_view c.self.inside in
    let w : LiveView = record v { names = c.accept_given.new.names; tables = held c.accept_given.new.parts.items; factors = factors_in c.accept_given.new.parts.items } in
    let same = all_still v c.accept_given.new.names (held c.accept_given.new.parts.items) (factors_in c.accept_given.new.parts.items) c.in-Err.ensures.same c.accept_given.ensures.held c.accept_given.ensures.factors in
    subst (λ (x : LiveView). InvokeAnswered x c.args.handler c.args.arguments.now (Err c.in-Err.why) w) c.self.view_is (not_invoked v c.self.invariant.0 c.args.handler c.args.arguments.now c.in-Err.why w same c.in-Err.ensures.away)

pub passed-requires : goal.passed-requires
passed-requires c = c.in-Ok.ensures.admitted.numbered

pub invariant_of-self-2 : goal.invariant_of-self-2
invariant_of-self-2 c =
    let v : LiveView = the_view c.self.inside in
    let live = c.self.invariant.0 in
    let most = c.self.invariant.1.most_few in
    let args = c.args.arguments.now in
    let said = c.in-Ok.ensures.said in
    let words_held = c.in-Ok.ensures.words in
    let name : Text = handler_name v.names v.file c.args.handler in
    let ws : List Text = words_of v.names args in
    let line : Text = line_given v.names v.file c.args.handler args in
    let new : List Text = c.accept_given.new.names in
    let vals : List Value = c.accept_given.new.args.items in
    let after : Tables = held c.run_alone-reply.new.tables.parts.items in
    let reply : Reply = c.run_alone-reply.result in
    let k : TicketsView = c.passed.new.self in
    let is_line : words line ≡ name ∷ ws = line_words v.names v.file c.args.handler args said.handler (named_now v live) said.fine words_held in
    let one : Ran v name ws new vals c.args.handler reply after =
    ran v name ws new vals c.args.handler reply after c.checked.result.now c.as_slice-2.result.now (held c.accept_given.new.parts.items) c.checked.ensures.file c.as_slice-2.ensures.value c.accept_given.ensures.held c.in-Ok.ensures.accepted c.in-Ok.ensures.admitted
    c.run_alone-reply.ensures.answer c.run_alone-reply.ensures.after c.run_alone-reply.ensures.values in
    let acts : k ≡ passed v.tickets (acts_of (program_in v) v.tickets.next c.args.handler vals v.tables) =
    c.passed.ensures.after ∙ ap (passed v.tickets) (ap (λ (x : Acts). x.acts) c.acts-done.ensures ∙ (λ i. acts_of (program_in v) (c.next-number.ensures.next i) c.args.handler vals (c.accept_given.ensures.held i))) in
    let same_line : line_of new v.file c.args.handler vals ≡ line = line_same v.names new v.file c.args.handler args vals (known_now v live) said words_held c.in-Ok.ensures.accepted.names_are c.in-Ok.ensures.accepted.args_are in
    let same_factors : factors_in c.run_alone-reply.new.tables.parts.items ≡ v.factors = c.run_alone-reply.ensures.factors ∙ c.accept_given.ensures.factors in
    let is : with_history (record v { factors = factors_in c.run_alone-reply.new.tables.parts.items }) new after k c.invoked-self-inside.result ≡ onward v live most line name ws is_line new vals c.args.handler reply after one k acts c.passed.ensures.ascending =
    (λ i. with_history (record v { factors = same_factors i }) new after k (c.invoked-self-inside.ensures i)) ∙ ap (λ (l : Text). record v { names = new; tables = after; tickets = k; lines = v.lines ++ l ∷ []; replies = v.replies ++ reply ∷ [] }) same_line in (
      subst IsLive (sym is) (live_on v live most line name ws is_line new vals c.args.handler reply after one k acts c.passed.ensures.ascending),
      kept_kinds v.file v.most_names c.self.inside.adds.items c.self.inside.tables.parts.items c.run_alone-reply.new.tables.parts.items (vec_capacity c.self.inside.args.values) (vec_capacity c.accept_given.new.args) c.self.invariant.1 c.accept_given.ensures.capacity
          (c.run_alone-reply.ensures.shape ∙ ap shape_of c.checked.ensures.file),
    )

pub returns : goal.returns
returns c =
    let v : LiveView = the_view c.self.inside in
    let live = c.self.invariant.0 in
    let most = c.self.invariant.1.most_few in
    let args = c.args.arguments.now in
    let said = c.in-Ok.ensures.said in
    let words_held = c.in-Ok.ensures.words in
    let name : Text = handler_name v.names v.file c.args.handler in
    let ws : List Text = words_of v.names args in
    let line : Text = line_given v.names v.file c.args.handler args in
    let new : List Text = c.accept_given.new.names in
    let vals : List Value = c.accept_given.new.args.items in
    let after : Tables = held c.run_alone-reply.new.tables.parts.items in
    let reply : Reply = c.run_alone-reply.result in
    let k : TicketsView = c.passed.new.self in
    let is_line : words line ≡ name ∷ ws = line_words v.names v.file c.args.handler args said.handler (named_now v live) said.fine words_held in
    let one : Ran v name ws new vals c.args.handler reply after =
    ran v name ws new vals c.args.handler reply after c.checked.result.now c.as_slice-2.result.now (held c.accept_given.new.parts.items) c.checked.ensures.file c.as_slice-2.ensures.value c.accept_given.ensures.held c.in-Ok.ensures.accepted c.in-Ok.ensures.admitted
    c.run_alone-reply.ensures.answer c.run_alone-reply.ensures.after c.run_alone-reply.ensures.values in
    let acts : k ≡ passed v.tickets (acts_of (program_in v) v.tickets.next c.args.handler vals v.tables) =
    c.passed.ensures.after ∙ ap (passed v.tickets) (ap (λ (x : Acts). x.acts) c.acts-done.ensures ∙ (λ i. acts_of (program_in v) (c.next-number.ensures.next i) c.args.handler vals (c.accept_given.ensures.held i))) in
    let same_line : line_of new v.file c.args.handler vals ≡ line = line_same v.names new v.file c.args.handler args vals (known_now v live) said words_held c.in-Ok.ensures.accepted.names_are c.in-Ok.ensures.accepted.args_are in
    let same_factors : factors_in c.run_alone-reply.new.tables.parts.items ≡ v.factors = c.run_alone-reply.ensures.factors ∙ c.accept_given.ensures.factors in
    let is : with_history (record v { factors = factors_in c.run_alone-reply.new.tables.parts.items }) new after k c.invoked-self-inside.result ≡ onward v live most line name ws is_line new vals c.args.handler reply after one k acts c.passed.ensures.ascending =
    (λ i. with_history (record v { factors = same_factors i }) new after k (c.invoked-self-inside.ensures i)) ∙ ap (λ (l : Text). record v { names = new; tables = after; tickets = k; lines = v.lines ++ l ∷ []; replies = v.replies ++ reply ∷ [] }) same_line in
    let w : LiveView = onward v live most line name ws is_line new vals c.args.handler reply after one k acts c.passed.ensures.ascending in
    let done = line_served v live most line name ws is_line new vals c.args.handler reply after one k acts c.passed.ensures.ascending in
    let answer : InvokeAnswered v c.args.handler args (Ok reply) w = (as_line v live c.args.handler args said words_held answered.Served (reply_line new reply) w done, refl) in
    let Q : LiveView → Type 0 = λ x. InvokeAnswered v c.args.handler args (Ok reply) x in
    let P : LiveView → Type 0 = λ x. InvokeAnswered x c.args.handler args (Ok reply) (with_history (record v { factors = factors_in c.run_alone-reply.new.tables.parts.items }) new after k c.invoked-self-inside.result) in
    subst P c.self.view_is (subst Q (sym is) answer)
