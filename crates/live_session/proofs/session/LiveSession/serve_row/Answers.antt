use Rattle.std.proofs.Common.{◌≡◌, List, [], vec_capacity, sym, ◌∙◌, ap, subst}
use Rattle.session_values.specs.Tables.{Tables}
use Rattle.session_values.specs.declared.reply.Reply.{Reply}
use Rattle.session_values.specs.declared.value.Value.{Value}
use Rattle.handler_check.specs.Resolved.{shape_of}
use Rattle.text_lines.specs.Rows.{row_of}
use Rattle.text_lines.specs.Text.{Text, words}
use Rattle.driven_tickets.specs.Desk.{TicketsView}
use Rattle.driven_tickets.specs.declared.history.History.{History as Acts}
use Rattle.live_session.specs.Answers.{LineServed, RowAnswered, reply_line}
use Rattle.live_session.specs.Entries.{acts_of}
use Rattle.live_session.specs.Held.{factors_in, held}
use Rattle.live_session.specs.Live.{IsLive, LiveView, program_in}
use Rattle.live_session.specs.contracts.session.LiveSession.{the_view}
use Rattle.live_session.proofs.DrivenActs.{with_history}
use Rattle.live_session.proofs.Keeping.{declined, kept_held, kept_kinds, known_now, still as all_still, wrote_none}
use Rattle.live_session.proofs.OneRow.{Ran, ran}
use Rattle.live_session.proofs.Steps.{line_served, live_on, onward, passed, reply_prints}
use Rattle.live_session.proofs.session.LiveSession.serve_row.Goals as goal

pub accept-requires-clause-known : goal.accept-requires-clause-known
accept-requires-clause-known g c = known_now (the_view c.self.inside) c.self.invariant.0

pub invariant_of-self : goal.invariant_of-self
invariant_of-self g c =
    let v : LiveView = the_view c.self.inside in
    let same = all_still v c.accept.new.names (held c.accept.new.parts.items) (factors_in c.accept.new.parts.items) c.in-Err.ensures.same c.accept.ensures.held c.accept.ensures.factors in (
      subst IsLive (sym same) c.self.invariant.0,
      kept_held v.file v.most_names c.self.inside.adds.items c.self.inside.tables.parts.items c.accept.new.parts.items (vec_capacity c.self.inside.args.values) (vec_capacity c.accept.new.args) c.self.invariant.1 c.accept.ensures.capacity c.accept.ensures.held,
    )

pub returns-in-Err : goal.returns-in-Err
returns-in-Err g c =
    let v : LiveView = the_view c.self.inside in
    let r = row_of 0 c.args.words.name.now (words c.args.words.arguments.rest.now) in
    let w : LiveView = record v { names = c.accept.new.names; tables = held c.accept.new.parts.items; factors = factors_in c.accept.new.parts.items } in
    let same = all_still v c.accept.new.names (held c.accept.new.parts.items) (factors_in c.accept.new.parts.items) c.in-Err.ensures.same c.accept.ensures.held c.accept.ensures.factors in
    let P : LiveView → Type 0 = λ x. RowAnswered x c.args.line.now r c.in-Err.why [] w in
    record { answered = wrote_none (g.T.TextRoom.held c.args.out.now) (λ text. RowAnswered c.args.self.now c.args.line.now r c.in-Err.why text w) (subst P c.self.view_is (declined v w c.args.line.now r c.in-Err.why same c.in-Err.ensures.turned_away)) }

pub passed-requires : goal.passed-requires
passed-requires g c = c.in-Ok.ensures.admitted.numbered

pub push_reply-requires-clause-printable : goal.push_reply-requires-clause-printable
push_reply-requires-clause-printable g c =
    let v : LiveView = the_view c.self.inside in
    let ws : List Text = words c.args.words.arguments.rest.now in
    let r = row_of 0 c.args.words.name.now ws in
    let new : List Text = c.accept.new.names in
    let vals : List Value = c.accept.new.args.items in
    let after : Tables = held c.run_alone-reply.new.tables.parts.items in
    let reply : Reply = c.run_alone-reply.result in
    let k : TicketsView = c.passed.new.self in
    let one : Ran v c.args.words.name.now ws new vals c.in-Ok.h reply after =
    ran v c.args.words.name.now ws new vals c.in-Ok.h reply after c.checked.result.now c.as_slice-2.result.now (held c.accept.new.parts.items) c.checked.ensures.file c.as_slice-2.ensures.value c.accept.ensures.held c.in-Ok.ensures.accepted c.in-Ok.ensures.admitted
    c.run_alone-reply.ensures.answer c.run_alone-reply.ensures.after c.run_alone-reply.ensures.values in
    let acts : k ≡ passed v.tickets (acts_of (program_in v) v.tickets.next c.in-Ok.h vals v.tables) =
    c.passed.ensures.after ∙ ap (passed v.tickets) (ap (λ (x : Acts). x.acts) c.acts-done.ensures ∙ (λ i. acts_of (program_in v) (c.next-number.ensures.next i) c.in-Ok.h vals (c.accept.ensures.held i))) in
    reply_prints v c.self.invariant.0 c.self.invariant.1.most_few c.args.line.now c.args.words.name.now ws c.requires.words new vals c.in-Ok.h reply after one k acts c.passed.ensures.ascending

pub invariant_of-self-2 : goal.invariant_of-self-2
invariant_of-self-2 g c =
    let v : LiveView = the_view c.self.inside in
    let ws : List Text = words c.args.words.arguments.rest.now in
    let r = row_of 0 c.args.words.name.now ws in
    let new : List Text = c.accept.new.names in
    let vals : List Value = c.accept.new.args.items in
    let after : Tables = held c.run_alone-reply.new.tables.parts.items in
    let reply : Reply = c.run_alone-reply.result in
    let k : TicketsView = c.passed.new.self in
    let one : Ran v c.args.words.name.now ws new vals c.in-Ok.h reply after =
    ran v c.args.words.name.now ws new vals c.in-Ok.h reply after c.checked.result.now c.as_slice-2.result.now (held c.accept.new.parts.items) c.checked.ensures.file c.as_slice-2.ensures.value c.accept.ensures.held c.in-Ok.ensures.accepted c.in-Ok.ensures.admitted
    c.run_alone-reply.ensures.answer c.run_alone-reply.ensures.after c.run_alone-reply.ensures.values in
    let acts : k ≡ passed v.tickets (acts_of (program_in v) v.tickets.next c.in-Ok.h vals v.tables) =
    c.passed.ensures.after ∙ ap (passed v.tickets) (ap (λ (x : Acts). x.acts) c.acts-done.ensures ∙ (λ i. acts_of (program_in v) (c.next-number.ensures.next i) c.in-Ok.h vals (c.accept.ensures.held i))) in
    let still : factors_in c.run_alone-reply.new.tables.parts.items ≡ v.factors = c.run_alone-reply.ensures.factors ∙ c.accept.ensures.factors in
    let is : with_history (record v { factors = factors_in c.run_alone-reply.new.tables.parts.items }) new after k c.served-self-inside.result ≡ onward v c.self.invariant.0 c.self.invariant.1.most_few c.args.line.now c.args.words.name.now ws c.requires.words new vals c.in-Ok.h reply after one k acts c.passed.ensures.ascending = (λ i. with_history (record v { factors = still i }) new after k (c.served-self-inside.ensures i)) in (
      subst IsLive (sym is) (live_on v c.self.invariant.0 c.self.invariant.1.most_few c.args.line.now c.args.words.name.now ws c.requires.words new vals c.in-Ok.h reply after one k acts c.passed.ensures.ascending),
      kept_kinds v.file v.most_names c.self.inside.adds.items c.self.inside.tables.parts.items c.run_alone-reply.new.tables.parts.items (vec_capacity c.self.inside.args.values) (vec_capacity c.accept.new.args) c.self.invariant.1 c.accept.ensures.capacity
          (c.run_alone-reply.ensures.shape ∙ ap shape_of c.checked.ensures.file),
    )

pub returns : goal.returns
returns g c =
    let v : LiveView = the_view c.self.inside in
    let ws : List Text = words c.args.words.arguments.rest.now in
    let r = row_of 0 c.args.words.name.now ws in
    let new : List Text = c.accept.new.names in
    let vals : List Value = c.accept.new.args.items in
    let after : Tables = held c.run_alone-reply.new.tables.parts.items in
    let reply : Reply = c.run_alone-reply.result in
    let k : TicketsView = c.passed.new.self in
    let one : Ran v c.args.words.name.now ws new vals c.in-Ok.h reply after =
    ran v c.args.words.name.now ws new vals c.in-Ok.h reply after c.checked.result.now c.as_slice-2.result.now (held c.accept.new.parts.items) c.checked.ensures.file c.as_slice-2.ensures.value c.accept.ensures.held c.in-Ok.ensures.accepted c.in-Ok.ensures.admitted
    c.run_alone-reply.ensures.answer c.run_alone-reply.ensures.after c.run_alone-reply.ensures.values in
    let acts : k ≡ passed v.tickets (acts_of (program_in v) v.tickets.next c.in-Ok.h vals v.tables) =
    c.passed.ensures.after ∙ ap (passed v.tickets) (ap (λ (x : Acts). x.acts) c.acts-done.ensures ∙ (λ i. acts_of (program_in v) (c.next-number.ensures.next i) c.in-Ok.h vals (c.accept.ensures.held i))) in
    let still : factors_in c.run_alone-reply.new.tables.parts.items ≡ v.factors = c.run_alone-reply.ensures.factors ∙ c.accept.ensures.factors in
    let is : with_history (record v { factors = factors_in c.run_alone-reply.new.tables.parts.items }) new after k c.served-self-inside.result ≡ onward v c.self.invariant.0 c.self.invariant.1.most_few c.args.line.now c.args.words.name.now ws c.requires.words new vals c.in-Ok.h reply after one k acts c.passed.ensures.ascending = (λ i. with_history (record v { factors = still i }) new after k (c.served-self-inside.ensures i)) in
    let text : Text = reply_line new reply in
    let done = line_served v c.self.invariant.0 c.self.invariant.1.most_few c.args.line.now c.args.words.name.now ws c.requires.words new vals c.in-Ok.h reply after one k acts c.passed.ensures.ascending in
    let Q : LiveView → Type 0 = λ x. LineServed v c.args.line.now r text x in
    let P : LiveView → Type 0 = λ x. LineServed x c.args.line.now r text (with_history (record v { factors = factors_in c.run_alone-reply.new.tables.parts.items }) new after k c.served-self-inside.result) in
    record { answered = (text, c.push_reply.ensures.text, c.push_reply.ensures.short, subst P c.self.view_is (subst Q (sym is) done)) }
