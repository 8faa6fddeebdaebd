use Rattle.std.proofs.Common.{◌≡◌, ◌∷◌, [], length, sym, ap, ◌∙◌, subst, arith, Err}
use Rattle.text_lines.specs.Text.{lines, words}
use Rattle.request_files.specs.Entries.{AreWithin, request_in, requests_in}
use Rattle.request_files.specs.Requests.{AreRequests, ArePrintable, no_requests}
use Rattle.text_lines.specs.Rows.{rows, row_of}
use Rattle.request_files.specs.Servable.{IsServable}
use Rattle.text_lines.proofs.TextLemmas.{total, total_le}
use Rattle.request_files.proofs.RowLemmas.{Going, going_start, going_turn, going_fault, going_end, going_served, known_kept}
use Rattle.text_lines.proofs.RowLemmas.{rows_step, rows_pass, rows_nil}
use Rattle.request_files.proofs.EntryLemmas.{requests_push, within_push, requests_long}
use Rattle.request_files.proofs.HandlerLemmas.{named_known}
use Rattle.request_files.proofs.PrintableLemmas.{printable}
use Rattle.request_files.proofs.reading.read_requests.Goals as goal

pub request-requires-clause-known : goal.request-requires-clause-known
request-requires-clause-known c = known_kept c.args.names.now c.lines.names c.args.checked.now c.lines.invariant.going.kept (named_known c.args.names.now c.args.checked.now c.requires.named)

pub lines-init : goal.lines-init
lines-init c =
    let e : rows c.args.first (lines c.args.text.now) ≡ rows c.over-lines.result.number (lines c.over-lines.result.rest.now) =
    ap (λ n. rows n (lines c.args.text.now)) (sym c.over-lines.ensures.number) ∙ ap (λ t. rows c.over-lines.result.number (lines t)) (sym c.over-lines.ensures.rest) in
    let start = going_start c.args.names.now c.args.checked.now (rows c.args.first (lines c.args.text.now)) in
    record {
      next = tt;
      finite = tt;
      going = subst (λ rs. Going c.args.names.now c.args.checked.now (rows c.args.first (lines c.args.text.now)) c.args.names.now rs (requests_in c.make_room.new.values.items c.make_room.new.found.items) no_requests) e
          (subst (λ f. Going c.args.names.now c.args.checked.now (rows c.args.first (lines c.args.text.now)) c.args.names.now (rows c.args.first (lines c.args.text.now)) (requests_in c.make_room.new.values.items f) no_requests) (sym (c.make_room.ensures.found ∙ c.new-found.ensures.items)) start);
      within = subst (AreWithin (length c.make_room.new.values.items)) (sym (c.make_room.ensures.found ∙ c.new-found.ensures.items)) tt;
      room = omega (arith, total_le c.args.text.now, ap (λ t. total (lines t)) c.over-lines.ensures.rest);
    }

pub lines-preserved-in-Ok : goal.lines-preserved-in-Ok
lines-preserved-in-Ok c =
    let steps = c.in-Some.ensures.steps in
    let e : rows c.lines.lines.number (lines c.lines.lines.rest.now) ≡ row_of c.in-Some.line c.in-Some-next.name.now (words c.next-in-Some.new.self.rest.now) ∷ rows c.next.new.self.number (lines c.next.new.self.rest.now) =
    rows_step c.lines.lines.number c.in-Some.line c.next.new.self.number (lines c.lines.lines.rest.now) c.in-Some.words.rest.now (lines c.next.new.self.rest.now) c.in-Some-next.name.now (words c.next-in-Some.new.self.rest.now)
    steps.0 steps.1 steps.2 c.in-Some-next.ensures.steps.0 in
    let before = subst (λ rs. Going c.args.names.now c.args.checked.now (rows c.args.first (lines c.args.text.now)) c.lines.names rs (requests_in c.lines.values.items c.lines.found.items) c.lines.tally) e c.lines.invariant.going in
    let accepted = c.in-Ok.ensures.ok in
    let turn = going_turn c.args.names.now c.args.checked.now (rows c.args.first (lines c.args.text.now)) c.lines.names _ _ (requests_in c.lines.values.items c.lines.found.items) c.lines.tally c.request.new.names (request_in c.request.new.list.items c.in-Ok.entry) c.in-Ok.next (named_known c.args.names.now c.args.checked.now c.requires.named) before accepted in
    record {
      next = tt;
      finite = tt;
      going = subst (λ f. Going c.args.names.now c.args.checked.now (rows c.args.first (lines c.args.text.now)) c.request.new.names (rows c.next.new.self.number (lines c.next.new.self.rest.now)) f c.in-Ok.next) (sym (ap (requests_in c.request.new.list.items) c.in_default-push.ensures.items ∙ requests_push c.lines.values.items c.request.new.list.items c.lines.found.items c.in-Ok.entry c.lines.invariant.within c.in-Ok.ensures.behind)) turn;
      within = subst (AreWithin (length c.request.new.list.items)) (sym c.in_default-push.ensures.items) (within_push c.lines.values.items c.request.new.list.items c.lines.found.items c.in-Ok.entry c.lines.invariant.within c.in-Ok.ensures.behind);
      room = omega (arith, c.request.ensures.room, ap total steps.0, ap length c.in-Some-next.ensures.steps.0, c.lines.invariant.room);
    }

pub returns-in-Err-clause-refused : goal.returns-in-Err-clause-refused
returns-in-Err-clause-refused c = λ e is some.
    let steps = c.in-Some.ensures.steps in
    let k : c.in-Err.e ≡ e = cc in
    let f : rows c.lines.lines.number (lines c.lines.lines.rest.now) ≡ row_of c.in-Some.line c.in-Some-next.name.now (words c.next-in-Some.new.self.rest.now) ∷ rows c.next.new.self.number (lines c.next.new.self.rest.now) =
    rows_step c.lines.lines.number c.in-Some.line c.next.new.self.number (lines c.lines.lines.rest.now) c.in-Some.words.rest.now (lines c.next.new.self.rest.now) c.in-Some-next.name.now (words c.next-in-Some.new.self.rest.now)
    steps.0 steps.1 steps.2 c.in-Some-next.ensures.steps.0 in
    let before = subst (λ rs. Going c.args.names.now c.args.checked.now (rows c.args.first (lines c.args.text.now)) c.lines.names rs (requests_in c.lines.values.items c.lines.found.items) c.lines.tally) f c.lines.invariant.going in
    going_fault c.args.names.now c.args.checked.now (rows c.args.first (lines c.args.text.now)) c.lines.names _ _ (requests_in c.lines.values.items c.lines.found.items) c.lines.tally e (named_known c.args.names.now c.args.checked.now c.requires.named) before
    (c.request.ensures.refused e (c.in-Err.is ∙ ap (λ x. Err x) k) some)

pub lines-preserved : goal.lines-preserved
lines-preserved c =
    let steps = c.in-Some.ensures.steps in
    let f : rows c.lines.lines.number (lines c.lines.lines.rest.now) ≡ rows c.next.new.self.number (lines c.next.new.self.rest.now) =
    rows_pass c.lines.lines.number c.next.new.self.number (lines c.lines.lines.rest.now) c.in-Some.words.rest.now (lines c.next.new.self.rest.now) steps.0 steps.2 c.in_default-next.ensures.steps.0 in
    record {
      next = tt;
      finite = tt;
      going = subst (λ rs. Going c.args.names.now c.args.checked.now (rows c.args.first (lines c.args.text.now)) c.lines.names rs (requests_in c.lines.values.items c.lines.found.items) c.lines.tally) f c.lines.invariant.going;
      within = c.lines.invariant.within;
      room = omega (arith, ap total steps.0, c.lines.invariant.room);
    }

pub returns-clause-ok : goal.returns-clause-ok
returns-clause-ok c =
    let f : rows c.lines.lines.number (lines c.lines.lines.rest.now) ≡ [] = ap (rows c.lines.lines.number) c.in_default.ensures.steps.0 ∙ rows_nil c.lines.lines.number in
    let last = subst (λ rs. Going c.args.names.now c.args.checked.now (rows c.args.first (lines c.args.text.now)) c.lines.names rs (requests_in c.lines.values.items c.lines.found.items) c.lines.tally) f c.lines.invariant.going in
    subst (AreRequests c.args.names.now c.lines.names c.args.checked.now (rows c.args.first (lines c.args.text.now))) (sym c.over.ensures)
    (going_end c.args.names.now c.args.checked.now (rows c.args.first (lines c.args.text.now)) c.lines.names (requests_in c.lines.values.items c.lines.found.items) c.lines.tally last)

pub returns-clause-printable : goal.returns-clause-printable
returns-clause-printable c =
    let f : rows c.lines.lines.number (lines c.lines.lines.rest.now) ≡ [] = ap (rows c.lines.lines.number) c.in_default.ensures.steps.0 ∙ rows_nil c.lines.lines.number in
    let last = subst (λ rs. Going c.args.names.now c.args.checked.now (rows c.args.first (lines c.args.text.now)) c.lines.names rs (requests_in c.lines.values.items c.lines.found.items) c.lines.tally) f c.lines.invariant.going in
    subst (ArePrintable c.lines.names) (sym c.over.ensures)
    (printable _ _ _ _ _ (going_end c.args.names.now c.args.checked.now (rows c.args.first (lines c.args.text.now)) c.lines.names (requests_in c.lines.values.items c.lines.found.items) c.lines.tally last))

pub returns-clause-servable : goal.returns-clause-servable
returns-clause-servable c =
    let f : rows c.lines.lines.number (lines c.lines.lines.rest.now) ≡ [] = ap (rows c.lines.lines.number) c.in_default.ensures.steps.0 ∙ rows_nil c.lines.lines.number in
    let last = subst (λ rs. Going c.args.names.now c.args.checked.now (rows c.args.first (lines c.args.text.now)) c.lines.names rs (requests_in c.lines.values.items c.lines.found.items) c.lines.tally) f c.lines.invariant.going in
    subst (IsServable c.args.checked.now) (sym c.over.ensures)
    (going_served c.args.names.now c.args.checked.now (rows c.args.first (lines c.args.text.now)) c.lines.names (requests_in c.lines.values.items c.lines.found.items) c.lines.tally last)

pub over-requires-clause-few : goal.over-requires-clause-few
over-requires-clause-few c =
    let going = c.lines.invariant.going in
    let within = going.within.requests in
    omega (arith, going.count, within, requests_long c.lines.values.items c.lines.found.items)
