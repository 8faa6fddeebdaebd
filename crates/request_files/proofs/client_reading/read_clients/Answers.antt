use Rattle.std.proofs.Common.{◌≡◌, ◌+◌, true, false, length, refl, sym, ap, ◌∙◌, subst, arith, Err, rules}
use Rattle.std.proofs.lemmas.Bool.Decides.{nat_tests}
use Rattle.text_lines.specs.Text.{lines, words}
use Rattle.text_lines.specs.Rows.{rows}
use Rattle.text_lines.proofs.TextLemmas.{none_left, total, total_le}
use Rattle.request_files.specs.declared.tally.Tally.{Tally}
use Rattle.request_files.specs.Clients.{ClientsView, is_next_mark, without_marks}
use Rattle.request_files.specs.Entries.{AreWithin, request_in, requests_in}
use Rattle.request_files.proofs.ClientLemmas.{Counting, counting_end, counting_mark, counting_pass, counting_row, counting_start}
use Rattle.request_files.proofs.ClientSteps.{client_row, empty_row, going_first, going_found, going_rows, mark_row, none_row, shared}
use Rattle.request_files.proofs.EntryLemmas.{requests_push, within_push}
use Rattle.request_files.proofs.HandlerLemmas.{named_known}
use Rattle.request_files.proofs.PrintableLemmas.{printable}
use Rattle.request_files.proofs.RowLemmas.{going_end, going_fault, going_served, going_turn, known_kept}
use Rattle.request_files.proofs.client_reading.read_clients.Goals as goal

pub lines-init : goal.lines-init
lines-init c =
    let all = lines c.args.text.now in
    record {
      utf8 = search rules;
      going = going_first _ _ _ c.args.names.now _ _ (ap (requests_in c.make_room.new.values.items) (c.make_room.ensures.found ∙ c.new-found.ensures.items)) c.no_requests-tally.ensures;
      counting = subst (λ cs. Counting all cs 0 all) (sym c.new-counts.ensures.items) (counting_start all);
      within = subst (AreWithin (length c.make_room.new.values.items)) (sym (c.make_room.ensures.found ∙ c.new-found.ensures.items)) tt;
      room = omega (arith, total_le c.args.text.now);
      number = omega arith;
      mine = omega arith;
    }

pub lines-preserved-then-is_next_mark : goal.lines-preserved-then-is_next_mark
lines-preserved-then-is_next_mark c =
    let all = lines c.args.text.now in
    let l = c.first_line.result.0.now in
    let ls = lines c.first_line.result.1.now in
    let is = c.first_line.ensures.lines in
    let mark : is_next_mark l ≡ true = sym (ap is_next_mark c.as_bytes.ensures.value) ∙ sym c.is_next_mark.ensures ∙ c.if-is_next_mark.true in
    record {
      utf8 = search rules;
      going = going_rows _ _ _ _ _ _ _ _ (mark_row c.lines.number (c.lines.number + 1) (lines c.lines.rest.now) l ls is refl mark) c.lines.invariant.going;
      counting = subst (λ cs. Counting all cs 0 ls) (sym c.in_default.ensures.items) (counting_mark all c.lines.counts.items c.lines.mine (lines c.lines.rest.now) l ls is c.lines.invariant.counting mark);
      within = c.lines.invariant.within;
      room = omega (arith, ap total is, c.lines.invariant.room);
      number = omega (arith, c.lines.invariant.number, c.first_line.ensures.left);
      mine = omega arith;
    }

pub request-requires-clause-known : goal.request-requires-clause-known
request-requires-clause-known c = known_kept c.args.names.now c.lines.names c.args.checked.now c.lines.invariant.going.kept (named_known c.args.names.now c.args.checked.now c.requires.named)

pub lines-preserved-in-Ok : goal.lines-preserved-in-Ok
lines-preserved-in-Ok c =
    let all = lines c.args.text.now in
    let l = c.first_line.result.0.now in
    let ls = lines c.first_line.result.1.now in
    let is = c.first_line.ensures.lines in
    let plain : is_next_mark l ≡ false = sym (ap is_next_mark c.as_bytes.ensures.value) ∙ sym c.is_next_mark.ensures ∙ c.if-is_next_mark.false in
    let w = c.in-Some.name.now in
    let ws = words c.in-Some.words.rest.now in
    let row = client_row c.lines.number (c.lines.number + 1) (lines c.lines.rest.now) l ls is refl w ws plain c.in-Some.ensures in
    let accepted = c.in-Ok.ensures.ok in
    let turn = going_turn c.args.names.now c.args.checked.now (rows c.args.first (without_marks all)) c.lines.names _ _ (requests_in c.lines.values.items c.lines.found.items) c.lines.tally
    c.request.new.names (request_in c.request.new.list.items c.in-Ok.entry) c.in-Ok.sums (named_known c.args.names.now c.args.checked.now c.requires.named)
    (going_rows _ _ _ _ _ _ _ _ row c.lines.invariant.going) accepted in
    record {
      utf8 = search rules;
      going = going_found _ _ _ _ _ _ _ _ (ap (requests_in c.request.new.list.items) c.in_default-push.ensures.items
          ∙ requests_push c.lines.values.items c.request.new.list.items c.lines.found.items c.in-Ok.entry c.lines.invariant.within c.in-Ok.ensures.behind) turn;
      counting = counting_row all c.lines.counts.items c.lines.mine (lines c.lines.rest.now) l ls is c.lines.invariant.counting w ws plain c.in-Some.ensures;
      within = subst (AreWithin (length c.request.new.list.items)) (sym c.in_default-push.ensures.items) (within_push c.lines.values.items c.request.new.list.items c.lines.found.items c.in-Ok.entry c.lines.invariant.within c.in-Ok.ensures.behind);
      room = omega (arith, c.request.ensures.room, ap total is, ap length c.in-Some.ensures, c.lines.invariant.room);
      number = omega (arith, c.lines.invariant.number, c.first_line.ensures.left);
      mine = omega (arith, ap (λ (t : Tally). t.requests) accepted.sums, c.lines.invariant.mine);
    }

pub returns-in-Err-request-clause-refused : goal.returns-in-Err-request-clause-refused
returns-in-Err-request-clause-refused c = λ e is some.
    let all = lines c.args.text.now in
    let l = c.first_line.result.0.now in
    let ls = lines c.first_line.result.1.now in
    let plain : is_next_mark l ≡ false = sym (ap is_next_mark c.as_bytes.ensures.value) ∙ sym c.is_next_mark.ensures ∙ c.if-is_next_mark.false in
    let row = client_row c.lines.number (c.lines.number + 1) (lines c.lines.rest.now) l ls c.first_line.ensures.lines refl c.in-Some.name.now (words c.in-Some.words.rest.now) plain c.in-Some.ensures in
    let k : c.in-Err-request.e ≡ e = cc in
    going_fault c.args.names.now c.args.checked.now (rows c.args.first (without_marks all)) c.lines.names _ _ (requests_in c.lines.values.items c.lines.found.items) c.lines.tally e
    (named_known c.args.names.now c.args.checked.now c.requires.named) (going_rows _ _ _ _ _ _ _ _ row c.lines.invariant.going)
    (c.request.ensures.refused e (c.in-Err-request.is ∙ ap (λ x. Err x) k) some)

pub lines-preserved : goal.lines-preserved
lines-preserved c =
    let all = lines c.args.text.now in
    let l = c.first_line.result.0.now in
    let ls = lines c.first_line.result.1.now in
    let is = c.first_line.ensures.lines in
    let plain : is_next_mark l ≡ false = sym (ap is_next_mark c.as_bytes.ensures.value) ∙ sym c.is_next_mark.ensures ∙ c.if-is_next_mark.false in
    record {
      utf8 = search rules;
      going = going_rows _ _ _ _ _ _ _ _ (empty_row c.lines.number (c.lines.number + 1) (lines c.lines.rest.now) l ls is refl plain c.in_default-first_word.ensures) c.lines.invariant.going;
      counting = counting_pass all c.lines.counts.items c.lines.mine (lines c.lines.rest.now) l ls is c.lines.invariant.counting plain c.in_default-first_word.ensures;
      within = c.lines.invariant.within;
      room = omega (arith, ap total is, c.lines.invariant.room);
      number = omega (arith, c.lines.invariant.number, c.first_line.ensures.left);
      mine = omega (arith, c.lines.invariant.mine);
    }

pub over-requires-2 : goal.over-requires-2
over-requires-2 c =
    let all = lines c.args.text.now in
    let none : length c.lines.rest.now ≡ 0 = grind (arith, nat_tests, c.is_empty.ensures, c.lines-test.false) in
    let last = going_rows _ _ _ _ _ _ _ _ (none_row c.lines.number c.lines.rest.now none) c.lines.invariant.going in
    let found = going_found _ _ _ _ _ _ _ _ c.over.ensures last in
    let counts = c.in_default-push-2.ensures.items ∙ counting_end all c.lines.counts.items c.lines.mine (subst (Counting all c.lines.counts.items c.lines.mine) (none_left c.lines.rest.now none) c.lines.invariant.counting) in
    shared _ _ _ c.args.first all _ _ (going_end _ _ _ _ _ _ found) counts c.requires.marks

pub returns-in-Ok-over-clause-ok : goal.returns-in-Ok-over-clause-ok
returns-in-Ok-over-clause-ok c =
    let none : length c.lines.rest.now ≡ 0 = grind (arith, nat_tests, c.is_empty.ensures, c.lines-test.false) in
    let last = going_rows _ _ _ _ _ _ _ _ (none_row c.lines.number c.lines.rest.now none) c.lines.invariant.going in
    let same : c.in-Ok-over.clients.requests ≡ c.over.result = ap (λ (v : ClientsView). v.requests) c.in-Ok-over.ensures in
    let found = going_found _ _ _ _ _ _ _ _ (same ∙ c.over.ensures) last in
    going_end _ _ _ _ _ _ found

pub returns-in-Ok-over-clause-servable : goal.returns-in-Ok-over-clause-servable
returns-in-Ok-over-clause-servable c =
    let none : length c.lines.rest.now ≡ 0 = grind (arith, nat_tests, c.is_empty.ensures, c.lines-test.false) in
    let last = going_rows _ _ _ _ _ _ _ _ (none_row c.lines.number c.lines.rest.now none) c.lines.invariant.going in
    let same : c.in-Ok-over.clients.requests ≡ c.over.result = ap (λ (v : ClientsView). v.requests) c.in-Ok-over.ensures in
    let found = going_found _ _ _ _ _ _ _ _ (same ∙ c.over.ensures) last in
    going_served _ _ _ _ _ _ found

pub returns-in-Ok-over-clause-printable : goal.returns-in-Ok-over-clause-printable
returns-in-Ok-over-clause-printable c =
    let none : length c.lines.rest.now ≡ 0 = grind (arith, nat_tests, c.is_empty.ensures, c.lines-test.false) in
    let last = going_rows _ _ _ _ _ _ _ _ (none_row c.lines.number c.lines.rest.now none) c.lines.invariant.going in
    let same : c.in-Ok-over.clients.requests ≡ c.over.result = ap (λ (v : ClientsView). v.requests) c.in-Ok-over.ensures in
    let found = going_found _ _ _ _ _ _ _ _ (same ∙ c.over.ensures) last in
    printable _ _ _ _ _ (going_end _ _ _ _ _ _ found)

pub returns-in-Ok-over-clause-counts : goal.returns-in-Ok-over-clause-counts
returns-in-Ok-over-clause-counts c =
    let all = lines c.args.text.now in
    let none : length c.lines.rest.now ≡ 0 = grind (arith, nat_tests, c.is_empty.ensures, c.lines-test.false) in
    let same : c.in-Ok-over.clients.counts ≡ c.push-2.new.self.items = ap (λ (v : ClientsView). v.counts) c.in-Ok-over.ensures in
    same ∙ c.in_default-push-2.ensures.items ∙ counting_end all c.lines.counts.items c.lines.mine (subst (Counting all c.lines.counts.items c.lines.mine) (none_left c.lines.rest.now none) c.lines.invariant.counting)
