use Rattle.std.proofs.Common.{◌≡◌, ℕ, ◌∷◌, List, [], Err, sym, ap, ◌∙◌, subst}
use Rattle.text_lines.specs.Text.{Text, lines, words}
use Rattle.text_lines.specs.Rows.{row_of, rows}
use Rattle.text_lines.proofs.RowLemmas.{rows_nil, rows_pass, rows_step}
use Rattle.range_tables.specs.Faults.{first_fault, rows_of}
use Rattle.range_tables.proofs.Going.{Going, going_end, going_fault, going_start, going_turn}
use Rattle.range_tables.proofs.session.written.Goals as goal

pub lines-init : goal.lines-init
lines-init c =
    let e : rows c.over-lines.result.number (lines c.over-lines.result.rest.now) ≡ rows_of c.args.text.now = ap (λ (n : ℕ). rows n (lines c.over-lines.result.rest.now)) c.over-lines.ensures.number ∙ ap (λ (t : Text). rows 1 (lines t)) c.over-lines.ensures.rest in
    record {
      next = tt;
      finite = tt;
      going = going_start c.args.names.now c.args.text.now _ c.in_ok-table.table c.new-holds.result.items c.new-out.result.items e c.in_ok-table.ensures c.new-holds.ensures.items c.new-out.ensures.items;
    }

pub lines-preserved-in-Ok : goal.lines-preserved-in-Ok
lines-preserved-in-Ok c =
    let steps = c.in-Some.ensures.steps in
    let e : rows c.lines.lines.number (lines c.lines.lines.rest.now) ≡ row_of c.in-Some.number c.in-Some-next.name.now (words c.next-in-Some.new.self.rest.now) ∷ rows c.next.new.self.number (lines c.next.new.self.rest.now) =
    rows_step c.lines.lines.number c.in-Some.number c.next.new.self.number (lines c.lines.lines.rest.now) c.in-Some.line.rest.now (lines c.next.new.self.rest.now) c.in-Some-next.name.now (words c.next-in-Some.new.self.rest.now)
    steps.0 steps.1 steps.2 c.in-Some-next.ensures.steps.0 in
    let old = c.lines.session in
    let new = c.take_line.new.self in
    let made = c.in-Ok.ensures in
    let before = subst (λ rs. Going c.args.names.now (rows_of c.args.text.now) rs old.seen old.table old.holds.items old.asked old.out.items) e c.lines.invariant.going in
    let after = going_turn c.args.names.now (rows_of c.args.text.now) _ _ old.seen old.table new.table old.holds.items new.holds.items old.asked new.asked old.out.items new.out.items
    before made.takes made.fine made.ready made.size made.room made.few made.below in
    record {
      next = tt;
      finite = tt;
      going = subst (λ (n : ℕ). Going c.args.names.now (rows_of c.args.text.now) (rows c.next.new.self.number (lines c.next.new.self.rest.now)) n new.table new.holds.items new.asked new.out.items) (sym made.seen) after;
    }

pub lines-preserved : goal.lines-preserved
lines-preserved c =
    let steps = c.in-Some.ensures.steps in
    let e : rows c.lines.lines.number (lines c.lines.lines.rest.now) ≡ rows c.next.new.self.number (lines c.next.new.self.rest.now) =
    rows_pass c.lines.lines.number c.next.new.self.number (lines c.lines.lines.rest.now) c.in-Some.line.rest.now (lines c.next.new.self.rest.now) steps.0 steps.2 c.in_default-next.ensures.steps.0 in
    record {
      next = tt;
      finite = tt;
      going = subst (λ rs. Going c.args.names.now (rows_of c.args.text.now) rs c.lines.session.seen c.lines.session.table c.lines.session.holds.items c.lines.session.asked c.lines.session.out.items) e c.lines.invariant.going;
    }

pub returns-in-Err-clause-refused : goal.returns-in-Err-clause-refused
returns-in-Err-clause-refused c = λ e is some.
    let steps = c.in-Some.ensures.steps in
    let k : c.in-Err.e ≡ e = cc in
    let f : rows c.lines.lines.number (lines c.lines.lines.rest.now) ≡ row_of c.in-Some.number c.in-Some-next.name.now (words c.next-in-Some.new.self.rest.now) ∷ rows c.next.new.self.number (lines c.next.new.self.rest.now) =
    rows_step c.lines.lines.number c.in-Some.number c.next.new.self.number (lines c.lines.lines.rest.now) c.in-Some.line.rest.now (lines c.next.new.self.rest.now) c.in-Some-next.name.now (words c.next-in-Some.new.self.rest.now)
    steps.0 steps.1 steps.2 c.in-Some-next.ensures.steps.0 in
    let before = subst (λ rs. Going c.args.names.now (rows_of c.args.text.now) rs c.lines.session.seen c.lines.session.table c.lines.session.holds.items c.lines.session.asked c.lines.session.out.items) f c.lines.invariant.going in
    let fault = going_fault c.args.names.now (rows_of c.args.text.now) _ _ c.lines.session.seen c.lines.session.table c.lines.session.holds.items c.lines.session.asked c.lines.session.out.items e before (c.take_line.ensures.refused e (c.in-Err.is ∙ ap (λ x. Err x) k) some) in
    sym (ap (λ (ns : List Text). first_fault ns 0 [] (rows_of c.args.text.now)) c.requires.names) ∙ fault

pub returns-clause-text : goal.returns-clause-text
returns-clause-text c =
    let f : rows c.lines.lines.number (lines c.lines.lines.rest.now) ≡ [] = ap (rows c.lines.lines.number) c.in_default.ensures.steps.0 ∙ rows_nil c.lines.lines.number in
    let last = subst (λ rs. Going c.args.names.now (rows_of c.args.text.now) rs c.lines.session.seen c.lines.session.table c.lines.session.holds.items c.lines.session.asked c.lines.session.out.items) f c.lines.invariant.going in
    going_end c.args.text.now c.lines.session.out.items c.lines.session.seen c.lines.session.table c.lines.session.holds.items c.lines.session.asked
    (subst (λ ns. Going ns (rows_of c.args.text.now) [] c.lines.session.seen c.lines.session.table c.lines.session.holds.items c.lines.session.asked c.lines.session.out.items) c.requires.names last)
