use Rattle.std.proofs.Common.{◌≡◌, ◌∷◌, List, [], Some, Err, length, map, sym, ap, ◌∙◌, subst, append-nil, arith}
use Rattle.session_values.specs.Names.{Begins}
use Rattle.session_values.proofs.Named.{begins_same, begins_then}
use Rattle.session_journal.specs.declared.event.Event.{Event}
use Rattle.text_lines.specs.Rows.{Row, row_of, rows}
use Rattle.text_lines.specs.Text.{Text, lines, words}
use Rattle.text_lines.proofs.TextLemmas.{total, total_le}
use Rattle.text_lines.proofs.RowLemmas.{rows_nil, rows_pass, rows_step}
use Rattle.trace_lines.specs.EventRows.{names_after}
use Rattle.trace_lines.proofs.Placed.{after_nil, after_step}
use Rattle.trace_lines.proofs.Rows.{Going, fault_kept, going_end, going_start, going_stop, going_turn, known_kept, row_fault_kept}
use Rattle.trace_lines.proofs.trace_part.events_of.Goals as goal

pub lines-init : goal.lines-init
lines-init c =
    let ts = c.args.tables.places.now in let ks = c.args.tables.kinds.now in
    let rs0 : List Row = rows c.args.first (lines c.args.text.now) in
    let e : rs0 ≡ rows c.over-lines.result.number (lines c.over-lines.result.rest.now) =
    ap (λ n. rows n (lines c.args.text.now)) (sym c.over-lines.ensures.number) ∙ ap (λ t. rows c.over-lines.result.number (lines t)) (sym c.over-lines.ensures.rest) in
    record {
      next = tt;
      finite = tt;
      going = λ later le. subst (λ rs. Going later ts ks rs0 rs c.new-trace.result) e (going_start later ts ks rs0 c.new-trace.result c.new-trace.ensures);
      names = ap (names_after c.args.names.now) (sym e);
      begins = begins_same c.args.names.now;
      room = omega (arith, total_le c.args.text.now, ap (λ (t : Text). total (lines t)) c.over-lines.ensures.rest);
      capacity = c.in-Ok.ensures.capacity;
    }

pub take_line-requires-clause-known : goal.take_line-requires-clause-known
take_line-requires-clause-known c = known_kept c.args.names.now c.lines.names c.args.tables.places.now c.lines.invariant.begins c.requires.known

pub lines-preserved-in-Ok-take_line : goal.lines-preserved-in-Ok-take_line
lines-preserved-in-Ok-take_line c =
    let ts = c.args.tables.places.now in let ks = c.args.tables.kinds.now in
    let rs0 : List Row = rows c.args.first (lines c.args.text.now) in
    let steps = c.in-Some.ensures.steps in
    let row : Row = row_of c.in-Some.number c.in-Some-next.word.now (words c.next-in-Some.new.self.rest.now) in
    let rest : List Row = rows c.next.new.self.number (lines c.next.new.self.rest.now) in
    let e : rows c.lines.lines.number (lines c.lines.lines.rest.now) ≡ row ∷ rest =
    rows_step c.lines.lines.number c.in-Some.number c.next.new.self.number (lines c.lines.lines.rest.now) c.in-Some.line.rest.now (lines c.next.new.self.rest.now) c.in-Some-next.word.now (words c.next-in-Some.new.self.rest.now)
    steps.0 steps.1 steps.2 c.in-Some-next.ensures.steps.0 in
    let ns : List Text = c.lines.names in
    let known = known_kept c.args.names.now ns ts c.lines.invariant.begins c.requires.known in
    let made = c.in-Ok-take_line.ensures in
    record {
      next = tt;
      finite = tt;
      going = λ later le.
          let over : Begins ns later = begins_then ns c.take_line.new.names later made.kept le in
          going_turn later ts ks rs0 row rest c.lines.trace c.take_line.new.trace (subst (λ rs. Going later ts ks rs0 rs c.lines.trace) e (c.lines.invariant.going later over))
          (sym (row_fault_kept ns later ts ks over known (length c.lines.trace.events) row) ∙ made.fine) (made.pushed later le);
      names =
          ap (λ (ns : List Text). names_after ns rest) made.names
          ∙ sym (after_step ns row rest)
          ∙ ap (names_after ns) (sym e)
          ∙ c.lines.invariant.names;
      begins = begins_then c.args.names.now ns c.take_line.new.names c.lines.invariant.begins made.kept;
      room = omega (arith, made.more, ap total steps.0, ap (λ (ws : List Text). length ws) c.in-Some-next.ensures.steps.0, c.lines.invariant.room);
      capacity = omega (arith, made.capacity, c.lines.invariant.capacity);
    }

pub returns-in-Err-clause-refused : goal.returns-in-Err-clause-refused
returns-in-Err-clause-refused c = λ e is other.
    let ts = c.args.tables.places.now in let ks = c.args.tables.kinds.now in
    let rs0 : List Row = rows c.args.first (lines c.args.text.now) in
    let steps = c.in-Some.ensures.steps in
    let row : Row = row_of c.in-Some.number c.in-Some-next.word.now (words c.next-in-Some.new.self.rest.now) in
    let rest : List Row = rows c.next.new.self.number (lines c.next.new.self.rest.now) in
    let f : rows c.lines.lines.number (lines c.lines.lines.rest.now) ≡ row ∷ rest =
    rows_step c.lines.lines.number c.in-Some.number c.next.new.self.number (lines c.lines.lines.rest.now) c.in-Some.line.rest.now (lines c.next.new.self.rest.now) c.in-Some-next.word.now (words c.next-in-Some.new.self.rest.now)
    steps.0 steps.1 steps.2 c.in-Some-next.ensures.steps.0 in
    let ns : List Text = c.lines.names in
    let g = subst (λ rs. Going ns ts ks rs0 rs c.lines.trace) f (c.lines.invariant.going ns (begins_same ns)) in
    let k : c.in-Err.e ≡ e = cc in
    fault_kept c.args.names.now ns ts ks c.lines.invariant.begins c.requires.known 0 rs0
    ∙ going_stop ns ts ks rs0 row rest c.lines.trace e g (c.take_line.ensures.refused e (c.in-Err.is ∙ ap (λ x. Err x) k) other)

pub lines-preserved : goal.lines-preserved
lines-preserved c =
    let ts = c.args.tables.places.now in let ks = c.args.tables.kinds.now in
    let rs0 : List Row = rows c.args.first (lines c.args.text.now) in
    let steps = c.in-Some.ensures.steps in
    let e : rows c.lines.lines.number (lines c.lines.lines.rest.now) ≡ rows c.next.new.self.number (lines c.next.new.self.rest.now) =
    rows_pass c.lines.lines.number c.next.new.self.number (lines c.lines.lines.rest.now) c.in-Some.line.rest.now (lines c.next.new.self.rest.now) steps.0 steps.2 c.in_default-next-2.ensures.steps.0 in
    record {
      next = tt;
      finite = tt;
      going = λ later le. subst (λ rs. Going later ts ks rs0 rs c.lines.trace) e (c.lines.invariant.going later le);
      names = ap (names_after c.lines.names) (sym e) ∙ c.lines.invariant.names;
      begins = c.lines.invariant.begins;
      room = omega (arith, ap total steps.0, c.lines.invariant.room);
      capacity = c.lines.invariant.capacity;
    }

pub returns-clause-fine : goal.returns-clause-fine
returns-clause-fine c =
    let ns : List Text = c.lines.names in let ts = c.args.tables.places.now in let ks = c.args.tables.kinds.now in
    let rs0 : List Row = rows c.args.first (lines c.args.text.now) in
    let f : rows c.lines.lines.number (lines c.lines.lines.rest.now) ≡ [] = ap (rows c.lines.lines.number) c.in_default-next.ensures.steps.0 ∙ rows_nil c.lines.lines.number in
    fault_kept c.args.names.now ns ts ks c.lines.invariant.begins c.requires.known 0 rs0
    ∙ going_end ns ts ks rs0 c.lines.trace (subst (λ rs. Going ns ts ks rs0 rs c.lines.trace) f (c.lines.invariant.going ns (begins_same ns)))

pub returns-clause-names : goal.returns-clause-names
returns-clause-names c =
    let f : rows c.lines.lines.number (lines c.lines.lines.rest.now) ≡ [] = ap (rows c.lines.lines.number) c.in_default-next.ensures.steps.0 ∙ rows_nil c.lines.lines.number in
    sym (after_nil c.lines.names) ∙ ap (names_after c.lines.names) (sym f) ∙ c.lines.invariant.names

pub returns-clause-events : goal.returns-clause-events
returns-clause-events c =
    let ns : List Text = c.lines.names in let ts = c.args.tables.places.now in let ks = c.args.tables.kinds.now in
    let rs0 : List Row = rows c.args.first (lines c.args.text.now) in
    let f : rows c.lines.lines.number (lines c.lines.lines.rest.now) ≡ [] = ap (rows c.lines.lines.number) c.in_default-next.ensures.steps.0 ∙ rows_nil c.lines.lines.number in
    let g = subst (λ rs. Going ns ts ks rs0 rs c.lines.trace) f (c.lines.invariant.going ns (begins_same ns)) in
    g.events ∙ append-nil (map (λ (e : Event). Some e) c.lines.trace.events)

pub returns-clause-lines : goal.returns-clause-lines
returns-clause-lines c =
    let ns : List Text = c.lines.names in let ts = c.args.tables.places.now in let ks = c.args.tables.kinds.now in
    let rs0 : List Row = rows c.args.first (lines c.args.text.now) in
    let f : rows c.lines.lines.number (lines c.lines.lines.rest.now) ≡ [] = ap (rows c.lines.lines.number) c.in_default-next.ensures.steps.0 ∙ rows_nil c.lines.lines.number in
    let g = subst (λ rs. Going ns ts ks rs0 rs c.lines.trace) f (c.lines.invariant.going ns (begins_same ns)) in
    sym (g.lines ∙ append-nil c.lines.trace.lines)
