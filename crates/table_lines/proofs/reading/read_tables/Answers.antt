use Rattle.std.proofs.Common.{◌≡◌, ◌∷◌, [], List, length, replicate, sym, ap, ◌∙◌, subst, arith, Err}
use Rattle.session_values.specs.Opening.{Pair}
use Rattle.session_values.proofs.KeptLemmas.{is_opening}
use Rattle.handler_check.specs.Resolved.{shape_of}
use Rattle.session_values.proofs.Named.{begins_then}
use Rattle.text_lines.specs.Rows.{Row, rows, row_of}
use Rattle.text_lines.specs.Text.{lines, words}
use Rattle.text_lines.proofs.RowLemmas.{rows_step, rows_pass, rows_nil}
use Rattle.text_lines.proofs.TextLemmas.{total, total_le}
use Rattle.syntax_trees.specs.declared.file.File.{File}
use Rattle.syntax_trees.specs.declared.file.TableDecl.{TableDecl}
use Rattle.table_lines.specs.Accepting.{Accepts, row_fault}
use Rattle.table_lines.specs.TableRows.{AreKnown}
use Rattle.table_lines.proofs.Finding.{known_kept}
use Rattle.table_lines.proofs.Going.{Going, going_start, going_turn, going_fault, going_end, named_known, names_kept, tables_printable}
use Rattle.table_lines.proofs.reading.read_tables.Goals as goal

pub lines-init : goal.lines-init
lines-init c =
    let tables : List TableDecl = c.args.checked.now.tables in
    let rs0 : List Row = rows c.args.first (lines c.args.text.now) in
    let same : c.file.result.now.tables ≡ tables = ap (λ (f : File). f.tables) c.file.ensures.file in
    let e : rs0 ≡ rows c.over-lines.result.number (lines c.over-lines.result.rest.now) =
    ap (λ n. rows n (lines c.args.text.now)) (sym c.over-lines.ensures.number) ∙ ap (λ t. rows c.over-lines.result.number (lines t)) (sym c.over-lines.ensures.rest) in
    let none : replicate {A = List Pair} (length tables) [] ≡ c.in-Ok.found = ap (λ n. replicate {A = List Pair} n []) (sym (c.len.ensures ∙ ap (λ (ts : List TableDecl). length ts) same)) ∙ sym c.in-Ok.ensures in
    record {
      next = tt;
      finite = tt;
      going = subst (λ rs. Going c.args.names.now tables rs0 c.args.names.now rs c.in-Ok.found) e (subst (Going c.args.names.now tables rs0 c.args.names.now rs0) none (going_start c.args.names.now tables rs0));
      room = omega (arith, total_le c.args.text.now, ap (λ t. total (lines t)) c.over-lines.ensures.rest);
    }

pub push_row-requires-clause-known : goal.push_row-requires-clause-known
push_row-requires-clause-known c =
    let tables : List TableDecl = c.args.checked.now.tables in
    let same : c.file.result.now.tables ≡ tables = ap (λ (f : File). f.tables) c.file.ensures.file in
    let kept = names_kept c.args.names.now tables (rows c.args.first (lines c.args.text.now)) c.lines.names _ c.lines.found c.lines.invariant.going in
    subst (AreKnown c.lines.names) (sym same) (known_kept c.args.names.now c.lines.names tables kept (named_known c.args.names.now c.args.checked.now c.requires.named))

pub lines-preserved-in-Ok-push_row : goal.lines-preserved-in-Ok-push_row
lines-preserved-in-Ok-push_row c =
    let tables : List TableDecl = c.args.checked.now.tables in
    let rs0 : List Row = rows c.args.first (lines c.args.text.now) in
    let same : c.file.result.now.tables ≡ tables = ap (λ (f : File). f.tables) c.file.ensures.file in
    let row : Row = row_of c.in-Some.number c.in-Some-next.name.now (words c.next-in-Some.new.self.rest.now) in
    let rest : List Row = rows c.next.new.self.number (lines c.next.new.self.rest.now) in
    let steps = c.in-Some.ensures.steps in
    let e : rows c.lines.lines.number (lines c.lines.lines.rest.now) ≡ row ∷ rest =
    rows_step c.lines.lines.number c.in-Some.number c.next.new.self.number (lines c.lines.lines.rest.now) c.in-Some.line.rest.now (lines c.next.new.self.rest.now) c.in-Some-next.name.now (words c.next-in-Some.new.self.rest.now)
    steps.0 steps.1 steps.2 c.in-Some-next.ensures.steps.0 in
    let before = subst (λ rs. Going c.args.names.now tables rs0 c.lines.names rs c.lines.found) e c.lines.invariant.going in
    let accepted = subst (λ (ts : List TableDecl). Accepts c.lines.names c.push_row.new.names ts c.lines.found c.push_row.new.found row) same c.in-Ok-push_row.ensures.ok in
    record {
      next = tt;
      finite = tt;
      going = going_turn c.args.names.now tables rs0 c.lines.names row rest c.lines.found c.push_row.new.names c.push_row.new.found (named_known c.args.names.now c.args.checked.now c.requires.named) before accepted;
      room = omega (arith, c.push_row.ensures.room, ap total steps.0, ap length c.in-Some-next.ensures.steps.0, c.lines.invariant.room);
    }

pub returns-in-Err-clause-refused : goal.returns-in-Err-clause-refused
returns-in-Err-clause-refused c = λ e is some.
    let tables : List TableDecl = c.args.checked.now.tables in
    let rs0 : List Row = rows c.args.first (lines c.args.text.now) in
    let same : c.file.result.now.tables ≡ tables = ap (λ (f : File). f.tables) c.file.ensures.file in
    let row : Row = row_of c.in-Some.number c.in-Some-next.name.now (words c.next-in-Some.new.self.rest.now) in
    let rest : List Row = rows c.next.new.self.number (lines c.next.new.self.rest.now) in
    let steps = c.in-Some.ensures.steps in
    let k : c.in-Err.e ≡ e = cc in
    let f : rows c.lines.lines.number (lines c.lines.lines.rest.now) ≡ row ∷ rest =
    rows_step c.lines.lines.number c.in-Some.number c.next.new.self.number (lines c.lines.lines.rest.now) c.in-Some.line.rest.now (lines c.next.new.self.rest.now) c.in-Some-next.name.now (words c.next-in-Some.new.self.rest.now)
    steps.0 steps.1 steps.2 c.in-Some-next.ensures.steps.0 in
    let before = subst (λ rs. Going c.args.names.now tables rs0 c.lines.names rs c.lines.found) f c.lines.invariant.going in
    going_fault c.args.names.now tables rs0 c.lines.names row rest c.lines.found e (named_known c.args.names.now c.args.checked.now c.requires.named) before
    (ap (λ (ts : List TableDecl). row_fault c.lines.names ts c.lines.found row) (sym same) ∙ c.push_row.ensures.refused e (c.in-Err.is ∙ ap (λ x. Err x) k) some)

pub returns-in-Err-clause-kept : goal.returns-in-Err-clause-kept
returns-in-Err-clause-kept c =
    begins_then _ _ _ (names_kept c.args.names.now c.args.checked.now.tables (rows c.args.first (lines c.args.text.now)) c.lines.names _ c.lines.found c.lines.invariant.going) c.push_row.ensures.kept

pub lines-preserved : goal.lines-preserved
lines-preserved c =
    let steps = c.in-Some.ensures.steps in
    let f : rows c.lines.lines.number (lines c.lines.lines.rest.now) ≡ rows c.next.new.self.number (lines c.next.new.self.rest.now) =
    rows_pass c.lines.lines.number c.next.new.self.number (lines c.lines.lines.rest.now) c.in-Some.line.rest.now (lines c.next.new.self.rest.now) steps.0 steps.2 c.in_default-next-2.ensures.steps.0 in
    record {
      next = tt;
      finite = tt;
      going = subst (λ rs. Going c.args.names.now c.args.checked.now.tables (rows c.args.first (lines c.args.text.now)) c.lines.names rs c.lines.found) f c.lines.invariant.going;
      room = omega (arith, ap total steps.0, c.lines.invariant.room);
    }

pub returns-clause-ok : goal.returns-clause-ok
returns-clause-ok c =
    let f : rows c.lines.lines.number (lines c.lines.lines.rest.now) ≡ [] = ap (rows c.lines.lines.number) c.in_default-next.ensures.steps.0 ∙ rows_nil c.lines.lines.number in
    let last = subst (λ rs. Going c.args.names.now c.args.checked.now.tables (rows c.args.first (lines c.args.text.now)) c.lines.names rs c.lines.found) f c.lines.invariant.going in
    going_end c.args.names.now c.args.checked.now.tables (rows c.args.first (lines c.args.text.now)) c.lines.names c.lines.found last

pub returns-clause-printable : goal.returns-clause-printable
returns-clause-printable c = tables_printable c.args.names.now c.lines.names c.args.checked.now.tables (rows c.args.first (lines c.args.text.now)) c.lines.found (returns-clause-ok c)

pub returns-clause-opening : goal.returns-clause-opening
returns-clause-opening c = is_opening (shape_of c.args.checked.now) c.lines.found c.tables-count.ensures.kept c.lines.invariant.going.nil

pub returns-clause-kept : goal.returns-clause-kept
returns-clause-kept c = names_kept c.args.names.now c.args.checked.now.tables (rows c.args.first (lines c.args.text.now)) c.lines.names _ c.lines.found c.lines.invariant.going
