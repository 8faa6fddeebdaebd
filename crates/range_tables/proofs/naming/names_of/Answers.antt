use Rattle.std.proofs.Common.{◌≡◌, ℕ, ◌∷◌, List, [], length, refl, sym, ap, ◌∙◌, arith}
use Rattle.text_lines.specs.Text.{Text, lines, words}
use Rattle.text_lines.specs.Rows.{names_behind, row_of, rows}
use Rattle.text_lines.proofs.TextLemmas.{total, total_le}
use Rattle.text_lines.proofs.RowLemmas.{behind_nil, behind_step, rows_nil, rows_pass, rows_step}
use Rattle.range_tables.proofs.naming.names_of.Goals as goal

pub lines-init : goal.lines-init
lines-init c = record {
  next = tt;
  finite = tt;
  names =
      ap (λ (ns : List Text). names_behind ns (rows c.over-lines.result.number (lines c.over-lines.result.rest.now))) c.no_names-names.ensures
      ∙ ap (λ (n : ℕ). names_behind [] (rows n (lines c.over-lines.result.rest.now))) c.over-lines.ensures.number
      ∙ ap (λ (t : Text). names_behind [] (rows 1 (lines t))) c.over-lines.ensures.rest;
  room = omega (arith, total_le c.args.text.now, ap (λ (t : Text). total (lines t)) c.over-lines.ensures.rest, ap (λ (ns : List Text). length ns) c.no_names-names.ensures);
}

pub lines-preserved-in-Continue-1 : goal.lines-preserved-in-Continue-1
lines-preserved-in-Continue-1 c =
    let steps = c.in-Some.ensures.steps in
    let new = c.in_ok-place_all.ensures.names in
    let e : rows c.lines.lines.number (lines c.lines.lines.rest.now) ≡ row_of c.lines.lines.number c.in-Some-next._name.now (words c.next-in-Some.new.self.rest.now) ∷ rows c.next.new.self.number (lines c.next.new.self.rest.now) =
    rows_step c.lines.lines.number c.lines.lines.number c.next.new.self.number (lines c.lines.lines.rest.now) c.in-Some.line.rest.now (lines c.next.new.self.rest.now) c.in-Some-next._name.now (words c.next-in-Some.new.self.rest.now)
    steps.0 refl steps.2 c.in-Some-next.ensures.steps.0 in
    record {
      next = tt;
      finite = tt;
      names =
          ap (λ (ns : List Text). names_behind ns (rows c.next.new.self.number (lines c.next.new.self.rest.now))) new
          ∙ sym (behind_step c.lines.names (row_of c.lines.lines.number c.in-Some-next._name.now (words c.next-in-Some.new.self.rest.now)) (rows c.next.new.self.number (lines c.next.new.self.rest.now)))
          ∙ ap (names_behind c.lines.names) (sym e) ∙ c.lines.invariant.names;
      room = omega (arith, c.in_ok-place_all.ensures.room, ap total steps.0, ap (λ (ws : List Text). length ws) c.in-Some-next.ensures.steps.0, c.lines.invariant.room);
    }

pub lines-preserved : goal.lines-preserved
lines-preserved c =
    let steps = c.in-Some.ensures.steps in
    let e : rows c.lines.lines.number (lines c.lines.lines.rest.now) ≡ rows c.next.new.self.number (lines c.next.new.self.rest.now) =
    rows_pass c.lines.lines.number c.next.new.self.number (lines c.lines.lines.rest.now) c.in-Some.line.rest.now (lines c.next.new.self.rest.now) steps.0 steps.2 c.in_default-next.ensures.steps.0 in
    record {
      next = tt;
      finite = tt;
      names = ap (names_behind c.lines.names) (sym e) ∙ c.lines.invariant.names;
      room = omega (arith, ap total steps.0, c.lines.invariant.room);
    }

pub returns : goal.returns
returns c = sym (behind_nil c.lines.names) ∙ ap (names_behind c.lines.names) (sym (ap (rows c.lines.lines.number) c.in_default.ensures.steps.0 ∙ rows_nil c.lines.lines.number)) ∙ c.lines.invariant.names
