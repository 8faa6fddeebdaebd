use Rattle.std.proofs.Common.{◌≡◌, ◌<◌, ◌∷◌, [], List, length, refl, sym, ◌∙◌, ap, subst, arith}
use Rattle.std.proofs.lemmas.Bool.Decides.{nat_tests}
use Rattle.text_lines.specs.Text.{Text, lines}
use Rattle.text_lines.proofs.TextLemmas.{after_line, line_of, lines_some, none_left}
use Rattle.live_session.specs.declared.answers.Answered.TheVariants as answered
use Rattle.live_session.specs.declared.answers.LineRefusal.TheVariants as rule
use Rattle.live_session.specs.Answers.{LinesAnswered, TextAnswered}
use Rattle.live_session.proofs.Keeping.{wrote_none}
use Rattle.live_session.proofs.session.LiveSession.request.Goals as goal

pub returns-then-is_empty : goal.returns-then-is_empty
returns-then-is_empty g c =
    let v = c.args.self.now in
    let none : lines c.args.text.now ≡ [] = none_left c.args.text.now (grind (arith, nat_tests, c.is_empty.ensures, c.if-is_empty.true)) in
    record { answered = wrote_none (g.T.TextRoom.held c.args.out.now) (λ t. TextAnswered v c.args.text.now answered.Nothing t v) (subst (λ (ls : List Text). LinesAnswered v ls answered.Nothing [] v) (sym none) ((refl, refl), refl)) }

pub returns-then-not-is_empty : goal.returns-then-not-is_empty
returns-then-not-is_empty g c =
    let v = c.args.self.now in
    let rest : Text = c.first_line.result.1.now in
    let some : 0 < length rest = grind (arith, nat_tests, c.is_empty-2.ensures, c.if-not-is_empty.true) in
    let many : lines c.args.text.now ≡ c.first_line.result.0.now ∷ line_of rest ∷ lines (after_line rest) = c.first_line.ensures.lines ∙ ap (λ (ls : List Text). c.first_line.result.0.now ∷ ls) (lines_some rest some) in
    record { answered = wrote_none (g.T.TextRoom.held c.args.out.now) (λ t. TextAnswered v c.args.text.now (answered.Refused rule.ManyLines) t v) (subst (λ (ls : List Text). LinesAnswered v ls (answered.Refused rule.ManyLines) [] v) (sym many) ((refl, refl), refl)) }

pub returns : goal.returns
returns g c =
    let v = c.args.self.now in
    let rest : Text = c.first_line.result.1.now in
    let one : lines c.args.text.now ≡ c.first_line.result.0.now ∷ [] = c.first_line.ensures.lines ∙ ap (λ (ls : List Text). c.first_line.result.0.now ∷ ls) (none_left rest (grind (arith, nat_tests, c.is_empty-2.ensures, c.if-not-is_empty.false))) in
    let a = c.serve_line.ensures.answered in
    record { answered = (a.0, a.1, a.2, subst (λ (ls : List Text). LinesAnswered v ls c.serve_line.result a.0 c.serve_line.new.self) (sym one) a.3) }
