use Rattle.std.proofs.Common.{◌≡◌, ◌++◌, drop, false, sym, subst, arith}
use Rattle.std.proofs.lemmas.Grind.{common_steps}
use Rattle.std.specs.Str.{IsCharBoundary}
use Rattle.syntax_grammar.specs.Scan.{gap}
use Rattle.syntax_grammar.proofs.GapFills.{cut_between}
use Rattle.syntax_grammar.proofs.Cut.{gap_cut, scan_cut}
use Rattle.syntax_grammar.proofs.tokens.Tokens.cut.Goals as goal

pub split_at-requires : goal.split_at-requires
split_at-requires c =
    let k : IsCharBoundary c.as_bytes.result.now c.gap_len.result = subst (IsCharBoundary c.as_bytes.result.now) (sym c.gap_len.ensures.value) (gap_cut _ c.as_bytes.ensures.utf8) in
    subst (λ l. IsCharBoundary l c.gap_len.result) c.as_bytes.ensures.value k

pub split_at-requires-2 : goal.split_at-requires-2
split_at-requires-2 c =
    let k : IsCharBoundary c.as_bytes-2.result.now c.scan-found.result.1 = subst (λ s. IsCharBoundary c.as_bytes-2.result.now s.1) (sym c.scan-found.ensures) (scan_cut _ c.as_bytes-2.ensures.utf8) in
    subst (λ l. IsCharBoundary l c.scan-found.result.1) c.as_bytes-2.ensures.value k

pub returns-clause-between : goal.returns-clause-between
returns-clause-between c =
    let old = c.args.self.now.rest.now in
    let whole : drop (gap false old) old ≡ c.split_at-2.result.0.now ++ c.split_at-2.result.1.now = grind (arith, common_steps) in
    cut_between old c.split_at-2.result.0.now c.split_at-2.result.1.now whole
