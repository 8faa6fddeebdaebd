use Rattle.std.proofs.Common.{refl, ◌∙◌}
use Rattle.std.proofs.lemmas.Result.{err_from_is_err_and}
use Rattle.syntax_parser.proofs.Exits.{none_read, stays_then}
use Rattle.syntax_parser.proofs.file.whole.Goals as goal

pub returns-in_err-file-clause-ok : goal.returns-in_err-file-clause-ok
returns-in_err-file-clause-ok c = let p = err_from_is_err_and c.from_residual.result c.from_residual.ensures.1 in rw p.1 tt

pub returns-in_err-file-clause-within : goal.returns-in_err-file-clause-within
returns-in_err-file-clause-within c = none_read _ _ c.from_residual.result c.from_residual.ensures.1

pub returns-in_err-file-clause-finished : goal.returns-in_err-file-clause-finished
returns-in_err-file-clause-finished c = none_read _ _ c.from_residual.result c.from_residual.ensures.1

pub returns-in_err-file-clause-kept : goal.returns-in_err-file-clause-kept
returns-in_err-file-clause-kept c = c.in_err-file.ensures.kept

pub returns-in_err-word : goal.returns-in_err-word
returns-in_err-word c =
    let p = err_from_is_err_and c.from_residual-in_err-word.result c.from_residual-in_err-word.ensures.1 in
    record {
      ok = rw p.1 tt;
      within = rw p.1 tt;
      exact = rw (p.1, p.2) (λ some. absurd (some refl));
      finished = rw p.1 tt;
      kept = stays_then c.in_ok-file.ensures.kept c.in_err-word.ensures.kept;
    }

pub returns-in-End-clause-kept : goal.returns-in-End-clause-kept
returns-in-End-clause-kept c = stays_then c.in_ok-file.ensures.kept c.in_ok-word.ensures.kept
