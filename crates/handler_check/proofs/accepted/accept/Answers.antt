use Rattle.std.proofs.Common.{◌∙◌, inl, refl}
use Rattle.std.proofs.lemmas.Result.{err_from_is_err_and}
use Rattle.handler_check.proofs.ExcessLemmas.{refused_by, accepted_by}
use Rattle.handler_check.proofs.accepted.accept.Goals as goal

pub returns-in_err-looked-clause-rules : goal.returns-in_err-looked-clause-rules
returns-in_err-looked-clause-rules c =
    let p = err_from_is_err_and c.from_residual.result c.from_residual.ensures.1 in
    rw (p.1, p.2) (λ n. inl (c.in_err-looked.ensures.rules c.requires.rise n))

pub invariant_of-result : goal.invariant_of-result
invariant_of-result c =
    let looked = c.in_ok-looked.ensures in
    let cs = looked.beyond.0 in
    record {
      kept = record {
        accepted = accepted_by c.args.file cs cs c.requires.rise looked.beyond.1 refl (looked.rules c.requires.rise) (looked.beyond.2 ∙ c.in-None.is);
        bounded = c.requires.bounds;
      };
      names = looked.tables;
    }

pub returns-in-None-clause-rules : goal.returns-in-None-clause-rules
returns-in-None-clause-rules c =
    let looked = c.in_ok-looked.ensures in
    let cs = looked.beyond.0 in
    accepted_by c.args.file cs cs c.requires.rise looked.beyond.1 refl (looked.rules c.requires.rise) (looked.beyond.2 ∙ c.in-None.is)

pub returns-in-Some-clause-rules : goal.returns-in-Some-clause-rules
returns-in-Some-clause-rules c = λ n.
    let looked = c.in_ok-looked.ensures in
    let cs = looked.beyond.0 in
    refused_by c.args.file cs cs _ c.requires.rise looked.beyond.1 refl (looked.rules c.requires.rise) (looked.beyond.2 ∙ c.in-Some.is)
