use Rattle.std.proofs.Common.{ℕ, min, subst}
use Rattle.live_session.specs.Openings.{HasOpened, IsUnopened}
use Rattle.std.specs.Prelude.{IfErr, IfOk}
use Rattle.live_session.proofs.OpenLemmas.{all_made, can_open, exit_unopened, none_made}
use Rattle.live_session.proofs.session.LiveSession.open.Goals as goal

pub returns-in_err-loaded-clause-unopened : goal.returns-in_err-loaded-clause-unopened
returns-in_err-loaded-clause-unopened c =
    exit_unopened c.args.text.now (min c.args.most_names 4000000000) c.in_err-loaded.field-0.0 c.from_residual.result c.from_residual.ensures.1 c.in_err-loaded.ensures.refused

pub over-requires-clause-can : goal.over-requires-clause-can
over-requires-clause-can c = λ few. can_open c.args.text.now c.in_ok-loaded.loaded c.in_ok-loaded.ensures.input c.in_ok-loaded.ensures.loaded c.in_ok-loaded.ensures.first c.min.result few

pub returns-clause-opened : goal.returns-clause-opened
returns-clause-opened c =
    let P : ℕ → Type 0 = λ n. IfOk c.over.result (HasOpened c.args.text.now c.args.seed n) in
    subst P c.min.ensures (all_made c.args.text.now c.in_ok-loaded.loaded c.in_ok-loaded.ensures.input c.in_ok-loaded.ensures.loaded c.in_ok-loaded.ensures.first c.args.seed c.min.result c.over.result c.over.ensures.made)

pub returns-clause-unopened : goal.returns-clause-unopened
returns-clause-unopened c =
    let P : ℕ → Type 0 = λ n. IfErr c.over.result (IsUnopened c.args.text.now n) in
    subst P c.min.ensures (none_made c.args.text.now c.in_ok-loaded.loaded c.in_ok-loaded.ensures.input c.in_ok-loaded.ensures.loaded c.in_ok-loaded.ensures.first c.min.result c.over.result c.over.ensures.unmade)
