use Rattle.std.proofs.Common.{ℕ, List, length, map, ap, ◌∙◌, subst, arith}
use Rattle.std.proofs.lemmas.List.{length-map}
use Rattle.waiting_pairs.specs.declared.cause.Cause.{Cause}
use Rattle.waiting_pairs.specs.declared.delay.Delay.{Delay}
use Rattle.waiting_pairs.specs.Causes.{cause_of}
use Rattle.waiting_pairs.specs.Chains.{AreLongest}
use Rattle.waiting_pairs.specs.Rows.{AreRows}
use Rattle.waiting_pairs.specs.TraceTold.{handlers_of}
use Rattle.waiting_pairs.proofs.CountLemmas.{few}
use Rattle.waiting_pairs.proofs.counts.counts_of.Goals as goal

pub rows_of-requires : goal.rows_of-requires
rows_of-requires c =
    omega (arith, ap length c.as_slice-all.ensures.value, ap length c.in_ok-causes.ensures, length-map c.as_slice-found.result.now (cause_of (handlers_of c.args.requests.now)), ap length c.as_slice-found.ensures.value, ap length c.in_ok-delays.ensures, few c.args.events.now, c.requires)

pub overflow_cast-count : goal.overflow_cast-count
overflow_cast-count c = omega (arith, ap length c.as_slice-found.ensures.value, ap length c.in_ok-delays.ensures, few c.args.events.now, c.requires)

pub returns-clause-delays : goal.returns-clause-delays
returns-clause-delays c = ap length (c.as_slice-found.ensures.value ∙ c.in_ok-delays.ensures)

pub returns-clause-rows : goal.returns-clause-rows
returns-clause-rows c =
    subst (λ (cs : List Cause). AreRows cs c.in_ok-rows.rows.items) (c.as_slice-all.ensures.value ∙ c.in_ok-causes.ensures ∙ ap (map (cause_of (handlers_of c.args.requests.now))) (c.as_slice-found.ensures.value ∙ c.in_ok-delays.ensures)) c.in_ok-rows.ensures

pub returns-clause-chains : goal.returns-clause-chains
returns-clause-chains c =
    subst (λ (ds : List Delay). AreLongest (length c.args.requests.now) ds (map (λ v. v.items) c.in_ok-chains.chains.items)) (c.as_slice-found.ensures.value ∙ c.in_ok-delays.ensures)
    (subst (λ (n : ℕ). AreLongest n c.as_slice-found.result.now (map (λ v. v.items) c.in_ok-chains.chains.items)) c.len-tickets.ensures c.in_ok-chains.ensures)
