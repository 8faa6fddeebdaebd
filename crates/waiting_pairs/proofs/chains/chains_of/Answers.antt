use Rattle.std.proofs.Common.{◌<◌, sym, subst}
use Rattle.std.specs.List.{All}
use Rattle.std.specs.List.Sorted.{IsNonDecreasingBy}
use Rattle.std.proofs.lemmas.Result.{IfOk-weaker}
use Rattle.waiting_pairs.specs.declared.links.Link.{Link}
use Rattle.waiting_pairs.proofs.LinkLemmas.{links_fit}
use Rattle.waiting_pairs.proofs.Longest.{chains_longest, fits_itself}
use Rattle.waiting_pairs.proofs.chains.chains_of.Goals as goal

pub table_of-requires-clause-links : goal.table_of-requires-clause-links
table_of-requires-clause-links c =
    subst (All (λ (l : Link). (l.older < l.ticket) × (l.ticket < c.args.tickets))) (sym c.as_slice-sorted.ensures.value) (links_fit c.args.tickets c.args.delays.now c.in_ok-links.links.items c.in_ok-links.ensures.same)

pub table_of-requires-clause-sorted : goal.table_of-requires-clause-sorted
table_of-requires-clause-sorted c = subst (IsNonDecreasingBy (λ (l : Link). l.ticket)) (sym c.as_slice-sorted.ensures.value) c.in_ok-links.ensures.sorted

pub chains_in-requires-clause-table : goal.chains_in-requires-clause-table
chains_in-requires-clause-table c = fits_itself c.args.tickets c.in_ok-table.table.items c.as_slice-steps.result.now c.as_slice-steps.ensures.value c.in_ok-table.ensures.table

pub returns : goal.returns
returns c = IfOk-weaker c.chains_in.result _ _
    (λ chains h. chains_longest c.args.tickets c.args.delays.now c.in_ok-links.links.items c.as_slice-sorted.result.now c.in_ok-table.table.items c.as_slice-steps.result.now
    c.in_ok-links.ensures.same c.as_slice-sorted.ensures.value c.in_ok-table.ensures.table c.in_ok-table.ensures.settled c.as_slice-steps.ensures.value _ h)
    c.chains_in.ensures
