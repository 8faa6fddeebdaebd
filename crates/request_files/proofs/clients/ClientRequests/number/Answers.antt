use Rattle.std.proofs.Common.{◌<◌, length, sum, take, get_or, sym, ap, ◌∙◌, subst, arith}
use Rattle.request_files.specs.Clients.{ClientsView}
use Rattle.request_files.proofs.ClientLemmas.{start_at, starts_long, place_within}
use Rattle.request_files.proofs.clients.ClientRequests.number.Goals as goal

pub bounds-as_slice-client : goal.bounds-as_slice-client
bounds-as_slice-client c =
    let cs = c.self.inside.counts.items in
    let client : c.args.client < length cs = subst (λ (v : ClientsView). c.args.client < length v.counts) (sym c.self.view_is) c.requires.client in
    omega (arith, client, starts_long 0 cs, ap length (c.as_slice.ensures.value ∙ c.self.invariant.1))

pub overflow_add-result : goal.overflow_add-result
overflow_add-result c =
    let cs = c.self.inside.counts.items in
    let client : c.args.client < length cs = subst (λ (v : ClientsView). c.args.client < length v.counts) (sym c.self.view_is) c.requires.client in
    let place : c.args.place < get_or cs c.args.client 0 = subst (λ (v : ClientsView). c.args.place < get_or v.counts c.args.client 0) (sym c.self.view_is) c.requires.place in
    let start = ap (λ xs. get_or xs c.args.client 0) (c.as_slice.ensures.value ∙ c.self.invariant.1) ∙ start_at 0 cs c.args.client client in
    let all = c.self.invariant.0.all in
    omega (arith, place, start, all, place_within cs c.args.client client, c.len-requests.ensures)

pub returns-clause-number : goal.returns-clause-number
returns-clause-number c =
    let cs = c.self.inside.counts.items in
    let client : c.args.client < length cs = subst (λ (v : ClientsView). c.args.client < length v.counts) (sym c.self.view_is) c.requires.client in
    let start = ap (λ xs. get_or xs c.args.client 0) (c.as_slice.ensures.value ∙ c.self.invariant.1) ∙ start_at 0 cs c.args.client client in
    let same = ap (λ (v : ClientsView). sum (take c.args.client v.counts)) c.self.view_is in
    omega (arith, start, same)

pub returns-clause-within : goal.returns-clause-within
returns-clause-within c =
    let cs = c.self.inside.counts.items in
    let client : c.args.client < length cs = subst (λ (v : ClientsView). c.args.client < length v.counts) (sym c.self.view_is) c.requires.client in
    let place : c.args.place < get_or cs c.args.client 0 = subst (λ (v : ClientsView). c.args.place < get_or v.counts c.args.client 0) (sym c.self.view_is) c.requires.place in
    let start = ap (λ xs. get_or xs c.args.client 0) (c.as_slice.ensures.value ∙ c.self.invariant.1) ∙ start_at 0 cs c.args.client client in
    let all = c.self.invariant.0.all in
    let same = ap (λ (v : ClientsView). length v.requests) c.self.view_is in
    omega (arith, place, start, all, same, place_within cs c.args.client client)
