-- A round goes on from the round before, and the last ends it.
use Rattle.std.proofs.Common.{◌≡◌, ◌-◌, ◌∙◌, ℕ, List, [], None, length, sum, ap, refl, sym, subst, vec_capacity, arith}
use Rattle.session_values.specs.declared.kind.TableKind.{TableKind}
use Rattle.client_feed.specs.Ends.{GathererView}
use Rattle.client_feed.specs.Rounds.{AreServed, ServedView}
use Rattle.client_feed.proofs.Between.{first_between, last_between, last_reopens, last_shards, next_between, replies_fit}
use Rattle.client_feed.proofs.Slices.{kept_long, slice_drawn, slice_served}
use Rattle.client_feed.proofs.rounds.serve_rounds.Goals as goal

pub rounds-init : goal.rounds-init
rounds-init g c =
    let left = c.left-requests.ensures.left in
    let got = ap (λ (v : GathererView). length v.got) c.requires.gatherer in
    let counts = ap (λ (v : GathererView). sum v.counts) c.requires.gatherer in
    let all : c.left-requests.result ≡ sum c.args.work.now.clients.now.counts = omega (arith, left, got, counts) in
    let many = c.in_ok-replies.ensures.capacity in
    record {
      between = first_between c.args.work.now.program.now c.args.work.now.opening.now c.args.work.now.clients.now c.args.sizes.callers c.args.sizes.shards c.args.gatherer.now c.in_ok-arrivals.arrivals c.in_ok-replies.replies.items (vec_capacity c.in_ok-replies.replies) None c.requires.gatherer
          (c.in_ok-arrivals.ensures ∙ (λ i. record { list = []; room = all i })) c.in_ok-replies.ensures.items (omega (arith, all, many)) refl;
      later = c.in_ok-shape.ensures.adds ∙ ap (λ (kinds : List TableKind). length kinds) c.in_ok-shape.ensures.kinds;
    }

pub serve_behind-requires-clause-last : goal.serve_behind-requires-clause-last
serve_behind-requires-clause-last g c κs within =
    last_reopens c.args.work.now.program.now c.args.work.now.opening.now c.args.work.now.clients.now c.args.sizes.callers c.args.sizes.shards c.clients-clients.ensures.shared c.args.work.now.servable c.args.work.now.room c.rounds.arrivals.list c.rounds.closed c.rounds.invariant.between.so_far.drawn c.rounds.invariant.between.so_far.hall

pub serve_behind-requires-clause-shards : goal.serve_behind-requires-clause-shards
serve_behind-requires-clause-shards g c κs within = last_shards c.args.work.now.program.now c.args.work.now.opening.now c.args.work.now.clients.now c.args.sizes.callers c.args.sizes.shards c.rounds.arrivals.list c.rounds.closed c.rounds.invariant.between.so_far.hall

pub serve_behind-requires-clause-arrivals : goal.serve_behind-requires-clause-arrivals
serve_behind-requires-clause-arrivals g c κs within =
    slice_drawn c.args.work.now.program.now c.args.work.now.opening.now c.args.work.now.clients.now c.args.sizes.callers c.args.sizes.shards c.rounds.gatherer c.gather.new.self c.rounds.arrivals c.gather.new.out c.rounds.replies.items (vec_capacity c.rounds.replies) c.rounds.closed c.rounds.invariant.between c.fewer.result c.gather.ensures.gathered
    (c.left-requests.result - c.left-left.result) c.list.result.now
    (let whole = c.left-requests.ensures.left in let left = c.left-left.ensures.left in let first = ap (λ (v : GathererView). length v.got) c.requires.gatherer in let counts = ap (λ (v : GathererView). sum v.counts) c.requires.gatherer in let got = ap (λ (v : GathererView). length v.got) c.rounds.invariant.between.gatherer_is in let total = ap (λ (v : GathererView). sum v.counts) c.rounds.invariant.between.gatherer_is in omega (arith, whole, left, first, counts, got, total))
    c.list.ensures c.gather.ensures.drawn

pub push_replies-requires : goal.push_replies-requires
push_replies-requires g c =
    let whole = c.left-requests.ensures.left in
    let left = c.left-left.ensures.left in
    let first = ap (λ (v : GathererView). length v.got) c.requires.gatherer in
    let counts = ap (λ (v : GathererView). sum v.counts) c.requires.gatherer in
    let got = ap (λ (v : GathererView). length v.got) c.rounds.invariant.between.gatherer_is in
    let total = ap (λ (v : GathererView). sum v.counts) c.rounds.invariant.between.gatherer_is in
    let here = c.left.ensures.left in
    let test = c.rounds-test.true in
    let behind = slice_served c.args.work.now.program.now c.args.work.now.opening.now c.args.work.now.clients.now c.args.sizes.callers c.args.sizes.shards c.rounds.gatherer c.gather.new.self c.rounds.arrivals c.gather.new.out c.rounds.replies.items (vec_capacity c.rounds.replies) c.rounds.closed c.rounds.invariant.between c.fewer.result c.gather.ensures.gathered
    (c.left-requests.result - c.left-left.result) c.list.result.now (omega (arith, whole, left, first, counts, got, total)) c.list.ensures c.in_ok-hall.hall c.in_ok-hall.ensures.served in
    replies_fit c.args.work.now.program.now c.args.work.now.opening.now c.args.work.now.clients.now c.args.sizes.callers c.args.sizes.shards c.rounds.gatherer c.gather.new.self c.rounds.arrivals c.gather.new.out c.rounds.replies.items (vec_capacity c.rounds.replies) c.rounds.closed c.rounds.invariant.between c.fewer.result c.gather.ensures.gathered
    c.left-left.result left (omega (arith, test, here, left)) c.fewer.ensures.either c.in_ok-hall.hall behind

pub rounds-preserved : goal.rounds-preserved
rounds-preserved g c =
    let whole = c.left-requests.ensures.left in
    let left = c.left-left.ensures.left in
    let first = ap (λ (v : GathererView). length v.got) c.requires.gatherer in
    let counts = ap (λ (v : GathererView). sum v.counts) c.requires.gatherer in
    let got = ap (λ (v : GathererView). length v.got) c.rounds.invariant.between.gatherer_is in
    let total = ap (λ (v : GathererView). sum v.counts) c.rounds.invariant.between.gatherer_is in
    let here = c.left.ensures.left in
    let test = c.rounds-test.true in
    let behind = slice_served c.args.work.now.program.now c.args.work.now.opening.now c.args.work.now.clients.now c.args.sizes.callers c.args.sizes.shards c.rounds.gatherer c.gather.new.self c.rounds.arrivals c.gather.new.out c.rounds.replies.items (vec_capacity c.rounds.replies) c.rounds.closed c.rounds.invariant.between c.fewer.result c.gather.ensures.gathered
    (c.left-requests.result - c.left-left.result) c.list.result.now (omega (arith, whole, left, first, counts, got, total)) c.list.ensures c.in_ok-hall.hall c.in_ok-hall.ensures.served in
    record {
      between = next_between c.args.work.now.program.now c.args.work.now.opening.now c.args.work.now.clients.now c.args.sizes.callers c.args.sizes.shards c.rounds.gatherer c.gather.new.self c.rounds.arrivals c.gather.new.out c.rounds.replies.items (vec_capacity c.rounds.replies) c.rounds.closed c.rounds.invariant.between c.fewer.result c.gather.ensures.gathered
          c.left-left.result left (omega (arith, test, here, left)) c.fewer.ensures.either c.in_ok-hall.hall behind c.push_replies.new.replies.items (vec_capacity c.push_replies.new.replies) _ c.gather.ensures.drawn c.push_replies.ensures.replies c.push_replies.ensures.room refl;
      later =
          let long = c.rounds.later.ok.0 in
          let same = c.serve_behind.ensures.later in
          let lent = ap (λ (xs : List ℕ). length xs) c.as_mut_slice.ensures.value in
          let each = c.rounds.invariant.later in
          kept_long c.rounds.later.len c.serve_behind.new.later c.rounds.later.items (omega (arith, long)) (omega (arith, long, same, lent)) ∙ omega (arith, long, each);
    }

pub returns-clause-served : goal.returns-clause-served
returns-clause-served g c =
    let here = c.left.ensures.left in
    let none = c.rounds-test.false in
    let P : ServedView → Type 0 = λ v. AreServed c.args.work.now.program.now c.args.work.now.opening.now c.args.work.now.clients.now c.args.sizes.callers c.args.sizes.shards v in
    subst P (sym c.over.ensures) (last_between c.args.work.now.program.now c.args.work.now.opening.now c.args.work.now.clients.now c.args.sizes.callers c.args.sizes.shards c.rounds.gatherer c.rounds.arrivals c.rounds.replies.items (vec_capacity c.rounds.replies) c.rounds.closed c.rounds.invariant.between (omega (arith, here, none)))

pub returns-clause-took : goal.returns-clause-took
returns-clause-took g c = ap (λ (v : ServedView). v.arrivals) c.over.ensures ∙ sym (ap (λ (v : GathererView). v.got) c.rounds.invariant.between.gatherer_is)
