use Rattle.std.proofs.Common.{◌≡◌, ◌++◌, ◌∷◌, [], length, sym, ap, ◌∙◌, subst, arith, length-append}
use Rattle.request_files.specs.Entries.{AreWithin, IsBehind, requests_in}
use Rattle.request_files.specs.declared.entry.Entry.{Entry}
use Rattle.request_files.proofs.EntryLemmas.{within_push}
use Rattle.request_files.proofs.PickedLemmas.{numbers_few, picked_more}
use Rattle.request_files.proofs.requests.Requests.pick.Goals as goal

pub loop-number-preserved : goal.loop-number-preserved
loop-number-preserved c =
    let old = c.loop-number.values.items in
    let new = c.extend_from_slice.new.self.items in
    let more = c.args_of-args.result.now in
    let es = c.loop-number.entries.items in
    let e : Entry = record { handler = c.handler_of.result; args = c.arity_of.result; first = c.len.result } in
    let grown : new ≡ old ++ more = c.in_ok-extend_from_slice.ensures.items in
    let at : c.len.result ≡ length old = omega (arith, c.len.ensures, c.loop-number.values.ok) in
    let many : c.arity_of.result ≡ length more = c.arity_of.ensures ∙ ap length (sym c.args_of-args.ensures) in
    let behind : IsBehind old new e = record { more = more; is = grown; first = at; args = many } in
    let pushed : c.push.new.self.items ≡ es ++ e ∷ [] = c.in_ok-push.ensures.items in
    record {
      picked = ap (requests_in new) pushed ∙ picked_more c.args.self.now c.args.numbers.now c.loop-number.number-index old new more es c.handler_of.result c.arity_of.result c.len.result
          c.loop-number.invariant.picked c.loop-number.invariant.within (omega (arith, c.loop-number-test.true)) behind grown at many c.handler_of.ensures c.args_of-args.ensures;
      within = subst (AreWithin (length new)) (sym pushed) (within_push old new es e c.loop-number.invariant.within behind);
      count = omega (arith, ap length pushed, length-append es (e ∷ []), c.loop-number.invariant.count);
    }

pub over-requires-clause-few : goal.over-requires-clause-few
over-requires-clause-few c =
    omega (arith, c.loop-number.invariant.count, numbers_few (length c.args.self.now) c.args.numbers.now c.requires, c.len-requests.ensures, c.loop-number.auto.number-index-end)
