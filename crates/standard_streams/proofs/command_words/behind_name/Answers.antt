use Rattle.std.proofs.Common.{◌≡◌, ◌<◌, List, [], ◌∷◌, ◌++◌, drop, length, Option, Some, None, IsSome, sym, ap, ◌∙◌, arith}
use Rattle.std.specs.Option.{option_to_list}
use Rattle.std.specs.Vec.Iter.{into_iter_items}
use Rattle.std.proofs.lemmas.Iterator.{items_from_collect}
use Rattle.std.proofs.lemmas.Iterator.Adapters.{YieldsList-from_vec}
use Rattle.standard_streams.proofs.command_words.behind_name.Goals as goal

-- what is left behind the first item, if there is one
rest_of : {X : Type 0} (o : Option X) (all rest : List X) → all ≡ option_to_list o ++ rest → (0 < length all → IsSome o) → rest ≡ drop 1 all
rest_of (Some x) all rest e some = sym (ap (drop 1) e)
rest_of None [] rest e some = sym e
rest_of None (x ∷ xs) rest e some = let clash = some (omega arith) in absurd (cc)

pub returns : goal.returns
returns c =
    let old = c.args.args in
    let new = c.next.new.self in
    let behind = rest_of c.next.result (into_iter_items old) (into_iter_items new) c.next.ensures.items (λ h. c.next.ensures.variant.1 (omega (arith, h, old.rest.ok.0))) in
    items_from_collect _ c.collect.ensures.ran (YieldsList-from_vec (drop 1 (into_iter_items old)) behind (new.rest.ok.0 ∙ ap length behind))
