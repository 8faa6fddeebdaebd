use Rattle.std.proofs.Common.{List, Option, Some, map, ◌∙◌, ap, sym, subst, arith}
use Rattle.std.specs.List.{AllByRecursion}
use Rattle.std.specs.Option.{IsSome}
use Rattle.session_values.specs.declared.reply.Reply.{Reply}
use Rattle.admission_book.proofs.KeptLists.{kept_all}
use Rattle.admission_book.proofs.kept_replies.KeptReplies.all.Goals as goal

pub from_vec-requires : goal.from_vec-requires
from_vec-requires c = omega (arith, c.self.invariant.1, c.self.inside.replies.ok)

pub returns : goal.returns
returns c =
    let P : List (Option Reply) → Type 0 = λ l. AllByRecursion (λ o. IsSome o) l in
    ap (λ (l : List Reply). map (λ (r : Reply). Some r) l) c.from_vec.ensures
    ∙ kept_all c.self.inside.ended.items c.self.inside.replies.items c.self.invariant.0 (subst P (sym c.self.view_is) c.requires)
    ∙ c.self.view_is
