use Rattle.std.proofs.Common.{◌≡◌, Bool, false, List, replicate, ◌∙◌, ap}
use Rattle.admission_book.specs.KeptReplies.{kept_list}
use Rattle.admission_book.proofs.KeptLists.{kept_none}
use Rattle.admission_book.proofs.kept_replies.KeptReplies.none.Goals as goal

pub returns : goal.returns
returns c =
    let none : c.in_ok-ended.ended.items ≡ replicate c.args.tickets false = c.in_ok-ended.ensures.items_if_clones_equal (λ y h. h) in
    ap (λ (bs : List Bool). kept_list bs c.in_ok-replies.replies.items) none ∙ kept_none c.args.tickets c.in_ok-replies.replies.items
