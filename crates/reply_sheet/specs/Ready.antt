-- Replies that are next in the order of tickets.
use Rattle.std.specs.Prelude.{◌≡◌, ℕ, List, [], ◌∷◌, Option, Some, None, slice_get}
use Rattle.std.specs.List.{AllByRecursion}
use Rattle.session_values.specs.declared.reply.Reply.{Reply}
use Rattle.session_values.specs.Reply.{values_of}
use Rattle.session_values.specs.ReplyText.{IsPrintable}
use Rattle.reply_sheet.specs.Pending.{PendingView}

-- the first of these, up to one that is missing
abbrev pub first_kept : List (Option Reply) → List Reply
first_kept [] = []
first_kept (None ∷ ks) = []
first_kept (Some r ∷ ks) = r ∷ first_kept ks

-- the replies of the next ticket and of those behind it, up to one that isn't kept
abbrev pub ready : PendingView → List Reply
ready p = first_kept p.waiting

-- all values of the replies that are kept have texts that a line has room for
abbrev pub AreKeptPrintable : List (List ℕ) → List (Option Reply) → Type 0
AreKeptPrintable names waiting = (i : ℕ) (r : Reply) → slice_get waiting i ≡ Some (Some r)
    → AllByRecursion (IsPrintable names) (values_of r)
