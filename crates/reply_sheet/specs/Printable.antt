-- Replies whose symbols have texts that a reply line has room for.
use Rattle.std.specs.Prelude.{List, ℕ}
use Rattle.std.specs.List.{AllByRecursion}
use Rattle.session_values.specs.declared.reply.Reply.{Reply}
use Rattle.session_values.specs.Reply.{values_of}
use Rattle.session_values.specs.ReplyText.{IsPrintable}

-- all values of replies
abbrev pub ArePrintableReplies : List (List ℕ) → List Reply → Type 0
ArePrintableReplies names replies = AllByRecursion
    (λ (r : Reply). AllByRecursion (IsPrintable names) (values_of r)) replies
