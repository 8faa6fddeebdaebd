-- Entries that follow a dialogue.
use Rattle.std.proofs.Common.{◌≡◌, suc, List, [], ◌∷◌, ◌++◌, length, refl, ap}
use Rattle.session_values.specs.Dialogue.{Calls, Dialogue, Entry, Follows, replies, rest, Answers}
use Rattle.session_values.specs.declared.op.Op.{Op}
use Rattle.session_values.specs.declared.reply.Reply.{Reply}

pub follows_more : (f : Dialogue) (es : List Entry) (e : Entry) → Follows f es → f (replies es) ≡ Calls e.op → Follows f (es ++ e ∷ [])
follows_more f [] e h c = (c, tt)
follows_more f (x ∷ es) e h c = (h.0, follows_more (rest f (x.reply ∷ [])) es e h.1 c)

pub length_replies : (es : List Entry) → length (replies es) ≡ length es
length_replies [] = refl
length_replies (e ∷ es) = ap suc (length_replies es)

-- ---- what a dialogue does next
pub same_call : (o p : Op) → Calls o ≡ Calls p → o ≡ p
same_call o p e = cc

pub no_call : {A : Type 0} (r : Reply) (p : Op) → Answers r ≡ Calls p → A
no_call r p e = cc
