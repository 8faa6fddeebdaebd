-- The replies that are kept of tickets. Only this crate's own functions cite it.
use Rattle.std.specs.Prelude.{List, [], ◌∷◌, Option, Some, None, Bool, cond}
use Rattle.session_values.specs.declared.reply.Reply.{Reply}

-- the reply at each place where a ticket has ended, and none elsewhere
abbrev pub kept_list : List Bool → List Reply → List (Option Reply)
kept_list [] rs = []
kept_list (b ∷ bs) [] = None ∷ kept_list bs []
kept_list (b ∷ bs) (r ∷ rs) = cond b (Some r) None ∷ kept_list bs rs
