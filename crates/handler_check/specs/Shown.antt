-- The variable that a statement makes visible behind it. Only this crate's own functions cite it.
use Rattle.std.specs.Prelude.{ℕ, List, [], ◌∷◌}
use Rattle.syntax_trees.specs.Source.{Source, Finish, Let, Assign, Do, Choose, Repeat, Answer, stmt_source}
use Rattle.syntax_trees.specs.declared.stmt.Stmt.{Stmt}

abbrev pub first_shown : Source → List ℕ
first_shown Finish = []
first_shown (Let n at r rest) = n ∷ []
first_shown (Assign n at r rest) = []
first_shown (Do c rest) = []
first_shown (Choose at c a b rest) = []
first_shown (Repeat at n n_at name name_at body rest) = []
first_shown (Answer es rest) = []

-- the variable that a statement makes visible, if it makes one
abbrev pub shown : Stmt → List ℕ
shown s = first_shown (stmt_source s Finish)
