-- The parts of the grammar that are still to come, as the code keeps them: in a list whose last
-- item is the part that comes next. Only this crate's own functions cite it.
use Rattle.std.specs.Prelude.{◌≡◌, Bool, true, false, List, [], ◌∷◌, ◌++◌, Option, Some, None}
use denote.Ref.{Bor}
use Rattle.syntax_grammar.specs.declared.word.Sort.{Sort}
use Rattle.syntax_grammar.specs.declared.word.Sort.TheVariants as sort
use Rattle.syntax_grammar.specs.Next.{Part, tables, handlers, first_param, more_params, a_block, statements, or_else, a_right, more_arguments, a_compare, a_count, more_values, expression, operand, more_factors, more_terms, closing, an_atom, after_minus, a_name, mark, Taken, taking}
use Rattle.refusal_advice.specs.declared.part.Part.{Part as Kept}
use Rattle.refusal_advice.specs.declared.part.Part.TheVariants as part

-- the part of the grammar
abbrev pub part_of : Kept → Part
part_of part.Tables = tables
part_of part.Handlers = handlers
part_of part.FirstParam = first_param
part_of part.MoreParams = more_params
part_of part.Block = a_block
part_of part.Statements = statements
part_of part.OrElse = or_else
part_of part.Right = a_right
part_of part.TwoArguments = more_arguments 2
part_of part.OneArgument = more_arguments 1
part_of part.NoArgument = more_arguments 0
part_of part.Compare = a_compare
part_of part.Count = a_count
part_of part.ThreeValues = more_values 3
part_of part.TwoValues = more_values 2
part_of part.OneValue = more_values 1
part_of part.NoValue = more_values 0
part_of part.Expression = expression
part_of part.Operand = operand
part_of part.MoreFactors = more_factors
part_of part.MoreTerms = more_terms
part_of part.Closing = closing
part_of part.Atom = an_atom
part_of part.AfterMinus = after_minus
part_of part.Name = a_name
part_of part.Semicolon = mark sort.Semicolon
part_of part.Assign = mark sort.Assign
part_of part.LeftParen = mark sort.LeftParen
part_of part.RightParen = mark sort.RightParen
part_of part.RightBrace = mark sort.RightBrace
part_of part.As = mark sort.As

-- the parts of a list over others, the last item first
abbrev pub over : List Kept → List Part → List Part
over [] under = under
over (p ∷ ps) under = over ps (part_of p ∷ under)

-- the parts of a list
abbrev pub parts_of : List Kept → List Part
parts_of kept = over kept []

-- what is left of a part behind a word that begins it, if one does
abbrev pub IsRow : Option (List Part) → Option (Bor (List Kept)) → Type 0
IsRow row None = row ≡ None
IsRow row (Some left) = row ≡ Some (parts_of left.now)

-- the parts behind a word that one of them takes
abbrev pub behind : Option Taken → Option (List Part)
behind None = None
behind (Some t) = Some (t.left ++ t.under)

-- the word is taken, and these parts come behind it; or no part takes it
abbrev pub Takes : List Part → Sort → Bool → List Part → Type 0
Takes old s true new = behind (taking old s) ≡ Some new
Takes old s false new = taking old s ≡ None
