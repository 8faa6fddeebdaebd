-- What may come next: the parts that are still to come, the words that each takes, and the limits.
-- Only the functions within `syntax_parser` cite it.
use Rattle.std.specs.Prelude.{◌≡◌, ℕ, suc, ◌+◌, Bool, true, false, List, [], ◌∷◌, ◌++◌, Option, Some, None, nat_lt, nat_le, if◌then◌else◌}
use Rattle.session_values.specs.Limits.{max_depth, max_open, max_signs}
use Rattle.session_values.specs.declared.kind.Kind.{Kind}
use Rattle.session_values.specs.declared.kind.TableKind.{TableKind}
use Rattle.syntax_grammar.specs.declared.word.Sort.{Sort}
use Rattle.syntax_grammar.specs.declared.word.Sort.TheVariants as sort
use Rattle.syntax_grammar.specs.declared.word.Word.{Word}
use Rattle.syntax_trees.specs.declared.stmt.Compare.{Compare}
use Rattle.syntax_grammar.specs.Phrase.{word}
use Rattle.syntax_grammar.specs.Sorts.{operation, comparison, table_kind, statement_start}
use Rattle.syntax_grammar.specs.declared.sorts.Start.{Start}
use Rattle.syntax_grammar.specs.declared.sorts.Start.TheVariants as start
use Rattle.syntax_grammar.specs.declared.refusals.SyntaxRefusal.{SyntaxRefusal}
use Rattle.syntax_grammar.specs.Bounds.{Limit, number_size, block_depth, open_parentheses, operator_signs, where_over, limit_refusal, max_number, max_negative}
use Rattle.syntax_grammar.specs.Refusal.{refusal}

-- A part that is still to come. A mark is one given word, and closing is the parenthesis that ends
-- a group of an expression.
pub data Part : Type 0 where
  tables : Part
  handlers : Part
  first_param : Part
  more_params : Part
  a_block : Part
  statements : Part
  or_else : Part
  a_right : Part
  more_arguments : ℕ → Part
  a_compare : Part
  a_count : Part
  more_values : ℕ → Part
  expression : Part
  operand : Part
  more_factors : Part
  more_terms : Part
  closing : Part
  an_atom : Part
  after_minus : Part
  a_name : Part
  mark : Sort → Part

-- ---- for a part and a word that begins it: what of the part is left after the word

abbrev pub name_row : Sort → Option (List Part)
name_row (sort.Name n) = Some []
name_row _ = None

-- a mark takes one given word
abbrev pub mark_row : Sort → Sort → Option (List Part)
mark_row sort.Semicolon sort.Semicolon = Some []
mark_row sort.Assign sort.Assign = Some []
mark_row sort.LeftParen sort.LeftParen = Some []
mark_row sort.RightParen sort.RightParen = Some []
mark_row sort.RightBrace sort.RightBrace = Some []
mark_row sort.As sort.As = Some []
mark_row _ _ = None

abbrev pub closing_row : Sort → Option (List Part)
closing_row sort.RightParen = Some []
closing_row _ = None

abbrev pub number_row : Sort → Option (List Part)
number_row (sort.Number n) = Some []
number_row _ = None

abbrev pub atom_row : Sort → Option (List Part)
atom_row (sort.Name n) = Some []
atom_row (sort.Symbol n) = Some []
atom_row (sort.Number n) = Some []
atom_row sort.Nil = Some []
atom_row sort.Minus = Some (after_minus ∷ [])
atom_row _ = None

abbrev pub operand_row : Sort → Option (List Part)
operand_row sort.LeftParen = Some (operand ∷ more_factors ∷ more_terms ∷ closing ∷ [])
operand_row s = atom_row s

abbrev pub factors_row : Sort → Option (List Part)
factors_row sort.Times = Some (operand ∷ more_factors ∷ [])
factors_row _ = None

abbrev pub terms_row : Sort → Option (List Part)
terms_row sort.Plus = Some (operand ∷ more_factors ∷ more_terms ∷ [])
terms_row sort.Minus = Some (operand ∷ more_factors ∷ more_terms ∷ [])
terms_row _ = None

abbrev pub before_rest : List Part → Option (List Part) → Option (List Part)
before_rest rest None = None
before_rest rest (Some new) = Some (new ++ rest)

abbrev pub expression_row : Sort → Option (List Part)
expression_row s = before_rest (more_factors ∷ more_terms ∷ []) (operand_row s)

-- what follows the word of an operation
abbrev pub call_parts : List Part
call_parts = mark sort.LeftParen ∷ a_name ∷ more_arguments 2 ∷ mark sort.RightParen ∷ []

abbrev pub where_operation : List Part → Option (List Part) → Option Kind → Option (List Part)
where_operation left otherwise (Some k) = Some left
where_operation left otherwise None = otherwise

abbrev pub right_row : Sort → Option (List Part)
right_row s = where_operation call_parts (expression_row s) (operation s)

abbrev pub arguments_row : ℕ → Sort → Option (List Part)
arguments_row (suc n) sort.Comma = Some (an_atom ∷ more_arguments n ∷ [])
arguments_row _ _ = None

abbrev pub where_comparison : Option Compare → Option (List Part)
where_comparison (Some c) = Some []
where_comparison None = None

abbrev pub values_row : ℕ → Sort → Option (List Part)
values_row (suc n) sort.Comma = Some (expression ∷ more_values n ∷ [])
values_row _ _ = None

-- what follows the word that begins a statement
abbrev pub where_statement : Option Start → Option (List Part)
where_statement (Some start.Let) = Some (a_name ∷ mark sort.Assign ∷ a_right ∷ mark
    sort.Semicolon ∷ statements ∷ [])
where_statement (Some (start.Assign n)) = Some
    (mark sort.Assign ∷ a_right ∷ mark sort.Semicolon ∷ statements ∷ [])
where_statement (Some (start.Call k)) = Some (call_parts ++ mark sort.Semicolon ∷ statements ∷ [])
where_statement (Some start.If) = Some
    (expression ∷ a_compare ∷ expression ∷ a_block ∷ or_else ∷ statements ∷ [])
where_statement (Some start.Repeat) = Some (a_count ∷ mark
    sort.As ∷ a_name ∷ a_block ∷ statements ∷ [])
where_statement (Some start.Reply) = Some (expression ∷ more_values 3 ∷ mark
    sort.Semicolon ∷ statements ∷ [])
where_statement None = None

abbrev pub else_row : Sort → Option (List Part)
else_row sort.Else = Some (a_block ∷ [])
else_row _ = None

abbrev pub block_row : Sort → Option (List Part)
block_row sort.LeftBrace = Some (statements ∷ mark sort.RightBrace ∷ [])
block_row _ = None

abbrev pub first_param_row : Sort → Option (List Part)
first_param_row (sort.Name n) = Some (more_params ∷ [])
first_param_row _ = None

abbrev pub more_params_row : Sort → Option (List Part)
more_params_row sort.Comma = Some (a_name ∷ more_params ∷ [])
more_params_row _ = None

abbrev pub handlers_row : Sort → Option (List Part)
handlers_row sort.Handler = Some (a_name ∷ mark sort.LeftParen ∷ first_param ∷ mark
    sort.RightParen ∷ a_block ∷ handlers ∷ [])
handlers_row _ = None

abbrev pub where_table : Option TableKind → Option (List Part)
where_table (Some k) = Some (a_name ∷ mark sort.Semicolon ∷ tables ∷ [])
where_table None = None

abbrev pub row : Part → Sort → Option (List Part)
row tables s = where_table (table_kind s)
row handlers s = handlers_row s
row first_param s = first_param_row s
row more_params s = more_params_row s
row a_block s = block_row s
row statements s = where_statement (statement_start s)
row or_else s = else_row s
row a_right s = right_row s
row (more_arguments n) s = arguments_row n s
row a_compare s = where_comparison (comparison s)
row a_count s = number_row s
row (more_values n) s = values_row n s
row expression s = expression_row s
row operand s = operand_row s
row more_factors s = factors_row s
row more_terms s = terms_row s
row closing s = closing_row s
row an_atom s = atom_row s
row after_minus s = number_row s
row a_name s = name_row s
row (mark t) s = mark_row t s

abbrev pub may_be_empty : Part → Bool
may_be_empty tables = true
may_be_empty handlers = true
may_be_empty first_param = true
may_be_empty more_params = true
may_be_empty statements = true
may_be_empty or_else = true
may_be_empty (more_arguments n) = true
may_be_empty (more_values n) = true
may_be_empty more_factors = true
may_be_empty more_terms = true
may_be_empty _ = false

-- the part that takes a word, what is left of it, and what is under it
pub record Taken : Type 0 where
  pub part : Part
  pub left : List Part
  pub under : List Part

abbrev pub or_below : Bool → Option Taken → Option Taken
or_below true below = below
or_below false below = None

abbrev pub at_top : Part → List Part → Option (List Part) → Option Taken → Option Taken
at_top p under (Some left) below = Some (record { part = p; left = left; under = under })
at_top p under None below = or_below (may_be_empty p) below

-- Where no row of a part that may be empty has the word, the part is empty, and the next one takes
-- it.
abbrev pub taking : List Part → Sort → Option Taken
taking [] s = None
taking (p ∷ ps) s = at_top p ps (row p s) (taking ps s)

-- ---- limits

-- how many parentheses of an expression are open
abbrev pub and_if_closing : Part → ℕ → ℕ
and_if_closing closing n = n + 1
and_if_closing _ n = n

abbrev pub open_in : List Part → ℕ
open_in [] = 0
open_in (p ∷ ps) = and_if_closing p (open_in ps)

-- how many blocks are open
abbrev pub and_if_brace : Part → ℕ → ℕ
and_if_brace (mark sort.RightBrace) n = n + 1
and_if_brace _ n = n

abbrev pub depth_of : List Part → ℕ
depth_of [] = 0
depth_of (p ∷ ps) = and_if_brace p (depth_of ps)

-- the operator signs of an expression so far
abbrev pub signs_after : Part → ℕ → ℕ
signs_after expression n = 0
signs_after a_right n = 0
signs_after more_factors n = n + 1
signs_after more_terms n = n + 1
signs_after _ n = n

abbrev pub number_over : ℕ → Sort → Option Limit
number_over limit (sort.Number n) = where_over number_size (nat_lt limit n)
number_over limit _ = None

abbrev pub operand_over : List Part → Sort → Option Limit
operand_over under (sort.Number n) = where_over number_size (nat_lt max_number n)
operand_over under sort.LeftParen = where_over open_parentheses (nat_le max_open (open_in under))
operand_over under _ = None

-- the limit that a word breaks in the part that takes it, over these other parts, behind so many
-- operator signs
abbrev pub broken : Part → List Part → ℕ → Sort → Option Limit
broken a_block under signs s = where_over block_depth (nat_le max_depth (depth_of under))
broken a_count under signs s = number_over max_number s
broken a_right under signs s = operand_over under s
broken expression under signs s = operand_over under s
broken operand under signs s = operand_over under s
broken more_factors under signs s = where_over operator_signs (nat_le max_signs signs)
broken more_terms under signs s = where_over operator_signs (nat_le max_signs signs)
broken an_atom under signs s = number_over max_number s
broken after_minus under signs s = number_over max_negative s
broken _ under signs s = None

-- ---- the walk over the words

-- at the end, what is left may be empty
abbrev pub may_end : List Part → Bool
may_end [] = true
may_end (p ∷ ps) = if may_be_empty p then may_end ps else false

abbrev pub at_end : ℕ → Bool → Option SyntaxRefusal
at_end end true = None
at_end end false = Some (refusal (word sort.End end))

-- goes on behind a word that was taken within the limits
abbrev pub go_on : Word → Option Limit → Option SyntaxRefusal → Option SyntaxRefusal
go_on w (Some l) after = Some (limit_refusal l w.at)
go_on w None after = after

abbrev pub after_taking : Word → ℕ → (List Part → ℕ → Option SyntaxRefusal) → Option Taken
    → Option SyntaxRefusal
after_taking w signs rest None = Some (refusal w)
after_taking w signs rest (Some t) = go_on w (broken t.part t.under signs w.sort)
    (rest (t.left ++ t.under) (signs_after t.part signs))

-- the first fault of words that end at a byte place, where these parts are to come, behind so many
-- operator signs
abbrev pub fault : ℕ → List Part → ℕ → List Word → Option SyntaxRefusal
fault end ps signs [] = at_end end (may_end ps)
fault end ps signs (w ∷ ws) = after_taking w signs (λ qs n. fault end qs n ws) (taking ps w.sort)

-- the parts of a whole file
abbrev pub whole_file : List Part
whole_file = tables ∷ handlers ∷ []

-- ---- what a function may know of the parts under its own

-- nothing
abbrev pub Anywhere : List Part → Type 0
Anywhere ps = Unit {0}

-- so many parentheses are open
abbrev pub Opened : ℕ → List Part → Type 0
Opened n ps = open_in ps ≡ n

-- no parenthesis is open, and so many blocks are
pub record Inside (depth : ℕ) (ps : List Part) : Type 0 where
  pub none_open : open_in ps ≡ 0
  pub depth_is : depth_of ps ≡ depth
