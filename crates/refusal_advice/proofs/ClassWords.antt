-- Words of one class begin the same parts, and what has no class begins none.
use Rattle.std.proofs.Common.{◌≡◌, ℕ, zero, suc, Bool, true, false, List, [], ◌∷◌, Option, Some, None, is_some, refl, sym, ap, ◌∙◌}
use Rattle.session_values.specs.declared.kind.Kind.{Kind}
use Rattle.session_values.specs.declared.kind.Kind.TheVariants as kind
use Rattle.session_values.specs.declared.kind.TableKind.{TableKind}
use Rattle.session_values.specs.declared.kind.TableKind.TheVariants as table
use Rattle.syntax_trees.specs.declared.stmt.Compare.{Compare}
use Rattle.syntax_trees.specs.declared.stmt.Compare.TheVariants as compare
use Rattle.syntax_grammar.specs.declared.word.Sort.{Sort}
use Rattle.syntax_grammar.specs.declared.word.Sort.TheVariants as sort
use Rattle.syntax_grammar.specs.Next.{Part, tables, handlers, first_param, more_params, a_block, statements, or_else, a_right, more_arguments, a_compare, a_count, more_values, expression, operand, more_factors, more_terms, closing, an_atom, after_minus, a_name, mark, mark_row, row, taking, at_top, or_below, may_be_empty}
use Rattle.refusal_advice.specs.Classes.{class_of}
use Rattle.refusal_advice.specs.Walk.{allows}
use Rattle.refusal_advice.specs.declared.class.Class.{Class}

-- ---- over all parts, from each part

taking_same : (s r : Sort) → ((p : Part) → is_some (row p s) ≡ is_some (row p r)) → (ps : List Part) → is_some (taking ps s) ≡ is_some (taking ps r)
taking_same s r h [] = refl
taking_same s r h (p ∷ ps) = by (row p s) (row p r) (h p) (taking_same s r h ps)
  where
    below : (b : Bool) → is_some (taking ps s) ≡ is_some (taking ps r) → is_some (or_below b (taking ps s)) ≡ is_some (or_below b (taking ps r))
    below true e = e
    below false e = refl

    by : (a b : Option (List Part)) → is_some a ≡ is_some b → is_some (taking ps s) ≡ is_some (taking ps r) → is_some (at_top p ps a (taking ps s)) ≡ is_some (at_top p ps b (taking ps r))
    by None None e t = below (may_be_empty p) t
    by (Some a) (Some b) e t = refl
    by None (Some b) e t = absurd (let q : false ≡ true = e in cc)
    by (Some a) None e t = absurd (let q : true ≡ false = e in cc)

taking_none : (s : Sort) → ((p : Part) → row p s ≡ None) → (ps : List Part) → taking ps s ≡ None
taking_none s h [] = refl
taking_none s h (p ∷ ps) = ap (λ o. at_top p ps o (taking ps s)) (h p) ∙ ap (or_below (may_be_empty p)) (taking_none s h ps) ∙ none (may_be_empty p)
  where
    none : (b : Bool) → or_below b None ≡ None
    none true = refl
    none false = refl

-- ---- words of one class

table_words_mark : (t : Sort) (x : TableKind) → is_some (mark_row t (sort.Table x)) ≡ is_some (mark_row t (sort.Table table.Map))
table_words_mark sort.Semicolon x = refl
table_words_mark sort.Assign x = refl
table_words_mark sort.LeftParen x = refl
table_words_mark sort.RightParen x = refl
table_words_mark sort.RightBrace x = refl
table_words_mark sort.As x = refl
table_words_mark _ x = refl

table_words : (p : Part) (x : TableKind) → is_some (row p (sort.Table x)) ≡ is_some (row p (sort.Table table.Map))
table_words tables x = refl
table_words handlers x = refl
table_words first_param x = refl
table_words more_params x = refl
table_words a_block x = refl
table_words statements x = refl
table_words or_else x = refl
table_words a_right x = refl
table_words (more_arguments zero) x = refl
table_words (more_arguments (suc m)) x = refl
table_words a_compare x = refl
table_words a_count x = refl
table_words (more_values zero) x = refl
table_words (more_values (suc m)) x = refl
table_words expression x = refl
table_words operand x = refl
table_words more_factors x = refl
table_words more_terms x = refl
table_words closing x = refl
table_words an_atom x = refl
table_words after_minus x = refl
table_words a_name x = refl
table_words (mark t) x = table_words_mark t x

name_words_mark : (t : Sort) (x : ℕ) → is_some (mark_row t (sort.Name x)) ≡ is_some (mark_row t (sort.Name 0))
name_words_mark sort.Semicolon x = refl
name_words_mark sort.Assign x = refl
name_words_mark sort.LeftParen x = refl
name_words_mark sort.RightParen x = refl
name_words_mark sort.RightBrace x = refl
name_words_mark sort.As x = refl
name_words_mark _ x = refl

name_words : (p : Part) (x : ℕ) → is_some (row p (sort.Name x)) ≡ is_some (row p (sort.Name 0))
name_words tables x = refl
name_words handlers x = refl
name_words first_param x = refl
name_words more_params x = refl
name_words a_block x = refl
name_words statements x = refl
name_words or_else x = refl
name_words a_right x = refl
name_words (more_arguments zero) x = refl
name_words (more_arguments (suc m)) x = refl
name_words a_compare x = refl
name_words a_count x = refl
name_words (more_values zero) x = refl
name_words (more_values (suc m)) x = refl
name_words expression x = refl
name_words operand x = refl
name_words more_factors x = refl
name_words more_terms x = refl
name_words closing x = refl
name_words an_atom x = refl
name_words after_minus x = refl
name_words a_name x = refl
name_words (mark t) x = name_words_mark t x

symbol_words_mark : (t : Sort) (x : ℕ) → is_some (mark_row t (sort.Symbol x)) ≡ is_some (mark_row t (sort.Symbol 0))
symbol_words_mark sort.Semicolon x = refl
symbol_words_mark sort.Assign x = refl
symbol_words_mark sort.LeftParen x = refl
symbol_words_mark sort.RightParen x = refl
symbol_words_mark sort.RightBrace x = refl
symbol_words_mark sort.As x = refl
symbol_words_mark _ x = refl

symbol_words : (p : Part) (x : ℕ) → is_some (row p (sort.Symbol x)) ≡ is_some (row p (sort.Symbol 0))
symbol_words tables x = refl
symbol_words handlers x = refl
symbol_words first_param x = refl
symbol_words more_params x = refl
symbol_words a_block x = refl
symbol_words statements x = refl
symbol_words or_else x = refl
symbol_words a_right x = refl
symbol_words (more_arguments zero) x = refl
symbol_words (more_arguments (suc m)) x = refl
symbol_words a_compare x = refl
symbol_words a_count x = refl
symbol_words (more_values zero) x = refl
symbol_words (more_values (suc m)) x = refl
symbol_words expression x = refl
symbol_words operand x = refl
symbol_words more_factors x = refl
symbol_words more_terms x = refl
symbol_words closing x = refl
symbol_words an_atom x = refl
symbol_words after_minus x = refl
symbol_words a_name x = refl
symbol_words (mark t) x = symbol_words_mark t x

number_words_mark : (t : Sort) (x : ℕ) → is_some (mark_row t (sort.Number x)) ≡ is_some (mark_row t (sort.Number 0))
number_words_mark sort.Semicolon x = refl
number_words_mark sort.Assign x = refl
number_words_mark sort.LeftParen x = refl
number_words_mark sort.RightParen x = refl
number_words_mark sort.RightBrace x = refl
number_words_mark sort.As x = refl
number_words_mark _ x = refl

number_words : (p : Part) (x : ℕ) → is_some (row p (sort.Number x)) ≡ is_some (row p (sort.Number 0))
number_words tables x = refl
number_words handlers x = refl
number_words first_param x = refl
number_words more_params x = refl
number_words a_block x = refl
number_words statements x = refl
number_words or_else x = refl
number_words a_right x = refl
number_words (more_arguments zero) x = refl
number_words (more_arguments (suc m)) x = refl
number_words a_compare x = refl
number_words a_count x = refl
number_words (more_values zero) x = refl
number_words (more_values (suc m)) x = refl
number_words expression x = refl
number_words operand x = refl
number_words more_factors x = refl
number_words more_terms x = refl
number_words closing x = refl
number_words an_atom x = refl
number_words after_minus x = refl
number_words a_name x = refl
number_words (mark t) x = number_words_mark t x

do_words_mark : (t : Sort) (x : Kind) → is_some (mark_row t (sort.Do x)) ≡ is_some (mark_row t (sort.Do kind.Get))
do_words_mark sort.Semicolon x = refl
do_words_mark sort.Assign x = refl
do_words_mark sort.LeftParen x = refl
do_words_mark sort.RightParen x = refl
do_words_mark sort.RightBrace x = refl
do_words_mark sort.As x = refl
do_words_mark _ x = refl

do_words : (p : Part) (x : Kind) → is_some (row p (sort.Do x)) ≡ is_some (row p (sort.Do kind.Get))
do_words tables x = refl
do_words handlers x = refl
do_words first_param x = refl
do_words more_params x = refl
do_words a_block x = refl
do_words statements x = refl
do_words or_else x = refl
do_words a_right x = refl
do_words (more_arguments zero) x = refl
do_words (more_arguments (suc m)) x = refl
do_words a_compare x = refl
do_words a_count x = refl
do_words (more_values zero) x = refl
do_words (more_values (suc m)) x = refl
do_words expression x = refl
do_words operand x = refl
do_words more_factors x = refl
do_words more_terms x = refl
do_words closing x = refl
do_words an_atom x = refl
do_words after_minus x = refl
do_words a_name x = refl
do_words (mark t) x = do_words_mark t x

compare_words_mark : (t : Sort) (x : Compare) → is_some (mark_row t (sort.Compare x)) ≡ is_some (mark_row t (sort.Compare compare.Same))
compare_words_mark sort.Semicolon x = refl
compare_words_mark sort.Assign x = refl
compare_words_mark sort.LeftParen x = refl
compare_words_mark sort.RightParen x = refl
compare_words_mark sort.RightBrace x = refl
compare_words_mark sort.As x = refl
compare_words_mark _ x = refl

compare_words : (p : Part) (x : Compare) → is_some (row p (sort.Compare x)) ≡ is_some (row p (sort.Compare compare.Same))
compare_words tables x = refl
compare_words handlers x = refl
compare_words first_param x = refl
compare_words more_params x = refl
compare_words a_block x = refl
compare_words statements x = refl
compare_words or_else x = refl
compare_words a_right x = refl
compare_words (more_arguments zero) x = refl
compare_words (more_arguments (suc m)) x = refl
compare_words a_compare x = refl
compare_words a_count x = refl
compare_words (more_values zero) x = refl
compare_words (more_values (suc m)) x = refl
compare_words expression x = refl
compare_words operand x = refl
compare_words more_factors x = refl
compare_words more_terms x = refl
compare_words closing x = refl
compare_words an_atom x = refl
compare_words after_minus x = refl
compare_words a_name x = refl
compare_words (mark t) x = compare_words_mark t x

-- ---- what has no class

no_mayuse_mark : (t : Sort) → mark_row t sort.MayUse ≡ None
no_mayuse_mark sort.Semicolon = refl
no_mayuse_mark sort.Assign = refl
no_mayuse_mark sort.LeftParen = refl
no_mayuse_mark sort.RightParen = refl
no_mayuse_mark sort.RightBrace = refl
no_mayuse_mark sort.As = refl
no_mayuse_mark _ = refl

no_mayuse : (p : Part) → row p sort.MayUse ≡ None
no_mayuse tables = refl
no_mayuse handlers = refl
no_mayuse first_param = refl
no_mayuse more_params = refl
no_mayuse a_block = refl
no_mayuse statements = refl
no_mayuse or_else = refl
no_mayuse a_right = refl
no_mayuse (more_arguments zero) = refl
no_mayuse (more_arguments (suc m)) = refl
no_mayuse a_compare = refl
no_mayuse a_count = refl
no_mayuse (more_values zero) = refl
no_mayuse (more_values (suc m)) = refl
no_mayuse expression = refl
no_mayuse operand = refl
no_mayuse more_factors = refl
no_mayuse more_terms = refl
no_mayuse closing = refl
no_mayuse an_atom = refl
no_mayuse after_minus = refl
no_mayuse a_name = refl
no_mayuse (mark t) = no_mayuse_mark t

no_nothing_mark : (t : Sort) → mark_row t sort.Nothing ≡ None
no_nothing_mark sort.Semicolon = refl
no_nothing_mark sort.Assign = refl
no_nothing_mark sort.LeftParen = refl
no_nothing_mark sort.RightParen = refl
no_nothing_mark sort.RightBrace = refl
no_nothing_mark sort.As = refl
no_nothing_mark _ = refl

no_nothing : (p : Part) → row p sort.Nothing ≡ None
no_nothing tables = refl
no_nothing handlers = refl
no_nothing first_param = refl
no_nothing more_params = refl
no_nothing a_block = refl
no_nothing statements = refl
no_nothing or_else = refl
no_nothing a_right = refl
no_nothing (more_arguments zero) = refl
no_nothing (more_arguments (suc m)) = refl
no_nothing a_compare = refl
no_nothing a_count = refl
no_nothing (more_values zero) = refl
no_nothing (more_values (suc m)) = refl
no_nothing expression = refl
no_nothing operand = refl
no_nothing more_factors = refl
no_nothing more_terms = refl
no_nothing closing = refl
no_nothing an_atom = refl
no_nothing after_minus = refl
no_nothing a_name = refl
no_nothing (mark t) = no_nothing_mark t

no_any_mark : (t : Sort) → mark_row t sort.Any ≡ None
no_any_mark sort.Semicolon = refl
no_any_mark sort.Assign = refl
no_any_mark sort.LeftParen = refl
no_any_mark sort.RightParen = refl
no_any_mark sort.RightBrace = refl
no_any_mark sort.As = refl
no_any_mark _ = refl

no_any : (p : Part) → row p sort.Any ≡ None
no_any tables = refl
no_any handlers = refl
no_any first_param = refl
no_any more_params = refl
no_any a_block = refl
no_any statements = refl
no_any or_else = refl
no_any a_right = refl
no_any (more_arguments zero) = refl
no_any (more_arguments (suc m)) = refl
no_any a_compare = refl
no_any a_count = refl
no_any (more_values zero) = refl
no_any (more_values (suc m)) = refl
no_any expression = refl
no_any operand = refl
no_any more_factors = refl
no_any more_terms = refl
no_any closing = refl
no_any an_atom = refl
no_any after_minus = refl
no_any a_name = refl
no_any (mark t) = no_any_mark t

no_long_mark : (t : Sort) → mark_row t sort.Long ≡ None
no_long_mark sort.Semicolon = refl
no_long_mark sort.Assign = refl
no_long_mark sort.LeftParen = refl
no_long_mark sort.RightParen = refl
no_long_mark sort.RightBrace = refl
no_long_mark sort.As = refl
no_long_mark _ = refl

no_long : (p : Part) → row p sort.Long ≡ None
no_long tables = refl
no_long handlers = refl
no_long first_param = refl
no_long more_params = refl
no_long a_block = refl
no_long statements = refl
no_long or_else = refl
no_long a_right = refl
no_long (more_arguments zero) = refl
no_long (more_arguments (suc m)) = refl
no_long a_compare = refl
no_long a_count = refl
no_long (more_values zero) = refl
no_long (more_values (suc m)) = refl
no_long expression = refl
no_long operand = refl
no_long more_factors = refl
no_long more_terms = refl
no_long closing = refl
no_long an_atom = refl
no_long after_minus = refl
no_long a_name = refl
no_long (mark t) = no_long_mark t

no_bad_mark : (t : Sort) → mark_row t sort.Bad ≡ None
no_bad_mark sort.Semicolon = refl
no_bad_mark sort.Assign = refl
no_bad_mark sort.LeftParen = refl
no_bad_mark sort.RightParen = refl
no_bad_mark sort.RightBrace = refl
no_bad_mark sort.As = refl
no_bad_mark _ = refl

no_bad : (p : Part) → row p sort.Bad ≡ None
no_bad tables = refl
no_bad handlers = refl
no_bad first_param = refl
no_bad more_params = refl
no_bad a_block = refl
no_bad statements = refl
no_bad or_else = refl
no_bad a_right = refl
no_bad (more_arguments zero) = refl
no_bad (more_arguments (suc m)) = refl
no_bad a_compare = refl
no_bad a_count = refl
no_bad (more_values zero) = refl
no_bad (more_values (suc m)) = refl
no_bad expression = refl
no_bad operand = refl
no_bad more_factors = refl
no_bad more_terms = refl
no_bad closing = refl
no_bad an_atom = refl
no_bad after_minus = refl
no_bad a_name = refl
no_bad (mark t) = no_bad_mark t

no_end_mark : (t : Sort) → mark_row t sort.End ≡ None
no_end_mark sort.Semicolon = refl
no_end_mark sort.Assign = refl
no_end_mark sort.LeftParen = refl
no_end_mark sort.RightParen = refl
no_end_mark sort.RightBrace = refl
no_end_mark sort.As = refl
no_end_mark _ = refl

no_end : (p : Part) → row p sort.End ≡ None
no_end tables = refl
no_end handlers = refl
no_end first_param = refl
no_end more_params = refl
no_end a_block = refl
no_end statements = refl
no_end or_else = refl
no_end a_right = refl
no_end (more_arguments zero) = refl
no_end (more_arguments (suc m)) = refl
no_end a_compare = refl
no_end a_count = refl
no_end (more_values zero) = refl
no_end (more_values (suc m)) = refl
no_end expression = refl
no_end operand = refl
no_end more_factors = refl
no_end more_terms = refl
no_end closing = refl
no_end an_atom = refl
no_end after_minus = refl
no_end a_name = refl
no_end (mark t) = no_end_mark t

-- the end is taken by no part
pub end_untaken : (ps : List Part) → taking ps sort.End ≡ None
end_untaken ps = taking_none sort.End no_end ps

-- ---- the test of a class is that of each of its words

abbrev pub ClassLaw : List Part → Sort → Option Class → Type 0
ClassLaw ps s None = taking ps s ≡ None
ClassLaw ps s (Some c) = allows ps c ≡ is_some (taking ps s)

pub class_law : (ps : List Part) (s : Sort) → ClassLaw ps s (class_of s)
class_law ps (sort.Table x) = sym (taking_same (sort.Table x) (sort.Table table.Map) (λ p. table_words p x) ps)
class_law ps (sort.Name x) = sym (taking_same (sort.Name x) (sort.Name 0) (λ p. name_words p x) ps)
class_law ps (sort.Symbol x) = sym (taking_same (sort.Symbol x) (sort.Symbol 0) (λ p. symbol_words p x) ps)
class_law ps (sort.Number x) = sym (taking_same (sort.Number x) (sort.Number 0) (λ p. number_words p x) ps)
class_law ps (sort.Do x) = sym (taking_same (sort.Do x) (sort.Do kind.Get) (λ p. do_words p x) ps)
class_law ps (sort.Compare x) = sym (taking_same (sort.Compare x) (sort.Compare compare.Same) (λ p. compare_words p x) ps)
class_law ps sort.MayUse = taking_none sort.MayUse no_mayuse ps
class_law ps sort.Nothing = taking_none sort.Nothing no_nothing ps
class_law ps sort.Any = taking_none sort.Any no_any ps
class_law ps sort.Long = taking_none sort.Long no_long ps
class_law ps sort.Bad = taking_none sort.Bad no_bad ps
class_law ps sort.End = taking_none sort.End no_end ps
class_law ps sort.Handler = refl
class_law ps sort.Let = refl
class_law ps sort.If = refl
class_law ps sort.Else = refl
class_law ps sort.Repeat = refl
class_law ps sort.As = refl
class_law ps sort.Reply = refl
class_law ps sort.Nil = refl
class_law ps sort.LeftParen = refl
class_law ps sort.RightParen = refl
class_law ps sort.LeftBrace = refl
class_law ps sort.RightBrace = refl
class_law ps sort.Comma = refl
class_law ps sort.Semicolon = refl
class_law ps sort.Assign = refl
class_law ps sort.Plus = refl
class_law ps sort.Minus = refl
class_law ps sort.Times = refl
