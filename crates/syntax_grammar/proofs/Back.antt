-- What may come next can be gone on with to the end.
use Rattle.std.proofs.Common.{ℕ, suc, arith, List, [], ◌∷◌, ◌++◌, Option, Some, None, refl, ap, ◌∙◌, subst, append_assoc}
use Rattle.session_values.specs.declared.kind.Kind.{Kind}
use Rattle.session_values.specs.declared.kind.TableKind.{TableKind}
use Rattle.syntax_grammar.specs.declared.word.Word.{Word}
use Rattle.syntax_grammar.specs.declared.word.Sort.{Sort}
use Rattle.syntax_grammar.specs.declared.word.Sort.TheVariants as sort
use Rattle.syntax_grammar.specs.Next.{Part, tables, handlers, first_param, more_params, a_block, statements, or_else, a_right, more_arguments, a_compare, a_count, more_values, expression, operand, more_factors, more_terms, closing, an_atom, after_minus, a_name, mark, row, call_parts, atom_row, operand_row, before_rest, expression_row}
use Rattle.syntax_grammar.specs.Phrase.{word, named, name_words, digits, number_words, name_atom, nil_atom, symbol_atom, number_atom, negative_atom, atom_words, plain, grouped, factor_words, times, factors_words, term, plus, minus, terms_words, sum, expr_words, more_atom, atoms_words, operands, a_call, result_right, plain_right, right_words, a_cond, compare_words, a_turns, more_value, more_words, let_stmt, assign_stmt, call_stmt, if_stmt, repeat_stmt, reply_stmt, an_else, else_words, more_stmts, stmts_words, block, block_words, more_param, some_params, params_words, a_handler, more_handlers, a_table, more_tables}
use Rattle.syntax_grammar.proofs.Spells.{Spells}

-- a row undone: what is left after the word, with the word before it, is the part
abbrev pub RowBack : Part → Sort → Option (List Part) → Type 0
RowBack p s None = Unit {0}
RowBack p s (Some left) = (at : ℕ) (under : List Part) (ws : List Word) → Spells (left ++ under) ws → Spells (p ∷ under) (word s at ∷ ws)

-- ---- expressions

atom_back : (s : Sort) → RowBack an_atom s (atom_row s)
atom_back (sort.Name n) = λ at under ws h. (ws, (name_atom n at, refl), h)
atom_back (sort.Symbol n) = λ at under ws h. (ws, (symbol_atom n at, refl), h)
atom_back (sort.Number n) = λ at under ws h. (ws, (number_atom (digits n at), refl), h)
atom_back sort.Nil = λ at under ws h. (ws, (nil_atom at, refl), h)
atom_back sort.Minus = λ at under ws h. (h.0, (negative_atom at h.1.0, ap (λ l. word sort.Minus at ∷ l) h.1.1), h.2)
atom_back _ = tt

-- an atom is an operand
abbrev FromAtom : Sort → Option (List Part) → Type 0
FromAtom s o = RowBack an_atom s o → RowBack operand s o

from_atom : (s : Sort) (o : Option (List Part)) → FromAtom s o
from_atom s None b = tt
from_atom s (Some left) b = λ at under ws h. let r = b at under ws h in (r.0, (plain r.1.0, r.1.1), r.2)

operand_back : (s : Sort) → RowBack operand s (operand_row s)
operand_back sort.LeftParen = λ at under ws h.
    let f = h.1.0 in
    let fs = h.2.1.0 in
    let ts = h.2.2.1.0 in
    let q = h.2.2.2.1.0 in (
      h.2.2.2.0,
      (grouped at (sum (term f fs) ts) q, ap (λ l. word sort.LeftParen at ∷ l) (h.1.1 ∙ ap (factor_words f) (h.2.1.1 ∙ ap (factors_words fs) (h.2.2.1.1 ∙ ap (terms_words ts) h.2.2.2.1.1)))),
      h.2.2.2.2,
    )
operand_back s = from_atom s (atom_row s) (atom_back s)

factors_back : (s : Sort) → RowBack more_factors s (row more_factors s)
factors_back sort.Times = λ at under ws h.
    (h.2.0, (times at h.1.0 h.2.1.0, ap (λ l. word sort.Times at ∷ l) (h.1.1 ∙ ap (factor_words h.1.0) h.2.1.1)), h.2.2)
factors_back _ = tt

terms_back : (s : Sort) → RowBack more_terms s (row more_terms s)
terms_back sort.Plus = λ at under ws h.
    (h.2.2.0, (plus at (term h.1.0 h.2.1.0) h.2.2.1.0, ap (λ l. word sort.Plus at ∷ l) (h.1.1 ∙ ap (factor_words h.1.0) (h.2.1.1 ∙ ap (factors_words h.2.1.0) h.2.2.1.1))), h.2.2.2)
terms_back sort.Minus = λ at under ws h.
    (h.2.2.0, (minus at (term h.1.0 h.2.1.0) h.2.2.1.0, ap (λ l. word sort.Minus at ∷ l) (h.1.1 ∙ ap (factor_words h.1.0) (h.2.1.1 ∙ ap (factors_words h.2.1.0) h.2.2.1.1))), h.2.2.2)
terms_back _ = tt

number_back : (s : Sort) → RowBack after_minus s (row after_minus s)
number_back (sort.Number n) = λ at under ws h. (ws, (digits n at, refl), h)
number_back _ = tt

count_back : (s : Sort) → RowBack a_count s (row a_count s)
count_back (sort.Number n) = λ at under ws h. (ws, (digits n at, refl), h)
count_back _ = tt

closing_back : (s : Sort) → RowBack closing s (row closing s)
closing_back sort.RightParen = λ at under ws h. (ws, (at, refl), h)
closing_back _ = tt

abbrev FromOperand : Sort → Option (List Part) → Type 0
FromOperand s o = RowBack operand s o → RowBack expression s (before_rest (more_factors ∷ more_terms ∷ []) o)

from_operand : (s : Sort) (o : Option (List Part)) → FromOperand s o
from_operand s None b = tt
from_operand s (Some left) b = λ at under ws h.
    let r = b at (more_factors ∷ more_terms ∷ under) ws (subst (λ l. Spells l ws) (append_assoc left (more_factors ∷ more_terms ∷ []) under) h) in
    (r.2.2.0, (sum (term r.1.0 r.2.1.0) r.2.2.1.0, r.1.1 ∙ ap (factor_words r.1.0) (r.2.1.1 ∙ ap (factors_words r.2.1.0) r.2.2.1.1)), r.2.2.2)

expression_back : (s : Sort) → RowBack expression s (expression_row s)
expression_back s = from_operand s (operand_row s) (operand_back s)

-- ---- operations and right sides

-- an expression is a right side
abbrev FromExpression : Sort → Option (List Part) → Type 0
FromExpression s o = RowBack expression s o → RowBack a_right s o

from_expression : (s : Sort) (o : Option (List Part)) → FromExpression s o
from_expression s None b = tt
from_expression s (Some left) b = λ at under ws h. let r = b at under ws h in (r.0, (plain_right r.1.0, r.1.1), r.2)

call_back : (k : Kind) → RowBack a_right (sort.Do k) (Some call_parts)
call_back k = λ at under ws h.
    let l = h.1.0 in
    let n = h.2.1.0 in
    let xs = h.2.2.1.0 in
    let r = h.2.2.2.1.0 in (
      h.2.2.2.0,
      (result_right (a_call k at (operands l n (record { atoms = xs; few = h.2.2.1.1 }) r)), ap (λ v. word (sort.Do k) at ∷ v) (h.1.1 ∙ ap (λ v. word sort.LeftParen l ∷ v) (h.2.1.1 ∙ ap (name_words n) (h.2.2.1.2 ∙ ap (atoms_words xs) h.2.2.2.1.1)))),
      h.2.2.2.2,
    )

right_back : (s : Sort) → RowBack a_right s (row a_right s)
right_back (sort.Do k) = call_back k
right_back s = from_expression s (expression_row s) (expression_back s)

arguments_back : (n : ℕ) (s : Sort) → RowBack (more_arguments n) s (row (more_arguments n) s)
arguments_back (suc n) sort.Comma = λ at under ws h. (h.2.0, (more_atom at h.1.0 h.2.1.0, omega (arith, h.2.1.1), ap (λ l. word sort.Comma at ∷ l) (h.1.1 ∙ ap (atom_words h.1.0) h.2.1.2)), h.2.2)
arguments_back _ _ = tt

compare_back : (s : Sort) → RowBack a_compare s (row a_compare s)
compare_back (sort.Compare c) = λ at under ws h. (ws, ((c, at), refl), h)
compare_back _ = tt

-- ---- single words

name_back : (s : Sort) → RowBack a_name s (row a_name s)
name_back (sort.Name n) = λ at under ws h. (ws, (named n at, refl), h)
name_back _ = tt

mark_back : (t s : Sort) → RowBack (mark t) s (row (mark t) s)
mark_back sort.Semicolon sort.Semicolon = λ at under ws h. (ws, (at, refl), h)
mark_back sort.Assign sort.Assign = λ at under ws h. (ws, (at, refl), h)
mark_back sort.LeftParen sort.LeftParen = λ at under ws h. (ws, (at, refl), h)
mark_back sort.RightParen sort.RightParen = λ at under ws h. (ws, (at, refl), h)
mark_back sort.RightBrace sort.RightBrace = λ at under ws h. (ws, (at, refl), h)
mark_back sort.As sort.As = λ at under ws h. (ws, (at, refl), h)
mark_back _ _ = tt

-- ---- statements and blocks

values_back : (n : ℕ) (s : Sort) → RowBack (more_values n) s (row (more_values n) s)
values_back (suc n) sort.Comma = λ at under ws h. (h.2.0, (more_value at h.1.0 h.2.1.0, omega (arith, h.2.1.1), ap (λ l. word sort.Comma at ∷ l) (h.1.1 ∙ ap (expr_words h.1.0) h.2.1.2)), h.2.2)
values_back _ _ = tt

block_back : (s : Sort) → RowBack a_block s (row a_block s)
block_back sort.LeftBrace = λ at under ws h. (h.2.0, (block at h.1.0 h.2.1.0, ap (λ l. word sort.LeftBrace at ∷ l) (h.1.1 ∙ ap (stmts_words h.1.0) h.2.1.1)), h.2.2)
block_back _ = tt

else_back : (s : Sort) → RowBack or_else s (row or_else s)
else_back sort.Else = λ at under ws h. (h.0, (an_else at h.1.0, ap (λ l. word sort.Else at ∷ l) h.1.1), h.2)
else_back _ = tt

call_stmt_back : (k : Kind) → RowBack statements (sort.Do k) (Some (call_parts ++ mark sort.Semicolon ∷ statements ∷ []))
call_stmt_back k = λ at under ws h.
    let l = h.1.0 in
    let n = h.2.1.0 in
    let xs = h.2.2.1.0 in
    let r = h.2.2.2.1.0 in
    let e = h.2.2.2.2.1.0 in
    let ss = h.2.2.2.2.2.1.0 in (
      h.2.2.2.2.2.0,
      (more_stmts (call_stmt (a_call k at (operands l n (record { atoms = xs; few = h.2.2.1.1 }) r)) e) ss, ap (λ v. word (sort.Do k) at ∷ v) (h.1.1 ∙ ap (λ v. word sort.LeftParen l ∷ v) (h.2.1.1 ∙ ap (name_words n) (h.2.2.1.2 ∙ ap (atoms_words xs) (h.2.2.2.1.1 ∙ ap (λ v. word sort.RightParen r ∷ v) (h.2.2.2.2.1.1 ∙ ap (λ v. word sort.Semicolon e ∷ v) h.2.2.2.2.2.1.1)))))),
      h.2.2.2.2.2.2,
    )

statements_back : (s : Sort) → RowBack statements s (row statements s)
statements_back sort.Let = λ at under ws h.
    let n = h.1.0 in
    let q = h.2.1.0 in
    let r = h.2.2.1.0 in
    let e = h.2.2.2.1.0 in
    let ss = h.2.2.2.2.1.0 in (
      h.2.2.2.2.0,
      (more_stmts (let_stmt at n q r e) ss, ap (λ l. word sort.Let at ∷ l) (h.1.1 ∙ ap (name_words n) (h.2.1.1 ∙ ap (λ l. word sort.Assign q ∷ l) (h.2.2.1.1 ∙ ap (right_words r) (h.2.2.2.1.1 ∙ ap (λ l. word sort.Semicolon e ∷ l) h.2.2.2.2.1.1))))),
      h.2.2.2.2.2,
    )
statements_back (sort.Name x) = λ at under ws h.
    let q = h.1.0 in
    let r = h.2.1.0 in
    let e = h.2.2.1.0 in
    let ss = h.2.2.2.1.0 in (
      h.2.2.2.0,
      (more_stmts (assign_stmt (named x at) q r e) ss, ap (λ l. word (sort.Name x) at ∷ l) (h.1.1 ∙ ap (λ l. word sort.Assign q ∷ l) (h.2.1.1 ∙ ap (right_words r) (h.2.2.1.1 ∙ ap (λ l. word sort.Semicolon e ∷ l) h.2.2.2.1.1)))),
      h.2.2.2.2,
    )
statements_back sort.If = λ at under ws h.
    let a = h.1.0 in
    let c = h.2.1.0 in
    let b = h.2.2.1.0 in
    let body = h.2.2.2.1.0 in
    let e = h.2.2.2.2.1.0 in
    let ss = h.2.2.2.2.2.1.0 in (
      h.2.2.2.2.2.0,
      (more_stmts (if_stmt at (a_cond a c.0 c.1 b) body e) ss, ap (λ l. word sort.If at ∷ l) (h.1.1 ∙ ap (expr_words a) (h.2.1.1 ∙ ap (compare_words c) (h.2.2.1.1 ∙ ap (expr_words b) (h.2.2.2.1.1 ∙ ap (block_words body) (h.2.2.2.2.1.1 ∙ ap (else_words e) h.2.2.2.2.2.1.1)))))),
      h.2.2.2.2.2.2,
    )
statements_back sort.Repeat = λ at under ws h.
    let d = h.1.0 in
    let a = h.2.1.0 in
    let n = h.2.2.1.0 in
    let body = h.2.2.2.1.0 in
    let ss = h.2.2.2.2.1.0 in (
      h.2.2.2.2.0,
      (more_stmts (repeat_stmt at (a_turns d a n) body) ss, ap (λ l. word sort.Repeat at ∷ l) (h.1.1 ∙ ap (number_words d) (h.2.1.1 ∙ ap (λ l. word sort.As a ∷ l) (h.2.2.1.1 ∙ ap (name_words n) (h.2.2.2.1.1 ∙ ap (block_words body) h.2.2.2.2.1.1))))),
      h.2.2.2.2.2,
    )
statements_back sort.Reply = λ at under ws h.
    let s = h.1.0 in
    let vs = h.2.1.0 in
    let q = h.2.2.1.0 in
    let ss = h.2.2.2.1.0 in (
      h.2.2.2.0,
      (more_stmts (reply_stmt at (record { first = s; more = vs; few = h.2.1.1 }) q) ss, ap (λ l. word sort.Reply at ∷ l) (h.1.1 ∙ ap (expr_words s) (h.2.1.2 ∙ ap (more_words vs) (h.2.2.1.1 ∙ ap (λ l. word sort.Semicolon q ∷ l) h.2.2.2.1.1)))),
      h.2.2.2.2,
    )
statements_back (sort.Do k) = call_stmt_back k
statements_back _ = tt

-- ---- handlers and tables

first_param_back : (s : Sort) → RowBack first_param s (row first_param s)
first_param_back (sort.Name n) = λ at under ws h. (h.0, (some_params (record { first = named n at; more = h.1.0 }), ap (λ l. word (sort.Name n) at ∷ l) h.1.1), h.2)
first_param_back _ = tt

more_params_back : (s : Sort) → RowBack more_params s (row more_params s)
more_params_back sort.Comma = λ at under ws h. (h.2.0, (more_param at h.1.0 h.2.1.0, ap (λ l. word sort.Comma at ∷ l) (h.1.1 ∙ ap (name_words h.1.0) h.2.1.1)), h.2.2)
more_params_back _ = tt

handlers_back : (s : Sort) → RowBack handlers s (row handlers s)
handlers_back sort.Handler = λ at under ws h.
    let n = h.1.0 in
    let l = h.2.1.0 in
    let ps = h.2.2.1.0 in
    let r = h.2.2.2.1.0 in
    let b = h.2.2.2.2.1.0 in
    let hs = h.2.2.2.2.2.1.0 in (
      h.2.2.2.2.2.0,
      (more_handlers (a_handler at n l ps r b) hs, ap (λ v. word sort.Handler at ∷ v) (h.1.1 ∙ ap (name_words n) (h.2.1.1 ∙ ap (λ v. word sort.LeftParen l ∷ v) (h.2.2.1.1 ∙ ap (params_words ps) (h.2.2.2.1.1 ∙ ap (λ v. word sort.RightParen r ∷ v) (h.2.2.2.2.1.1 ∙ ap (block_words b) h.2.2.2.2.2.1.1)))))),
      h.2.2.2.2.2.2,
    )
handlers_back _ = tt

table_back : (k : TableKind) → RowBack tables (sort.Table k) (Some (a_name ∷ mark sort.Semicolon ∷ tables ∷ []))
table_back k = λ at under ws h.
    let n = h.1.0 in
    let e = h.2.1.0 in
    let ts = h.2.2.1.0 in
    (h.2.2.0, (more_tables (a_table k at n e) ts, ap (λ v. word (sort.Table k) at ∷ v) (h.1.1 ∙ ap (name_words n) (h.2.1.1 ∙ ap (λ v. word sort.Semicolon e ∷ v) h.2.2.1.1))), h.2.2.2)

tables_back : (s : Sort) → RowBack tables s (row tables s)
tables_back (sort.Table k) = table_back k
tables_back _ = tt

pub row_back : (p : Part) (s : Sort) → RowBack p s (row p s)
row_back tables s = tables_back s
row_back handlers s = handlers_back s
row_back first_param s = first_param_back s
row_back more_params s = more_params_back s
row_back a_block s = block_back s
row_back statements s = statements_back s
row_back or_else s = else_back s
row_back a_right s = right_back s
row_back (more_arguments n) s = arguments_back n s
row_back a_compare s = compare_back s
row_back a_count s = count_back s
row_back (more_values n) s = values_back n s
row_back expression s = expression_back s
row_back operand s = operand_back s
row_back more_factors s = factors_back s
row_back more_terms s = terms_back s
row_back closing s = closing_back s
row_back an_atom s = atom_back s
row_back after_minus s = number_back s
row_back a_name s = name_back s
row_back (mark t) s = mark_back t s
