-- What each fixed part of the canonical text reads as.
use Rattle.std.proofs.Common.{◌≡◌, ℕ, List, [], ◌∷◌, ◌++◌, refl, ap, ◌∙◌}
use Rattle.std.specs.Prelude.{codes}
use Rattle.session_values.specs.declared.kind.Kind.{Kind}
use Rattle.session_values.specs.declared.kind.Kind.TheVariants as operation
use Rattle.session_values.specs.declared.kind.TableKind.{TableKind}
use Rattle.session_values.specs.declared.kind.TableKind.TheVariants as table_kind
use Rattle.session_values.specs.Kinds.{word_of}
use Rattle.syntax_grammar.specs.declared.token_kind.TokenKind.TheVariants as kind
use Rattle.syntax_grammar.specs.declared.word.Sort.{Sort}
use Rattle.syntax_grammar.specs.declared.word.Sort.TheVariants as sort
use Rattle.syntax_grammar.specs.Scan.{scan, scan_name, scan_sign}
use Rattle.syntax_grammar.specs.Keyword.{keyword_of, statement_word_of, operation_of, sign_of}
use Rattle.syntax_trees.specs.declared.expr.Calc.{Calc}
use Rattle.syntax_trees.specs.declared.expr.Calc.TheVariants as calc
use Rattle.syntax_trees.specs.declared.stmt.Compare.{Compare}
use Rattle.syntax_trees.specs.declared.stmt.Compare.TheVariants as compare
use Rattle.syntax_printer.specs.Canonical.{operator_text, compare_text, table_word}
use Rattle.syntax_printer.specs.CanonicalWords.{calc_sort}
use Rattle.syntax_printer.proofs.Lexing.{Reading, reading, behind, blank, line_feed, token}

-- with one word before
abbrev pub one : Sort → Reading → Reading
one s = behind (λ ss. s ∷ ss)

module _ (names : List (List ℕ)) where
  abbrev read : List ℕ → Reading
  read text = reading names text

  -- ---- signs

  pub left_paren : (rest : List ℕ) → read (codes "(" ++ rest) ≡ one sort.LeftParen (read rest)
  unfolding scan scan_sign sign_of
  left_paren rest = token names 40 [] rest kind.Sign sort.LeftParen refl refl refl refl

  pub right_paren : (rest : List ℕ) → read (codes ")" ++ rest) ≡ one sort.RightParen (read rest)
  unfolding scan scan_sign sign_of
  right_paren rest = token names 41 [] rest kind.Sign sort.RightParen refl refl refl refl

  pub left_brace : (rest : List ℕ) → read (codes "{" ++ rest) ≡ one sort.LeftBrace (read rest)
  unfolding scan scan_sign sign_of
  left_brace rest = token names 123 [] rest kind.Sign sort.LeftBrace refl refl refl refl

  pub right_brace : (rest : List ℕ) → read (codes "}" ++ rest) ≡ one sort.RightBrace (read rest)
  unfolding scan scan_sign sign_of
  right_brace rest = token names 125 [] rest kind.Sign sort.RightBrace refl refl refl refl

  pub comma : (rest : List ℕ) → read (codes "," ++ rest) ≡ one sort.Comma (read rest)
  unfolding scan scan_sign sign_of
  comma rest = token names 44 [] rest kind.Sign sort.Comma refl refl refl refl

  pub semicolon : (rest : List ℕ) → read (codes ";" ++ rest) ≡ one sort.Semicolon (read rest)
  unfolding scan scan_sign sign_of
  semicolon rest = token names 59 [] rest kind.Sign sort.Semicolon refl refl refl refl

  pub assign : (rest : List ℕ) → read (codes " = " ++ rest) ≡ one sort.Assign (read rest)
  unfolding scan scan_sign sign_of
  assign rest = blank names (codes "= " ++ rest) ∙ token names 61 ([]) (32 ∷ rest) kind.Sign sort.Assign refl refl refl refl ∙ ap (one sort.Assign) (blank names rest)

  pub same : (rest : List ℕ) → read (codes " == " ++ rest) ≡ one (sort.Compare compare.Same) (read rest)
  unfolding scan scan_sign sign_of
  same rest = blank names (codes "== " ++ rest) ∙ token names 61 (61 ∷ []) (32 ∷ rest) kind.Sign (sort.Compare compare.Same) refl refl refl refl ∙ ap (one (sort.Compare compare.Same)) (blank names rest)

  pub differ : (rest : List ℕ) → read (codes " != " ++ rest) ≡ one (sort.Compare compare.Differ) (read rest)
  unfolding scan scan_sign sign_of
  differ rest = blank names (codes "!= " ++ rest) ∙ token names 33 (61 ∷ []) (32 ∷ rest) kind.Sign (sort.Compare compare.Differ) refl refl refl refl ∙ ap (one (sort.Compare compare.Differ)) (blank names rest)

  pub less : (rest : List ℕ) → read (codes " < " ++ rest) ≡ one (sort.Compare compare.Less) (read rest)
  unfolding scan scan_sign sign_of
  less rest = blank names (codes "< " ++ rest) ∙ token names 60 ([]) (32 ∷ rest) kind.Sign (sort.Compare compare.Less) refl refl refl refl ∙ ap (one (sort.Compare compare.Less)) (blank names rest)

  pub less_or_same : (rest : List ℕ) → read (codes " <= " ++ rest) ≡ one (sort.Compare compare.LessOrSame) (read rest)
  unfolding scan scan_sign sign_of
  less_or_same rest = blank names (codes "<= " ++ rest) ∙ token names 60 (61 ∷ []) (32 ∷ rest) kind.Sign (sort.Compare compare.LessOrSame) refl refl refl refl ∙ ap (one (sort.Compare compare.LessOrSame)) (blank names rest)

  pub plus : (rest : List ℕ) → read (codes " + " ++ rest) ≡ one sort.Plus (read rest)
  unfolding scan scan_sign sign_of
  plus rest = blank names (codes "+ " ++ rest) ∙ token names 43 ([]) (32 ∷ rest) kind.Sign sort.Plus refl refl refl refl ∙ ap (one sort.Plus) (blank names rest)

  pub minus : (rest : List ℕ) → read (codes " - " ++ rest) ≡ one sort.Minus (read rest)
  unfolding scan scan_sign sign_of
  minus rest = blank names (codes "- " ++ rest) ∙ token names 45 ([]) (32 ∷ rest) kind.Sign sort.Minus refl refl refl refl ∙ ap (one sort.Minus) (blank names rest)

  pub times : (rest : List ℕ) → read (codes " * " ++ rest) ≡ one sort.Times (read rest)
  unfolding scan scan_sign sign_of
  times rest = blank names (codes "* " ++ rest) ∙ token names 42 ([]) (32 ∷ rest) kind.Sign sort.Times refl refl refl refl ∙ ap (one sort.Times) (blank names rest)

  -- a `-` before digits
  pub negative : (rest : List ℕ) → read (45 ∷ rest) ≡ one sort.Minus (read rest)
  unfolding scan scan_sign sign_of
  negative rest = token names 45 [] rest kind.Sign sort.Minus refl refl refl refl

  pub operator : (c : Calc) (rest : List ℕ) → read (operator_text c ++ rest) ≡ one (calc_sort c) (read rest)
  operator calc.Plus rest = plus rest
  operator calc.Minus rest = minus rest
  operator calc.Times rest = times rest

  pub comparison : (c : Compare) (rest : List ℕ) → read (compare_text c ++ rest) ≡ one (sort.Compare c) (read rest)
  comparison compare.Same rest = same rest
  comparison compare.Differ rest = differ rest
  comparison compare.Less rest = less rest
  comparison compare.LessOrSame rest = less_or_same rest

  -- ---- words

  pub let_word : (rest : List ℕ) → read (codes "let " ++ rest) ≡ one sort.Let (read rest)
  unfolding scan scan_name keyword_of statement_word_of
  let_word rest = token names 108 (101 ∷ 116 ∷ []) (32 ∷ rest) kind.Name sort.Let refl refl refl refl ∙ ap (one sort.Let) (blank names rest)

  pub if_word : (rest : List ℕ) → read (codes "if " ++ rest) ≡ one sort.If (read rest)
  unfolding scan scan_name keyword_of statement_word_of
  if_word rest = token names 105 (102 ∷ []) (32 ∷ rest) kind.Name sort.If refl refl refl refl ∙ ap (one sort.If) (blank names rest)

  pub repeat_word : (rest : List ℕ) → read (codes "repeat " ++ rest) ≡ one sort.Repeat (read rest)
  unfolding scan scan_name keyword_of statement_word_of
  repeat_word rest = token names 114 (101 ∷ 112 ∷ 101 ∷ 97 ∷ 116 ∷ []) (32 ∷ rest) kind.Name sort.Repeat refl refl refl refl ∙ ap (one sort.Repeat) (blank names rest)

  pub reply_word : (rest : List ℕ) → read (codes "reply " ++ rest) ≡ one sort.Reply (read rest)
  unfolding scan scan_name keyword_of statement_word_of
  reply_word rest = token names 114 (101 ∷ 112 ∷ 108 ∷ 121 ∷ []) (32 ∷ rest) kind.Name sort.Reply refl refl refl refl ∙ ap (one sort.Reply) (blank names rest)

  pub handler_word : (rest : List ℕ) → read (codes "handler " ++ rest) ≡ one sort.Handler (read rest)
  unfolding scan scan_name keyword_of statement_word_of
  handler_word rest = token names 104 (97 ∷ 110 ∷ 100 ∷ 108 ∷ 101 ∷ 114 ∷ []) (32 ∷ rest) kind.Name sort.Handler refl refl refl refl ∙ ap (one sort.Handler) (blank names rest)

  pub map_word : (rest : List ℕ) → read (codes "map " ++ rest) ≡ one (sort.Table table_kind.Map) (read rest)
  unfolding scan scan_name keyword_of statement_word_of
  map_word rest = token names 109 (97 ∷ 112 ∷ []) (32 ∷ rest) kind.Name (sort.Table table_kind.Map) refl refl refl refl ∙ ap (one (sort.Table table_kind.Map)) (blank names rest)

  pub set_word : (rest : List ℕ) → read (codes "set " ++ rest) ≡ one (sort.Table table_kind.Set) (read rest)
  unfolding scan scan_name keyword_of statement_word_of
  set_word rest = token names 115 (101 ∷ 116 ∷ []) (32 ∷ rest) kind.Name (sort.Table table_kind.Set) refl refl refl refl ∙ ap (one (sort.Table table_kind.Set)) (blank names rest)

  pub else_word : (rest : List ℕ) → read (codes "else " ++ rest) ≡ one sort.Else (read rest)
  unfolding scan scan_name keyword_of statement_word_of
  else_word rest = token names 101 (108 ∷ 115 ∷ 101 ∷ []) (32 ∷ rest) kind.Name sort.Else refl refl refl refl ∙ ap (one sort.Else) (blank names rest)

  pub as_word : (rest : List ℕ) → read (codes "as " ++ rest) ≡ one sort.As (read rest)
  unfolding scan scan_name keyword_of statement_word_of
  as_word rest = token names 97 (115 ∷ []) (32 ∷ rest) kind.Name sort.As refl refl refl refl ∙ ap (one sort.As) (blank names rest)

  pub table : (k : TableKind) (rest : List ℕ) → read (table_word k ++ rest) ≡ one (sort.Table k) (read rest)
  table table_kind.Map rest = map_word rest
  table table_kind.Set rest = set_word rest

  -- an operation's word stands before a parenthesis
  pub operation_word : (k : Kind) (rest : List ℕ) → read (word_of k ++ (codes "(" ++ rest)) ≡ one (sort.Do k) (one sort.LeftParen (read rest))
  unfolding scan scan_name keyword_of statement_word_of operation_of
  operation_word operation.Get rest = token names 103 (101 ∷ 116 ∷ []) (40 ∷ rest) kind.Name (sort.Do operation.Get) refl refl refl refl ∙ ap (one (sort.Do operation.Get)) (left_paren rest)
  operation_word operation.Put rest = token names 112 (117 ∷ 116 ∷ []) (40 ∷ rest) kind.Name (sort.Do operation.Put) refl refl refl refl ∙ ap (one (sort.Do operation.Put)) (left_paren rest)
  operation_word operation.Swap rest = token names 115 (119 ∷ 97 ∷ 112 ∷ []) (40 ∷ rest) kind.Name (sort.Do operation.Swap) refl refl refl refl ∙ ap (one (sort.Do operation.Swap)) (left_paren rest)
  operation_word operation.Del rest = token names 100 (101 ∷ 108 ∷ []) (40 ∷ rest) kind.Name (sort.Do operation.Del) refl refl refl refl ∙ ap (one (sort.Do operation.Del)) (left_paren rest)
  operation_word operation.Size rest = token names 115 (105 ∷ 122 ∷ 101 ∷ []) (40 ∷ rest) kind.Name (sort.Do operation.Size) refl refl refl refl ∙ ap (one (sort.Do operation.Size)) (left_paren rest)
  operation_word operation.Bump rest = token names 98 (117 ∷ 109 ∷ 112 ∷ []) (40 ∷ rest) kind.Name (sort.Do operation.Bump) refl refl refl refl ∙ ap (one (sort.Do operation.Bump)) (left_paren rest)
  operation_word operation.Has rest = token names 104 (97 ∷ 115 ∷ []) (40 ∷ rest) kind.Name (sort.Do operation.Has) refl refl refl refl ∙ ap (one (sort.Do operation.Has)) (left_paren rest)
  operation_word operation.Add rest = token names 97 (100 ∷ 100 ∷ []) (40 ∷ rest) kind.Name (sort.Do operation.Add) refl refl refl refl ∙ ap (one (sort.Do operation.Add)) (left_paren rest)
  operation_word operation.Mark rest = token names 109 (97 ∷ 114 ∷ 107 ∷ []) (40 ∷ rest) kind.Name (sort.Do operation.Mark) refl refl refl refl ∙ ap (one (sort.Do operation.Mark)) (left_paren rest)
  operation_word operation.Drop rest = token names 100 (114 ∷ 111 ∷ 112 ∷ []) (40 ∷ rest) kind.Name (sort.Do operation.Drop) refl refl refl refl ∙ ap (one (sort.Do operation.Drop)) (left_paren rest)
  operation_word operation.Count rest = token names 99 (111 ∷ 117 ∷ 110 ∷ 116 ∷ []) (40 ∷ rest) kind.Name (sort.Do operation.Count) refl refl refl refl ∙ ap (one (sort.Do operation.Count)) (left_paren rest)

  -- ---- ends of lines

  pub semicolon_line : (rest : List ℕ) → read (codes ";\n" ++ rest) ≡ one sort.Semicolon (read rest)
  semicolon_line rest = semicolon (10 ∷ rest) ∙ ap (one sort.Semicolon) (line_feed names rest)

  pub left_brace_line : (rest : List ℕ) → read (codes " {\n" ++ rest) ≡ one sort.LeftBrace (read rest)
  left_brace_line rest = blank names (codes "{\n" ++ rest) ∙ left_brace (10 ∷ rest) ∙ ap (one sort.LeftBrace) (line_feed names rest)

  pub right_brace_line : (rest : List ℕ) → read (codes "}\n" ++ rest) ≡ one sort.RightBrace (read rest)
  right_brace_line rest = right_brace (10 ∷ rest) ∙ ap (one sort.RightBrace) (line_feed names rest)

  pub else_line : (rest : List ℕ) → read (codes "} else {\n" ++ rest) ≡ one sort.RightBrace (one sort.Else (one sort.LeftBrace (read rest)))
  else_line rest =
      right_brace (codes " else {\n" ++ rest)
      ∙ ap (one sort.RightBrace) (blank names (codes "else {\n" ++ rest) ∙ else_word (codes "{\n" ++ rest) ∙ ap (one sort.Else) (left_brace (10 ∷ rest) ∙ ap (one sort.LeftBrace) (line_feed names rest)))

  pub params_end : (rest : List ℕ) → read (codes ") {\n" ++ rest) ≡ one sort.RightParen (one sort.LeftBrace (read rest))
  params_end rest = right_paren (codes " {\n" ++ rest) ∙ ap (one sort.RightParen) (left_brace_line rest)

  pub comma_space : (rest : List ℕ) → read (codes ", " ++ rest) ≡ one sort.Comma (read rest)
  comma_space rest = comma (32 ∷ rest) ∙ ap (one sort.Comma) (blank names rest)

  pub as_between : (rest : List ℕ) → read (codes " as " ++ rest) ≡ one sort.As (read rest)
  as_between rest = blank names (codes "as " ++ rest) ∙ as_word rest
