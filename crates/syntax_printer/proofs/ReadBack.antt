-- The canonical text reads as the canonical words.
use Rattle.std.proofs.Common.{◌≡◌, ℕ, zero, suc, ◌+◌, pos, negsuc, List, [], ◌∷◌, ◌++◌, map, refl, sym, ap, ◌∙◌, subst, arith}
use Rattle.std.specs.Prelude.{codes}
use Rattle.std.specs.Fmt.{decimal}
use Rattle.std.specs.List.{AllByRecursion, flat_map}
use Rattle.session_values.specs.declared.value.Value.{Value}
use Rattle.session_values.specs.declared.value.Value.TheVariants as value
use Rattle.session_values.specs.Names.{AreDistinct}
use Rattle.syntax_grammar.specs.declared.word.Sort.{Sort}
use Rattle.syntax_grammar.specs.declared.word.Sort.TheVariants as sort
use Rattle.syntax_grammar.specs.Words.{words_of, names_of}
use Rattle.syntax_trees.specs.declared.expr.Atom.{Atom}
use Rattle.syntax_trees.specs.declared.expr.Atom.TheVariants as atom
use Rattle.syntax_trees.specs.declared.expr.Calc.{Calc}
use Rattle.syntax_trees.specs.declared.expr.Calc.TheVariants as calc
use Rattle.syntax_trees.specs.declared.expr.Expr.{Expr}
use Rattle.syntax_trees.specs.declared.expr.Expr.TheVariants as expr
use Rattle.syntax_trees.specs.declared.stmt.Call.{Call}
use Rattle.syntax_trees.specs.declared.stmt.Compare.{Compare}
use Rattle.syntax_trees.specs.declared.stmt.Compare.TheVariants as compare
use Rattle.syntax_trees.specs.declared.stmt.Cond.{Cond}
use Rattle.syntax_trees.specs.declared.stmt.Right.{Right}
use Rattle.syntax_trees.specs.declared.stmt.Right.TheVariants as right
use Rattle.syntax_trees.specs.declared.stmt.Stmt.{Stmt}
use Rattle.syntax_trees.specs.declared.stmt.Stmt.TheVariants as stmt
use Rattle.syntax_trees.specs.declared.file.TableDecl.{TableDecl}
use Rattle.syntax_trees.specs.declared.file.Param.{Param}
use Rattle.syntax_trees.specs.declared.file.Handler.{Handler}
use Rattle.syntax_trees.specs.declared.file.File.{File}
use Rattle.syntax_printer.specs.declared.expr.Level.{Level}
use Rattle.syntax_printer.specs.declared.expr.Level.TheVariants as level
use Rattle.syntax_printer.specs.Canonical
use Rattle.syntax_printer.specs.CanonicalWords
use Rattle.syntax_trees.specs.Alone.{alone}
use Rattle.syntax_trees.specs.Mentions.{Mention, value_mentions, atom_mentions, expr_mentions, call_mentions, right_mentions, cond_mentions, stmt_mentions, table_mentions, param_mentions, handler_mentions, file_mentions}
use Rattle.syntax_grammar.specs.Texts.{AreReadable, IsNameText, text_at}
use Rattle.syntax_printer.specs.Readable.{ReadsBack}
use Rattle.syntax_printer.specs.Writing.{Text}
use Rattle.syntax_printer.proofs.Chunks.{one, left_paren, right_paren, assign, negative, operator, comparison, let_word, if_word, repeat_word, reply_word, handler_word, table, operation_word, semicolon_line, left_brace_line, right_brace_line, else_line, params_end, comma_space, as_between}
use Rattle.syntax_printer.proofs.Inductions as trees
use Rattle.syntax_trees.proofs.Inductions.{expr_induction}
use Rattle.syntax_printer.proofs.Lexing.{Reading, reading, behind, blank, nothing}
use Rattle.syntax_trees.proofs.Mentions as parts
use Rattle.syntax_trees.proofs.Mentions.{all_first}
use Rattle.syntax_printer.proofs.Tokens.{Ends, name, nil, symbol, number}

module _ (names : List (List ℕ)) (distinct : AreDistinct names) where
  abbrev read : List ℕ → Reading
  read text = reading names text

  abbrev Readable : List Mention → Type 0
  Readable ms = AreReadable names ms

  abbrev NameAt : ℕ → Type 0
  NameAt place = IsNameText (text_at names place)

  -- read before what ends a token, the text gives these words
  abbrev Reads : Text → (List Sort → List Sort) → Type 0
  Reads t w = (rest : List ℕ) → Ends rest → read (t rest) ≡ behind w (read rest)

  -- read before anything, the text gives these words
  abbrev Closed : Text → (List Sort → List Sort) → Type 0
  Closed t w = (rest : List ℕ) → read (t rest) ≡ behind w (read rest)

  both : (ms ns : List Mention) → Readable (ms ++ ns) → Readable ms × Readable ns
  both ms ns h = all_first _ ms ns h

  -- ---- lists

  all_of : {X : Type 0} (f : X → List Mention) (Q : X → Type 0) → ((x : X) → Readable (f x) → Q x) → (xs : List X) → Readable (flat_map f xs) → AllByRecursion Q xs
  all_of f Q each [] h = tt
  all_of f Q each (x ∷ xs) h = let k = both (f x) (flat_map f xs) h in (each x k.0, all_of f Q each xs k.1)

  module _ {X : Type 0} (t : X → Text) (w : X → List Sort → List Sort) where
    further_ends : (xs : List X) (rest : List ℕ) → Ends rest → Ends (Canonical.further (map t xs) rest)
    further_ends [] rest ends = ends
    further_ends (x ∷ xs) rest ends = refl

    further_reads : (xs : List X) → AllByRecursion (λ x. Reads (t x) (w x)) xs → Reads (Canonical.further (map t xs)) (CanonicalWords.further_sorts (map w xs))
    further_reads [] h rest ends = refl
    further_reads (x ∷ xs) h rest ends =
        let more = Canonical.further (map t xs) rest in
        comma_space names (t x more) ∙ ap (one sort.Comma) (h.0 more (further_ends xs rest ends) ∙ ap (behind (w x)) (further_reads xs h.1 rest ends))

    listed_reads : (xs : List X) → AllByRecursion (λ x. Reads (t x) (w x)) xs → Reads (Canonical.listed (map t xs)) (CanonicalWords.listed_sorts (map w xs))
    listed_reads [] h rest ends = refl
    listed_reads (x ∷ xs) h rest ends = h.0 (Canonical.further (map t xs) rest) (further_ends xs rest ends) ∙ ap (behind (w x)) (further_reads xs h.1 rest ends)

    each_reads : (xs : List X) → AllByRecursion (λ x. Closed (t x) (w x)) xs → Closed (Canonical.each (map t xs)) (CanonicalWords.each_sorts (map w xs))
    each_reads [] h rest = refl
    each_reads (x ∷ xs) h rest = h.0 (Canonical.each (map t xs) rest) ∙ ap (behind (w x)) (each_reads xs h.1 rest)

  indent_reads : (depth : ℕ) (rest : List ℕ) → read (Canonical.indent depth rest) ≡ read rest
  indent_reads zero rest = refl
  indent_reads (suc depth) rest = blank names (32 ∷ Canonical.indent depth rest) ∙ blank names (Canonical.indent depth rest) ∙ indent_reads depth rest

  -- ---- literals and calls

  literal_reads : (v : Value) → Readable (value_mentions v) → Reads (Canonical.literal_text names v) (CanonicalWords.literal_sorts v)
  literal_reads value.Nil h rest ends = nil names rest ends
  literal_reads (value.Num (pos n)) h rest ends = let small = h.0 in number names n rest (omega (arith, small)) ends
  literal_reads (value.Num (negsuc n)) h rest ends = let small = h.0 in negative names (decimal (suc n) ++ rest) ∙ ap (one sort.Minus) (number names (suc n) rest (omega (arith, small)) ends)
  literal_reads (value.Sym place) h rest ends = symbol names place rest distinct h.0 ends

  atom_reads : (a : Atom) → Readable (atom_mentions a) → Reads (Canonical.atom_text names a) (CanonicalWords.atom_sorts a)
  atom_reads (atom.Lit v) h rest ends = literal_reads v h rest ends
  atom_reads (atom.Name n p) h rest ends = name names n rest distinct h.0 ends

  call_reads : (call : Call) → Readable (call_mentions call) → Closed (Canonical.call_text names call) (CanonicalWords.call_sorts call)
  call_reads call h rest =
      let texts = Canonical.atom_text names in
      let after = codes ")" ++ rest in
      let args = Canonical.further (map texts call.args) after in
      operation_word names call.kind (Canonical.name_text names call.table args)
      ∙ ap (λ r. one (sort.Do call.kind) (one sort.LeftParen r))
      (name names call.table args distinct h.0 (further_ends texts CanonicalWords.atom_sorts call.args after refl)
      ∙ ap (one (sort.Name call.table))
      (further_reads texts CanonicalWords.atom_sorts call.args (all_of atom_mentions _ atom_reads call.args h.1) after refl ∙ ap (behind (CanonicalWords.further_sorts (map CanonicalWords.atom_sorts call.args))) (right_paren names rest)))

  -- ---- expressions

  opening_reads : (l : Level) (c : Calc) → Closed (λ rest. Canonical.opening l c ++ rest) (CanonicalWords.opening_sorts l c)
  opening_reads level.Whole c rest = refl
  opening_reads level.Term calc.Plus rest = left_paren names rest
  opening_reads level.Term calc.Minus rest = left_paren names rest
  opening_reads level.Term calc.Times rest = refl
  opening_reads level.Factor c rest = left_paren names rest

  closing_reads : (l : Level) (c : Calc) → Closed (λ rest. Canonical.closing l c ++ rest) (CanonicalWords.closing_sorts l c)
  closing_reads level.Whole c rest = refl
  closing_reads level.Term calc.Plus rest = right_paren names rest
  closing_reads level.Term calc.Minus rest = right_paren names rest
  closing_reads level.Term calc.Times rest = refl
  closing_reads level.Factor c rest = right_paren names rest

  closing_ends : (l : Level) (c : Calc) (rest : List ℕ) → Ends rest → Ends (Canonical.closing l c ++ rest)
  closing_ends level.Whole c rest ends = ends
  closing_ends level.Term calc.Plus rest ends = refl
  closing_ends level.Term calc.Minus rest ends = refl
  closing_ends level.Term calc.Times rest ends = ends
  closing_ends level.Factor c rest ends = refl

  operator_ends : (c : Calc) (rest : List ℕ) → Ends (Canonical.operator_text c ++ rest)
  operator_ends calc.Plus rest = refl
  operator_ends calc.Minus rest = refl
  operator_ends calc.Times rest = refl

  comparison_ends : (c : Compare) (rest : List ℕ) → Ends (Canonical.compare_text c ++ rest)
  comparison_ends compare.Same rest = refl
  comparison_ends compare.Differ rest = refl
  comparison_ends compare.Less rest = refl
  comparison_ends compare.LessOrSame rest = refl

  abbrev ExprReads : Expr → Type 0
  ExprReads e = Readable (expr_mentions e) → (l : Level) → Reads (Canonical.expr_text names e l) (CanonicalWords.expr_sorts e l)

  leaf_reads : (a : Atom) → ExprReads (alone a)
  leaf_reads a h l rest ends =
      ap read (trees.text_leaf names a l rest) ∙ atom_reads a (subst Readable (parts.mentions_leaf a) h) rest ends ∙ sym (ap (λ ss. (ss, (read rest).1)) (trees.sorts_leaf a l (read rest).0))

  binary_reads : (c : Calc) (left right : Expr) → ExprReads left → ExprReads right → ExprReads (expr.Binary c (left, right))
  binary_reads c left right reads_left reads_right h l rest ends =
      let k = both (expr_mentions left) (expr_mentions right) (subst Readable (parts.mentions_binary c left right) h) in
      let after = Canonical.closing l c ++ rest in
      let second = Canonical.expr_text names right (Canonical.right_level c) after in
      let first = Canonical.expr_text names left (Canonical.left_level c) (Canonical.operator_text c ++ second) in
      ap read (trees.text_binary names c left right l rest) ∙ opening_reads l c first
      ∙ ap (behind (CanonicalWords.opening_sorts l c))
      (reads_left k.0 (Canonical.left_level c) (Canonical.operator_text c ++ second) (operator_ends c second)
      ∙ ap (behind (CanonicalWords.expr_sorts left (Canonical.left_level c)))
      (operator names c second
      ∙ ap (one (CanonicalWords.calc_sort c))
      (reads_right k.1 (Canonical.right_level c) after (closing_ends l c rest ends)
      ∙ ap (behind (CanonicalWords.expr_sorts right (Canonical.right_level c))) (closing_reads l c rest))))
      ∙ sym (ap (λ ss. (ss, (read rest).1)) (trees.sorts_binary c left right l (read rest).0))

  expr_reads : (e : Expr) → ExprReads e
  expr_reads = expr_induction ExprReads leaf_reads binary_reads

  whole_reads : (e : Expr) → Readable (expr_mentions e) → Reads (Canonical.whole_text names e) (CanonicalWords.whole_sorts e)
  whole_reads e h = expr_reads e h level.Whole

  cond_reads : (cond : Cond) → Readable (cond_mentions cond) → Reads (Canonical.cond_text names cond) (CanonicalWords.cond_sorts cond)
  cond_reads cond h rest ends =
      let k = both (expr_mentions cond.left) (expr_mentions cond.right) h in
      let second = Canonical.whole_text names cond.right rest in
      whole_reads cond.left k.0 (Canonical.compare_text cond.compare ++ second) (comparison_ends cond.compare second)
      ∙ ap (behind (CanonicalWords.whole_sorts cond.left)) (comparison names cond.compare second ∙ ap (one (sort.Compare cond.compare)) (whole_reads cond.right k.1 rest ends))

  right_reads : (r : Right) → Readable (right_mentions r) → Reads (Canonical.right_text names r) (CanonicalWords.right_sorts r)
  right_reads (right.Plain e) h rest ends = whole_reads e h rest ends
  right_reads (right.Result call) h rest ends = call_reads call h rest

  -- ---- statements

  assignment_reads : (n : ℕ) (r : Right) → NameAt n → Readable (right_mentions r) → Closed (Canonical.assignment_text names n r) (CanonicalWords.assignment_sorts n r)
  assignment_reads n r here h rest =
      let after = codes ";\n" ++ rest in
      let value = Canonical.right_text names r after in
      name names n (codes " = " ++ value) distinct here refl
      ∙ ap (one (sort.Name n)) (assign names value ∙ ap (one sort.Assign) (right_reads r h after refl ∙ ap (behind (CanonicalWords.right_sorts r)) (semicolon_line names rest)))

  abbrev StmtReads : Stmt → Type 0
  StmtReads s = Readable (stmt_mentions s) → (depth : ℕ) → Closed (Canonical.stmt_text names s depth) (CanonicalWords.stmt_sorts s)

  abbrev BlockReads : List Stmt → Type 0
  BlockReads ss = (depth : ℕ) → Closed (Canonical.lines_at depth (map (Canonical.stmt_text names) ss)) (CanonicalWords.each_sorts (map CanonicalWords.stmt_sorts ss))

  block_reads : (ss : List Stmt) → AllByRecursion StmtReads ss → Readable (flat_map stmt_mentions ss) → BlockReads ss
  block_reads [] each h depth rest = refl
  block_reads (s ∷ ss) each h depth rest =
      let k = both (stmt_mentions s) (flat_map stmt_mentions ss) h in
      each.0 k.0 depth (Canonical.lines_at depth (map (Canonical.stmt_text names) ss) rest) ∙ ap (behind (CanonicalWords.stmt_sorts s)) (block_reads ss each.1 k.1 depth rest)

  else_reads : (ss : List Stmt) → BlockReads ss → (depth : ℕ) → Closed (Canonical.else_lines depth (map (Canonical.stmt_text names) ss)) (CanonicalWords.else_sorts (map CanonicalWords.stmt_sorts ss))
  else_reads [] block depth rest = refl
  else_reads (s ∷ ss) block depth rest =
      let lines = Canonical.lines_at (depth + 1) (map (Canonical.stmt_text names) (s ∷ ss)) rest in
      indent_reads depth (codes "} else {\n" ++ lines) ∙ else_line names lines ∙ ap (λ r. one sort.RightBrace (one sort.Else (one sort.LeftBrace r))) (block (depth + 1) rest)

  simple_reads : trees.Simple StmtReads
  simple_reads = record {
    let_stmt = λ n p r h depth rest.
        let k = subst Readable (parts.mentions_let n p r) h in
        let text = Canonical.assignment_text names n r rest in
        ap read (trees.text_let names n p r depth rest) ∙ indent_reads depth (codes "let " ++ text) ∙ let_word names text ∙ ap (one sort.Let) (assignment_reads n r k.0 k.1 rest)
        ∙ sym (ap (λ ss. (ss, (read rest).1)) (trees.sorts_let n p r (read rest).0));
    assign_stmt = λ n p r h depth rest.
        let k = subst Readable (parts.mentions_assign n p r) h in
        ap read (trees.text_assign names n p r depth rest) ∙ indent_reads depth (Canonical.assignment_text names n r rest) ∙ assignment_reads n r k.0 k.1 rest
        ∙ sym (ap (λ ss. (ss, (read rest).1)) (trees.sorts_assign n p r (read rest).0));
    call_stmt = λ call h depth rest.
        let k = subst Readable (parts.mentions_perform call) h in
        let after = codes ";\n" ++ rest in
        ap read (trees.text_call names call depth rest) ∙ indent_reads depth (Canonical.call_text names call after) ∙ call_reads call k after ∙ ap (behind (CanonicalWords.call_sorts call)) (semicolon_line names rest)
        ∙ sym (ap (λ ss. (ss, (read rest).1)) (trees.sorts_call call (read rest).0));
    reply_stmt = λ p values h depth rest.
        let k = subst Readable (parts.mentions_answer p values) h in
        let after = codes ";\n" ++ rest in
        let text = Canonical.listed (map (Canonical.whole_text names) values) after in
        ap read (trees.text_reply names p values depth rest) ∙ indent_reads depth (codes "reply " ++ text) ∙ reply_word names text
        ∙ ap (one sort.Reply) (listed_reads (Canonical.whole_text names) CanonicalWords.whole_sorts values (all_of expr_mentions _ whole_reads values k) after refl
        ∙ ap (behind (CanonicalWords.listed_sorts (map CanonicalWords.whole_sorts values))) (semicolon_line names rest))
        ∙ sym (ap (λ ss. (ss, (read rest).1)) (trees.sorts_reply p values (read rest).0));
  }

  choose_reads : (p : ℕ) (cond : Cond) (first second : List Stmt) → AllByRecursion StmtReads first → AllByRecursion StmtReads second → StmtReads (stmt.Choose p cond first second)
  choose_reads p cond first second each_first each_second h depth rest =
      let k = both (cond_mentions cond) _ (subst Readable (parts.mentions_choose p cond first second) h) in
      let m = both (flat_map stmt_mentions first) (flat_map stmt_mentions second) k.1 in
      let last = codes "}\n" ++ rest in
      let close = Canonical.indent depth last in
      let otherwise = Canonical.else_lines depth (map (Canonical.stmt_text names) second) close in
      let lines = Canonical.lines_at (depth + 1) (map (Canonical.stmt_text names) first) otherwise in
      let after = codes " {\n" ++ lines in
      let test = Canonical.cond_text names cond after in
      ap read (trees.text_choose names p cond first second depth rest) ∙ indent_reads depth (codes "if " ++ test) ∙ if_word names test
      ∙ ap (one sort.If)
      (cond_reads cond k.0 after refl
      ∙ ap (behind (CanonicalWords.cond_sorts cond))
      (left_brace_line names lines
      ∙ ap (one sort.LeftBrace)
      (block_reads first each_first m.0 (depth + 1) otherwise
      ∙ ap (behind (CanonicalWords.each_sorts (map CanonicalWords.stmt_sorts first)))
      (else_reads second (block_reads second each_second m.1) depth close
      ∙ ap (behind (CanonicalWords.else_sorts (map CanonicalWords.stmt_sorts second))) (indent_reads depth last ∙ right_brace_line names rest)))))
      ∙ sym (ap (λ ss. (ss, (read rest).1)) (trees.sorts_choose p cond first second (read rest).0))

  repeat_reads : (p turns q n r : ℕ) (body : List Stmt) → AllByRecursion StmtReads body → StmtReads (stmt.Repeat p turns q n r body)
  repeat_reads p turns q n r body each h depth rest =
      let k = subst Readable (parts.mentions_repeat p turns q n r body) h in
      let small = k.0 in
      let last = codes "}\n" ++ rest in
      let close = Canonical.indent depth last in
      let lines = Canonical.lines_at (depth + 1) (map (Canonical.stmt_text names) body) close in
      let after = codes " {\n" ++ lines in
      let named = Canonical.name_text names n after in
      let counted = codes " as " ++ named in
      ap read (trees.text_repeat names p turns q n r body depth rest) ∙ indent_reads depth (codes "repeat " ++ (decimal turns ++ counted)) ∙ repeat_word names (decimal turns ++ counted)
      ∙ ap (one sort.Repeat)
      (number names turns counted (omega (arith, small)) refl
      ∙ ap (one (sort.Number turns))
      (as_between names named
      ∙ ap (one sort.As)
      (name names n after distinct k.1.0 refl
      ∙ ap (one (sort.Name n))
      (left_brace_line names lines
      ∙ ap (one sort.LeftBrace)
      (block_reads body each k.1.1 (depth + 1) close
      ∙ ap (behind (CanonicalWords.each_sorts (map CanonicalWords.stmt_sorts body))) (indent_reads depth last ∙ right_brace_line names rest))))))
      ∙ sym (ap (λ ss. (ss, (read rest).1)) (trees.sorts_repeat p turns q n r body (read rest).0))

  stmt_reads : (s : Stmt) → StmtReads s
  stmt_reads = trees.stmt_induction StmtReads simple_reads choose_reads repeat_reads

  every_stmt : (ss : List Stmt) → AllByRecursion StmtReads ss
  every_stmt [] = tt
  every_stmt (s ∷ ss) = (stmt_reads s, every_stmt ss)

  -- ---- files

  table_reads : (t : TableDecl) → Readable (table_mentions t) → Closed (Canonical.table_text names t) (CanonicalWords.table_sorts t)
  table_reads t h rest =
      let after = codes ";\n" ++ rest in
      table names t.kind (Canonical.name_text names t.name after) ∙ ap (one (sort.Table t.kind)) (name names t.name after distinct h.0 refl ∙ ap (one (sort.Name t.name)) (semicolon_line names rest))

  param_reads : (p : Param) → Readable (param_mentions p) → Reads (Canonical.param_text names p) (CanonicalWords.param_sorts p)
  param_reads p h rest ends = name names p.name rest distinct h.0 ends

  handler_reads : (h : Handler) → Readable (handler_mentions h) → Closed (Canonical.handler_text names h) (CanonicalWords.handler_sorts h)
  handler_reads h readable rest =
      let k = both (flat_map param_mentions h.params) (flat_map stmt_mentions h.body) readable.1 in
      let last = codes "}\n" ++ rest in
      let lines = Canonical.block_text names h.body 1 last in
      let after = codes ") {\n" ++ lines in
      let params = Canonical.listed (map (Canonical.param_text names) h.params) after in
      let named = Canonical.name_text names h.name (codes "(" ++ params) in
      handler_word names named
      ∙ ap (one sort.Handler)
      (name names h.name (codes "(" ++ params) distinct readable.0 refl
      ∙ ap (one (sort.Name h.name))
      (left_paren names params
      ∙ ap (one sort.LeftParen)
      (listed_reads (Canonical.param_text names) CanonicalWords.param_sorts h.params (all_of param_mentions _ param_reads h.params k.0) after refl
      ∙ ap (behind (CanonicalWords.listed_sorts (map CanonicalWords.param_sorts h.params)))
      (params_end names lines
      ∙ ap (λ r. one sort.RightParen (one sort.LeftBrace r))
      (block_reads h.body (every_stmt h.body) k.1 1 last ∙ ap (behind (CanonicalWords.block_sorts h.body)) (right_brace_line names rest))))))

  pub file_reads : (file : File) → Readable (file_mentions file) → read (Canonical.canonical_text names file) ≡ (CanonicalWords.canonical_words file, names)
  file_reads file h =
      let k = both (flat_map table_mentions file.tables) (flat_map handler_mentions file.handlers) h in
      let tables = CanonicalWords.each_sorts (map CanonicalWords.table_sorts file.tables) in
      let handlers = CanonicalWords.each_sorts (map CanonicalWords.handler_sorts file.handlers) in
      each_reads (Canonical.table_text names) CanonicalWords.table_sorts file.tables (all_of table_mentions _ table_reads file.tables k.0) (Canonical.each (map (Canonical.handler_text names) file.handlers) [])
      ∙ ap (behind tables) (each_reads (Canonical.handler_text names) CanonicalWords.handler_sorts file.handlers (all_of handler_mentions _ handler_reads file.handlers k.1) [] ∙ ap (behind handlers) (nothing names))

pub reads_back : (names : List (List ℕ)) (file : File) (text : List ℕ) → AreDistinct names → text ≡ Canonical.canonical_text names file → AreReadable names (file_mentions file) → ReadsBack names file text
unfolding reading words_of names_of
reads_back names file text distinct is h =
    let r = ap (reading names) is ∙ file_reads names distinct file h in
    record { same_words = ap (λ (x : Reading). x.0) r; same_names = ap (λ (x : Reading). x.1) r }
