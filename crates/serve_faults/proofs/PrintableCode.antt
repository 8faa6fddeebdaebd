-- The literals of a handler can be printed with the names of its file.
use Rattle.std.proofs.Common.{ℕ, zero, suc, ◌+◌, List, [], ◌∷◌, ◌++◌, map, slice_get, sym, subst}
use Rattle.std.specs.List.{AllByRecursion, flat_map}
use Rattle.session_values.specs.declared.value.Value.TheVariants.{Nil, Num, Sym}
use Rattle.session_values.specs.ReplyText.{IsPrintable}
use Rattle.handler_check.specs.Atom.{Atom}
use Rattle.handler_check.specs.Atom.TheVariants as atom
use Rattle.handler_check.specs.Expr.{Expr}
use Rattle.handler_check.specs.Cond.{Cond}
use Rattle.handler_check.specs.Right.{Right}
use Rattle.handler_check.specs.Right.TheVariants as right
use Rattle.handler_check.specs.Stmt.{Stmt}
use Rattle.handler_check.specs.Stmt.TheVariants as stmt
use Rattle.handler_check.specs.File.{File}
use Rattle.handler_check.specs.Handler.{Handler}
use Rattle.handler_check.specs.Mentions.{Mention, atom_mentions, expr_mentions, call_mentions, right_mentions, cond_mentions, stmt_mentions, table_mentions, param_mentions, handler_mentions}
use Rattle.handler_check.proofs.Mentions.{mentions_leaf, mentions_let, mentions_assign, mentions_perform, mentions_choose, mentions_repeat, mentions_answer, all_first}
use Rattle.handler_check.proofs.SyntaxInductions.{expr_induction}
use Rattle.handler_syntax.specs.Language.{HasText, HaveTexts, IsNamedFile}
use Rattle.handler_syntax.proofs.Facts.{symbol_named}
use Rattle.handler_check.specs.CheckedAtom.{CheckedAtom}
use Rattle.handler_check.specs.CheckedAtom.TheVariants.{Lit, Var}
use Rattle.handler_check.specs.Code.{Term, Calculate, Code, Finish, Move, Ask, Fork, Loop, Quit}
use Rattle.handler_check.specs.Code as code
use Rattle.handler_check.specs.Source.{Source, Finish as NoMore, Let, Assign, Do, Choose, Repeat, Answer, stmt_source, block_source}
use Rattle.handler_check.specs.Resolved.{atom_of, term_of, key_of, value_of, stored, right_points, points_of, code_of, code_at, code_in, table_names, variables_of}
use Rattle.handler_check.proofs.Cases.{source_let, source_assign, source_call, source_choose, source_repeat, source_reply}
use Rattle.handler_check.proofs.Codes.{term_leaf, term_binary}
use Rattle.handler_check.proofs.Inductions.{stmt_induction}

-- ---- blocks whose literals can be printed
module _ (names : List (List ℕ)) where
  abbrev pub AtomPrints : CheckedAtom → Type 0
  AtomPrints (Lit v) = IsPrintable names v
  AtomPrints (Var x) = Unit {0}

  abbrev pub TermPrints : Term → Type 0
  TermPrints (code.Atom a) = AtomPrints a
  TermPrints (Calculate calc l r) = Unit {0}

  abbrev pub CodePrints : Code → Type 0
  CodePrints Finish = Unit {0}
  CodePrints (Move x e rest) = TermPrints e × CodePrints rest
  CodePrints (Ask at p x c rest) = (AtomPrints c.key × AtomPrints c.value) × CodePrints rest
  CodePrints (Fork at p q test a b rest) = CodePrints a × CodePrints b × CodePrints rest
  CodePrints (Loop at p n x body rest) = CodePrints body × CodePrints rest
  CodePrints (Quit es rest) = AllByRecursion TermPrints es × CodePrints rest

  -- ---- from the mentions of a text
  abbrev Named : List Mention → Type 0
  Named ms = HaveTexts names ms

  abbrev named_parts : (ms ns : List Mention) → Named (ms ++ ns) → Named ms × Named ns
  named_parts ms ns h = all_first (HasText names) ms ns h

  module _ (tables variables : List ℕ) where
    atom_prints : (a : Atom) → Named (atom_mentions a) → AtomPrints (atom_of variables a)
    atom_prints (atom.Lit Nil) h = tt
    atom_prints (atom.Lit (Num z)) h = tt
    atom_prints (atom.Lit (Sym p)) h = symbol_named names p h.0
    atom_prints (atom.Name name at) h = tt

    abbrev Prints : Expr → Type 0
    Prints e = Named (expr_mentions e) → TermPrints (term_of variables e)

    term_prints : (e : Expr) → Prints e
    term_prints = expr_induction Prints
        (λ a h. subst TermPrints (sym (term_leaf variables a)) (atom_prints a (subst Named (mentions_leaf a) h)))
        (λ c l r f g h. subst TermPrints (sym (term_binary variables c l r)) tt)

    terms_print : (es : List Expr) → Named (flat_map expr_mentions es) → AllByRecursion TermPrints (map (term_of variables) es)
    terms_print [] h = tt
    terms_print (e ∷ es) h = let a = named_parts (expr_mentions e) (flat_map expr_mentions es) h in (term_prints e a.0, terms_print es a.1)

    value_prints : (args : List Atom) → Named (flat_map atom_mentions args) → AtomPrints (value_of variables args)
    value_prints [] h = tt
    value_prints (a ∷ []) h = tt
    value_prints (a ∷ b ∷ more) h = atom_prints b (named_parts (atom_mentions b) (flat_map atom_mentions more) (named_parts (atom_mentions a) (flat_map atom_mentions (b ∷ more)) h).1).0

    key_prints : (args : List Atom) → Named (flat_map atom_mentions args) → AtomPrints (key_of variables args)
    key_prints [] h = tt
    key_prints (a ∷ more) h = atom_prints a (named_parts (atom_mentions a) (flat_map atom_mentions more) h).0

    stored_prints : (name : ℕ) (r : Right) (p : ℕ) (rest : Code) → Named (right_mentions r) → CodePrints rest → CodePrints (stored tables variables name r p rest)
    stored_prints name (right.Plain e) p rest h w = (term_prints e h, w)
    stored_prints name (right.Result c) p rest h w = ((key_prints c.args h.1, value_prints c.args h.1), w)

    -- each literal of a block has its text
    abbrev NamedBlock : Source → Type 0
    NamedBlock NoMore = Unit {0}
    NamedBlock (Let n at r rest) = Named (right_mentions r) × NamedBlock rest
    NamedBlock (Assign n at r rest) = Named (right_mentions r) × NamedBlock rest
    NamedBlock (Do c rest) = Named (call_mentions c) × NamedBlock rest
    NamedBlock (Choose at c a b rest) = NamedBlock a × NamedBlock b × NamedBlock rest
    NamedBlock (Repeat at n n_at name name_at body rest) = NamedBlock body × NamedBlock rest
    NamedBlock (Answer es rest) = Named (flat_map expr_mentions es) × NamedBlock rest

    code_prints : (s : Source) (p : ℕ) → NamedBlock s → CodePrints (code_of tables variables s p)
    code_prints NoMore p h = tt
    code_prints (Let n at r rest) p h = stored_prints n r p (code_of tables variables rest (p + right_points r)) h.0 (code_prints rest (p + right_points r) h.1)
    code_prints (Assign n at r rest) p h = stored_prints n r p (code_of tables variables rest (p + right_points r)) h.0 (code_prints rest (p + right_points r) h.1)
    code_prints (Do c rest) p h = ((key_prints c.args h.0.1, value_prints c.args h.0.1), code_prints rest (p + 1) h.1)
    code_prints (Choose at c a b rest) p h = (code_prints a (p + 1) h.0, code_prints b (p + 2 + points_of a) h.1, code_prints rest (p + 2 + points_of a + points_of b) h.2)
    code_prints (Repeat at n n_at name name_at body rest) p h = (code_prints body p h.0, code_prints rest (p + points_of body + 1) h.1)
    code_prints (Answer es rest) p h = (terms_print es h.0, code_prints rest p h.1)

    -- ---- statements
    abbrev Holds : Stmt → Type 0
    Holds s = (rest : Source) → Named (stmt_mentions s) → NamedBlock rest → NamedBlock (stmt_source s rest)

    named_block : (ss : List Stmt) → AllByRecursion Holds ss → Named (flat_map stmt_mentions ss) → NamedBlock (block_source ss)
    named_block [] h m = tt
    named_block (s ∷ ss) h m = let a = named_parts (stmt_mentions s) (flat_map stmt_mentions ss) m in h.0 (block_source ss) a.0 (named_block ss h.1 a.1)

    named_choose : (p : ℕ) (cond : Cond) (first second : List Stmt) → AllByRecursion Holds first → AllByRecursion Holds second → Holds (stmt.Choose p cond first second)
    named_choose p cond first second h k rest m held =
        let a = named_parts (cond_mentions cond) (flat_map stmt_mentions first ++ flat_map stmt_mentions second) (subst Named (mentions_choose p cond first second) m) in
        let b = named_parts (flat_map stmt_mentions first) (flat_map stmt_mentions second) a.1 in
        subst NamedBlock (sym (source_choose p cond first second rest)) (named_block first h b.0, named_block second k b.1, held)

    named_repeat : (p turns q n r : ℕ) (body : List Stmt) → AllByRecursion Holds body → Holds (stmt.Repeat p turns q n r body)
    named_repeat p turns q n r body h rest m held =
        let a = subst Named (mentions_repeat p turns q n r body) m in
        subst NamedBlock (sym (source_repeat p turns q n r body rest)) (named_block body h a.1.1, held)

    holds : (s : Stmt) → Holds s
    holds = stmt_induction Holds (record {
      let_stmt = λ n p r rest m held. (let a = subst Named (mentions_let n p r) m in subst NamedBlock (sym (source_let n p r rest)) (a.1, held));
      assign_stmt = λ n p r rest m held. (let a = subst Named (mentions_assign n p r) m in subst NamedBlock (sym (source_assign n p r rest)) (a.1, held));
      call_stmt = λ c rest m held. subst NamedBlock (sym (source_call c rest)) (subst Named (mentions_perform c) m, held);
      choose_stmt = named_choose;
      repeat_stmt = named_repeat;
      reply_stmt = λ p values rest m held. subst NamedBlock (sym (source_reply p values rest)) (subst Named (mentions_answer p values) m, held);
    })

    all_hold : (ss : List Stmt) → AllByRecursion Holds ss
    all_hold [] = tt
    all_hold (s ∷ ss) = (holds s, all_hold ss)

  -- ---- files
  handler_prints : (tables : List ℕ) (h : Handler) → Named (handler_mentions h) → CodePrints (code_of tables (variables_of h) (block_source h.body) 1)
  handler_prints tables h m =
      code_prints tables (variables_of h) (block_source h.body) 1
      (named_block tables (variables_of h) h.body (all_hold tables (variables_of h) h.body) (named_parts (flat_map param_mentions h.params) (flat_map stmt_mentions h.body) m.1).1)

  at_place : (f : File) (hs : List Handler) (i : ℕ) → Named (flat_map handler_mentions hs) → CodePrints (code_in f (slice_get hs i))
  at_place f [] i m = tt
  at_place f (h ∷ hs) zero m = handler_prints (table_names f) h (named_parts (handler_mentions h) (flat_map handler_mentions hs) m).0
  at_place f (h ∷ hs) (suc i) m = at_place f hs i (named_parts (handler_mentions h) (flat_map handler_mentions hs) m).1

  -- each handler of a file whose names and symbols have texts
  pub file_prints : (f : File) (i : ℕ) → IsNamedFile names f → CodePrints (code_at f i)
  file_prints f i m = at_place f f.handlers i (named_parts (flat_map table_mentions f.tables) (flat_map handler_mentions f.handlers) m).1
