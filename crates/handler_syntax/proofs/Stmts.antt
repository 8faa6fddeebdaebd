-- The canonical words of statements and blocks are read again.
use Rattle.std.proofs.Common.{◌≡◌, ℕ, ◌+◌, ◌<◌, List, ◌∷◌, map, refl, sym, ap, ◌∙◌}
use Rattle.session_values.specs.Limits.{max_depth}
use Rattle.syntax_grammar.specs.declared.word.Sort.{Sort}
use Rattle.syntax_grammar.specs.declared.word.Sort.TheVariants as sort
use Rattle.syntax_grammar.specs.declared.word.Word.{Word}
use Rattle.syntax_trees.specs.declared.stmt.Stmt.TheVariants as stmt
use Rattle.syntax_grammar.specs.Phrase.{word, named, digits, a_turns, StmtPhrase, let_stmt, assign_stmt, call_stmt, if_stmt, repeat_stmt, reply_stmt, ElsePhrase, no_else, an_else, StmtsPhrase, no_stmt, more_stmts, block, stmt_words, else_words, stmts_words}
use Rattle.syntax_grammar.specs.Tree.{right_tree, call_tree, cond_tree, values_trees, stmt_tree, else_trees, stmts_trees}
use Rattle.syntax_grammar.specs.Limits.{StmtFits, ElseFits, StmtsFit}
use Rattle.syntax_printer.specs.CanonicalWords.{each_sorts, else_sorts, stmt_sorts}
use Rattle.syntax_printer.proofs.Inductions.{sorts_let, sorts_assign, sorts_call, sorts_choose, sorts_repeat, sorts_reply}
use Rattle.handler_syntax.specs.SameTree.{cond_bare, stmt_bare}
use Rattle.handler_syntax.proofs.Bare.{bare_let, bare_assign, bare_perform, bare_choose, bare_repeat, bare_answer}
use Rattle.handler_syntax.proofs.Calls.{call_reads, right_reads, cond_reads, values_read}
use Rattle.handler_syntax.proofs.Words.{Reads, mark, made, followed, sorted, empty}

record IsStmt (s : StmtPhrase) (depth : ℕ) (t : StmtPhrase) : Type 0 where
  tree : stmt_bare (stmt_tree t) ≡ stmt_bare (stmt_tree s)
  fits : StmtFits t depth

pub record AreStmts (ss : StmtsPhrase) (depth : ℕ) (ts : StmtsPhrase) : Type 0 where
  pub tree : map stmt_bare (stmts_trees ts) ≡ map stmt_bare (stmts_trees ss)
  pub fits : StmtsFit ts depth

abbrev ReadsStmts : StmtsPhrase → ℕ → Type 0
ReadsStmts ss depth = Reads stmts_words (AreStmts ss depth) (each_sorts (map stmt_sorts (stmts_trees ss)))

-- ---- behind the first block of an `if`

-- the place of its closing brace, and the second block
abbrev end_words : ℕ × ElsePhrase → List Word → List Word
end_words x rest = word sort.RightBrace x.0 ∷ else_words x.1 rest

-- with the statements of the second block
record IsEnd (ss : StmtsPhrase) (depth : ℕ) (x : ℕ × ElsePhrase) : Type 0 where
  tree : map stmt_bare (else_trees x.1) ≡ map stmt_bare (stmts_trees ss)
  fits : ElseFits x.1 depth

record IsElse (e : ElsePhrase) (depth : ℕ) (x : ℕ × ElsePhrase) : Type 0 where
  tree : map stmt_bare (else_trees x.1) ≡ map stmt_bare (else_trees e)
  fits : ElseFits x.1 depth

abbrev end_sorts : StmtsPhrase → List Sort → List Sort
end_sorts ss rest = else_sorts (map stmt_sorts (stmts_trees ss)) (sort.RightBrace ∷ rest)

no_second : (depth : ℕ) → Reads end_words (IsEnd no_stmt depth) (end_sorts no_stmt)
no_second depth = made (mark sort.RightBrace) (λ p. (p, no_else)) (λ p rest. refl) (λ p g. record { tree = refl; fits = tt })

second_reads : (ss : StmtsPhrase) (depth : ℕ) → depth < max_depth → ReadsStmts ss (depth + 1) → Reads end_words (IsEnd ss depth) (end_sorts ss)
second_reads no_stmt depth room r = no_second depth
second_reads (more_stmts s ss) depth room r =
    made (followed (mark sort.RightBrace) (followed (mark sort.Else) (followed (mark sort.LeftBrace) (followed r (mark sort.RightBrace)))))
    (λ x. (x.0, an_else x.1.0 (block x.1.1.0 x.1.1.1.0 x.1.1.1.1))) (λ x rest. refl)
    (λ x g. record { tree = g.1.1.1.0.tree; fits = (room, g.1.1.1.0.fits) })

-- ---- statements

mutual
  stmt_reads : (s : StmtPhrase) (depth : ℕ) → StmtFits s depth → Reads stmt_words (IsStmt s depth) (stmt_sorts (stmt_tree s))
  stmt_reads (let_stmt p (named n q) a r e) depth h =
      sorted (sorts_let n q (right_tree r))
      (made (followed (mark sort.Let) (followed (mark (sort.Name n)) (followed (mark sort.Assign) (followed (right_reads r h) (mark sort.Semicolon)))))
      (λ x. let_stmt x.0 (named n x.1.0) x.1.1.0 x.1.1.1.0 x.1.1.1.1) (λ x rest. refl)
      (λ x g. record { tree = bare_let n x.1.0 (right_tree x.1.1.1.0) ∙ ap (stmt.Let n 0) g.1.1.1.0.tree ∙ sym (bare_let n q (right_tree r)); fits = g.1.1.1.0.fits }))
  stmt_reads (assign_stmt (named n q) a r e) depth h =
      sorted (sorts_assign n q (right_tree r))
      (made (followed (mark (sort.Name n)) (followed (mark sort.Assign) (followed (right_reads r h) (mark sort.Semicolon))))
      (λ x. assign_stmt (named n x.0) x.1.0 x.1.1.0 x.1.1.1) (λ x rest. refl)
      (λ x g. record { tree = bare_assign n x.0 (right_tree x.1.1.0) ∙ ap (stmt.Assign n 0) g.1.1.0.tree ∙ sym (bare_assign n q (right_tree r)); fits = g.1.1.0.fits }))
  stmt_reads (call_stmt c e) depth h =
      sorted (sorts_call (call_tree c))
      (made (followed (call_reads c h) (mark sort.Semicolon)) (λ x. call_stmt x.0 x.1) (λ x rest. refl)
      (λ x g. record { tree = bare_perform (call_tree x.0) ∙ ap stmt.Perform g.0.tree ∙ sym (bare_perform (call_tree c)); fits = g.0.fits }))
  stmt_reads (if_stmt p c (block b ss z) e) depth h =
      sorted (sorts_choose p (cond_tree c) (stmts_trees ss) (else_trees e))
      (made (followed (mark sort.If) (followed (cond_reads c h.0) (followed (mark sort.LeftBrace) (followed (stmts_read ss (depth + 1) h.1.1) (else_reads e depth h.2)))))
      (λ x. if_stmt x.0 x.1.0 (block x.1.1.0 x.1.1.1.0 x.1.1.1.1.0) x.1.1.1.1.1) (λ x rest. refl)
      (λ x g. record {
        tree = bare_choose x.0 (cond_tree x.1.0) (stmts_trees x.1.1.1.0) (else_trees x.1.1.1.1.1)
            ∙ ap (λ y. stmt.Choose 0 y (map stmt_bare (stmts_trees x.1.1.1.0)) (map stmt_bare (else_trees x.1.1.1.1.1))) g.1.0.tree
            ∙ ap (λ l. stmt.Choose 0 (cond_bare (cond_tree c)) l (map stmt_bare (else_trees x.1.1.1.1.1))) g.1.1.1.0.tree
            ∙ ap (stmt.Choose 0 (cond_bare (cond_tree c)) (map stmt_bare (stmts_trees ss))) g.1.1.1.1.tree
            ∙ sym (bare_choose p (cond_tree c) (stmts_trees ss) (else_trees e));
        fits = (g.1.0.fits, (h.1.0, g.1.1.1.0.fits), g.1.1.1.1.fits);
      }))
  stmt_reads (repeat_stmt p (a_turns (digits v d) a (named n q)) (block b ss z)) depth h =
      sorted (sorts_repeat p v d n q (stmts_trees ss))
      (made (followed (mark sort.Repeat) (followed (mark (sort.Number v)) (followed (mark sort.As) (followed (mark (sort.Name n)) (followed (mark sort.LeftBrace) (followed (stmts_read ss (depth + 1) h.1.1) (mark sort.RightBrace)))))))
      (λ x. repeat_stmt x.0 (a_turns (digits v x.1.0) x.1.1.0 (named n x.1.1.1.0)) (block x.1.1.1.1.0 x.1.1.1.1.1.0 x.1.1.1.1.1.1)) (λ x rest. refl)
      (λ x g. record {
        tree = bare_repeat x.0 v x.1.0 n x.1.1.1.0 (stmts_trees x.1.1.1.1.1.0) ∙ ap (stmt.Repeat 0 v 0 n 0) g.1.1.1.1.1.0.tree ∙ sym (bare_repeat p v d n q (stmts_trees ss));
        fits = (h.0, (h.1.0, g.1.1.1.1.1.0.fits));
      }))
  stmt_reads (reply_stmt p v e) depth h =
      sorted (sorts_reply p (values_trees v))
      (made (followed (mark sort.Reply) (followed (values_read v h) (mark sort.Semicolon))) (λ x. reply_stmt x.0 x.1.0 x.1.1) (λ x rest. refl)
      (λ x g. record { tree = bare_answer x.0 (values_trees x.1.0) ∙ ap (stmt.Answer 0) g.1.0.tree ∙ sym (bare_answer p (values_trees v)); fits = g.1.0.fits }))

  -- an empty second block has gone
  else_reads : (e : ElsePhrase) (depth : ℕ) → ElseFits e depth → Reads end_words (IsElse e depth) (λ ss. else_sorts (map stmt_sorts (else_trees e)) (sort.RightBrace ∷ ss))
  else_reads no_else depth h = made (no_second depth) (λ x. x) (λ x rest. refl) (λ x g. record { tree = g.tree; fits = g.fits })
  else_reads (an_else p (block b ss z)) depth h = made (second_reads ss depth h.0 (stmts_read ss (depth + 1) h.1)) (λ x. x) (λ x rest. refl) (λ x g. record { tree = g.tree; fits = g.fits })

  pub stmts_read : (ss : StmtsPhrase) (depth : ℕ) → StmtsFit ss depth → Reads stmts_words (AreStmts ss depth) (each_sorts (map stmt_sorts (stmts_trees ss)))
  stmts_read no_stmt depth h = empty no_stmt (λ rest. refl) (record { tree = refl; fits = tt })
  stmts_read (more_stmts s ss) depth h =
      made (followed (stmt_reads s depth h.0) (stmts_read ss depth h.1)) (λ x. more_stmts x.0 x.1) (λ x rest. refl)
      (λ x g. record { tree = ap (λ y. y ∷ map stmt_bare (stmts_trees x.1)) g.0.tree ∙ ap (λ l. stmt_bare (stmt_tree s) ∷ l) g.1.tree; fits = (g.0.fits, g.1.fits) })
