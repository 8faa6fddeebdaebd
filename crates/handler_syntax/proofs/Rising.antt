-- The places of a source's file rise in the order of its text.
use Rattle.std.proofs.Common.{◌≡◌, ℕ, zero, suc, ◌+◌, ◌-◌, ◌<◌, ◌≤◌, false, List, [], ◌∷◌, ◌++◌, append-nil, map, refl, sym, ap, subst, arith, rules}
use Rattle.std.specs.List.{AllByRecursion, flat_map}
use Rattle.syntax_grammar.specs.declared.word.Sort.{Sort}
use Rattle.syntax_grammar.specs.declared.word.Sort.TheVariants as sort
use Rattle.syntax_grammar.specs.declared.word.Word.{Word}
use Rattle.syntax_grammar.specs.Scan.{gap, scan}
use Rattle.syntax_grammar.specs.Tokens.{Piece, pieces, behind_gap}
use Rattle.syntax_grammar.specs.Words.{names_after, word_after, words, words_of}
use Rattle.syntax_trees.specs.declared.expr.Atom.{Atom}
use Rattle.syntax_trees.specs.declared.expr.Atom.TheVariants as atom
use Rattle.syntax_trees.specs.declared.expr.Calc.{Calc}
use Rattle.syntax_trees.specs.declared.expr.Calc.TheVariants as calc
use Rattle.syntax_trees.specs.declared.expr.Expr.{Expr, the_lemmas as expr_lemmas}
use Rattle.syntax_trees.specs.declared.expr.Expr.TheVariants as expr
use Rattle.syntax_trees.specs.declared.stmt.Call.{Call}
use Rattle.syntax_trees.specs.declared.stmt.Cond.{Cond}
use Rattle.syntax_trees.specs.declared.stmt.Right.{Right}
use Rattle.syntax_trees.specs.declared.stmt.Stmt.{Stmt, the_lemmas}
use Rattle.syntax_trees.specs.declared.stmt.Stmt.TheVariants as stmt
use Rattle.syntax_trees.specs.declared.file.File.{File}
use Rattle.syntax_trees.specs.declared.file.Handler.{Handler}
use Rattle.syntax_trees.specs.Alone.{alone}
use Rattle.syntax_grammar.specs.Phrase.{word, NamePhrase, named, name_words, digits, AtomPhrase, name_atom, nil_atom, symbol_atom, number_atom, negative_atom, atom_words, FactorPhrase, plain, grouped, factor_words, MoreFactors, no_factor, times, factors_words, TermPhrase, term, term_words, MoreTerms, no_term, plus, minus, terms_words, ExprPhrase, sum, expr_words, MoreAtoms, no_atom, more_atom, atoms_words, CallPhrase, a_call, operands, call_words, RightPhrase, result_right, plain_right, right_words, CondPhrase, a_cond, cond_words, a_turns, MoreValues, no_value, more_value, more_words, StmtPhrase, let_stmt, assign_stmt, call_stmt, if_stmt, repeat_stmt, reply_stmt, stmt_words, ElsePhrase, no_else, an_else, else_words, StmtsPhrase, no_stmt, more_stmts, stmts_words, block, block_words, MoreParams, no_more, more_param, more_params_words, ParamsPhrase, no_param, some_params, params_words, HandlersPhrase, no_handler, more_handlers, a_handler, handlers_words, TablesPhrase, no_table, more_tables, a_table, tables_words, FilePhrase, a_file, file_words}
use Rattle.syntax_grammar.specs.Tree.{atom_tree, factor_tree, factors_tree, term_tree, terms_tree, expr_tree, atoms_trees, call_tree, right_tree, cond_tree, more_trees, stmt_tree, else_trees, stmts_trees, param_of, more_params_trees, params_trees, handlers_trees, tables_trees, file_tree}
use Rattle.syntax_grammar.specs.Limits.{IsFileWithin}
use Rattle.syntax_trees.specs.Rising.{AreRising, PlacesRise, file_marks}
use Rattle.syntax_trees.specs.Marks.{Mark, Declared, Mentioned, Operation, OnTable, Turns, mark_at, sees, seeing, atom_marks, expr_marks, call_marks, right_marks, cond_marks, marks, param_marks, param_names, handler_marks, table_marks}
use Rattle.syntax_trees.specs.Source.{Source, stmt_source, block_source}
use Rattle.syntax_trees.proofs.Statements.{marks_leaf, marks_binary, source_let, source_assign, source_call, source_choose, source_repeat, source_reply}

-- ---- numbers of a list that rises from one on

abbrev RiseFrom : ℕ → List ℕ → Type 0
RiseFrom low [] = Unit {0}
RiseFrom low (n ∷ ns) = (low ≤ n) × RiseFrom (suc n) ns

lower : (low high : ℕ) (ns : List ℕ) → low ≤ high → RiseFrom high ns → RiseFrom low ns
lower low high [] le h = tt
lower low high (n ∷ ns) le h = let k = h.0 in (omega arith, h.1)

-- the first numbers rise from wherever the second ones do
record Among (ms ns : List ℕ) : Type 0 where
  rise : (low : ℕ) → RiseFrom low ns → RiseFrom low ms

none_left : Among [] []
none_left = record { rise = λ low h. h }

taken : (n : ℕ) {ms ns : List ℕ} → Among ms ns → Among (n ∷ ms) (n ∷ ns)
taken n s = record { rise = λ low h. (h.0, s.rise (suc n) h.1) }

passed : (n : ℕ) {ms ns : List ℕ} → Among ms ns → Among ms (n ∷ ns)
passed n {ms} {ns} s = record { rise = λ low h. (let k = h.0 in s.rise low (lower low (suc n) ns (omega arith) h.1)) }

all_above : (low n : ℕ) (ns : List ℕ) → n < low → RiseFrom low ns → AllByRecursion (λ (m : ℕ). n < m) ns
all_above low n [] le h = tt
all_above low n (m ∷ ms) le h = let k = h.0 in (omega arith, all_above (suc m) n ms (omega arith) h.1)

are_rising : (low : ℕ) (ns : List ℕ) → RiseFrom low ns → AreRising ns
are_rising low [] h = tt
are_rising low (n ∷ ns) h = (all_above (suc n) n ns (omega arith) h.1, are_rising (suc n) ns h.1)

-- ---- the places of the words of a source

abbrev starts : List Piece → List ℕ
starts ps = map (λ (p : Piece). p.start) ps

gap_rise : (g at : ℕ) (text : List ℕ) (rest : ℕ → List Piece) → ((n : ℕ) → RiseFrom (at + 1) (starts (rest n))) → RiseFrom at (starts (behind_gap g at text rest))
gap_rise zero at text rest h = let n = (scan text).1 - 1 in (omega arith, subst (λ low. RiseFrom low (starts (rest n))) (omega arith) (h n))
gap_rise (suc g) at text rest h = lower at (at + 1) _ (omega arith) (h g)

pieces_rise : (skipped at : ℕ) (text : List ℕ) → RiseFrom at (starts (pieces skipped at text))
pieces_rise skipped at [] = tt
pieces_rise zero at (b ∷ bs) = gap_rise (gap false (b ∷ bs)) at (b ∷ bs) (λ n. pieces n (at + 1) bs) (λ n. pieces_rise n (at + 1) bs)
pieces_rise (suc n) at (b ∷ bs) = lower at (at + 1) _ (omega arith) (pieces_rise n (at + 1) bs)

abbrev places_of : List Word → List ℕ
places_of ws = map (λ (w : Word). w.at) ws

words_start : (names : List (List ℕ)) (ps : List Piece) → places_of (words names ps) ≡ starts ps
unfolding word_after
words_start names [] = refl
words_start names (p ∷ ps) = ap (λ ns. p.start ∷ ns) (words_start (names_after names p) ps)

words_rise : (names : List (List ℕ)) (source : List ℕ) → RiseFrom 0 (places_of (words_of names source))
unfolding words_of
words_rise names source = subst (RiseFrom 0) (sym (words_start names (pieces 0 0 source))) (pieces_rise 0 0 source)

-- ---- the marks of a phrase stand at places of its words

abbrev marked : List Mark → List ℕ
marked ms = map mark_at ms

marked_join : (xs ys : List Mark) (ns : List ℕ) → marked (xs ++ ys) ++ ns ≡ marked xs ++ (marked ys ++ ns)
marked_join [] ys ns = refl
marked_join (x ∷ xs) ys ns = ap (λ ms. mark_at x ∷ ms) (marked_join xs ys ns)

sees_at : (names : List ℕ) (m : Mark) → mark_at (sees names m) ≡ mark_at m
sees_at names (Declared name at) = refl
sees_at names (Mentioned name at visible) = refl
sees_at names (Operation kind count at) = refl
sees_at names (OnTable kind name at) = refl
sees_at names (Turns n at) = refl

marked_seen : (names : List ℕ) (ms : List Mark) → marked (seeing names ms) ≡ marked ms
marked_seen names [] = refl
marked_seen names (m ∷ ms) = let e = sees_at names m in let k = marked_seen names ms in cc

abbrev Front : Type 0
Front = List Word → List Word

-- these marks stand at places of the words that this front puts before a rest, and in their order
abbrev Stand : List Mark → Front → Type 0
Stand ms front = (ns : List ℕ) (rest : List Word) → Among ns (places_of rest) → Among (marked ms ++ ns) (places_of (front rest))

stand_both : (xs ys : List Mark) (f g : Front) → Stand xs f → Stand ys g → Stand (xs ++ ys) (λ rest. f (g rest))
stand_both xs ys f g h k ns rest s = subst (λ all. Among all (places_of (f (g rest)))) (sym (marked_join xs ys ns)) (h (marked ys ++ ns) (g rest) (k ns rest s))

stand_seen : (names : List ℕ) (ms : List Mark) (f : Front) → Stand ms f → Stand (seeing names ms) f
stand_seen names ms f h ns rest s = subst (λ all. Among (all ++ ns) (places_of (f rest))) (sym (marked_seen names ms)) (h ns rest s)

stand_as : (xs ys : List Mark) (f : Front) → xs ≡ ys → Stand ys f → Stand xs f
stand_as xs ys f e h = subst (λ ms. Stand ms f) (sym e) h

-- ---- expressions

atom_stands : (a : AtomPhrase) → Stand (atom_marks (atom_tree a)) (atom_words a)
atom_stands (name_atom n p) ns rest s = taken p s
atom_stands (nil_atom p) ns rest s = passed p s
atom_stands (symbol_atom n p) ns rest s = passed p s
atom_stands (number_atom (digits v p)) ns rest s = passed p s
atom_stands (negative_atom q (digits v p)) ns rest s = passed q (passed p s)

-- an operator behind its left operand
sign_stands : (c : Calc) (x : Sort) (p : ℕ) (l r : Expr) (f g : Front) → Stand (expr_marks l) f → Stand (expr_marks r) g → Stand (expr_marks (expr.Binary c (l, r))) (λ rest. f (word x p ∷ g rest))
sign_stands c x p l r f g h k = stand_as _ _ (λ rest. f (word x p ∷ g rest)) (marks_binary c l r) (stand_both (expr_marks l) (expr_marks r) f (λ rest. word x p ∷ g rest) h (λ ns rest s. passed p (k ns rest s)))

mutual
  factor_stands : (f : FactorPhrase) → Stand (expr_marks (factor_tree f)) (factor_words f)
  factor_stands (plain a) = stand_as _ _ (atom_words a) (marks_leaf (atom_tree a)) (atom_stands a)
  factor_stands (grouped p e q) = λ ns rest s. passed p (expr_stands e ns (word sort.RightParen q ∷ rest) (passed q s))

  factors_stand : (fs : MoreFactors) (left : Expr) (front : Front) → Stand (expr_marks left) front → Stand (expr_marks (factors_tree fs left)) (λ rest. front (factors_words fs rest))
  factors_stand no_factor left front h = h
  factors_stand (times p f fs) left front h =
      factors_stand fs (expr.Binary calc.Times (left, factor_tree f)) (λ rest. front (word sort.Times p ∷ factor_words f rest)) (sign_stands calc.Times sort.Times p left (factor_tree f) front (factor_words f) h (factor_stands f))

  term_stands : (t : TermPhrase) → Stand (expr_marks (term_tree t)) (term_words t)
  term_stands (term f fs) = factors_stand fs (factor_tree f) (factor_words f) (factor_stands f)

  terms_stand : (ts : MoreTerms) (left : Expr) (front : Front) → Stand (expr_marks left) front → Stand (expr_marks (terms_tree ts left)) (λ rest. front (terms_words ts rest))
  terms_stand no_term left front h = h
  terms_stand (plus p t ts) left front h =
      terms_stand ts (expr.Binary calc.Plus (left, term_tree t)) (λ rest. front (word sort.Plus p ∷ term_words t rest)) (sign_stands calc.Plus sort.Plus p left (term_tree t) front (term_words t) h (term_stands t))
  terms_stand (minus p t ts) left front h =
      terms_stand ts (expr.Binary calc.Minus (left, term_tree t)) (λ rest. front (word sort.Minus p ∷ term_words t rest)) (sign_stands calc.Minus sort.Minus p left (term_tree t) front (term_words t) h (term_stands t))

  expr_stands : (e : ExprPhrase) → Stand (expr_marks (expr_tree e)) (expr_words e)
  expr_stands (sum t ts) = terms_stand ts (term_tree t) (term_words t) (term_stands t)

-- ---- operations, right sides, conditions and values

atoms_stand : (xs : MoreAtoms) → Stand (flat_map atom_marks (atoms_trees xs)) (atoms_words xs)
atoms_stand no_atom ns rest s = s
atoms_stand (more_atom p a xs) ns rest s =
    passed p (stand_both (atom_marks (atom_tree a)) (flat_map atom_marks (atoms_trees xs)) (atom_words a) (atoms_words xs) (atom_stands a) (atoms_stand xs) ns rest s)

call_stands : (c : CallPhrase) → Stand (call_marks (call_tree c)) (call_words c)
call_stands (a_call k p (operands l (named n q) xs r)) ns rest s = taken p (passed l (taken q (atoms_stand xs.atoms ns (word sort.RightParen r ∷ rest) (passed r s))))

right_stands : (r : RightPhrase) → Stand (right_marks (right_tree r)) (right_words r)
right_stands (result_right c) = call_stands c
right_stands (plain_right e) = expr_stands e

cond_stands : (c : CondPhrase) → Stand (cond_marks (cond_tree c)) (cond_words c)
cond_stands (a_cond a c p b) =
    stand_both (expr_marks (expr_tree a)) (expr_marks (expr_tree b)) (expr_words a) (λ rest. word (sort.Compare c) p ∷ expr_words b rest) (expr_stands a) (λ ns rest s. passed p (expr_stands b ns rest s))

more_stand : (vs : MoreValues) → Stand (flat_map expr_marks (more_trees vs)) (more_words vs)
more_stand no_value ns rest s = s
more_stand (more_value p e vs) ns rest s =
    passed p (stand_both (expr_marks (expr_tree e)) (flat_map expr_marks (more_trees vs)) (expr_words e) (more_words vs) (expr_stands e) (more_stand vs) ns rest s)

-- ---- statements, each before what follows it in its block

-- before what follows, a semicolon
ended : (e : ℕ) (ms : List Mark) (f : Front) → Stand ms f → Stand ms (λ rest. word sort.Semicolon e ∷ f rest)
ended e ms f h ns rest s = passed e (h ns rest s)

-- a block
braced : (o : ℕ) (ss : StmtsPhrase) (q : ℕ) (ms : List Mark) → Stand ms (stmts_words ss) → Stand ms (block_words (block o ss q))
braced o ss q ms h ns rest s = passed o (h ns (word sort.RightBrace q ∷ rest) (passed q s))

mutual
  stmt_stands : (s : StmtPhrase) (tail : Source) (front : Front) → Stand (marks tail) front → Stand (marks (stmt_source (stmt_tree s) tail)) (λ rest. stmt_words s (front rest))
  stmt_stands (let_stmt p (named n q) a r e) tail front h =
      stand_as _ _ (λ rest. stmt_words (let_stmt p (named n q) a r e) (front rest)) (ap marks (source_let n q (right_tree r) tail))
      (λ ns rest s. passed p (taken q (passed a (stand_both (right_marks (right_tree r)) (seeing (n ∷ []) (marks tail)) (right_words r) (λ rest. word sort.Semicolon e ∷ front rest) (right_stands r) (ended e _ front (stand_seen (n ∷ []) (marks tail) front h)) ns rest s))))
  stmt_stands (assign_stmt (named n q) a r e) tail front h =
      stand_as _ _ (λ rest. stmt_words (assign_stmt (named n q) a r e) (front rest)) (ap marks (source_assign n q (right_tree r) tail))
      (λ ns rest s. taken q (passed a (stand_both (right_marks (right_tree r)) (marks tail) (right_words r) (λ rest. word sort.Semicolon e ∷ front rest) (right_stands r) (ended e _ front h) ns rest s)))
  stmt_stands (call_stmt c e) tail front h =
      stand_as _ _ (λ rest. stmt_words (call_stmt c e) (front rest)) (ap marks (source_call (call_tree c) tail))
      (stand_both (call_marks (call_tree c)) (marks tail) (call_words c) (λ rest. word sort.Semicolon e ∷ front rest) (call_stands c) (ended e _ front h))
  stmt_stands (if_stmt p c (block o ss q) e) tail front h =
      let first = stmts_trees ss in
      let second = else_trees e in
      let one = marks (block_source first) in
      let two = marks (block_source second) in
      stand_as _ _ (λ rest. stmt_words (if_stmt p c (block o ss q) e) (front rest)) (ap marks (source_choose p (cond_tree c) first second tail))
      (λ ns rest s. passed p (stand_both (cond_marks (cond_tree c)) (one ++ (two ++ marks tail)) (cond_words c) (λ rest. block_words (block o ss q) (else_words e (front rest))) (cond_stands c)
      (stand_both one (two ++ marks tail) (block_words (block o ss q)) (λ rest. else_words e (front rest)) (braced o ss q one (stmts_stand ss)) (stand_both two (marks tail) (else_words e) front (else_stands e) h)) ns rest s))
  stmt_stands (repeat_stmt p (a_turns (digits v d) a (named n q)) (block o ss b)) tail front h =
      let body = marks (block_source (stmts_trees ss)) in
      stand_as _ _ (λ rest. stmt_words (repeat_stmt p (a_turns (digits v d) a (named n q)) (block o ss b)) (front rest)) (ap marks (source_repeat p v d n q (stmts_trees ss) tail))
      (λ ns rest s. passed p (taken d (passed a (taken q (stand_both (seeing (n ∷ []) body) (marks tail) (block_words (block o ss b)) front (stand_seen (n ∷ []) body (block_words (block o ss b)) (braced o ss b body (stmts_stand ss))) h ns rest s)))))
  stmt_stands (reply_stmt p v e) tail front h =
      let first = expr_tree v.first in
      let more = more_trees v.more in
      stand_as _ _ (λ rest. stmt_words (reply_stmt p v e) (front rest)) (ap marks (source_reply p (first ∷ more) tail))
      (λ ns rest s. passed p (stand_both (flat_map expr_marks (first ∷ more)) (marks tail) (λ rest. expr_words v.first (more_words v.more rest)) (λ rest. word sort.Semicolon e ∷ front rest)
      (stand_both (expr_marks first) (flat_map expr_marks more) (expr_words v.first) (more_words v.more) (expr_stands v.first) (more_stand v.more)) (ended e _ front h) ns rest s))

  else_stands : (e : ElsePhrase) → Stand (marks (block_source (else_trees e))) (else_words e)
  else_stands no_else ns rest s = s
  else_stands (an_else p (block o ss q)) ns rest s = passed p (braced o ss q (marks (block_source (stmts_trees ss))) (stmts_stand ss) ns rest s)

  stmts_stand : (ss : StmtsPhrase) → Stand (marks (block_source (stmts_trees ss))) (stmts_words ss)
  stmts_stand no_stmt = λ ns rest s. s
  stmts_stand (more_stmts s ss) = stmt_stands s (block_source (stmts_trees ss)) (stmts_words ss) (stmts_stand ss)

-- ---- files

more_params_stand : (ps : MoreParams) → Stand (param_marks (more_params_trees ps)) (more_params_words ps)
more_params_stand no_more ns rest s = s
more_params_stand (more_param p (named n q) ps) ns rest s = passed p (taken q (more_params_stand ps ns rest s))

params_stand : (ps : ParamsPhrase) → Stand (param_marks (params_trees ps)) (params_words ps)
params_stand no_param ns rest s = s
params_stand (some_params ps) ns rest s = go ps.first
  where
    go : (first : NamePhrase) → Among (marked (param_marks (param_of first ∷ more_params_trees ps.more)) ++ ns) (places_of (name_words first (more_params_words ps.more rest)))
    go (named n q) = taken q (more_params_stand ps.more ns rest s)

abbrev handlers_marks : List Handler → List Mark
handlers_marks hs = flat_map (λ (h : Handler). Declared h.name h.at ∷ handler_marks h) hs

handlers_stand : (hs : HandlersPhrase) → Stand (handlers_marks (handlers_trees hs)) (handlers_words hs)
handlers_stand no_handler ns rest s = s
handlers_stand (more_handlers (a_handler p (named n q) l ps r (block o ss b)) hs) ns rest s =
    let params = params_trees ps in
    let body = marks (block_source (stmts_trees ss)) in
    let seen = seeing (param_names params) body in
    let others = handlers_marks (handlers_trees hs) in
    passed p (taken q (passed l (stand_both (param_marks params ++ seen) others (λ rest. params_words ps (word sort.RightParen r ∷ block_words (block o ss b) rest)) (handlers_words hs)
    (stand_both (param_marks params) seen (params_words ps) (λ rest. word sort.RightParen r ∷ block_words (block o ss b) rest) (params_stand ps)
    (λ ns rest s. passed r (stand_seen (param_names params) body (block_words (block o ss b)) (braced o ss b body (stmts_stand ss)) ns rest s)))
    (handlers_stand hs) ns rest s)))

tables_stand : (ts : TablesPhrase) → Stand (table_marks (tables_trees ts)) (tables_words ts)
tables_stand no_table ns rest s = s
tables_stand (more_tables (a_table k p (named n q) e) ts) ns rest s = passed p (taken q (passed e (tables_stand ts ns rest s)))

file_stands : (p : FilePhrase) → Stand (file_marks (file_tree p)) (file_words p)
file_stands (a_file ts hs) = stand_both (table_marks (tables_trees ts)) (handlers_marks (handlers_trees hs)) (tables_words ts) (handlers_words hs) (tables_stand ts) (handlers_stand hs)

pub places_rise : (names : List (List ℕ)) (source : List ℕ) (file : File) → IsFileWithin (words_of names source) file → PlacesRise file
places_rise names source file within =
    let p = within.0 in
    let words : RiseFrom 0 (places_of (file_words p [])) = subst (λ ws. RiseFrom 0 (places_of ws)) within.1 (words_rise names source) in
    let all : Among (marked (file_marks (file_tree p)) ++ []) (places_of (file_words p [])) = file_stands p [] [] none_left in
    let own : Among (marked (file_marks (file_tree p))) (places_of (file_words p [])) = subst (λ ms. Among ms (places_of (file_words p []))) (append-nil _) all in
    subst PlacesRise (sym within.2) (are_rising 0 (marked (file_marks (file_tree p))) (own.rise 0 words))
