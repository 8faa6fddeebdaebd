-- What a file within the limits mentions is what its words say.
use Rattle.std.proofs.Common.{◌≡◌, ℕ, zero, suc, ◌+◌, ◌<◌, false, true, List, [], ◌∷◌, ◌++◌, length, Option, Some, None, slice_get, refl, sym, ap, ◌∙◌, subst, arith}
use Rattle.std.specs.Prelude.{unwrap_or}
use Rattle.std.specs.List.{AllByRecursion, flat_map}
use Rattle.std.proofs.lemmas.Option.{slice_get_within}
use Rattle.syntax_grammar.specs.declared.scan.Class.{Class}
use Rattle.syntax_grammar.specs.declared.scan.Class.TheVariants as class
use Rattle.syntax_grammar.specs.declared.word.Sort.TheVariants as sort
use Rattle.syntax_grammar.specs.declared.word.Word.{Word}
use Rattle.syntax_grammar.specs.Words.{words_of, names_of}
use Rattle.syntax_trees.specs.declared.expr.Calc.{Calc}
use Rattle.syntax_trees.specs.declared.expr.Calc.TheVariants as calc
use Rattle.syntax_trees.specs.declared.expr.Expr.{Expr}
use Rattle.syntax_trees.specs.declared.expr.Expr.TheVariants as expr
use Rattle.syntax_trees.specs.declared.file.File.{File}
use Rattle.syntax_grammar.specs.Phrase.{word, NamePhrase, named, name_words, digits, AtomPhrase, name_atom, nil_atom, symbol_atom, number_atom, negative_atom, atom_words, FactorPhrase, plain, grouped, factor_words, MoreFactors, no_factor, times, factors_words, TermPhrase, term, term_words, MoreTerms, no_term, plus, minus, terms_words, ExprPhrase, sum, expr_words, MoreAtoms, no_atom, more_atom, atoms_words, CallPhrase, a_call, operands, call_words, RightPhrase, result_right, plain_right, right_words, CondPhrase, a_cond, cond_words, a_turns, MoreValues, no_value, more_value, more_words, StmtPhrase, let_stmt, assign_stmt, call_stmt, if_stmt, repeat_stmt, reply_stmt, stmt_words, ElsePhrase, no_else, an_else, else_words, StmtsPhrase, no_stmt, more_stmts, stmts_words, BlockPhrase, block, block_words, MoreParams, no_more, more_param, more_params_words, ParamsPhrase, no_param, some_params, params_words, HandlersPhrase, no_handler, more_handlers, a_handler, handlers_words, TablesPhrase, no_table, more_tables, a_table, tables_words, FilePhrase, a_file, file_words}
use Rattle.syntax_grammar.specs.Tree.{atom_tree, factor_tree, factors_tree, term_tree, terms_tree, expr_tree, atoms_trees, call_tree, right_tree, cond_tree, more_trees, stmt_tree, else_trees, stmts_trees, block_trees, more_params_trees, params_trees, handlers_trees, tables_trees, file_tree}
use Rattle.syntax_grammar.specs.Limits.{AtomFits, FactorFits, FactorsFit, TermFits, TermsFit, GroupFits, AtomsFit, CallFits, RightFits, CondFits, MoreFit, StmtFits, ElseFits, StmtsFit, BlockFits, HandlersFit, FileFits, IsFileWithin}
use Rattle.syntax_trees.specs.Mentions.{Mention, a_name, a_symbol, a_number, atom_mentions, expr_mentions, call_mentions, right_mentions, cond_mentions, stmt_mentions, param_mentions, handler_mentions, table_mentions, file_mentions, IsBelow, AreNamed}
use Rattle.syntax_grammar.specs.Texts.{AreReadable, IsReadable, IsReadableSort, IsReadableWord, HasText, HaveTexts, IsNamedFile, IsNameText, IsSymbolText, IsRun, text_at}
use Rattle.syntax_trees.proofs.Mentions.{mentions_leaf, mentions_binary, mentions_let, mentions_assign, mentions_perform, mentions_choose, mentions_repeat, mentions_answer}
use Rattle.syntax_grammar.proofs.TextWords.{words_readable}
use Rattle.session_values.specs.declared.value.Value.TheVariants.{Num}
use Rattle.session_values.specs.Values.{IsValue}
use Rattle.session_values.specs.Names.{Begins, IsNamed}
use Rattle.session_values.proofs.Named.{front_kept}
use Rattle.syntax_grammar.specs.declared.word.Sort.{Sort}

-- these hold of the place of a name and of that of a symbol, and a number is one of i64
abbrev pub IsSaid : (ℕ → Type 0) → (ℕ → Type 0) → Mention → Type 0
IsSaid N S (a_name place) = N place
IsSaid N S (a_symbol place) = S place
IsSaid N S (a_number z) = IsValue (Num z)

abbrev pub IsSaidSort : (ℕ → Type 0) → (ℕ → Type 0) → Sort → Type 0
IsSaidSort N S (sort.Name place) = N place
IsSaidSort N S (sort.Symbol place) = S place
IsSaidSort N S s = Unit {0}

abbrev pub IsSaidWord : (ℕ → Type 0) → (ℕ → Type 0) → Word → Type 0
IsSaidWord N S w = IsSaidSort N S w.sort

module _ (N S : ℕ → Type 0) where
  abbrev AllRead : List Word → Type 0
  AllRead ws = AllByRecursion (IsSaidWord N S) ws

  abbrev Readable : List Mention → Type 0
  Readable ms = AllByRecursion (IsSaid N S) ms

  both : (xs ys : List Mention) → Readable xs → Readable ys → Readable (xs ++ ys)
  both [] ys h k = k
  both (x ∷ xs) ys h k = (h.0, both xs ys h.1 k)

  atom_read : (a : AtomPhrase) (rest : List Word) → AtomFits a → AllRead (atom_words a rest) → Readable (atom_mentions (atom_tree a)) × AllRead rest
  atom_read (name_atom n p) rest f h = ((h.0, tt), h.1)
  atom_read (nil_atom p) rest f h = (tt, h.1)
  atom_read (symbol_atom n p) rest f h = ((h.0, tt), h.1)
  atom_read (number_atom (digits v p)) rest f h = ((omega (arith, f), tt), h.1)
  atom_read (negative_atom q (digits zero p)) rest f h = ((omega arith, tt), h.1.1)
  atom_read (negative_atom q (digits (suc v) p)) rest f h = ((omega (arith, f), tt), h.1.1)

  binary_read : (c : Calc) (l r : Expr) → Readable (expr_mentions l) → Readable (expr_mentions r) → Readable (expr_mentions (expr.Binary c (l, r)))
  binary_read c l r h k = subst Readable (sym (mentions_binary c l r)) (both (expr_mentions l) (expr_mentions r) h k)

  mutual
    factor_read : (f : FactorPhrase) (o : ℕ) (rest : List Word) → FactorFits f o → AllRead (factor_words f rest) → Readable (expr_mentions (factor_tree f)) × AllRead rest
    factor_read (plain a) o rest fits h = let k = atom_read a rest fits h in (subst Readable (sym (mentions_leaf (atom_tree a))) k.0, k.1)
    factor_read (grouped p e q) o rest fits h = let k = expr_read e (o + 1) (word sort.RightParen q ∷ rest) fits.1 h.1 in (k.0, k.1.1)

    factors_read : (fs : MoreFactors) (o : ℕ) (left : Expr) (rest : List Word) → FactorsFit fs o → Readable (expr_mentions left) → AllRead (factors_words fs rest) → Readable (expr_mentions (factors_tree fs left)) × AllRead rest
    factors_read no_factor o left rest fits l h = (l, h)
    factors_read (times p f fs) o left rest fits l h =
        let k = factor_read f o (factors_words fs rest) fits.0 h.1 in
        factors_read fs o (expr.Binary calc.Times (left, factor_tree f)) rest fits.1 (binary_read calc.Times left (factor_tree f) l k.0) k.1

    term_read : (t : TermPhrase) (o : ℕ) (rest : List Word) → TermFits t o → AllRead (term_words t rest) → Readable (expr_mentions (term_tree t)) × AllRead rest
    term_read (term f fs) o rest fits h = let k = factor_read f o (factors_words fs rest) fits.0 h in factors_read fs o (factor_tree f) rest fits.1 k.0 k.1

    terms_read : (ts : MoreTerms) (o : ℕ) (left : Expr) (rest : List Word) → TermsFit ts o → Readable (expr_mentions left) → AllRead (terms_words ts rest) → Readable (expr_mentions (terms_tree ts left)) × AllRead rest
    terms_read no_term o left rest fits l h = (l, h)
    terms_read (plus p t ts) o left rest fits l h =
        let k = term_read t o (terms_words ts rest) fits.0 h.1 in
        terms_read ts o (expr.Binary calc.Plus (left, term_tree t)) rest fits.1 (binary_read calc.Plus left (term_tree t) l k.0) k.1
    terms_read (minus p t ts) o left rest fits l h =
        let k = term_read t o (terms_words ts rest) fits.0 h.1 in
        terms_read ts o (expr.Binary calc.Minus (left, term_tree t)) rest fits.1 (binary_read calc.Minus left (term_tree t) l k.0) k.1

    expr_read : (e : ExprPhrase) (o : ℕ) (rest : List Word) → GroupFits e o → AllRead (expr_words e rest) → Readable (expr_mentions (expr_tree e)) × AllRead rest
    expr_read (sum t ts) o rest fits h = let k = term_read t o (terms_words ts rest) fits.0 h in terms_read ts o (term_tree t) rest fits.1 k.0 k.1

  atoms_read : (xs : MoreAtoms) (rest : List Word) → AtomsFit xs → AllRead (atoms_words xs rest) → Readable (flat_map atom_mentions (atoms_trees xs)) × AllRead rest
  atoms_read no_atom rest fits h = (tt, h)
  atoms_read (more_atom p a xs) rest fits h =
      let k = atom_read a (atoms_words xs rest) fits.0 h.1 in
      let m = atoms_read xs rest fits.1 k.1 in
      (both (atom_mentions (atom_tree a)) (flat_map atom_mentions (atoms_trees xs)) k.0 m.0, m.1)

  call_read : (c : CallPhrase) (rest : List Word) → CallFits c → AllRead (call_words c rest) → Readable (call_mentions (call_tree c)) × AllRead rest
  call_read (a_call k p (operands l (named n q) xs r)) rest fits h =
      let m = atoms_read xs.atoms (word sort.RightParen r ∷ rest) fits h.1.1.1 in
      ((h.1.1.0, m.0), m.1.1)

  right_read : (r : RightPhrase) (rest : List Word) → RightFits r → AllRead (right_words r rest) → Readable (right_mentions (right_tree r)) × AllRead rest
  right_read (result_right c) rest fits h = call_read c rest fits h
  right_read (plain_right e) rest fits h = expr_read e 0 rest fits.0 h

  cond_read : (c : CondPhrase) (rest : List Word) → CondFits c → AllRead (cond_words c rest) → Readable (cond_mentions (cond_tree c)) × AllRead rest
  cond_read (a_cond a c p b) rest fits h =
      let k = expr_read a 0 (word (sort.Compare c) p ∷ expr_words b rest) fits.0.0 h in
      let m = expr_read b 0 rest fits.1.0 k.1.1 in
      (both (expr_mentions (expr_tree a)) (expr_mentions (expr_tree b)) k.0 m.0, m.1)

  more_read : (vs : MoreValues) (rest : List Word) → MoreFit vs → AllRead (more_words vs rest) → Readable (flat_map expr_mentions (more_trees vs)) × AllRead rest
  more_read no_value rest fits h = (tt, h)
  more_read (more_value p e vs) rest fits h =
      let k = expr_read e 0 (more_words vs rest) fits.0.0 h.1 in
      let m = more_read vs rest fits.1 k.1 in
      (both (expr_mentions (expr_tree e)) (flat_map expr_mentions (more_trees vs)) k.0 m.0, m.1)

  mutual
    stmt_read : (s : StmtPhrase) (d : ℕ) (rest : List Word) → StmtFits s d → AllRead (stmt_words s rest) → Readable (stmt_mentions (stmt_tree s)) × AllRead rest
    stmt_read (let_stmt p (named n q) a r e) d rest fits h =
        let k = right_read r (word sort.Semicolon e ∷ rest) fits h.1.1.1 in
        (subst Readable (sym (mentions_let n q (right_tree r))) (h.1.0, k.0), k.1.1)
    stmt_read (assign_stmt (named n q) a r e) d rest fits h =
        let k = right_read r (word sort.Semicolon e ∷ rest) fits h.1.1 in
        (subst Readable (sym (mentions_assign n q (right_tree r))) (h.0, k.0), k.1.1)
    stmt_read (call_stmt c e) d rest fits h =
        let k = call_read c (word sort.Semicolon e ∷ rest) fits h in
        (subst Readable (sym (mentions_perform (call_tree c))) k.0, k.1.1)
    stmt_read (if_stmt p c (block o ss q) e) d rest fits h =
        let k = cond_read c (block_words (block o ss q) (else_words e rest)) fits.0 h.1 in
        let m = stmts_read ss (d + 1) (word sort.RightBrace q ∷ else_words e rest) fits.1.1 k.1.1 in
        let n = else_read e d rest fits.2 m.1.1 in (
          subst Readable (sym (mentions_choose p (cond_tree c) (stmts_trees ss) (else_trees e)))
              (both (cond_mentions (cond_tree c)) (flat_map stmt_mentions (stmts_trees ss) ++ flat_map stmt_mentions (else_trees e)) k.0 (both (flat_map stmt_mentions (stmts_trees ss)) (flat_map stmt_mentions (else_trees e)) m.0 n.0)),
          n.1,
        )
    stmt_read (repeat_stmt p (a_turns (digits v x) a (named n q)) (block o ss z)) d rest fits h =
        let k = stmts_read ss (d + 1) (word sort.RightBrace z ∷ rest) fits.1.1 h.1.1.1.1.1 in
        let small = fits.0 in
        (subst Readable (sym (mentions_repeat p v x n q (stmts_trees ss))) (omega (arith, small), (h.1.1.1.0, k.0)), k.1.1)
    stmt_read (reply_stmt p v e) d rest fits h =
        let k = expr_read v.first 0 (more_words v.more (word sort.Semicolon e ∷ rest)) fits.0.0 h.1 in
        let m = more_read v.more (word sort.Semicolon e ∷ rest) fits.1 k.1 in
        (subst Readable (sym (mentions_answer p (expr_tree v.first ∷ more_trees v.more))) (both (expr_mentions (expr_tree v.first)) (flat_map expr_mentions (more_trees v.more)) k.0 m.0), m.1.1)

    else_read : (e : ElsePhrase) (d : ℕ) (rest : List Word) → ElseFits e d → AllRead (else_words e rest) → Readable (flat_map stmt_mentions (else_trees e)) × AllRead rest
    else_read no_else d rest fits h = (tt, h)
    else_read (an_else p (block o ss q)) d rest fits h = let k = stmts_read ss (d + 1) (word sort.RightBrace q ∷ rest) fits.1 h.1.1 in (k.0, k.1.1)

    stmts_read : (ss : StmtsPhrase) (d : ℕ) (rest : List Word) → StmtsFit ss d → AllRead (stmts_words ss rest) → Readable (flat_map stmt_mentions (stmts_trees ss)) × AllRead rest
    stmts_read no_stmt d rest fits h = (tt, h)
    stmts_read (more_stmts s ss) d rest fits h =
        let k = stmt_read s d (stmts_words ss rest) fits.0 h in
        let m = stmts_read ss d rest fits.1 k.1 in
        (both (stmt_mentions (stmt_tree s)) (flat_map stmt_mentions (stmts_trees ss)) k.0 m.0, m.1)

  block_read : (b : BlockPhrase) (d : ℕ) (rest : List Word) → BlockFits b d → AllRead (block_words b rest) → Readable (flat_map stmt_mentions (block_trees b)) × AllRead rest
  block_read (block p ss q) d rest fits h = let k = stmts_read ss (d + 1) (word sort.RightBrace q ∷ rest) fits.1 h.1 in (k.0, k.1.1)

  more_params_read : (ns : MoreParams) (rest : List Word) → AllRead (more_params_words ns rest) → Readable (flat_map param_mentions (more_params_trees ns)) × AllRead rest
  more_params_read no_more rest h = (tt, h)
  more_params_read (more_param p (named n q) ns) rest h = let k = more_params_read ns rest h.1.1 in ((h.1.0, k.0), k.1)

  params_read : (ps : ParamsPhrase) (rest : List Word) → AllRead (params_words ps rest) → Readable (flat_map param_mentions (params_trees ps)) × AllRead rest
  params_read no_param rest h = (tt, h)
  params_read (some_params ps) rest h = first_read ps.first h
    where
      first_read : (n : NamePhrase) → AllRead (name_words n (more_params_words ps.more rest)) → Readable (flat_map param_mentions (params_trees (some_params (record { first = n; more = ps.more })))) × AllRead rest
      first_read (named n p) h = let k = more_params_read ps.more rest h.1 in ((h.0, k.0), k.1)

  handlers_read : (hs : HandlersPhrase) (rest : List Word) → HandlersFit hs → AllRead (handlers_words hs rest) → Readable (flat_map handler_mentions (handlers_trees hs)) × AllRead rest
  handlers_read no_handler rest fits h = (tt, h)
  handlers_read (more_handlers (a_handler p (named n q) l ps r b) hs) rest fits h =
      let k = params_read ps (word sort.RightParen r ∷ block_words b (handlers_words hs rest)) h.1.1.1 in
      let m = block_read b 0 (handlers_words hs rest) fits.0 k.1.1 in
      let o = handlers_read hs rest fits.1 m.1 in
      let own = both (flat_map param_mentions (params_trees ps)) (flat_map stmt_mentions (block_trees b)) k.0 m.0 in
      ((h.1.0, both (flat_map param_mentions (params_trees ps) ++ flat_map stmt_mentions (block_trees b)) (flat_map handler_mentions (handlers_trees hs)) own o.0), o.1)

  tables_read : (ts : TablesPhrase) (rest : List Word) → AllRead (tables_words ts rest) → Readable (flat_map table_mentions (tables_trees ts)) × AllRead rest
  tables_read no_table rest h = (tt, h)
  tables_read (more_tables (a_table k p (named n q) e) ts) rest h = let m = tables_read ts rest h.1.1.1 in ((h.1.0, m.0), m.1)

  pub file_read : (p : FilePhrase) → FileFits p → AllRead (file_words p []) → Readable (file_mentions (file_tree p))
  file_read (a_file ts hs) fits h =
      let k = tables_read ts (handlers_words hs []) h in
      let m = handlers_read hs [] fits k.1 in
      both (flat_map table_mentions (tables_trees ts)) (flat_map handler_mentions (handlers_trees hs)) k.0 m.0

-- what the texts of words and mentions are
module _ (names : List (List ℕ)) where
  abbrev NameAt : ℕ → Type 0
  NameAt place = IsNameText (text_at names place)

  abbrev SymbolAt : ℕ → Type 0
  SymbolAt place = IsSymbolText (text_at names place)

  said_sort : (s : Sort) → IsReadableSort names s → IsSaidSort NameAt SymbolAt s
  said_sort (sort.Name place) h = h
  said_sort (sort.Symbol place) h = h
  said_sort s h = tt

  said_words : (ws : List Word) → AllByRecursion (IsReadableWord names) ws → AllByRecursion (IsSaidWord NameAt SymbolAt) ws
  said_words [] h = tt
  said_words (w ∷ ws) h = (said_sort w.sort h.0, said_words ws h.1)

  said : (m : Mention) → IsSaid NameAt SymbolAt m → IsReadable names m
  said (a_name place) h = h
  said (a_symbol place) h = h
  said (a_number z) h = h

  said_readable : (ms : List Mention) → AllByRecursion (IsSaid NameAt SymbolAt) ms → AreReadable names ms
  said_readable [] h = tt
  said_readable (m ∷ ms) h = (said m h.0, said_readable ms h.1)

  with_number : (m : Mention) → HasText names m → IsSaid (λ place. Unit {0}) (λ place. Unit {0}) m → IsReadable names m
  with_number (a_name place) h k = h
  with_number (a_symbol place) h k = h
  with_number (a_number z) h k = k

  with_numbers : (ms : List Mention) → HaveTexts names ms → AllByRecursion (IsSaid (λ place. Unit {0}) (λ place. Unit {0})) ms → AreReadable names ms
  with_numbers [] h k = tt
  with_numbers (m ∷ ms) h k = (with_number m h.0 k.0, with_numbers ms h.1 k.1)

  has_text : (m : Mention) → IsReadable names m → HasText names m
  has_text (a_name place) h = h
  has_text (a_symbol place) h = h
  has_text (a_number z) h = tt

  pub have_texts : (ms : List Mention) → AreReadable names ms → HaveTexts names ms
  have_texts [] h = tt
  have_texts (m ∷ ms) h = (has_text m h.0, have_texts ms h.1)

-- of words nothing is asked
pub unasked : (ws : List Word) → AllByRecursion (IsSaidWord (λ place. Unit {0}) (λ place. Unit {0})) ws
unasked [] = tt
unasked (w ∷ ws) = (by w.sort, unasked ws)
  where
    by : (s : Sort) → IsSaidSort (λ place. Unit {0}) (λ place. Unit {0}) s
    by (sort.Name place) = tt
    by (sort.Symbol place) = tt
    by s = tt

-- a file within the limits can be read again, where its names and symbols have texts
pub file_readable : (names : List (List ℕ)) (ws : List Word) (file : File) → IsFileWithin ws file → IsNamedFile names file → AreReadable names (file_mentions file)
file_readable names ws file within h =
    with_numbers names (file_mentions file) h
    (subst (λ f. AllByRecursion (IsSaid (λ place. Unit {0}) (λ place. Unit {0})) (file_mentions f)) (sym within.2) (file_read (λ place. Unit {0}) (λ place. Unit {0}) within.0 within.3 (unasked (file_words within.0 []))))

-- what was read of a source can be read again
pub source_readable : (names : List (List ℕ)) (source : List ℕ) (file : File) → IsFileWithin (words_of names source) file → AreReadable (names_of names source) (file_mentions file)
source_readable names source file within =
    let all = names_of names source in
    let N : ℕ → Type 0 = λ place. IsNameText (text_at all place) in
    let S : ℕ → Type 0 = λ place. IsSymbolText (text_at all place) in
    let words = said_words all (file_words within.0 []) (subst (λ ws. AllByRecursion (IsReadableWord all) ws) within.1 (words_readable names source)) in
    said_readable all (file_mentions file) (subst (λ f. AllByRecursion (IsSaid N S) (file_mentions f)) (sym within.2) (file_read N S within.0 within.3 words))

-- ---- a text that can be read is there

no_run : (c : Class) → IsRun c [] → ⊥
no_run c r = let e : false ≡ true = r.letter in absurd (cc)

text_below : (names : List (List ℕ)) (place : ℕ) (c : Class) → IsRun c (text_at names place) → place < length names
text_below names place c = by (slice_get names place) refl
  where
    by : (o : Option (List ℕ)) → slice_get names place ≡ o → IsRun c (unwrap_or o []) → place < length names
    by None e r = absurd (no_run c r)
    by (Some t) e r = slice_get_within names place t e

below_of : (names : List (List ℕ)) (m : Mention) → HasText names m → IsBelow (length names) m
below_of names (a_name place) h = text_below names place class.Name h.run
below_of names (a_symbol place) h = text_below names place class.Symbol h.run
below_of names (a_number z) h = tt

pub texts_below : (names : List (List ℕ)) (ms : List Mention) → HaveTexts names ms → AreNamed names ms
texts_below names [] h = tt
texts_below names (m ∷ ms) h = (below_of names m h.0, texts_below names ms h.1)

-- the place of such a text is one of the list
run_named : (names : List (List ℕ)) (place : ℕ) (c : Class) → IsRun c (text_at names place) → IsNamed names place
run_named names place c = by (slice_get names place) refl
  where
    by : (o : Option (List ℕ)) → slice_get names place ≡ o → IsRun c (unwrap_or o []) → IsNamed names place
    by None e r = absurd (no_run c r)
    by (Some t) e r = record { text = t; at = e; short = r.short }

pub name_named : (names : List (List ℕ)) (place : ℕ) → IsNameText (text_at names place) → IsNamed names place
name_named names place h = run_named names place class.Name h.run

pub symbol_named : (names : List (List ℕ)) (place : ℕ) → IsSymbolText (text_at names place) → IsNamed names place
symbol_named names place h = run_named names place class.Symbol h.run

-- ---- a text that stands in a list stands in a longer one

run_kept : (c : Class) (P : List ℕ → Type 0) → ((t : List ℕ) → P t → IsRun c t) → (old new : List (List ℕ)) (place : ℕ) → Begins old new → P (text_at old place) → P (text_at new place)
run_kept c P runs old new place b h = by (slice_get old place) refl h
  where
    by : (o : Option (List ℕ)) → slice_get old place ≡ o → P (unwrap_or o []) → P (text_at new place)
    by None e p = absurd (no_run c (runs [] p))
    by (Some t) e p =
        let there : slice_get new place ≡ Some t = ap (λ all. slice_get all place) b.1 ∙ front_kept old b.0 place t e in
        subst (λ (o : Option (List ℕ)). P (unwrap_or o [])) (sym there) p

text_kept : (old new : List (List ℕ)) → Begins old new → (m : Mention) → HasText old m → HasText new m
text_kept old new b (a_name place) h = run_kept class.Name IsNameText (λ t p. p.run) old new place b h
text_kept old new b (a_symbol place) h = run_kept class.Symbol IsSymbolText (λ t p. p.run) old new place b h
text_kept old new b (a_number z) h = tt

pub texts_kept : (old new : List (List ℕ)) → Begins old new → (ms : List Mention) → HaveTexts old ms → HaveTexts new ms
texts_kept old new b [] h = tt
texts_kept old new b (m ∷ ms) h = (text_kept old new b m h.0, texts_kept old new b ms h.1)
