-- The canonical words of a file are read again.
use Rattle.std.proofs.Common.{◌≡◌, ℕ, List, [], ◌∷◌, map, refl, sym, ap, ◌∙◌, subst}
use Rattle.session_values.specs.Names.{AreDistinct}
use Rattle.syntax_grammar.specs.declared.word.Sort.TheVariants as sort
use Rattle.syntax_grammar.specs.declared.word.Word.{Word}
use Rattle.syntax_grammar.specs.Words.{words_of, names_of}
use Rattle.syntax_trees.specs.declared.stmt.Stmt.{Stmt}
use Rattle.syntax_trees.specs.declared.file.Param.{Param}
use Rattle.syntax_trees.specs.declared.file.TableDecl.{TableDecl}
use Rattle.syntax_trees.specs.declared.file.Handler.{Handler}
use Rattle.syntax_trees.specs.declared.file.File.{File}
use Rattle.syntax_grammar.specs.Phrase.{NamePhrase, named, MoreParams, no_more, more_param, ParamsPhrase, no_param, some_params, block, HandlerPhrase, a_handler, HandlersPhrase, no_handler, more_handlers, a_table, TablesPhrase, no_table, more_tables, FilePhrase, a_file, name_words, more_params_words, params_words, handler_words, handlers_words, tables_words, file_words}
use Rattle.syntax_grammar.specs.Tree.{param_of, more_params_trees, params_trees, stmts_trees, handler_tree, handlers_trees, table_tree, tables_trees, file_tree}
use Rattle.syntax_grammar.specs.Limits.{HandlersFit, FileFits, IsFileWithin}
use Rattle.syntax_printer.specs.Canonical.{canonical_text}
use Rattle.syntax_printer.specs.CanonicalWords.{each_sorts, further_sorts, listed_sorts, param_sorts, handler_sorts, table_sorts, canonical_words}
use Rattle.syntax_grammar.specs.Texts.{IsNamedFile}
use Rattle.syntax_grammar.proofs.Said.{file_readable}
use Rattle.syntax_printer.proofs.ReadBack as printed
use Rattle.handler_syntax.specs.SameTree.{stmt_bare, param_bare, table_bare, handler_bare, file_bare, SameTree}
use Rattle.handler_syntax.proofs.Stmts.{stmts_read}
use Rattle.handler_syntax.proofs.Words.{HaveSorts, Reads, mark, made, followed, empty}

-- ---- parameters

record IsName (m n : NamePhrase) : Type 0 where
  tree : param_bare (param_of n) ≡ param_bare (param_of m)

name_reads : (n : NamePhrase) → Reads name_words (IsName n) (param_sorts (param_of n))
name_reads (named n p) = made (mark (sort.Name n)) (named n) (λ q rest. refl) (λ q g. record { tree = refl })

record AreMore (ms ns : MoreParams) : Type 0 where
  tree : map param_bare (more_params_trees ns) ≡ map param_bare (more_params_trees ms)

more_read : (ns : MoreParams) → Reads more_params_words (AreMore ns) (further_sorts (map param_sorts (more_params_trees ns)))
more_read no_more = empty no_more (λ rest. refl) (record { tree = refl })
more_read (more_param p n ns) =
    made (followed (mark sort.Comma) (followed (name_reads n) (more_read ns))) (λ x. more_param x.0 x.1.0 x.1.1) (λ x rest. refl)
    (λ x g. record { tree = ap (λ y. y ∷ map param_bare (more_params_trees x.1.1)) g.1.0.tree ∙ ap (λ l. param_bare (param_of n) ∷ l) g.1.1.tree })

record AreParams (ps qs : ParamsPhrase) : Type 0 where
  tree : map param_bare (params_trees qs) ≡ map param_bare (params_trees ps)

params_read : (ps : ParamsPhrase) → Reads params_words (AreParams ps) (listed_sorts (map param_sorts (params_trees ps)))
params_read no_param = empty no_param (λ rest. refl) (record { tree = refl })
params_read (some_params ps) =
    made (followed (name_reads ps.first) (more_read ps.more)) (λ x. some_params (record { first = x.0; more = x.1 })) (λ x rest. refl)
    (λ x g. record { tree = ap (λ y. y ∷ map param_bare (more_params_trees x.1)) g.0.tree ∙ ap (λ l. param_bare (param_of ps.first) ∷ l) g.1.tree })

-- ---- handlers

record IsHandler (g h : HandlerPhrase) : Type 0 where
  tree : handler_bare (handler_tree h) ≡ handler_bare (handler_tree g)
  fits : HandlersFit (more_handlers h no_handler)

bare_handler : ℕ → List Param → List Stmt → Handler
bare_handler n ps body = record { name = n; at = 0; params = ps; body = body }

handler_reads : (h : HandlerPhrase) → HandlersFit (more_handlers h no_handler) → Reads handler_words (IsHandler h) (handler_sorts (handler_tree h))
unfolding bare_handler
handler_reads (a_handler p (named n q) l ps r (block b ss z)) h =
    made (followed (mark sort.Handler) (followed (mark (sort.Name n)) (followed (mark sort.LeftParen) (followed (params_read ps) (followed (mark sort.RightParen) (followed (mark sort.LeftBrace) (followed (stmts_read ss 1 h.0.1) (mark sort.RightBrace))))))))
    (λ x. a_handler x.0 (named n x.1.0) x.1.1.0 x.1.1.1.0 x.1.1.1.1.0 (block x.1.1.1.1.1.0 x.1.1.1.1.1.1.0 x.1.1.1.1.1.1.1)) (λ x rest. refl)
    (λ x g. record {
      tree = ap (λ v. bare_handler n v (map stmt_bare (stmts_trees x.1.1.1.1.1.1.0))) g.1.1.1.0.tree ∙ ap (bare_handler n (map param_bare (params_trees ps))) g.1.1.1.1.1.1.0.tree;
      fits = ((h.0.0, g.1.1.1.1.1.1.0.fits), tt);
    })

record AreHandlers (gs hs : HandlersPhrase) : Type 0 where
  tree : map handler_bare (handlers_trees hs) ≡ map handler_bare (handlers_trees gs)
  fits : HandlersFit hs

-- one handler that fits, before others that do
handlers_fit : (h : HandlerPhrase) (hs : HandlersPhrase) → HandlersFit (more_handlers h no_handler) → HandlersFit hs → HandlersFit (more_handlers h hs)
handlers_fit (a_handler p n l ps r b) hs h k = (h.0, k)

handlers_read : (hs : HandlersPhrase) → HandlersFit hs → Reads handlers_words (AreHandlers hs) (each_sorts (map handler_sorts (handlers_trees hs)))
handlers_read no_handler h = empty no_handler (λ rest. refl) (record { tree = refl; fits = tt })
handlers_read (more_handlers (a_handler p n l ps r b) hs) h =
    let first = a_handler p n l ps r b in
    made (followed (handler_reads first (h.0, tt)) (handlers_read hs h.1)) (λ x. more_handlers x.0 x.1) (λ x rest. refl)
    (λ x g. record {
      tree = ap (λ y. y ∷ map handler_bare (handlers_trees x.1)) g.0.tree ∙ ap (λ l. handler_bare (handler_tree first) ∷ l) g.1.tree;
      fits = handlers_fit x.0 x.1 g.0.fits g.1.fits;
    })

-- ---- tables

record AreTables (ts us : TablesPhrase) : Type 0 where
  tree : map table_bare (tables_trees us) ≡ map table_bare (tables_trees ts)

tables_read : (ts : TablesPhrase) → Reads tables_words (AreTables ts) (each_sorts (map table_sorts (tables_trees ts)))
tables_read no_table = empty no_table (λ rest. refl) (record { tree = refl })
tables_read (more_tables (a_table k p (named n q) e) ts) =
    made (followed (mark (sort.Table k)) (followed (mark (sort.Name n)) (followed (mark sort.Semicolon) (tables_read ts))))
    (λ x. more_tables (a_table k x.0 (named n x.1.0) x.1.1.0) x.1.1.1) (λ x rest. refl)
    (λ x g. record { tree = ap (λ l. table_bare (table_tree (a_table k p (named n q) e)) ∷ l) g.1.1.1.tree })

-- ---- files

record IsFile (f g : FilePhrase) : Type 0 where
  tree : file_bare (file_tree g) ≡ file_bare (file_tree f)
  fits : FileFits g

bare_file : List TableDecl → List Handler → File
bare_file ts hs = record { tables = ts; handlers = hs }

file_reads : (f : FilePhrase) → FileFits f → Reads file_words (IsFile f) (λ ss. each_sorts (map table_sorts (file_tree f).tables) (each_sorts (map handler_sorts (file_tree f).handlers) ss))
unfolding bare_file
file_reads (a_file ts hs) h =
    made (followed (tables_read ts) (handlers_read hs h)) (λ x. a_file x.0 x.1) (λ x rest. refl)
    (λ x g. record {
      tree = ap (λ v. bare_file v (map handler_bare (handlers_trees x.1))) g.0.tree ∙ ap (bare_file (map table_bare (tables_trees ts))) g.1.tree;
      fits = g.1.fits;
    })

-- no words are left where no sorts are
none_left : (us : List Word) → HaveSorts us [] → us ≡ []
none_left [] h = refl
none_left (w ∷ us) h = absurd (cc)

file_again : (f : FilePhrase) → FileFits f → (us : List Word) → HaveSorts us (canonical_words (file_tree f)) → (g : File) × IsFileWithin us g × SameTree (file_tree f) g
file_again f fits us h =
    let x = (file_reads f fits).again us [] h in
    let whole : us ≡ file_words x.phrase [] = x.is ∙ ap (file_words x.phrase) (none_left x.rest x.others) in
    (file_tree x.phrase, (x.phrase, whole, refl, x.good.fits), sym x.good.tree)

pub canonical_again : (ws us : List Word) (file : File) → IsFileWithin ws file → HaveSorts us (canonical_words file) → (g : File) × IsFileWithin us g × SameTree file g
canonical_again ws us file within h =
    let same : file ≡ file_tree within.0 = within.2 in
    subst (λ f. HaveSorts us (canonical_words f) → (g : File) × IsFileWithin us g × SameTree f g) (sym same) (file_again within.0 within.3 us) h

pub text_again : (names : List (List ℕ)) (ws : List Word) (file : File) → AreDistinct names → IsFileWithin ws file → IsNamedFile names file
    → (g : File) × IsFileWithin (words_of names (canonical_text names file)) g × SameTree file g × (names_of names (canonical_text names file) ≡ names)
text_again names ws file distinct within texts =
    let readable = file_readable names ws file within texts in
    let text = canonical_text names file in
    let r = printed.reads_back names file text distinct refl readable in
    let x = canonical_again ws (words_of names text) file within r.same_words in
    (x.0, x.1, x.2, r.same_names)
