-- The names of the tables, as the lines of events have them.
use Rattle.std.proofs.Common.{◌≡◌, ℕ, true, false, List, [], ◌∷◌, map, refl, sym, ap, ◌∙◌, subst, arith}
use Rattle.std.specs.Char.{is_ascii_alphabetic}
use Rattle.std.specs.List.{AllByRecursion}
use Rattle.std.specs.Prelude.{◌==◌, slice_index}
use Rattle.std.proofs.lemmas.Bool.Decides.{nat_tests}
use Rattle.session_values.specs.Names.{AreDistinct}
use Rattle.handler_check.specs.TableDecl.{TableDecl}
use Rattle.handler_syntax.specs.Language.{File}
use Rattle.text_lines.specs.Text.{Text}
use Rattle.text_lines.specs.Values.{is_symbol}
use Rattle.text_lines.proofs.WordsBack.{symbol_word}
use Rattle.table_lines.specs.ReadBack.{texts_of}
use Rattle.serve_faults.specs.EventText.{text_at}
use Rattle.serve_faults.specs.EventWords.{IsTableName, table_names}
use Rattle.serve_faults.specs.Input.{Parts}
use Rattle.serve_faults.specs.Session.{IsSession, all_names_of, handler_names_of}
use Rattle.serve_faults.specs.Traced.{table_places}
use Rattle.file_laws.proofs.Sessions.{known, old_all}
use Rattle.serve_faults.proofs.SymbolTexts.{AreSymbols, handler_symbols, symbol_bytes, symbol_letter}
use Rattle.file_laws.proofs.TableNames.{differ, texts_kept, texts_symbols}
use Rattle.file_laws.proofs.Ascii.{IsAscii}

same_texts : (names : List Text) (ds : List TableDecl) → table_names names (map (λ (t : TableDecl). t.name) ds) ≡ texts_of names ds
same_texts names [] = refl
same_texts names (d ∷ ds) = ap (λ (ts : List Text). text_at names d.name ∷ ts) (same_texts names ds)

no_quote : (w : Text) → is_ascii_alphabetic (slice_index w 0) ≡ true → (slice_index w 0 == 39) ≡ false
no_quote w e = by (slice_index w 0) e
  where
    by : (b : ℕ) → is_ascii_alphabetic b ≡ true → (b == 39) ≡ false
    by b e = grind (arith, nat_tests, e)

names_are : (ts : List Text) → AllByRecursion (λ t. is_symbol t ≡ true) ts → AllByRecursion IsTableName ts
names_are [] h = tt
names_are (t ∷ ts) h = (record { word = symbol_word t h.0; plain = no_quote t (symbol_letter t h.0) }, names_are ts h.1)

ascii_are : (ts : List Text) → AllByRecursion (λ t. is_symbol t ≡ true) ts → AllByRecursion IsAscii ts
ascii_are [] h = tt
ascii_are (t ∷ ts) h = (symbol_bytes t h.0, ascii_are ts h.1)

module _ (parts : Parts) (file : File) (is : IsSession parts file) where
  abbrev old : List Text
  old = handler_names_of parts

  symbols : AreSymbols old
  symbols = handler_symbols parts.handlers

  texts_are : table_names (all_names_of parts) (table_places file) ≡ texts_of old file.tables
  texts_are = same_texts (all_names_of parts) file.tables ∙ texts_kept old (all_names_of parts) file.tables (old_all parts file is) (known parts file is)

  each : AllByRecursion (λ t. is_symbol t ≡ true) (texts_of old file.tables)
  each = texts_symbols old file.tables symbols.each (known parts file is)

  pub tables_named : AllByRecursion IsTableName (table_names (all_names_of parts) (table_places file))
  tables_named = subst (AllByRecursion IsTableName) (sym texts_are) (names_are (texts_of old file.tables) each)

  pub tables_ascii : AllByRecursion IsAscii (table_names (all_names_of parts) (table_places file))
  tables_ascii = subst (AllByRecursion IsAscii) (sym texts_are) (ascii_are (texts_of old file.tables) each)

  texts_apart : AreDistinct (texts_of old file.tables)
  texts_apart i j t e f =
      sym (differ old file symbols.distinct (known parts file is) is.program.accepted.keeps i t e) ∙ differ old file symbols.distinct (known parts file is) is.program.accepted.keeps j t f

  pub tables_apart : AreDistinct (table_names (all_names_of parts) (table_places file))
  tables_apart = subst AreDistinct (sym texts_are) texts_apart
