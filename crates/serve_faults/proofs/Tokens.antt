-- The words of the handlers of a made session, and the names behind them.
use Rattle.std.proofs.Common.{◌≡◌, ℕ, List, [], ◌∷◌, refl, arith}
use Rattle.std.specs.Prelude.{codes}
use Rattle.syntax_grammar.specs.Scan.{scan, scan_name, scan_bad, scan_symbol, scan_sign}
use Rattle.syntax_grammar.specs.Keyword.{keyword_of, statement_word_of, operation_of, sign_of}
use Rattle.syntax_grammar.specs.Words.{words_of, names_of, word_after, names_after, number_of, unquoted}
use Rattle.syntax_grammar.specs.Phrase.{file_words}
use Rattle.syntax_grammar.specs.Limits.{FileFits}
use Rattle.serve_faults.specs.Language.{IsSourceOf}
use Rattle.serve_faults.specs.ServeSession.{handlers_text}
use Rattle.serve_faults.proofs.Phrases.{made_phrase, made_file}

made_words : words_of [] handlers_text ≡ file_words made_phrase []
unfolding words_of word_after names_after scan scan_name scan_bad scan_symbol scan_sign keyword_of statement_word_of operation_of sign_of number_of unquoted
made_words = refl

-- the names in the order of their first appearance
abbrev pub made_names : List (List ℕ)
made_names = codes "seats" ∷ codes "online" ∷ codes "login" ∷ codes "u" ∷ codes "now" ∷ codes "old" ∷ codes "logout" ∷ codes "seen" ∷ codes "at" ∷ codes "on" ∷ codes "crowd" ∷ codes "n" ∷ []

pub names_are : names_of [] handlers_text ≡ made_names
unfolding names_of names_after scan scan_name scan_bad scan_symbol scan_sign keyword_of statement_word_of operation_of sign_of number_of unquoted
names_are = refl

-- no limit is broken
made_fits : FileFits made_phrase
made_fits = (
  (omega arith, ((tt, (tt, tt)), ((tt, tt), ((((((tt, tt), tt), omega arith), tt)), tt)))),
  (
    (omega arith, ((tt, tt), ((tt, tt), tt))),
    (
      (omega arith, ((tt, tt), ((tt, tt), ((((((tt, tt), tt), omega arith), ((((tt, tt), tt), omega arith), tt))), tt)))),
      (
        (omega arith, (tt, ((((((tt, tt), tt), omega arith), tt)), tt))),
        tt,
      ),
    ),
  ),
)

pub made_form : IsSourceOf [] handlers_text made_file
made_form = (made_phrase, made_words, refl, made_fits)
