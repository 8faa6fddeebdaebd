use Rattle.std.proofs.Common.{◌∷◌, ◌++◌, [], List, map, sym, ap, ◌∙◌, append_assoc, append-nil}
use Rattle.text_lines.specs.Text.{Text, words}
use Rattle.range_tables.specs.declared.word.Word.{Word}
use Rattle.range_tables.specs.Words.{word_of}
use Rattle.range_tables.proofs.taking.words_of_line.Goals as goal

pub words-preserved : goal.words-preserved
words-preserved c =
    let f : Text → Word = word_of c.args.names.now in
    let rest : List Word = map f (words c.next.new.self.rest.now) in
    record {
      next = tt;
      finite = tt;
      found =
          ap (λ (xs : List Word). xs ++ rest) (c.in_ok-push.ensures.items ∙ ap (λ (w : Word). c.words.found.items ++ w ∷ []) c.word_of.ensures)
          ∙ append_assoc c.words.found.items (f c.in-Some.word.now ∷ []) rest
          ∙ ap (λ (ws : List Text). c.words.found.items ++ map f ws) (sym c.in-Some.ensures.steps.0) ∙ c.words.invariant.found;
    }

pub returns : goal.returns
returns c = sym (append-nil c.words.found.items) ∙ ap (λ (ws : List Text). c.words.found.items ++ map (word_of c.args.names.now) ws) (sym c.in_default.ensures.steps.0) ∙ c.words.invariant.found
