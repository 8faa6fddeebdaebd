-- What is mentioned keeps its text in a longer list.
use Rattle.std.proofs.Common.{ℕ, List}
use Rattle.session_values.specs.Names.{Begins}
use Rattle.syntax_grammar.proofs.Said as said
use Rattle.handler_syntax.specs.Language.{Mention, HaveTexts}

pub texts_kept : (old new : List (List ℕ)) → Begins old new → (ms : List Mention) → HaveTexts old ms → HaveTexts new ms
texts_kept = said.texts_kept
