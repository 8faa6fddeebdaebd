use Rattle.std.proofs.Common.{sym, ap, arith}
use Rattle.syntax_grammar.specs.Tokens.{piece_of}
use Rattle.syntax_grammar.specs.Words.{words, names_behind}
use Rattle.syntax_grammar.proofs.NamesGrow.{begins_after, begins_length}
use Rattle.syntax_grammar.proofs.ReaderLemmas.{Gave, gave_end, gave_less, gave_words, gave_names, gave_room, gave_none}
use Rattle.syntax_grammar.proofs.reader.next_word.Goals as goal

ended : (c : goal.In-End) → Gave c.args.tokens.now c.cut-reserved.result.0 c.cut-reserved.new.self
ended c = record { cut = c.cut-reserved.ensures.cut; start = c.cut-reserved.ensures.start; end = c.cut-reserved.ensures.end; at = c.cut-reserved.ensures.at }

pub returns-in-End-clause-words : goal.returns-in-End-clause-words
returns-in-End-clause-words c = ap (words c.args.names.now) (gave_none _ _ _ (ended c) c.in-End.is).0

pub returns-in-End-clause-names : goal.returns-in-End-clause-names
returns-in-End-clause-names c = ap (names_behind c.args.names.now) (gave_none _ _ _ (ended c) c.in-End.is).0

pub returns-in-End-clause-last : goal.returns-in-End-clause-last
returns-in-End-clause-last c _ = (gave_none _ _ _ (ended c) c.in-End.is).1

pub returns-in-End-clause-end : goal.returns-in-End-clause-end
returns-in-End-clause-end c = gave_end _ _ _ (ended c)

pub returns-in-End-clause-room : goal.returns-in-End-clause-room
returns-in-End-clause-room c = omega (arith, gave_less _ _ _ (ended c))

gave : (c : goal.In_ok-next-in_default) → Gave c.args.tokens.now c.cut-reserved.result.0 c.cut-reserved.new.self
gave c = record { cut = c.cut-reserved.ensures.cut; start = c.cut-reserved.ensures.start; end = c.cut-reserved.ensures.end; at = c.cut-reserved.ensures.at }

pub returns-in_ok-next-in_default : goal.returns-in_ok-next-in_default
returns-in_ok-next-in_default c =
    let done = c.in_ok-next-in_default.ensures in
    let g = gave c in
    let old = c.args.names.now in
    record {
      words = rw (done.value, done.names) (sym (gave_words _ _ _ old g c.in_default.not-End));
      names = rw done.names (sym (gave_names _ _ _ old g c.in_default.not-End));
      last = λ e. absurd (cc);
      end = gave_end _ _ _ g;
      room = rw done.names (gave_room _ _ _ old g c.in_default.not-End);
      count = rw done.names (begins_length old _ (begins_after old (piece_of c.cut-reserved.result.0)));
      err = tt;
    }
