-- What a reader shows, and what it keeps.
use Rattle.std.specs.Prelude.{◌+◌, ◌<◌, length}
use Rattle.syntax_grammar.specs.declared.reader.Reader.TheInside.{Inside}
use Rattle.syntax_grammar.specs.Reading.{Reading, words_left, names_left, end_of}

-- what the fields stand for
abbrev pub reading_of : Inside → Reading
reading_of r =
    record {
      words = words_left r.ahead r.names.now r.tokens;
      end = end_of r.tokens;
      names = names_left r.names.now r.tokens;
      count = length r.names.now;
      home = r.names.ghost_name;
    }

-- each token may still have a new name
abbrev pub HasRoom : Inside → Type 0
HasRoom r = length r.names.now + length r.tokens.rest.now < 4294967295
