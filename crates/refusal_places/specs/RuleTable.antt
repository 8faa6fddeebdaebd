-- The table of rules: the word of each, where its refusals say that it is broken, and what breaks it.
use Rattle.std.specs.Prelude.{ℕ, if◌then◌else◌, List, [], ◌∷◌, ◌++◌, Option, Some, None, codes}
use Rattle.std.specs.List.{flat_map}
use Rattle.std.specs.Str.{bytes_eq}
use Rattle.refusal_places.specs.declared.rule.PlaceKind.{PlaceKind}
use Rattle.refusal_places.specs.declared.rule.PlaceKind.TheVariants.{Nowhere, Byte, Counted, Line}
use Rattle.refusal_places.specs.declared.rule.Rule.{Rule}

-- a row: a rule's word, where its refusals say that it is broken, and what breaks it
pub record Row : Type 0 where
  pub word : List ℕ
  pub place : PlaceKind
  pub sentence : List ℕ

abbrev pub row : List ℕ → PlaceKind → List ℕ → Row
row word place sentence = record { word = word; place = place; sentence = sentence }

-- the row of a rule of the code
abbrev pub row_of : Rule → Row
row_of r = row r.word.now r.place r.sentence.now

-- the row of a rule, if there is one
abbrev pub row_option : Option Rule → Option Row
row_option None = None
row_option (Some r) = Some (row_of r)

-- the first row with this word
abbrev pub row_in : List Row → List ℕ → Option Row
row_in [] word = None
row_in (r ∷ rs) word = if bytes_eq word r.word then Some r else row_in rs word

-- the word that says where a rule's refusals say that it is broken
abbrev pub place_word : PlaceKind → List ℕ
place_word Nowhere = codes "nowhere"
place_word Byte = codes "byte"
place_word Counted = codes "counted"
place_word Line = codes "line"

-- the line of a row in the printed table
abbrev pub row_line : Row → List ℕ
row_line r = r.word ++ 32 ∷ place_word r.place ++ 32 ∷ r.sentence ++ 10 ∷ []

-- all rules
unfoldable pub rules : List Row
rules =
    row (codes "T1") Nowhere (codes "more bytes than the command reads")
    ∷ row (codes "T2") Nowhere (codes "no line %% between handlers and requests")
    ∷ row (codes "T3") Nowhere (codes "a line %% or %% tables in a file of handlers alone")
    ∷ row (codes "T4") Nowhere (codes "no UTF-8")
    ∷ row (codes "T5") Nowhere (codes "no line %% trace behind the requests")
    ∷ row (codes "T6") Nowhere (codes "more than 16 clients: a 16th line %% next")
    ∷ row (codes "S1") Byte (codes "a character that begins no token")
    ∷ row (codes "S2") Byte (codes "a token with which no file goes on")
    ∷ row (codes "S3") Byte (codes "a number that is too large")
    ∷ row (codes "S4") Byte (codes "a name of more than 64 bytes")
    ∷ row (codes "S5") Byte (codes "more blocks, parentheses or operator signs than the limit")
    ∷ row (codes "K1") Byte (codes "a name is declared twice")
    ∷ row (codes "K2") Byte (codes "no such table, or a variable that isn't visible here")
    ∷ row (codes "K3") Byte (codes "an operation has a wrong number of arguments")
    ∷ row (codes "K4") Byte (codes "a map's operation on a set, or a set's on a map")
    ∷ row (codes "K5") Byte (codes "a repeat of 0 or more than 1000 turns")
    ∷ row (codes "K6") Byte (codes "the eighth table")
    ∷ row (codes "K7") Byte (codes "the 65th handler")
    ∷ row (codes "K8") Byte (codes "the 33rd variable of a handler")
    ∷ row (codes "K9") Byte (codes "a handler of more than 10,000 calls")
    ∷ row (codes "K10") Byte (codes "a handler of more than 100,000 work")
    ∷ row (codes "A1") Counted (codes "a point at which more than 256 symbols may still be called")
    ∷ row (codes "B1") Line (codes "no such table")
    ∷ row (codes "B2") Line (codes "a map's line without one key and one value, or a set's without one key")
    ∷ row (codes "B3") Line (codes "a word of a table line that is no value")
    ∷ row (codes "B4") Line (codes "the key was given for that table before")
    ∷ row (codes "B5") Line (codes "the 100,001st table line")
    ∷ row (codes "Q1") Line (codes "no such handler")
    ∷ row (codes "Q2") Line (codes "a wrong number of arguments")
    ∷ row (codes "Q3") Line (codes "an argument that is no value")
    ∷ row (codes "Q4") Line (codes "the 20,001st request")
    ∷ row (codes "Q5") Line (codes "more than 200,000 calls in all")
    ∷ row (codes "Q6") Line (codes "more than 10,000,000 work in all")
    ∷ row (codes "G1") Line (codes "the first word of a line, or of an operation, is none that there is")
    ∷ row (codes "G2") Line (codes "too few or too many words of a line, an operation or a symbol")
    ∷ row (codes "G3") Line (codes "a word that its place doesn't allow")
    ∷ row (codes "G4") Line (codes "no such open hold")
    ∷ row (codes "G5") Line (codes "too many lines, open holds or symbols")
    ∷ row (codes "F1") Line (codes "a line of the trace part that is no event")
    ∷ row (codes "F2") Line (codes "the 440,001st event")
    ∷ []

-- the rule with this word
abbrev pub rule_of : List ℕ → Option Row
rule_of word = row_in rules word

-- the printed table
abbrev pub rules_text : List ℕ
rules_text = flat_map row_line rules
