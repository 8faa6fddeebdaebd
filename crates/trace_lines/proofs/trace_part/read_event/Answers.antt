use Rattle.std.proofs.Common.{◌≤◌, ◌<◌, ◌∷◌, List, length, sym, ap, ◌∙◌, arith}
use Rattle.text_lines.specs.Text.{Text, words}
use Rattle.trace_lines.specs.declared.words.Word.{Word}
use Rattle.trace_lines.specs.EventRows.{AreKnown}
use Rattle.trace_lines.specs.EventWords.{event_of}
use Rattle.trace_lines.specs.Placing.{max_words, texts}
use Rattle.trace_lines.proofs.Alike.{names_kept}
use Rattle.trace_lines.proofs.Kept.{agree_kept, event_same}
use Rattle.trace_lines.proofs.Long.{event_long}
use Rattle.trace_lines.proofs.Rows.{known_kept}
use Rattle.trace_lines.proofs.trace_part.read_event.Goals as goal

pub returns-then-len-ge-MAX_WORDS-clause-event : goal.returns-then-len-ge-MAX_WORDS-clause-event
returns-then-len-ge-MAX_WORDS-clause-event c = λ later le.
    let many : max_words ≤ length c.take_words.new.words.items = omega (arith, c.if-len-ge-MAX_WORDS.true, c.len.ensures) in
    sym (event_long later c.args.tables.places.now c.args.tables.kinds.now c.args.word.now (words c.args.line.rest.now) (c.in_ok-take_words.ensures.many many))

pub event-requires-clause-known : goal.event-requires-clause-known
event-requires-clause-known c = known_kept c.args.names.now c.take_words.new.names c.args.tables.places.now c.take_words.ensures.kept c.requires.known

pub returns-clause-event : goal.returns-clause-event
returns-clause-event c = λ later le.
    let ns = c.take_words.new.names in let ts = c.args.tables.places.now in let ks = c.args.tables.kinds.now in
    let items : List Word = c.take_words.new.words.items in
    let few : length items < max_words = omega (arith, c.if-len-ge-MAX_WORDS.false, c.len.ensures) in
    let known : AreKnown ns ts = known_kept c.args.names.now ns ts c.take_words.ensures.kept c.requires.known in
    c.event.ensures.event
    ∙ ap (λ (ws : List Word). event_of ns ts ks (c.args.word.now ∷ texts ws)) c.as_slice.ensures.value
    ∙ event_same ns later ts ks (names_kept ns later ts le known) c.args.word.now (texts items) (agree_kept ns later items le c.in_ok-take_words.ensures.placed)
    ∙ ap (λ (ws : List Text). event_of later ts ks (c.args.word.now ∷ ws)) (c.in_ok-take_words.ensures.all few)
