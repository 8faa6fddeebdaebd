-- Each command line has an answer to each input.
use Rattle.std.proofs.Common.{ℕ, List, Some}
use Rattle.serve_faults.specs.Command.{Command}
use Rattle.serve_faults.specs.Command.TheVariants.{Check, Show, Serve, Dump, Work, Ranges, Trace, Audit, Clients}
use Rattle.serve_faults.specs.Answer.{Answer, CommandAnswers, IsAnswer}
use Rattle.serve_faults.specs.Answer as answer
use Rattle.serve_faults.specs.Commands.{input_of}
use Rattle.serve_faults.proofs.SomeAnswer.{IsOfEvents, has_answer}
use Rattle.file_laws.proofs.SomeText.{some_audit, some_trace}

of_events : (c : Command) (bytes : List ℕ) → IsOfEvents c (input_of c bytes) → (a : Answer) × CommandAnswers (Some c) bytes a
of_events Check bytes e = absurd e
of_events Show bytes e = absurd e
of_events (Serve callers shards) bytes e = absurd e
of_events (Dump callers shards) bytes e = absurd e
of_events (Work requests start) bytes e = absurd e
of_events Ranges bytes e = absurd e
of_events (Trace callers shards) bytes e =
    let t = some_trace (input_of (Trace callers shards) bytes) e.0.short e.1 e.2 in
    (answer.Text t.0, (e.0, t.1))
of_events Audit bytes e =
    let t = some_audit (input_of Audit bytes) e.0.short.0 e.0.short.1 e.1 e.2 e.3 in
    (answer.Text t.0, (e.0, t.1))
of_events (Clients callers shards) bytes e = absurd e

pub some_answer : (words : List (List ℕ)) (bytes : List ℕ) → (a : Answer) × IsAnswer words bytes a
some_answer = has_answer of_events
