-- One row a command: all that is asked of a command, but the text that it writes.
use Rattle.std.specs.Prelude.{ℕ, Bool, true, false, List, [], Option, None}
use Rattle.session_values.specs.Limits.{max_input}
use Rattle.request_files.specs.TracePart.{before_trace, has_trace}
use Rattle.serve_words.specs.declared.command.Command.{Command}
use Rattle.serve_words.specs.declared.command.Command.TheVariants.{Check, Show, Serve, Dump, Work, Ranges, Trace, Audit, Clients}
use Rattle.serve_words.specs.Session.{session_text}
use Rattle.serve_faults.specs.declared.status.Fault.{Fault}
use Rattle.serve_faults.specs.Parts.{Parts, alone_fault, client_marks, clients_fault, divided_fault, has_mark, is_divided, max_audit_input, of_all_clients, parts_of, traced_fault}

pub record CommandRow : Type 0 where
  -- it reads its source
  pub reads : Bool
  -- it serves requests through a hall
  pub serves : Bool
  -- it serves several clients, in rounds
  pub gathers : Bool
  -- it judges a trace
  pub judges : Bool
  -- it writes the events of its run
  pub writes_events : Bool
  -- its text is fixed by its input: a trace also tells which caller came first, and the lines of
  -- clients whose request came first
  pub fixes_text : Bool
  -- it answers to handlers
  pub handlers : Bool
  -- it answers to requests behind a dividing line
  pub requests : Bool
  -- how many callers it serves with, over how many shards a table; one that serves nothing has none
  pub callers : ℕ
  pub shards : ℕ
  -- the most bytes of its input
  pub most : ℕ
  -- what it answers to, if its source has these bytes: `work` answers to a session that it makes
  pub input : List ℕ → List ℕ
  -- the session file in an input: for `audit` what stands before the trace part
  pub session : List ℕ → List ℕ
  -- what it answers to, of the parts of its session file
  pub parts : Parts → Parts
  -- the fault of an input that hasn't the parts that it wants; lines of holds and operations have none
  pub fault : List ℕ → Option Fault
  -- the text of the handlers in an input
  pub text : List ℕ → List ℕ

-- the row of a command
abbrev pub row : Command → CommandRow
row Check = record {
  reads = true;
  serves = false;
  gathers = false;
  judges = false;
  writes_events = false;
  fixes_text = true;
  handlers = true;
  requests = false;
  callers = 0;
  shards = 0;
  most = max_input;
  input = λ bytes. bytes;
  session = λ input. input;
  parts = λ parts. parts;
  fault = λ input. alone_fault (has_mark input);
  text = λ input. input;
}
row Show = record {
  reads = true;
  serves = false;
  gathers = false;
  judges = false;
  writes_events = false;
  fixes_text = true;
  handlers = true;
  requests = false;
  callers = 0;
  shards = 0;
  most = max_input;
  input = λ bytes. bytes;
  session = λ input. input;
  parts = λ parts. parts;
  fault = λ input. alone_fault (has_mark input);
  text = λ input. input;
}
row (Serve callers shards) = record {
  reads = true;
  serves = true;
  gathers = false;
  judges = false;
  writes_events = false;
  fixes_text = true;
  handlers = true;
  requests = true;
  callers = callers;
  shards = shards;
  most = max_input;
  input = λ bytes. bytes;
  session = λ input. input;
  parts = λ parts. parts;
  fault = λ input. divided_fault (is_divided input);
  text = λ input. (parts_of input).handlers;
}
row (Dump callers shards) = record {
  reads = true;
  serves = true;
  gathers = false;
  judges = false;
  writes_events = false;
  fixes_text = true;
  handlers = true;
  requests = true;
  callers = callers;
  shards = shards;
  most = max_input;
  input = λ bytes. bytes;
  session = λ input. input;
  parts = λ parts. parts;
  fault = λ input. divided_fault (is_divided input);
  text = λ input. (parts_of input).handlers;
}
row (Work requests start) = record {
  reads = false;
  serves = true;
  gathers = false;
  judges = false;
  writes_events = false;
  fixes_text = true;
  handlers = true;
  requests = true;
  callers = 4;
  shards = 4;
  most = max_input;
  input = λ bytes. session_text requests start;
  session = λ input. input;
  parts = λ parts. parts;
  fault = λ input. divided_fault (is_divided input);
  text = λ input. (parts_of input).handlers;
}
row Ranges = record {
  reads = true;
  serves = false;
  gathers = false;
  judges = false;
  writes_events = false;
  fixes_text = true;
  handlers = false;
  requests = false;
  callers = 0;
  shards = 0;
  most = max_input;
  input = λ bytes. bytes;
  session = λ input. input;
  parts = λ parts. parts;
  fault = λ input. None;
  text = λ input. [];
}
row (Trace callers shards) = record {
  reads = true;
  serves = true;
  gathers = false;
  judges = false;
  writes_events = true;
  fixes_text = false;
  handlers = true;
  requests = true;
  callers = callers;
  shards = shards;
  most = max_input;
  input = λ bytes. bytes;
  session = λ input. input;
  parts = λ parts. parts;
  fault = λ input. divided_fault (is_divided input);
  text = λ input. (parts_of input).handlers;
}
row Audit = record {
  reads = true;
  serves = false;
  gathers = false;
  judges = true;
  writes_events = false;
  fixes_text = true;
  handlers = true;
  requests = true;
  callers = 0;
  shards = 0;
  most = max_audit_input;
  input = λ bytes. bytes;
  session = λ input. before_trace input;
  parts = λ parts. parts;
  fault = λ input. traced_fault (is_divided (before_trace input)) (has_trace input);
  text = λ input. (parts_of (before_trace input)).handlers;
}
row (Clients callers shards) = record {
  reads = true;
  serves = true;
  gathers = true;
  judges = false;
  writes_events = false;
  fixes_text = false;
  handlers = true;
  requests = true;
  callers = callers;
  shards = shards;
  most = max_input;
  input = λ bytes. bytes;
  session = λ input. input;
  parts = λ parts. of_all_clients parts;
  fault = λ input. clients_fault (is_divided input) (client_marks input);
  text = λ input. (parts_of input).handlers;
}
