-- The line on the error output.
use Rattle.std.specs.Prelude.{ℕ, List, [], ◌∷◌, ◌++◌, codes}
use Rattle.std.specs.Fmt.{decimal}
use Rattle.serve_words.specs.Commands.{usage_line}
use Rattle.handler_syntax.specs.Language.{SyntaxRefusal}
use Rattle.handler_syntax.specs.Language.syntax_refusal as syntax
use Rattle.handler_check.specs.declared.refusal.CheckRefusal.{CheckRefusal}
use Rattle.handler_check.specs.declared.refusal.CheckRefusal.TheVariants as check
use Rattle.may_use_analysis.specs.declared.refusal.AnalysisRefusal.{AnalysisRefusal}
use Rattle.may_use_analysis.specs.declared.refusal.AnalysisRefusal.TheVariants as analysis
use Rattle.table_lines.specs.declared.refusal.TableRefusal.{TableRefusal}
use Rattle.table_lines.specs.declared.refusal.TableRefusal.TheVariants as table
use Rattle.request_files.specs.declared.refusal.RequestRefusal.{RequestRefusal}
use Rattle.request_files.specs.declared.refusal.RequestRefusal.TheVariants as request
use Rattle.trace_lines.specs.declared.refusal.TraceRefusal.{TraceRefusal}
use Rattle.trace_lines.specs.declared.refusal.TraceRefusal.TheVariants as trace
use Rattle.range_tables.specs.declared.refusal.RangeRefusal.{RangeRefusal}
use Rattle.range_tables.specs.declared.refusal.RangeRefusal.TheVariants as range
use Rattle.serve_faults.specs.declared.status.Fault.{Fault}
use Rattle.serve_faults.specs.declared.status.Fault.TheVariants.{TooLarge, NoRequests, HasRequests, NotText, NoTrace, TooManyClients, Syntax, Check, Analysis, Tables, Request, Trace, Ranges}
use Rattle.serve_faults.specs.declared.status.Status.{Status}
use Rattle.serve_faults.specs.declared.status.Status.TheVariants.{Fine, Refused, Usage, NoMemory, ReadFault, WriteFault}

-- each line ends with a line feed
abbrev pub ended : List ℕ → List ℕ
ended text = text ++ 10 ∷ []

-- a rule, and a byte place or the number of a line
abbrev pub numbered : List ℕ → ℕ → List ℕ
numbered rule n = ended (rule ++ decimal n)

-- The rule that is broken, and where. Want of memory is no fault, and has no line here.
abbrev pub syntax_line : SyntaxRefusal → List ℕ
syntax_line (syntax.BadByte at) = numbered (codes "refused S1 at ") at
syntax_line (syntax.Unexpected at found) = numbered (codes "refused S2 at ") at
syntax_line (syntax.NumberTooLarge at) = numbered (codes "refused S3 at ") at
syntax_line (syntax.NameTooLong at) = numbered (codes "refused S4 at ") at
syntax_line (syntax.TooDeep at) = numbered (codes "refused S5 at ") at
syntax_line syntax.NoMemory = []

abbrev pub check_line : CheckRefusal → List ℕ
check_line (check.Twice at) = numbered (codes "refused K1 at ") at
check_line (check.Unknown at) = numbered (codes "refused K2 at ") at
check_line (check.Arity at) = numbered (codes "refused K3 at ") at
check_line (check.WrongTable at) = numbered (codes "refused K4 at ") at
check_line (check.RepeatBound at) = numbered (codes "refused K5 at ") at
check_line (check.TooManyTables at) = numbered (codes "refused K6 at ") at
check_line (check.TooManyHandlers at) = numbered (codes "refused K7 at ") at
check_line (check.TooManyVariables at) = numbered (codes "refused K8 at ") at
check_line (check.TooManyCalls at) = numbered (codes "refused K9 at ") at
check_line (check.TooMuchWork at) = numbered (codes "refused K10 at ") at
check_line check.NoMemory = []

abbrev pub analysis_line : AnalysisRefusal → List ℕ
analysis_line (analysis.TooManySymbols at count) =
    ended (codes "refused A1 at " ++ decimal at ++ codes " count " ++ decimal count)
analysis_line analysis.NoMemory = []

abbrev pub table_line : TableRefusal → List ℕ
table_line (table.UnknownTable line) = numbered (codes "refused B1 line ") line
table_line (table.Arity line) = numbered (codes "refused B2 line ") line
table_line (table.BadWord line) = numbered (codes "refused B3 line ") line
table_line (table.Twice line) = numbered (codes "refused B4 line ") line
table_line (table.TooManyEntries line) = numbered (codes "refused B5 line ") line
table_line table.NoMemory = []

abbrev pub request_line : RequestRefusal → List ℕ
request_line (request.UnknownHandler line) = numbered (codes "refused Q1 line ") line
request_line (request.Arity line) = numbered (codes "refused Q2 line ") line
request_line (request.BadWord line) = numbered (codes "refused Q3 line ") line
request_line (request.TooManyRequests line) = numbered (codes "refused Q4 line ") line
request_line (request.TooManyCalls line) = numbered (codes "refused Q5 line ") line
request_line (request.TooMuchWork line) = numbered (codes "refused Q6 line ") line
request_line request.NoMemory = []

abbrev pub trace_line : TraceRefusal → List ℕ
trace_line (trace.BadEvent line) = numbered (codes "refused F1 line ") line
trace_line (trace.TooManyEvents line) = numbered (codes "refused F2 line ") line
trace_line trace.NoMemory = []

abbrev pub range_line : RangeRefusal → List ℕ
range_line (range.UnknownWord line) = numbered (codes "refused G1 line ") line
range_line (range.Arity line) = numbered (codes "refused G2 line ") line
range_line (range.BadWord line) = numbered (codes "refused G3 line ") line
range_line (range.NotOpen line) = numbered (codes "refused G4 line ") line
range_line (range.TooMany line) = numbered (codes "refused G5 line ") line
range_line range.NoMemory = []

abbrev pub fault_line : Fault → List ℕ
fault_line TooLarge = ended (codes "refused T1")
fault_line NoRequests = ended (codes "refused T2")
fault_line HasRequests = ended (codes "refused T3")
fault_line NotText = ended (codes "refused T4")
fault_line NoTrace = ended (codes "refused T5")
fault_line TooManyClients = ended (codes "refused T6")
fault_line (Syntax e) = syntax_line e
fault_line (Check e) = check_line e
fault_line (Analysis e) = analysis_line e
fault_line (Tables e) = table_line e
fault_line (Request e) = request_line e
fault_line (Trace e) = trace_line e
fault_line (Ranges e) = range_line e

-- a fine run has none
abbrev pub message_of : Status → List ℕ
message_of Fine = []
message_of Usage = usage_line
message_of (Refused fault) = fault_line fault
message_of NoMemory = ended (codes "no memory")
message_of ReadFault = ended (codes "read fault")
message_of WriteFault = ended (codes "write fault")
