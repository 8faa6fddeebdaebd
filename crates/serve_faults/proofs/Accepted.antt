-- The handlers of a made session break no rule, and at no point too many operations may still come.
use Rattle.std.proofs.Common.{◌≡◌, ℕ, inl, inr, List, [], ◌∷◌, ◌++◌, None, refl, ap, ◌∙◌, subst, Contains, arith}
use Rattle.std.proofs.lemmas.List.Elements.{All-from_recursion, All-contains}
use Rattle.handler_check.specs.Handler.{Handler}
use Rattle.handler_check.specs.TableDecl.{TableDecl}
use Rattle.handler_check.specs.declared.refusal.CheckRefusal.{CheckRefusal}
use Rattle.handler_check.specs.declared.refusal.CheckRefusal.TheVariants.{Twice, Unknown, Arity, WrongTable, RepeatBound, TooManyTables, TooManyHandlers, TooManyVariables, TooManyCalls, TooMuchWork, NoMemory}
use Rattle.handler_check.specs.FirstFault.{KeepsRules}
use Rattle.handler_check.specs.Marks.{handler_marks}
use Rattle.handler_check.specs.Rules.{IsBroken}
use Rattle.handler_check.specs.Scan.{Fault, or_else, declared_fault, of_handlers, of_variables, scan, scan_handlers, file_fault}
use Rattle.handler_check.proofs.Finds.{Finds}
use Rattle.handler_check.proofs.Files.{finds_file}
use Rattle.handler_check.specs.Checking.{IsAccepted, IsBeyond}
use Rattle.handler_check.specs.Resolved.{handler_code, code_at}
use Rattle.serve_faults.proofs.Rising.{places_rise}
use Rattle.may_use_analysis.specs.declared.refusal.AnalysisRefusal.{AnalysisRefusal}
use Rattle.may_use_analysis.specs.declared.refusal.AnalysisRefusal.TheVariants.{TooManySymbols, NoMemory as NoRoom}
use Rattle.may_use_analysis.specs.Later.{HasAnswer, HasLater, IsTooMany}
use Rattle.may_use_analysis.proofs.Answered.{answered}
use Rattle.serve_faults.specs.ServeSession.{handlers_text}
use Rattle.serve_faults.specs.Session.{IsProgram}
use Rattle.serve_faults.proofs.Phrases.{made_file, login, logout, seen, crowd}
use Rattle.serve_faults.proofs.Tokens.{made_form}
use Rattle.serve_faults.proofs.Handlers.{login_marked, logout_marked, seen_marked, crowd_marked, IsSmall, small_at, small_handlers}
use Rattle.serve_faults.proofs.Symbols.{few_later}

-- handlers behind these names have no fault
abbrev AreFine : List TableDecl → List ℕ → List Handler → Type 0
AreFine tables earlier [] = Unit {0}
AreFine tables earlier (h ∷ hs) = (declared_fault of_handlers.limit of_handlers.past earlier h.name h.at ≡ None)
    × (scan of_variables tables [] [] (handler_marks h) ≡ None) × AreFine tables (earlier ++ h.name ∷ []) hs

fine_scan : (tables : List TableDecl) (earlier : List ℕ) (hs : List Handler) → AreFine tables earlier hs → scan_handlers tables earlier hs ≡ None
fine_scan tables earlier [] a = refl
fine_scan tables earlier (h ∷ hs) a =
    ap (λ (w : Fault). or_else w (or_else (scan of_variables tables [] [] (handler_marks h)) (scan_handlers tables (earlier ++ h.name ∷ []) hs))) a.0
    ∙ ap (λ (w : Fault). or_else w (scan_handlers tables (earlier ++ h.name ∷ []) hs)) a.1
    ∙ fine_scan tables (earlier ++ h.name ∷ []) hs a.2

login_fine : scan of_variables made_file.tables [] [] (handler_marks login) ≡ None
login_fine = ap (scan of_variables made_file.tables [] []) login_marked

logout_fine : scan of_variables made_file.tables [] [] (handler_marks logout) ≡ None
logout_fine = ap (scan of_variables made_file.tables [] []) logout_marked

seen_fine : scan of_variables made_file.tables [] [] (handler_marks seen) ≡ None
seen_fine = ap (scan of_variables made_file.tables [] []) seen_marked

crowd_fine : scan of_variables made_file.tables [] [] (handler_marks crowd) ≡ None
crowd_fine = ap (scan of_variables made_file.tables [] []) crowd_marked

no_rule : file_fault made_file ≡ None
no_rule = fine_scan made_file.tables [] made_file.handlers ((refl, login_fine, (refl, logout_fine, (refl, seen_fine, (refl, crowd_fine, tt)))))

keeps_rules : KeepsRules made_file
keeps_rules = subst (λ (w : Fault). Finds w (IsBroken made_file)) no_rule (finds_file made_file (places_rise [] handlers_text made_file made_form))

small_in : (h : Handler) → Contains made_file.handlers h → IsSmall (handler_code made_file h)
small_in h m =
    All-contains (λ (x : Handler). IsSmall (handler_code made_file x)) made_file.handlers h (All-from_recursion (λ (x : Handler). IsSmall (handler_code made_file x)) made_file.handlers small_handlers) m

within : (g : CheckRefusal) → IsBeyond made_file g → ⊥
within (TooManyCalls at) b = (let small = small_in b.0 b.1 in let few = small.calls in let many = b.3 in absurd (omega (arith, few, many)))
within (TooMuchWork at) b = (let small = small_in b.0 b.1 in let few = small.work in let many = b.3 in absurd (omega (arith, few, many)))
within (Twice at) b = b
within (Unknown at) b = b
within (Arity at) b = b
within (WrongTable at) b = b
within (RepeatBound at) b = b
within (TooManyTables at) b = b
within (TooManyHandlers at) b = b
within (TooManyVariables at) b = b
within NoMemory b = b

made_accepted : IsAccepted made_file
made_accepted = record { keeps = keeps_rules; within = within }

made_later : HasLater made_file
made_later = go (answered made_file)
  where
    none : (e : AnalysisRefusal) → IsTooMany made_file e → ⊥
    none (TooManySymbols at count) x =
        let small = small_at x.handler x.inside in
        let few = few_later (code_at made_file x.handler) small.straight x.point x.list x.later in
        let most = small.symbols in
        let many = x.many in
        absurd (omega (arith, few, most, many))
    none NoRoom x = x

    go : HasAnswer made_file → HasLater made_file
    go (inl later) = later
    go (inr e) = absurd (none e.0 e.1)

pub made_program : IsProgram handlers_text made_file
made_program = record { form = made_form; accepted = made_accepted; lists = made_later.0; later = made_later.1 }
