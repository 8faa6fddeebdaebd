-- The handlers of a made session: what stands in their texts, and their code.
use Rattle.std.proofs.Common.{◌≡◌, ℕ, zero, suc, ◌<◌, ◌≤◌, true, List, [], ◌∷◌, ◌++◌, length, refl, sym, ap, ◌∙◌, subst, arith}
use Rattle.std.specs.List.{AllByRecursion}
use Rattle.session_values.specs.declared.kind.Kind.{Kind}
use Rattle.session_values.specs.declared.kind.Kind.TheVariants as kind
use Rattle.handler_check.specs.Atom.{Atom}
use Rattle.handler_check.specs.Atom.TheVariants as atom
use Rattle.handler_check.specs.Expr.{Expr}
use Rattle.handler_check.specs.Expr.TheVariants as expr
use Rattle.handler_check.specs.Call.{Call}
use Rattle.handler_check.specs.Right.{Right}
use Rattle.handler_check.specs.Right.TheVariants as right
use Rattle.handler_check.specs.Handler.{Handler}
use Rattle.handler_check.specs.Marks.{Mark, Declared, Mentioned, declared, seeing, expr_marks, call_marks, marks, param_marks, param_names, handler_marks}
use Rattle.handler_check.specs.Source.{Source, Finish, Let, Do, Answer, block_source}
use Rattle.handler_check.specs.Bounds.{calls_bound, work_bound}
use Rattle.handler_check.specs.Code.{Code}
use Rattle.handler_check.specs.Resolved.{code_of, handler_code, code_at}
use Rattle.handler_check.proofs.Statements.{marks_leaf, source_let, source_call, source_reply}
use Rattle.serve_faults.proofs.Phrases.{made_file, login, logout, seen, crowd}
use Rattle.serve_faults.proofs.Symbols.{is_straight, all_list}

abbrev a_call : Kind → (at table table_at : ℕ) → List Atom → Call
a_call k p t q args = record { kind = k; at = p; table = t; table_at = q; args = args }

abbrev var : ℕ → ℕ → Atom
var name p = atom.Name name p

-- ---- their statements

abbrev login_right : Right
login_right = right.Result (a_call kind.Swap 59 0 64 (var 3 71 ∷ var 4 74 ∷ []))

abbrev login_mark : Call
login_mark = a_call kind.Mark 82 1 87 (var 3 95 ∷ [])

abbrev login_values : List Expr
login_values = expr.Name 5 107 ∷ []

abbrev login_source : Source
login_source = Let 5 53 login_right (Do login_mark (Answer login_values Finish))

login_is : block_source login.body ≡ login_source
login_is = source_let 5 53 login_right _ ∙ ap (Let 5 53 login_right) (source_call login_mark _ ∙ ap (Do login_mark) (source_reply 101 login_values Finish))

abbrev logout_del : Call
logout_del = a_call kind.Del 136 0 140 (var 3 147 ∷ [])

abbrev logout_drop : Call
logout_drop = a_call kind.Drop 153 1 158 (var 3 166 ∷ [])

abbrev logout_source : Source
logout_source = Do logout_del (Do logout_drop Finish)

logout_is : block_source logout.body ≡ logout_source
logout_is = source_call logout_del _ ∙ ap (Do logout_del) (source_call logout_drop Finish)

abbrev seen_get : Right
seen_get = right.Result (a_call kind.Get 201 0 205 (var 3 212 ∷ []))

abbrev seen_has : Right
seen_has = right.Result (a_call kind.Has 227 1 231 (var 3 239 ∷ []))

abbrev seen_values : List Expr
seen_values = expr.Name 8 251 ∷ expr.Name 9 255 ∷ []

abbrev seen_source : Source
seen_source = Let 8 196 seen_get (Let 9 222 seen_has (Answer seen_values Finish))

seen_is : block_source seen.body ≡ seen_source
seen_is = source_let 8 196 seen_get _ ∙ ap (Let 8 196 seen_get) (source_let 9 222 seen_has _ ∙ ap (Let 9 222 seen_has) (source_reply 245 seen_values Finish))

abbrev crowd_count : Right
crowd_count = right.Result (a_call kind.Count 289 1 295 [])

abbrev crowd_values : List Expr
crowd_values = expr.Name 11 312 ∷ []

abbrev crowd_source : Source
crowd_source = Let 11 285 crowd_count (Answer crowd_values Finish)

crowd_is : block_source crowd.body ≡ crowd_source
crowd_is = source_let 11 285 crowd_count _ ∙ ap (Let 11 285 crowd_count) (source_reply 306 crowd_values Finish)

-- ---- what their rules can be broken at

leaf : (name p : ℕ) → expr_marks (expr.Name name p) ≡ Mentioned name p [] ∷ []
leaf name p = marks_leaf (atom.Name name p)

-- the marks of a block with these at its reply
abbrev behind_let : (name p : ℕ) → Call → List Mark → List Mark
behind_let name p c rest = Declared name p ∷ (call_marks c ++ seeing (name ∷ []) rest)

abbrev in_handler : Handler → List Mark → List Mark
in_handler h ms = param_marks h.params ++ seeing (param_names h.params) ms

abbrev pub login_marks : List Mark
login_marks = in_handler login (behind_let 5 53 (a_call kind.Swap 59 0 64 (var 3 71 ∷ var 4 74 ∷ [])) (call_marks login_mark ++ (((Mentioned 5 107 [] ∷ []) ++ []) ++ [])))

pub login_marked : handler_marks login ≡ login_marks
login_marked = ap (λ s. in_handler login (marks s)) login_is
    ∙ ap (λ (ms : List Mark). in_handler login (behind_let 5 53 (a_call kind.Swap 59 0 64 (var 3 71 ∷ var 4 74 ∷ [])) (call_marks login_mark ++ ((ms ++ []) ++ [])))) (leaf 5 107)

abbrev pub logout_marks : List Mark
logout_marks = in_handler logout (call_marks logout_del ++ (call_marks logout_drop ++ []))

pub logout_marked : handler_marks logout ≡ logout_marks
logout_marked = ap (λ s. in_handler logout (marks s)) logout_is

abbrev seen_with : List Mark → List Mark
seen_with ms = in_handler seen (behind_let 8 196 (a_call kind.Get 201 0 205 (var 3 212 ∷ [])) (behind_let 9 222 (a_call kind.Has 227 1 231 (var 3 239 ∷ [])) (ms ++ [])))

abbrev pub seen_marks : List Mark
seen_marks = seen_with ((Mentioned 8 251 [] ∷ []) ++ ((Mentioned 9 255 [] ∷ []) ++ []))

pub seen_marked : handler_marks seen ≡ seen_marks
seen_marked = ap (λ s. in_handler seen (marks s)) seen_is
    ∙ ap (λ (ms : List Mark). seen_with (ms ++ (expr_marks (expr.Name 9 255) ++ []))) (leaf 8 251)
    ∙ ap (λ (ms : List Mark). seen_with ((Mentioned 8 251 [] ∷ []) ++ (ms ++ []))) (leaf 9 255)

abbrev crowd_with : List Mark → List Mark
crowd_with ms = in_handler crowd (behind_let 11 285 (a_call kind.Count 289 1 295 []) (ms ++ []))

abbrev pub crowd_marks : List Mark
crowd_marks = crowd_with ((Mentioned 11 312 [] ∷ []) ++ [])

pub crowd_marked : handler_marks crowd ≡ crowd_marks
crowd_marked = ap (λ s. in_handler crowd (marks s)) crowd_is ∙ ap (λ (ms : List Mark). crowd_with (ms ++ [])) (leaf 11 312)

-- ---- their code

-- a request of the handler makes few operations and does little work, and few symbols stand at its points
pub record IsSmall (code : Code) : Type 0 where
  pub straight : is_straight code ≡ true
  pub symbols : length (all_list code) ≤ 256
  pub calls : calls_bound code ≤ 10
  pub work : work_bound code ≤ 500

abbrev code_by : List Mark → Source → Code
code_by ms s = code_of (0 ∷ 1 ∷ []) (declared ms) s 1

small_login : IsSmall (handler_code made_file login)
small_login = subst IsSmall (sym (ap (λ ms. code_by ms (block_source login.body)) login_marked ∙ ap (code_by login_marks) login_is))
    (record { straight = refl; symbols = omega arith; calls = omega arith; work = omega arith })

small_logout : IsSmall (handler_code made_file logout)
small_logout = subst IsSmall (sym (ap (λ ms. code_by ms (block_source logout.body)) logout_marked ∙ ap (code_by logout_marks) logout_is))
    (record { straight = refl; symbols = omega arith; calls = omega arith; work = omega arith })

small_seen : IsSmall (handler_code made_file seen)
small_seen = subst IsSmall (sym (ap (λ ms. code_by ms (block_source seen.body)) seen_marked ∙ ap (code_by seen_marks) seen_is))
    (record { straight = refl; symbols = omega arith; calls = omega arith; work = omega arith })

small_crowd : IsSmall (handler_code made_file crowd)
small_crowd = subst IsSmall (sym (ap (λ ms. code_by ms (block_source crowd.body)) crowd_marked ∙ ap (code_by crowd_marks) crowd_is))
    (record { straight = refl; symbols = omega arith; calls = omega arith; work = omega arith })

pub small_at : (h : ℕ) → h < 4 → IsSmall (code_at made_file h)
small_at zero l = small_login
small_at (suc zero) l = small_logout
small_at (suc (suc zero)) l = small_seen
small_at (suc (suc (suc zero))) l = small_crowd
small_at (suc (suc (suc (suc h)))) l = absurd (omega arith)

pub small_handlers : AllByRecursion (λ (h : Handler). IsSmall (handler_code made_file h)) made_file.handlers
small_handlers = (small_login, (small_logout, (small_seen, (small_crowd, tt))))
