-- Scans of texts, part by part.
use Rattle.std.proofs.Common.{◌≡◌, ◌≢◌, ℕ, List, [], ◌∷◌, ◌++◌, append-nil, append_assoc, Some, None, Result, Err, refl, sym, ap, ◌∙◌, subst}
use Rattle.std.specs.List.{flat_map}
use Rattle.std.specs.Option.{option_or}
use Rattle.syntax_trees.specs.declared.expr.Atom.{Atom}
use Rattle.syntax_trees.specs.declared.expr.Atom.TheVariants as atom
use Rattle.syntax_trees.specs.declared.expr.Expr.{Expr}
use Rattle.syntax_trees.specs.declared.stmt.Call.{Call}
use Rattle.syntax_trees.specs.declared.stmt.Cond.{Cond}
use Rattle.syntax_trees.specs.declared.stmt.Right.{Right}
use Rattle.syntax_trees.specs.declared.stmt.Right.TheVariants as right
use Rattle.syntax_trees.specs.declared.stmt.Stmt.{Stmt}
use Rattle.syntax_trees.specs.declared.stmt.Stmt.TheVariants as stmt
use Rattle.syntax_trees.specs.declared.file.Param.{Param}
use Rattle.syntax_trees.specs.declared.file.TableDecl.{TableDecl}
use Rattle.syntax_trees.proofs.Inductions.{expr_induction}
use Rattle.handler_check.specs.declared.refusal.CheckRefusal.{CheckRefusal}
use Rattle.handler_check.specs.declared.refusal.CheckRefusal.TheVariants.{NoMemory}
use Rattle.syntax_trees.specs.Marks.{Mark, Declared, Mentioned, Operation, OnTable, Turns, declared, sees, seeing, atom_marks, expr_marks, call_marks, right_marks, cond_marks, marks, param_marks, param_names}
use Rattle.handler_check.specs.Scan.{Fault, or_else, Limit, mark_fault, scan, Found}
use Rattle.syntax_trees.specs.Source.{Source, Finish, Let, Assign, Do, Choose, Repeat, Answer, stmt_source, block_source}
use Rattle.handler_check.proofs.Finds.{sees_none}
use Rattle.handler_check.proofs.Texts.{declared_append}
use Rattle.handler_check.specs.Shown.{first_shown, shown}
use Rattle.syntax_trees.proofs.Statements.{marks_leaf, marks_binary, source_let, source_assign, source_call, source_choose, source_repeat, source_reply}
use Rattle.handler_check.proofs.Cases.{stmt_cases}

-- ---- faults
pub or_none : (w : Fault) → or_else w None ≡ w
or_none None = refl
or_none (Some e) = refl

pub or_assoc : (a b c : Fault) → or_else (or_else a b) c ≡ or_else a (or_else b c)
or_assoc None b c = refl
or_assoc (Some e) b c = refl

-- as the program says it
pub or_is : (a b : Fault) → or_else a b ≡ option_or a b
or_is None b = refl
or_is (Some e) b = refl

-- a walk that finds nothing first and goes on, and one that stops
pub goes_on : {X : Type 0} (whole a b : Fault) (r : Result X CheckRefusal) → whole ≡ or_else a b → a ≡ None → Found b r → Found whole r
goes_on {X} whole a b r e n f = subst (λ (w : Fault). Found w r) (sym (e ∙ ap (λ (w : Fault). or_else w b) n)) f

pub stops : (whole a b : Fault) (e : CheckRefusal) → whole ≡ or_else a b → (e ≢ NoMemory → a ≡ Some e) → e ≢ NoMemory → whole ≡ Some e
stops whole a b e is h n = is ∙ ap (λ (w : Fault). or_else w b) (h n)

-- where the first finds nothing, it is the second
pub later : (whole a b : Fault) → whole ≡ or_else a b → a ≡ None → whole ≡ b
later whole a b is h = is ∙ ap (λ (w : Fault). or_else w b) h

-- the exit of a `?`
pub exits : {X : Type 0} (w : Fault) (r : Result X CheckRefusal) (d e : CheckRefusal) → r ≡ Err d → d ≡ e → (e ≢ NoMemory → w ≡ Some e) → Found w r
exits {X} w r d e is same h = subst (λ (z : Result X CheckRefusal). Found w z) (sym (is ∙ ap (λ (z : CheckRefusal). Err z) same)) h

pub same_found : {X : Type 0} (whole a : Fault) (r : Result X CheckRefusal) → whole ≡ a → Found a r → Found whole r
same_found whole a r e f = subst (λ (w : Fault). Found w r) (sym e) f

-- ---- scans
module _ (l : Limit) (tables : List TableDecl) where
  pub scan_append : (ms ns : List Mark) (earlier visible : List ℕ) → scan l tables earlier visible (ms ++ ns) ≡ or_else (scan l tables earlier visible ms) (scan l tables (earlier ++ declared ms) visible ns)
  scan_append [] ns earlier visible = ap (λ (e : List ℕ). scan l tables e visible ns) (sym (append-nil earlier))
  scan_append (m ∷ ms) ns earlier visible =
      let more : List ℕ = earlier ++ declared (m ∷ []) in
      let first : Fault = mark_fault l tables earlier (sees visible m) in
      let behind : more ++ declared ms ≡ earlier ++ declared (m ∷ ms) =
      append_assoc earlier (declared (m ∷ [])) (declared ms) ∙ ap (λ (e : List ℕ). earlier ++ e) (sym (declared_append (m ∷ []) ms)) in
      ap (or_else first) (scan_append ms ns more visible ∙ ap (λ (e : List ℕ). or_else (scan l tables more visible ms) (scan l tables e visible ns)) behind)
      ∙ sym (or_assoc first (scan l tables more visible ms) (scan l tables (earlier ++ declared (m ∷ ms)) visible ns))

  sees_both : (visible names : List ℕ) (m : Mark) → sees visible (sees names m) ≡ sees (visible ++ names) m
  sees_both visible names (Declared name at) = refl
  sees_both visible names (Mentioned name at seen) = ap (λ (v : List ℕ). Mentioned name at v) (sym (append_assoc visible names seen))
  sees_both visible names (Operation kind count at) = refl
  sees_both visible names (OnTable kind name at) = refl
  sees_both visible names (Turns n at) = refl

  sees_declared : (names : List ℕ) (m : Mark) → declared (sees names m ∷ []) ≡ declared (m ∷ [])
  sees_declared names (Declared name at) = refl
  sees_declared names (Mentioned name at seen) = refl
  sees_declared names (Operation kind count at) = refl
  sees_declared names (OnTable kind name at) = refl
  sees_declared names (Turns n at) = refl

  pub scan_seeing : (ms : List Mark) (earlier visible names : List ℕ) → scan l tables earlier visible (seeing names ms) ≡ scan l tables earlier (visible ++ names) ms
  scan_seeing [] earlier visible names = refl
  scan_seeing (m ∷ ms) earlier visible names =
      ap (λ (x : Mark). or_else (mark_fault l tables earlier x) (scan l tables (earlier ++ declared (sees names m ∷ [])) visible (seeing names ms))) (sees_both visible names m)
      ∙ ap (λ (e : List ℕ). or_else (mark_fault l tables earlier (sees (visible ++ names) m)) (scan l tables (earlier ++ e) visible (seeing names ms))) (sees_declared names m)
      ∙ ap (or_else (mark_fault l tables earlier (sees (visible ++ names) m))) (scan_seeing ms (earlier ++ declared (m ∷ [])) visible names)

  pub declared_seeing : (names : List ℕ) (ms : List Mark) → declared (seeing names ms) ≡ declared ms
  declared_seeing names [] = refl
  declared_seeing names (m ∷ ms) =
      declared_append (sees names m ∷ []) (seeing names ms) ∙ ap (λ (e : List ℕ). e ++ declared (seeing names ms)) (sees_declared names m)
      ∙ ap (λ (e : List ℕ). declared (m ∷ []) ++ e) (declared_seeing names ms) ∙ sym (declared_append (m ∷ []) ms)

pub seeing_none : (ms : List Mark) → seeing [] ms ≡ ms
seeing_none [] = refl
seeing_none (m ∷ ms) = ap (λ (x : Mark). x ∷ seeing [] ms) (sees_none m) ∙ ap (λ (xs : List Mark). m ∷ xs) (seeing_none ms)

-- ---- texts that declare nothing
both_none : (ms ns : List Mark) → declared ms ≡ [] → declared ns ≡ [] → declared (ms ++ ns) ≡ []
both_none ms ns e f = declared_append ms ns ∙ ap (λ (x : List ℕ). x ++ declared ns) e ∙ f

pub atom_declares : (a : Atom) → declared (atom_marks a) ≡ []
atom_declares (atom.Lit v) = refl
atom_declares (atom.Name n p) = refl

pub expr_declares : (e : Expr) → declared (expr_marks e) ≡ []
expr_declares = expr_induction (λ e. declared (expr_marks e) ≡ []) (λ a. ap declared (marks_leaf a) ∙ atom_declares a)
    (λ c l r h k. ap declared (marks_binary c l r) ∙ both_none (expr_marks l) (expr_marks r) h k)

pub all_declare : {X : Type 0} (f : X → List Mark) → ((x : X) → declared (f x) ≡ []) → (xs : List X) → declared (flat_map f xs) ≡ []
all_declare f h [] = refl
all_declare f h (x ∷ xs) = both_none (f x) (flat_map f xs) (h x) (all_declare f h xs)

pub call_declares : (c : Call) → declared (call_marks c) ≡ []
call_declares c = all_declare atom_marks atom_declares c.args

pub right_declares : (r : Right) → declared (right_marks r) ≡ []
right_declares (right.Plain e) = expr_declares e
right_declares (right.Result c) = call_declares c

pub cond_declares : (c : Cond) → declared (cond_marks c) ≡ []
cond_declares c = both_none (expr_marks c.left) (expr_marks c.right) (expr_declares c.left) (expr_declares c.right)

-- ---- a statement, and what follows it in its block
abbrev Parts : (Source → Source) → Source → Type 0
Parts s rest = marks (s rest) ≡ marks (s Finish) ++ seeing (first_shown (s Finish)) (marks rest)

parts_is : (s t : Source → Source) (rest : Source) → s rest ≡ t rest → s Finish ≡ t Finish → Parts t rest → Parts s rest
parts_is s t rest e f h = ap marks e ∙ h ∙ ap (λ (x : Source). marks x ++ seeing (first_shown x) (marks rest)) (sym f)

plain : (ms ns : List Mark) → ms ++ ns ≡ (ms ++ []) ++ seeing [] ns
plain ms ns = ap (λ (x : List Mark). x ++ ns) (sym (append-nil ms)) ∙ ap (λ (x : List Mark). (ms ++ []) ++ x) (sym (seeing_none ns))

plain_two : (ks ms ns : List Mark) → ks ++ (ms ++ ns) ≡ (ks ++ (ms ++ [])) ++ seeing [] ns
plain_two ks ms ns = ap (λ (x : List Mark). ks ++ x) (plain ms ns) ∙ sym (append_assoc ks (ms ++ []) (seeing [] ns))

pub stmt_parts : (s : Stmt) (rest : Source) → marks (stmt_source s rest) ≡ marks (stmt_source s Finish) ++ seeing (shown s) (marks rest)
stmt_parts s rest = stmt_cases (λ s. Parts (stmt_source s) rest) (record {
  let_stmt = λ n p r. parts_is (stmt_source (stmt.Let n p r)) (Let n p r) rest (source_let n p r rest) (source_let n p r Finish)
      (ap (λ (x : List Mark). Declared n p ∷ (x ++ seeing (n ∷ []) (marks rest))) (sym (append-nil (right_marks r))));
  assign_stmt = λ n p r. parts_is (stmt_source (stmt.Assign n p r)) (Assign n p r) rest (source_assign n p r rest) (source_assign n p r Finish)
      (ap (λ (x : List Mark). Mentioned n p [] ∷ x) (plain (right_marks r) (marks rest)));
  call_stmt = λ c. parts_is (stmt_source (stmt.Perform c)) (Do c) rest (source_call c rest) (source_call c Finish) (plain (call_marks c) (marks rest));
  choose_stmt = λ p c a b. parts_is (stmt_source (stmt.Choose p c a b)) (Choose p c (block_source a) (block_source b)) rest (source_choose p c a b rest) (source_choose p c a b Finish)
      (ap (λ (x : List Mark). cond_marks c ++ x) (plain_two (marks (block_source a)) (marks (block_source b)) (marks rest)) ∙ sym (append_assoc (cond_marks c) (marks (block_source a) ++ (marks (block_source b) ++ [])) (seeing [] (marks rest))));
  repeat_stmt = λ p t q n r body. parts_is (stmt_source (stmt.Repeat p t q n r body)) (Repeat p t q n r (block_source body)) rest (source_repeat p t q n r body rest) (source_repeat p t q n r body Finish)
      (ap (λ (x : List Mark). Turns t q ∷ Declared n r ∷ x) (plain (seeing (n ∷ []) (marks (block_source body))) (marks rest)));
  reply_stmt = λ p es. parts_is (stmt_source (stmt.Answer p es)) (Answer es) rest (source_reply p es rest) (source_reply p es Finish) (plain (flat_map expr_marks es) (marks rest));
}) s

-- a scan of a statement, and of what follows it
module _ (l : Limit) (tables : List TableDecl) where
  pub scan_stmt : (s : Stmt) (rest : Source) (earlier visible : List ℕ) → scan l tables earlier visible (marks (stmt_source s rest))
      ≡ or_else (scan l tables earlier visible (marks (stmt_source s Finish))) (scan l tables (earlier ++ declared (marks (stmt_source s Finish))) (visible ++ shown s) (marks rest))
  scan_stmt s rest earlier visible =
      let own : List Mark = marks (stmt_source s Finish) in
      ap (scan l tables earlier visible) (stmt_parts s rest) ∙ scan_append l tables own (seeing (shown s) (marks rest)) earlier visible
      ∙ ap (or_else (scan l tables earlier visible own)) (scan_seeing l tables (marks rest) (earlier ++ declared own) visible (shown s))

pub declared_stmt : (l : Limit) (s : Stmt) (rest : Source) → declared (marks (stmt_source s rest)) ≡ declared (marks (stmt_source s Finish)) ++ declared (marks rest)
declared_stmt l s rest =
    ap declared (stmt_parts s rest) ∙ declared_append (marks (stmt_source s Finish)) (seeing (shown s) (marks rest)) ∙ ap (λ (x : List ℕ). declared (marks (stmt_source s Finish)) ++ x) (declared_seeing l [] (shown s) (marks rest))

pub params_declared : (ps : List Param) → declared (param_marks ps) ≡ param_names ps
params_declared [] = refl
params_declared (p ∷ ps) = ap (λ (x : List ℕ). p.name ∷ x) (params_declared ps)
