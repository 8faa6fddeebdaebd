-- One turn of each loop of a walk, and the parts of each statement.
use Rattle.std.proofs.Common.{◌≡◌, ℕ, ◌+◌, ◌<◌, ◌≤◌, ◌==◌, List, [], ◌∷◌, ◌++◌, append-nil, append_assoc, length, map, get_or, drop, Some, None, Result, Ok, Err, OnOk, if◌then◌else◌, sym, ap, ◌∙◌}
use Rattle.std.proofs.lemmas.List.{drop_more, drop_all}
use Rattle.std.specs.List.{flat_map}
use Rattle.syntax_trees.specs.declared.expr.Calc.{Calc}
use Rattle.syntax_trees.specs.declared.expr.Expr.{Expr}
use Rattle.syntax_trees.specs.declared.expr.Expr.TheVariants as expr
use Rattle.syntax_trees.specs.declared.stmt.Call.{Call}
use Rattle.syntax_trees.specs.declared.stmt.Cond.{Cond}
use Rattle.syntax_trees.specs.declared.stmt.Right.{Right}
use Rattle.syntax_trees.specs.declared.stmt.Stmt.{Stmt}
use Rattle.syntax_trees.specs.declared.stmt.Stmt.TheVariants as stmt
use Rattle.syntax_trees.specs.declared.file.Handler.{Handler}
use Rattle.syntax_trees.specs.declared.file.Param.{Param}
use Rattle.syntax_trees.specs.declared.file.TableDecl.{TableDecl}
use Rattle.syntax_trees.specs.Marks.{Mark, Declared, Mentioned, Turns, declared, seeing, expr_marks, call_marks, right_marks, cond_marks, marks, handler_marks, param_marks, param_names}
use Rattle.handler_check.specs.Rules.{kind_of}
use Rattle.handler_check.specs.Scan.{Fault, or_else, declared_fault, turns_fault, Limit, of_handlers, of_variables, scan, scan_handlers}
use Rattle.syntax_trees.specs.Source.{Finish, stmt_source, block_source}
use Rattle.handler_check.proofs.Texts.{declared_append}
use Rattle.handler_check.specs.Shown.{first_shown, shown}
use Rattle.syntax_trees.proofs.Statements.{marks_binary, source_let, source_assign, source_call, source_choose, source_repeat, source_reply}
use Rattle.handler_check.proofs.Scans.{or_assoc, scan_append, scan_seeing, declared_seeing, expr_declares, right_declares, call_declares, cond_declares, all_declare, params_declared, scan_stmt, declared_stmt}

-- what is left of a list begins with its next element
next : {X : Type 0} (xs : List X) (i : ℕ) (x d : X) → i < length xs → x ≡ get_or xs i d → drop i xs ≡ x ∷ drop (i + 1) xs
next xs i x d h is = drop_more xs i d h ∙ ap (λ y. y ∷ drop (i + 1) xs) (sym is)

-- ---- names
module _ {X : Type 0} (name at : X → ℕ) (l : Limit) (tables : List TableDecl) where
  abbrev names_of : List X → List Mark
  names_of xs = map (λ x. Declared (name x) (at x)) xs

  pub name_turn : (xs : List X) (i : ℕ) (x d : X) (earlier visible : List ℕ) → i < length xs → x ≡ get_or xs i d
      → scan l tables earlier visible (map (λ y. Declared (name y) (at y)) (drop i xs)) ≡ or_else (declared_fault l.limit l.past earlier (name x) (at x)) (scan l tables (earlier ++ name x ∷ []) visible (map (λ y. Declared (name y) (at y)) (drop (i + 1) xs)))
  name_turn xs i x d earlier visible h is = ap (λ (ys : List X). scan l tables earlier visible (names_of ys)) (next xs i x d h is)

  pub name_end : (xs : List X) (i : ℕ) (earlier visible : List ℕ) → length xs ≤ i → scan l tables earlier visible (map (λ y. Declared (name y) (at y)) (drop i xs)) ≡ None
  name_end xs i earlier visible h = ap (λ (ys : List X). scan l tables earlier visible (names_of ys)) (drop_all i xs h)

pub named_turn : {X : Type 0} (name : X → ℕ) (xs : List X) (i : ℕ) (x d : X) (earlier : List ℕ) → i < length xs → x ≡ get_or xs i d → earlier ++ map name (drop i xs) ≡ (earlier ++ name x ∷ []) ++ map name (drop (i + 1) xs)
named_turn {X} name xs i x d earlier h is = ap (λ (ys : List X). earlier ++ map name ys) (next xs i x d h is) ∙ sym (append_assoc earlier (name x ∷ []) (map name (drop (i + 1) xs)))

pub named_end : {X : Type 0} (name : X → ℕ) (xs : List X) (i : ℕ) (earlier : List ℕ) → length xs ≤ i → earlier ++ map name (drop i xs) ≡ earlier
named_end {X} name xs i earlier h = ap (λ (ys : List X). earlier ++ map name ys) (drop_all i xs h) ∙ append-nil earlier

-- ---- texts that declare nothing
pub silent_both : (l : Limit) (tables : List TableDecl) (ms ns : List Mark) (earlier visible : List ℕ) → declared ms ≡ [] → scan l tables earlier visible (ms ++ ns) ≡ or_else (scan l tables earlier visible ms) (scan l tables earlier visible ns)
silent_both l tables ms ns earlier visible e =
    scan_append l tables ms ns earlier visible
    ∙ ap (λ (x : List ℕ). or_else (scan l tables earlier visible ms) (scan l tables x visible ns)) (ap (λ (x : List ℕ). earlier ++ x) e ∙ append-nil earlier)

pub silent_turn : {X : Type 0} (f : X → List Mark) → ((x : X) → declared (f x) ≡ []) → (l : Limit) (tables : List TableDecl) (xs : List X) (i : ℕ) (x d : X) (earlier visible : List ℕ) → i < length xs → x ≡ get_or xs i d
    → scan l tables earlier visible (flat_map f (drop i xs)) ≡ or_else (scan l tables earlier visible (f x)) (scan l tables earlier visible (flat_map f (drop (i + 1) xs)))
silent_turn {X} f e l tables xs i x d earlier visible h is =
    ap (λ (ys : List X). scan l tables earlier visible (flat_map f ys)) (next xs i x d h is) ∙ silent_both l tables (f x) (flat_map f (drop (i + 1) xs)) earlier visible (e x)

pub silent_end : {X : Type 0} (f : X → List Mark) (l : Limit) (tables : List TableDecl) (xs : List X) (i : ℕ) (earlier visible : List ℕ) → length xs ≤ i → scan l tables earlier visible (flat_map f (drop i xs)) ≡ None
silent_end {X} f l tables xs i earlier visible h = ap (λ (ys : List X). scan l tables earlier visible (flat_map f ys)) (drop_all i xs h)

pub binary_both : (l : Limit) (tables : List TableDecl) (e a b : Expr) (c : Calc) (x y : Expr) (earlier visible : List ℕ) → e ≡ expr.Binary c (x, y) → a ≡ x → b ≡ y
    → scan l tables earlier visible (expr_marks e) ≡ or_else (scan l tables earlier visible (expr_marks a)) (scan l tables earlier visible (expr_marks b))
binary_both l tables e a b c x y earlier visible is p q =
    ap (λ (z : Expr). scan l tables earlier visible (expr_marks z)) is
    ∙ ap (scan l tables earlier visible) (marks_binary c x y)
    ∙ silent_both l tables (expr_marks x) (expr_marks y) earlier visible (expr_declares x)
    ∙ ap (λ (z : Expr). or_else (scan l tables earlier visible (expr_marks z)) (scan l tables earlier visible (expr_marks y))) (sym p)
    ∙ ap (λ (z : Expr). or_else (scan l tables earlier visible (expr_marks a)) (scan l tables earlier visible (expr_marks z))) (sym q)

-- ---- tables
pub kind_turn : (ts : List TableDecl) (i : ℕ) (t d : TableDecl) (name : ℕ) → i < length ts → t ≡ get_or ts i d → kind_of (drop i ts) name ≡ (if t.name == name then Some t.kind else kind_of (drop (i + 1) ts) name)
kind_turn ts i t d name h is = ap (λ (x : List TableDecl). kind_of x name) (next ts i t d h is)

pub kind_end : (ts : List TableDecl) (i name : ℕ) → length ts ≤ i → kind_of (drop i ts) name ≡ None
kind_end ts i name h = ap (λ (x : List TableDecl). kind_of x name) (drop_all i ts h)

-- ---- handlers
pub handler_turn : (tables : List TableDecl) (hs : List Handler) (i : ℕ) (x d : Handler) (earlier : List ℕ) → i < length hs → x ≡ get_or hs i d
    → scan_handlers tables earlier (drop i hs) ≡ or_else (declared_fault of_handlers.limit of_handlers.past earlier x.name x.at) (or_else (scan of_variables tables [] [] (handler_marks x)) (scan_handlers tables (earlier ++ x.name ∷ []) (drop (i + 1) hs)))
handler_turn tables hs i x d earlier h is = ap (scan_handlers tables earlier) (next hs i x d h is)

-- the same, where a handler's name and what stands behind it are looked at together
pub next_turn : (tables : List TableDecl) (hs : List Handler) (i : ℕ) (x d : Handler) (earlier : List ℕ) → i < length hs → x ≡ get_or hs i d
    → scan_handlers tables earlier (drop i hs) ≡ or_else (or_else (declared_fault of_handlers.limit of_handlers.past earlier x.name x.at) (scan of_variables tables [] [] (handler_marks x))) (scan_handlers tables (earlier ++ x.name ∷ []) (drop (i + 1) hs))
next_turn tables hs i x d earlier h is = handler_turn tables hs i x d earlier h is ∙ sym (or_assoc (declared_fault of_handlers.limit of_handlers.past earlier x.name x.at) (scan of_variables tables [] [] (handler_marks x)) (scan_handlers tables (earlier ++ x.name ∷ []) (drop (i + 1) hs)))

pub handler_end : (tables : List TableDecl) (hs : List Handler) (i : ℕ) (earlier : List ℕ) → length hs ≤ i → scan_handlers tables earlier (drop i hs) ≡ None
handler_end tables hs i earlier h = ap (scan_handlers tables earlier) (drop_all i hs h)

-- parameters, and then the block
pub handler_both : (tables : List TableDecl) (h : Handler) → scan of_variables tables [] [] (handler_marks h)
    ≡ or_else (scan of_variables tables [] [] (param_marks h.params)) (scan of_variables tables ([] ++ declared (param_marks h.params)) (param_names h.params) (marks (block_source h.body)))
handler_both tables h =
    scan_append of_variables tables (param_marks h.params) (seeing (param_names h.params) (marks (block_source h.body))) [] []
    ∙ ap (or_else (scan of_variables tables [] [] (param_marks h.params))) (scan_seeing of_variables tables (marks (block_source h.body)) (declared (param_marks h.params)) [] (param_names h.params))

pub handler_parts : (tables : List TableDecl) (h : Handler) (ps : List Param) (body : List Stmt) (names seen : List ℕ) → ps ≡ h.params → body ≡ h.body → names ≡ param_names ps → seen ≡ names
    → scan of_variables tables [] [] (handler_marks h) ≡ or_else (scan of_variables tables [] [] (param_marks ps)) (scan of_variables tables names seen (marks (block_source body)))
handler_parts tables h ps body names seen p b n s =
    let here : names ≡ param_names h.params = n ∙ ap param_names p in
    handler_both tables h
    ∙ ap (λ (x : List ℕ). or_else (scan of_variables tables [] [] (param_marks h.params)) (scan of_variables tables x (param_names h.params) (marks (block_source h.body)))) (params_declared h.params ∙ sym here)
    ∙ ap (λ (x : List ℕ). or_else (scan of_variables tables [] [] (param_marks h.params)) (scan of_variables tables names x (marks (block_source h.body)))) (sym (s ∙ here))
    ∙ ap (λ (x : List Param). or_else (scan of_variables tables [] [] (param_marks x)) (scan of_variables tables names seen (marks (block_source h.body)))) (sym p)
    ∙ ap (λ (x : List Stmt). or_else (scan of_variables tables [] [] (param_marks ps)) (scan of_variables tables names seen (marks (block_source x)))) (sym b)

pub handler_names : (h : Handler) (ps : List Param) (body : List Stmt) (names new : List ℕ) → ps ≡ h.params → body ≡ h.body → names ≡ param_names ps → new ≡ names ++ declared (marks (block_source body)) → new ≡ declared (handler_marks h)
handler_names h ps body names new p b n e =
    e ∙ ap (λ (x : List ℕ). x ++ declared (marks (block_source body))) (n ∙ ap param_names p ∙ sym (params_declared h.params))
    ∙ ap (λ (x : List Stmt). declared (param_marks h.params) ++ declared (marks (block_source x))) b
    ∙ ap (λ (x : List ℕ). declared (param_marks h.params) ++ x) (sym (declared_seeing of_variables [] (param_names h.params) (marks (block_source h.body))))
    ∙ sym (declared_append (param_marks h.params) (seeing (param_names h.params) (marks (block_source h.body))))

-- ---- blocks
module _ (tables : List TableDecl) where
  pub block_turn : (ss : List Stmt) (i : ℕ) (s d : Stmt) (earlier visible : List ℕ) → i < length ss → s ≡ get_or ss i d
      → scan of_variables tables earlier visible (marks (block_source (drop i ss)))
      ≡ or_else (scan of_variables tables earlier visible (marks (stmt_source s Finish))) (scan of_variables tables (earlier ++ declared (marks (stmt_source s Finish))) (visible ++ shown s) (marks (block_source (drop (i + 1) ss))))
  block_turn ss i s d earlier visible h is =
      ap (λ (x : List Stmt). scan of_variables tables earlier visible (marks (block_source x))) (next ss i s d h is) ∙ scan_stmt of_variables tables s (block_source (drop (i + 1) ss)) earlier visible

  pub block_end : (ss : List Stmt) (i : ℕ) (earlier visible : List ℕ) → length ss ≤ i → scan of_variables tables earlier visible (marks (block_source (drop i ss))) ≡ None
  block_end ss i earlier visible h = ap (λ (x : List Stmt). scan of_variables tables earlier visible (marks (block_source x))) (drop_all i ss h)

pub block_names : (ss : List Stmt) (i : ℕ) (s d : Stmt) (earlier : List ℕ) → i < length ss → s ≡ get_or ss i d
    → earlier ++ declared (marks (block_source (drop i ss))) ≡ (earlier ++ declared (marks (stmt_source s Finish))) ++ declared (marks (block_source (drop (i + 1) ss)))
block_names ss i s d earlier h is =
    ap (λ (x : List Stmt). earlier ++ declared (marks (block_source x))) (next ss i s d h is)
    ∙ ap (λ (x : List ℕ). earlier ++ x) (declared_stmt of_variables s (block_source (drop (i + 1) ss)))
    ∙ sym (append_assoc earlier (declared (marks (stmt_source s Finish))) (declared (marks (block_source (drop (i + 1) ss)))))

-- one turn of the loop over a block, from the names and the visible variables after it
pub block_step : (tables : List TableDecl) (ss : List Stmt) (i : ℕ) (s d : Stmt) (earlier visible more seen : List ℕ) → i < length ss → s ≡ get_or ss i d → more ≡ earlier ++ declared (marks (stmt_source s Finish)) → seen ≡ visible ++ shown s
    → (scan of_variables tables earlier visible (marks (block_source (drop i ss))) ≡ or_else (scan of_variables tables earlier visible (marks (stmt_source s Finish))) (scan of_variables tables more seen (marks (block_source (drop (i + 1) ss)))))
    × (earlier ++ declared (marks (block_source (drop i ss))) ≡ more ++ declared (marks (block_source (drop (i + 1) ss))))
block_step tables ss i s d earlier visible more seen h is m v = (
  block_turn tables ss i s d earlier visible h is
      ∙ ap (λ (x : List ℕ). or_else (scan of_variables tables earlier visible (marks (stmt_source s Finish))) (scan of_variables tables x (visible ++ shown s) (marks (block_source (drop (i + 1) ss))))) (sym m)
      ∙ ap (λ (x : List ℕ). or_else (scan of_variables tables earlier visible (marks (stmt_source s Finish))) (scan of_variables tables more x (marks (block_source (drop (i + 1) ss))))) (sym v),
  block_names ss i s d earlier h is ∙ ap (λ (x : List ℕ). x ++ declared (marks (block_source (drop (i + 1) ss)))) (sym m),
)

pub block_names_end : (ss : List Stmt) (i : ℕ) (earlier : List ℕ) → length ss ≤ i → earlier ++ declared (marks (block_source (drop i ss))) ≡ earlier
block_names_end ss i earlier h = ap (λ (x : List Stmt). earlier ++ declared (marks (block_source x))) (drop_all i ss h) ∙ append-nil earlier

-- ---- statements
abbrev Own : Stmt → List Mark
Own s = marks (stmt_source s Finish)

pub own_let : (s : Stmt) (n p : ℕ) (r : Right) → s ≡ stmt.Let n p r → marks (stmt_source s Finish) ≡ Declared n p ∷ right_marks r
own_let s n p r is = ap Own is ∙ ap marks (source_let n p r Finish) ∙ ap (λ (x : List Mark). Declared n p ∷ x) (append-nil (right_marks r))

pub own_assign : (s : Stmt) (n p : ℕ) (r : Right) → s ≡ stmt.Assign n p r → marks (stmt_source s Finish) ≡ Mentioned n p [] ∷ right_marks r
own_assign s n p r is = ap Own is ∙ ap marks (source_assign n p r Finish) ∙ ap (λ (x : List Mark). Mentioned n p [] ∷ x) (append-nil (right_marks r))

pub own_call : (s : Stmt) (c : Call) → s ≡ stmt.Perform c → marks (stmt_source s Finish) ≡ call_marks c
own_call s c is = ap Own is ∙ ap marks (source_call c Finish) ∙ append-nil (call_marks c)

pub own_choose : (s : Stmt) (p : ℕ) (c : Cond) (a b : List Stmt) → s ≡ stmt.Choose p c a b → marks (stmt_source s Finish) ≡ cond_marks c ++ (marks (block_source a) ++ marks (block_source b))
own_choose s p c a b is = ap Own is ∙ ap marks (source_choose p c a b Finish) ∙ ap (λ (x : List Mark). cond_marks c ++ (marks (block_source a) ++ x)) (append-nil (marks (block_source b)))

pub own_repeat : (s : Stmt) (p t q n r : ℕ) (body : List Stmt) → s ≡ stmt.Repeat p t q n r body → marks (stmt_source s Finish) ≡ Turns t q ∷ Declared n r ∷ seeing (n ∷ []) (marks (block_source body))
own_repeat s p t q n r body is = ap Own is ∙ ap marks (source_repeat p t q n r body Finish) ∙ ap (λ (x : List Mark). Turns t q ∷ Declared n r ∷ x) (append-nil (seeing (n ∷ []) (marks (block_source body))))

pub own_reply : (s : Stmt) (p : ℕ) (es : List Expr) → s ≡ stmt.Answer p es → marks (stmt_source s Finish) ≡ flat_map expr_marks es
own_reply s p es is = ap Own is ∙ ap marks (source_reply p es Finish) ∙ append-nil (flat_map expr_marks es)

abbrev Shows : Stmt → List ℕ → Type 0
Shows s ns = shown s ≡ ns

pub shown_let : (s : Stmt) (n p : ℕ) (r : Right) → s ≡ stmt.Let n p r → shown s ≡ n ∷ []
shown_let s n p r is = ap shown is ∙ ap first_shown (source_let n p r Finish)

pub shown_assign : (s : Stmt) (n p : ℕ) (r : Right) → s ≡ stmt.Assign n p r → shown s ≡ []
shown_assign s n p r is = ap shown is ∙ ap first_shown (source_assign n p r Finish)

pub shown_call : (s : Stmt) (c : Call) → s ≡ stmt.Perform c → shown s ≡ []
shown_call s c is = ap shown is ∙ ap first_shown (source_call c Finish)

pub shown_choose : (s : Stmt) (p : ℕ) (c : Cond) (a b : List Stmt) → s ≡ stmt.Choose p c a b → shown s ≡ []
shown_choose s p c a b is = ap shown is ∙ ap first_shown (source_choose p c a b Finish)

pub shown_repeat : (s : Stmt) (p t q n r : ℕ) (body : List Stmt) → s ≡ stmt.Repeat p t q n r body → shown s ≡ []
shown_repeat s p t q n r body is = ap shown is ∙ ap first_shown (source_repeat p t q n r body Finish)

pub shown_reply : (s : Stmt) (p : ℕ) (es : List Expr) → s ≡ stmt.Answer p es → shown s ≡ []
shown_reply s p es is = ap shown is ∙ ap first_shown (source_reply p es Finish)

-- ---- the names that a statement declares
abbrev Declares : Stmt → List ℕ → Type 0
Declares s ns = declared (marks (stmt_source s Finish)) ≡ ns

pub declares_let : (s : Stmt) (n p : ℕ) (r : Right) → s ≡ stmt.Let n p r → declared (marks (stmt_source s Finish)) ≡ n ∷ []
declares_let s n p r is = ap declared (own_let s n p r is) ∙ ap (λ (x : List ℕ). n ∷ x) (right_declares r)

pub declares_assign : (s : Stmt) (n p : ℕ) (r : Right) → s ≡ stmt.Assign n p r → declared (marks (stmt_source s Finish)) ≡ []
declares_assign s n p r is = ap declared (own_assign s n p r is) ∙ right_declares r

pub declares_call : (s : Stmt) (c : Call) → s ≡ stmt.Perform c → declared (marks (stmt_source s Finish)) ≡ []
declares_call s c is = ap declared (own_call s c is) ∙ call_declares c

pub declares_reply : (s : Stmt) (p : ℕ) (es : List Expr) → s ≡ stmt.Answer p es → declared (marks (stmt_source s Finish)) ≡ []
declares_reply s p es is = ap declared (own_reply s p es is) ∙ all_declare expr_marks expr_declares es

pub declares_choose : (s : Stmt) (p : ℕ) (c : Cond) (a b xs ys : List Stmt) → s ≡ stmt.Choose p c a b → xs ≡ a → ys ≡ b
    → declared (marks (stmt_source s Finish)) ≡ declared (marks (block_source xs)) ++ declared (marks (block_source ys))
declares_choose s p c a b xs ys is e f =
    ap declared (own_choose s p c a b is)
    ∙ declared_append (cond_marks c) (marks (block_source a) ++ marks (block_source b))
    ∙ ap (λ (x : List ℕ). x ++ declared (marks (block_source a) ++ marks (block_source b))) (cond_declares c)
    ∙ declared_append (marks (block_source a)) (marks (block_source b))
    ∙ ap (λ (x : List Stmt). declared (marks (block_source x)) ++ declared (marks (block_source b))) (sym e)
    ∙ ap (λ (y : List Stmt). declared (marks (block_source xs)) ++ declared (marks (block_source y))) (sym f)

pub declares_repeat : (s : Stmt) (p t q n r : ℕ) (body xs : List Stmt) → s ≡ stmt.Repeat p t q n r body → xs ≡ body → declared (marks (stmt_source s Finish)) ≡ n ∷ declared (marks (block_source xs))
declares_repeat s p t q n r body xs is e =
    ap declared (own_repeat s p t q n r body is) ∙ ap (λ (x : List ℕ). n ∷ x) (declared_seeing of_variables [] (n ∷ []) (marks (block_source body)))
    ∙ ap (λ (x : List Stmt). n ∷ declared (marks (block_source x))) (sym e)

pub kept_names : (old ns : List ℕ) → ns ≡ [] → old ≡ old ++ ns
kept_names old ns e = sym (append-nil old) ∙ ap (λ (x : List ℕ). old ++ x) (sym e)

-- names behind one, and behind two
pub names_then : {X E : Type 0} (r : Result X E) (old mid new ms ns own : List ℕ) → mid ≡ old ++ ms → own ≡ ms ++ ns → OnOk r (new ≡ mid ++ ns) → OnOk r (new ≡ old ++ own)
names_then (Ok x) old mid new ms ns own e g f = f ∙ ap (λ (x : List ℕ). x ++ ns) e ∙ append_assoc old ms ns ∙ ap (λ (x : List ℕ). old ++ x) (sym g)
names_then (Err e) old mid new ms ns own m g f = tt

-- ---- the scans of a choice and of a loop
pub choose_parts : (tables : List TableDecl) (s : Stmt) (p : ℕ) (c : Cond) (a b xs ys : List Stmt) (earlier more visible seen : List ℕ) → s ≡ stmt.Choose p c a b → xs ≡ a → ys ≡ b
    → more ≡ earlier ++ declared (marks (block_source xs)) → seen ≡ visible
    → scan of_variables tables earlier visible (marks (stmt_source s Finish))
    ≡ or_else (scan of_variables tables earlier visible (cond_marks c)) (or_else (scan of_variables tables earlier visible (marks (block_source xs))) (scan of_variables tables more seen (marks (block_source ys))))
choose_parts tables s p c a b xs ys earlier more visible seen is e f m v =
    let own : List Mark = marks (block_source a) in
    let other : List Mark = marks (block_source b) in
    let first : Fault = scan of_variables tables earlier visible (cond_marks c) in
    ap (scan of_variables tables earlier visible) (own_choose s p c a b is)
    ∙ silent_both of_variables tables (cond_marks c) (own ++ other) earlier visible (cond_declares c)
    ∙ ap (or_else first) (scan_append of_variables tables own other earlier visible
    ∙ ap (λ (x : List Stmt). or_else (scan of_variables tables earlier visible (marks (block_source x))) (scan of_variables tables (earlier ++ declared (marks (block_source x))) visible other)) (sym e)
    ∙ ap (λ (y : List Stmt). or_else (scan of_variables tables earlier visible (marks (block_source xs))) (scan of_variables tables (earlier ++ declared (marks (block_source xs))) visible (marks (block_source y)))) (sym f)
    ∙ ap (λ (n : List ℕ). or_else (scan of_variables tables earlier visible (marks (block_source xs))) (scan of_variables tables n visible (marks (block_source ys)))) (sym m)
    ∙ ap (λ (n : List ℕ). or_else (scan of_variables tables earlier visible (marks (block_source xs))) (scan of_variables tables more n (marks (block_source ys)))) (sym v))

pub repeat_parts : (tables : List TableDecl) (s : Stmt) (p t q n r : ℕ) (body xs : List Stmt) (earlier more visible : List ℕ) → s ≡ stmt.Repeat p t q n r body → xs ≡ body → more ≡ earlier ++ n ∷ []
    → scan of_variables tables earlier visible (marks (stmt_source s Finish))
    ≡ or_else (turns_fault t q) (or_else (declared_fault of_variables.limit of_variables.past earlier n r) (scan of_variables tables more (visible ++ n ∷ []) (marks (block_source xs))))
repeat_parts tables s p t q n r body xs earlier more visible is e m =
    let inner : List Mark = seeing (n ∷ []) (marks (block_source body)) in
    let first : Fault = turns_fault t q in
    let second : Fault = declared_fault of_variables.limit of_variables.past earlier n r in
    ap (scan of_variables tables earlier visible) (own_repeat s p t q n r body is)
    ∙ ap (λ (x : List ℕ). or_else first (scan of_variables tables x visible (Declared n r ∷ inner))) (append-nil earlier)
    ∙ ap (λ (x : Fault). or_else first (or_else second x)) (scan_seeing of_variables tables (marks (block_source body)) (earlier ++ n ∷ []) visible (n ∷ []))
    ∙ ap (λ (x : List Stmt). or_else first (or_else second (scan of_variables tables (earlier ++ n ∷ []) (visible ++ n ∷ []) (marks (block_source x))))) (sym e)
    ∙ ap (λ (x : List ℕ). or_else first (or_else second (scan of_variables tables x (visible ++ n ∷ []) (marks (block_source xs))))) (sym m)

pub always : {X E : Type 0} (r : Result X E) (P : Type 0) → P → OnOk r P
always (Ok x) P h = h
always (Err e) P h = tt
