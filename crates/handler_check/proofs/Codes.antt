-- The code of a handler of an accepted file speaks of variables, tables and values that exist.
use Rattle.std.proofs.Common.{◌≡◌, ℕ, suc, ◌+◌, ◌<◌, ◌≤◌, List, [], ◌∷◌, ◌++◌, length, length-append, map, slice_get, Option, Some, None, refl, sym, ap, ◌∙◌, subst, rules, arith}
use Rattle.std.specs.List.{AllByRecursion, Contains, flat_map}
use Rattle.session_values.specs.declared.value.Value.TheVariants.{Nil, Num, Sym}
use Rattle.session_values.specs.declared.kind.TableKind.{TableKind}
use Rattle.session_values.specs.Kinds.{arguments}
use Rattle.syntax_trees.specs.declared.expr.Atom.{Atom}
use Rattle.syntax_trees.specs.declared.expr.Atom.TheVariants as atom
use Rattle.syntax_trees.specs.declared.expr.Calc.{Calc}
use Rattle.syntax_trees.specs.declared.expr.Expr.{Expr, the_lemmas}
use Rattle.syntax_trees.specs.declared.expr.Expr.TheVariants as expr
use Rattle.syntax_trees.specs.declared.stmt.Call.{Call}
use Rattle.syntax_trees.specs.declared.stmt.Right.{Right}
use Rattle.syntax_trees.specs.declared.stmt.Right.TheVariants as right
use Rattle.syntax_trees.specs.declared.file.File.{File}
use Rattle.syntax_trees.specs.declared.file.Handler.{Handler}
use Rattle.syntax_trees.specs.declared.file.Param.{Param}
use Rattle.syntax_trees.specs.Alone.{alone}
use Rattle.syntax_trees.specs.Mentions.{Mention, atom_mentions, expr_mentions, right_mentions}
use Rattle.syntax_trees.proofs.Mentions.{mentions_leaf, mentions_binary, all_first}
use Rattle.syntax_trees.proofs.Inductions.{expr_induction}
use Rattle.check_meaning.specs.declared.tree.CheckedAtom.{CheckedAtom}
use Rattle.check_meaning.specs.declared.tree.CheckedAtom.TheVariants.{Lit, Var}
use Rattle.check_meaning.specs.declared.tree.CheckedCall.{CheckedCall}
use Rattle.check_meaning.specs.Code.{Term, Calculate, Code}
use Rattle.check_meaning.specs.Code as code
use Rattle.check_meaning.specs.Bounds.{calls_bound, work_bound}
use Rattle.check_meaning.specs.Within.{AtomWithin, TermWithin, CallWithin, CodeWithin, VarWithin}
use Rattle.syntax_trees.specs.Bounds.{KeepsBounds}
use Rattle.syntax_trees.specs.Marks.{Mark, Declared, Mentioned, Operation, OnTable, Turns, declared, sees, seeing, atom_marks, expr_marks, call_marks, right_marks, cond_marks, marks, param_marks, param_names}
use Rattle.syntax_trees.specs.Source.{Source, Finish, Let, Assign, Do, Choose, Repeat, Answer, block_source}
use Rattle.handler_check.specs.Checked.{HandlerWithin}
use Rattle.handler_check.specs.Checking.{IsAccepted}
use Rattle.handler_check.specs.Resolved.{number_in, atom_of, term_of, key_of, value_of, call_of, stored, right_points, code_of, points_of, handler_code, code_at, code_in, params_in, shape_of, table_names, variables_at, variables_in, variables_of}
use Rattle.syntax_trees.proofs.Statements.{marks_leaf, marks_binary}
use Rattle.handler_check.proofs.Fine.{IsFine, AreFine, all_fine, few_variables}
use Rattle.handler_check.proofs.Held.{IsSmall, AreSmall, IsHeldBlock, held_handler}
use Rattle.handler_check.proofs.Numbers.{numbered}
use Rattle.handler_check.proofs.Scans.{params_declared}
use Rattle.handler_check.proofs.Within.{few_calls, little_work, in_file}
use Rattle.handler_check.proofs.Texts.{declared_append}

pub term_leaf : (variables : List ℕ) (a : Atom) → term_of variables (alone a) ≡ code.Atom (atom_of variables a)
term_leaf variables (atom.Lit v) = search (rules, the_lemmas)
term_leaf variables (atom.Name n p) = search (rules, the_lemmas)

pub term_binary : (variables : List ℕ) (c : Calc) (l r : Expr) → term_of variables (expr.Binary c (l, r)) ≡ Calculate c (term_of variables l) (term_of variables r)
term_binary variables c l r = search (rules, the_lemmas)

module _ (shape : List TableKind) (tables variables : List ℕ) where
  abbrev Fine : List Mark → Type 0
  Fine ms = AreFine shape tables variables ms

  unseen_mark : (names : List ℕ) (m : Mark) → IsFine shape tables variables (sees names m) → IsFine shape tables variables m
  unseen_mark names (Declared name at) h = h
  unseen_mark names (Mentioned name at visible) h = h
  unseen_mark names (Operation kind count at) h = h
  unseen_mark names (OnTable kind name at) h = h
  unseen_mark names (Turns n at) h = h

  unseen : (names : List ℕ) (ms : List Mark) → Fine (seeing names ms) → Fine ms
  unseen names [] h = tt
  unseen names (m ∷ ms) h = (unseen_mark names m h.0, unseen names ms h.1)

  -- the marks of two texts
  parts : (ms ns : List Mark) → Fine (ms ++ ns) → Fine ms × Fine ns
  parts ms ns h = all_first (IsFine shape tables variables) ms ns h

  smalls : (ms ns : List Mention) → AreSmall (ms ++ ns) → AreSmall ms × AreSmall ns
  smalls ms ns h = all_first IsSmall ms ns h

  atom_within : (a : Atom) → Fine (atom_marks a) → AreSmall (atom_mentions a) → AtomWithin (length variables) (atom_of variables a)
  atom_within (atom.Lit Nil) h k = tt
  atom_within (atom.Lit (Num z)) h k = k.0.0
  atom_within (atom.Lit (Sym p)) h k = k.0.1
  atom_within (atom.Name name at) h k = h.0

  abbrev IsWithin : Expr → Type 0
  IsWithin e = Fine (expr_marks e) → AreSmall (expr_mentions e) → TermWithin (length variables) (term_of variables e)

  binary_within : (c : Calc) (l r : Expr) → IsWithin l → IsWithin r → IsWithin (expr.Binary c (l, r))
  binary_within c l r f g h k =
      let a = parts (expr_marks l) (expr_marks r) (subst Fine (marks_binary c l r) h) in
      let b = smalls (expr_mentions l) (expr_mentions r) (subst AreSmall (mentions_binary c l r) k) in
      subst (TermWithin (length variables)) (sym (term_binary variables c l r)) (f a.0 b.0, g a.1 b.1)

  term_within : (e : Expr) → IsWithin e
  term_within = expr_induction IsWithin (λ a h k. subst (TermWithin (length variables)) (sym (term_leaf variables a)) (atom_within a (subst Fine (marks_leaf a) h) (subst AreSmall (mentions_leaf a) k))) binary_within

  terms_within : (es : List Expr) → Fine (flat_map expr_marks es) → AreSmall (flat_map expr_mentions es) → AllByRecursion (TermWithin (length variables)) (map (term_of variables) es)
  terms_within [] h k = tt
  terms_within (e ∷ es) h k =
      let a = parts (expr_marks e) (flat_map expr_marks es) h in
      let b = smalls (expr_mentions e) (flat_map expr_mentions es) k in
      (term_within e a.0 b.0, terms_within es a.1 b.1)

  terms_long : (es : List Expr) → length (map (term_of variables) es) ≡ length es
  terms_long [] = refl
  terms_long (e ∷ es) = ap suc (terms_long es)

  key_within : (args : List Atom) → Fine (flat_map atom_marks args) → AreSmall (flat_map atom_mentions args) → AtomWithin (length variables) (key_of variables args)
  key_within [] h k = tt
  key_within (a ∷ more) h k = atom_within a (parts (atom_marks a) (flat_map atom_marks more) h).0 (smalls (atom_mentions a) (flat_map atom_mentions more) k).0

  value_within : (args : List Atom) → Fine (flat_map atom_marks args) → AreSmall (flat_map atom_mentions args) → AtomWithin (length variables) (value_of variables args)
  value_within [] h k = tt
  value_within (a ∷ []) h k = tt
  value_within (a ∷ b ∷ more) h k = key_within (b ∷ more) (parts (atom_marks a) (flat_map atom_marks (b ∷ more)) h).1 (smalls (atom_mentions a) (flat_map atom_mentions (b ∷ more)) k).1

  no_key : (args : List Atom) (n : ℕ) → length args ≡ n → n < 1 → key_of variables args ≡ Lit Nil
  no_key [] n e l = refl
  no_key (a ∷ more) n e l = absurd (omega arith)

  no_value : (args : List Atom) (n : ℕ) → length args ≡ n → n < 2 → value_of variables args ≡ Lit Nil
  no_value [] n e l = refl
  no_value (a ∷ []) n e l = refl
  no_value (a ∷ b ∷ more) n e l = absurd (omega arith)

  call_within : (c : Call) → Fine (call_marks c) → AreSmall (flat_map atom_mentions c.args) → CallWithin shape (length variables) (call_of tables variables c)
  call_within c h k = record {
    table = h.1.0;
    key = key_within c.args h.1.1 k;
    value = value_within c.args h.1.1 k;
    no_key = λ l. no_key c.args (arguments c.kind) h.0 l;
    no_value = λ l. no_value c.args (arguments c.kind) h.0 l;
  }

  stored_within : (name : ℕ) (r : Right) (p : ℕ) (rest : Code) → number_in variables name < length variables → Fine (right_marks r) → AreSmall (right_mentions r) → CodeWithin shape (length variables) rest → CodeWithin shape (length variables) (stored tables variables name r p rest)
  stored_within name (right.Plain e) p rest l h k w = (l, term_within e h k, w)
  stored_within name (right.Result c) p rest l h k w = (l, call_within c h k.1, w)

  code_within : (s : Source) (p : ℕ) → Fine (marks s) → IsHeldBlock s → CodeWithin shape (length variables) (code_of tables variables s p)
  code_within Finish p h k = tt
  code_within (Let n at r rest) p h k =
      let a = parts (right_marks r) (seeing (n ∷ []) (marks rest)) h.1 in
      stored_within n r p (code_of tables variables rest (p + right_points r)) h.0 a.0 k.0 (code_within rest (p + right_points r) (unseen (n ∷ []) (marks rest) a.1) k.1)
  code_within (Assign n at r rest) p h k =
      let a = parts (right_marks r) (marks rest) h.1 in
      stored_within n r p (code_of tables variables rest (p + right_points r)) h.0 a.0 k.0 (code_within rest (p + right_points r) a.1 k.1)
  code_within (Do c rest) p h k = (let a = parts (call_marks c) (marks rest) h in (tt, call_within c a.0 k.0.1, code_within rest (p + 1) a.1 k.1))
  code_within (Choose at c a b rest) p h k =
      let x = parts (cond_marks c) (marks a ++ (marks b ++ marks rest)) h in
      let y = parts (marks a) (marks b ++ marks rest) x.1 in
      let z = parts (marks b) (marks rest) y.1 in
      let t = parts (expr_marks c.left) (expr_marks c.right) x.0 in
      let u = smalls (expr_mentions c.left) (expr_mentions c.right) k.0 in (
        (term_within c.left t.0 u.0, term_within c.right t.1 u.1),
        code_within a (p + 1) y.0 k.1,
        code_within b (p + 2 + points_of a) z.0 k.2,
        code_within rest (p + 2 + points_of a + points_of b) z.1 k.3,
      )
  code_within (Repeat at n n_at name name_at body rest) p h k =
      let x = parts (seeing (name ∷ []) (marks body)) (marks rest) h.1.1 in
      (h.1.0, h.0.0, h.0.1, code_within body p (unseen (name ∷ []) (marks body) x.0) k.0, code_within rest (p + points_of body + 1) x.1 k.1)
  code_within (Answer es rest) p h k =
      let x = parts (flat_map expr_marks es) (marks rest) h in
      let long = terms_long es in
      let some = k.0 in
      let few = k.1 in
      (omega (arith, long, some), omega (arith, long, few), terms_within es x.0 k.2, code_within rest p x.1 k.3)

-- ---- more variables
module _ (shape : List TableKind) (n m : ℕ) (le : n ≤ m) where
  more_atom : (a : CheckedAtom) → AtomWithin n a → AtomWithin m a
  more_atom (Lit v) h = h
  more_atom (Var x) h = omega (arith, le, h)

  more_term : (t : Term) → TermWithin n t → TermWithin m t
  more_term (code.Atom a) h = more_atom a h
  more_term (Calculate c l r) h = (more_term l h.0, more_term r h.1)

  more_terms : (ts : List Term) → AllByRecursion (TermWithin n) ts → AllByRecursion (TermWithin m) ts
  more_terms [] h = tt
  more_terms (t ∷ ts) h = (more_term t h.0, more_terms ts h.1)

  more_call : (c : CheckedCall) → CallWithin shape n c → CallWithin shape m c
  more_call c h = record {
    table = h.table;
    key = more_atom c.key h.key;
    value = more_atom c.value h.value;
    no_key = h.no_key;
    no_value = h.no_value;
  }

  more_var : (x : Option ℕ) → VarWithin n x → VarWithin m x
  more_var None h = tt
  more_var (Some x) h = omega (arith, le, h)

  pub more_code : (c : Code) → CodeWithin shape n c → CodeWithin shape m c
  more_code code.Finish h = tt
  more_code (code.Move x e rest) h = (let l = h.0 in omega (arith, le, l), more_term e h.1, more_code rest h.2)
  more_code (code.Ask at p x c rest) h = (more_var x h.0, more_call c h.1, more_code rest h.2)
  more_code (code.Fork at p q test a b rest) h =
      ((more_term test.left h.0.0, more_term test.right h.0.1), more_code a h.1, more_code b h.2, more_code rest h.3)
  more_code (code.Loop at p turns x body rest) h =
      (let l = h.0 in omega (arith, le, l), h.1, h.2, more_code body h.3, more_code rest h.4)
  more_code (code.Quit es rest) h = (h.0, h.1, more_terms es h.2, more_code rest h.3)

-- ---- handlers
few_params : (f : File) (h : Handler) → IsAccepted f → Contains f.handlers h → length h.params ≤ 32
few_params f h a among =
    let few = few_variables f h a.keeps among in
    let rest : List ℕ = declared (seeing (param_names h.params) (marks (block_source h.body))) in
    let whole : length (variables_of h) ≡ length (declared (param_marks h.params)) + length rest = ap length (declared_append (param_marks h.params) (seeing (param_names h.params) (marks (block_source h.body)))) ∙ length-append (declared (param_marks h.params)) rest in
    let long : length (declared (param_marks h.params)) ≡ length h.params = ap length (params_declared h.params) ∙ names_long h.params in
    omega (arith, few, whole, long)
  where
    names_long : (ps : List Param) → length (param_names ps) ≡ length ps
    names_long [] = refl
    names_long (p ∷ ps) = ap suc (names_long ps)

handler_within : (f : File) (h : Handler) → IsAccepted f → KeepsBounds f → Contains f.handlers h → CodeWithin (shape_of f) (length (variables_of h)) (handler_code f h)
handler_within f h a bounds among =
    let names : List ℕ = param_names h.params in
    let body : List Mark = marks (block_source h.body) in
    let fine = all_first (IsFine (shape_of f) (table_names f) (variables_of h)) (param_marks h.params) (seeing names body) (all_fine f h a.keeps among) in
    code_within (shape_of f) (table_names f) (variables_of h) (block_source h.body) 1 (unseen (shape_of f) (table_names f) (variables_of h) names body fine.1) (held_handler f h bounds among)

pub all_within : (f : File) → IsAccepted f → KeepsBounds f → (i : ℕ) → HandlerWithin f i
all_within f a bounds i = record {
  params = params (slice_get f.handlers i) refl;
  within = more_code (shape_of f) (length (variables_at f i)) 32 (variables (slice_get f.handlers i) refl) (code_at f i) (within (slice_get f.handlers i) refl);
  variables = variables (slice_get f.handlers i) refl;
  own = within (slice_get f.handlers i) refl;
  numbered = points (slice_get f.handlers i);
  calls = calls (slice_get f.handlers i) refl;
  work = work (slice_get f.handlers i) refl;
}
  where
    params : (o : Option Handler) → slice_get f.handlers i ≡ o → params_in o ≤ 32
    params None e = omega arith
    params (Some h) e = few_params f h a (in_file f.handlers i h e)

    variables : (o : Option Handler) → slice_get f.handlers i ≡ o → length (variables_in o) ≤ 32
    variables None e = omega arith
    variables (Some h) e = few_variables f h a.keeps (in_file f.handlers i h e)

    within : (o : Option Handler) → slice_get f.handlers i ≡ o → CodeWithin (shape_of f) (length (variables_in o)) (code_in f o)
    within None e = tt
    within (Some h) e = handler_within f h a bounds (in_file f.handlers i h e)

    points : (o : Option Handler) → code.IsNumbered (code_in f o) 1
    points None = tt
    points (Some h) = numbered (table_names f) (variables_of h) (block_source h.body) 1

    calls : (o : Option Handler) → slice_get f.handlers i ≡ o → calls_bound (code_in f o) ≤ 10000
    calls None e = omega arith
    calls (Some h) e = few_calls f i h a e

    work : (o : Option Handler) → slice_get f.handlers i ≡ o → work_bound (code_in f o) ≤ 100000
    work None e = omega arith
    work (Some h) e = little_work f i h a e
