-- Where no rule is broken, the marks of a handler's text are fine: names have numbers, tables fit, and counts are right.
use Rattle.std.proofs.Common.{◌≡◌, ◌≢◌, ℕ, suc, ◌+◌, ◌<◌, ◌≤◌, ◌==◌, nat_lt, Bool, true, false, if◌then◌else◌, ◌⊎◌, inl, inr, List, [], ◌∷◌, ◌++◌, append-nil, length, map, slice_get, Option, Some, None, refl, sym, ap, ◌∙◌, subst, arith}
use Rattle.std.proofs.lemmas.Bool.Decides.{nat_tests}
use Rattle.std.proofs.lemmas.List.{length_push}
use Rattle.std.proofs.lemmas.List.Elements.{Contains-append_right}
use Rattle.std.proofs.lemmas.Option.{slice_get_within}
use Rattle.std.proofs.lemmas.Bool.{eqb-true}
use Rattle.std.specs.List.{AllByRecursion, Contains}
use Rattle.session_values.specs.declared.kind.Kind.{Kind}
use Rattle.session_values.specs.declared.kind.TableKind.{TableKind}
use Rattle.session_values.specs.Kinds.{arguments, home}
use Rattle.syntax_trees.specs.declared.file.File.{File}
use Rattle.syntax_trees.specs.declared.file.Handler.{Handler}
use Rattle.syntax_trees.specs.declared.file.TableDecl.{TableDecl}
use Rattle.handler_check.specs.declared.refusal.CheckRefusal.TheVariants.{Twice, Unknown, Arity, WrongTable, RepeatBound, TooManyTables, TooManyHandlers, TooManyVariables}
use Rattle.handler_check.specs.FirstFault.{KeepsRules}
use Rattle.syntax_trees.specs.Marks.{Mark, Declared, Mentioned, Operation, OnTable, Turns, declared, handler_marks, table_marks, name_marks}
use Rattle.handler_check.specs.Rules.{Stands, IsPast, IsTwice, kind_of}
use Rattle.handler_check.specs.Scan.{is_same_kind}
use Rattle.handler_check.proofs.Finds.{kind_true, kind_false}
use Rattle.handler_check.proofs.Texts.{declared_append}
use Rattle.handler_check.specs.Resolved.{number_in, variables_of, shape_of, table_names, StandsForTable}
use Rattle.handler_check.proofs.Meaning.{eq_is, named_at, moved, same_names, Fresh, fresh_text, one_number, stands_for}

-- ---- how many are declared
module _ (limit : ℕ) (text : List Mark) (never : (at : ℕ) → IsPast limit text at → ⊥) where
  few_more : (pre ms : List Mark) (m : Mark) → text ≡ pre ++ m ∷ ms → length (declared pre) ≤ limit → length (declared (pre ++ m ∷ [])) ≤ limit
  few_more pre ms (Declared name at) e l = go (length (declared pre) == limit) refl
    where
      more : length (declared (pre ++ Declared name at ∷ [])) ≡ length (declared pre) + 1
      more = ap length (declared_append pre (Declared name at ∷ [])) ∙ length_push (declared pre) name

      go : (b : Bool) → (length (declared pre) == limit) ≡ b → length (declared (pre ++ Declared name at ∷ [])) ≤ limit
      go true t = absurd (never at (pre, name, record { after = ms; is = e }, eqb-true (length (declared pre)) limit t))
      go false t = (let ne : length (declared pre) ≢ limit = eq_is (length (declared pre)) limit t in omega (arith, more, ne, l))
  few_more pre ms (Mentioned name at visible) e l = subst (λ (x : List ℕ). length x ≤ limit) (sym (same_names pre (Mentioned name at visible) refl)) l
  few_more pre ms (Operation kind count at) e l = subst (λ (x : List ℕ). length x ≤ limit) (sym (same_names pre (Operation kind count at) refl)) l
  few_more pre ms (OnTable kind name at) e l = subst (λ (x : List ℕ). length x ≤ limit) (sym (same_names pre (OnTable kind name at) refl)) l
  few_more pre ms (Turns n at) e l = subst (λ (x : List ℕ). length x ≤ limit) (sym (same_names pre (Turns n at) refl)) l

  few_from : (pre ms : List Mark) → text ≡ pre ++ ms → length (declared pre) ≤ limit → length (declared text) ≤ limit
  few_from pre [] e l = subst (λ (x : List Mark). length (declared x) ≤ limit) (sym (e ∙ append-nil pre)) l
  few_from pre (m ∷ ms) e l = few_from (pre ++ m ∷ []) ms (moved text pre ms m e) (few_more pre ms m e l)

  few_declared : length (declared text) ≤ limit
  few_declared = few_from [] text refl (omega arith)

pub tables_declared : (ts : List TableDecl) → declared (table_marks ts) ≡ map (λ (t : TableDecl). t.name) ts
tables_declared [] = refl
tables_declared (t ∷ ts) = ap (λ (x : List ℕ). t.name ∷ x) (tables_declared ts)

tables_long : (ts : List TableDecl) → length (declared (table_marks ts)) ≡ length ts
tables_long [] = refl
tables_long (t ∷ ts) = ap suc (tables_long ts)

handlers_long : (hs : List Handler) → length (declared (name_marks hs)) ≡ length hs
handlers_long [] = refl
handlers_long (h ∷ hs) = ap suc (handlers_long hs)

pub few_tables : (f : File) → KeepsRules f → length f.tables ≤ 7
few_tables f keeps = subst (λ (n : ℕ). n ≤ 7) (tables_long f.tables) (few_declared 7 (table_marks f.tables) (λ at p. keeps (TooManyTables at) p))

pub few_handlers : (f : File) → KeepsRules f → length f.handlers ≤ 64
few_handlers f keeps = subst (λ (n : ℕ). n ≤ 64) (handlers_long f.handlers) (few_declared 64 (name_marks f.handlers) (λ at p. keeps (TooManyHandlers at) p))

pub few_variables : (f : File) (h : Handler) → KeepsRules f → Contains f.handlers h → length (variables_of h) ≤ 32
few_variables f h keeps among = few_declared 32 (handler_marks h) (λ at p. keeps (TooManyVariables at) (h, among, p))

-- ---- tables
kind_at : (ts : List TableDecl) (name : ℕ) (k : TableKind) → kind_of ts name ≡ Some k → slice_get (map (λ (t : TableDecl). t.kind) ts) (number_in (map (λ (t : TableDecl). t.name) ts) name) ≡ Some k
kind_at [] name k e = cc
kind_at (t ∷ ts) name k e = go (t.name == name) e (λ e. kind_at ts name k e)
  where
    go : (b : Bool) → (if b then Some t.kind else kind_of ts name) ≡ Some k → (kind_of ts name ≡ Some k → slice_get (map (λ (t : TableDecl). t.kind) ts) (number_in (map (λ (t : TableDecl). t.name) ts) name) ≡ Some k)
        → slice_get (map (λ (t : TableDecl). t.kind) (t ∷ ts)) (if b then 0 else suc (number_in (map (λ (t : TableDecl). t.name) ts) name)) ≡ Some k
    go true e more = e
    go false e more = more e

table_in : (ts : List TableDecl) (name : ℕ) (k : TableKind) → kind_of ts name ≡ Some k → Contains (map (λ (t : TableDecl). t.name) ts) name
table_in [] name k e = cc
table_in (t ∷ ts) name k e = go (t.name == name) refl e (λ e. table_in ts name k e)
  where
    go : (b : Bool) → (t.name == name) ≡ b → (if b then Some t.kind else kind_of ts name) ≡ Some k → (kind_of ts name ≡ Some k → Contains (map (λ (t : TableDecl). t.name) ts) name) → Contains (map (λ (t : TableDecl). t.name) (t ∷ ts)) name
    go true is e more = (0, omega arith, eqb-true t.name name is)
    go false is e more = (let c = more e in (suc c.0, (let l = c.1 in omega arith), c.2))

module _ (f : File) (h : Handler) (keeps : KeepsRules f) (among : Contains f.handlers h) where
  found_kind : (before : List Mark) (kind : Kind) (name at : ℕ) → Stands (handler_marks h) before (OnTable kind name at) → kind_of f.tables name ≡ Some (home kind)
  found_kind before kind name at s = go (kind_of f.tables name) refl
    where
      same : (found : TableKind) → kind_of f.tables name ≡ Some found → (b : Bool) → is_same_kind found (home kind) ≡ b → kind_of f.tables name ≡ Some (home kind)
      same found e true t = e ∙ ap (λ (k : TableKind). Some k) (kind_true found (home kind) t)
      same found e false t = absurd (keeps (WrongTable at) (h, among, (before, kind, name, found, s, e, kind_false found (home kind) t)))

      go : (o : Option TableKind) → kind_of f.tables name ≡ o → kind_of f.tables name ≡ Some (home kind)
      go None e = absurd (keeps (Unknown at) (h, among, inr (before, kind, name, s, e)))
      go (Some found) e = same found e (is_same_kind found (home kind)) refl

  pub stands_for_table : (before : List Mark) (kind : Kind) (name at : ℕ) → Stands (handler_marks h) before (OnTable kind name at) → StandsForTable f kind name (number_in (table_names f) name)
  stands_for_table before kind name at s =
      let kept : kind_of f.tables name ≡ Some (home kind) = found_kind before kind name at s in
      let named_in : Contains (table_names f) name = table_in f.tables name (home kind) kept in
      let number : slice_get (table_names f) (number_in (table_names f) name) ≡ Some name = named_at (table_names f) name named_in.0 named_in.1 named_in.2 in
      let fresh = fresh_text (table_marks f.tables) [] (table_marks f.tables) refl (λ p t. keeps (Twice p) (inl t)) in
      record {
        named = number;
        only = λ y e. one_number (table_names f) [] y (number_in (table_names f) name) name (subst (λ (x : List ℕ). Fresh [] x) (tables_declared f.tables) fresh) e number;
        fit = kind_at f.tables name (home kind) kept;
      }

-- ---- names in their order
seam : (xs : List ℕ) (x : ℕ) (ys : List ℕ) → slice_get (xs ++ x ∷ ys) (length xs) ≡ Some x
seam [] x ys = refl
seam (y ∷ xs) x ys = seam xs x ys

-- the number of a declared name is how many were declared before it
in_order : (text before : List Mark) (name at : ℕ) → ((p : ℕ) → IsTwice text p → ⊥) → Stands text before (Declared name at) → number_in (declared text) name ≡ length (declared before)
in_order text before name at never s =
    let rest : List ℕ = declared s.after in
    let whole : declared text ≡ declared before ++ name ∷ rest = ap declared s.is ∙ declared_append before (Declared name at ∷ s.after) in
    let among : Contains (declared text) name = subst (λ (x : List ℕ). Contains x name) (sym whole) (Contains-append_right (declared before) (name ∷ rest) name (0, omega arith, refl)) in
    let here : slice_get (declared text) (length (declared before)) ≡ Some name = subst (λ (x : List ℕ). slice_get x (length (declared before)) ≡ Some name) (sym whole) (seam (declared before) name rest) in
    one_number (declared text) [] (number_in (declared text) name) (length (declared before)) name (fresh_text text [] text refl never) (named_at (declared text) name among.0 among.1 among.2) here

pub variables_in_order : (f : File) (h : Handler) → KeepsRules f → Contains f.handlers h → (before : List Mark) (name at : ℕ) → Stands (handler_marks h) before (Declared name at) → number_in (variables_of h) name ≡ length (declared before)
variables_in_order f h keeps among before name at s =
    in_order (handler_marks h) before name at (λ p t. keeps (Twice p) (inr (inr (h, among, t)))) s

pub tables_in_order : (f : File) → KeepsRules f → (before : List Mark) (name at : ℕ) → Stands (table_marks f.tables) before (Declared name at) → number_in (table_names f) name ≡ length (declared before)
tables_in_order f keeps before name at s =
    subst (λ (x : List ℕ). number_in x name ≡ length (declared before)) (tables_declared f.tables) (in_order (table_marks f.tables) before name at (λ p t. keeps (Twice p) (inl t)) s)

-- ---- marks

-- a name is the number of one of the variables, an operation has its table and its arguments, and a block is done 1 to 1000 times
abbrev pub IsFine : List TableKind → List ℕ → List ℕ → Mark → Type 0
IsFine shape tables variables (Declared name at) = number_in variables name < length variables
IsFine shape tables variables (Mentioned name at visible) = number_in variables name < length variables
IsFine shape tables variables (Operation kind count at) = count ≡ arguments kind
IsFine shape tables variables (OnTable kind name at) = slice_get shape (number_in tables name) ≡ Some (home kind)
IsFine shape tables variables (Turns n at) = (0 < n) × (n ≤ 1000)

abbrev pub AreFine : List TableKind → List ℕ → List ℕ → List Mark → Type 0
AreFine shape tables variables ms = AllByRecursion (IsFine shape tables variables) ms

some_turns : (n : ℕ) → ((n ≡ 0) ⊎ (1000 < n) → ⊥) → (0 < n) × (n ≤ 1000)
some_turns n h = (first (n == 0) refl, last (nat_lt 1000 n) refl)
  where
    larger : nat_lt 1000 n ≡ true → 1000 < n
    larger e = grind (arith, nat_tests)

    smaller : nat_lt 1000 n ≡ false → n ≤ 1000
    smaller e = grind (arith, nat_tests)

    first : (b : Bool) → (n == 0) ≡ b → 0 < n
    first true e = absurd (h (inl (eqb-true n 0 e)))
    first false e = (let ne : n ≢ 0 = eq_is n 0 e in omega (arith, ne))

    last : (b : Bool) → nat_lt 1000 n ≡ b → n ≤ 1000
    last true e = absurd (h (inr (larger e)))
    last false e = smaller e

module _ (f : File) (h : Handler) (keeps : KeepsRules f) (among : Contains f.handlers h) where
  below : (name : ℕ) → slice_get (variables_of h) (number_in (variables_of h) name) ≡ Some name → number_in (variables_of h) name < length (variables_of h)
  below name e = slice_get_within (variables_of h) (number_in (variables_of h) name) name e

  fine_mark : (before : List Mark) (m : Mark) → Stands (handler_marks h) before m → IsFine (shape_of f) (table_names f) (variables_of h) m
  fine_mark before (Declared name at) s =
      let rest : List ℕ = declared s.after in
      let whole : variables_of h ≡ declared before ++ name ∷ rest = ap declared s.is ∙ declared_append before (Declared name at ∷ s.after) in
      let among_all : Contains (variables_of h) name = subst (λ (x : List ℕ). Contains x name) (sym whole) (Contains-append_right (declared before) (name ∷ rest) name (0, omega arith, refl)) in
      below name (named_at (variables_of h) name among_all.0 among_all.1 among_all.2)
  fine_mark before (Mentioned name at visible) s = (let stands = stands_for f h keeps among before name at visible s in below name stands.named)
  fine_mark before (Operation kind count at) s = go (count == arguments kind) refl
    where
      go : (b : Bool) → (count == arguments kind) ≡ b → count ≡ arguments kind
      go true e = eqb-true count (arguments kind) e
      go false e = absurd (keeps (Arity at) (h, among, (before, kind, count, s, eq_is count (arguments kind) e)))
  fine_mark before (OnTable kind name at) s = (let stands = stands_for_table f h keeps among before kind name at s in stands.fit)
  fine_mark before (Turns n at) s = some_turns n (λ b. keeps (RepeatBound at) (h, among, (before, n, s, b)))

  fine_from : (pre ms : List Mark) → handler_marks h ≡ pre ++ ms → AreFine (shape_of f) (table_names f) (variables_of h) ms
  fine_from pre [] e = tt
  fine_from pre (m ∷ ms) e = (fine_mark pre m (record { after = ms; is = e }), fine_from (pre ++ m ∷ []) ms (moved (handler_marks h) pre ms m e))

  pub all_fine : AreFine (shape_of f) (table_names f) (variables_of h) (handler_marks h)
  all_fine = fine_from [] (handler_marks h) refl
