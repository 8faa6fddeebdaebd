-- Where no rule is broken, each name stands for the declaration that is visible there.
use Rattle.std.proofs.Common.{◌≡◌, ℕ, suc, zero, ◌<◌, ◌==◌, Bool, true, false, inl, inr, if◌then◌else◌, List, [], ◌∷◌, ◌++◌, append-nil, append_assoc, length, slice_index_or, slice_get, Some, refl, sym, ap, ◌∙◌, subst, arith}
use Rattle.std.proofs.lemmas.Bool.Decides.{nat_tests}
use Rattle.std.proofs.lemmas.List.Elements.{Contains-append_left, Contains-append_right, Contains-append_cases, Contains-push}
use Rattle.std.proofs.lemmas.Bool.{eqb-true}
use Rattle.std.specs.List.{Contains, flat_map}
use Rattle.syntax_trees.specs.declared.expr.Atom.{Atom}
use Rattle.syntax_trees.specs.declared.expr.Atom.TheVariants as atom
use Rattle.syntax_trees.specs.declared.expr.Expr.{Expr}
use Rattle.syntax_trees.specs.declared.stmt.Call.{Call}
use Rattle.syntax_trees.specs.declared.stmt.Cond.{Cond}
use Rattle.syntax_trees.specs.declared.stmt.Right.{Right}
use Rattle.syntax_trees.specs.declared.stmt.Right.TheVariants as right
use Rattle.syntax_trees.specs.declared.file.File.{File}
use Rattle.syntax_trees.specs.declared.file.Handler.{Handler}
use Rattle.syntax_trees.specs.declared.file.Param.{Param}
use Rattle.syntax_trees.proofs.Inductions.{expr_induction}
use Rattle.handler_check.specs.declared.refusal.CheckRefusal.TheVariants.{Twice, Unknown}
use Rattle.handler_check.specs.FirstFault.{KeepsRules}
use Rattle.syntax_trees.specs.Marks.{Mark, Declared, Mentioned, Operation, OnTable, Turns, declared, seeing, atom_marks, expr_marks, call_marks, right_marks, cond_marks, marks, param_marks, param_names, handler_marks}
use Rattle.handler_check.specs.Rules.{Stands, IsTwice}
use Rattle.handler_check.specs.Scan.{is_among}
use Rattle.syntax_trees.specs.Source.{Source, Finish, Let, Assign, Do, Choose, Repeat, Answer, block_source}
use Rattle.handler_check.proofs.Finds.{among_in, in_among}
use Rattle.handler_check.proofs.Texts.{declared_append}
use Rattle.handler_check.specs.Resolved.{number_in, variables_of, StandsFor}
use Rattle.syntax_trees.proofs.Statements.{marks_leaf, marks_binary}
use Rattle.handler_check.proofs.Scans.{params_declared, expr_declares, right_declares, call_declares, cond_declares, all_declare}

-- ---- numbers of names
pub eq_is : (a b : ℕ) → (a == b) ≡ false → a ≡ b → ⊥
eq_is a b f e = grind (arith, nat_tests)

pub named_at : (ns : List ℕ) (name k : ℕ) → k < length ns → slice_index_or ns k name ≡ name → slice_get ns (number_in ns name) ≡ Some name
named_at [] name k l e = absurd (omega arith)
named_at (n ∷ ns) name k l e = go (n == name) refl k l e (λ j l e. named_at ns name j l e)
  where
    go : (b : Bool) → (n == name) ≡ b → (k : ℕ) → k < length (n ∷ ns) → slice_index_or (n ∷ ns) k name ≡ name → ((j : ℕ) → j < length ns → slice_index_or ns j name ≡ name → slice_get ns (number_in ns name) ≡ Some name)
        → slice_get (n ∷ ns) (if b then 0 else suc (number_in ns name)) ≡ Some name
    go true t k l e more = ap (λ (x : ℕ). Some x) (eqb-true n name t)
    go false t zero l e more = absurd (eq_is n name t e)
    go false t (suc k) l e more = more k (omega arith) e

below_at : (ns ms : List ℕ) (name k : ℕ) → k < length ns → slice_index_or ns k name ≡ name → number_in (ns ++ ms) name < length ns
below_at [] ms name k l e = absurd (omega arith)
below_at (n ∷ ns) ms name k l e = go (n == name) refl k l e (λ j l e. below_at ns ms name j l e)
  where
    go : (b : Bool) → (n == name) ≡ b → (k : ℕ) → k < length (n ∷ ns) → slice_index_or (n ∷ ns) k name ≡ name → ((j : ℕ) → j < length ns → slice_index_or ns j name ≡ name → number_in (ns ++ ms) name < length ns)
        → (if b then 0 else suc (number_in (ns ++ ms) name)) < length (n ∷ ns)
    go true t k l e more = omega arith
    go false t zero l e more = absurd (eq_is n name t e)
    go false t (suc k) l e more = (let h = more k (omega arith) e in omega arith)

-- ---- declarations of one name
abbrev pub Fresh : List ℕ → List ℕ → Type 0
Fresh earlier [] = Unit {0}
Fresh earlier (n ∷ ns) = (Contains earlier n → ⊥) × Fresh (earlier ++ n ∷ []) ns

abbrev NeverTwice : List Mark → Type 0
NeverTwice text = (at : ℕ) → IsTwice text at → ⊥

pub moved : (text pre ms : List Mark) (m : Mark) → text ≡ pre ++ m ∷ ms → text ≡ (pre ++ m ∷ []) ++ ms
moved text pre ms m e = e ∙ sym (append_assoc pre (m ∷ []) ms)

pub same_names : (pre : List Mark) (m : Mark) → declared (m ∷ []) ≡ [] → declared (pre ++ m ∷ []) ≡ declared pre
same_names pre m e = declared_append pre (m ∷ []) ∙ ap (λ (x : List ℕ). declared pre ++ x) e ∙ append-nil (declared pre)

pub fresh_text : (text pre ms : List Mark) → text ≡ pre ++ ms → NeverTwice text → Fresh (declared pre) (declared ms)
fresh_text text pre [] e h = tt
fresh_text text pre (Declared name at ∷ ms) e h = (
  λ c. h at (pre, name, record { after = ms; is = e }, c),
  subst (λ (x : List ℕ). Fresh x (declared ms)) (declared_append pre (Declared name at ∷ [])) (fresh_text text (pre ++ Declared name at ∷ []) ms (moved text pre ms (Declared name at) e) h),
)
fresh_text text pre (Mentioned name at visible ∷ ms) e h =
    subst (λ (x : List ℕ). Fresh x (declared ms)) (same_names pre (Mentioned name at visible) refl) (fresh_text text (pre ++ Mentioned name at visible ∷ []) ms (moved text pre ms (Mentioned name at visible) e) h)
fresh_text text pre (Operation kind count at ∷ ms) e h =
    subst (λ (x : List ℕ). Fresh x (declared ms)) (same_names pre (Operation kind count at) refl) (fresh_text text (pre ++ Operation kind count at ∷ []) ms (moved text pre ms (Operation kind count at) e) h)
fresh_text text pre (OnTable kind name at ∷ ms) e h =
    subst (λ (x : List ℕ). Fresh x (declared ms)) (same_names pre (OnTable kind name at) refl) (fresh_text text (pre ++ OnTable kind name at ∷ []) ms (moved text pre ms (OnTable kind name at) e) h)
fresh_text text pre (Turns n at ∷ ms) e h =
    subst (λ (x : List ℕ). Fresh x (declared ms)) (same_names pre (Turns n at) refl) (fresh_text text (pre ++ Turns n at ∷ []) ms (moved text pre ms (Turns n at) e) h)

fresh_get : (ns earlier : List ℕ) (i n : ℕ) → Fresh earlier ns → slice_get ns i ≡ Some n → Contains earlier n → ⊥
fresh_get [] earlier i n f e c = cc
fresh_get (m ∷ ns) earlier zero n f e c = (let is : m ≡ n = cc in f.0 (subst (Contains earlier) (sym is) c))
fresh_get (m ∷ ns) earlier (suc i) n f e c = fresh_get ns (earlier ++ m ∷ []) i n f.1 e (Contains-append_left earlier (m ∷ []) n c)

pub one_number : (ns earlier : List ℕ) (i j n : ℕ) → Fresh earlier ns → slice_get ns i ≡ Some n → slice_get ns j ≡ Some n → i ≡ j
one_number [] earlier i j n f e g = cc
one_number (m ∷ ns) earlier zero zero n f e g = refl
one_number (m ∷ ns) earlier zero (suc j) n f e g = absurd (let is : m ≡ n = cc in fresh_get ns (earlier ++ m ∷ []) j n f.1 g (subst (Contains (earlier ++ m ∷ [])) is (Contains-push earlier m)))
one_number (m ∷ ns) earlier (suc i) zero n f e g = absurd (let is : m ≡ n = cc in fresh_get ns (earlier ++ m ∷ []) i n f.1 e (subst (Contains (earlier ++ m ∷ [])) is (Contains-push earlier m)))
one_number (m ∷ ns) earlier (suc i) (suc j) n f e g = ap suc (one_number ns (earlier ++ m ∷ []) i j n f.1 e g)

-- ---- what is visible is declared before
abbrev Within : List ℕ → List ℕ → Type 0
Within xs ys = (n : ℕ) → Contains xs n → Contains ys n

abbrev SeesDeclared : List ℕ → List Mark → Type 0
SeesDeclared earlier [] = Unit {0}
SeesDeclared earlier (Declared name at ∷ ms) = SeesDeclared (earlier ++ name ∷ []) ms
SeesDeclared earlier (Mentioned name at visible ∷ ms) = Within visible earlier × SeesDeclared earlier ms
SeesDeclared earlier (Operation kind count at ∷ ms) = SeesDeclared earlier ms
SeesDeclared earlier (OnTable kind name at ∷ ms) = SeesDeclared earlier ms
SeesDeclared earlier (Turns n at ∷ ms) = SeesDeclared earlier ms

within_push : (xs ys : List ℕ) (m : ℕ) → Within xs ys → Within (xs ++ m ∷ []) (ys ++ m ∷ [])
within_push xs ys m h n c = elim (Contains-append_cases xs (m ∷ []) n c) [ inl a ↦ Contains-append_left ys (m ∷ []) n (h n a) | inr b ↦ Contains-append_right ys (m ∷ []) n b ]

sees_more : (ms : List Mark) (xs ys : List ℕ) → Within xs ys → SeesDeclared xs ms → SeesDeclared ys ms
sees_more [] xs ys w h = tt
sees_more (Declared name at ∷ ms) xs ys w h = sees_more ms (xs ++ name ∷ []) (ys ++ name ∷ []) (within_push xs ys name w) h
sees_more (Mentioned name at visible ∷ ms) xs ys w h = (λ n c. w n (h.0 n c), sees_more ms xs ys w h.1)
sees_more (Operation kind count at ∷ ms) xs ys w h = sees_more ms xs ys w h
sees_more (OnTable kind name at ∷ ms) xs ys w h = sees_more ms xs ys w h
sees_more (Turns n at ∷ ms) xs ys w h = sees_more ms xs ys w h

sees_append : (ms ns : List Mark) (earlier : List ℕ) → SeesDeclared earlier ms → SeesDeclared (earlier ++ declared ms) ns → SeesDeclared earlier (ms ++ ns)
sees_append [] ns earlier h k = subst (λ (x : List ℕ). SeesDeclared x ns) (append-nil earlier) k
sees_append (Declared name at ∷ ms) ns earlier h k = sees_append ms ns (earlier ++ name ∷ []) h (subst (λ (x : List ℕ). SeesDeclared x ns) (sym (append_assoc earlier (name ∷ []) (declared ms))) k)
sees_append (Mentioned name at visible ∷ ms) ns earlier h k = (h.0, sees_append ms ns earlier h.1 k)
sees_append (Operation kind count at ∷ ms) ns earlier h k = sees_append ms ns earlier h k
sees_append (OnTable kind name at ∷ ms) ns earlier h k = sees_append ms ns earlier h k
sees_append (Turns n at ∷ ms) ns earlier h k = sees_append ms ns earlier h k

sees_seeing : (ms : List Mark) (earlier names : List ℕ) → Within names earlier → SeesDeclared earlier ms → SeesDeclared earlier (seeing names ms)
sees_seeing [] earlier names w h = tt
sees_seeing (Declared name at ∷ ms) earlier names w h = sees_seeing ms (earlier ++ name ∷ []) names (λ n c. Contains-append_left earlier (name ∷ []) n (w n c)) h
sees_seeing (Mentioned name at visible ∷ ms) earlier names w h = (λ n c. elim (Contains-append_cases names visible n c) [ inl a ↦ w n a | inr b ↦ h.0 n b ], sees_seeing ms earlier names w h.1)
sees_seeing (Operation kind count at ∷ ms) earlier names w h = sees_seeing ms earlier names w h
sees_seeing (OnTable kind name at ∷ ms) earlier names w h = sees_seeing ms earlier names w h
sees_seeing (Turns n at ∷ ms) earlier names w h = sees_seeing ms earlier names w h

-- ---- texts that see nothing of their own
in_none : (ys : List ℕ) → Within [] ys
in_none ys n c = absurd (let l : c.0 < 0 = c.1 in omega arith)

atom_sees : (a : Atom) (earlier : List ℕ) → SeesDeclared earlier (atom_marks a)
atom_sees (atom.Lit v) earlier = tt
atom_sees (atom.Name n p) earlier = (in_none earlier, tt)

silent : (ms ns : List Mark) (earlier : List ℕ) → declared ms ≡ [] → SeesDeclared earlier ms → SeesDeclared earlier ns → SeesDeclared earlier (ms ++ ns)
silent ms ns earlier e h k = sees_append ms ns earlier h (subst (λ (x : List ℕ). SeesDeclared x ns) (sym (ap (λ (x : List ℕ). earlier ++ x) e ∙ append-nil earlier)) k)

expr_sees : (e : Expr) (earlier : List ℕ) → SeesDeclared earlier (expr_marks e)
expr_sees = expr_induction (λ e. (earlier : List ℕ) → SeesDeclared earlier (expr_marks e)) (λ a earlier. subst (SeesDeclared earlier) (sym (marks_leaf a)) (atom_sees a earlier))
    (λ c l r h k earlier. subst (SeesDeclared earlier) (sym (marks_binary c l r)) (silent (expr_marks l) (expr_marks r) earlier (expr_declares l) (h earlier) (k earlier)))

all_see : {X : Type 0} (f : X → List Mark) → ((x : X) → declared (f x) ≡ []) → ((x : X) (earlier : List ℕ) → SeesDeclared earlier (f x)) → (xs : List X) (earlier : List ℕ) → SeesDeclared earlier (flat_map f xs)
all_see f e h [] earlier = tt
all_see f e h (x ∷ xs) earlier = silent (f x) (flat_map f xs) earlier (e x) (h x earlier) (all_see f e h xs earlier)

call_sees : (c : Call) (earlier : List ℕ) → SeesDeclared earlier (call_marks c)
call_sees c earlier = all_see atom_marks atom_declared atom_sees c.args earlier
  where
    atom_declared : (a : Atom) → declared (atom_marks a) ≡ []
    atom_declared (atom.Lit v) = refl
    atom_declared (atom.Name n p) = refl

right_sees : (r : Right) (earlier : List ℕ) → SeesDeclared earlier (right_marks r)
right_sees (right.Plain e) earlier = expr_sees e earlier
right_sees (right.Result c) earlier = call_sees c earlier

cond_sees : (c : Cond) (earlier : List ℕ) → SeesDeclared earlier (cond_marks c)
cond_sees c earlier = silent (expr_marks c.left) (expr_marks c.right) earlier (expr_declares c.left) (expr_sees c.left earlier) (expr_sees c.right earlier)

only_in : (n m : ℕ) (earlier : List ℕ) → Contains (n ∷ []) m → Contains (earlier ++ n ∷ []) m
only_in n m earlier c = Contains-append_right earlier (n ∷ []) m c

marks_see : (s : Source) (earlier : List ℕ) → SeesDeclared earlier (marks s)
marks_see Finish earlier = tt
marks_see (Let n at r rest) earlier =
    let more : List ℕ = earlier ++ n ∷ [] in
    silent (right_marks r) (seeing (n ∷ []) (marks rest)) more (right_declares r) (right_sees r more) (sees_seeing (marks rest) more (n ∷ []) (λ m c. only_in n m earlier c) (marks_see rest more))
marks_see (Assign n at r rest) earlier = (in_none earlier, silent (right_marks r) (marks rest) earlier (right_declares r) (right_sees r earlier) (marks_see rest earlier))
marks_see (Do c rest) earlier = silent (call_marks c) (marks rest) earlier (call_declares c) (call_sees c earlier) (marks_see rest earlier)
marks_see (Choose at c a b rest) earlier =
    let first : List ℕ = earlier ++ declared (marks a) in
    let second : List ℕ = first ++ declared (marks b) in
    silent (cond_marks c) (marks a ++ (marks b ++ marks rest)) earlier (cond_declares c) (cond_sees c earlier)
    (sees_append (marks a) (marks b ++ marks rest) earlier (marks_see a earlier) (sees_append (marks b) (marks rest) first (marks_see b first) (marks_see rest second)))
marks_see (Repeat at n n_at name name_at body rest) earlier =
    let more : List ℕ = earlier ++ name ∷ [] in
    let inner : List Mark = seeing (name ∷ []) (marks body) in
    sees_append inner (marks rest) more (sees_seeing (marks body) more (name ∷ []) (λ m c. only_in name m earlier c) (marks_see body more)) (marks_see rest (more ++ declared inner))
marks_see (Answer es rest) earlier = silent (flat_map expr_marks es) (marks rest) earlier (all_declare expr_marks expr_declares es) (all_see expr_marks expr_declares expr_sees es earlier) (marks_see rest earlier)

params_see : (ps : List Param) (earlier : List ℕ) → SeesDeclared earlier (param_marks ps)
params_see [] earlier = tt
params_see (p ∷ ps) earlier = params_see ps (earlier ++ p.name ∷ [])

handler_sees : (h : Handler) → SeesDeclared [] (handler_marks h)
handler_sees h =
    sees_append (param_marks h.params) (seeing (param_names h.params) (marks (block_source h.body))) [] (params_see h.params [])
    (sees_seeing (marks (block_source h.body)) (declared (param_marks h.params)) (param_names h.params) (λ n c. subst (λ (x : List ℕ). Contains x n) (sym (params_declared h.params)) c) (marks_see (block_source h.body) (declared (param_marks h.params))))

seen_at : (before : List Mark) (name at : ℕ) (visible : List ℕ) (after : List Mark) (earlier : List ℕ) → SeesDeclared earlier (before ++ Mentioned name at visible ∷ after) → Within visible (earlier ++ declared before)
seen_at [] name at visible after earlier h n c = subst (λ (x : List ℕ). Contains x n) (sym (append-nil earlier)) (h.0 n c)
seen_at (Declared m p ∷ before) name at visible after earlier h n c = subst (λ (x : List ℕ). Contains x n) (append_assoc earlier (m ∷ []) (declared before)) (seen_at before name at visible after (earlier ++ m ∷ []) h n c)
seen_at (Mentioned m p v ∷ before) name at visible after earlier h n c = seen_at before name at visible after earlier h.1 n c
seen_at (Operation k m p ∷ before) name at visible after earlier h n c = seen_at before name at visible after earlier h n c
seen_at (OnTable k m p ∷ before) name at visible after earlier h n c = seen_at before name at visible after earlier h n c
seen_at (Turns m p ∷ before) name at visible after earlier h n c = seen_at before name at visible after earlier h n c

-- ---- what a name stands for
is_visible : (f : File) (h : Handler) → KeepsRules f → Contains f.handlers h → (before : List Mark) (name at : ℕ) (visible : List ℕ) → Stands (handler_marks h) before (Mentioned name at visible) → Contains visible name
is_visible f h keeps among before name at visible s = go (is_among visible name) refl
  where
    go : (b : Bool) → is_among visible name ≡ b → Contains visible name
    go true t = among_in visible name t
    go false t = absurd (keeps (Unknown at) (h, among, inl (before, name, visible, s, λ c. (let u = in_among visible name c in cc))))

pub stands_for : (f : File) (h : Handler) → KeepsRules f → Contains f.handlers h → (before : List Mark) (name at : ℕ) (visible : List ℕ) → Stands (handler_marks h) before (Mentioned name at visible)
    → StandsFor h before visible name (number_in (variables_of h) name)
stands_for f h keeps among before name at visible s =
    let seen : Contains visible name = is_visible f h keeps among before name at visible s in
    let declares : Contains (declared before) name = seen_at before name at visible s.after [] (subst (SeesDeclared []) s.is (handler_sees h)) name seen in
    let rest : List ℕ = declared (Mentioned name at visible ∷ s.after) in
    let whole : variables_of h ≡ declared before ++ rest = ap declared s.is ∙ declared_append before (Mentioned name at visible ∷ s.after) in
    let all : Contains (variables_of h) name = subst (λ (x : List ℕ). Contains x name) (sym whole) (Contains-append_left (declared before) rest name declares) in
    let number : slice_get (variables_of h) (number_in (variables_of h) name) ≡ Some name = named_at (variables_of h) name all.0 all.1 all.2 in
    record {
      named = number;
      only = λ y e. one_number (variables_of h) [] y (number_in (variables_of h) name) name (fresh_text (handler_marks h) [] (handler_marks h) refl (λ p t. keeps (Twice p) (inr (inr (h, among, t))))) e number;
      earlier = subst (λ (x : List ℕ). number_in x name < length (declared before)) (sym whole) (below_at (declared before) rest name declares.0 declares.1 declares.2);
      visible = seen;
    }
