-- The words of operations, right sides and conditions have one tree.
use Rattle.std.proofs.Common.{◌≡◌, ℕ, List, [], ◌∷◌, Option, Some, None, refl, sym, ap, ◌∙◌}
use Rattle.session_values.specs.declared.kind.Kind.{Kind}
use Rattle.syntax_grammar.specs.declared.word.Word.{Word}
use Rattle.syntax_grammar.specs.declared.word.Sort.TheVariants as sort
use Rattle.syntax_trees.specs.declared.expr.Atom.{Atom}
use Rattle.syntax_trees.specs.declared.expr.Expr.{Expr}
use Rattle.syntax_trees.specs.declared.stmt.Call.{Call}
use Rattle.syntax_trees.specs.declared.stmt.Compare.{Compare}
use Rattle.syntax_trees.specs.declared.stmt.Cond.{Cond}
use Rattle.syntax_trees.specs.declared.stmt.Right.TheVariants as right
use Rattle.syntax_grammar.specs.declared.turns.Turns.{Turns}
use Rattle.syntax_grammar.specs.Sorts.{operation, comparison}
use Rattle.syntax_grammar.specs.Phrase.{word, NumberPhrase, digits, number_words, name_atom, nil_atom, symbol_atom, number_atom, negative_atom, plain, grouped, term, sum, ExprPhrase, expr_words, MoreAtoms, no_atom, more_atom, atoms_words, OperandsPhrase, operands, operands_words, CallPhrase, a_call, call_words, RightPhrase, result_right, plain_right, right_words, CondPhrase, a_cond, cond_words, TurnsPhrase, a_turns, turns_words, MoreValues, no_value, more_value, more_words, ValuesPhrase, values_words}
use Rattle.syntax_grammar.specs.Tree.{name_of, count_of, atom_tree, expr_tree, atoms_trees, call_of, call_tree, right_tree, cond_tree, turns_of, more_trees, values_trees}
use Rattle.syntax_grammar.proofs.Unique.{Same, tail, head_sort, head_at, NotSign, same_name, same_atom, same_expr}

-- ---- operations

same_atoms : (xs ys : MoreAtoms) (q q' : ℕ) (r s : List Word) → atoms_words xs (word sort.RightParen q ∷ r) ≡ atoms_words ys (word sort.RightParen q' ∷ s) → Same (atoms_trees xs) (atoms_trees ys) r s
same_atoms no_atom no_atom q q' r s e = record { tree = refl; rest = tail e }
same_atoms no_atom (more_atom p a ys) q q' r s e = let h = head_sort e in cc
same_atoms (more_atom p a xs) no_atom q q' r s e = let h = head_sort e in cc
same_atoms (more_atom p a xs) (more_atom p' b ys) q q' r s e =
    let h = same_atom a b _ _ (tail e) in
    let k = same_atoms xs ys q q' r s h.rest in
    record { tree = ap (λ x. x ∷ atoms_trees xs) h.tree ∙ ap (λ l. atom_tree b ∷ l) k.tree; rest = k.rest }

call_with : Kind → ℕ → ℕ × ℕ → List Atom → Call
call_with k p v args = record { kind = k; at = p; table = v.0; table_at = v.1; args = args }

same_operands : (k : Kind) (p : ℕ) (o u : OperandsPhrase) (r s : List Word) → operands_words o r ≡ operands_words u s → Same (call_of k p o) (call_of k p u) r s
unfolding call_with
same_operands k p (operands l n xs q) (operands l' n' ys q') r s e =
    let h = same_name n n' _ _ (tail e) in
    let m = same_atoms xs.atoms ys.atoms q q' r s h.rest in
    record { tree = ap (λ v. call_with k p v (atoms_trees xs.atoms)) h.tree ∙ ap (call_with k p (name_of n')) m.tree; rest = m.rest }

same_kind : (k j : Kind) → sort.Do k ≡ sort.Do j → k ≡ j
same_kind k j e = let h : Some k ≡ Some j = ap operation e in cc

pub same_call : (c d : CallPhrase) (r s : List Word) → call_words c r ≡ call_words d s → Same (call_tree c) (call_tree d) r s
same_call (a_call k p o) (a_call j q u) r s e =
    let h = same_operands k p o u r s (tail e) in
    record { tree = h.tree ∙ ap (λ x. call_of x p u) (same_kind k j (head_sort e)) ∙ ap (λ x. call_of j x u) (head_at e); rest = h.rest }

-- ---- right sides

-- an expression doesn't begin with an operation
abbrev FirstOperation : List Word → Option Kind
FirstOperation [] = None
FirstOperation (w ∷ ws) = operation w.sort

no_operation : (e : ExprPhrase) (r : List Word) → FirstOperation (expr_words e r) ≡ None
no_operation (sum (term (plain (name_atom n p)) fs) ts) r = refl
no_operation (sum (term (plain (nil_atom p)) fs) ts) r = refl
no_operation (sum (term (plain (symbol_atom n p)) fs) ts) r = refl
no_operation (sum (term (plain (number_atom (digits v p))) fs) ts) r = refl
no_operation (sum (term (plain (negative_atom p d)) fs) ts) r = refl
no_operation (sum (term (grouped p e q) fs) ts) r = refl

pub same_right : (x y : RightPhrase) (r s : List Word) → NotSign r → NotSign s → right_words x r ≡ right_words y s → Same (right_tree x) (right_tree y) r s
same_right (result_right c) (result_right d) r s nr ns e = let h = same_call c d r s e in record { tree = ap right.Result h.tree; rest = h.rest }
same_right (plain_right a) (plain_right b) r s nr ns e = let h = same_expr a b r s nr ns e in record { tree = ap right.Plain h.tree; rest = h.rest }
same_right (result_right (a_call k p o)) (plain_right b) r s nr ns e = absurd (let h : Some k ≡ None = ap FirstOperation e ∙ no_operation b s in cc)
same_right (plain_right a) (result_right (a_call k p o)) r s nr ns e = absurd (let h : None ≡ Some k = sym (no_operation a r) ∙ ap FirstOperation e in cc)

-- ---- conditions and heads of repeats

same_compare : (c d : Compare) → sort.Compare c ≡ sort.Compare d → c ≡ d
same_compare c d e = let h : Some c ≡ Some d = ap comparison e in cc

-- a comparison is no operator
compare_no_sign : (c : Compare) (p : ℕ) (r : List Word) → NotSign (word (sort.Compare c) p ∷ r)
compare_no_sign c p r = ((λ e. cc), (λ e. cc), (λ e. cc))

cond_with : Compare → Expr → Expr → Cond
cond_with c a b = record { compare = c; left = a; right = b }

pub same_cond : (c d : CondPhrase) (r s : List Word) → NotSign r → NotSign s → cond_words c r ≡ cond_words d s → Same (cond_tree c) (cond_tree d) r s
unfolding cond_with
same_cond (a_cond a c p b) (a_cond a' c' p' b') r s nr ns e =
    let h = same_expr a a' _ _ (compare_no_sign c p (expr_words b r)) (compare_no_sign c' p' (expr_words b' s)) e in
    let k = same_expr b b' r s nr ns (tail h.rest) in
    record { tree = ap (λ x. cond_with c x (expr_tree b)) h.tree ∙ ap (λ x. cond_with x (expr_tree a') (expr_tree b)) (same_compare c c' (head_sort h.rest)) ∙ ap (cond_with c' (expr_tree a')) k.tree; rest = k.rest }

same_count : (d d' : NumberPhrase) (r s : List Word) → number_words d r ≡ number_words d' s → Same (count_of d) (count_of d') r s
same_count (digits v p) (digits v' p') r s e = record { tree = let a = head_sort e in let b = head_at e in let h : v ≡ v' = cc in cc; rest = tail e }

turns_with : ℕ × ℕ → ℕ × ℕ → Turns
turns_with n v = record { turns = n.0; turns_at = n.1; name = v.0; name_at = v.1 }

pub same_turns : (t u : TurnsPhrase) (r s : List Word) → turns_words t r ≡ turns_words u s → Same (turns_of t) (turns_of u) r s
unfolding turns_with
same_turns (a_turns d a n) (a_turns d' a' n') r s e =
    let h = same_count d d' _ _ e in
    let k = same_name n n' r s (tail h.rest) in
    record { tree = ap (λ x. turns_with x (name_of n)) h.tree ∙ ap (turns_with (count_of d')) k.tree; rest = k.rest }

-- ---- the values of a reply

values_sign : (vs : MoreValues) (q : ℕ) (r : List Word) → NotSign (more_words vs (word sort.Semicolon q ∷ r))
values_sign no_value q r = ((λ e. cc), (λ e. cc), (λ e. cc))
values_sign (more_value p s vs) q r = ((λ e. cc), (λ e. cc), (λ e. cc))

same_more : (vs us : MoreValues) (q q' : ℕ) (r s : List Word) → more_words vs (word sort.Semicolon q ∷ r) ≡ more_words us (word sort.Semicolon q' ∷ s) → Same (more_trees vs) (more_trees us) r s
same_more no_value no_value q q' r s e = record { tree = refl; rest = tail e }
same_more no_value (more_value p t us) q q' r s e = let h = head_sort e in cc
same_more (more_value p t vs) no_value q q' r s e = let h = head_sort e in cc
same_more (more_value p t vs) (more_value p' u us) q q' r s e =
    let h = same_expr t u _ _ (values_sign vs q r) (values_sign us q' s) (tail e) in
    let k = same_more vs us q q' r s h.rest in
    record { tree = ap (λ x. x ∷ more_trees vs) h.tree ∙ ap (λ l. expr_tree u ∷ l) k.tree; rest = k.rest }

pub same_values : (v u : ValuesPhrase) (q q' : ℕ) (r s : List Word) → values_words v (word sort.Semicolon q ∷ r) ≡ values_words u (word sort.Semicolon q' ∷ s) → Same (values_trees v) (values_trees u) r s
same_values v u q q' r s e =
    let h = same_expr v.first u.first _ _ (values_sign v.more q r) (values_sign u.more q' s) e in
    let k = same_more v.more u.more q q' r s h.rest in
    record { tree = ap (λ x. x ∷ more_trees v.more) h.tree ∙ ap (λ l. expr_tree u.first ∷ l) k.tree; rest = k.rest }
