-- Points of resolved blocks are numbered in the order of the text.
use Rattle.std.proofs.Common.{◌≡◌, ℕ, ◌+◌, List, refl, sym, ap, ◌∙◌, subst, arith}
use Rattle.syntax_trees.specs.declared.stmt.Right.{Right}
use Rattle.syntax_trees.specs.declared.stmt.Right.TheVariants as right
use Rattle.syntax_trees.specs.Source.{Source, Finish, Let, Assign, Do, Choose, Repeat, Answer}
use Rattle.check_meaning.specs.Code.{Code, IsNumbered, points}
use Rattle.handler_check.specs.Resolved.{right_points, points_of, stored, code_of}

module _ (tables variables : List ℕ) where
  stored_points : (name : ℕ) (r : Right) (p : ℕ) (rest : Code) → points (stored tables variables name r p rest) ≡ right_points r + points rest
  stored_points name (right.Plain e) p rest = omega arith
  stored_points name (right.Result c) p rest = refl

  pub counted : (s : Source) (p : ℕ) → points (code_of tables variables s p) ≡ points_of s
  counted Finish p = refl
  counted (Let n at r rest) p = stored_points n r p (code_of tables variables rest (p + right_points r)) ∙ ap (λ (k : ℕ). right_points r + k) (counted rest (p + right_points r))
  counted (Assign n at r rest) p = stored_points n r p (code_of tables variables rest (p + right_points r)) ∙ ap (λ (k : ℕ). right_points r + k) (counted rest (p + right_points r))
  counted (Do c rest) p = ap (λ (k : ℕ). 1 + k) (counted rest (p + 1))
  counted (Choose at c a b rest) p =
      (let x = counted a (p + 1) in let y = counted b (p + 2 + points_of a) in let z = counted rest (p + 2 + points_of a + points_of b) in omega arith)
  counted (Repeat at n n_at name name_at body rest) p = (let x = counted body p in let z = counted rest (p + points_of body + 1) in omega arith)
  counted (Answer es rest) p = counted rest p

  stored_numbered : (name : ℕ) (r : Right) (p : ℕ) (rest : Code) → IsNumbered rest (p + right_points r) → IsNumbered (stored tables variables name r p rest) p
  stored_numbered name (right.Plain e) p rest h = (let is : p + 0 ≡ p = omega arith in subst (IsNumbered rest) is h)
  stored_numbered name (right.Result c) p rest h = (refl, h)

  at_number : (c : Code) (i j : ℕ) → i ≡ j → IsNumbered c i → IsNumbered c j
  at_number c i j e h = subst (IsNumbered c) e h

  pub numbered : (s : Source) (p : ℕ) → IsNumbered (code_of tables variables s p) p
  numbered Finish p = tt
  numbered (Let n at r rest) p = stored_numbered n r p (code_of tables variables rest (p + right_points r)) (numbered rest (p + right_points r))
  numbered (Assign n at r rest) p = stored_numbered n r p (code_of tables variables rest (p + right_points r)) (numbered rest (p + right_points r))
  numbered (Do c rest) p = (refl, numbered rest (p + 1))
  numbered (Choose at c a b rest) p =
      let x : points (code_of tables variables a (p + 1)) ≡ points_of a = counted a (p + 1) in
      let y : points (code_of tables variables b (p + 2 + points_of a)) ≡ points_of b = counted b (p + 2 + points_of a) in (
        refl,
        numbered a (p + 1),
        ap (λ (k : ℕ). p + 1 + k) (sym x),
        at_number (code_of tables variables b (p + 2 + points_of a)) (p + 2 + points_of a) (p + 2 + points (code_of tables variables a (p + 1))) (ap (λ (k : ℕ). p + 2 + k) (sym x)) (numbered b (p + 2 + points_of a)),
        at_number (code_of tables variables rest (p + 2 + points_of a + points_of b)) (p + 2 + points_of a + points_of b) (p + 2 + points (code_of tables variables a (p + 1)) + points (code_of tables variables b (p + 2 + points_of a))) (omega arith) (numbered rest (p + 2 + points_of a + points_of b)),
      )
  numbered (Repeat at n n_at name name_at body rest) p =
      let x : points (code_of tables variables body p) ≡ points_of body = counted body p in
      (numbered body p, ap (λ (k : ℕ). p + k) (sym x), at_number (code_of tables variables rest (p + points_of body + 1)) (p + points_of body + 1) (p + points (code_of tables variables body p) + 1) (omega arith) (numbered rest (p + points_of body + 1)))
  numbered (Answer es rest) p = numbered rest p
