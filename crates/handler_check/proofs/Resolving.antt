-- The parts of resolution.
use Rattle.std.proofs.Common.{◌≡◌, ℕ, suc, zero, ◌+◌, ◌<◌, ◌≤◌, List, [], ◌∷◌, ◌++◌, length, get_or, drop, take, slice_get, Option, Some, Result, Ok, Err, IfOk, refl, sym, ap, ◌∙◌, subst, arith}
use Rattle.std.proofs.lemmas.List.{drop_more, drop_all, take_all, take_more}
use Rattle.std.specs.List.{AllZip}
use Rattle.syntax_trees.specs.declared.file.File.{File}
use Rattle.syntax_trees.specs.declared.file.Handler.{Handler}
use Rattle.check_meaning.specs.declared.tree.CheckedHandler.{CheckedHandler}
use Rattle.syntax_trees.specs.declared.stmt.Stmt.{Stmt}
use Rattle.check_meaning.specs.declared.tree.CheckedStmt.{CheckedStmt}
use Rattle.check_meaning.specs.Bounds.{calls_bound, work_bound}
use Rattle.check_meaning.specs.Code.{Code, Finish, stmt_code, block_code, points}
use Rattle.syntax_trees.specs.Source.{Source, stmt_source, block_source}
use Rattle.handler_check.specs.declared.bounds.HandlerBounds.{HandlerBounds}
use Rattle.handler_check.specs.Checked.{AreBoundsOf}
use Rattle.handler_check.specs.Resolved.{IsResolved, points_of, code_of, table_names, variables_of, code_in, code_at, params_in, params_at}
use Rattle.handler_check.proofs.Numbers.{counted}

-- ---- statements
module _ (ts vs : List ℕ) where
  -- statements, each in front of what follows it
  abbrev pub onto : List CheckedStmt → Code → Code
  onto [] k = k
  onto (s ∷ ss) k = stmt_code s (onto ss k)

  onto_block : (ss : List CheckedStmt) → onto ss Finish ≡ block_code ss
  onto_block [] = refl
  onto_block (s ∷ ss) = ap (stmt_code s) (onto_block ss)

  onto_push : (ss : List CheckedStmt) (s : CheckedStmt) (k : Code) → onto (ss ++ s ∷ []) k ≡ onto ss (stmt_code s k)
  onto_push [] s k = refl
  onto_push (x ∷ ss) s k = ap (stmt_code x) (onto_push ss s k)

  pub block_turn : (ss : List Stmt) (found : List CheckedStmt) (i : ℕ) (s d : Stmt) (x : CheckedStmt) (p q : ℕ) (whole : Code) → i < length ss → s ≡ get_or ss i d
      → ((rest : Source) → stmt_code x (code_of ts vs rest q) ≡ code_of ts vs (stmt_source s rest) p)
      → onto found (code_of ts vs (block_source (drop i ss)) p) ≡ whole → onto (found ++ x ∷ []) (code_of ts vs (block_source (drop (i + 1) ss)) q) ≡ whole
  block_turn ss found i s d x p q whole h is same so_far =
      let rest : Source = block_source (drop (i + 1) ss) in
      onto_push found x (code_of ts vs rest q) ∙ ap (onto found) (same rest)
      ∙ ap (λ (z : Stmt). onto found (code_of ts vs (stmt_source z rest) p)) is
      ∙ ap (λ (zs : List Stmt). onto found (code_of ts vs (block_source zs) p)) (sym (drop_more ss i d h)) ∙ so_far

  pub block_end : (ss : List Stmt) (found : List CheckedStmt) (i p : ℕ) (whole : Code) → length ss ≤ i → onto found (code_of ts vs (block_source (drop i ss)) p) ≡ whole → block_code found ≡ whole
  block_end ss found i p whole h so_far = sym (onto_block found) ∙ ap (λ (zs : List Stmt). onto found (code_of ts vs (block_source zs) p)) (sym (drop_all i ss h)) ∙ so_far

pub points_turn : (ss : List Stmt) (i : ℕ) (s d : Stmt) (p q whole : ℕ) → i < length ss → s ≡ get_or ss i d → ((rest : Source) → q + points_of rest ≡ p + points_of (stmt_source s rest))
    → p + points_of (block_source (drop i ss)) ≡ whole → q + points_of (block_source (drop (i + 1) ss)) ≡ whole
points_turn ss i s d p q whole h is same so_far =
    let rest : Source = block_source (drop (i + 1) ss) in
    same rest ∙ ap (λ (z : Stmt). p + points_of (stmt_source z rest)) is ∙ ap (λ (zs : List Stmt). p + points_of (block_source zs)) (sym (drop_more ss i d h)) ∙ so_far

pub points_end : (ss : List Stmt) (i p whole : ℕ) → length ss ≤ i → p + points_of (block_source (drop i ss)) ≡ whole → p ≡ whole
points_end ss i p whole h so_far = (let e : points_of (block_source (drop i ss)) ≡ 0 = ap (λ (zs : List Stmt). points_of (block_source zs)) (drop_all i ss h) in omega arith)

-- a list that is handed on has its code
pub listed_code : {E : Type 0} (r : Result (List CheckedStmt) E) (items : List CheckedStmt) (whole : Code) → IfOk r (λ found. found ≡ items) → block_code items ≡ whole → IfOk r (λ found. block_code found ≡ whole)
listed_code (Ok x) items whole h e = ap block_code h ∙ e
listed_code (Err e) items whole h k = tt

-- ---- two lists that go together
pub zip_push : {A B : Type 0} (R : A → B → Type 0) (xs : List A) (ys : List B) (x : A) (y : B) → AllZip R xs ys → R x y → AllZip R (xs ++ x ∷ []) (ys ++ y ∷ [])
zip_push R [] [] x y h r = (r, tt)
zip_push R [] (z ∷ ys) x y h r = absurd h
zip_push R (w ∷ xs) [] x y h r = absurd h
zip_push R (w ∷ xs) (z ∷ ys) x y h r = (h.0, zip_push R xs ys x y h.1 r)

-- the first ones go with those that were found, and so does the next
pub zip_turn : {A B : Type 0} (R : A → B → Type 0) (xs : List A) (ys : List B) (i : ℕ) (x d : A) (y : B) → i < length xs → x ≡ get_or xs i d → AllZip R (take i xs) ys → R x y → AllZip R (take (i + 1) xs) (ys ++ y ∷ [])
zip_turn {A} {B} R xs ys i x d y l is so_far one =
    let more : take (i + 1) xs ≡ take i xs ++ x ∷ [] = take_more xs i d l ∙ ap (λ (z : A). take i xs ++ z ∷ []) (sym is) in
    subst (λ (zs : List A). AllZip R zs (ys ++ y ∷ [])) (sym more) (zip_push R (take i xs) ys x y so_far one)

pub zip_end : {A B : Type 0} (R : A → B → Type 0) (xs : List A) (ys : List B) (i : ℕ) → length xs ≤ i → AllZip R (take i xs) ys → AllZip R xs ys
zip_end {A} R xs ys i l so_far = subst (λ (zs : List A). AllZip R zs ys) (take_all i xs l) so_far

pub zip_at : {A B : Type 0} (R : A → B → Type 0) (xs : List A) (ys : List B) (i : ℕ) (y : B) → AllZip R xs ys → slice_get ys i ≡ Some y → (x : A) × (slice_get xs i ≡ Some x) × R x y
zip_at R [] [] i y z e = cc
zip_at R [] (b ∷ ys) i y z e = absurd z
zip_at R (a ∷ xs) [] i y z e = absurd z
zip_at {A} {B} R (a ∷ xs) (b ∷ ys) zero y z e = (let q : b ≡ y = cc in (a, refl, subst (R a) q z.0))
zip_at R (a ∷ xs) (b ∷ ys) (suc i) y z e = zip_at R xs ys i y z.1 e

pub zip_get : {A B : Type 0} (R : A → B → Type 0) (xs : List A) (ys : List B) (i : ℕ) (x : A) (y : B) → AllZip R xs ys → slice_get xs i ≡ Some x → slice_get ys i ≡ Some y → R x y
zip_get {A} {B} R xs ys i x y z e f =
    let at = zip_at R xs ys i y z f in
    let same : at.0 ≡ x = cc in
    subst (λ (w : A). R w y) same at.2

-- ---- handlers

-- what is known of the resolved handler of a number
pub record IsHandlerAt (f : File) (i : ℕ) (c : CheckedHandler) : Type 0 where
  pub body : block_code c.body ≡ code_at f i
  pub points : c.points ≡ 1 + points (code_at f i)
  pub params : c.params ≡ params_at f i

pub source_at : (f : File) (i : ℕ) (c : CheckedHandler) (h : Handler) → slice_get f.handlers i ≡ Some h → IsResolved (table_names f) h c → IsHandlerAt f i c
source_at f i c h there r =
    record {
      body = r.body ∙ sym (ap (code_in f) there);
      points = r.points ∙ ap (λ (n : ℕ). 1 + n) (sym (counted (table_names f) (variables_of h) (block_source h.body) 1)) ∙ ap (λ (o : Option Handler). 1 + points (code_in f o)) (sym there);
      params = r.params ∙ sym (ap params_in there);
    }

pub handler_at : (f : File) (cs : List CheckedHandler) (i : ℕ) (c : CheckedHandler) → AllZip (IsResolved (table_names f)) f.handlers cs → slice_get cs i ≡ Some c → IsHandlerAt f i c
handler_at f cs i c z e = (let at = zip_at (IsResolved (table_names f)) f.handlers cs i c z e in source_at f i c at.0 at.1 at.2)

-- the bounds of the handler of a number
pub bounds_at : (f : File) (cs : List CheckedHandler) (bs : List HandlerBounds) (i : ℕ) (b : HandlerBounds) → AllZip (IsResolved (table_names f)) f.handlers cs → AllZip AreBoundsOf cs bs → slice_get bs i ≡ Some b
    → (b.calls ≡ calls_bound (code_at f i)) × (b.work ≡ work_bound (code_at f i))
bounds_at f cs bs i b z y e =
    let at = zip_at AreBoundsOf cs bs i b y e in
    let is = handler_at f cs i at.0 z at.1 in
    let own : AreBoundsOf at.0 b = at.2 in
    (own.calls ∙ ap calls_bound is.body, own.work ∙ ap work_bound is.body)
