-- What a walk keeps of lists.
use Rattle.std.proofs.Common.{◌≡◌, ℕ, ◌+◌, ◌-◌, List, [], ◌∷◌, ◌++◌, length, take, get_or, map, refl, sym, ap, ◌∙◌, subst, Contains, append_assoc, append-nil, length-append, arith}
use Rattle.std.specs.Prelude.{Option, Result, Ok, Err, OnOk}
use Rattle.std.proofs.Math.Seq.{take-append_seam, get_or-append_seam}
use Rattle.symbolic_ops.specs.declared.symbol.Symbol.{Symbol}
use Rattle.check_meaning.specs.declared.tree.CheckedCall.{CheckedCall}
use Rattle.check_meaning.specs.declared.tree.CheckedStmt.{CheckedStmt}
use Rattle.check_meaning.specs.declared.tree.CheckedStmt.TheVariants as stmt
use Rattle.check_meaning.specs.Code.{Code, Finish, Move, Ask, Fork, Loop, Quit, expr_term, cond_test, stmt_code, block_code, points, IsNumbered}
use Rattle.check_meaning.proofs.Codes.{checked_cases, code_store, code_perform, code_choose, code_repeat, code_answer}
use Rattle.may_use_analysis.specs.Trails.{Symbols}
use Rattle.may_use_analysis.specs.Flow.{Flow, Head, StmtFlow}
use Rattle.may_use_analysis.specs.Recorded.{Recorded, StmtRecorded}
use Rattle.may_use_analysis.specs.PointList.{PointList, Counted, IsPointList}
use Rattle.may_use_analysis.proofs.FlowLemmas.{Within}
use Rattle.may_use_analysis.proofs.Numbers.{Fits}
use Rattle.may_use_analysis.proofs.Sets.{Same, flow_same, head_same, stored_same}

pub recorded_same : (code : Code) (A B : Symbols) (old new : List PointList) → Same A B → Recorded code A old new → Recorded code B old new
recorded_same Finish A B old new h r = r
recorded_same (Move x e rest) A B old new h r = recorded_same rest A B old new h r
recorded_same (Ask at p x c rest) A B old new h r =
    (r.0, r.1, recorded_same rest A B old r.0 h r.2, stored_same r.1 (Flow rest A) (Flow rest B) (flow_same rest A B h) r.3, r.4)
recorded_same (Fork at p q test a b rest) A B old new h r =
    let R = Flow rest A in
    let S = Flow rest B in
    let k = flow_same rest A B h in
    (r.0, r.1, r.2, r.3, r.4, recorded_same rest A B old r.0 h r.5, recorded_same b R S r.0 r.1 k r.6, stored_same r.3 (Flow b R) (Flow b S) (flow_same b R S k) r.7, recorded_same a R S (r.1 ++ r.3 ∷ []) r.2 k r.8, stored_same r.4 (Flow a R) (Flow a S) (flow_same a R S k) r.9, r.10)
recorded_same (Loop at p n x body rest) A B old new h r =
    let R = Flow rest A in
    let S = Flow rest B in
    let k = flow_same rest A B h in
    (r.0, r.1, recorded_same rest A B old r.0 h r.2, stored_same r.1 R S k r.3, recorded_same body (Head x body R) (Head x body S) (r.0 ++ r.1 ∷ []) new (head_same x body R S k) r.4)
recorded_same (Quit es rest) A B old new h r = recorded_same rest A B old new h r

-- a statement's lists after those of the rest of its block, where its code is given
module _ (rest : Code) (A : Symbols) (old mid new : List PointList) (r : Recorded rest A old mid) where
  record_move : (x : ℕ) (e : _) → Recorded (Move x e Finish) (Flow rest A) mid new → Recorded (Move x e rest) A old new
  record_move x e s = subst (λ (z : List PointList). Recorded rest A old z) (sym s) r

  record_ask : (at p : ℕ) (x : Option ℕ) (c : CheckedCall) → Recorded (Ask at p x c Finish) (Flow rest A) mid new → Recorded (Ask at p x c rest) A old new
  record_ask at p x c s = (s.0, s.1, subst (λ (z : List PointList). Recorded rest A old z) (sym s.2) r, s.3, s.4)

  record_fork : (at p q : ℕ) (test : _) (a b : Code) → Recorded (Fork at p q test a b Finish) (Flow rest A) mid new → Recorded (Fork at p q test a b rest) A old new
  record_fork at p q test a b s = (s.0, s.1, s.2, s.3, s.4, subst (λ (z : List PointList). Recorded rest A old z) (sym s.5) r, s.6, s.7, s.8, s.9, s.10)

  record_loop : (at p n x : ℕ) (body : Code) → Recorded (Loop at p n x body Finish) (Flow rest A) mid new → Recorded (Loop at p n x body rest) A old new
  record_loop at p n x body s = (s.0, s.1, subst (λ (z : List PointList). Recorded rest A old z) (sym s.2) r, s.3, s.4)

  record_quit : (es : _) → Recorded (Quit es Finish) (Flow rest A) mid new → Recorded (Quit es rest) A old new
  record_quit es s = subst (λ (z : List PointList). Recorded rest A old z) (sym s) r

  through : (c d e f : Code) → c ≡ d → e ≡ f → (Recorded d (Flow rest A) mid new → Recorded f A old new) → Recorded c (Flow rest A) mid new → Recorded e A old new
  through c d e f p q k s = subst (λ (z : Code). Recorded z A old new) (sym q) (k (subst (λ (z : Code). Recorded z (Flow rest A) mid new) p s))

  pub recorded_stmt : (s : CheckedStmt) → StmtRecorded s (Flow rest A) mid new → Recorded (stmt_code s rest) A old new
  recorded_stmt = checked_cases (λ s. StmtRecorded s (Flow rest A) mid new → Recorded (stmt_code s rest) A old new)
      (λ x e. through (stmt_code (stmt.Store x e) Finish) (Move x (expr_term e) Finish) (stmt_code (stmt.Store x e) rest) (Move x (expr_term e) rest) (code_store x e Finish) (code_store x e rest) (record_move x (expr_term e)))
      (λ at p x c. through (stmt_code (stmt.Perform at p x c) Finish) (Ask at p x c Finish) (stmt_code (stmt.Perform at p x c) rest) (Ask at p x c rest) (code_perform at p x c Finish) (code_perform at p x c rest) (record_ask at p x c))
      (λ at p q c a b. through (stmt_code (stmt.Choose at p q c a b) Finish) (Fork at p q (cond_test c) (block_code a) (block_code b) Finish) (stmt_code (stmt.Choose at p q c a b) rest) (Fork at p q (cond_test c) (block_code a) (block_code b) rest) (code_choose at p q c a b Finish) (code_choose at p q c a b rest) (record_fork at p q (cond_test c) (block_code a) (block_code b)))
      (λ at p n x body. through (stmt_code (stmt.Repeat at p n x body) Finish) (Loop at p n x (block_code body) Finish) (stmt_code (stmt.Repeat at p n x body) rest) (Loop at p n x (block_code body) rest) (code_repeat at p n x body Finish) (code_repeat at p n x body rest) (record_loop at p n x (block_code body)))
      (λ es. through (stmt_code (stmt.Answer es) Finish) (Quit (map expr_term es) Finish) (stmt_code (stmt.Answer es) rest) (Quit (map expr_term es) rest) (code_answer es Finish) (code_answer es rest) (record_quit (map expr_term es)))

-- a statement, and then the rest of its block
pub stmt_rest : (rest : Code) (A : Symbols) (s : CheckedStmt) → Same (StmtFlow s (Flow rest A)) (Flow (stmt_code s rest) A)
stmt_rest rest A = checked_cases (λ s. Same (StmtFlow s (Flow rest A)) (Flow (stmt_code s rest) A))
    (λ x e. both (stmt_code (stmt.Store x e) Finish) (Move x (expr_term e) Finish) (stmt_code (stmt.Store x e) rest) (Move x (expr_term e) rest) (code_store x e Finish) (code_store x e rest) (λ z. (λ m. m, λ m. m)))
    (λ at p x c. both (stmt_code (stmt.Perform at p x c) Finish) (Ask at p x c Finish) (stmt_code (stmt.Perform at p x c) rest) (Ask at p x c rest) (code_perform at p x c Finish) (code_perform at p x c rest) (λ z. (λ m. m, λ m. m)))
    (λ at p q c a b. both (stmt_code (stmt.Choose at p q c a b) Finish) (Fork at p q (cond_test c) (block_code a) (block_code b) Finish) (stmt_code (stmt.Choose at p q c a b) rest) (Fork at p q (cond_test c) (block_code a) (block_code b) rest) (code_choose at p q c a b Finish) (code_choose at p q c a b rest) (λ z. (λ m. m, λ m. m)))
    (λ at p n x body. both (stmt_code (stmt.Repeat at p n x body) Finish) (Loop at p n x (block_code body) Finish) (stmt_code (stmt.Repeat at p n x body) rest) (Loop at p n x (block_code body) rest) (code_repeat at p n x body Finish) (code_repeat at p n x body rest) (λ z. (λ m. m, λ m. m)))
    (λ es. both (stmt_code (stmt.Answer es) Finish) (Quit (map expr_term es) Finish) (stmt_code (stmt.Answer es) rest) (Quit (map expr_term es) rest) (code_answer es Finish) (code_answer es rest) (λ z. (λ m. m, λ m. m)))
  where
    both : (c d e f : Code) → c ≡ d → e ≡ f → Same (Flow d (Flow rest A)) (Flow f A) → Same (Flow c (Flow rest A)) (Flow e A)
    both c d e f p q h = subst (λ (z : Code). Same (Flow z (Flow rest A)) (Flow e A)) (sym p) (subst (λ (z : Code). Same (Flow d (Flow rest A)) (Flow z A)) (sym q) h)

-- ---- a walk only adds

abbrev pub Extends : List PointList → List PointList → Type 0
Extends old new = (more : List PointList) × (new ≡ old ++ more)

pub extends_trans : (a b c : List PointList) → Extends a b → Extends b c → Extends a c
extends_trans a b c g h = (g.0 ++ h.0, h.1 ∙ ap (λ (z : List PointList). z ++ h.0) g.1 ∙ append_assoc a g.0 h.0)

extends_push : (a b c : List PointList) (v : PointList) → Extends a b → c ≡ b ++ v ∷ [] → Extends a c
extends_push a b c v g e = extends_trans a b c g (v ∷ [], e)

pub recorded_extends : (code : Code) (A : Symbols) (old new : List PointList) → Recorded code A old new → Extends old new
recorded_extends Finish A old new r = ([], r ∙ sym (append-nil old))
recorded_extends (Move x e rest) A old new r = recorded_extends rest A old new r
recorded_extends (Ask at p x c rest) A old new r = extends_push old r.0 new r.1 (recorded_extends rest A old r.0 r.2) r.4
recorded_extends (Fork at p q test a b rest) A old new r =
    let g = extends_trans old r.0 r.1 (recorded_extends rest A old r.0 r.5) (recorded_extends b (Flow rest A) r.0 r.1 r.6) in
    let h = extends_trans old (r.1 ++ r.3 ∷ []) r.2 (extends_push old r.1 (r.1 ++ r.3 ∷ []) r.3 g refl) (recorded_extends a (Flow rest A) (r.1 ++ r.3 ∷ []) r.2 r.8) in
    extends_push old r.2 new r.4 h r.10
recorded_extends (Loop at p n x body rest) A old new r =
    extends_trans old (r.0 ++ r.1 ∷ []) new (extends_push old r.0 (r.0 ++ r.1 ∷ []) r.1 (recorded_extends rest A old r.0 r.2) refl) (recorded_extends body (Head x body (Flow rest A)) (r.0 ++ r.1 ∷ []) new r.4)
recorded_extends (Quit es rest) A old new r = recorded_extends rest A old new r

pub on_ok_map : {T E : Type 0} (r : Result T E) (P Q : Type 0) → (P → Q) → OnOk r P → OnOk r Q
on_ok_map (Ok v) P Q f p = f p
on_ok_map (Err e) P Q f p = tt

-- the lists beside the head's set
pub head_lists : (x : ℕ) (body : Code) (after head : List Symbol) (old mid new : List PointList) → mid ≡ old → Recorded body (Contains head) mid new → Within (Contains head) (Head x body (Contains after)) → Within (Head x body (Contains after)) (Contains head) → Recorded body (Head x body (Contains after)) old new
head_lists x body after head old mid new e r h k =
    recorded_same body (Contains head) (Head x body (Contains after)) old new (λ s. (h s, k s)) (subst (λ (z : List PointList). Recorded body (Contains head) z new) e r)

-- what is left of the lists where a loop's next turn begins
pub kept_lists : (old out cut : List PointList) (n : ℕ) → Extends old out → n ≡ length old → cut ≡ take n out → cut ≡ old
kept_lists old out cut n x e f = f ∙ ap (λ (k : ℕ). take k out) e ∙ ap (take (length old)) x.1 ∙ take-append_seam old x.0

-- ---- by the numbers of points

pub recorded_length : (code : Code) (A : Symbols) (old new : List PointList) → Recorded code A old new → length new ≡ length old + points code
recorded_length Finish A old new r = omega (arith, ap length r)
recorded_length (Move x e rest) A old new r = recorded_length rest A old new r
recorded_length (Ask at p x c rest) A old new r =
    omega (arith, ap length r.4, length-append r.0 (r.1 ∷ []), recorded_length rest A old r.0 r.2)
recorded_length (Fork at p q test a b rest) A old new r =
    omega (arith, ap length r.10, length-append r.2 (r.4 ∷ []), recorded_length a (Flow rest A) (r.1 ++ r.3 ∷ []) r.2 r.8, length-append r.1 (r.3 ∷ []), recorded_length b (Flow rest A) r.0 r.1 r.6, recorded_length rest A old r.0 r.5)
recorded_length (Loop at p n x body rest) A old new r =
    omega (arith, recorded_length body (Head x body (Flow rest A)) (r.0 ++ r.1 ∷ []) new r.4, length-append r.0 (r.1 ∷ []), recorded_length rest A old r.0 r.2)
recorded_length (Quit es rest) A old new r = recorded_length rest A old new r

-- the list of point i stands t - (i + 1) places from the bottom
abbrev pub StackedAt : List PointList → ℕ → ℕ → Symbols → Type 0
StackedAt all t i A = IsPointList (get_or all (t - (i + 1)) (Counted 0)) A

-- a list that was added stays where it is
at_pushed : (mid new all : List PointList) (l : PointList) (k : ℕ) (A : Symbols) → new ≡ mid ++ l ∷ [] → Extends new all → k ≡ length mid → IsPointList l A → IsPointList (get_or all k (Counted 0)) A
at_pushed mid new all l k A e x f is =
    let whole : all ≡ mid ++ l ∷ x.0 = x.1 ∙ ap (λ (z : List PointList). z ++ x.0) e ∙ append_assoc mid (l ∷ []) x.0 in
    let here : get_or all k (Counted 0) ≡ l = ap (λ (z : List PointList). get_or z k (Counted 0)) whole ∙ ap (λ (j : ℕ). get_or (mid ++ l ∷ x.0) j (Counted 0)) f ∙ get_or-append_seam mid l x.0 (Counted 0) in
    subst (λ (v : PointList). IsPointList v A) (sym here) is

-- the lists that a walk recorded fit the points
pub fits_recorded : (code : Code) (low t : ℕ) (A : Symbols) (old new all : List PointList) → IsNumbered code low → Recorded code A old new → Extends new all → t ≡ length old + points code + low → Fits (StackedAt all t) code A
fits_recorded Finish low t A old new all n r x e = tt
fits_recorded (Move y v rest) low t A old new all n r x e = fits_recorded rest low t A old new all n r x e
fits_recorded (Ask at p y c rest) low t A old new all n r x e =
    let len = recorded_length rest A old r.0 r.2 in
    let f = n.0 in
    let up = extends_trans r.0 new all (r.1 ∷ [], r.4) x in
    (at_pushed r.0 new all r.1 (t - (p + 1)) (Flow rest A) r.4 x (omega arith) r.3, fits_recorded rest (low + 1) t A old r.0 all n.1 r.2 up (omega arith))
fits_recorded (Fork at p q test a b rest) low t A old new all n r x e =
    let R = Flow rest A in
    let len1 = recorded_length rest A old r.0 r.5 in
    let len2 = recorded_length b R r.0 r.1 r.6 in
    let len3 = recorded_length a R (r.1 ++ r.3 ∷ []) r.2 r.8 in
    let len4 = length-append r.1 (r.3 ∷ []) in
    let f = n.0 in
    let g = n.2 in
    let up3 = extends_trans r.2 new all (r.4 ∷ [], r.10) x in
    let up2' = extends_trans (r.1 ++ r.3 ∷ []) r.2 all (recorded_extends a R (r.1 ++ r.3 ∷ []) r.2 r.8) up3 in
    let up2 = extends_trans r.1 (r.1 ++ r.3 ∷ []) all (r.3 ∷ [], refl) up2' in
    let up1 = extends_trans r.0 r.1 all (recorded_extends b R r.0 r.1 r.6) up2 in (
      at_pushed r.2 new all r.4 (t - (p + 1)) (Flow a R) r.10 x (omega arith) r.9,
      at_pushed r.1 (r.1 ++ r.3 ∷ []) all r.3 (t - (q + 1)) (Flow b R) refl up2' (omega arith) r.7,
      fits_recorded a (low + 1) t R (r.1 ++ r.3 ∷ []) r.2 all n.1 r.8 up3 (omega arith),
      fits_recorded b (low + 2 + points a) t R r.0 r.1 all n.3 r.6 up2 (omega arith),
      fits_recorded rest (low + 2 + points a + points b) t A old r.0 all n.4 r.5 up1 (omega arith),
    )
fits_recorded (Loop at p m y body rest) low t A old new all n r x e =
    let R = Flow rest A in
    let H = Head y body R in
    let len1 = recorded_length rest A old r.0 r.2 in
    let len2 = length-append r.0 (r.1 ∷ []) in
    let len3 = recorded_length body H (r.0 ++ r.1 ∷ []) new r.4 in
    let f = n.1 in
    let up2 = extends_trans (r.0 ++ r.1 ∷ []) new all (recorded_extends body H (r.0 ++ r.1 ∷ []) new r.4) x in
    let up1 = extends_trans r.0 (r.0 ++ r.1 ∷ []) all (r.1 ∷ [], refl) up2 in (
      at_pushed r.0 (r.0 ++ r.1 ∷ []) all r.1 (t - (p + 1)) R refl up2 (omega arith) r.3,
      fits_recorded body low t H (r.0 ++ r.1 ∷ []) new all n.0 r.4 x (omega arith),
      fits_recorded rest (low + points body + 1) t A old r.0 all n.2 r.2 up1 (omega arith),
    )
fits_recorded (Quit es rest) low t A old new all n r x e = fits_recorded rest low t A old new all n r x e
