-- Lines that are written one behind the other, and what the lines of statements are.
use Rattle.std.proofs.Common.{◌≡◌, ℕ, ◌+◌, ◌<◌, ◌≤◌, Bool, List, [], ◌∷◌, ◌++◌, map, length, drop, get_or, refl, sym, ap, ◌∙◌, subst, rules}
use Rattle.std.proofs.lemmas.List.{drop_more, drop_all}
use Rattle.syntax_trees.specs.declared.expr.Expr.{Expr}
use Rattle.syntax_trees.specs.declared.stmt.Call.{Call}
use Rattle.syntax_trees.specs.declared.stmt.Cond.{Cond}
use Rattle.syntax_trees.specs.declared.stmt.Right.{Right}
use Rattle.syntax_trees.specs.declared.stmt.Stmt.{Stmt, the_lemmas}
use Rattle.syntax_trees.specs.declared.stmt.Stmt.TheOpen.{Stmt-F}
use Rattle.syntax_trees.specs.declared.stmt.Stmt.TheVariants as stmt
use Rattle.syntax_trees.specs.declared.file.Handler.{Handler}
use Rattle.syntax_trees.specs.declared.file.File.{File}
use Rattle.syntax_trees.specs.declared.file.TableDecl.{TableDecl}
use Rattle.syntax_printer.specs.Canonical.{each, table_text}
use Rattle.syntax_printer.specs.Points.{AtPoints, point_text}
use Rattle.syntax_printer.specs.Put.{put_handler_text, put_handlers_text}
use Rattle.syntax_printer.specs.Lines.{At, Line, of_file, Part, block_lines, block_parts, block_points, branch_lines, choice_part, close_line, close_text, else_line, handler_lines, handlers_lines, head_text, if_text, indented, line_text, point_line, repeat_head_text, repeat_part, shown_text, stmt_part, stmt_step, written}
use Rattle.byte_ends.specs.Texts.{Adds, Due, Ends}
use Rattle.syntax_printer.proofs.Loops.{Owes, adds_both, owes_less, owes_none}

-- ---- lines

pub written_join : (shown : Bool) (xs ys : List Line) (rest : List ℕ) → written shown (xs ++ ys) rest ≡ written shown xs (written shown ys rest)
written_join shown [] ys rest = refl
written_join shown (x ∷ xs) ys rest = ap (line_text shown x) (written_join shown xs ys rest)

pub adds_lines : (shown : Bool) (xs ys : List Line) {S : Type 0} {D : Due S} {was now next : S} → Adds D (written shown xs) was now → Adds D (written shown ys) now next → Adds D (written shown (xs ++ ys)) was next
adds_lines shown xs ys {S} {D} {was} {now} {next} a b = record { before = λ start whole rest d. b.before start whole rest (a.before start whole (written shown ys rest) (subst (D start whole was) (written_join shown xs ys rest) d)) }

-- ---- blocks

module _ (shown : Bool) (f : Stmt → Part) where
  block_first : (xs : List Stmt) (i : ℕ) (x d : Stmt) (depth next after : ℕ) → i < length xs → x ≡ get_or xs i d → after ≡ next + (f x).points → (rest : List ℕ)
      → written shown (block_lines (map f (drop i xs)) depth next) rest ≡ written shown ((f x).lines depth next) (written shown (block_lines (map f (drop (i + 1) xs)) depth after) rest)
  block_first xs i x d depth next after h is e rest =
      let more = map f (drop (i + 1) xs) in
      ap (λ ys. written shown (block_lines (map f ys) depth next) rest) (drop_more xs i d h)
      ∙ ap (λ y. written shown ((f y).lines depth next ++ block_lines more depth (next + (f y).points)) rest) (sym is)
      ∙ written_join shown ((f x).lines depth next) (block_lines more depth (next + (f x).points)) rest
      ∙ ap (λ n. written shown ((f x).lines depth next) (written shown (block_lines more depth n) rest)) (sym e)

  pub block_turn : (xs : List Stmt) (i : ℕ) (x d : Stmt) (depth next after : ℕ) {text : List ℕ → List ℕ} {S : Type 0} {D : Due S} {was now more : S} → i < length xs → x ≡ get_or xs i d → after ≡ next + (f x).points
      → Owes D text (written shown (block_lines (map f (drop i xs)) depth next)) was now → Adds D (written shown ((f x).lines depth next)) now more → Owes D text (written shown (block_lines (map f (drop (i + 1) xs)) depth after)) was more
  block_turn xs i x d depth next after h is e o a = owes_less (block_first xs i x d depth next after h is e) o a

  pub points_turn : (xs : List Stmt) (i : ℕ) (x d : Stmt) → i < length xs → x ≡ get_or xs i d → block_points (map f (drop i xs)) ≡ (f x).points + block_points (map f (drop (i + 1) xs))
  points_turn xs i x d h is = ap (λ ys. block_points (map f ys)) (drop_more xs i d h) ∙ ap (λ y. (f y).points + block_points (map f (drop (i + 1) xs))) (sym is)

  pub block_end : (xs : List Stmt) (i depth next : ℕ) {text : List ℕ → List ℕ} {S : Type 0} {D : Due S} {was now : S} → length xs ≤ i → Owes D text (written shown (block_lines (map f (drop i xs)) depth next)) was now → Adds D text was now
  block_end xs i depth next h o = owes_none (λ rest. ap (λ ys. written shown (block_lines (map f ys) depth next) rest) (drop_all i xs h)) o

-- ---- statements with blocks, and handlers

module _ (names : List (List ℕ)) (at : At) (shown : Bool) where
  pub choice_adds : (cond : Cond) (first second : List Part) (depth point middle : ℕ) {S : Type 0} {D : Due S} {b0 b1 b2 b3 b4 b5 : S} → middle ≡ point + (1 + block_points first) → Adds D (indented depth (if_text names cond)) b0 b1
      → Adds D (written shown (branch_lines at first depth point)) b1 b2 → Adds D (line_text shown (else_line second depth)) b2 b3 → Adds D (written shown (branch_lines at second depth middle)) b3 b4 → Adds D (indented depth close_text) b4 b5
      → Adds D (written shown ((choice_part names at cond first second).lines depth point)) b0 b5
  choice_adds cond first second depth point middle {S} {D} {b0} {b1} {b2} {b3} {b4} {b5} e a b c d f =
      let behind = branch_lines at second depth (point + (1 + block_points first)) in
      let d1 = subst (λ m. Adds D (written shown (branch_lines at second depth m)) b3 b4) e d in
      adds_both a (adds_lines shown (branch_lines at first depth point) (else_line second depth ∷ (behind ++ (close_line depth ∷ []))) b (adds_both c (adds_lines shown behind (close_line depth ∷ []) d1 f)))

  pub repeat_adds : (turns n : ℕ) (body : List Part) (depth point last : ℕ) {S : Type 0} {D : Due S} {b0 b1 b2 b3 b4 : S} → last ≡ point + block_points body → Adds D (indented depth (repeat_head_text names turns n)) b0 b1
      → Adds D (written shown (block_lines body (depth + 1) point)) b1 b2 → Adds D (indented depth close_text) b2 b3 → Adds D (line_text shown (point_line at depth last)) b3 b4
      → Adds D (written shown ((repeat_part names at turns n body).lines depth point)) b0 b4
  repeat_adds turns n body depth point last {S} {D} {b0} {b1} {b2} {b3} {b4} e a b c d =
      let d1 = subst (λ m. Adds D (line_text shown (point_line at depth m)) b3 b4) e d in
      adds_both a (adds_lines shown (block_lines body (depth + 1) point) (close_line depth ∷ point_line at depth (point + block_points body) ∷ []) b (adds_both c d1))

  pub handler_adds : (h : Handler) (block : List Stmt) (depth point : ℕ) {S : Type 0} {D : Due S} {b0 b1 b2 b3 : S} → block ≡ h.body → depth ≡ 0 → point ≡ 0 → Adds D (head_text names h) b0 b1
      → Adds D (written shown (branch_lines at (block_parts names at block) depth point)) b1 b2 → Adds D (indented 0 close_text) b2 b3 → Adds D (written shown (handler_lines names at h)) b0 b3
  handler_adds h block depth point {S} {D} {b0} {b1} {b2} {b3} e d p a b c =
      let lines = branch_lines at (block_parts names at h.body) 0 0 in
      let at_depth = subst (λ n. Adds D (written shown (branch_lines at (block_parts names at block) n point)) b1 b2) d b in
      let at_point = subst (λ n. Adds D (written shown (branch_lines at (block_parts names at block) 0 n)) b1 b2) p at_depth in
      let body = subst (λ ss. Adds D (written shown (branch_lines at (block_parts names at ss) 0 0)) b1 b2) e at_point in
      adds_both a (adds_lines shown lines (close_line 0 ∷ []) body c)

-- ---- files

-- handlers, of which the first has this number
pub handlers_turn : (names : List (List ℕ)) (a : AtPoints) (xs : List Handler) (i n after : ℕ) (x d : Handler) {text : List ℕ → List ℕ} {S : Type 0} {D : Due S} {was now more : S} → i < length xs → x ≡ get_or xs i d → after ≡ n + 1
    → Owes D text (put_handlers_text names a n (drop i xs)) was now → Adds D (put_handler_text names a n x) now more → Owes D text (put_handlers_text names a after (drop (i + 1) xs)) was more
handlers_turn names a xs i n after x d h is e o b = owes_less first o b
  where
    first : (rest : List ℕ) → put_handlers_text names a n (drop i xs) rest ≡ put_handler_text names a n x (put_handlers_text names a after (drop (i + 1) xs) rest)
    first rest =
        ap (λ hs. put_handlers_text names a n hs rest) (drop_more xs i d h) ∙ written_join a.shown (handler_lines names (point_text names a n) (get_or xs i d)) (handlers_lines names a (n + 1) (drop (i + 1) xs)) rest
        ∙ ap (λ y. put_handler_text names a n y (put_handlers_text names a (n + 1) (drop (i + 1) xs) rest)) (sym is) ∙ ap (λ k. put_handler_text names a n x (put_handlers_text names a k (drop (i + 1) xs) rest)) (sym e)

pub handlers_end : (names : List (List ℕ)) (a : AtPoints) (xs : List Handler) (i n : ℕ) {text : List ℕ → List ℕ} {S : Type 0} {D : Due S} {was now : S} → length xs ≤ i → Owes D text (put_handlers_text names a n (drop i xs)) was now → Adds D text was now
handlers_end names a xs i n h o = owes_none (λ rest. ap (λ hs. put_handlers_text names a n hs rest) (drop_all i xs h)) o

tables_written : (names : List (List ℕ)) (shown : Bool) (ts : List TableDecl) (lines : List Line) (rest : List ℕ) → written shown (map (λ (t : TableDecl). of_file (table_text names t)) ts ++ lines) rest ≡ each (map (table_text names) ts) (written shown lines rest)
tables_written names shown [] lines rest = refl
tables_written names shown (t ∷ ts) lines rest = ap (table_text names t) (tables_written names shown ts lines rest)

-- tables and handlers are all that is put
pub file_written : (names : List (List ℕ)) (a : AtPoints) (file : File) (ts : List TableDecl) (hs : List Handler) {S : Type 0} {D : Due S} {start middle end : S} → ts ≡ file.tables → hs ≡ file.handlers → Adds D (each (map (table_text names) ts)) start middle
    → Adds D (put_handlers_text names a 0 hs) middle end → Ends D (shown_text names a file) start end
file_written names a file ts hs {S} {D} {start} {middle} {end} f g x y = record { all = λ first whole d. y.before first whole [] (x.before first whole (put_handlers_text names a 0 hs []) (subst (D first whole start) same d)) }
  where
    same : shown_text names a file ≡ each (map (table_text names) ts) (put_handlers_text names a 0 hs [])
    same =
        tables_written names a.shown file.tables (handlers_lines names a 0 file.handlers) []
        ∙ sym (λ i. each (map (table_text names) (f i)) (put_handlers_text names a 0 (g i) []))

-- ---- statements

module _ (names : List (List ℕ)) (at : At) where
  pub part_let : (n p : ℕ) (r : Right) → stmt_part names at (stmt.Let n p r) ≡ stmt_step names at (Stmt-F.Let n p r)
  part_let n p r = search (rules, the_lemmas)

  pub part_assign : (n p : ℕ) (r : Right) → stmt_part names at (stmt.Assign n p r) ≡ stmt_step names at (Stmt-F.Assign n p r)
  part_assign n p r = search (rules, the_lemmas)

  pub part_call : (call : Call) → stmt_part names at (stmt.Perform call) ≡ stmt_step names at (Stmt-F.Perform call)
  part_call call = search (rules, the_lemmas)

  pub part_choose : (p : ℕ) (cond : Cond) (first second : List Stmt) → stmt_part names at (stmt.Choose p cond first second) ≡ choice_part names at cond (block_parts names at first) (block_parts names at second)
  part_choose p cond first second = search (rules, the_lemmas)

  pub part_repeat : (p turns q n r : ℕ) (body : List Stmt) → stmt_part names at (stmt.Repeat p turns q n r body) ≡ repeat_part names at turns n (block_parts names at body)
  part_repeat p turns q n r body = search (rules, the_lemmas)

  pub part_reply : (p : ℕ) (values : List Expr) → stmt_part names at (stmt.Answer p values) ≡ stmt_step names at (Stmt-F.Answer p values)
  part_reply p values = search (rules, the_lemmas)
