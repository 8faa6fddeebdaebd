-- What the literals and the replies of a block keep, read off the bounds of its file.
use Rattle.std.proofs.Common.{◌≡◌, ℕ, zero, suc, ◌+◌, ◌<◌, ◌≤◌, ◌^◌, List, [], ◌∷◌, ◌++◌, length, slice_index_or, sym, subst, arith}
use Rattle.std.specs.List.{AllByRecursion, Contains, flat_map}
use Rattle.syntax_trees.specs.declared.expr.Expr.{Expr}
use Rattle.syntax_trees.specs.declared.stmt.Cond.{Cond}
use Rattle.syntax_trees.specs.declared.stmt.Stmt.{Stmt}
use Rattle.syntax_trees.specs.declared.stmt.Stmt.TheVariants as stmt
use Rattle.syntax_trees.specs.declared.file.File.{File}
use Rattle.syntax_trees.specs.declared.file.Handler.{Handler}
use Rattle.syntax_trees.specs.Mentions.{Mention, IsBelow, expr_mentions, call_mentions, right_mentions, cond_mentions, stmt_mentions, table_mentions, param_mentions, handler_mentions, file_mentions}
use Rattle.syntax_trees.proofs.Mentions.{mentions_let, mentions_assign, mentions_perform, mentions_choose, mentions_repeat, mentions_answer, all_first}
use Rattle.syntax_trees.specs.Bounds.{Form, stmt_forms, block_forms, handler_forms, IsBoundedForm, IsBoundedNumber, KeepsBounds}
use Rattle.syntax_trees.specs.Source.{Source, Finish, Let, Assign, Do, Choose, Repeat, Answer, stmt_source, block_source}
use Rattle.syntax_trees.proofs.Statements.{source_let, source_assign, source_call, source_choose, source_repeat, source_reply, forms_choose, forms_repeat, forms_reply}
use Rattle.handler_check.proofs.Inductions.{stmt_induction}

-- a number and a place that a program can hold
abbrev pub IsSmall : Mention → Type 0
IsSmall m = IsBoundedNumber m × IsBelow (2 ^ 32) m

abbrev pub AreSmall : List Mention → Type 0
AreSmall ms = AllByRecursion IsSmall ms

-- a program can hold each literal, and each reply has 1 to 4 values
abbrev pub IsHeldBlock : Source → Type 0
IsHeldBlock Finish = Unit {0}
IsHeldBlock (Let n at r rest) = AreSmall (right_mentions r) × IsHeldBlock rest
IsHeldBlock (Assign n at r rest) = AreSmall (right_mentions r) × IsHeldBlock rest
IsHeldBlock (Do c rest) = AreSmall (call_mentions c) × IsHeldBlock rest
IsHeldBlock (Choose at c a b rest) = AreSmall (cond_mentions c) × IsHeldBlock a × IsHeldBlock b × IsHeldBlock rest
IsHeldBlock (Repeat at n n_at name name_at body rest) = IsHeldBlock body × IsHeldBlock rest
IsHeldBlock (Answer es rest) = (0 < length es) × (length es ≤ 4) × AreSmall (flat_map expr_mentions es) × IsHeldBlock rest

abbrev Bounded : List Form → Type 0
Bounded fs = AllByRecursion IsBoundedForm fs

-- a statement before what is held
abbrev Holds : Stmt → Type 0
Holds s = (d : ℕ) (rest : Source) → AreSmall (stmt_mentions s) → Bounded (stmt_forms s d) → IsHeldBlock rest → IsHeldBlock (stmt_source s rest)

held_block : (ss : List Stmt) (d : ℕ) → AllByRecursion Holds ss → AreSmall (flat_map stmt_mentions ss) → Bounded (block_forms ss d) → IsHeldBlock (block_source ss)
held_block [] d h m f = tt
held_block (s ∷ ss) d h m f =
    let a = all_first IsSmall (stmt_mentions s) (flat_map stmt_mentions ss) m in
    let b = all_first IsBoundedForm (stmt_forms s d) (block_forms ss d) f in
    h.0 d (block_source ss) a.0 b.0 (held_block ss d h.1 a.1 b.1)

held_choose : (p : ℕ) (cond : Cond) (first second : List Stmt) → AllByRecursion Holds first → AllByRecursion Holds second → Holds (stmt.Choose p cond first second)
held_choose p cond first second h k d rest m f held =
    let a = all_first IsSmall (cond_mentions cond) (flat_map stmt_mentions first ++ flat_map stmt_mentions second) (subst AreSmall (mentions_choose p cond first second) m) in
    let b = all_first IsSmall (flat_map stmt_mentions first) (flat_map stmt_mentions second) a.1 in
    let c = subst Bounded (forms_choose p cond first second d) f in
    let e = all_first IsBoundedForm (block_forms first (d + 1)) (block_forms second (d + 1)) c.1 in
    subst IsHeldBlock (sym (source_choose p cond first second rest)) (a.0, held_block first (d + 1) h b.0 e.0, held_block second (d + 1) k b.1 e.1, held)

held_repeat : (p turns q n r : ℕ) (body : List Stmt) → AllByRecursion Holds body → Holds (stmt.Repeat p turns q n r body)
held_repeat p turns q n r body h d rest m f held =
    let a = subst AreSmall (mentions_repeat p turns q n r body) m in
    let c = subst Bounded (forms_repeat p turns q n r body d) f in
    subst IsHeldBlock (sym (source_repeat p turns q n r body rest)) (held_block body (d + 1) h a.1.1 c.1, held)

held_reply : (p : ℕ) (values : List Expr) → Holds (stmt.Answer p values)
held_reply p values d rest m f held =
    let c = subst Bounded (forms_reply p values d) f in
    let some = c.0.0 in
    subst IsHeldBlock (sym (source_reply p values rest)) (omega (arith, some), c.0.1, subst AreSmall (mentions_answer p values) m, held)

holds : (s : Stmt) → Holds s
holds = stmt_induction Holds (record {
  let_stmt = λ n p r d rest m f held. (let a = subst AreSmall (mentions_let n p r) m in subst IsHeldBlock (sym (source_let n p r rest)) (a.1, held));
  assign_stmt = λ n p r d rest m f held. (let a = subst AreSmall (mentions_assign n p r) m in subst IsHeldBlock (sym (source_assign n p r rest)) (a.1, held));
  call_stmt = λ c d rest m f held. subst IsHeldBlock (sym (source_call c rest)) (subst AreSmall (mentions_perform c) m, held);
  choose_stmt = held_choose;
  repeat_stmt = held_repeat;
  reply_stmt = held_reply;
})

all_hold : (ss : List Stmt) → AllByRecursion Holds ss
all_hold [] = tt
all_hold (s ∷ ss) = (holds s, all_hold ss)

-- ---- files
both : (ms : List Mention) → AllByRecursion IsBoundedNumber ms → AllByRecursion (IsBelow (2 ^ 32)) ms → AreSmall ms
both [] h k = tt
both (m ∷ ms) h k = ((h.0, k.0), both ms h.1 k.1)

held_handlers : (hs : List Handler) (h : Handler) → Contains hs h → AreSmall (flat_map handler_mentions hs) → Bounded (flat_map handler_forms hs) → IsHeldBlock (block_source h.body)
held_handlers hs h among m f = at_place hs among.0 among.1 among.2 m f
  where
    own : (x : Handler) → AreSmall (handler_mentions x) → Bounded (handler_forms x) → IsHeldBlock (block_source x.body)
    own x m f = held_block x.body 1 (all_hold x.body) (all_first IsSmall (flat_map param_mentions x.params) (flat_map stmt_mentions x.body) m.1).1 f

    at_place : (hs : List Handler) (k : ℕ) → k < length hs → slice_index_or hs k h ≡ h → AreSmall (flat_map handler_mentions hs) → Bounded (flat_map handler_forms hs) → IsHeldBlock (block_source h.body)
    at_place [] k l e m f = absurd (omega arith)
    at_place (x ∷ hs) zero l e m f =
        subst (λ (z : Handler). IsHeldBlock (block_source z.body)) e
        (own x (all_first IsSmall (handler_mentions x) (flat_map handler_mentions hs) m).0 (all_first IsBoundedForm (handler_forms x) (flat_map handler_forms hs) f).0)
    at_place (x ∷ hs) (suc k) l e m f =
        at_place hs k (omega arith) e (all_first IsSmall (handler_mentions x) (flat_map handler_mentions hs) m).1 (all_first IsBoundedForm (handler_forms x) (flat_map handler_forms hs) f).1

pub held_handler : (f : File) (h : Handler) → KeepsBounds f → Contains f.handlers h → IsHeldBlock (block_source h.body)
held_handler f h bounds among =
    held_handlers f.handlers h among (all_first IsSmall (flat_map table_mentions f.tables) (flat_map handler_mentions f.handlers) (both (file_mentions f) bounds.numbers bounds.places)).1 bounds.forms
