-- Symbols that may still come mention variables of their code alone, and tables that there are.
use Rattle.std.proofs.Common.{◌≡◌, ℕ, zero, suc, ◌<◌, Bool, true, false, ◌==◌, if◌then◌else◌, List, [], ◌∷◌, Option, Some, None, sym, subst, inl, inr, ◌⊎◌, Contains, length}
use Rattle.std.specs.List.{AllByRecursion}
use Rattle.std.specs.Prelude.{nat_lt, slice_index_or}
use Rattle.session_values.specs.declared.kind.TableKind.{TableKind}
use Rattle.session_values.specs.Kinds.{arguments}
use Rattle.symbolic_ops.specs.declared.arg.Arg.{Arg}
use Rattle.symbolic_ops.specs.declared.arg.Arg.TheVariants.{Known, Var, Any}
use Rattle.symbolic_ops.specs.declared.symbol.Symbol.{Symbol}
use Rattle.symbolic_ops.specs.Instantiate.{ArgWithin}
use Rattle.handler_check.specs.File.{File}
use Rattle.check_meaning.specs.declared.tree.CheckedAtom.{CheckedAtom}
use Rattle.check_meaning.specs.declared.tree.CheckedAtom.TheVariants as atom
use Rattle.check_meaning.specs.declared.tree.CheckedCall.{CheckedCall}
use Rattle.check_meaning.specs.Code.{Term, Atom, Calculate, Code, Finish, Move, Ask, Fork, Loop, Quit}
use Rattle.check_meaning.specs.Within.{AtomWithin, TermWithin, CallWithin, CodeWithin}
use Rattle.handler_check.specs.Checked.{IsKept}
use Rattle.handler_check.specs.Resolved.{code_at, shape_of, variables_at}
use Rattle.handler_check.proofs.Codes.{all_within}
use Rattle.may_use_analysis.specs.Steps.{Step, Copy, Constant, Other, Call, End, store_step, argument, symbol_of, before_step, arg_back}
use Rattle.may_use_analysis.specs.Trails.{Symbols, Back, LaterAt}
use Rattle.may_use_analysis.specs.Flow.{RepliedBack, Turned, Flow, Head, FlowPoint, FlowHandler}
use Rattle.may_use_analysis.specs.Later.{AreLater, IsLaterList}
use Rattle.may_use_analysis.specs.Own.{SpeaksOf, IsOfHandler, AreOfHandlers}
use Rattle.may_use_analysis.proofs.PointLemmas.{later_is_flow}
use Rattle.may_use_analysis.proofs.Unique.{cons_head, cons_tail}

module _ (shape : List TableKind) (n : ℕ) where
  abbrev AreWithin : Symbols → Type 0
  AreWithin A = (s : Symbol) → A s → SpeaksOf shape n s

  -- what a step stores is within
  abbrev StepWithin : Step → Type 0
  StepWithin (Copy x y) = y < n
  StepWithin (Constant x v) = Unit {0}
  StepWithin (Other x) = Unit {0}
  StepWithin (Call c) = Unit {0}
  StepWithin End = Unit {0}

  either_arg : (b : Bool) (a c : Arg) → ArgWithin n a → ArgWithin n c → ArgWithin n (if b then a else c)
  either_arg true a c h k = h
  either_arg false a c h k = k

  var_within : (step : Step) (z : ℕ) → StepWithin step → z < n → ArgWithin n (before_step step z)
  var_within (Copy x y) z h k = either_arg (z == x) (Var y) (Var z) h k
  var_within (Constant x v) z h k = either_arg (z == x) (Known v) (Var z) tt k
  var_within (Other x) z h k = either_arg (z == x) Any (Var z) tt k
  var_within (Call c) z h k = k
  var_within End z h k = k

  arg_within : (step : Step) (a : Arg) → StepWithin step → ArgWithin n a → ArgWithin n (arg_back step a)
  arg_within step (Known v) h k = tt
  arg_within step (Var z) h k = var_within step z h k
  arg_within step Any h k = tt

  back_within : (step : Step) (A : Symbols) → StepWithin step → AreWithin A → AreWithin (Back step A)
  back_within step A h k s m =
      let w = k m.0 m.1 in
      let args = w.within in
      subst (SpeaksOf shape n) (sym m.2) (record {
        within = (arg_within step m.0.key h args.0, arg_within step m.0.value h args.1);
        table = w.table;
      })

  store_within : (x : ℕ) (e : Term) → TermWithin n e → StepWithin (store_step x e)
  store_within x (Atom (atom.Lit v)) h = tt
  store_within x (Atom (atom.Var y)) h = h
  store_within x (Calculate calc l r) h = tt

  argument_within : (has : Bool) (a : CheckedAtom) → AtomWithin n a → ArgWithin n (argument has a)
  argument_within true (atom.Lit v) h = tt
  argument_within true (atom.Var x) h = h
  argument_within false a h = tt

  replied_within : (x : Option ℕ) (A : Symbols) → AreWithin A → AreWithin (RepliedBack x A)
  replied_within None A k = k
  replied_within (Some x) A k = back_within (Other x) A tt k

  turned_within : (x k : ℕ) (body : Symbols → Symbols) → ((A : Symbols) → AreWithin A → AreWithin (body A)) → (A : Symbols) → AreWithin A → AreWithin (Turned x body k A)
  turned_within x zero body h A w = w
  turned_within x (suc k) body h A w = back_within (Other x) (body (Turned x body k A)) tt (h (Turned x body k A) (turned_within x k body h A w))

  ask_within : (x : Option ℕ) (c : CheckedCall) (A : Symbols) → CallWithin shape n c → AreWithin A → (s : Symbol) → (s ≡ symbol_of c) ⊎ RepliedBack x A s → SpeaksOf shape n s
  ask_within x c A h k s (inl e) =
      subst (SpeaksOf shape n) (sym e) (record {
        within = (argument_within (nat_lt 0 (arguments c.kind)) c.key h.key, argument_within (nat_lt 1 (arguments c.kind)) c.value h.value);
        table = h.table;
      })
  ask_within x c A h k s (inr m) = replied_within x A k s m

  flow_within : (code : Code) → CodeWithin shape n code → (A : Symbols) → AreWithin A → AreWithin (Flow code A)
  flow_within Finish w A k = k
  flow_within (Move x e rest) w A k = back_within (store_step x e) (Flow rest A) (store_within x e w.1) (flow_within rest w.2 A k)
  flow_within (Ask at p x c rest) w A k = ask_within x c (Flow rest A) w.1 (flow_within rest w.2 A k)
  flow_within (Fork at p q test a b rest) w A k = λ s m. side s m (flow_within a w.1 (Flow rest A) (flow_within rest w.3 A k)) (flow_within b w.2 (Flow rest A) (flow_within rest w.3 A k))
    where
      side : (s : Symbol) → Flow a (Flow rest A) s ⊎ Flow b (Flow rest A) s → AreWithin (Flow a (Flow rest A)) → AreWithin (Flow b (Flow rest A)) → SpeaksOf shape n s
      side s (inl m) h j = h s m
      side s (inr m) h j = j s m
  flow_within (Loop at p m x body rest) w A k = λ s t. turned_within x t.0 (Flow body) (flow_within body w.3) (Flow rest A) (flow_within rest w.4 A k) s t.1
  flow_within (Quit es rest) w A k = λ s m. absurd m

  head_within : (x : ℕ) (body : Code) → CodeWithin shape n body → (A : Symbols) → AreWithin A → AreWithin (Head x body A)
  head_within x body w A k = λ s t. turned_within x t.0 (Flow body) (flow_within body w) A k s t.1

  ask_point : (i p : ℕ) (A B : Symbols) → AreWithin A → AreWithin B → (s : Symbol) → ((i ≡ p) × A s) ⊎ B s → SpeaksOf shape n s
  ask_point i p A B h k s (inl m) = h s m.1
  ask_point i p A B h k s (inr m) = k s m

  point_within : (code : Code) → CodeWithin shape n code → (i : ℕ) (A : Symbols) → AreWithin A → AreWithin (FlowPoint code i A)
  point_within Finish w i A k = λ s m. absurd m
  point_within (Move x e rest) w i A k = point_within rest w.2 i A k
  point_within (Ask at p x c rest) w i A k = ask_point i p (Flow rest A) (FlowPoint rest i A) (flow_within rest w.2 A k) (point_within rest w.2 i A k)
  point_within (Fork at p q test a b rest) w i A k =
      let R = Flow rest A in
      let r = flow_within rest w.3 A k in
      ask_point i p (Flow a R) _ (flow_within a w.1 R r) (ask_point i q (Flow b R) _ (flow_within b w.2 R r) (either (FlowPoint a i R) _ (point_within a w.1 i R r) (either (FlowPoint b i R) (FlowPoint rest i A) (point_within b w.2 i R r) (point_within rest w.3 i A k))))
    where
      either : (A B : Symbols) → AreWithin A → AreWithin B → (s : Symbol) → A s ⊎ B s → SpeaksOf shape n s
      either A B h j s (inl m) = h s m
      either A B h j s (inr m) = j s m
  point_within (Loop at p m x body rest) w i A k =
      let R = Flow rest A in
      let r = flow_within rest w.4 A k in
      ask_point i p R _ r (either (FlowPoint body i (Head x body R)) (FlowPoint rest i A) (point_within body w.3 i (Head x body R) (head_within x body w.3 R r)) (point_within rest w.4 i A k))
    where
      either : (A B : Symbols) → AreWithin A → AreWithin B → (s : Symbol) → A s ⊎ B s → SpeaksOf shape n s
      either A B h j s (inl m) = h s m
      either A B h j s (inr m) = j s m
  point_within (Quit es rest) w i A k = point_within rest w.3 i A k

  pub later_within : (code : Code) → CodeWithin shape n code → (p : ℕ) → AreWithin (LaterAt code p)
  later_within code w p s m = go ((later_is_flow code p s).0 m)
    where
      go : FlowHandler code p s → SpeaksOf shape n s
      go (inl e) = flow_within code w (λ z. ⊥) (λ z j. absurd j) s e.1
      go (inr e) = point_within code w p (λ z. ⊥) (λ z j. absurd j) s e

pub all_members : (P : Symbol → Type 0) (list : List Symbol) → ((s : Symbol) → Contains list s → P s) → AllByRecursion P list
all_members P [] h = tt
all_members P (s ∷ list) h = (h s (cons_head s list), all_members P list (λ q m. h q (cons_tail s list q m)))

-- the symbols of a point's list
pub list_within : (f : File) (h p : ℕ) (list : List Symbol) → IsKept f → IsLaterList (code_at f h) p list → AllByRecursion (IsOfHandler f h) list
list_within f h p list kept is =
    let within = all_within f kept.accepted kept.bounded h in
    all_members (IsOfHandler f h) list (λ s m. later_within (shape_of f) (length (variables_at f h)) (code_at f h) within.own p s ((is.1 s).0 m))

pub lists_within : (f : File) (all : List (List (List Symbol))) → IsKept f → AreLater f all → AreOfHandlers f all
lists_within f all kept later h p inside at =
    let has = later.each h inside in
    list_within f h p (slice_index_or (slice_index_or all h []) p []) kept (has.each p at)
