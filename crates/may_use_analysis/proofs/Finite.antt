-- The symbols at each point are finitely many.
use Rattle.std.proofs.Common.{◌≡◌, ℕ, zero, suc, ◌+◌, ◌<◌, Bool, true, false, List, [], ◌∷◌, ◌++◌, map, length, refl, sym, ap, ◌∙◌, subst, inl, inr, ◌⊎◌, Contains, arith, Option, Some, None}
use Rattle.std.specs.Prelude.{if◌then◌else◌, ◌==◌}
use Rattle.std.proofs.lemmas.Bool.{cases_order}
use Rattle.session_values.specs.declared.kind.Kind.{Kind}
use Rattle.symbolic_ops.specs.declared.arg.Arg.{Arg}
use Rattle.symbolic_ops.specs.declared.arg.Arg.TheVariants.{Known, Var, Any}
use Rattle.symbolic_ops.specs.declared.symbol.Symbol.{Symbol}
use Rattle.check_meaning.specs.Code.{Code, Finish, Move, Ask, Fork, Loop, Quit}
use Rattle.may_use_analysis.specs.Steps.{Step, Copy, Constant, Other, Call, End, store_step, symbol_of, arg_back, back}
use Rattle.may_use_analysis.specs.Trails.{Symbols, Back}
use Rattle.may_use_analysis.specs.Flow.{RepliedBack, Turned, Flow, Head, FlowPoint}
use Rattle.may_use_analysis.specs.Ordered.{Are}
use Rattle.may_use_analysis.proofs.FlowLemmas.{Within}
use Rattle.may_use_analysis.proofs.LoopLemmas.{head_least, head_start, head_turn}
use Rattle.may_use_analysis.proofs.Members.{contains_both, map_back}
use Rattle.may_use_analysis.proofs.Sets.{Same, head_same}
use Rattle.may_use_analysis.proofs.Unique.{none_in_nil, cons_cases, cons_head, cons_tail}
use Rattle.may_use_analysis.proofs.Different.{AreDifferent, no_more, all_or_one}

-- ---- finite sets

abbrev pub IsFinite : Symbols → Type 0
IsFinite set = (list : List Symbol) × Are list set

pub members_of : (xs : List Symbol) → IsFinite (Contains xs)
members_of xs = (xs, λ s. (λ m. m, λ m. m))

pub none_finite : IsFinite (λ s. ⊥)
none_finite = ([], λ s. (λ m. absurd (none_in_nil s m), λ m. absurd m))

one_finite : (x : Symbol) → IsFinite (λ s. s ≡ x)
one_finite x = (x ∷ [], λ s. (λ m. one s (cons_cases x [] s m), λ e. subst (Contains (x ∷ [])) (sym e) (cons_head x [])))
  where
    one : (s : Symbol) → (s ≡ x) ⊎ Contains [] s → s ≡ x
    one s (inl e) = e
    one s (inr m) = absurd (none_in_nil s m)

pub both_finite : (A B : Symbols) → IsFinite A → IsFinite B → IsFinite (λ s. A s ⊎ B s)
both_finite A B a b = (a.0 ++ b.0, λ s. (λ m. there s ((contains_both a.0 b.0 s).0 m), λ m. (contains_both a.0 b.0 s).1 (back_again s m)))
  where
    there : (s : Symbol) → Contains a.0 s ⊎ Contains b.0 s → A s ⊎ B s
    there s (inl m) = inl ((a.1 s).0 m)
    there s (inr m) = inr ((b.1 s).0 m)

    back_again : (s : Symbol) → A s ⊎ B s → Contains a.0 s ⊎ Contains b.0 s
    back_again s (inl m) = inl ((a.1 s).1 m)
    back_again s (inr m) = inr ((b.1 s).1 m)

back_finite : (step : Step) (A : Symbols) → IsFinite A → IsFinite (Back step A)
back_finite step A a =
    (map (back step) a.0, λ s. (λ m. let b = (map_back step a.0 s).0 m in (b.0, (a.1 b.0).0 b.1, b.2), λ b. (map_back step a.0 s).1 (b.0, (a.1 b.0).1 b.1, b.2)))

replied_finite : (x : Option ℕ) (A : Symbols) → IsFinite A → IsFinite (RepliedBack x A)
replied_finite None A a = a
replied_finite (Some x) A a = back_finite (Other x) A a

same_finite : (A B : Symbols) → Same A B → IsFinite A → IsFinite B
same_finite A B h a = (a.0, λ s. (λ m. (h s).0 ((a.1 s).0 m), λ m. (a.1 s).1 ((h s).1 m)))

pub when_finite : (i p : ℕ) (A : Symbols) → IsFinite A → IsFinite (λ s. (i ≡ p) × A s)
when_finite i p A a = go (cases_order i p)
  where
    go : (i ≡ p) ⊎ ((i < p) ⊎ (p < i)) → IsFinite (λ s. (i ≡ p) × A s)
    go (inl e) = (a.0, λ s. (λ m. (e, (a.1 s).0 m), λ m. (a.1 s).1 m.1))
    go (inr (inl lt)) = ([], λ s. (λ m. absurd (none_in_nil s m), λ m. let e = m.0 in absurd (omega arith)))
    go (inr (inr lt)) = ([], λ s. (λ m. absurd (none_in_nil s m), λ m. let e = m.0 in absurd (omega arith)))

-- ---- the symbols with the operations of a list and arguments of a list

abbrev made : Kind → ℕ → Arg → Arg → Symbol
made k t a b = record { kind = k; table = t; key = a; value = b }

abbrev with_value : Symbol → Arg → Arg → Symbol
with_value s a b = made s.kind s.table a b

module _ (base : List Symbol) (args : List Arg) where
  abbrev Spans : Symbols
  Spans s = (b : Symbol) × Contains base b × (s.kind ≡ b.kind) × (s.table ≡ b.table) × Contains args s.key × Contains args s.value

  abbrev with_values : Symbol → Arg → List Arg → List Symbol
  with_values s a [] = []
  with_values s a (b ∷ bs) = with_value s a b ∷ with_values s a bs

  abbrev with_keys : Symbol → List Arg → List Symbol
  with_keys s [] = []
  with_keys s (a ∷ ks) = with_values s a args ++ with_keys s ks

  abbrev spanned : List Symbol → List Symbol
  spanned [] = []
  spanned (s ∷ ss) = with_keys s args ++ spanned ss

  in_values : (s : Symbol) (a b : Arg) (bs : List Arg) → Contains bs b → Contains (with_values s a bs) (with_value s a b)
  in_values s a b [] m = absurd (none_in_nil b m)
  in_values s a b (c ∷ bs) m = go (cons_cases c bs b m) (in_values s a b bs)
    where
      go : (b ≡ c) ⊎ Contains bs b → (Contains bs b → Contains (with_values s a bs) (with_value s a b)) → Contains (with_value s a c ∷ with_values s a bs) (with_value s a b)
      go (inl e) k = subst (λ (z : Arg). Contains (with_value s a c ∷ with_values s a bs) (with_value s a z)) (sym e) (cons_head (with_value s a c) (with_values s a bs))
      go (inr h) k = cons_tail (with_value s a c) (with_values s a bs) (with_value s a b) (k h)

  in_keys : (s : Symbol) (a b : Arg) (ks : List Arg) → Contains ks a → Contains args b → Contains (with_keys s ks) (with_value s a b)
  in_keys s a b [] m n = absurd (none_in_nil a m)
  in_keys s a b (c ∷ ks) m n = (contains_both (with_values s c args) (with_keys s ks) (with_value s a b)).1 (go (cons_cases c ks a m) (in_keys s a b ks))
    where
      go : (a ≡ c) ⊎ Contains ks a → (Contains ks a → Contains args b → Contains (with_keys s ks) (with_value s a b)) → Contains (with_values s c args) (with_value s a b) ⊎ Contains (with_keys s ks) (with_value s a b)
      go (inl e) k = inl (subst (λ (z : Arg). Contains (with_values s c args) (with_value s z b)) (sym e) (in_values s c b args n))
      go (inr h) k = inr (k h n)

  in_spanned : (bs : List Symbol) (b : Symbol) (k v : Arg) → Contains bs b → Contains args k → Contains args v → Contains (spanned bs) (with_value b k v)
  in_spanned [] b k v m p q = absurd (none_in_nil b m)
  in_spanned (c ∷ bs) b k v m p q = (contains_both (with_keys c args) (spanned bs) (with_value b k v)).1 (go (cons_cases c bs b m) (in_spanned bs b k v))
    where
      go : (b ≡ c) ⊎ Contains bs b → (Contains bs b → Contains args k → Contains args v → Contains (spanned bs) (with_value b k v)) → Contains (with_keys c args) (with_value b k v) ⊎ Contains (spanned bs) (with_value b k v)
      go (inl e) r = inl (subst (λ (z : Symbol). Contains (with_keys c args) (with_value z k v)) (sym e) (in_keys c k v args p q))
      go (inr h) r = inr (r h p q)

  spans_listed : (s : Symbol) → Spans s → Contains (spanned base) s
  spans_listed s m =
      let same : with_value m.0 s.key s.value ≡ s = ap (λ (z : Kind). made z m.0.table s.key s.value) (sym m.2) ∙ ap (λ (z : ℕ). made s.kind z s.key s.value) (sym m.3) in
      subst (Contains (spanned base)) same (in_spanned base m.0 s.key s.value m.1 m.4 m.5)

  -- what the steps of a code lead back to is among the arguments, and its operations are among these
  abbrev Closed : Step → Type 0
  Closed step = (a : Arg) → Contains args a → Contains args (arg_back step a)

  abbrev ReplyClosed : Option ℕ → Type 0
  ReplyClosed None = Unit {0}
  ReplyClosed (Some x) = Closed (Other x)

  abbrev AllClosed : Code → Type 0
  AllClosed Finish = Unit {0}
  AllClosed (Move x e rest) = Closed (store_step x e) × AllClosed rest
  AllClosed (Ask at p x c rest) = Spans (symbol_of c) × ReplyClosed x × AllClosed rest
  AllClosed (Fork at p q test a b rest) = AllClosed a × AllClosed b × AllClosed rest
  AllClosed (Loop at p n x body rest) = Closed (Other x) × AllClosed body × AllClosed rest
  AllClosed (Quit es rest) = Unit {0}

  back_spans : (step : Step) (A : Symbols) → Closed step → Within A Spans → Within (Back step A) Spans
  back_spans step A closed h s m =
      let b = h m.0 m.1 in
      subst Spans (sym m.2) (b.0, b.1, b.2, b.3, closed m.0.key b.4, closed m.0.value b.5)

  replied_spans : (x : Option ℕ) (A : Symbols) → ReplyClosed x → Within A Spans → Within (RepliedBack x A) Spans
  replied_spans None A c h s m = h s m
  replied_spans (Some x) A c h s m = back_spans (Other x) A c h s m

  turned_spans : (x k : ℕ) (body : Symbols → Symbols) (A : Symbols) → Closed (Other x) → ((B : Symbols) → Within B Spans → Within (body B) Spans) → Within A Spans → Within (Turned x body k A) Spans
  turned_spans x zero body A c f h s m = h s m
  turned_spans x (suc k) body A c f h s m = back_spans (Other x) (body (Turned x body k A)) c (f (Turned x body k A) (turned_spans x k body A c f h)) s m

  flow_spans : (code : Code) (A : Symbols) → AllClosed code → Within A Spans → Within (Flow code A) Spans
  flow_spans Finish A c h s m = h s m
  flow_spans (Move x e rest) A c h s m = back_spans (store_step x e) (Flow rest A) c.0 (flow_spans rest A c.1 h) s m
  flow_spans (Ask at p x call rest) A c h s (inl e) = subst Spans (sym e) c.0
  flow_spans (Ask at p x call rest) A c h s (inr m) = replied_spans x (Flow rest A) c.1 (flow_spans rest A c.2 h) s m
  flow_spans (Fork at p q test a b rest) A c h s (inl m) = flow_spans a (Flow rest A) c.0 (flow_spans rest A c.2 h) s m
  flow_spans (Fork at p q test a b rest) A c h s (inr m) = flow_spans b (Flow rest A) c.1 (flow_spans rest A c.2 h) s m
  flow_spans (Loop at p n x body rest) A c h s m = turned_spans x m.0 (Flow body) (Flow rest A) c.0 (λ B k. flow_spans body B c.1 k) (flow_spans rest A c.2 h) s m.1
  flow_spans (Quit es rest) A c h s m = absurd m

  -- a loop's list grows by one symbol, until a turn adds none
  grown : (x : ℕ) (body : Code) (after : List Symbol) → Closed (Other x) → AllClosed body → Within (Contains after) Spans → ((X : List Symbol) → IsFinite (Flow body (Contains X))) → (n : ℕ) (h : List Symbol) → AreDifferent h → Within (Contains h) (Head x body (Contains after)) → Within (Contains h) Spans → length (spanned base) < n + length h → IsFinite (Head x body (Contains after))
  grown x body after cx cb start f zero h d sound within long =
      let few = no_more h (spanned base) d (λ s m. spans_listed s (within s m)) in absurd (omega arith)
  grown x body after cx cb start f (suc n) h d sound within long =
      go (all_or_one (after ++ turn.0) h) (λ s new m fresh in_span. grown x body after cx cb start f n (s ∷ h) (fresh, d) (λ q k. put (Head x body (Contains after)) s q m (sound q) (cons_cases s h q k)) (λ q k. put Spans s q in_span (within q) (cons_cases s h q k)) (omega (arith, long)))
    where
      turn : IsFinite (Back (Other x) (Flow body (Contains h)))
      turn = back_finite (Other x) (Flow body (Contains h)) (f h)

      put : (P : Symbols) (s q : Symbol) → P s → (Contains h q → P q) → (q ≡ s) ⊎ Contains h q → P q
      put P s q m k (inl e) = subst P (sym e) m
      put P s q m k (inr c) = k c

      from_turn : (s : Symbol) → Contains turn.0 s → Back (Other x) (Flow body (Contains h)) s
      from_turn s m = (turn.1 s).0 m

      from_head : (s : Symbol) → Contains after s ⊎ Contains turn.0 s → Head x body (Contains after) s
      from_head s (inl m) = head_start x body (Contains after) s m
      from_head s (inr m) = head_turn x body (Contains after) (Contains h) sound s (from_turn s m)

      from_span : (s : Symbol) → Contains after s ⊎ Contains turn.0 s → Spans s
      from_span s (inl m) = start s m
      from_span s (inr m) = back_spans (Other x) (Flow body (Contains h)) cx (flow_spans body (Contains h) cb within) s (from_turn s m)

      go : ((s : Symbol) → Contains (after ++ turn.0) s → Contains h s) ⊎ ((s : Symbol) × Contains (after ++ turn.0) s × (Contains h s → ⊥)) → ((s : Symbol) → Contains (after ++ turn.0) s → Head x body (Contains after) s → (Contains h s → ⊥) → Spans s → IsFinite (Head x body (Contains after))) → IsFinite (Head x body (Contains after))
      go (inl all) more =
          (h, λ s. (sound s, head_least x body (Contains after) (Contains h) (λ q m. all q ((contains_both after turn.0 q).1 (inl m))) (λ q m. all q ((contains_both after turn.0 q).1 (inr ((turn.1 q).1 m)))) s))
      go (inr r) more =
          let from = (contains_both after turn.0 r.0).0 r.1 in
          more r.0 r.1 (from_head r.0 from) r.2 (from_span r.0 from)

-- ---- what a code's steps lead back to, and its operations

abbrev args_of_step : Step → List Arg
args_of_step (Copy x y) = Var y ∷ []
args_of_step (Constant x v) = Known v ∷ []
args_of_step (Other x) = Any ∷ []
args_of_step (Call c) = []
args_of_step End = []

abbrev args_of : Code → List Arg
args_of Finish = []
args_of (Move x e rest) = args_of_step (store_step x e) ++ args_of rest
args_of (Ask at p x c rest) = (symbol_of c).key ∷ (symbol_of c).value ∷ Any ∷ args_of rest
args_of (Fork at p q test a b rest) = args_of a ++ (args_of b ++ args_of rest)
args_of (Loop at p n x body rest) = Any ∷ (args_of body ++ args_of rest)
args_of (Quit es rest) = []

abbrev calls_of : Code → List Symbol
calls_of Finish = []
calls_of (Move x e rest) = calls_of rest
calls_of (Ask at p x c rest) = symbol_of c ∷ calls_of rest
calls_of (Fork at p q test a b rest) = calls_of a ++ (calls_of b ++ calls_of rest)
calls_of (Loop at p n x body rest) = calls_of body ++ calls_of rest
calls_of (Quit es rest) = []

abbrev args_in : List Symbol → List Arg
args_in [] = []
args_in (s ∷ ss) = s.key ∷ s.value ∷ args_in ss

abbrev Has : {X : Type 0} → List X → List X → Type 0
Has {X} all some = (x : X) → Contains some x → Contains all x

has_left : {X : Type 0} (all xs ys : List X) → Has all (xs ++ ys) → Has all xs
has_left all xs ys h x m = h x ((contains_both xs ys x).1 (inl m))

has_right : {X : Type 0} (all xs ys : List X) → Has all (xs ++ ys) → Has all ys
has_right all xs ys h x m = h x ((contains_both xs ys x).1 (inr m))

has_head : {X : Type 0} (all : List X) (x : X) (xs : List X) → Has all (x ∷ xs) → Contains all x
has_head all x xs h = h x (cons_head x xs)

has_tail : {X : Type 0} (all : List X) (x : X) (xs : List X) → Has all (x ∷ xs) → Has all xs
has_tail all x xs h y m = h y (cons_tail x xs y m)

has_either : (args : List Arg) (b : Bool) (x y : Arg) → Contains args x → Contains args y → Contains args (if b then x else y)
has_either args true x y m n = m
has_either args false x y m n = n

step_closed : (base : List Symbol) (args : List Arg) (step : Step) → Has args (args_of_step step) → Closed base args step
step_closed base args step h (Known v) m = m
step_closed base args step h Any m = m
step_closed base args (Copy x y) h (Var z) m = has_either args (z == x) (Var y) (Var z) (has_head args (Var y) [] h) m
step_closed base args (Constant x v) h (Var z) m = has_either args (z == x) (Known v) (Var z) (has_head args (Known v) [] h) m
step_closed base args (Other x) h (Var z) m = has_either args (z == x) Any (Var z) (has_head args Any [] h) m
step_closed base args (Call c) h (Var z) m = m
step_closed base args End h (Var z) m = m

any_only : (args : List Arg) → Contains args Any → Has args (Any ∷ [])
any_only args m a k = go (cons_cases Any [] a k)
  where
    go : (a ≡ Any) ⊎ Contains [] a → Contains args a
    go (inl e) = subst (Contains args) (sym e) m
    go (inr n) = absurd (none_in_nil a n)

reply_closed : (base : List Symbol) (args : List Arg) (x : Option ℕ) → Contains args Any → ReplyClosed base args x
reply_closed base args None m = tt
reply_closed base args (Some x) m = step_closed base args (Other x) (any_only args m)

all_closed : (base : List Symbol) (args : List Arg) (code : Code) → Has args (args_of code) → Has base (calls_of code) → AllClosed base args code
all_closed base args Finish h k = tt
all_closed base args (Move x e rest) h k =
    (step_closed base args (store_step x e) (has_left args (args_of_step (store_step x e)) (args_of rest) h), all_closed base args rest (has_right args (args_of_step (store_step x e)) (args_of rest) h) k)
all_closed base args (Ask at p x c rest) h k =
    let s = symbol_of c in
    let h1 = has_tail args s.key (s.value ∷ Any ∷ args_of rest) h in
    let h2 = has_tail args s.value (Any ∷ args_of rest) h1 in
    ((s, has_head base s (calls_of rest) k, refl, refl, has_head args s.key (s.value ∷ Any ∷ args_of rest) h, has_head args s.value (Any ∷ args_of rest) h1), reply_closed base args x (has_head args Any (args_of rest) h2), all_closed base args rest (has_tail args Any (args_of rest) h2) (has_tail base s (calls_of rest) k))
all_closed base args (Fork at p q test a b rest) h k =
    let h1 = has_right args (args_of a) (args_of b ++ args_of rest) h in
    let k1 = has_right base (calls_of a) (calls_of b ++ calls_of rest) k in
    (all_closed base args a (has_left args (args_of a) (args_of b ++ args_of rest) h) (has_left base (calls_of a) (calls_of b ++ calls_of rest) k), all_closed base args b (has_left args (args_of b) (args_of rest) h1) (has_left base (calls_of b) (calls_of rest) k1), all_closed base args rest (has_right args (args_of b) (args_of rest) h1) (has_right base (calls_of b) (calls_of rest) k1))
all_closed base args (Loop at p n x body rest) h k =
    let h1 = has_tail args Any (args_of body ++ args_of rest) h in
    (step_closed base args (Other x) (any_only args (has_head args Any (args_of body ++ args_of rest) h)), all_closed base args body (has_left args (args_of body) (args_of rest) h1) (has_left base (calls_of body) (calls_of rest) k), all_closed base args rest (has_right args (args_of body) (args_of rest) h1) (has_right base (calls_of body) (calls_of rest) k))
all_closed base args (Quit es rest) h k = tt

in_args : (ss : List Symbol) (s : Symbol) → Contains ss s → Contains (args_in ss) s.key × Contains (args_in ss) s.value
in_args [] s m = absurd (none_in_nil s m)
in_args (t ∷ ts) s m = go (cons_cases t ts s m) (in_args ts s)
  where
    go : (s ≡ t) ⊎ Contains ts s → (Contains ts s → Contains (args_in ts) s.key × Contains (args_in ts) s.value) → Contains (args_in (t ∷ ts)) s.key × Contains (args_in (t ∷ ts)) s.value
    go (inl e) k =
        subst (λ (z : Symbol). Contains (args_in (t ∷ ts)) z.key × Contains (args_in (t ∷ ts)) z.value) (sym e) (cons_head t.key (t.value ∷ args_in ts), cons_tail t.key (t.value ∷ args_in ts) t.value (cons_head t.value (args_in ts)))
    go (inr n) k =
        let r = k n in
        (cons_tail t.key (t.value ∷ args_in ts) s.key (cons_tail t.value (args_in ts) s.key r.0), cons_tail t.key (t.value ∷ args_in ts) s.value (cons_tail t.value (args_in ts) s.value r.1))

-- ---- the sets of a code

abbrev base_of : List Symbol → Code → List Symbol
base_of list body = list ++ calls_of body

abbrev all_args_of : List Symbol → Code → List Arg
all_args_of list body = Any ∷ (args_in list ++ args_of body)

list_closed : (list : List Symbol) (body : Code) → AllClosed (base_of list body) (all_args_of list body) body
list_closed list body =
    all_closed (base_of list body) (all_args_of list body) body (λ z m. cons_tail Any (args_in list ++ args_of body) z ((contains_both (args_in list) (args_of body) z).1 (inr m))) (λ z m. (contains_both list (calls_of body) z).1 (inr m))

list_spans : (list : List Symbol) (body : Code) → Within (Contains list) (Spans (base_of list body) (all_args_of list body))
list_spans list body s m =
    let r = in_args list s m in
    (s, (contains_both list (calls_of body) s).1 (inl m), refl, refl, cons_tail Any (args_in list ++ args_of body) s.key ((contains_both (args_in list) (args_of body) s.key).1 (inl r.0)), cons_tail Any (args_in list ++ args_of body) s.value ((contains_both (args_in list) (args_of body) s.value).1 (inl r.1)))

list_head : (x : ℕ) (body : Code) (list : List Symbol) → ((X : List Symbol) → IsFinite (Flow body (Contains X))) → IsFinite (Head x body (Contains list))
list_head x body list f =
    let base = base_of list body in
    let args = all_args_of list body in
    let any : Contains args Any = cons_head Any (args_in list ++ args_of body) in
    grown base args x body list (step_closed base args (Other x) (any_only args any)) (list_closed list body) (list_spans list body) f (suc (length (spanned base args base))) [] tt (λ s m. absurd (none_in_nil s m)) (λ s m. absurd (none_in_nil s m)) (omega arith)

head_finite : (x : ℕ) (body : Code) (after : Symbols) → IsFinite after → ((X : List Symbol) → IsFinite (Flow body (Contains X))) → IsFinite (Head x body after)
head_finite x body after a f =
    same_finite (Head x body (Contains a.0)) (Head x body after) (head_same x body (Contains a.0) after a.1) (list_head x body a.0 f)

pub flow_finite : (code : Code) (after : Symbols) → IsFinite after → IsFinite (Flow code after)
flow_finite Finish after a = a
flow_finite (Move x e rest) after a = back_finite (store_step x e) (Flow rest after) (flow_finite rest after a)
flow_finite (Ask at p x c rest) after a =
    both_finite (λ s. s ≡ symbol_of c) (RepliedBack x (Flow rest after)) (one_finite (symbol_of c)) (replied_finite x (Flow rest after) (flow_finite rest after a))
flow_finite (Fork at p q test a b rest) after f =
    let r = flow_finite rest after f in
    both_finite (Flow a (Flow rest after)) (Flow b (Flow rest after)) (flow_finite a (Flow rest after) r) (flow_finite b (Flow rest after) r)
flow_finite (Loop at p n x body rest) after a = head_finite x body (Flow rest after) (flow_finite rest after a) (λ X. flow_finite body (Contains X) (members_of X))
flow_finite (Quit es rest) after a = none_finite

pub point_finite : (code : Code) (i : ℕ) (after : Symbols) → IsFinite after → IsFinite (FlowPoint code i after)
point_finite Finish i after f = none_finite
point_finite (Move x e rest) i after f = point_finite rest i after f
point_finite (Ask at p x c rest) i after f =
    both_finite (λ s. (i ≡ p) × Flow rest after s) (FlowPoint rest i after) (when_finite i p (Flow rest after) (flow_finite rest after f)) (point_finite rest i after f)
point_finite (Fork at p q test a b rest) i after f =
    let A = Flow rest after in
    let r = flow_finite rest after f in
    let last = both_finite (FlowPoint b i A) (FlowPoint rest i after) (point_finite b i A r) (point_finite rest i after f) in
    let inner = both_finite (FlowPoint a i A) (λ s. FlowPoint b i A s ⊎ FlowPoint rest i after s) (point_finite a i A r) last in
    let second = both_finite (λ s. (i ≡ q) × Flow b A s) (λ s. FlowPoint a i A s ⊎ (FlowPoint b i A s ⊎ FlowPoint rest i after s)) (when_finite i q (Flow b A) (flow_finite b A r)) inner in
    both_finite (λ s. (i ≡ p) × Flow a A s) (λ s. ((i ≡ q) × Flow b A s) ⊎ (FlowPoint a i A s ⊎ (FlowPoint b i A s ⊎ FlowPoint rest i after s))) (when_finite i p (Flow a A) (flow_finite a A r)) second
point_finite (Loop at p n x body rest) i after f =
    let A = Flow rest after in
    let r = flow_finite rest after f in
    let head = head_finite x body A r (λ X. flow_finite body (Contains X) (members_of X)) in
    let last = both_finite (FlowPoint body i (Head x body A)) (FlowPoint rest i after) (point_finite body i (Head x body A) head) (point_finite rest i after f) in
    both_finite (λ s. (i ≡ p) × A s) (λ s. FlowPoint body i (Head x body A) s ⊎ FlowPoint rest i after s) (when_finite i p A r) last
point_finite (Quit es rest) i after f = point_finite rest i after f
