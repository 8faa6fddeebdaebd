-- The first handler that may do too much is the first fault of what handlers may do.
use Rattle.std.proofs.Common.{◌≡◌, ℕ, suc, zero, ◌+◌, ◌<◌, nat_lt, ◌⊎◌, inl, inr, List, [], ◌∷◌, ◌++◌, length, map, get_or, drop, slice_index_or, Some, None, refl, sym, ap, ◌∙◌, subst, arith}
use Rattle.std.proofs.lemmas.List.{drop_more, map-append}
use Rattle.std.proofs.lemmas.Bool.{ltb-true, lt-ltb}
use Rattle.std.specs.List.{AllZip, AllByRecursion, Contains, flat_map}
use Rattle.syntax_trees.specs.declared.file.File.{File}
use Rattle.syntax_trees.specs.declared.file.Handler.{Handler}
use Rattle.check_meaning.specs.declared.tree.CheckedHandler.{CheckedHandler}
use Rattle.check_meaning.specs.Bounds.{calls_bound, work_bound}
use Rattle.check_meaning.specs.Code.{Code}
use Rattle.handler_check.specs.declared.refusal.CheckRefusal.{CheckRefusal}
use Rattle.handler_check.specs.declared.refusal.CheckRefusal.TheVariants.{Twice, Unknown, Arity, WrongTable, RepeatBound, TooManyTables, TooManyHandlers, TooManyVariables, TooManyCalls, TooMuchWork, NoMemory}
use Rattle.handler_check.specs.FirstFault.{place, number, IsNoLater, KeepsRules}
use Rattle.syntax_trees.specs.Rising.{AreRising, PlacesRise}
use Rattle.syntax_trees.specs.Marks.{Mark, Declared, mark_at, handler_marks, table_marks}
use Rattle.handler_check.specs.Rules.{IsBroken}
use Rattle.handler_check.specs.Scan.{Fault, or_else, fault_if, file_fault}
use Rattle.handler_check.proofs.Finds.{Faults, Finds, finds_same, finds_both, finds_if}
use Rattle.handler_check.proofs.Files.{all_first, rising_parts, finds_file}
use Rattle.handler_check.proofs.Firsts.{one_first}
use Rattle.handler_check.specs.Checking.{IsAccepted, IsBeyond, IsRefusal}
use Rattle.handler_check.specs.Excess.{code_excess, own_excess, excess}
use Rattle.handler_check.specs.Resolved.{IsResolved, table_names, handler_code}
use Rattle.handler_check.proofs.Scans.{or_none, or_assoc}

abbrev OwnBeyond : Code → ℕ → Faults
OwnBeyond code at g = ((10000 < calls_bound code) × (g ≡ TooManyCalls at)) ⊎ ((100000 < work_bound code) × (g ≡ TooMuchWork at))

in_order : (at : ℕ) (g k : CheckRefusal) → g ≡ TooManyCalls at → k ≡ TooMuchWork at → IsNoLater g k
in_order at g k e f =
    let a : place g ≡ at = ap place e in
    let b : place k ≡ at = ap place f in
    let c : number g ≡ 9 = ap number e in
    let d : number k ≡ 10 = ap number f in
    inr (a ∙ sym b, omega arith)

finds_own : (code : Code) (at : ℕ) → Finds (code_excess code at) (OwnBeyond code at)
finds_own code at =
    finds_both (fault_if (nat_lt 10000 (calls_bound code)) (TooManyCalls at)) (fault_if (nat_lt 100000 (work_bound code)) (TooMuchWork at)) (λ g. (10000 < calls_bound code) × (g ≡ TooManyCalls at)) (λ g. (100000 < work_bound code) × (g ≡ TooMuchWork at))
    (λ g k b c. in_order at g k b.1 c.1)
    (finds_if (nat_lt 10000 (calls_bound code)) (10000 < calls_bound code) (TooManyCalls at) (ltb-true 10000 (calls_bound code)) (lt-ltb 10000 (calls_bound code)))
    (finds_if (nat_lt 100000 (work_bound code)) (100000 < work_bound code) (TooMuchWork at) (ltb-true 100000 (work_bound code)) (lt-ltb 100000 (work_bound code)))

own_place : (code : Code) (at : ℕ) (g : CheckRefusal) → OwnBeyond code at g → place g ≡ at
own_place code at g b = elim b [ inl h ↦ ap place h.1 | inr h ↦ ap place h.1 ]

module _ (f : File) where
  abbrev BeyondFrom : List Handler → Faults
  BeyondFrom [] g = ⊥
  BeyondFrom (h ∷ hs) g = OwnBeyond (handler_code f h) h.at g ⊎ BeyondFrom hs g

  abbrev places_of : List Handler → List ℕ
  places_of hs = map (λ (h : Handler). h.at) hs

  beyond_above : (P : ℕ → Type 0) (hs : List Handler) (g : CheckRefusal) → AllByRecursion P (places_of hs) → BeyondFrom hs g → P (place g)
  beyond_above P [] g a b = absurd b
  beyond_above P (h ∷ hs) g a b = elim b [ inl c ↦ subst P (sym (own_place (handler_code f h) h.at g c)) a.0 | inr c ↦ beyond_above P hs g a.1 c ]

  -- the first handler that may do too much
  abbrev handlers_excess : List Handler → Fault
  handlers_excess [] = None
  handlers_excess (h ∷ hs) = or_else (code_excess (handler_code f h) h.at) (handlers_excess hs)

  finds_excess : (hs : List Handler) → AreRising (places_of hs) → Finds (handlers_excess hs) (BeyondFrom hs)
  finds_excess [] r = λ g b. b
  finds_excess (h ∷ hs) r =
      finds_both (code_excess (handler_code f h) h.at) (handlers_excess hs) (OwnBeyond (handler_code f h) h.at) (BeyondFrom hs)
      (λ g k b d. inl (subst (λ (n : ℕ). n < place k) (sym (own_place (handler_code f h) h.at g b)) (beyond_above (λ (m : ℕ). h.at < m) hs k r.0 d)))
      (finds_own (handler_code f h) h.at)
      (finds_excess hs r.1)

  same_own : (h : Handler) (c : CheckedHandler) → IsResolved (table_names f) h c → own_excess c ≡ code_excess (handler_code f h) h.at
  same_own h c r = ap (λ (x : Code). code_excess x c.at) r.body ∙ ap (code_excess (handler_code f h)) r.at

  same_excess : (hs : List Handler) (cs : List CheckedHandler) → AllZip (IsResolved (table_names f)) hs cs → excess cs ≡ handlers_excess hs
  same_excess [] [] z = refl
  same_excess [] (c ∷ cs) z = absurd z
  same_excess (h ∷ hs) [] z = absurd z
  same_excess (h ∷ hs) (c ∷ cs) z = ap (λ (w : Fault). or_else w (excess cs)) (same_own h c z.0) ∙ ap (or_else (code_excess (handler_code f h) h.at)) (same_excess hs cs z.1)

  -- ---- as conditions on the file
  abbrev Some_of : List Handler → Faults
  Some_of hs g = (h : Handler) × Contains hs h × OwnBeyond (handler_code f h) h.at g

  some_from : (hs : List Handler) (g : CheckRefusal) → BeyondFrom hs g → Some_of hs g
  some_from [] g b = absurd b
  some_from (x ∷ hs) g b = elim b [
    | inl c ↦ (x, (0, omega arith, refl), c)
    | inr c ↦ (let d = some_from hs g c in (d.0, (suc d.1.0, (let l = d.1.1 in omega arith), d.1.2), d.2))
  ]

  from_some : (hs : List Handler) (g : CheckRefusal) (h : Handler) (k : ℕ) → k < length hs → slice_index_or hs k h ≡ h → OwnBeyond (handler_code f h) h.at g → BeyondFrom hs g
  from_some [] g h k l e b = absurd (omega arith)
  from_some (x ∷ hs) g h zero l e b = inl (subst (λ (z : Handler). OwnBeyond (handler_code f z) z.at g) (sym e) b)
  from_some (x ∷ hs) g h (suc k) l e b = inr (from_some hs g h k (omega arith) e b)

  to_beyond : (g : CheckRefusal) → BeyondFrom f.handlers g → IsBeyond f g
  to_beyond g b =
      let d = some_from f.handlers g b in
      elim d.2 [ inl c ↦ subst (IsBeyond f) (sym c.1) (d.0, d.1, refl, c.0) | inr c ↦ subst (IsBeyond f) (sym c.1) (d.0, d.1, refl, c.0) ]

  from_beyond : (g : CheckRefusal) → IsBeyond f g → BeyondFrom f.handlers g
  from_beyond (TooManyCalls at) b = from_some f.handlers (TooManyCalls at) b.0 b.1.0 b.1.1 b.1.2 (inl (b.3, ap (λ (p : ℕ). TooManyCalls p) (sym b.2)))
  from_beyond (TooMuchWork at) b = from_some f.handlers (TooMuchWork at) b.0 b.1.0 b.1.1 b.1.2 (inr (b.3, ap (λ (p : ℕ). TooMuchWork p) (sym b.2)))
  from_beyond (Twice at) b = absurd b
  from_beyond (Unknown at) b = absurd b
  from_beyond (Arity at) b = absurd b
  from_beyond (WrongTable at) b = absurd b
  from_beyond (RepeatBound at) b = absurd b
  from_beyond (TooManyTables at) b = absurd b
  from_beyond (TooManyHandlers at) b = absurd b
  from_beyond (TooManyVariables at) b = absurd b
  from_beyond NoMemory b = absurd b

-- ---- the names of handlers rise
abbrev marks_of : List Handler → List Mark
marks_of hs = flat_map (λ (h : Handler). Declared h.name h.at ∷ handler_marks h) hs

all_names : (P : ℕ → Type 0) (hs : List Handler) → AllByRecursion P (map mark_at (marks_of hs)) → AllByRecursion P (map (λ (h : Handler). h.at) hs)
all_names P [] a = tt
all_names P (h ∷ hs) a = (a.0, all_names P hs (all_first P (map mark_at (handler_marks h)) (map mark_at (marks_of hs)) (subst (AllByRecursion P) (map-append mark_at (handler_marks h) (marks_of hs)) a.1)).1)

names_rise : (hs : List Handler) → AreRising (map mark_at (marks_of hs)) → AreRising (map (λ (h : Handler). h.at) hs)
names_rise [] r = tt
names_rise (h ∷ hs) r =
    let inner : List ℕ = map mark_at (handler_marks h) in
    let outer : List ℕ = map mark_at (marks_of hs) in
    let both : map mark_at (handler_marks h ++ marks_of hs) ≡ inner ++ outer = map-append mark_at (handler_marks h) (marks_of hs) in
    (all_names (λ (m : ℕ). h.at < m) hs (all_first (λ (m : ℕ). h.at < m) inner outer (subst (AllByRecursion (λ (m : ℕ). h.at < m)) both r.0)).1, names_rise hs (rising_parts inner outer (subst AreRising both r.1)).2)

finds_first : (f : File) → PlacesRise f → Finds (handlers_excess f f.handlers) (IsBeyond f)
finds_first f rise =
    let tables : List ℕ = map mark_at (table_marks f.tables) in
    let outer : List ℕ = map mark_at (marks_of f.handlers) in
    let parts = rising_parts tables outer (subst AreRising (map-append mark_at (table_marks f.tables) (marks_of f.handlers)) rise) in
    finds_same (handlers_excess f f.handlers) (BeyondFrom f f.handlers) (IsBeyond f) (to_beyond f) (from_beyond f) (finds_excess f f.handlers (names_rise f.handlers parts.2))

finds_beyond : (f : File) (cs : List CheckedHandler) → PlacesRise f → AllZip (IsResolved (table_names f)) f.handlers cs → Finds (excess cs) (IsBeyond f)
finds_beyond f cs rise z = subst (λ (w : Fault). Finds w (IsBeyond f)) (sym (same_excess f f.handlers cs z)) (finds_first f rise)

-- ---- an answer for each file
pub some_answer : (f : File) → PlacesRise f → IsAccepted f ⊎ ((e : CheckRefusal) × IsRefusal f e)
some_answer f rise = rules (file_fault f) (finds_file f rise)
  where
    excesses : KeepsRules f → (w : Fault) → Finds w (IsBeyond f) → IsAccepted f ⊎ ((e : CheckRefusal) × IsRefusal f e)
    excesses keeps None h = inl (record { keeps = keeps; within = h })
    excesses keeps (Some e) h = inr (e, inr (keeps, h))

    rules : (w : Fault) → Finds w (IsBroken f) → IsAccepted f ⊎ ((e : CheckRefusal) × IsRefusal f e)
    rules None h = excesses h (handlers_excess f f.handlers) (finds_first f rise)
    rules (Some e) h = inr (e, inl h)

-- want of memory is no refusal
pub never_memory : (f : File) → IsRefusal f NoMemory → ⊥
never_memory f h = elim h [ inl a ↦ a.is_broken | inr b ↦ (let first = b.1 in first.is_broken) ]

pub one_answer : (f : File) (e g : CheckRefusal) → IsRefusal f e → IsRefusal f g → e ≡ g
one_answer f e g h k = elim h [
  | inl a ↦ elim k [ inl b ↦ one_first (IsBroken f) e g a b | inr b ↦ absurd (b.0 e a.is_broken) ]
  | inr a ↦ elim k [ inl b ↦ absurd (a.0 g b.is_broken) | inr b ↦ one_first (IsBeyond f) e g a.1 b.1 ]
]

pub not_both : (f : File) (e : CheckRefusal) → IsRefusal f e → IsAccepted f → ⊥
not_both f e h k = elim h [ inl a ↦ k.keeps e a.is_broken | inr a ↦ (let first = a.1 in k.within e first.is_broken) ]

-- ---- one turn of the walk
pub excess_turn : (cs : List CheckedHandler) (i : ℕ) (c d : CheckedHandler) → i < length cs → c ≡ get_or cs i d → excess (drop i cs) ≡ or_else (own_excess c) (excess (drop (i + 1) cs))
excess_turn cs i c d h is = ap excess (drop_more cs i d h) ∙ ap (λ (x : CheckedHandler). or_else (own_excess x) (excess (drop (i + 1) cs))) (sym is)

-- one more handler behind these
pub excess_push : (cs : List CheckedHandler) (c : CheckedHandler) → excess (cs ++ c ∷ []) ≡ or_else (excess cs) (own_excess c)
excess_push [] c = or_none (own_excess c)
excess_push (x ∷ cs) c = ap (or_else (own_excess x)) (excess_push cs c) ∙ sym (or_assoc (own_excess x) (excess cs) (own_excess c))

-- ---- what the walk's answer means
pub refused_by : (f : File) (cs seen : List CheckedHandler) (e : CheckRefusal) → PlacesRise f → AllZip (IsResolved (table_names f)) f.handlers cs → seen ≡ cs → KeepsRules f → excess seen ≡ Some e → IsRefusal f e
refused_by f cs seen e rise z same keeps found =
    inr (keeps, subst (λ (w : Fault). Finds w (IsBeyond f)) (sym (ap excess same) ∙ found) (finds_beyond f cs rise z))

pub accepted_by : (f : File) (cs seen : List CheckedHandler) → PlacesRise f → AllZip (IsResolved (table_names f)) f.handlers cs → seen ≡ cs → KeepsRules f → excess seen ≡ None → IsAccepted f
accepted_by f cs seen rise z same keeps found = record {
  keeps = keeps;
  within = subst (λ (w : Fault). Finds w (IsBeyond f)) (sym (ap excess same) ∙ found) (finds_beyond f cs rise z);
}
