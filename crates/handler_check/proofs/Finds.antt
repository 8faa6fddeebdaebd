-- What a walk finds: the first of some faults.
use Rattle.std.proofs.Common.{◌≡◌, ℕ, suc, zero, ◌<◌, ◌≤◌, ◌==◌, Bool, true, false, ◌||◌, nat_lt, ◌⊎◌, inl, inr, if◌then◌else◌, List, [], ◌∷◌, ◌++◌, length, map, slice_index_or, Option, Some, None, refl, sym, ap, ◌∙◌, subst, arith}
use Rattle.std.proofs.lemmas.Bool.{or_cases, or_left, or_right, both_ways, eq-eqb, eqb-true}
use Rattle.std.proofs.lemmas.Bool.Decides.{nat_tests}
use Rattle.std.specs.List.{Contains, AllByRecursion}
use Rattle.session_values.specs.declared.kind.Kind.{Kind}
use Rattle.session_values.specs.declared.kind.TableKind.{TableKind}
use Rattle.session_values.specs.declared.kind.TableKind.TheVariants.{Map, Set}
use Rattle.session_values.specs.Kinds.{arguments, home}
use Rattle.syntax_trees.specs.declared.file.TableDecl.{TableDecl}
use Rattle.handler_check.specs.declared.refusal.CheckRefusal.{CheckRefusal}
use Rattle.handler_check.specs.declared.refusal.CheckRefusal.TheVariants.{Twice, Unknown, Arity, WrongTable, RepeatBound}
use Rattle.syntax_trees.specs.Marks.{Mark, Declared, Mentioned, Operation, OnTable, Turns, mark_at, declared, sees}
use Rattle.handler_check.specs.Rules.{kind_of}
use Rattle.handler_check.specs.FirstFault.{place, number, IsNoLater, IsFirst}
use Rattle.syntax_trees.specs.Rising.{AreRising}
use Rattle.handler_check.specs.Scan.{Fault, or_else, fault_if, is_among, is_same_kind, found_fault, Limit, mark_fault, scan}

abbrev pub Faults : Type 1
Faults = CheckRefusal → Type 0

-- it is the first of these faults, and none where there is none
abbrev pub Finds : Fault → Faults → Type 0
Finds None B = (g : CheckRefusal) → B g → ⊥
Finds (Some e) B = IsFirst B e

pub finds_same : (w : Fault) (B C : Faults) → ((g : CheckRefusal) → B g → C g) → ((g : CheckRefusal) → C g → B g) → Finds w B → Finds w C
finds_same None B C to back h = λ g c. h g (back g c)
finds_same (Some e) B C to back h = record { is_broken = to e h.is_broken; least = λ g c. h.least g (back g c) }

pub finds_both : (w u : Fault) (B C : Faults) → ((g k : CheckRefusal) → B g → C k → IsNoLater g k) → Finds w B → Finds u C → Finds (or_else w u) (λ g. B g ⊎ C g)
finds_both None None B C o h k = λ g s. elim s [ inl b ↦ h g b | inr c ↦ k g c ]
finds_both None (Some e) B C o h k = record { is_broken = inr k.is_broken; least = λ g s. elim s [ inl b ↦ absurd (h g b) | inr c ↦ k.least g c ] }
finds_both (Some e) u B C o h k = record { is_broken = inl h.is_broken; least = λ g s. elim s [ inl b ↦ h.least g b | inr c ↦ o e g h.is_broken c ] }

-- a fault and itself
pub same_later : (e g : CheckRefusal) → g ≡ e → IsNoLater e g
same_later e g is = inr (ap place (sym is), subst (λ (z : CheckRefusal). number e ≤ number z) (sym is) (omega arith))

-- ---- one test
pub finds_if : (b : Bool) (P : Type 0) (e : CheckRefusal) → (b ≡ true → P) → (P → b ≡ true) → Finds (fault_if b e) (λ g. P × (g ≡ e))
finds_if true P e to back = record { is_broken = (to refl, refl); least = λ g s. same_later e g s.1 }
finds_if false P e to back = λ g s. (let never : false ≡ true = back s.0 in cc)

pub finds_unless : (b : Bool) (P : Type 0) (e : CheckRefusal) → (b ≡ true → P → ⊥) → (b ≡ false → P) → Finds (if b then None else Some e) (λ g. P × (g ≡ e))
finds_unless true P e bad good = λ g s. bad refl s.0
finds_unless false P e bad good = record { is_broken = (good refl, refl); least = λ g s. same_later e g s.1 }

-- ---- names
pub among_in : (ns : List ℕ) (n : ℕ) → is_among ns n ≡ true → Contains ns n
among_in [] n e = cc
among_in (y ∷ ys) n e = elim (or_cases (y == n) (is_among ys n) e) [
  | inl h ↦ (0, omega arith, eqb-true y n h)
  | inr h ↦ (let k = among_in ys n h in (suc k.0, (let l = k.1 in omega arith), k.2))
]

in_at : (ns : List ℕ) (n k : ℕ) → k < length ns → slice_index_or ns k n ≡ n → is_among ns n ≡ true
in_at [] n k h e = absurd (omega arith)
in_at (y ∷ ys) n zero h e = or_left (y == n) (is_among ys n) (eq-eqb y n e)
in_at (y ∷ ys) n (suc k) h e = or_right (y == n) (is_among ys n) (in_at ys n k (omega arith) e)

pub in_among : (ns : List ℕ) (n : ℕ) → Contains ns n → is_among ns n ≡ true
in_among ns n h = in_at ns n h.0 h.1 h.2

-- ---- the faults of one mark, behind these names
abbrev pub Breaks : Limit → List TableDecl → List ℕ → Mark → Faults
Breaks l tables earlier (Declared name at) g = (Contains earlier name × (g ≡ Twice at)) ⊎ ((length earlier ≡ l.limit) × (g ≡ l.past at))
Breaks l tables earlier (Mentioned name at visible) g = (Contains visible name → ⊥) × (g ≡ Unknown at)
Breaks l tables earlier (Operation kind count at) g = (count ≡ arguments kind → ⊥) × (g ≡ Arity at)
Breaks l tables earlier (OnTable kind name at) g = ((kind_of tables name ≡ None) × (g ≡ Unknown at)) ⊎ (((found : TableKind) × (kind_of tables name ≡ Some found) × (found ≡ home kind → ⊥)) × (g ≡ WrongTable at))
Breaks l tables earlier (Turns n at) g = ((n ≡ 0) ⊎ (1000 < n)) × (g ≡ RepeatBound at)

-- the refusal of a limit stands at the declaration, and comes behind that of a name declared twice
pub record IsFair (l : Limit) : Type 0 where
  pub here : (at : ℕ) → place (l.past at) ≡ at
  pub behind : (at : ℕ) → 1 ≤ number (l.past at)

pub kind_true : (a b : TableKind) → is_same_kind a b ≡ true → a ≡ b
kind_true Map Map e = refl
kind_true Set Set e = refl
kind_true Map Set e = cc
kind_true Set Map e = cc

pub kind_false : (a b : TableKind) → is_same_kind a b ≡ false → a ≡ b → ⊥
kind_false Map Map e h = cc
kind_false Set Set e h = cc
kind_false Map Set e h = cc
kind_false Set Map e h = cc

finds_found : (o : Option TableKind) (kind : Kind) (at : ℕ) → Finds (found_fault o kind at) (λ g. ((o ≡ None) × (g ≡ Unknown at)) ⊎ (((found : TableKind) × (o ≡ Some found) × (found ≡ home kind → ⊥)) × (g ≡ WrongTable at)))
finds_found None kind at = record {
  is_broken = inl (refl, refl);
  least = λ g s. elim s [ inl h ↦ same_later (Unknown at) g h.1 | inr h ↦ (let never : ◌≡◌ {A = Option TableKind} None (Some h.0.0) = h.0.1 in cc) ];
}
finds_found (Some k) kind at =
    finds_same (if is_same_kind k (home kind) then None else Some (WrongTable at)) (λ g. (k ≡ home kind → ⊥) × (g ≡ WrongTable at)) _ (λ g h. inr ((k, refl, h.0), h.1)) (λ g s. elim s [
      | inl h ↦ (let never : Some k ≡ None = h.0 in cc)
      | inr h ↦ (let is : k ≡ h.0.0 = (let e : Some k ≡ Some h.0.0 = h.0.1 in cc) in (λ j. h.0.2 (sym is ∙ j), h.1))
    ])
    (finds_unless (is_same_kind k (home kind)) (k ≡ home kind → ⊥) (WrongTable at) (λ t never. never (kind_true k (home kind) t)) (λ f. kind_false k (home kind) f))

turns_true : (n : ℕ) → ((n == 0) || nat_lt 1000 n) ≡ true → (n ≡ 0) ⊎ (1000 < n)
turns_true n e = elim (or_cases (n == 0) (nat_lt 1000 n) e) [ inl h ↦ inl (eqb-true n 0 h) | inr h ↦ inr (above n h) ]
  where
    above : (n : ℕ) → nat_lt 1000 n ≡ true → 1000 < n
    above n h = grind (arith, nat_tests)

true_turns : (n : ℕ) → (n ≡ 0) ⊎ (1000 < n) → ((n == 0) || nat_lt 1000 n) ≡ true
true_turns n s = elim s [ inl h ↦ or_left (n == 0) (nat_lt 1000 n) (eq-eqb n 0 h) | inr h ↦ or_right (n == 0) (nat_lt 1000 n) (above n h) ]
  where
    above : (n : ℕ) → 1000 < n → nat_lt 1000 n ≡ true
    above n h = grind (arith, nat_tests)

declared_order : (l : Limit) → IsFair l → (at : ℕ) (g k : CheckRefusal) → g ≡ Twice at → k ≡ l.past at → IsNoLater g k
declared_order l fair at g k e f =
    let here : place k ≡ at = ap place f ∙ fair.here at in
    let behind : 1 ≤ number k = subst (λ (z : CheckRefusal). 1 ≤ number z) (sym f) (fair.behind at) in
    let first : place g ≡ at = ap place e in
    let one : number g ≡ 1 = ap number e in
    inr (first ∙ sym here, omega arith)

pub finds_mark : (l : Limit) → IsFair l → (tables : List TableDecl) (earlier : List ℕ) (m : Mark) → Finds (mark_fault l tables earlier m) (Breaks l tables earlier m)
finds_mark l fair tables earlier (Declared name at) =
    finds_both (fault_if (is_among earlier name) (Twice at)) (fault_if (length earlier == l.limit) (l.past at)) (λ g. Contains earlier name × (g ≡ Twice at)) (λ g. (length earlier ≡ l.limit) × (g ≡ l.past at))
    (λ g k b c. declared_order l fair at g k b.1 c.1)
    (finds_if (is_among earlier name) (Contains earlier name) (Twice at) (among_in earlier name) (in_among earlier name))
    (finds_if (length earlier == l.limit) (length earlier ≡ l.limit) (l.past at) (eqb-true (length earlier) l.limit) (eq-eqb (length earlier) l.limit))
finds_mark l fair tables earlier (Mentioned name at visible) =
    finds_unless (is_among visible name) (Contains visible name → ⊥) (Unknown at) (λ t never. never (among_in visible name t)) (λ f h. both_ways (is_among visible name) f (in_among visible name h))
finds_mark l fair tables earlier (Operation kind count at) =
    finds_unless (count == arguments kind) (count ≡ arguments kind → ⊥) (Arity at) (λ t never. never (eqb-true count (arguments kind) t)) (λ f h. both_ways (count == arguments kind) f (eq-eqb count (arguments kind) h))
finds_mark l fair tables earlier (OnTable kind name at) = finds_found (kind_of tables name) kind at
finds_mark l fair tables earlier (Turns n at) = finds_if ((n == 0) || nat_lt 1000 n) ((n ≡ 0) ⊎ (1000 < n)) (RepeatBound at) (turns_true n) (true_turns n)

-- they stand at the mark's place
pub stands_at : (l : Limit) → IsFair l → (tables : List TableDecl) (earlier : List ℕ) (m : Mark) (g : CheckRefusal) → Breaks l tables earlier m g → place g ≡ mark_at m
stands_at l fair tables earlier (Declared name at) g b = elim b [ inl h ↦ ap place h.1 | inr h ↦ ap place h.1 ∙ fair.here at ]
stands_at l fair tables earlier (Mentioned name at visible) g b = ap place b.1
stands_at l fair tables earlier (Operation kind count at) g b = ap place b.1
stands_at l fair tables earlier (OnTable kind name at) g b = elim b [ inl h ↦ ap place h.1 | inr h ↦ ap place h.1 ]
stands_at l fair tables earlier (Turns n at) g b = ap place b.1

-- ---- the faults of marks behind these names
abbrev pub BrokenFrom : Limit → List TableDecl → List ℕ → List Mark → Faults
BrokenFrom l tables earlier [] g = ⊥
BrokenFrom l tables earlier (m ∷ ms) g = Breaks l tables earlier m g ⊎ BrokenFrom l tables (earlier ++ declared (m ∷ [])) ms g

pub sees_none : (m : Mark) → sees [] m ≡ m
sees_none (Declared name at) = refl
sees_none (Mentioned name at visible) = refl
sees_none (Operation kind count at) = refl
sees_none (OnTable kind name at) = refl
sees_none (Turns n at) = refl

-- they stand where these marks stand
pub above_all : (l : Limit) → IsFair l → (tables : List TableDecl) (P : ℕ → Type 0) (ms : List Mark) (earlier : List ℕ) (g : CheckRefusal) → AllByRecursion P (map mark_at ms) → BrokenFrom l tables earlier ms g → P (place g)
above_all l fair tables P [] earlier g h b = absurd b
above_all l fair tables P (m ∷ ms) earlier g h b = elim b [
  | inl c ↦ subst P (sym (stands_at l fair tables earlier m g c)) h.0
  | inr c ↦ above_all l fair tables P ms (earlier ++ declared (m ∷ [])) g h.1 c
]

pub finds_scan : (l : Limit) → IsFair l → (tables : List TableDecl) (ms : List Mark) (earlier : List ℕ) → AreRising (map mark_at ms) → Finds (scan l tables earlier [] ms) (BrokenFrom l tables earlier ms)
finds_scan l fair tables [] earlier r = λ g b. b
finds_scan l fair tables (m ∷ ms) earlier r =
    finds_both (mark_fault l tables earlier (sees [] m)) (scan l tables (earlier ++ declared (m ∷ [])) [] ms) (Breaks l tables earlier m) (BrokenFrom l tables (earlier ++ declared (m ∷ [])) ms)
    (λ g k b c. inl (subst (λ (n : ℕ). n < place k) (sym (stands_at l fair tables earlier m g b)) (above_all l fair tables (λ (n : ℕ). mark_at m < n) ms (earlier ++ declared (m ∷ [])) k r.0 c)))
    (subst (λ (x : Mark). Finds (mark_fault l tables earlier x) (Breaks l tables earlier m)) (sym (sees_none m)) (finds_mark l fair tables earlier m))
    (finds_scan l fair tables ms (earlier ++ declared (m ∷ [])) r.1)
