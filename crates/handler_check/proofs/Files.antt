-- The faults of a file, text by text, and the rules that are broken in it.
use Rattle.std.proofs.Common.{◌≡◌, ℕ, suc, zero, ◌<◌, ◌⊎◌, inl, inr, List, [], ◌∷◌, ◌++◌, length, map, slice_index_or, refl, sym, subst, arith}
use Rattle.std.proofs.lemmas.List.{map-append}
use Rattle.std.specs.List.{Contains, AllByRecursion, flat_map}
use Rattle.syntax_trees.specs.declared.file.File.{File}
use Rattle.syntax_trees.specs.declared.file.Handler.{Handler}
use Rattle.syntax_trees.specs.declared.file.TableDecl.{TableDecl}
use Rattle.handler_check.specs.declared.refusal.CheckRefusal.{CheckRefusal}
use Rattle.handler_check.specs.declared.refusal.CheckRefusal.TheVariants.{Twice, Unknown, Arity, WrongTable, RepeatBound, TooManyTables, TooManyHandlers, TooManyVariables, TooManyCalls, TooMuchWork, NoMemory}
use Rattle.syntax_trees.specs.Marks.{Mark, Declared, mark_at, handler_marks, table_marks, name_marks}
use Rattle.handler_check.specs.Rules.{IsBroken, InHandler, IsPast}
use Rattle.handler_check.specs.FirstFault.{place}
use Rattle.syntax_trees.specs.Rising.{AreRising, PlacesRise}
use Rattle.handler_check.specs.Scan.{or_else, declared_fault, Limit, of_tables, of_handlers, of_variables, scan, scan_handlers, file_fault}
use Rattle.handler_check.proofs.Finds.{Faults, Finds, finds_same, finds_both, Breaks, BrokenFrom, IsFair, above_all, finds_scan, finds_mark, stands_at}
use Rattle.handler_check.proofs.Texts.{Rule, rule_from, from_rule}

fair_tables : IsFair of_tables
fair_tables = record { here = λ at. refl; behind = λ at. omega arith }

fair_handlers : IsFair of_handlers
fair_handlers = record { here = λ at. refl; behind = λ at. omega arith }

fair_variables : IsFair of_variables
fair_variables = record { here = λ at. refl; behind = λ at. omega arith }

-- ---- rising places
pub all_first : (P : ℕ → Type 0) (xs ys : List ℕ) → AllByRecursion P (xs ++ ys) → AllByRecursion P xs × AllByRecursion P ys
all_first P [] ys h = (tt, h)
all_first P (x ∷ xs) ys h = (let k = all_first P xs ys h.1 in ((h.0, k.0), k.1))

-- each is below a bound that is below all of the second list
abbrev pub BelowAll : List ℕ → ℕ → Type 0
BelowAll ys x = AllByRecursion (λ (y : ℕ). x < y) ys

pub rising_parts : (xs ys : List ℕ) → AreRising (xs ++ ys) → AreRising xs × AllByRecursion (BelowAll ys) xs × AreRising ys
rising_parts [] ys h = (tt, tt, h)
rising_parts (x ∷ xs) ys h =
    let k = rising_parts xs ys h.1 in
    let p = all_first (λ (m : ℕ). x < m) xs ys h.0 in
    ((p.0, k.0), (p.1, k.1), k.2)

-- ---- handlers
abbrev marks_of : List Handler → List Mark
marks_of hs = flat_map (λ (h : Handler). Declared h.name h.at ∷ handler_marks h) hs

module _ (tables : List TableDecl) where
  -- what is broken in handlers behind these names
  abbrev HandlersBroken : List ℕ → List Handler → Faults
  HandlersBroken earlier [] g = ⊥
  HandlersBroken earlier (h ∷ hs) g = Breaks of_handlers tables earlier (Declared h.name h.at) g ⊎ (BrokenFrom of_variables tables [] (handler_marks h) g ⊎ HandlersBroken (earlier ++ h.name ∷ []) hs g)

  handlers_above : (P : ℕ → Type 0) (hs : List Handler) (earlier : List ℕ) (g : CheckRefusal) → AllByRecursion P (map mark_at (marks_of hs)) → HandlersBroken earlier hs g → P (place g)
  handlers_above P [] earlier g h b = absurd b
  handlers_above P (x ∷ hs) earlier g h b =
      let parts = all_first P (map mark_at (handler_marks x)) (map mark_at (marks_of hs)) (subst (AllByRecursion P) (map-append mark_at (handler_marks x) (marks_of hs)) h.1) in
      elim b [
        | inl c ↦ subst P (sym (stands_at of_handlers fair_handlers tables earlier (Declared x.name x.at) g c)) h.0
        | inr s ↦ elim s [ inl c ↦ above_all of_variables fair_variables tables P (handler_marks x) [] g parts.0 c | inr c ↦ handlers_above P hs (earlier ++ x.name ∷ []) g parts.1 c ]
      ]

  rest_above : (P : ℕ → Type 0) (x : Handler) (hs : List Handler) (earlier : List ℕ) (g : CheckRefusal) → AllByRecursion P (map mark_at (handler_marks x ++ marks_of hs)) → BrokenFrom of_variables tables [] (handler_marks x) g ⊎ HandlersBroken earlier hs g → P (place g)
  rest_above P x hs earlier g h b =
      let parts = all_first P (map mark_at (handler_marks x)) (map mark_at (marks_of hs)) (subst (AllByRecursion P) (map-append mark_at (handler_marks x) (marks_of hs)) h) in
      elim b [ inl c ↦ above_all of_variables fair_variables tables P (handler_marks x) [] g parts.0 c | inr c ↦ handlers_above P hs earlier g parts.1 c ]

  finds_handlers : (hs : List Handler) (earlier : List ℕ) → AreRising (map mark_at (marks_of hs)) → Finds (scan_handlers tables earlier hs) (HandlersBroken earlier hs)
  finds_handlers [] earlier r = λ g b. b
  finds_handlers (x ∷ hs) earlier r =
      let inner = map mark_at (handler_marks x) in
      let outer = map mark_at (marks_of hs) in
      let rises : AreRising (inner ++ outer) = subst AreRising (map-append mark_at (handler_marks x) (marks_of hs)) r.1 in
      let parts = rising_parts inner outer rises in
      let more : List ℕ = earlier ++ x.name ∷ [] in
      finds_both (declared_fault of_handlers.limit of_handlers.past earlier x.name x.at) (or_else (scan of_variables tables [] [] (handler_marks x)) (scan_handlers tables more hs)) (Breaks of_handlers tables earlier (Declared x.name x.at))
      (λ g. BrokenFrom of_variables tables [] (handler_marks x) g ⊎ HandlersBroken more hs g)
      (λ g k b c. inl (subst (λ (n : ℕ). n < place k) (sym (stands_at of_handlers fair_handlers tables earlier (Declared x.name x.at) g b)) (rest_above (λ (m : ℕ). x.at < m) x hs more k r.0 c)))
      (finds_mark of_handlers fair_handlers tables earlier (Declared x.name x.at))
      (finds_both (scan of_variables tables [] [] (handler_marks x)) (scan_handlers tables more hs) (BrokenFrom of_variables tables [] (handler_marks x)) (HandlersBroken more hs)
      (λ g k b c. inl (handlers_above (λ (m : ℕ). place g < m) hs more k (above_all of_variables fair_variables tables (BelowAll outer) (handler_marks x) [] g parts.1 b) c))
      (finds_scan of_variables fair_variables tables (handler_marks x) [] parts.0)
      (finds_handlers hs more parts.2))

  -- ---- names of handlers, and their texts
  names_from : (hs : List Handler) (earlier : List ℕ) (g : CheckRefusal) → BrokenFrom of_handlers tables earlier (name_marks hs) g → HandlersBroken earlier hs g
  names_from [] earlier g b = absurd b
  names_from (x ∷ hs) earlier g b = elim b [ inl c ↦ inl c | inr c ↦ inr (inr (names_from hs (earlier ++ x.name ∷ []) g c)) ]

  text_from : (hs : List Handler) (earlier : List ℕ) (g : CheckRefusal) (h : Handler) (k : ℕ) → k < length hs → slice_index_or hs k h ≡ h → BrokenFrom of_variables tables [] (handler_marks h) g → HandlersBroken earlier hs g
  text_from [] earlier g h k l e b = absurd (omega arith)
  text_from (x ∷ hs) earlier g h zero l e b = inr (inl (subst (λ (z : Handler). BrokenFrom of_variables tables [] (handler_marks z) g) (sym e) b))
  text_from (x ∷ hs) earlier g h (suc k) l e b = inr (inr (text_from hs (earlier ++ x.name ∷ []) g h k (omega arith) e b))

  abbrev InText : List Handler → Faults
  InText hs g = (h : Handler) × Contains hs h × BrokenFrom of_variables tables [] (handler_marks h) g

  handlers_parts : (hs : List Handler) (earlier : List ℕ) (g : CheckRefusal) → HandlersBroken earlier hs g → BrokenFrom of_handlers tables earlier (name_marks hs) g ⊎ InText hs g
  handlers_parts [] earlier g b = absurd b
  handlers_parts (x ∷ hs) earlier g b = elim b [
    | inl c ↦ inl (inl c)
    | inr s ↦ elim s [
      | inl c ↦ inr (x, (0, omega arith, refl), c)
      | inr c ↦ elim (handlers_parts hs (earlier ++ x.name ∷ []) g c) [
        | inl d ↦ inl (inr d)
        | inr d ↦ inr (d.0, (suc d.1.0, (let l = d.1.1 in omega arith), d.1.2), d.2)
      ]
    ]
  ]

-- ---- declarations alone
-- a declaration's faults are two
abbrev IsName : Limit → Faults
IsName l g = ((at : ℕ) × (g ≡ Twice at)) ⊎ ((p : ℕ) × (g ≡ l.past p))

module _ {X : Type 0} (name at : X → ℕ) where
  names_only : (l : Limit) (tables : List TableDecl) (xs : List X) (earlier : List ℕ) (g : CheckRefusal) → BrokenFrom l tables earlier (map (λ x. Declared (name x) (at x)) xs) g → IsName l g
  names_only l tables [] earlier g b = absurd b
  names_only l tables (x ∷ xs) earlier g b = elim b [
    | inl s ↦ elim s [ inl h ↦ inl (at x, h.1) | inr h ↦ inr (at x, h.1) ]
    | inr c ↦ names_only l tables xs (earlier ++ name x ∷ []) g c
  ]

-- ---- a file
abbrev FileBroken : File → Faults
FileBroken f g = BrokenFrom of_tables [] [] (table_marks f.tables) g ⊎ HandlersBroken f.tables [] f.handlers g

tables_rule : (f : File) (g : CheckRefusal) → BrokenFrom of_tables [] [] (table_marks f.tables) g → IsBroken f g
tables_rule f g b =
    let text : List Mark = table_marks f.tables in
    let r : Rule of_tables [] text g = rule_from of_tables [] (λ t p h. (p, h, refl)) text g b in
    elim (names_only (λ (t : TableDecl). t.name) (λ (t : TableDecl). t.at) of_tables [] f.tables [] g b) [
      | inl n ↦ subst (IsBroken f) (sym n.1) (inl (subst (Rule of_tables [] text) n.1 r))
      | inr n ↦ subst (IsBroken f) (sym n.1) (past_is (λ p. TooManyTables p) (λ p q e. cc) 7 text n.0 (subst (Rule of_tables [] text) n.1 r))
    ]
  where
    past_is : (c : ℕ → CheckRefusal) → ((p q : ℕ) → c p ≡ c q → q ≡ p) → (limit : ℕ) (text : List Mark) (p : ℕ) → (q : ℕ) × IsPast limit text q × (c p ≡ c q) → IsPast limit text p
    past_is c one limit text p h = subst (IsPast limit text) (one p h.0 h.2) h.1

names_rule : (f : File) (g : CheckRefusal) → BrokenFrom of_handlers f.tables [] (name_marks f.handlers) g → IsBroken f g
names_rule f g b =
    let text : List Mark = name_marks f.handlers in
    let r : Rule of_handlers f.tables text g = rule_from of_handlers f.tables (λ t p h. (p, h, refl)) text g b in
    elim (names_only (λ (h : Handler). h.name) (λ (h : Handler). h.at) of_handlers f.tables f.handlers [] g b) [
      | inl n ↦ subst (IsBroken f) (sym n.1) (inr (inl (subst (Rule of_handlers f.tables text) n.1 r)))
      | inr n ↦ subst (IsBroken f) (sym n.1) (past_is (λ p. TooManyHandlers p) (λ p q e. cc) 64 text n.0 (subst (Rule of_handlers f.tables text) n.1 r))
    ]
  where
    past_is : (c : ℕ → CheckRefusal) → ((p q : ℕ) → c p ≡ c q → q ≡ p) → (limit : ℕ) (text : List Mark) (p : ℕ) → (q : ℕ) × IsPast limit text q × (c p ≡ c q) → IsPast limit text p
    past_is c one limit text p h = subst (IsPast limit text) (one p h.0 h.2) h.1

in_text : (f : File) (h : Handler) (g : CheckRefusal) → Contains f.handlers h → Rule of_variables f.tables (handler_marks h) g → IsBroken f g
in_text f h (Twice at) c r = inr (inr (h, c, r))
in_text f h (Unknown at) c r = (h, c, r)
in_text f h (Arity at) c r = (h, c, r)
in_text f h (WrongTable at) c r = (h, c, r)
in_text f h (RepeatBound at) c r = (h, c, r)
in_text f h (TooManyTables at) c r = (let never : TooManyTables at ≡ TooManyVariables r.0 = r.2 in cc)
in_text f h (TooManyHandlers at) c r = (let never : TooManyHandlers at ≡ TooManyVariables r.0 = r.2 in cc)
in_text f h (TooManyVariables at) c r = (let e : TooManyVariables at ≡ TooManyVariables r.0 = r.2 in let is : r.0 ≡ at = cc in (h, c, subst (IsPast 32 (handler_marks h)) is r.1))
in_text f h (TooManyCalls at) c r = r
in_text f h (TooMuchWork at) c r = r
in_text f h NoMemory c r = r

to_rule : (f : File) (g : CheckRefusal) → FileBroken f g → IsBroken f g
to_rule f g b = elim b [
  | inl c ↦ tables_rule f g c
  | inr c ↦ elim (handlers_parts f.tables f.handlers [] g c) [
    | inl d ↦ names_rule f g d
    | inr d ↦ in_text f d.0 g d.1 (rule_from of_variables f.tables (λ t p h. (p, h, refl)) (handler_marks d.0) g d.2)
  ]
]

of_text : (f : File) (g : CheckRefusal) → InHandler f (λ text. Rule of_variables f.tables text g) → FileBroken f g
of_text f g h = inr (text_from f.tables f.handlers [] g h.0 h.1.0 h.1.1 h.1.2 (from_rule of_variables f.tables (handler_marks h.0) g h.2))

from_rules : (f : File) (g : CheckRefusal) → IsBroken f g → FileBroken f g
from_rules f (Twice at) s = elim s [
  | inl r ↦ inl (from_rule of_tables [] (table_marks f.tables) (Twice at) r)
  | inr t ↦ elim t [ inl r ↦ inr (names_from f.tables f.handlers [] (Twice at) (from_rule of_handlers f.tables (name_marks f.handlers) (Twice at) r)) | inr r ↦ of_text f (Twice at) r ]
]
from_rules f (Unknown at) r = of_text f (Unknown at) r
from_rules f (Arity at) r = of_text f (Arity at) r
from_rules f (WrongTable at) r = of_text f (WrongTable at) r
from_rules f (RepeatBound at) r = of_text f (RepeatBound at) r
from_rules f (TooManyTables at) r = inl (from_rule of_tables [] (table_marks f.tables) (TooManyTables at) (at, r, refl))
from_rules f (TooManyHandlers at) r = inr (names_from f.tables f.handlers [] (TooManyHandlers at) (from_rule of_handlers f.tables (name_marks f.handlers) (TooManyHandlers at) (at, r, refl)))
from_rules f (TooManyVariables at) r = of_text f (TooManyVariables at) (r.0, r.1, (at, r.2, refl))
from_rules f (TooManyCalls at) r = absurd r
from_rules f (TooMuchWork at) r = absurd r
from_rules f NoMemory r = absurd r

pub finds_file : (f : File) → PlacesRise f → Finds (file_fault f) (IsBroken f)
finds_file f rise =
    let tables = map mark_at (table_marks f.tables) in
    let outer = map mark_at (marks_of f.handlers) in
    let rises : AreRising (tables ++ outer) = subst AreRising (map-append mark_at (table_marks f.tables) (marks_of f.handlers)) rise in
    let parts = rising_parts tables outer rises in
    finds_same (file_fault f) (FileBroken f) (IsBroken f) (to_rule f) (from_rules f)
    (finds_both (scan of_tables [] [] [] (table_marks f.tables)) (scan_handlers f.tables [] f.handlers) (BrokenFrom of_tables [] [] (table_marks f.tables)) (HandlersBroken f.tables [] f.handlers)
    (λ g k b c. inl (handlers_above f.tables (λ (m : ℕ). place g < m) f.handlers [] k (above_all of_tables fair_tables [] (BelowAll outer) (table_marks f.tables) [] g parts.1 b) c))
    (finds_scan of_tables fair_tables [] (table_marks f.tables) [] parts.0)
    (finds_handlers f.tables f.handlers [] parts.2))
