-- The table of a name, also while the list of names grows.
use Rattle.std.proofs.Common.{◌≡◌, ℕ, zero, suc, ◌+◌, ◌<◌, ◌≤◌, Bool, true, false, not, cond, List, [], ◌∷◌, length, slice_get, Option, Some, refl, ◌∙◌, ap, arith, length-append}
use Rattle.std.specs.List.{position_or_len, AllByRecursion}
use Rattle.std.specs.Option.{unwrap_or}
use Rattle.std.specs.Str.{bytes_eq}
use Rattle.session_values.specs.Names.{Begins}
use Rattle.session_values.proofs.Numbers.{past_first, past_on, here_first, here_on}
use Rattle.session_values.proofs.Options.{get_front}
use Rattle.syntax_trees.specs.declared.file.TableDecl.{TableDecl}
use Rattle.table_lines.specs.Written.{text_at}
use Rattle.text_lines.specs.Text.{Text}
use Rattle.table_lines.specs.TableRows.{AreKnown, table_of}

-- ---- the first place that passes a test
-- a place that fails the test isn't the first that passes it
past : (p : TableDecl → Bool) (xs : List TableDecl) (i : ℕ) (x : TableDecl) → slice_get xs i ≡ Some x → p x ≡ false → i ≤ position_or_len p xs → i + 1 ≤ position_or_len p xs
past p [] i x h f l = cc
past p (y ∷ ys) zero x h f l = past_first (p y) (position_or_len p ys) (let same : y ≡ x = cc in ap p same ∙ f)
past p (y ∷ ys) (suc i) x h f l = past_on (p y) i (position_or_len p ys) l (past p ys i x h f)

-- a place that passes it, with none before, is the first
here : (p : TableDecl → Bool) (xs : List TableDecl) (i : ℕ) (x : TableDecl) → slice_get xs i ≡ Some x → p x ≡ true → i ≤ position_or_len p xs → i ≡ position_or_len p xs
here p [] i x h f l = cc
here p (y ∷ ys) zero x h f l = here_first (p y) (position_or_len p ys) (let same : y ≡ x = cc in ap p same ∙ f)
here p (y ∷ ys) (suc i) x h f l = here_on (p y) i (position_or_len p ys) l (here p ys i x h f)

pub known_here : (names : List Text) (tables : List TableDecl) (i : ℕ) (t : TableDecl) → AreKnown names tables → slice_get tables i ≡ Some t → t.name < length names
known_here names [] i t k h = cc
known_here names (x ∷ xs) zero t k h = let same : x ≡ t = cc in let e : x.name ≡ t.name = ap (λ (d : TableDecl). d.name) same in omega (arith, k.0, e)
known_here names (x ∷ xs) (suc i) t k h = known_here names xs i t k.1 h

-- the test of a table, by the text that was read at its place
test_is : (names : List Text) (t : TableDecl) (text name : Text) → slice_get names t.name ≡ Some text → bytes_eq (text_at names t.name) name ≡ bytes_eq text name
test_is names t text name h = ap (λ (o : Option Text). bytes_eq (unwrap_or o []) name) h

pub table_past : (names : List Text) (tables : List TableDecl) (name : Text) (i : ℕ) (t : TableDecl) (text : Text) → slice_get tables i ≡ Some t → slice_get names t.name ≡ Some text → bytes_eq text name ≡ false → i ≤ table_of names tables name → i + 1 ≤ table_of names tables name
unfolding table_of
table_past names tables name i t text at named other l = past (λ (d : TableDecl). bytes_eq (text_at names d.name) name) tables i t at (test_is names t text name named ∙ other) l

pub table_here : (names : List Text) (tables : List TableDecl) (name : Text) (i : ℕ) (t : TableDecl) (text : Text) → slice_get tables i ≡ Some t → slice_get names t.name ≡ Some text → bytes_eq text name ≡ true → i ≤ table_of names tables name → i ≡ table_of names tables name
unfolding table_of
table_here names tables name i t text at named same l = here (λ (d : TableDecl). bytes_eq (text_at names d.name) name) tables i t at (test_is names t text name named ∙ same) l

-- ---- more names
pub text_kept : (old now : List Text) (i : ℕ) → Begins old now → i < length old → text_at now i ≡ text_at old i
text_kept old now i b h = ap (λ (ns : List Text). text_at ns i) b.1 ∙ ap (λ (o : Option Text). unwrap_or o []) (get_front old b.0 i h)

pub table_kept : (old now : List Text) (tables : List TableDecl) (name : Text) → Begins old now → AreKnown old tables → table_of now tables name ≡ table_of old tables name
unfolding table_of
table_kept old now [] name b k = refl
table_kept old now (t ∷ ts) name b k =
    ap (λ (x : Text). cond (not (bytes_eq x name)) (1 + table_of now ts name) 0) (text_kept old now t.name b k.0)
    ∙ ap (λ n. cond (not (bytes_eq (text_at old t.name) name)) (1 + n) 0) (table_kept old now ts name b k.1)

less : (m n : ℕ) (ts : List TableDecl) → m ≤ n → AllByRecursion (λ (t : TableDecl). t.name < m) ts → AllByRecursion (λ (t : TableDecl). t.name < n) ts
less m n [] l k = tt
less m n (t ∷ ts) l k = (omega (arith, k.0, l), less m n ts l k.1)

pub known_kept : (old now : List Text) (tables : List TableDecl) → Begins old now → AreKnown old tables → AreKnown now tables
known_kept old now tables b k = less (length old) (length now) tables (omega (arith, ap length b.1, length-append old b.0)) k
