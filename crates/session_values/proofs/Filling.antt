-- Tables filled with what they open with.
use Rattle.std.proofs.Common.{◌≡◌, ℕ, zero, suc, ◌+◌, ◌<◌, ◌≤◌, List, [], ◌∷◌, length, take, drop, replicate, Some, refl, sym, ◌∙◌, ap, arith, drop_of_length-le}
use Rattle.std.specs.Prelude.{slice_get}
use Rattle.std.proofs.Math.ListN.{set as put_at}
use Rattle.std.proofs.Math.Seq.{take-nil}
use Rattle.std.proofs.lemmas.List.{get_or-set_same, set-set, take_all}
use Rattle.std.proofs.lemmas.Option.{none-some, same_Some, slice_get_within}
use Rattle.session_values.specs.declared.kind.TableKind.{TableKind}
use Rattle.session_values.specs.declared.kind.TableKind.TheVariants.{Map}
use Rattle.session_values.specs.declared.op.Op.{Op}
use Rattle.session_values.specs.Tables.{Container, Tables, after_on, empty_of, start, step, table}
use Rattle.session_values.proofs.Options.{drop_step}
use Rattle.session_values.specs.Opening.{Pair, container_of, tables_of, entries_of, AreEntries}
use Rattle.session_values.proofs.Openings.{none_is}

-- ---- one table
-- tables in which one holds the entries from place n on
abbrev pub holding : Tables → ℕ → TableKind → List Pair → ℕ → Tables
holding ts t kind es n = put_at ts t (container_of kind (drop n es))

same_set : (ts : Tables) (t : ℕ) (c : Container) → slice_get ts t ≡ Some c → put_at ts t c ≡ ts
same_set [] t c h = refl
same_set (x ∷ ts) zero c h = ap (λ (y : Container). y ∷ ts) (sym (same_Some x c h))
same_set (x ∷ ts) (suc t) c h = ap (λ (us : Tables). x ∷ us) (same_set ts t c h)

pub none_yet : (ts : Tables) (t : ℕ) (kind : TableKind) (es : List Pair) (n : ℕ) → slice_get ts t ≡ Some (container_of kind []) → n ≡ length es → ts ≡ holding ts t kind es n
none_yet ts t kind es n h e = sym (ap (λ (l : List Pair). put_at ts t (container_of kind l)) (drop_of_length-le es {i = n} (omega (arith, e))) ∙ same_set ts t (container_of kind []) h)

pub one_more : (ts now later : Tables) (t : ℕ) (kind : TableKind) (es : List Pair) (n : ℕ) (e : Pair) (op : Op) → slice_get ts t ≡ Some (container_of kind []) → now ≡ holding ts t kind es (n + 1) → slice_get es n ≡ Some e → op.table ≡ t
    → ((l : List Pair) → after_on (container_of kind l) op ≡ container_of kind (e ∷ l)) → later ≡ step now op → later ≡ holding ts t kind es n
unfolding step
one_more ts now later t kind es n e op h held at is enters done =
    let rest : List Pair = drop (n + 1) es in
    let there : table (put_at ts t (container_of kind rest)) t ≡ container_of kind rest = get_or-set_same ts t (container_of kind rest) (empty_of Map) (slice_get_within ts t (container_of kind []) h) in
    done
    ∙ ap (λ (us : Tables). put_at us op.table (after_on (table us op.table) op)) held
    ∙ ap (λ (k : ℕ). put_at (put_at ts t (container_of kind rest)) k (after_on (table (put_at ts t (container_of kind rest)) k) op)) is
    ∙ ap (λ (c : Container). put_at (put_at ts t (container_of kind rest)) t (after_on c op)) there
    ∙ set-set ts t (container_of kind rest) (after_on (container_of kind rest) op)
    ∙ ap (put_at ts t) (enters rest ∙ ap (container_of kind) (sym (drop_step es n e at)))

-- ---- all tables
pub none_filled : (shape : List TableKind) (lists : List (List Pair)) → start shape ≡ tables_of shape (take 0 lists)
none_filled [] lists = refl
none_filled (kind ∷ shape) lists = λ i. none_is kind i ∷ none_filled shape lists i

pub next_empty : (shape : List TableKind) (lists : List (List Pair)) (t : ℕ) (kind : TableKind) → slice_get shape t ≡ Some kind → slice_get (tables_of shape (take t lists)) t ≡ Some (container_of kind [])
next_empty [] lists t kind h = absurd (none-some kind h)
next_empty (k ∷ shape) lists zero kind h = ap (λ (x : TableKind). Some (container_of x [])) (same_Some k kind h)
next_empty (k ∷ shape) [] (suc t) kind h = ap (λ (l : List (List Pair)). slice_get (tables_of shape l) t) (sym (take-nil t)) ∙ next_empty shape [] t kind h
next_empty (k ∷ shape) (es ∷ lists) (suc t) kind h = next_empty shape lists t kind h

pub next_filled : (shape : List TableKind) (lists : List (List Pair)) (t : ℕ) (kind : TableKind) → slice_get shape t ≡ Some kind → t < length lists → put_at (tables_of shape (take t lists)) t (container_of kind (entries_of lists t)) ≡ tables_of shape (take (t + 1) lists)
next_filled [] lists t kind h l = absurd (none-some kind h)
next_filled (k ∷ shape) [] t kind h l = absurd (omega (arith, l))
next_filled (k ∷ shape) (es ∷ lists) zero kind h l = ap (λ (x : TableKind). container_of x es ∷ tables_of shape []) (sym (same_Some k kind h))
next_filled (k ∷ shape) (es ∷ lists) (suc t) kind h l =
    let n : suc t + 1 ≡ suc (t + 1) = omega arith in
    ap (λ (us : Tables). container_of k es ∷ us) (next_filled shape lists t kind h (omega (arith, l)))
    ∙ ap (λ (m : ℕ). tables_of (k ∷ shape) (take m (es ∷ lists))) (sym n)

pub entries_length : (shape : List TableKind) (lists : List (List Pair)) → AreEntries shape lists → length lists ≡ length shape
entries_length [] [] h = refl
entries_length [] (es ∷ lists) h = absurd h
entries_length (k ∷ shape) [] h = absurd h
entries_length (k ∷ shape) (es ∷ lists) h = ap suc (entries_length shape lists h.1)

pub all_filled : (shape : List TableKind) (lists : List (List Pair)) (t : ℕ) → length lists ≤ t → tables_of shape (take t lists) ≡ tables_of shape lists
all_filled shape lists t h = ap (tables_of shape) (take_all t lists h)

-- ---- lists of no entries
pub none_there : (n i : ℕ) → entries_of (replicate n []) i ≡ []
none_there zero i = refl
none_there (suc n) zero = refl
none_there (suc n) (suc i) = none_there n i
