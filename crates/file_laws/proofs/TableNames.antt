-- No two tables of accepted handlers have one name, and their names stay where they are.
use Rattle.std.proofs.Common.{◌≡◌, ℕ, zero, suc, ◌+◌, ◌<◌, Bool, true, false, not, cond, inl, List, [], ◌∷◌, length, map, slice_get, Some, refl, ap, ◌∙◌, subst, arith}
use Rattle.std.specs.List.{AllByRecursion}
use Rattle.std.specs.Str.{bytes_eq}
use Rattle.std.proofs.lemmas.Slice.Eq.{bytes_eq-Decides}
use Rattle.session_values.specs.Names.{AreDistinct, Begins}
use Rattle.session_values.proofs.NamesLemmas.{bytes_eq_same}
use Rattle.handler_check.specs.File.{File}
use Rattle.handler_check.specs.TableDecl.{TableDecl}
use Rattle.handler_check.specs.declared.refusal.CheckRefusal.TheVariants.{Twice}
use Rattle.handler_check.specs.FirstFault.{KeepsRules}
use Rattle.handler_check.specs.Marks.{declared, table_marks}
use Rattle.handler_check.proofs.Meaning.{Fresh, fresh_text, one_number}
use Rattle.handler_check.proofs.Fine.{tables_declared}
use Rattle.text_lines.specs.Text.{Text}
use Rattle.text_lines.specs.Values.{is_symbol}
use Rattle.table_lines.specs.Written.{text_at}
use Rattle.table_lines.specs.ReadBack.{texts_of}
use Rattle.table_lines.specs.TableRows.{AreKnown, table_of}
use Rattle.table_lines.proofs.Finding.{known_here, text_kept}
use Rattle.serve_faults.proofs.SymbolTexts.{symbol_within}

text_there : (names : List Text) (i : ℕ) → i < length names → slice_get names i ≡ Some (text_at names i)
text_there [] i h = absurd (omega (arith, h))
text_there (x ∷ xs) zero h = refl
text_there (x ∷ xs) (suc i) h = text_there xs i (omega (arith, h))

-- a table whose name has this text
record NamedSo (old : List Text) (ds : List TableDecl) (i : ℕ) (t : Text) : Type 0 where
  decl : TableDecl
  at : slice_get ds i ≡ Some decl
  text : text_at old decl.name ≡ t

named_so : (old : List Text) (ds : List TableDecl) (i : ℕ) (t : Text) → slice_get (texts_of old ds) i ≡ Some t → NamedSo old ds i t
named_so old [] i t e = cc
named_so old (d ∷ ds) zero t e = record { decl = d; at = refl; text = cc }
named_so old (d ∷ ds) (suc i) t e = let r = named_so old ds i t e in record { decl = r.decl; at = r.at; text = r.text }

name_at : (ds : List TableDecl) (i : ℕ) (d : TableDecl) → slice_get ds i ≡ Some d → slice_get (map (λ (t : TableDecl). t.name) ds) i ≡ Some d.name
name_at [] i d e = cc
name_at (x ∷ ds) zero d e = let same : x ≡ d = cc in ap (λ (t : TableDecl). Some t.name) same
name_at (x ∷ ds) (suc i) d e = name_at ds i d e

one_place : (f : File) → KeepsRules f → (i j n : ℕ) → slice_get (map (λ (t : TableDecl). t.name) f.tables) i ≡ Some n → slice_get (map (λ (t : TableDecl). t.name) f.tables) j ≡ Some n → i ≡ j
one_place f keeps i j n e g =
    let fresh : Fresh [] (declared (table_marks f.tables)) = fresh_text (table_marks f.tables) [] (table_marks f.tables) refl (λ p t. keeps (Twice p) (inl t)) in
    one_number (map (λ (t : TableDecl). t.name) f.tables) [] i j n (subst (Fresh []) (tables_declared f.tables) fresh) e g

found_at : (old : List Text) (ds : List TableDecl) (i : ℕ) (t : Text) → slice_get (texts_of old ds) i ≡ Some t → ((j : ℕ) → j < i → (d : TableDecl) → slice_get ds j ≡ Some d → bytes_eq (text_at old d.name) t ≡ false) → table_of old ds t ≡ i
unfolding table_of
found_at old [] i t e h = cc
found_at old (d ∷ ds) zero t e h =
    let is : text_at old d.name ≡ t = cc in
    ap (λ (x : Text). cond (not (bytes_eq x t)) (1 + table_of old ds t) 0) is ∙ ap (λ (b : Bool). cond (not b) (1 + table_of old ds t) 0) (bytes_eq_same t)
found_at old (d ∷ ds) (suc i) t e h =
    let rest : table_of old ds t ≡ i = found_at old ds i t e (λ j l x g. h (suc j) (omega (arith, l)) x g) in
    ap (λ (b : Bool). cond (not b) (1 + table_of old ds t) 0) (h 0 (omega arith) d refl) ∙ omega (arith, rest)

pub differ : (old : List Text) (f : File) → AreDistinct old → AreKnown old f.tables → KeepsRules f → (i : ℕ) (t : Text) → slice_get (texts_of old f.tables) i ≡ Some t → table_of old f.tables t ≡ i
differ old f distinct known keeps i t e = found_at old f.tables i t e other
  where
    other : (j : ℕ) → j < i → (d : TableDecl) → slice_get f.tables j ≡ Some d → bytes_eq (text_at old d.name) t ≡ false
    other j l d g = go (bytes_eq (text_at old d.name) t) refl
      where
        go : (b : Bool) → bytes_eq (text_at old d.name) t ≡ b → bytes_eq (text_at old d.name) t ≡ false
        go false q = q
        go true q =
            let here = named_so old f.tables i t e in
            let first : slice_get old d.name ≡ Some t = text_there old d.name (known_here old f.tables j d known g) ∙ ap (λ (x : Text). Some x) ((bytes_eq-Decides (text_at old d.name) t).0 q) in
            let second : slice_get old here.decl.name ≡ Some t = text_there old here.decl.name (known_here old f.tables i here.decl known here.at) ∙ ap (λ (x : Text). Some x) here.text in
            let same : d.name ≡ here.decl.name = distinct d.name here.decl.name t first second in
            let places : j ≡ i = one_place f keeps j i here.decl.name (name_at f.tables j d g ∙ ap (λ (n : ℕ). Some n) same) (name_at f.tables i here.decl here.at) in
            absurd (omega (arith, l, places))

-- ---- their texts

pub texts_kept : (old now : List Text) (ds : List TableDecl) → Begins old now → AreKnown old ds → texts_of now ds ≡ texts_of old ds
texts_kept old now [] b k = refl
texts_kept old now (d ∷ ds) b k = ap (λ (t : Text). t ∷ texts_of now ds) (text_kept old now d.name b k.0) ∙ ap (λ (ts : List Text). text_at old d.name ∷ ts) (texts_kept old now ds b k.1)

pub texts_symbols : (old : List Text) (ds : List TableDecl) → AllByRecursion (λ t. is_symbol t ≡ true) old → AreKnown old ds → AllByRecursion (λ t. is_symbol t ≡ true) (texts_of old ds)
texts_symbols old [] s k = tt
texts_symbols old (d ∷ ds) s k = (symbol_within old d.name s k.0, texts_symbols old ds s k.1)
