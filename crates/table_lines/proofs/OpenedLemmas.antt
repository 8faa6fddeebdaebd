-- The entries that were found are those of the rows, as one list.
use Rattle.std.proofs.Common.{◌≡◌, ℕ, zero, suc, ◌+◌, ◌<◌, List, [], ◌∷◌, length, refl, sym, ap, ◌∙◌, arith}
use Rattle.session_values.specs.Opening.{Pair, entries_of}
use Rattle.syntax_trees.specs.declared.file.TableDecl.{TableDecl}
use Rattle.text_lines.specs.Rows.{Row}
use Rattle.text_lines.specs.Text.{Text}
use Rattle.table_lines.specs.TableRows.{AreTables, entries_for}
use Rattle.table_lines.specs.Opened.{entries_from, opened_by}

module _ (old new : List Text) (tables : List TableDecl) (rs : List Row) where
  from : (found : List (List Pair)) (i n : ℕ) → length found ≡ n → ((j : ℕ) → j < n → entries_of found j ≡ entries_for old new tables rs (i + j)) → found ≡ entries_from old new tables rs i n
  from [] i zero many each = refl
  from [] i (suc n) many each = absurd (omega (arith, many))
  from (es ∷ found) i zero many each = absurd (omega (arith, many))
  from (es ∷ found) i (suc n) many each =
      let first : es ≡ entries_for old new tables rs i = each 0 (omega arith) ∙ ap (entries_for old new tables rs) (let e : i + 0 ≡ i = omega arith in e) in
      let rest : found ≡ entries_from old new tables rs (i + 1) n = from found (i + 1) n (omega (arith, many)) (λ j h. each (suc j) (omega (arith, h)) ∙ ap (entries_for old new tables rs) (let e : i + suc j ≡ i + 1 + j = omega arith in e)) in
      ap (λ (x : List Pair). x ∷ found) first ∙ ap (λ (xs : List (List Pair)). entries_for old new tables rs i ∷ xs) rest

  pub opened_is : (found : List (List Pair)) → AreTables old new tables rs found → found ≡ opened_by old new tables rs
  opened_is found h = from found 0 (length tables) h.count (λ j k. h.entries j k ∙ ap (entries_for old new tables rs) (let e : j ≡ 0 + j = omega arith in e))
