-- The lines of entries, cut at an entry.
use Rattle.std.proofs.Common.{◌≡◌, ℕ, ◌+◌, ◌<◌, List, [], ◌∷◌, ◌++◌, take, drop, length, get_or, refl, sym, ap, ◌∙◌, append_assoc, append-nil, Option}
use Rattle.std.proofs.lemmas.List.{take_more, take-append-drop}
use Rattle.session_values.specs.Opening.{Pair}
use Rattle.session_values.specs.declared.kind.TableKind.{TableKind}
use Rattle.reply_sheet.proofs.TextLemmas.{Waits, waits_more}
use Rattle.table_lines.specs.Lines.{line_of, lines_of}

module _ (names : List (List ℕ)) (table : ℕ) (kind : TableKind) where
  pub no_lines : lines_of names table kind [] ≡ []
  unfolding lines_of
  no_lines = refl

  lines_first : (e : Pair) (es : List Pair) → lines_of names table kind (e ∷ es) ≡ line_of names table kind e ++ lines_of names table kind es
  unfolding lines_of
  lines_first e es = refl

  lines_cut : (xs ys : List Pair) → lines_of names table kind (xs ++ ys) ≡ lines_of names table kind xs ++ lines_of names table kind ys
  lines_cut [] ys = sym (ap (λ (t : List ℕ). t ++ lines_of names table kind ys) no_lines)
  lines_cut (x ∷ xs) ys =
      lines_first x (xs ++ ys)
      ∙ ap (λ (t : List ℕ). line_of names table kind x ++ t) (lines_cut xs ys)
      ∙ sym (append_assoc (line_of names table kind x) (lines_of names table kind xs) (lines_of names table kind ys))
      ∙ ap (λ (t : List ℕ). t ++ lines_of names table kind ys) (sym (lines_first x xs))

  -- the lines, cut at an entry
  pub lines_at : (es : List Pair) (i : ℕ) → lines_of names table kind es ≡ lines_of names table kind (take i es) ++ lines_of names table kind (drop i es)
  lines_at es i = ap (lines_of names table kind) (sym (take-append-drop i es)) ∙ lines_cut (take i es) (drop i es)

  lines_more : (es : List Pair) (i : ℕ) (d : Pair) → i < length es → lines_of names table kind (take (i + 1) es) ≡ lines_of names table kind (take i es) ++ line_of names table kind (get_or es i d)
  lines_more es i d h =
      let e : Pair = get_or es i d in
      ap (lines_of names table kind) (take_more es i d h)
      ∙ lines_cut (take i es) (e ∷ [])
      ∙ ap (λ (t : List ℕ). lines_of names table kind (take i es) ++ t) (lines_first e [] ∙ ap (λ (t : List ℕ). line_of names table kind e ++ t) no_lines ∙ append-nil (line_of names table kind e))

  -- one line more waits
  pub line_waits : (es : List Pair) (i : ℕ) (d : Pair) (old now : Option (List ℕ)) (waiting longer : List ℕ) → i < length es → longer ≡ waiting ++ line_of names table kind (get_or es i d)
      → Waits old now waiting (lines_of names table kind (take i es)) → Waits old now longer (lines_of names table kind (take (i + 1) es))
  line_waits es i d old now waiting longer h more w =
      waits_more old now waiting longer (lines_of names table kind (take i es)) (line_of names table kind (get_or es i d)) (lines_of names table kind (take (i + 1) es)) w more (lines_more es i d h)
