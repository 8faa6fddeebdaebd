-- How operations, comparisons and right sides begin.
use Rattle.std.proofs.Common.{◌≡◌, ℕ, List, [], ◌∷◌, ◌++◌, Option, Some, None, refl, sym, ap, subst, ◌∙◌}
use Rattle.session_values.specs.declared.kind.Kind.{Kind}
use Rattle.session_values.specs.declared.kind.TableKind.{TableKind}
use Rattle.syntax_grammar.specs.declared.word.Word.{Word}
use Rattle.syntax_grammar.specs.declared.word.Sort.{Sort}
use Rattle.syntax_grammar.specs.declared.word.Sort.TheVariants as sort
use Rattle.syntax_grammar.specs.Words.{first_word}
use Rattle.syntax_trees.specs.declared.stmt.Compare.{Compare}
use Rattle.syntax_parser.specs.declared.input.Input.{Input}
use Rattle.syntax_grammar.specs.declared.refusals.SyntaxRefusal.{SyntaxRefusal}
use Rattle.syntax_grammar.specs.Sorts.{operation, comparison, table_kind, call_start, statement_start}
use Rattle.syntax_grammar.specs.declared.sorts.Start.{Start}
use Rattle.syntax_grammar.specs.declared.sorts.Start.TheVariants as start
use Rattle.syntax_grammar.specs.Next.{Part, call_parts, where_operation, a_right, expression, expression_row, taking, at_top, after_taking, fault}
use Rattle.syntax_parser.specs.Reads.{Refused, Passed}

-- ---- the word of an operation

pub operation_is : (s : Sort) (k : Kind) → operation s ≡ Some k → s ≡ sort.Do k
operation_is (sort.Do j) k e = let h : j ≡ k = cc in ap sort.Do h
operation_is _ k e = absurd (cc)

-- the word that a statement begins with
abbrev pub StartsWith : Sort → Start → Type 0
StartsWith s start.Let = s ≡ sort.Let
StartsWith s (start.Assign n) = s ≡ sort.Name n
StartsWith s (start.Call k) = operation s ≡ Some k
StartsWith s start.If = s ≡ sort.If
StartsWith s start.Repeat = s ≡ sort.Repeat
StartsWith s start.Reply = s ≡ sort.Reply

abbrev WhereStarts : Sort → Option Start → Type 0
WhereStarts s (Some b) = StartsWith s b
WhereStarts s None = Unit {0}

starts_call : (s : Sort) (o : Option Kind) → operation s ≡ o → WhereStarts s (call_start o)
starts_call s (Some k) e = e
starts_call s None e = tt

where_starts : (s : Sort) → WhereStarts s (statement_start s)
where_starts sort.Let = refl
where_starts (sort.Name n) = refl
where_starts sort.If = refl
where_starts sort.Repeat = refl
where_starts sort.Reply = refl
where_starts s = starts_call s (operation s) refl

pub starts_with : (s : Sort) (b : Start) → statement_start s ≡ Some b → StartsWith s b
starts_with s b e = subst (WhereStarts s) e (where_starts s)

-- ---- comparisons and kinds of tables

pub comparison_is : (s : Sort) (c : Compare) → comparison s ≡ Some c → s ≡ sort.Compare c
comparison_is (sort.Compare d) c e = let h : d ≡ c = cc in ap sort.Compare h
comparison_is _ c e = absurd (cc)

pub table_is : (s : Sort) (k : TableKind) → table_kind s ≡ Some k → s ≡ sort.Table k
table_is (sort.Table j) k e = let h : j ≡ k = cc in ap sort.Table h
table_is _ k e = absurd (cc)

-- ---- a right side that doesn't begin with an operation is an expression

right_as : (end n : ℕ) (under : List Part) (w : Word) (ws : List Word) (o : Option (List Part)) → after_taking w n (λ ps m. fault end ps m ws) (at_top a_right under o (taking under w.sort)) ≡ after_taking w n (λ ps m. fault end ps m ws) (at_top expression under o (taking under w.sort))
right_as end n under w ws None = refl
right_as end n under w ws (Some left) = refl

right_same : (end : ℕ) (under : List Part) (n : ℕ) (ws : List Word) → operation (first_word end ws).sort ≡ None → fault end (a_right ∷ under) n ws ≡ fault end (expression ∷ under) n ws
right_same end under n [] e = refl
right_same end under n (w ∷ ws) e =
    ap (λ o. after_taking w n (λ ps m. fault end ps m ws) (at_top a_right under (where_operation call_parts (expression_row w.sort) o) (taking under w.sort))) e
    ∙ right_as end n under w ws (expression_row w.sort)

pub passed_plain : (U : List Part → Type 0) (ps qs : List Part) (a b : Input) (w : Word) → w ≡ first_word a.reader.end a.reader.words → operation w.sort ≡ None → Passed U (expression ∷ ps) qs a b → Passed U (a_right ∷ ps) qs a b
passed_plain U ps qs a b w f e p = record {
  end_same = p.end_same;
  no_longer = p.no_longer;
  no_end = p.no_end;
  fault_same = λ under h. right_same a.reader.end (ps ++ under) a.signs a.reader.words (ap (λ x. operation x.sort) (sym f) ∙ e) ∙ p.fault_same under h;
}

pub refused_plain : (U : List Part → Type 0) (ps : List Part) (a : Input) (r : SyntaxRefusal) (w : Word) → w ≡ first_word a.reader.end a.reader.words → operation w.sort ≡ None → Refused U (expression ∷ ps) a r → Refused U (a_right ∷ ps) a r
refused_plain U ps a r w f e p = record {
  fault_is = λ under h. right_same a.reader.end (ps ++ under) a.signs a.reader.words (ap (λ x. operation x.sort) (sym f) ∙ e) ∙ p.fault_is under h;
}
