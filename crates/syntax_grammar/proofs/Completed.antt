-- What may come next can be gone on with to the end.
use Rattle.std.proofs.Common.{◌≡◌, ℕ, arith, Bool, true, false, List, [], ◌∷◌, ◌++◌, Option, Some, None, refl, subst}
use Rattle.syntax_grammar.specs.declared.word.Word.{Word}
use Rattle.syntax_grammar.specs.declared.word.Sort.{Sort}
use Rattle.syntax_grammar.specs.declared.word.Sort.TheVariants as sort
use Rattle.syntax_trees.specs.declared.stmt.Compare.TheVariants as compare
use Rattle.syntax_grammar.specs.Next.{Part, tables, handlers, first_param, more_params, a_block, statements, or_else, a_right, more_arguments, a_compare, a_count, more_values, expression, operand, more_factors, more_terms, closing, an_atom, after_minus, a_name, mark, Taken, row, taking, at_top, or_below, may_be_empty}
use Rattle.syntax_grammar.specs.Phrase.{word, named, digits, nil_atom, plain, no_factor, term, no_term, sum, no_atom, plain_right, no_value, no_else, no_stmt, block, no_more, no_param, no_handler, no_table}
use Rattle.syntax_grammar.proofs.Spells.{Begins, Spells, still, go_on_still}
use Rattle.syntax_grammar.proofs.Back.{RowBack, row_back}

-- a part that may be empty is written with no word
abbrev pub MayBeEmpty : Part → Bool → Type 0
MayBeEmpty p true = (ws : List Word) → Begins p ws ws
MayBeEmpty p false = Unit {0}

pub empty : (p : Part) → MayBeEmpty p (may_be_empty p)
empty tables = λ ws. (no_table, refl)
empty handlers = λ ws. (no_handler, refl)
empty first_param = λ ws. (no_param, refl)
empty more_params = λ ws. (no_more, refl)
empty statements = λ ws. (no_stmt, refl)
empty or_else = λ ws. (no_else, refl)
empty (more_arguments n) = λ ws. (no_atom, omega arith, refl)
empty (more_values n) = λ ws. (no_value, omega arith, refl)
empty more_factors = λ ws. (no_factor, refl)
empty more_terms = λ ws. (no_term, refl)
empty _ = tt

-- a word taken from a stack of parts, undone
abbrev pub Back : List Part → Sort → Option Taken → Type 0
Back ps s None = Unit {0}
Back ps s (Some t) = (at : ℕ) (ws : List Word) → Spells (t.left ++ t.under) ws → Spells ps (word s at ∷ ws)

below_back : (p : Part) (under : List Part) (s : Sort) (b : Bool) (below : Option Taken) → MayBeEmpty p b → Back under s below → Back (p ∷ under) s (or_below b below)
below_back p under s true None e h = tt
below_back p under s true (Some t) e h = λ at ws sp. (word s at ∷ ws, e (word s at ∷ ws), h at ws sp)
below_back p under s false below e h = tt

top_back : (p : Part) (under : List Part) (s : Sort) (o : Option (List Part)) (below : Option Taken) → RowBack p s o → Back under s below → Back (p ∷ under) s (at_top p under o below)
top_back p under s None below r h = below_back p under s (may_be_empty p) below (empty p) h
top_back p under s (Some left) below r h = λ at ws sp. r at under ws sp

pub back : (ps : List Part) (s : Sort) → Back ps s (taking ps s)
back [] s = tt
back (p ∷ ps) s = top_back p ps s (row p s) (taking ps s) (row_back p s) (back ps s)

abbrev pub StillBack : List Part → List Word → Option (List Part) → Type 0
StillBack ps ws None = Unit {0}
StillBack ps ws (Some qs) = (more : List Word) → Spells qs more → Spells ps (ws ++ more)

at_still : (ps : List Part) (w : Word) (ws : List Word) (t : Taken) (o : Option (List Part)) → StillBack (t.left ++ t.under) ws o → ((at : ℕ) (vs : List Word) → Spells (t.left ++ t.under) vs → Spells ps (word w.sort at ∷ vs)) → StillBack ps (w ∷ ws) o
at_still ps w ws t None h b = tt
at_still ps w ws t (Some qs) h b = λ more sp. b w.at (ws ++ more) (h more sp)

at_taken : (ps : List Part) (w : Word) (ws : List Word) (o : Option Taken) → Back ps w.sort o → ((qs : List Part) → StillBack qs ws (still qs ws)) → StillBack ps (w ∷ ws) (go_on_still (λ qs. still qs ws) o)
at_taken ps w ws None b h = tt
at_taken ps w ws (Some t) b h = at_still ps w ws t (still (t.left ++ t.under) ws) (h (t.left ++ t.under)) b

-- what is still to come after words, put behind them, is what was to come before
pub still_back : (ws : List Word) (ps : List Part) → StillBack ps ws (still ps ws)
still_back [] ps = λ more h. h
still_back (w ∷ ws) ps = at_taken ps w ws (taking ps w.sort) (back ps w.sort) (λ qs. still_back ws qs)

-- each part has some phrase
shortest : (p : Part) (rest : List Word) → (ws : List Word) × Begins p ws rest
shortest tables rest = (rest, (no_table, refl))
shortest handlers rest = (rest, (no_handler, refl))
shortest first_param rest = (rest, (no_param, refl))
shortest more_params rest = (rest, (no_more, refl))
shortest a_block rest = (word sort.LeftBrace 0 ∷ (word sort.RightBrace 0 ∷ rest), (block 0 no_stmt 0, refl))
shortest statements rest = (rest, (no_stmt, refl))
shortest or_else rest = (rest, (no_else, refl))
shortest a_right rest = (word sort.Nil 0 ∷ rest, (plain_right (sum (term (plain (nil_atom 0)) no_factor) no_term), refl))
shortest (more_arguments n) rest = (rest, (no_atom, omega arith, refl))
shortest a_compare rest = (word (sort.Compare compare.Less) 0 ∷ rest, ((compare.Less, 0), refl))
shortest a_count rest = (word (sort.Number 0) 0 ∷ rest, (digits 0 0, refl))
shortest (more_values n) rest = (rest, (no_value, omega arith, refl))
shortest expression rest = (word sort.Nil 0 ∷ rest, (sum (term (plain (nil_atom 0)) no_factor) no_term, refl))
shortest operand rest = (word sort.Nil 0 ∷ rest, (plain (nil_atom 0), refl))
shortest more_factors rest = (rest, (no_factor, refl))
shortest more_terms rest = (rest, (no_term, refl))
shortest closing rest = (word sort.RightParen 0 ∷ rest, (0, refl))
shortest an_atom rest = (word sort.Nil 0 ∷ rest, (nil_atom 0, refl))
shortest after_minus rest = (word (sort.Number 0) 0 ∷ rest, (digits 0 0, refl))
shortest a_name rest = (word (sort.Name 0) 0 ∷ rest, (named 0 0, refl))
shortest (mark t) rest = (word t 0 ∷ rest, (0, refl))

completion : (ps : List Part) → (ws : List Word) × Spells ps ws
completion [] = ([], refl)
completion (p ∷ ps) = let c = completion ps in let s = shortest p c.0 in (s.0, (c.0, s.1, c.1))

abbrev Ends : List Part → List Word → Option (List Part) → Type 0
Ends ps ws None = Unit {0}
Ends ps ws (Some qs) = (more : List Word) × Spells ps (ws ++ more)

-- words that are all taken begin a text of the grammar
pub can_end : (ps : List Part) (ws : List Word) (qs : List Part) → still ps ws ≡ Some qs → (more : List Word) × Spells ps (ws ++ more)
can_end ps ws qs e = subst (Ends ps ws) e (by (still ps ws) (still_back ws ps))
  where
    by : (o : Option (List Part)) → StillBack ps ws o → Ends ps ws o
    by None h = tt
    by (Some qs) h = let c = completion qs in (c.0, h c.0 c.1)
