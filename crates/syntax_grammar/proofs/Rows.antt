-- Where no row of a part has a word.
use Rattle.std.specs.Prelude.{is_some}
use Rattle.std.proofs.Common.{◌≡◌, ℕ, zero, suc, true, false, Option, Some, None, [], refl, sym, ◌∙◌, ap, arith}
use Rattle.syntax_grammar.specs.declared.word.Sort.{Sort}
use Rattle.syntax_grammar.specs.declared.word.Sort.TheVariants as sort
use Rattle.syntax_grammar.specs.Next.{atom_row, mark_row, factors_row, terms_row, values_row, arguments_row, more_params_row, first_param_row, handlers_row, else_row}

pub atom_none : (s : Sort) → ((x : ℕ) → s ≡ sort.Name x → ⊥) → (s ≡ sort.Nil → ⊥) → ((x : ℕ) → s ≡ sort.Symbol x → ⊥) → ((x : ℕ) → s ≡ sort.Number x → ⊥) → (s ≡ sort.Minus → ⊥) → atom_row s ≡ None
atom_none (sort.Name x) a b d e f = absurd (a x refl)
atom_none sort.Nil a b d e f = absurd (b refl)
atom_none (sort.Symbol x) a b d e f = absurd (d x refl)
atom_none (sort.Number x) a b d e f = absurd (e x refl)
atom_none sort.Minus a b d e f = absurd (f refl)
atom_none _ a b d e f = refl

pub mark_none : (t s : Sort) → (s ≡ t → ⊥) → mark_row t s ≡ None
mark_none sort.Semicolon sort.Semicolon h = absurd (h refl)
mark_none sort.Assign sort.Assign h = absurd (h refl)
mark_none sort.LeftParen sort.LeftParen h = absurd (h refl)
mark_none sort.RightParen sort.RightParen h = absurd (h refl)
mark_none sort.RightBrace sort.RightBrace h = absurd (h refl)
mark_none sort.As sort.As h = absurd (h refl)
mark_none _ _ h = refl

-- the end is no mark
pub mark_no_end : (t : Sort) → mark_row t t ≡ Some [] → t ≡ sort.End → ⊥
mark_no_end t m e = let h : mark_row sort.End sort.End ≡ Some [] = ap (λ x. mark_row x x) (sym e) ∙ m in cc

pub values_none : (n : ℕ) (s : Sort) → (s ≡ sort.Comma → ⊥) → values_row n s ≡ None
values_none (suc n) sort.Comma a = absurd (a refl)
values_none _ _ a = refl

pub values_full : (n : ℕ) (s : Sort) → n ≡ 0 → values_row n s ≡ None
values_full zero s e = refl
values_full (suc n) s e = absurd (omega (arith, e))

pub arguments_none : (n : ℕ) (s : Sort) → (s ≡ sort.Comma → ⊥) → arguments_row n s ≡ None
arguments_none (suc n) sort.Comma a = absurd (a refl)
arguments_none _ _ a = refl

pub arguments_full : (n : ℕ) (s : Sort) → n ≡ 0 → arguments_row n s ≡ None
arguments_full zero s e = refl
arguments_full (suc n) s e = absurd (omega (arith, e))

pub factors_none : (s : Sort) → (s ≡ sort.Times → ⊥) → factors_row s ≡ None
factors_none sort.Times a = absurd (a refl)
factors_none _ a = refl

pub terms_none : (s : Sort) → (s ≡ sort.Plus → ⊥) → (s ≡ sort.Minus → ⊥) → terms_row s ≡ None
terms_none sort.Plus a b = absurd (a refl)
terms_none sort.Minus a b = absurd (b refl)
terms_none _ a b = refl

pub else_none : (s : Sort) → (s ≡ sort.Else → ⊥) → else_row s ≡ None
else_none sort.Else a = absurd (a refl)
else_none _ a = refl

pub first_param_none : (s : Sort) → ((x : ℕ) → s ≡ sort.Name x → ⊥) → first_param_row s ≡ None
first_param_none (sort.Name x) a = absurd (a x refl)
first_param_none _ a = refl

pub more_params_none : (s : Sort) → (s ≡ sort.Comma → ⊥) → more_params_row s ≡ None
more_params_none sort.Comma a = absurd (a refl)
more_params_none _ a = refl

pub handlers_none : (s : Sort) → (s ≡ sort.Handler → ⊥) → handlers_row s ≡ None
handlers_none sort.Handler a = absurd (a refl)
handlers_none _ a = refl

-- a word that a mark's row has is the mark
pub mark_same : (t s : Sort) → is_some (mark_row t s) ≡ true → s ≡ t
mark_same sort.Semicolon sort.Semicolon h = refl
mark_same sort.Assign sort.Assign h = refl
mark_same sort.LeftParen sort.LeftParen h = refl
mark_same sort.RightParen sort.RightParen h = refl
mark_same sort.RightBrace sort.RightBrace h = refl
mark_same sort.As sort.As h = refl
mark_same _ _ h = absurd (cc)

pub none_left : {X : Type 0} (o : Option X) → is_some o ≡ false → o ≡ None
none_left None h = refl
none_left (Some x) h = absurd (cc)
