-- Keys are equal as values where their words say the same.
use Rattle.std.proofs.Common.{◌≡◌, ℤ, Bool, true, false, cond, List, [], Option, Some, None, Decides, refl, sym, ◌∙◌, ap, subst}
use Rattle.std.proofs.lemmas.Bool.{both_ways}
use Rattle.std.proofs.lemmas.Bool.Decides.{same_from_decides}
use Rattle.std.specs.Cmp.{Equal-is, tied_itself}
use Rattle.std.specs.Option.{is_some, option_map, unwrap_or}
use Rattle.std.specs.Ordering.{is_eq}
use Rattle.session_values.specs.Names.{Begins, place_of}
use Rattle.session_values.specs.Values.{value_eq}
use Rattle.session_values.specs.declared.value.Value.{Value}
use Rattle.session_values.specs.declared.value.Value.TheVariants.{Nil, Num, Sym}
use Rattle.session_values.proofs.Equal.{same_value, value_eq-self}
use Rattle.table_lines.specs.Written.{Written, NilWord, NumberWord, SymbolWord, text_at, written, written_cmp}
use Rattle.table_lines.proofs.WrittenOrder.{written_cmp_exact, written_cmp_total}
use Rattle.table_lines.proofs.ValuesBack.{word_back}
use Rattle.text_lines.specs.Text.{Text}
use Rattle.text_lines.specs.Values.{as_value, is_nil, is_symbol, is_value, number, placed, value_of}
use Rattle.text_lines.proofs.ValueLemmas.{is_value_is, value_by}
use Rattle.table_lines.specs.TableRows.{as_number, says_same, word_says}

-- the value of what a word says
abbrev pub value_in : List Text → Written → Value
value_in names NilWord = Nil
value_in names (NumberWord z) = Num z
value_in names (SymbolWord t) = Sym (place_of names t)

pub says_by : (w : Text) (s t : Bool) → is_symbol w ≡ s → is_nil w ≡ t → word_says w ≡ cond s (Some (SymbolWord w)) (cond t (Some NilWord) (as_number (number w)))
unfolding word_says
says_by w s t a b = ap (λ (x : Bool). cond x (Some (SymbolWord w)) (cond (is_nil w) (Some NilWord) (as_number (number w)))) a ∙ ap (λ (x : Bool). cond s (Some (SymbolWord w)) (cond x (Some NilWord) (as_number (number w)))) b

number_says : (names : List Text) (o : Option ℤ) → as_value o ≡ option_map (value_in names) (as_number o)
number_says names None = refl
number_says names (Some z) = refl

pub value_says : (names : List Text) (w : Text) → value_of names w ≡ option_map (value_in names) (word_says w)
value_says names w = go (is_symbol w) (is_nil w) refl refl
  where
    go : (s t : Bool) → is_symbol w ≡ s → is_nil w ≡ t → value_of names w ≡ option_map (value_in names) (word_says w)
    go true t a b = value_by names w true a ∙ sym (ap (option_map (value_in names)) (says_by w true t a b))
    go false true a b = value_by names w false a ∙ ap (λ (x : Bool). cond x (Some Nil) (as_value (number w))) b ∙ sym (ap (option_map (value_in names)) (says_by w false true a b))
    go false false a b = value_by names w false a ∙ ap (λ (x : Bool). cond x (Some Nil) (as_value (number w))) b ∙ number_says names (number w) ∙ sym (ap (option_map (value_in names)) (says_by w false false a b))

-- where the word is a symbol, its place has its text
pub record Stands (names : List Text) (w : Text) : Type 0 where
  pub there : is_symbol w ≡ true → text_at names (place_of names w) ≡ w

inside : (t u : Text) → ◌≡◌ {A = Option Written} (Some (SymbolWord t)) (Some (SymbolWord u)) → t ≡ u
inside t u e = cc

pub stands_placed : (names all : List Text) (w : Text) → Begins (placed names w) all → Stands all w
stands_placed names all w b = record { there = λ s. inside _ w (sym (ap (option_map (written all)) (value_by all w true s)) ∙ word_back names all (SymbolWord w) s b) }

same_said : (names : List Text) (w : Text) (x y : Written) → word_says w ≡ Some x → word_says w ≡ Some y → written names (value_in names y) ≡ y → written names (value_in names x) ≡ x
same_said names w x y e f h = let k : y ≡ x = cc in subst (λ z. written names (value_in names z) ≡ z) k h

back_number : (names : List Text) (w : Text) (x : Written) (o : Option ℤ) → word_says w ≡ Some x → word_says w ≡ as_number o → written names (value_in names x) ≡ x
back_number names w x None e f = cc
back_number names w x (Some z) e f = same_said names w x (NumberWord z) e f refl

back : (names : List Text) (w : Text) (x : Written) → Stands names w → word_says w ≡ Some x → written names (value_in names x) ≡ x
back names w x st e = go (is_symbol w) (is_nil w) refl refl
  where
    go : (s t : Bool) → is_symbol w ≡ s → is_nil w ≡ t → written names (value_in names x) ≡ x
    go true t a b = same_said names w x (SymbolWord w) e (says_by w true t a b) (ap SymbolWord (st.there a))
    go false true a b = same_said names w x NilWord e (says_by w false true a b) refl
    go false false a b = back_number names w x (number w) e (says_by w false false a b)

pub decides_written : (x y : Written) → Decides (is_eq (written_cmp x y)) (x ≡ y)
decides_written x y = (λ e. written_cmp_exact x y ((Equal-is (written_cmp x y)).0 e), λ e. subst (λ z. is_eq (written_cmp x z) ≡ true) e (ap is_eq (tied_itself written_cmp_total x)))

decides_value : (names : List Text) (x y : Written) → written names (value_in names x) ≡ x → written names (value_in names y) ≡ y → Decides (value_eq (value_in names x) (value_in names y)) (x ≡ y)
decides_value names x y a b = (λ e. sym a ∙ ap (written names) (same_value (value_in names x) (value_in names y) e) ∙ b, λ e. subst (λ z. value_eq (value_in names x) (value_in names z) ≡ true) e (value_eq-self (value_in names x)))

pub said_by : (w : Text) (o : Option Written) → is_value w ≡ true → word_says w ≡ o → (x : Written) × (word_says w ≡ Some x)
said_by w None v e = absurd (both_ways (is_value w) (is_value_is [] w ∙ ap is_some (value_says [] w) ∙ ap (λ (o : Option Written). is_some (option_map (value_in []) o)) e) v)
said_by w (Some x) v e = (x, e)

value_said : (names : List Text) (w : Text) (x : Written) → word_says w ≡ Some x → unwrap_or (value_of names w) Nil ≡ value_in names x
value_said names w x e = ap (λ (o : Option Value). unwrap_or o Nil) (value_says names w ∙ ap (option_map (value_in names)) e)

pub keys_same : (names : List Text) (a b : Text) → Stands names a → Stands names b → is_value a ≡ true → is_value b ≡ true → value_eq (unwrap_or (value_of names a) Nil) (unwrap_or (value_of names b) Nil) ≡ says_same (word_says a) (word_says b)
keys_same names a b sa sb va vb =
    let p = said_by a (word_says a) va refl in
    let q = said_by b (word_says b) vb refl in
    ap (λ (v : Value). value_eq v (unwrap_or (value_of names b) Nil)) (value_said names a p.0 p.1)
    ∙ ap (λ (v : Value). value_eq (value_in names p.0) v) (value_said names b q.0 q.1)
    ∙ same_from_decides (value_eq (value_in names p.0) (value_in names q.0)) (is_eq (written_cmp p.0 q.0)) (decides_value names p.0 q.0 (back names a p.0 sa p.1) (back names b q.0 sb q.1)) (decides_written p.0 q.0)
    ∙ sym (ap (λ (o : Option Written). says_same o (word_says b)) p.1 ∙ ap (says_same (Some p.0)) q.1)
