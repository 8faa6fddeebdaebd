-- The lines of an input, from the first on, up to one for which a test holds.
use Rattle.std.proofs.Common.{◌≡◌, ℕ, ◌+◌, ◌≤◌, Bool, true, false, cond, List, [], ◌∷◌, length, take, drop, sym, ap, ◌∙◌, arith}
use Rattle.std.proofs.lemmas.List.{drop_all, take_all}
use Rattle.text_lines.specs.Text.{Text, lines}
use Rattle.text_lines.proofs.TextLemmas.{lines_nil}
use Rattle.request_files.specs.Divide.{before, behind, head_size, mark_size}
use Rattle.foresight_where.specs.Chosen.{first_of}

-- so many bytes are lines for which the test doesn't hold; the last one may want its line feed
pub record Passed (is : Text → Bool) (text : Text) (at : ℕ) : Type 0 where
  pub head : at + head_size is (lines (drop at text)) ≡ head_size is (lines text)
  pub mark : at + mark_size is (lines (drop at text)) ≡ mark_size is (lines text)
  pub first : first_of is (lines (drop at text)) ≡ first_of is (lines text)
  pub within : at ≤ length text + 1

module _ (is : Text → Bool) (text : Text) (at : ℕ) (p : Passed is text at) where
  module _ (l : Text) (ls : List Text) (these : lines (drop at text) ≡ l ∷ ls) where
    head_by : (b : Bool) → is l ≡ b → at + cond b 0 (length l + 1 + head_size is ls) ≡ head_size is (lines text)
    unfolding head_size
    head_by b e = ap (λ b. at + cond b 0 (length l + 1 + head_size is ls)) (sym e) ∙ ap (λ x. at + head_size is x) (sym these) ∙ p.head

    mark_by : (b : Bool) → is l ≡ b → at + cond b (length l + 1) (length l + 1 + mark_size is ls) ≡ mark_size is (lines text)
    unfolding mark_size
    mark_by b e = ap (λ b. at + cond b (length l + 1) (length l + 1 + mark_size is ls)) (sym e) ∙ ap (λ x. at + mark_size is x) (sym these) ∙ p.mark

    first_by : (b : Bool) → is l ≡ b → cond b l (first_of is ls) ≡ first_of is (lines text)
    first_by b e = ap (λ b. cond b l (first_of is ls)) (sym e) ∙ ap (first_of is) (sym these) ∙ p.first

    -- it holds for the next line
    pub front_here : is l ≡ true → take at text ≡ before is text
    front_here e = ap (λ n. take n text) (let k : at ≡ head_size is (lines text) = omega (arith, head_by true e) in k)

    pub line_here : is l ≡ true → l ≡ first_of is (lines text)
    line_here e = first_by true e

    pub back_here : is l ≡ true → drop (at + (length l + 1)) text ≡ behind is text
    back_here e = ap (λ n. drop n text) (mark_by true e)

    -- it doesn't
    pub passed_more : (now : ℕ) → is l ≡ false → now ≡ at + (length l + 1) → ls ≡ lines (drop now text) → now ≤ length text + 1 → Passed is text now
    passed_more now e same rest within = record {
      head = ap (λ x. now + head_size is x) (sym rest) ∙ omega (arith, head_by false e);
      mark = ap (λ x. now + mark_size is x) (sym rest) ∙ omega (arith, mark_by false e);
      first = ap (first_of is) (sym rest) ∙ first_by false e;
      within = within;
    }

  -- all lines were passed
  none_left : length text ≤ at → lines (drop at text) ≡ []
  none_left all = ap lines (drop_all at text all) ∙ lines_nil

  head_left : length text ≤ at → at ≡ head_size is (lines text)
  unfolding head_size
  head_left all = omega (arith, ap (head_size is) (none_left all), p.head)

  mark_left : length text ≤ at → at ≡ mark_size is (lines text)
  unfolding mark_size
  mark_left all = omega (arith, ap (mark_size is) (none_left all), p.mark)

  pub front_left : length text ≤ at → text ≡ before is text
  front_left all = sym (take_all at text all) ∙ ap (λ n. take n text) (head_left all)

  pub line_left : length text ≤ at → [] ≡ first_of is (lines text)
  line_left all = sym (ap (first_of is) (none_left all)) ∙ p.first

  pub back_left : length text ≤ at → [] ≡ behind is text
  back_left all = sym (drop_all at text all) ∙ ap (λ n. drop n text) (mark_left all)
