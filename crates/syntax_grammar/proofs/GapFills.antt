-- What is passed over before a token is blanks, line feeds and comments.
use Rattle.std.proofs.Common.{◌≡◌, ◌≢◌, ℕ, suc, ◌+◌, true, false, List, [], ◌∷◌, ◌++◌, drop, refl, sym, ap, subst, arith, nat_eq}
use Rattle.std.specs.Prelude.{◌||◌}
use Rattle.std.specs.List.{AllByRecursion}
use Rattle.std.proofs.lemmas.Bool.Decides.{nat_tests}
use Rattle.syntax_grammar.specs.Gap.{is_space, Space, Comment, EndsLine, IsComment, IsGap}
use Rattle.syntax_grammar.specs.Scan.{gap}
use Rattle.syntax_grammar.proofs.Cut.{pick}

-- a text within a comment: the end of the comment, and then a gap
record WithinComment (text rest : List ℕ) : Type 0 where
  comment : List ℕ
  after : List ℕ
  whole : text ≡ comment ++ after
  one_line : AllByRecursion (λ b. b ≢ 10) comment
  ends : EndsLine after
  then : IsGap after rest

shifted : (P : List ℕ → Type 0) (b : ℕ) (bs : List ℕ) (n : ℕ) → P (drop n bs) → P (drop (1 + n) (b ∷ bs))
shifted P b bs n h = let e : 1 + n ≡ suc n = omega arith in subst (λ i. P (drop i (b ∷ bs))) (sym e) h

space_first : (b : ℕ) (bs rest : List ℕ) → is_space b ≡ true → IsGap bs rest → IsGap (b ∷ bs) rest
space_first b bs rest h g = (Space b ∷ g.0, (bs, refl, h, g.1))

comment_first : (b : ℕ) (bs rest : List ℕ) → b ≡ 35 → WithinComment bs rest → IsGap (b ∷ bs) rest
comment_first b bs rest h w =
    let is : IsComment w.comment (b ∷ bs) w.after = record { whole = (λ i. h i ∷ w.whole i); one_line = w.one_line; ends = w.ends } in
    (Comment w.comment ∷ w.then.0, (w.after, is, w.then.1))

line_ends : (b : ℕ) (bs rest : List ℕ) → b ≡ 10 → IsGap bs rest → WithinComment (b ∷ bs) rest
line_ends b bs rest h g = record { comment = []; after = b ∷ bs; whole = refl; one_line = tt; ends = h; then = space_first b bs rest (grind (arith, nat_tests)) g }

goes_on : (b : ℕ) (bs rest : List ℕ) → b ≢ 10 → WithinComment bs rest → WithinComment (b ∷ bs) rest
goes_on b bs rest h w = record { comment = b ∷ w.comment; after = w.after; whole = ap (λ xs. b ∷ xs) w.whole; one_line = (h, w.one_line); ends = w.ends; then = w.then }

-- both at once: a gap at a text's front, and the end of a comment
passed : (bs : List ℕ) → IsGap bs (drop (gap false bs) bs) × WithinComment bs (drop (gap true bs) bs)
passed [] = (([], refl), record { comment = []; after = []; whole = refl; one_line = tt; ends = tt; then = ([], refl) })
passed (b ∷ bs) =
    let r = passed bs in
    let P : ℕ → Type 0 = λ n. IsGap (b ∷ bs) (drop n (b ∷ bs)) in
    let Q : ℕ → Type 0 = λ n. WithinComment (b ∷ bs) (drop n (b ∷ bs)) in
    let next : b ≢ 10 → Q (1 + gap true bs) = λ h. shifted (WithinComment (b ∷ bs)) b bs _ (goes_on b bs _ h r.1) in (
      pick P (nat_eq b 10) _ _ (λ h. shifted (IsGap (b ∷ bs)) b bs _ (space_first b bs _ (grind (arith, nat_tests)) r.0))
          (λ _. pick P (nat_eq b 35) _ _ (λ h. shifted (IsGap (b ∷ bs)) b bs _ (comment_first b bs _ (grind (arith, nat_tests)) r.1))
          (λ _. pick P (nat_eq b 32 || (nat_eq b 9 || nat_eq b 13)) _ _ (λ h. shifted (IsGap (b ∷ bs)) b bs _ (space_first b bs _ (grind (arith, nat_tests)) r.0)) (λ _. ([], refl)))),
      pick Q (nat_eq b 10) _ _ (λ h. shifted (WithinComment (b ∷ bs)) b bs _ (line_ends b bs _ (grind (arith, nat_tests)) r.0))
          (λ h. let other : b ≢ 10 = grind (arith, nat_tests) in pick Q (nat_eq b 35) _ _ (λ _. next other)
          (λ _. pick Q (nat_eq b 32 || (nat_eq b 9 || nat_eq b 13)) _ _ (λ _. next other) (λ _. next other))),
    )

pub gap_fills : (bs : List ℕ) → IsGap bs (drop (gap false bs) bs)
gap_fills bs = (passed bs).0

pub cut_between : (old text new : List ℕ) → drop (gap false old) old ≡ text ++ new → IsGap old (text ++ new)
cut_between old text new whole = subst (IsGap old) whole (gap_fills old)
