use Rattle.std.proofs.Common.{◌≡◌, ℕ, zero, suc, ◌+◌, ◌<◌, ◌≤◌, true, false, List, [], ◌∷◌, length, get_or, drop, map, Some, refl, sym, ap, ◌∙◌, arith}
use Rattle.std.specs.Prelude.{if◌then◌else◌}
use Rattle.std.specs.Str.{bytes_eq}
use Rattle.session_values.specs.declared.kind.Kind.{Kind}
use Rattle.session_values.specs.Kinds.{word_of}
use Rattle.syntax_grammar.specs.declared.word.Sort.TheVariants as sort
use Rattle.syntax_grammar.specs.Keyword.{sort_in, operation_row}
use Rattle.syntax_grammar.proofs.keyword.operation_among.Goals as goal

-- an operation that has another word
missed : (ks : List Kind) (i : ℕ) (text : List ℕ) (d : Kind) → i < length ks → bytes_eq text (word_of (get_or ks i d)) ≡ false
    → sort_in (map operation_row (drop i ks)) text ≡ sort_in (map operation_row (drop (i + 1) ks)) text
missed [] i text d h e = absurd (omega (arith, h))
missed (k ∷ ks) zero text d h e = ap (λ b. if b then Some (sort.Do k) else sort_in (map operation_row ks) text) e
missed (k ∷ ks) (suc i) text d h e =
    let more : i + 1 ≡ suc i = omega arith in
    let most : suc i + 1 ≡ suc (i + 1) = omega arith in
    missed ks i text d (omega (arith, h)) e ∙ ap (λ n. sort_in (map operation_row (drop n (k ∷ ks))) text) (sym most)

hit : (ks : List Kind) (i : ℕ) (text : List ℕ) (d : Kind) → i < length ks → bytes_eq text (word_of (get_or ks i d)) ≡ true
    → sort_in (map operation_row (drop i ks)) text ≡ Some (sort.Do (get_or ks i d))
hit [] i text d h e = absurd (omega (arith, h))
hit (k ∷ ks) zero text d h e = ap (λ b. if b then Some (sort.Do k) else sort_in (map operation_row ks) text) e
hit (k ∷ ks) (suc i) text d h e = hit ks i text d (omega (arith, h)) e

all_seen : (ks : List Kind) (i : ℕ) → length ks ≤ i → drop i ks ≡ []
all_seen [] zero h = refl
all_seen [] (suc i) h = refl
all_seen (k ∷ ks) zero h = absurd (omega (arith, h))
all_seen (k ∷ ks) (suc i) h = all_seen ks i (omega (arith, h))

pub loop-kind-preserved : goal.loop-kind-preserved
loop-kind-preserved c =
    c.loop-kind.invariant
    ∙ missed c.args.kinds.now c.loop-kind.kind-index c.args.text.now _ c.loop-kind-test.true (ap (bytes_eq c.args.text.now) (sym c.word.ensures) ∙ sym c.eq.ensures ∙ c.if-eq.false)

pub returns-then-eq : goal.returns-then-eq
returns-then-eq c =
    sym (c.loop-kind.invariant ∙ hit c.args.kinds.now c.loop-kind.kind-index c.args.text.now _ c.loop-kind-test.true (ap (bytes_eq c.args.text.now) (sym c.word.ensures) ∙ sym c.eq.ensures ∙ c.if-eq.true))

pub returns : goal.returns
returns c = sym (c.loop-kind.invariant ∙ ap (λ l. sort_in (map operation_row l) c.args.text.now) (all_seen c.args.kinds.now c.loop-kind.kind-index c.loop-kind-test.false))
