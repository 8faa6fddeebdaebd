-- Words of given sorts, read as phrases.
use Rattle.std.proofs.Common.{◌≡◌, List, [], ◌∷◌, map, refl, ap, ◌∙◌}
use Rattle.syntax_grammar.specs.declared.word.Sort.{Sort}
use Rattle.syntax_grammar.specs.declared.word.Sort.TheVariants as sort
use Rattle.syntax_grammar.specs.declared.word.Word.{Word}
use Rattle.syntax_grammar.specs.Phrase.{word, mark_words}

-- words have these sorts
abbrev pub HaveSorts : List Word → List Sort → Type 0
HaveSorts us ss = map (λ (w : Word). w.sort) us ≡ ss

-- words begin with those of a phrase of this kind, and the others have these sorts
pub record Again {P : Type 0} (words : P → List Word → List Word) (Good : P → Type 0) (us : List Word) (ss : List Sort) : Type 0 where
  pub phrase : P
  pub rest : List Word
  pub is : us ≡ words phrase rest
  pub others : HaveSorts rest ss
  pub good : Good phrase

-- words that begin with such sorts begin with such a phrase
pub record Reads {P : Type 0} (words : P → List Word → List Word) (Good : P → Type 0) (S : List Sort → List Sort) : Type 0 where
  pub again : (us : List Word) (ss : List Sort) → HaveSorts us (S ss) → Again words Good us ss

abbrev pub Any : {P : Type 0} → P → Type 0
Any p = Unit {0}

-- ---- one word

first_of_sorts : List Sort → Sort
first_of_sorts [] = sort.End
first_of_sorts (s ∷ ss) = s

others_of_sorts : List Sort → List Sort
others_of_sorts [] = []
others_of_sorts (s ∷ ss) = ss

marked : (s : Sort) (us : List Word) (ss : List Sort) → HaveSorts us (s ∷ ss) → Again (mark_words s) Any us ss
unfolding first_of_sorts others_of_sorts
marked s [] ss h = absurd (cc)
marked s (w ∷ us) ss h =
    record { phrase = w.at; rest = us; is = ap (λ x. word x w.at ∷ us) (ap first_of_sorts h); others = ap others_of_sorts h; good = tt }

pub mark : (s : Sort) → Reads (mark_words s) Any (λ ss. s ∷ ss)
mark s = record { again = marked s }

-- ---- phrases of parts

pub followed : {P Q : Type 0} {w : P → List Word → List Word} {v : Q → List Word → List Word} {G : P → Type 0} {H : Q → Type 0} {S T : List Sort → List Sort}
    → Reads w G S → Reads v H T → Reads (λ (x : P × Q) rest. w x.0 (v x.1 rest)) (λ (x : P × Q). G x.0 × H x.1) (λ ss. S (T ss))
followed {P} {Q} {w} {v} {G} {H} {S} {T} a b = record {
  again = λ us ss h.
      let x = a.again us (T ss) h in
      let y = b.again x.rest ss x.others in
      record { phrase = (x.phrase, y.phrase); rest = y.rest; is = x.is ∙ ap (w x.phrase) y.is; others = y.others; good = (x.good, y.good) };
}

-- a phrase that is made of another, whose kind it may need
pub made_from : {P Q : Type 0} {w : P → List Word → List Word} {v : Q → List Word → List Word} {G : P → Type 0} {H : Q → Type 0} {S : List Sort → List Sort}
    → Reads w G S → (f : (p : P) → G p → Q) → ((p : P) (g : G p) (rest : List Word) → w p rest ≡ v (f p g) rest) → ((p : P) (g : G p) → H (f p g)) → Reads v H S
made_from a f words good = record {
  again = λ us ss h.
      let x = a.again us ss h in
      record { phrase = f x.phrase x.good; rest = x.rest; is = x.is ∙ words x.phrase x.good x.rest; others = x.others; good = good x.phrase x.good };
}

pub made : {P Q : Type 0} {w : P → List Word → List Word} {v : Q → List Word → List Word} {G : P → Type 0} {H : Q → Type 0} {S : List Sort → List Sort}
    → Reads w G S → (f : P → Q) → ((p : P) (rest : List Word) → w p rest ≡ v (f p) rest) → ((p : P) → G p → H (f p)) → Reads v H S
made a f words good = made_from a (λ p g. f p) (λ p g rest. words p rest) good

pub weaker : {P : Type 0} {w : P → List Word → List Word} {G H : P → Type 0} {S : List Sort → List Sort} → Reads w G S → ((p : P) → G p → H p) → Reads w H S
weaker a good = made a (λ p. p) (λ p rest. refl) good

pub sorted : {P : Type 0} {w : P → List Word → List Word} {G : P → Type 0} {S T : List Sort → List Sort} → ((ss : List Sort) → S ss ≡ T ss) → Reads w G T → Reads w G S
sorted e a = record { again = λ us ss h. a.again us ss (h ∙ e ss) }

-- a phrase of no words
pub empty : {P : Type 0} {w : P → List Word → List Word} {G : P → Type 0} (p : P) → ((rest : List Word) → rest ≡ w p rest) → G p → Reads w G (λ ss. ss)
empty p words good = record { again = λ us ss h. record { phrase = p; rest = us; is = words us; others = h; good = good } }
