-- Loops that write one text after the other, and lists of mentions.
use Rattle.std.proofs.Common.{◌≡◌, ℕ, zero, suc, ◌+◌, ◌-◌, ◌<◌, ◌≤◌, List, [], ◌∷◌, ◌++◌, map, length, take, drop, get_or, refl, sym, ap, ◌∙◌, subst, arith}
use Rattle.std.proofs.lemmas.List.{drop_more, drop_all, take_all}
use Rattle.std.specs.Prelude.{codes}
use Rattle.std.specs.List.{AllByRecursion, flat_map}
use Rattle.syntax_printer.specs.Canonical.{each, further, listed, indent}
use Rattle.syntax_trees.specs.Mentions.{Mention, AreNamed}
use Rattle.syntax_trees.proofs.Mentions.{all_first}
use Rattle.syntax_printer.specs.Writing.{Text}
use Rattle.byte_ends.specs.Texts.{Adds, Due, Ends}

-- what was to come with the whole text is to come with what is left of it
pub record Owes {S : Type 0} (D : Due S) (text left : List ℕ → List ℕ) (was now : S) : Type 0 where
  pub before : (start : S) (whole rest : List ℕ) → D start whole was (text rest) → D start whole now (left rest)

pub owes_all : {S : Type 0} {D : Due S} (text : Text) (was : S) → Owes D text text was was
owes_all text was = record { before = λ start whole rest d. d }

-- nothing is put
pub adds_none : {S : Type 0} {D : Due S} (was : S) → Adds D (λ rest. rest) was was
adds_none was = record { before = λ start whole rest d. d }

-- a part of what is left is written
pub owes_less : {S : Type 0} {D : Due S} {text left more t : List ℕ → List ℕ} {was now next : S} → ((rest : List ℕ) → left rest ≡ t (more rest)) → Owes D text left was now → Adds D t now next → Owes D text more was next
owes_less {S} {D} {text} {left} {more} {t} {was} {now} {next} e o a =
    record { before = λ start whole rest d. a.before start whole (more rest) (subst (D start whole now) (e rest) (o.before start whole rest d)) }

-- nothing is left
pub owes_none : {S : Type 0} {D : Due S} {text left : List ℕ → List ℕ} {was now : S} → ((rest : List ℕ) → left rest ≡ rest) → Owes D text left was now → Adds D text was now
owes_none {S} {D} {text} {left} {was} {now} e o = record { before = λ start whole rest d. subst (D start whole now) (e rest) (o.before start whole rest d) }

-- two texts, one behind the other
pub adds_both : {S : Type 0} {D : Due S} {t u : List ℕ → List ℕ} {was now next : S} → Adds D t was now → Adds D u now next → Adds D (λ rest. t (u rest)) was next
adds_both {S} {D} {t} {u} a b = record { before = λ start whole rest d. b.before start whole rest (a.before start whole (u rest) d) }

-- the same text, said in other words
pub adds_as : {S : Type 0} {D : Due S} {t u : List ℕ → List ℕ} {was now : S} → ((rest : List ℕ) → t rest ≡ u rest) → Adds D t was now → Adds D u was now
adds_as {S} {D} {t} {u} {was} {now} e a = record { before = λ start whole rest d. a.before start whole rest (subst (D start whole was) (sym (e rest)) d) }

pub adds_bytes : {S : Type 0} {D : Due S} {xs ys : List ℕ} {was now : S} → xs ≡ ys → Adds D (λ rest. xs ++ rest) was now → Adds D (λ rest. ys ++ rest) was now
adds_bytes {S} {D} {xs} {ys} {was} {now} e a = subst (λ zs. Adds D (λ rest. zs ++ rest) was now) e a

pub adds_at : {S : Type 0} {D : Due S} {X : Type 0} {was now : S} (f : X → Text) {x y : X} → x ≡ y → Adds D (f x) was now → Adds D (f y) was now
adds_at {S} {D} {X} {was} {now} f e a = subst (λ z. Adds D (f z) was now) e a

pub ends_as : {S : Type 0} {D : Due S} {xs ys : List ℕ} {was now : S} → xs ≡ ys → Ends D xs was now → Ends D ys was now
ends_as {S} {D} {xs} {ys} {was} {now} e a = subst (λ zs. Ends D zs was now) e a

-- what a pattern takes for all but the first element
pub behind_first : {X : Type 0} (xs : List X) → take (length xs - 1) (drop 1 xs) ≡ drop 1 xs
behind_first [] = refl
behind_first (x ∷ xs) = let e : suc (length xs) - 1 ≡ length xs = omega arith in rw e (take_all (length xs) xs (omega arith))

module _ {X : Type 0} (f : X → Text) where
  each_first : (xs : List X) (i : ℕ) (x d : X) → i < length xs → x ≡ get_or xs i d → (rest : List ℕ) → each (map f (drop i xs)) rest ≡ f x (each (map f (drop (i + 1) xs)) rest)
  each_first xs i x d h is rest = ap (λ ys. each (map f ys) rest) (drop_more xs i d h) ∙ ap (λ y. f y (each (map f (drop (i + 1) xs)) rest)) (sym is)

  further_first : (xs : List X) (i : ℕ) (x d : X) → i < length xs → x ≡ get_or xs i d → (rest : List ℕ) → further (map f (drop i xs)) rest ≡ codes ", " ++ f x (further (map f (drop (i + 1) xs)) rest)
  further_first xs i x d h is rest = ap (λ ys. further (map f ys) rest) (drop_more xs i d h) ∙ ap (λ y. codes ", " ++ f y (further (map f (drop (i + 1) xs)) rest)) (sym is)

  pub each_turn : {text : List ℕ → List ℕ} {S : Type 0} {D : Due S} {was now next : S} (xs : List X) (i : ℕ) (x d : X) → i < length xs → x ≡ get_or xs i d → Owes D text (each (map f (drop i xs))) was now → Adds D (f x) now next → Owes D text (each (map f (drop (i + 1) xs))) was next
  each_turn xs i x d h is o a = owes_less (each_first xs i x d h is) o a

  pub each_end : {text : List ℕ → List ℕ} {S : Type 0} {D : Due S} {was now : S} (xs : List X) (i : ℕ) → length xs ≤ i → Owes D text (each (map f (drop i xs))) was now → Adds D text was now
  each_end xs i h o = owes_none (λ rest. ap (λ ys. each (map f ys) rest) (drop_all i xs h)) o

  pub further_turn : {text : List ℕ → List ℕ} {S : Type 0} {D : Due S} {was now comma next : S} (xs : List X) (i : ℕ) (x d : X) → i < length xs → x ≡ get_or xs i d → Owes D text (further (map f (drop i xs))) was now → Adds D (λ rest. codes ", " ++ rest) now comma → Adds D (f x) comma next
      → Owes D text (further (map f (drop (i + 1) xs))) was next
  further_turn xs i x d h is o a b = owes_less (further_first xs i x d h is) o (adds_both a b)

  pub further_end : {text : List ℕ → List ℕ} {S : Type 0} {D : Due S} {was now : S} (xs : List X) (i : ℕ) → length xs ≤ i → Owes D text (further (map f (drop i xs))) was now → Adds D text was now
  further_end xs i h o = owes_none (λ rest. ap (λ ys. further (map f ys) rest) (drop_all i xs h)) o

  pub listed_turn : {S : Type 0} {D : Due S} {was now next : S} (xs : List X) (x d : X) → 1 ≤ length xs → x ≡ get_or xs 0 d → Adds D (f x) was now → Adds D (further (map f (take (length xs - 1) (drop 1 xs)))) now next → Adds D (listed (map f xs)) was next
  listed_turn [] x d h is a b = absurd (omega arith)
  listed_turn {S} {D} {was} {now} {next} (y ∷ ys) x d h is a b =
      let more = subst (λ zs. Adds D (further (map f zs)) now next) (behind_first (y ∷ ys)) b in
      adds_both (subst (λ z. Adds D (f z) was now) is a) more

-- ---- mentions

-- those of an element, and of the elements behind it
pub named_turn : {X : Type 0} (names : List (List ℕ)) (f : X → List Mention) (xs : List X) (i : ℕ) (x d : X) → i < length xs → x ≡ get_or xs i d → AreNamed names (flat_map f (drop i xs)) → AreNamed names (f x) × AreNamed names (flat_map f (drop (i + 1) xs))
named_turn names f xs i x d h is all =
    let P = λ (ys : List Mention). AreNamed names ys in
    let k = all_first _ (f (get_or xs i d)) (flat_map f (drop (i + 1) xs)) (subst P (ap (flat_map f) (drop_more xs i d h)) all) in
    (subst (λ y. AreNamed names (f y)) (sym is) k.0, k.1)

pub named_first : {X : Type 0} (names : List (List ℕ)) (f : X → List Mention) (xs : List X) (x d : X) → 1 ≤ length xs → x ≡ get_or xs 0 d → AreNamed names (flat_map f xs) → AreNamed names (f x) × AreNamed names (flat_map f (take (length xs - 1) (drop 1 xs)))
named_first names f [] x d h is all = absurd (omega arith)
named_first names f (y ∷ ys) x d h is all =
    let k = all_first _ (f y) (flat_map f ys) all in
    (subst (λ z. AreNamed names (f z)) (sym is) k.0, subst (λ zs. AreNamed names (flat_map f zs)) (sym (behind_first (y ∷ ys))) k.1)

-- what holds of all elements holds of an element, and of those behind it
pub all_turn : {X : Type 0} (P : X → Type 0) (xs : List X) (i : ℕ) (x d : X) → i < length xs → x ≡ get_or xs i d → AllByRecursion P (drop i xs) → P x × AllByRecursion P (drop (i + 1) xs)
all_turn P xs i x d h is all =
    let k = subst (λ ys. AllByRecursion P ys) (drop_more xs i d h) all in
    (subst P (sym is) k.0, k.1)

-- ---- indentation

indent_first : (n : ℕ) (rest : List ℕ) → 0 < n → indent n rest ≡ codes "  " ++ indent (n - 1) rest
indent_first zero rest h = absurd (omega arith)
indent_first (suc n) rest h = let e : n ≡ suc n - 1 = omega arith in ap (λ m. codes "  " ++ indent m rest) e

indent_none : (n : ℕ) (rest : List ℕ) → n ≡ 0 → indent n rest ≡ rest
indent_none n rest e = ap (λ m. indent m rest) e

pub indent_turn : {text : List ℕ → List ℕ} {S : Type 0} {D : Due S} {was now next : S} (depth i : ℕ) → i < depth → Owes D text (indent (depth - i)) was now → Adds D (λ rest. codes "  " ++ rest) now next → Owes D text (indent (depth - (i + 1))) was next
indent_turn depth i h o a = owes_less (λ rest. indent_first (depth - i) rest (omega arith) ∙ ap (λ n. codes "  " ++ indent n rest) (omega arith)) o a

pub indent_end : {text : List ℕ → List ℕ} {S : Type 0} {D : Due S} {was now : S} (depth i : ℕ) → depth ≤ i → Owes D text (indent (depth - i)) was now → Adds D text was now
indent_end depth i h o = owes_none (λ rest. indent_none (depth - i) rest (omega arith)) o
