-- The links of delays.
use Rattle.std.proofs.Common.{◌≡◌, ℕ, zero, suc, ◌<◌, Bool, true, false, cond, ltb, ◌&&◌, List, [], ◌∷◌, length, get_or, Option, Some, None, refl, sym, ap, ◌∙◌, subst, arith}
use Rattle.std.specs.List.{All, Contains, cons_option}
use Rattle.std.specs.List.Sorted.{IsPermutation}
use Rattle.std.proofs.lemmas.Bool.{and_parts, and_from, ltb-true, lt-ltb}
use Rattle.std.proofs.lemmas.List.{get_or_default}
use Rattle.std.proofs.lemmas.List.Elements.{All-cons, All-nil}
use Rattle.std.proofs.lemmas.List.Sorted.{All-permutation, Contains-permutation, IsPermutation-sym}
use Rattle.waiting_pairs.specs.declared.delay.Delay.{Delay}
use Rattle.waiting_pairs.specs.declared.links.Link.{Link}
use Rattle.waiting_pairs.specs.Chains.{Waited}
use Rattle.waiting_pairs.specs.Steps.{link_at, link_of, links, no_link}

abbrev own : Delay → Link
own d = record { ticket = d.ticket; older = d.older }

abbrev Fits : ℕ → Link → Type 0
Fits n l = (l.older < l.ticket) × (l.ticket < n)

-- ---- each link is of a ticket that waited

fits_one : (n : ℕ) (d : Delay) (rest : List Link) → All (Fits n) rest → (b : Bool) → (ltb d.older d.ticket && ltb d.ticket n) ≡ b → All (Fits n) (cons_option (cond b (Some (own d)) None) rest)
fits_one n d rest h true e =
    let parts = and_parts (ltb d.older d.ticket) (ltb d.ticket n) e in
    All-cons (Fits n) (own d) rest (ltb-true d.older d.ticket parts.0, ltb-true d.ticket n parts.1) h
fits_one n d rest h false e = h

all_fit : (n : ℕ) (ds : List Delay) → All (Fits n) (links n ds)
all_fit n [] = All-nil (Fits n)
all_fit n (d ∷ ds) = fits_one n d (links n ds) (all_fit n ds) (ltb d.older d.ticket && ltb d.ticket n) refl

waited_more : (n : ℕ) (d : Delay) (ds : List Delay) (t u : ℕ) → Waited n ds t u → Waited n (d ∷ ds) t u
waited_more n d ds t u w = record {
  delay = w.delay;
  among = (suc w.among.0, omega (arith, w.among.1), w.among.2);
  ticket_is = w.ticket_is;
  older_is = w.older_is;
  is_older = w.is_older;
  is_request = w.is_request;
}

module _ (n : ℕ) (d : Delay) (ds : List Delay) (rest : List Link) (further : (k : ℕ) (l : Link) → k < length rest → get_or rest k l ≡ l → Waited n ds l.ticket l.older) where
  waited_one : (b : Bool) → (ltb d.older d.ticket && ltb d.ticket n) ≡ b → (k : ℕ) (l : Link) → k < length (cons_option (cond b (Some (own d)) None) rest)
      → get_or (cons_option (cond b (Some (own d)) None) rest) k l ≡ l → Waited n (d ∷ ds) l.ticket l.older
  waited_one true e zero l lt is =
      let parts = and_parts (ltb d.older d.ticket) (ltb d.ticket n) e in
      let t : d.ticket ≡ l.ticket = ap (λ (z : Link). z.ticket) is in
      let o : d.older ≡ l.older = ap (λ (z : Link). z.older) is in
      record {
        delay = d;
        among = (0, omega arith, refl);
        ticket_is = t;
        older_is = o;
        is_older = omega (arith, t, o, ltb-true d.older d.ticket parts.0);
        is_request = omega (arith, t, ltb-true d.ticket n parts.1);
      }
  waited_one true e (suc k) l lt is = waited_more n d ds l.ticket l.older (further k l (omega (arith, lt)) is)
  waited_one false e k l lt is = waited_more n d ds l.ticket l.older (further k l lt is)

waited_at : (n : ℕ) (ds : List Delay) (k : ℕ) (l : Link) → k < length (links n ds) → get_or (links n ds) k l ≡ l → Waited n ds l.ticket l.older
waited_at n [] k l lt is = absurd (omega (arith, lt))
waited_at n (d ∷ ds) k l lt is = waited_one n d ds (links n ds) (λ j m. waited_at n ds j m) (ltb d.older d.ticket && ltb d.ticket n) refl k l lt is

-- ---- each ticket that waited has its link

kept : (o : Option Link) (xs : List Link) (l : Link) → Contains xs l → Contains (cons_option o xs) l
kept None xs l h = h
kept (Some y) xs l h = (suc h.0, omega (arith, h.1), h.2)

abbrev picked : Delay → Bool → Option Link
picked d b = cond b (Some (own d)) None

in_links : (n : ℕ) (ds : List Delay) (k : ℕ) (d : Delay) → k < length ds → get_or ds k d ≡ d → (ltb d.older d.ticket && ltb d.ticket n) ≡ true → Contains (links n ds) (own d)
in_links n [] k d lt is h = absurd (omega (arith, lt))
in_links n (x ∷ xs) zero d lt is h =
    let first : link_of n x ≡ Some (own d) = ap (link_of n) is ∙ ap (picked d) h in
    subst (λ (o : Option Link). Contains (cons_option o (links n xs)) (own d)) (sym first) (0, omega arith, refl)
in_links n (x ∷ xs) (suc k) d lt is h = kept (link_of n x) (links n xs) (own d) (in_links n xs k d (omega (arith, lt)) is h)

-- ---- over the same links in another order
module _ (n : ℕ) (ds : List Delay) (ls : List Link) (same : IsPermutation (links n ds) ls) where
  pub links_fit : All (λ (l : Link). (l.older < l.ticket) × (l.ticket < n)) ls
  links_fit = All-permutation (Fits n) (links n ds) ls same (all_fit n ds)

  pub from_link : (k : ℕ) → k < length ls → Waited n ds (link_at ls k).ticket (link_at ls k).older
  from_link k lt =
      let found = Contains-permutation ls (links n ds) (link_at ls k) (IsPermutation-sym (links n ds) ls same) (k, lt, get_or_default ls k (link_at ls k) no_link lt) in
      waited_at n ds found.0 (link_at ls k) found.1 found.2

  pub to_link : (t u : ℕ) → Waited n ds t u → (k : ℕ) × (k < length ls) × (link_at ls k ≡ record { ticket = t; older = u })
  to_link t u w =
      let older : w.delay.older < w.delay.ticket = omega (arith, w.is_older, w.ticket_is, w.older_is) in
      let there : w.delay.ticket < n = omega (arith, w.is_request, w.ticket_is) in
      let h = in_links n ds w.among.0 w.delay w.among.1 w.among.2 (and_from (ltb w.delay.older w.delay.ticket) (ltb w.delay.ticket n) (lt-ltb w.delay.older w.delay.ticket older) (lt-ltb w.delay.ticket n there)) in
      let found = Contains-permutation (links n ds) ls (own w.delay) same h in
      let own_is : own w.delay ≡ record { ticket = t; older = u } = λ i. record { ticket = w.ticket_is i; older = w.older_is i } in
      (found.0, found.1, get_or_default ls found.0 no_link (own w.delay) found.1 ∙ found.2 ∙ own_is)
