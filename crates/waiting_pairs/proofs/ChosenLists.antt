-- Lists of the operations that a symbol delays.
use Rattle.std.proofs.Common.{◌≡◌, ℕ, zero, suc, ◌+◌, ◌<◌, ◌≤◌, inl, inr, Bool, true, false, cond, not, List, [], ◌∷◌, ◌++◌, map, length, take, get_or, Option, Some, None, Contains, append_assoc, append-nil, refl, sym, ap, subst, ◌∙◌, arith}
use Rattle.std.specs.Prelude.{Vec, unwrap_or}
use Rattle.std.specs.Bool.{Decides}
use Rattle.std.specs.List.{All, list_any}
use Rattle.std.specs.Map.{lookup}
use Rattle.std.proofs.lemmas.List.{map-append, take_all, take_more}
use Rattle.std.proofs.lemmas.List.Elements.{Contains-append_left, Contains-push}
use Rattle.indexmap.specs.IndexMap.{insert_entry}
use Rattle.symbolic_ops.specs.declared.symbol.Symbol.{Symbol}
use Rattle.waiting_pairs.specs.declared.asked.Asked.{Asked}
use Rattle.waiting_pairs.specs.declared.known.Known.{Known}
use Rattle.waiting_pairs.specs.declared.sought.Sought.{Sought}
use Rattle.waiting_pairs.specs.declared.waiting.Wait.{Wait}
use Rattle.waiting_pairs.specs.Chosen.{AreAmong, Chosen, IsKnown}
use Rattle.waiting_pairs.specs.Delays.{Delays}
use Rattle.waiting_pairs.specs.Same.{one_sought, one_symbol}
use Rattle.waiting_pairs.specs.Sought.{is_sought}
use Rattle.waiting_pairs.specs.Waits.{Adds, Picks, against, wait}

-- ---- lists of all
all_cons : {X : Type 0} (P : X → Type 0) (x : X) (xs : List X) → P x → All P xs → All P (x ∷ xs)
all_cons P x xs p h zero d lt = p
all_cons P x xs p h (suc k) d lt = h k d (omega (arith, lt))

all_tail : {X : Type 0} (P : X → Type 0) (x : X) (xs : List X) → All P (x ∷ xs) → All P xs
all_tail P x xs h k d lt = h (suc k) d (omega (arith, lt))

all_push : {X : Type 0} (P : X → Type 0) (xs : List X) (x : X) → All P xs → P x → All P (xs ++ x ∷ [])
all_push P [] x h p = all_cons P x [] p h
all_push P (y ∷ ys) x h p = all_cons P y (ys ++ x ∷ []) (h 0 y (omega arith)) (all_push P ys x (all_tail P y ys h) p)

pub all_nil : {X : Type 0} (P : X → Type 0) → All P []
all_nil P k d lt = absurd (omega (arith, lt))

one_more : {X : Type 0} (xs : List X) (i : ℕ) (x : X) → i < length xs → x ≡ get_or xs i x → take (i + 1) xs ≡ take i xs ++ x ∷ []
one_more {X} xs i x lt is = take_more xs i x lt ∙ ap (λ (z : X). take i xs ++ z ∷ []) (sym is)

clash : false ≡ true → ⊥
clash e = cc

-- ---- one more operation
chosen_append : (s : Symbol) (xs ys a b : List Asked) → Chosen s xs a → Chosen s ys b → Chosen s (xs ++ ys) (a ++ b)
chosen_append s [] ys a b p q = subst (λ (z : List Asked). Chosen s ys (z ++ b)) (sym p) q
chosen_append s (x ∷ xs) ys a b (inl (d, (rest, r, e))) q = inl (d, (rest ++ b, chosen_append s xs ys rest b r q, ap (λ (z : List Asked). z ++ b) e))
chosen_append s (x ∷ xs) ys a b (inr (n, r)) q = inr (n, chosen_append s xs ys a b r q)

pub chosen_hit : (s : Symbol) (xs : List Asked) (i : ℕ) (a : Asked) (old new : List Asked) (r : Bool) → i < length xs → a ≡ get_or xs i a → r ≡ true → Decides r (Delays s a.op)
    → Chosen s (take i xs) old → new ≡ old ++ a ∷ [] → Chosen s (take (i + 1) xs) new
chosen_hit s xs i a old new r lt is e d so_far pushed =
    subst (λ (z : List Asked). Chosen s z new) (sym (one_more xs i a lt is))
    (subst (λ (z : List Asked). Chosen s (take i xs ++ a ∷ []) z) (sym pushed)
    (chosen_append s (take i xs) (a ∷ []) old (a ∷ []) so_far (inl (d.0 e, ([], refl, refl)))))

pub chosen_miss : (s : Symbol) (xs : List Asked) (i : ℕ) (a : Asked) (old : List Asked) (r : Bool) → i < length xs → a ≡ get_or xs i a → r ≡ false → Decides r (Delays s a.op)
    → Chosen s (take i xs) old → Chosen s (take (i + 1) xs) old
chosen_miss s xs i a old r lt is e d so_far =
    subst (λ (z : List Asked). Chosen s z old) (sym (one_more xs i a lt is))
    (subst (λ (z : List Asked). Chosen s (take i xs ++ a ∷ []) z) (append-nil old)
    (chosen_append s (take i xs) (a ∷ []) old [] so_far (inr (λ y. clash (sym e ∙ d.1 y), refl))))

pub chosen_all : (s : Symbol) (xs : List Asked) (i : ℕ) (found : List Asked) → length xs ≤ i → Chosen s (take i xs) found → Chosen s xs found
chosen_all s xs i found le = subst (λ (z : List Asked). Chosen s z found) (take_all i xs le)

-- ---- where none is delayed
pub none_more : (s : Symbol) (ops : List Symbol) (i : ℕ) (o : Symbol) (r : Bool) → i < length ops → o ≡ get_or ops i o → r ≡ false → Decides r (Delays s o)
    → All (λ q. Delays s q → ⊥) (take i ops) → All (λ q. Delays s q → ⊥) (take (i + 1) ops)
none_more s ops i o r lt is e d so_far =
    subst (λ (z : List Symbol). All (λ q. Delays s q → ⊥) z) (sym (one_more ops i o lt is)) (all_push (λ q. Delays s q → ⊥) (take i ops) o so_far (λ y. clash (sym e ∙ d.1 y)))

pub none_all : (s : Symbol) (ops : List Symbol) (i : ℕ) → length ops ≤ i → All (λ q. Delays s q → ⊥) (take i ops) → All (λ q. Delays s q → ⊥) ops
none_all s ops i le = subst (λ (z : List Symbol). All (λ q. Delays s q → ⊥) z) (take_all i ops le)

none_chosen : (s : Symbol) (xs : List Asked) → All (λ a. Delays s a.op → ⊥) xs → Chosen s xs []
none_chosen s [] h = refl
none_chosen s (x ∷ xs) h = inr (h 0 x (omega arith), none_chosen s xs (all_tail (λ a. Delays s a.op → ⊥) x xs h))

pub none_of_ops : (s : Symbol) (ops : List Symbol) (asked : List Asked) → AreAmong ops asked → All (λ o. Delays s o → ⊥) ops → Chosen s asked []
none_of_ops s ops asked among none =
    none_chosen s asked (λ k d lt. let m = among k d lt in subst (λ (o : Symbol). Delays s o → ⊥) m.2 (none m.0 (get_or asked k d).op m.1))

-- ---- the operations, each once
seen_on : (ops more : List Symbol) (key q : Sought) (has : Sought → Bool) → (has q ≡ true → Contains more q.symbol) → Contains more key.symbol
    → (b : Bool) → is_sought key q ≡ b → cond b true (has q) ≡ true → Contains more q.symbol
seen_on ops more key q has old new true k h = subst (λ (z : Sought). Contains more z.symbol) (one_sought key q k) new
seen_on ops more key q has old new false k h = old h

pub none_seen : (q : Sought) (keys : List Sought) → keys ≡ [] → list_any (is_sought q) keys ≡ true → ⊥
none_seen q keys e h = clash (subst (λ (ks : List Sought). list_any (is_sought q) ks ≡ true) e h)

pub was_there : (had new : Bool) → new ≡ not had → new ≡ false → had ≡ true
was_there true new is h = refl
was_there false new is h = cc

-- an operation that was there
pub seen_again : (ops : List Symbol) (key : Sought) (has after : Sought → Bool) → ((q : Sought) → after q ≡ cond (is_sought key q) true (has q))
    → ((q : Sought) → has q ≡ true → Contains ops q.symbol) → has key ≡ true → (q : Sought) → after q ≡ true → Contains ops q.symbol
seen_again ops key has after step old there q h = seen_on ops ops key q has (old q) (old key there) (is_sought key q) refl (sym (step q) ∙ h)

-- and one that is new
pub seen_new : (ops more : List Symbol) (key : Sought) (has after : Sought → Bool) → ((q : Sought) → after q ≡ cond (is_sought key q) true (has q))
    → ((q : Sought) → has q ≡ true → Contains ops q.symbol) → more ≡ ops ++ key.symbol ∷ [] → (q : Sought) → after q ≡ true → Contains more q.symbol
seen_new ops more key has after step old is =
    subst (λ (z : List Symbol). (q : Sought) → after q ≡ true → Contains z q.symbol) (sym is)
    (λ q h. seen_on ops (ops ++ key.symbol ∷ []) key q has (λ k. Contains-append_left ops (key.symbol ∷ []) q.symbol (old q k)) (Contains-push ops key.symbol) (is_sought key q) refl (sym (step q) ∙ h))

pub among_again : (ops : List Symbol) (xs : List Asked) (i : ℕ) (a : Asked) → i < length xs → a ≡ get_or xs i a → AreAmong ops (take i xs) → Contains ops a.op → AreAmong ops (take (i + 1) xs)
among_again ops xs i a lt is so_far there =
    subst (AreAmong ops) (sym (one_more xs i a lt is)) (all_push (λ x. Contains ops x.op) (take i xs) a so_far there)

pub among_new : (ops more : List Symbol) (xs : List Asked) (i : ℕ) (a : Asked) → i < length xs → a ≡ get_or xs i a → AreAmong ops (take i xs) → more ≡ ops ++ a.op ∷ [] → AreAmong more (take (i + 1) xs)
among_new ops more xs i a lt is so_far pushed =
    subst (λ (z : List Symbol). AreAmong z (take (i + 1) xs)) (sym pushed)
    (among_again (ops ++ a.op ∷ []) xs i a lt is (λ k d near. Contains-append_left ops (a.op ∷ []) (get_or (take i xs) k d).op (so_far k d near)) (Contains-push ops a.op))

pub among_all : (ops : List Symbol) (xs : List Asked) (i : ℕ) → length xs ≤ i → AreAmong ops (take i xs) → AreAmong ops xs
among_all ops xs i le = subst (AreAmong ops) (take_all i xs le)

-- ---- waits
chosen_picks : (h p : ℕ) (s : Symbol) (xs found : List Asked) → Chosen s xs found → Picks (map (wait h p s) xs) (map (wait h p s) found)
chosen_picks h p s [] found e = ap (map (wait h p s)) e
chosen_picks h p s (x ∷ xs) found (inl (d, (rest, r, e))) = inl (d, (map (wait h p s) rest, chosen_picks h p s xs rest r, ap (map (wait h p s)) e))
chosen_picks h p s (x ∷ xs) found (inr (n, r)) = inr (n, chosen_picks h p s xs found r)

pub adds_list : (h p : ℕ) (s : Symbol) (asked found : List Asked) (old new : List Wait) → Chosen s asked found → new ≡ old ++ map (wait h p s) found → Adds (against h p asked s) old new
adds_list h p s asked found old new c e = (map (wait h p s) found, chosen_picks h p s asked found c, e)

-- ---- lists that were looked up
module _ {A : Type 0} (asked : List Asked) where
  found_on : (k : Sought) (e : Sought × Vec Asked A) (list : Vec Asked A) (rest : Option (Vec Asked A)) → Chosen e.0.symbol asked e.1.items → (rest ≡ Some list → Chosen k.symbol asked list.items)
      → (b : Bool) → is_sought k e.0 ≡ b → cond b (Some e.1) rest ≡ Some list → Chosen k.symbol asked list.items
  found_on k e list rest c go true same h =
      subst (λ (z : Symbol). Chosen z asked list.items) (sym (one_symbol k.symbol e.0.symbol same))
      (subst (λ (v : Vec Asked A). Chosen e.0.symbol asked v.items) (ap (λ (o : Option (Vec Asked A)). unwrap_or o e.1) h) c)
  found_on k e list rest c go false same h = go h

  pub found_list : (k : Sought) (list : Vec Asked A) (es : List (Sought × Vec Asked A)) → All (λ e. Chosen e.0.symbol asked e.1.items) es → lookup (is_sought k) es ≡ Some list → Chosen k.symbol asked list.items
  found_list k list [] all h = cc
  found_list k list (e ∷ es) all h =
      found_on k e list (lookup (is_sought k) es) (all 0 e (omega arith)) (found_list k list es (all_tail (λ e. Chosen e.0.symbol asked e.1.items) e es all)) (is_sought k e.0) refl h

  inserted_on : (k : Sought) (v : Vec Asked A) (e : Sought × Vec Asked A) (es more : List (Sought × Vec Asked A)) → Chosen k.symbol asked v.items → All (λ e. Chosen e.0.symbol asked e.1.items) (e ∷ es) → All (λ e. Chosen e.0.symbol asked e.1.items) more
      → (b : Bool) → is_sought k e.0 ≡ b → All (λ e. Chosen e.0.symbol asked e.1.items) (cond b ((e.0, v) ∷ es) (e ∷ more))
  inserted_on k v e es more c all rest true same =
      all_cons (λ e. Chosen e.0.symbol asked e.1.items) (e.0, v) es (subst (λ (z : Symbol). Chosen z asked v.items) (one_symbol k.symbol e.0.symbol same) c) (all_tail (λ e. Chosen e.0.symbol asked e.1.items) e es all)
  inserted_on k v e es more c all rest false same = all_cons (λ e. Chosen e.0.symbol asked e.1.items) e more (all 0 e (omega arith)) rest

  pub inserted_list : (k : Sought) (v : Vec Asked A) (es : List (Sought × Vec Asked A)) → Chosen k.symbol asked v.items → All (λ e. Chosen e.0.symbol asked e.1.items) es → All (λ e. Chosen e.0.symbol asked e.1.items) (insert_entry is_sought es k v)
  inserted_list k v [] c all = all_cons (λ e. Chosen e.0.symbol asked e.1.items) (k, v) [] c all
  inserted_list k v (e ∷ es) c all =
      inserted_on k v e es (insert_entry is_sought es k v) c all (inserted_list k v es c (all_tail (λ e. Chosen e.0.symbol asked e.1.items) e es all)) (is_sought k e.0) refl

-- ---- lists behind one another
pub appended_more : {X Y : Type 0} (f : X → Y) (xs : List X) (i : ℕ) (x : X) (front old new : List Y) → i < length xs → x ≡ get_or xs i x → new ≡ old ++ f x ∷ [] → old ≡ front ++ map f (take i xs) → new ≡ front ++ map f (take (i + 1) xs)
appended_more {X} {Y} f xs i x front old new lt is pushed so_far =
    pushed ∙ ap (λ (z : List Y). z ++ f x ∷ []) so_far ∙ append_assoc front (map f (take i xs)) (f x ∷ [])
    ∙ ap (λ (z : List Y). front ++ z) (sym (map-append f (take i xs) (x ∷ [])))
    ∙ ap (λ (z : List X). front ++ map f z) (sym (one_more xs i x lt is))

-- ---- what is known
pub known_more : (asked : List Asked) (old new : Known) → IsKnown asked old → new.asked.items ≡ old.asked.items → new.ops.items ≡ old.ops.items
    → All (λ e. Chosen e.0.symbol asked e.1.items) new.lists.entries → IsKnown asked new
known_more asked old new k a o l = record {
  asked_is = a ∙ k.asked_is;
  ops = subst (λ (z : List Symbol). AreAmong z asked) (sym o) k.ops;
  lists = l;
}
