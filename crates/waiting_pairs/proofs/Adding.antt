-- Lists to which those that delay were appended.
use Rattle.std.proofs.Common.{◌≡◌, Bool, true, false, ℕ, suc, ◌+◌, ◌-◌, ◌<◌, ◌≤◌, ◌⊎◌, inl, inr, List, [], ◌∷◌, ◌++◌, map, length, take, get_or, append_assoc, append-nil, refl, sym, ap, subst, ◌∙◌, arith}
use Rattle.std.proofs.lemmas.List.{map-append, take_more, take_all}
use Rattle.std.proofs.lemmas.List.Concat.{flat_map-append}
use Rattle.std.specs.Bool.{Decides}
use Rattle.std.specs.List.{flat_map}
use Rattle.symbolic_ops.specs.declared.symbol.Symbol.{Symbol}
use Rattle.waiting_pairs.specs.declared.asked.Asked.{Asked}
use Rattle.waiting_pairs.specs.declared.waiting.Wait.{Wait}
use Rattle.serve_reading.specs.Program.{ProgramView, declared_at}
use Rattle.waiting_pairs.specs.Again.{AreAlike, moved_to}
use Rattle.waiting_pairs.specs.Waits.{Adds, IsDelay, Picks, against, at_point, gather, wait}

pub picks_append : (xs ys a b : List Wait) → Picks xs a → Picks ys b → Picks (xs ++ ys) (a ++ b)
picks_append [] ys a b p q = subst (λ (z : List Wait). Picks ys (z ++ b)) (sym p) q
picks_append (w ∷ ws) ys a b (inl (d, (rest, r, e))) q = inl (d, (rest ++ b, picks_append ws ys rest b r q, ap (λ (z : List Wait). z ++ b) e))
picks_append (w ∷ ws) ys a b (inr (n, r)) q = inr (n, picks_append ws ys a b r q)

-- nothing yet
pub adds_none : (old : List Wait) → Adds [] old old
adds_none old = ([], refl, sym (append-nil old))

pub adds_append : (xs ys old mid new : List Wait) → Adds xs old mid → Adds ys mid new → Adds (xs ++ ys) old new
adds_append xs ys old mid new (f, p, e) (g, q, k) = (f ++ g, picks_append xs ys f g p q, k ∙ ap (λ (z : List Wait). z ++ g) e ∙ append_assoc old f g)

-- ---- one more symbol, point, handler
pub adds_symbol : (h p : ℕ) (asked : List Asked) (xs : List Symbol) (i : ℕ) (s : Symbol) (old mid new : List Wait) → i < length xs → s ≡ get_or xs i s
    → Adds (against h p asked s) mid new → Adds (flat_map (against h p asked) (take i xs)) old mid → Adds (flat_map (against h p asked) (take (i + 1) xs)) old new
adds_symbol h p asked xs i s old mid new lt is one so_far =
    let F : List Symbol → List Wait = flat_map (against h p asked) in
    let more : F (take (i + 1) xs) ≡ F (take i xs) ++ against h p asked s =
    ap F (take_more xs i s lt) ∙ flat_map-append (against h p asked) (take i xs) (get_or xs i s ∷ [])
    ∙ ap (λ (z : List Wait). F (take i xs) ++ z) (append-nil (against h p asked (get_or xs i s)) ∙ ap (against h p asked) (sym is)) in
    subst (λ (z : List Wait). Adds z old new) (sym more) (adds_append (F (take i xs)) (against h p asked s) old mid new so_far one)

pub adds_symbols : (h p : ℕ) (asked : List Asked) (xs : List Symbol) (i : ℕ) (old new : List Wait) → length xs ≤ i
    → Adds (flat_map (against h p asked) (take i xs)) old new → Adds (flat_map (against h p asked) xs) old new
adds_symbols h p asked xs i old new le = subst (λ (z : List Symbol). Adds (flat_map (against h p asked) z) old new) (take_all i xs le)

pub adds_gather : (f : ℕ → List Wait) (n : ℕ) (old mid new : List Wait) → Adds (f n) mid new → Adds (gather f n) old mid → Adds (gather f (n + 1)) old new
adds_gather f n old mid new one so_far =
    let on : suc n ≡ n + 1 = omega arith in
    subst (λ (z : ℕ). Adds (gather f z) old new) on (adds_append (gather f n) (f n) old mid new so_far one)

-- what was appended to nothing
pub adds_all : (ws new : List Wait) → Adds ws [] new → Picks ws new
adds_all ws new (f, p, e) = subst (λ (z : List Wait). Picks ws z) (sym e) p

-- ---- points at which the same is declared
moved_against : (h p q : ℕ) (s : Symbol) (asked : List Asked) → map (moved_to q) (against h p asked s) ≡ against h q asked s
moved_against h p q s [] = refl
moved_against h p q s (a ∷ asked) = ap (λ (z : List Wait). wait h q s a ∷ z) (moved_against h p q s asked)

moved_symbols : (h p q : ℕ) (asked : List Asked) (ss : List Symbol) → map (moved_to q) (flat_map (against h p asked) ss) ≡ flat_map (against h q asked) ss
moved_symbols h p q asked [] = refl
moved_symbols h p q asked (s ∷ ss) =
    map-append (moved_to q) (against h p asked s) (flat_map (against h p asked) ss)
    ∙ ap (λ (z : List Wait). z ++ map (moved_to q) (flat_map (against h p asked) ss)) (moved_against h p q s asked)
    ∙ ap (λ (z : List Wait). against h q asked s ++ z) (moved_symbols h p q asked ss)

moved_picks : (q : ℕ) (ws found : List Wait) → Picks ws found → Picks (map (moved_to q) ws) (map (moved_to q) found)
moved_picks q [] found e = ap (map (moved_to q)) e
moved_picks q (w ∷ ws) found (inl (d, (rest, r, e))) = inl (d, (map (moved_to q) rest, moved_picks q ws rest r, ap (map (moved_to q)) e))
moved_picks q (w ∷ ws) found (inr (n, r)) = inr (n, moved_picks q ws found r)

pub adds_alike : (p : ProgramView) (asked : List Asked) (h i : ℕ) (found old new : List Wait) → AreAlike p asked h i found → new ≡ old ++ map (moved_to i) found → Adds (at_point p asked h i) old new
adds_alike p asked h i found old new k e =
    let moved : map (moved_to i) (at_point p asked h k.at) ≡ at_point p asked h i =
    moved_symbols h k.at i asked (declared_at p h k.at) ∙ ap (flat_map (against h i asked)) k.same in
    (map (moved_to i) found, subst (λ (z : List Wait). Picks z (map (moved_to i) found)) moved (moved_picks i (at_point p asked h k.at) found k.picked), e)

pub alike_here : (p : ProgramView) (asked : List Asked) (h i : ℕ) (found : List Wait) → Adds (at_point p asked h i) [] found → AreAlike p asked h i found
alike_here p asked h i found a = record { at = i; same = refl; picked = adds_all (at_point p asked h i) found a }

pub alike_next : (p : ProgramView) (asked : List Asked) (h i first : ℕ) (found : List Wait) → first < i → ((q : ℕ) → first ≤ q → q ≤ i → declared_at p h q ≡ declared_at p h i)
    → (0 < i → AreAlike p asked h (i - 1) found) → AreAlike p asked h i found
alike_next p asked h i first found below same last =
    let k = last (omega (arith, below)) in
    record { at = k.at; same = k.same ∙ same (i - 1) (omega (arith, below)) (omega arith); picked = k.picked }
