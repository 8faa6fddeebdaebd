-- Room for keys, and the bounds on how many handlers may add.
use Rattle.std.proofs.Common.{◌≡◌, ℕ, zero, suc, ◌+◌, ◌<◌, ◌≤◌, ◌⊎◌, ⊎_elim, List, [], ◌∷◌, ◌++◌, length, get_or, refl, sym, ◌∙◌, ap, subst, arith}
use Rattle.std.proofs.Math.ListN.{set}
use Rattle.std.proofs.lemmas.List.{get_or_push, get_or_append_left, length_push}
use Rattle.session_values.specs.Limits.{max_calls}
use Rattle.session_values.specs.Tables.{Container, Tables, size_of, table}
use Rattle.handler_check.specs.File.{File}
use Rattle.handler_check.specs.Bounds.{adds_bound}
use Rattle.handler_check.specs.Resolved.{code_at}
use Rattle.shard_tables.specs.declared.part.Part.{Part}
use Rattle.shard_tables.specs.Either.{index_in, shard_view}
use Rattle.live_session.specs.Held.{AreAdds, adds_in, container_in, factors_in, held, room_at}

-- ---- bounds by table

pub no_adds : (f : File) → AreAdds f 0 []
no_adds f = record { long = refl; each = λ t h l k. absurd (omega (arith, l)); few = λ t h l k. absurd (omega (arith, l)) }

before_or_last : (t n : ℕ) → t < n + 1 → (t < n) ⊎ (t ≡ n)
before_or_last t n l = grind arith

module _ (f : File) (n : ℕ) (adds : List (List ℕ)) (one : List ℕ) (h : AreAdds f n adds) where
  abbrev all : List (List ℕ)
  all = adds ++ one ∷ []

  earlier : (t k : ℕ) → t < n → adds_in all t k ≡ adds_in adds t k
  earlier t k l = ap (λ (ns : List ℕ). get_or ns k 0) (get_or_append_left adds (one ∷ []) [] t (omega (arith, l, h.long)))

  last : (k : ℕ) → adds_in all n k ≡ get_or one k 0
  last k = ap (λ (ns : List ℕ). get_or ns k 0) (get_or_push adds one [] n h.long)

  pub adds_more : ((k : ℕ) → k < length f.handlers → get_or one k 0 ≡ adds_bound n (code_at f k)) → ((k : ℕ) → k < length f.handlers → get_or one k 0 ≤ max_calls) → AreAdds f (n + 1) all
  adds_more each few = record {
    long = length_push adds one ∙ ap (λ (m : ℕ). m + 1) h.long;
    each = λ t k l low. ⊎_elim (λ b. earlier t k b ∙ h.each t k b low)
        (λ e. subst (λ (m : ℕ). adds_in all m k ≡ adds_bound m (code_at f k)) (sym e) (last k ∙ each k low)) (before_or_last t n l);
    few = λ t k l low. ⊎_elim (λ b. let e = earlier t k b in omega (arith, e, h.few t k b low))
        (λ e. subst (λ (m : ℕ). adds_in all m k ≤ max_calls) (sym e) (let q = last k in omega (arith, q, few k low))) (before_or_last t n l);
  }

-- ---- one table gets more room

-- a shard that is written back with what it holds leaves all that is held
pub held_same : (ps : List Part) (i : ℕ) (p new : Part) → i < length ps → p ≡ get_or ps i p → container_in new ≡ container_in p → held (set ps i new) ≡ held ps
held_same [] i p new l is e = refl
held_same (x ∷ ps) zero p new l is e = ap (λ (c : Container). c ∷ held ps) (e ∙ ap container_in is)
held_same (x ∷ ps) (suc i) p new l is e = ap (λ (cs : Tables). container_in x ∷ cs) (held_same ps i p new (omega (arith, l)) is e)

-- a shard that is written back with its factor leaves all factors
pub factors_same : (ps : List Part) (i : ℕ) (p new : Part) → i < length ps → p ≡ get_or ps i p → (index_in new).factor ≡ (index_in p).factor → factors_in (set ps i new) ≡ factors_in ps
factors_same [] i p new l is e = refl
factors_same (x ∷ ps) zero p new l is e = ap (λ (n : ℕ). n ∷ factors_in ps) (e ∙ ap (λ (q : Part). (index_in q).factor) is)
factors_same (x ∷ ps) (suc i) p new l is e = ap (λ (ns : List ℕ). (index_in x).factor ∷ ns) (factors_same ps i p new (omega (arith, l)) is e)

room_before : (ps : List Part) (i t : ℕ) (new : Part) → t < i → room_at (set ps i new) t ≡ room_at ps t
room_before [] i t new l = refl
room_before (x ∷ ps) zero t new l = absurd (omega (arith, l))
room_before (x ∷ ps) (suc i) zero new l = refl
room_before (x ∷ ps) (suc i) (suc t) new l = room_before ps i t new (omega (arith, l))

pub room_here : (ps : List Part) (i : ℕ) (new : Part) → i < length ps → room_at (set ps i new) i ≡ (shard_view new).room
room_here [] i new l = absurd (omega (arith, l))
room_here (x ∷ ps) zero new l = refl
room_here (x ∷ ps) (suc i) new l = room_here ps i new (omega (arith, l))

pub table_here : (ps : List Part) (i : ℕ) (new : Part) → i < length ps → table (held (set ps i new)) i ≡ container_in new
table_here [] i new l = absurd (omega (arith, l))
table_here (x ∷ ps) zero new l = refl
table_here (x ∷ ps) (suc i) new l = table_here ps i new (omega (arith, l))

-- the first tables had room, and now the next has too
pub room_more : (more : ℕ → ℕ) (ps : List Part) (i : ℕ) (p new : Part) → i < length ps → p ≡ get_or ps i p → container_in new ≡ container_in p → size_of (container_in new) + more i ≤ (shard_view new).room
    → ((t : ℕ) → t < i → size_of (table (held ps) t) + more t ≤ room_at ps t)
    → (t : ℕ) → t < i + 1 → size_of (table (held (set ps i new)) t) + more t ≤ room_at (set ps i new) t
room_more more ps i p new l is e here first t low =
    ⊎_elim
    (λ b. let size : size_of (table (held (set ps i new)) t) ≡ size_of (table (held ps) t) = ap (λ (ts : Tables). size_of (table ts t)) (held_same ps i p new l is e) in let room = room_before ps i t new b in omega (arith, size, room, first t b))
    (λ q. subst (λ (m : ℕ). size_of (table (held (set ps i new)) m) + more m ≤ room_at (set ps i new) m) (sym q)
    (let size : size_of (table (held (set ps i new)) i) ≡ size_of (container_in new) = ap size_of (table_here ps i new l) in let room = room_here ps i new l in omega (arith, size, room, here))) (before_or_last t i low)

pub held_long : (ps qs : List Part) → held qs ≡ held ps → length qs ≡ length ps
held_long [] [] e = refl
held_long [] (q ∷ qs) e = cc
held_long (p ∷ ps) [] e = cc
held_long (p ∷ ps) (q ∷ qs) e = ap suc (held_long ps qs (tail (container_in q) (container_in p) (held qs) (held ps) e))
  where
    tail : (x y : Container) (xs ys : Tables) → x ∷ xs ≡ y ∷ ys → xs ≡ ys
    tail x y xs ys e = cc
