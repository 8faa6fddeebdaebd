-- Each file has an answer.
use Rattle.std.proofs.Common.{◌≡◌, ℕ, zero, suc, ◌+◌, ◌<◌, ◌≤◌, List, [], ◌∷◌, ◌++◌, length, get_or, length-append, refl, sym, subst, inl, inr, ◌⊎◌, arith}
use Rattle.std.specs.Prelude.{Option, Some, None, slice_get, slice_index_or}
use Rattle.std.proofs.lemmas.Bool.{cases_lt}
use Rattle.symbolic_ops.specs.declared.symbol.Symbol.{Symbol}
use Rattle.handler_check.specs.File.{File}
use Rattle.handler_check.specs.Handler.{Handler}
use Rattle.check_meaning.specs.Code.{Code, points}
use Rattle.handler_check.specs.Resolved.{code_at, code_in, handler_code}
use Rattle.may_use_analysis.specs.declared.refusal.AnalysisRefusal.{AnalysisRefusal}
use Rattle.may_use_analysis.specs.declared.refusal.AnalysisRefusal.TheVariants.{TooManySymbols}
use Rattle.may_use_analysis.specs.Later.{IsLaterList, HasLists, HasAnswer, IsShort, IsBefore, IsTooMany, places_at, places_in}
use Rattle.may_use_analysis.specs.Places.{places}
use Rattle.may_use_analysis.proofs.Arranged.{later_list}
use Rattle.may_use_analysis.proofs.PlaceLemmas.{places_count}
use Rattle.may_use_analysis.proofs.TopLemmas.{lists_of_all, lists_of_short, more_lists}
use Rattle.session_values.proofs.Options.{stands}

-- ---- a handler

-- all of the first points have short lists, or there is a first one that has a long one
abbrev LongAmong : Code → ℕ → Type 0
LongAmong code n = (p : ℕ) × (p < n) × ((list : List Symbol) × IsLaterList code p list × (256 < length list)) × ((q : ℕ) → q < p → IsShort code q)

long_among : (code : Code) (n : ℕ) → ((p : ℕ) → p < n → IsShort code p) ⊎ LongAmong code n
long_among code zero = inl (λ p lt. absurd (omega arith))
long_among code (suc n) = go (long_among code n) (later_list code n)
  where
    at_end : ((p : ℕ) → p < n → IsShort code p) → IsShort code n → (p : ℕ) → p < suc n → (p < n) ⊎ (n ≤ p) → IsShort code p
    at_end short here p lt (inl h) = short p h
    at_end short here p lt (inr h) = let e : p ≡ n = omega arith in subst (IsShort code) (sym e) here

    with_list : ((p : ℕ) → p < n → IsShort code p) → (list : List Symbol) → IsLaterList code n list → (256 < length list) ⊎ (length list ≤ 256) → ((p : ℕ) → p < suc n → IsShort code p) ⊎ LongAmong code (suc n)
    with_list short list is (inl many) = inr (n, omega arith, (list, is, many), short)
    with_list short list is (inr few) = inl (λ p lt. at_end short (list, is, few) p lt (cases_lt p n))

    go : ((p : ℕ) → p < n → IsShort code p) ⊎ LongAmong code n → (list : List Symbol) × IsLaterList code n list → ((p : ℕ) → p < suc n → IsShort code p) ⊎ LongAmong code (suc n)
    go (inl short) here = with_list short here.0 here.1 (cases_lt 256 (length here.0))
    go (inr long) here = inr (long.0, (let lt = long.1 in omega arith), long.2, long.3)

-- ---- a file

place_in : (f : File) (o : Option Handler) (source : Handler) → o ≡ Some source → (p : ℕ) → p < 1 + points (code_in f o) → (at : ℕ) × (slice_get (places_in f o) p ≡ Some at)
place_in f None source e p lt = absurd (cc)
place_in f (Some h) source e p lt = stands (h.at ∷ places (handler_code f h)) p (omega (arith, places_count (handler_code f h)))

place_at : (f : File) (h p : ℕ) → h < length f.handlers → p < 1 + points (code_at f h) → (at : ℕ) × (slice_get (places_at f h) p ≡ Some at)
place_at f h p inside lt =
    let source = stands f.handlers h inside in
    place_in f (slice_get f.handlers h) source.0 source.1 p lt

abbrev HaveLists : File → ℕ → Type 0
HaveLists f n = (all : List (List (List Symbol))) × (length all ≡ n) × ((k : ℕ) → k < n → HasLists (code_at f k) (get_or all k []))

module _ (f : File) where
  excess_at : (n : ℕ) → n < length f.handlers → ((k : ℕ) → k < n → (lists : List (List Symbol)) × HasLists (code_at f k) lists) → LongAmong (code_at f n) (1 + points (code_at f n)) → (e : AnalysisRefusal) × IsTooMany f e
  excess_at n inside before long =
      let p = long.0 in
      let place = place_at f n p inside long.1 in
      let list = long.2.0 in (
        TooManySymbols place.0 (length list),
        record {
          handler = n;
          point = p;
          inside = inside;
          is_point = long.1;
          place = place.1;
          list = list;
          later = long.2.1;
          count_is = refl;
          many = long.2.2;
          first = first;
        },
      )
    where
      in_same : (q : ℕ) → q < long.0 → IsShort (code_at f n) q
      in_same q lt = long.3 q lt

      first : (g q : ℕ) → g < length f.handlers → q < 1 + points (code_at f g) → IsBefore g q n long.0 → IsShort (code_at f g) q
      first g q gl ql (inl b) = let has = before g b in (slice_index_or has.0 q [], has.1.each q ql, has.1.few q ql)
      first g q gl ql (inr b) = subst (λ (k : ℕ). IsShort (code_at f k) q) (sym b.0) (in_same q b.1)

  handlers_in_order : (n : ℕ) → n ≤ length f.handlers → HaveLists f n ⊎ ((e : AnalysisRefusal) × IsTooMany f e)
  handlers_in_order zero le = inl ([], refl, λ k lt. absurd (omega arith))
  handlers_in_order (suc n) le = go (handlers_in_order n (omega arith)) (long_among (code_at f n) (1 + points (code_at f n)))
    where
      go : HaveLists f n ⊎ ((e : AnalysisRefusal) × IsTooMany f e) → ((p : ℕ) → p < 1 + points (code_at f n) → IsShort (code_at f n) p) ⊎ LongAmong (code_at f n) (1 + points (code_at f n)) → HaveLists f (suc n) ⊎ ((e : AnalysisRefusal) × IsTooMany f e)
      go (inr e) here = inr e
      go (inl before) (inr long) = inr (excess_at n (omega arith) (λ k lt. (get_or before.0 k [], before.2 k lt)) long)
      go (inl before) (inl short) =
          let here = lists_of_short (code_at f n) short in
          inl (before.0 ++ here.0 ∷ [], omega (arith, length-append before.0 (here.0 ∷ []), before.1), λ k lt. more_lists (λ (z : List (List Symbol)). z) [] f before.0 (before.0 ++ here.0 ∷ []) here.0 n before.1 refl before.2 here.1 k (omega arith))

  pub answered : HasAnswer f
  answered = go (handlers_in_order (length f.handlers) (omega arith))
    where
      go : HaveLists f (length f.handlers) ⊎ ((e : AnalysisRefusal) × IsTooMany f e) → HasAnswer f
      go (inl all) = inl (lists_of_all f all.0 (length f.handlers) (omega arith) all.1 (omega arith) all.2)
      go (inr e) = inr e
