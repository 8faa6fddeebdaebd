-- Requests whose arguments lie one after another, when another one comes behind them.
use Rattle.std.proofs.Common.{◌≡◌, ℕ, zero, suc, ◌+◌, ◌≤◌, List, [], ◌∷◌, ◌++◌, length, take, drop, refl, ap, ◌∙◌, arith, length-append}
use Rattle.session_values.specs.declared.value.Value.{Value}
use Rattle.request_files.specs.declared.entry.Entry.{Entry}
use Rattle.request_files.specs.Entries.{request_in, requests_in, AreWithin, IsBehind}

-- ---- the arguments of the others stay
piece_stays : (xs ys : List Value) (from n : ℕ) → from + n ≤ length xs → take n (drop from (xs ++ ys)) ≡ take n (drop from xs)
piece_stays xs ys from zero h = refl
piece_stays [] ys from (suc n) h = absurd (omega (arith, h))
piece_stays (x ∷ xs) ys zero (suc n) h = ap (λ l. x ∷ l) (piece_stays xs ys zero n (omega (arith, h)))
piece_stays (x ∷ xs) ys (suc from) (suc n) h = piece_stays xs ys from (suc n) (omega (arith, h))

requests_stay : (old more : List Value) (es : List Entry) → AreWithin (length old) es → requests_in (old ++ more) es ≡ requests_in old es
requests_stay old more [] a = refl
requests_stay old more (e ∷ es) a =
    ap (λ vs. record { handler = e.handler; args = vs } ∷ requests_in (old ++ more) es) (piece_stays old more e.first e.args a.0)
    ∙ ap (λ rs. request_in old e ∷ rs) (requests_stay old more es a.1)

requests_one_more : (vs : List Value) (es : List Entry) (e : Entry) → requests_in vs (es ++ e ∷ []) ≡ requests_in vs es ++ request_in vs e ∷ []
requests_one_more vs [] e = refl
requests_one_more vs (x ∷ es) e = ap (λ rs. request_in vs x ∷ rs) (requests_one_more vs es e)

pub requests_push : (old new : List Value) (es : List Entry) (e : Entry) → AreWithin (length old) es → IsBehind old new e → requests_in new (es ++ e ∷ []) ≡ requests_in old es ++ request_in new e ∷ []
requests_push old new es e a b =
    requests_one_more new es e
    ∙ ap (λ vs. requests_in vs es ++ request_in new e ∷ []) b.is
    ∙ ap (λ rs. rs ++ request_in new e ∷ []) (requests_stay old b.more es a)

-- ---- and each lies within
within_push_at : (m n : ℕ) (es : List Entry) (e : Entry) → m ≤ n → AreWithin m es → e.first + e.args ≤ n → AreWithin n (es ++ e ∷ [])
within_push_at m n [] e l a k = (k, tt)
within_push_at m n (x ∷ es) e l a k = (omega (arith, a.0, l), within_push_at m n es e l a.1 k)

pub within_push : (old new : List Value) (es : List Entry) (e : Entry) → AreWithin (length old) es → IsBehind old new e → AreWithin (length new) (es ++ e ∷ [])
within_push old new es e a b =
    let long : length new ≡ length old + length b.more = ap length b.is ∙ length-append old b.more in
    within_push_at (length old) (length new) es e (omega (arith, long)) a (omega (arith, long, b.first, b.args))

pub requests_long : (vs : List Value) (es : List Entry) → length (requests_in vs es) ≡ length es
requests_long vs [] = refl
requests_long vs (e ∷ es) = ap suc (requests_long vs es)

-- ---- the arguments of a request that comes behind
drop_front : (old more : List Value) → drop (length old) (old ++ more) ≡ more
drop_front [] more = refl
drop_front (x ∷ old) more = drop_front old more

take_whole : (vs : List Value) → take (length vs) vs ≡ vs
take_whole [] = refl
take_whole (v ∷ vs) = ap (λ l. v ∷ l) (take_whole vs)

pub request_behind : (old new more : List Value) (handler args first : ℕ) → new ≡ old ++ more → first ≡ length old → args ≡ length more → request_in new (record { handler = handler; args = args; first = first }) ≡ record { handler = handler; args = more }
request_behind old new more handler args first is at many =
    let piece : take args (drop first new) ≡ more =
    (λ i. take (many i) (drop (at i) (is i))) ∙ ap (λ l. take (length more) l) (drop_front old more) ∙ take_whole more in
    ap (λ vs. record { handler = handler; args = vs }) piece
