-- Sessions in which the same is asked of the same tables, and a session whose tickets are drawn in the
-- order of arrivals, in two parts.
use Rattle.std.proofs.Common.{◌≡◌, ℕ, zero, suc, ◌+◌, ◌<◌, ◌≤◌, List, [], ◌∷◌, ◌++◌, length, take, drop, refl, sym, ap, ◌∙◌, arith}
use Rattle.session_values.specs.declared.reply.Reply.{Reply}
use Rattle.session_values.specs.Serial.{Session, answered, serial_replies, serve, tables_before}
use Rattle.session_values.specs.Opening.{Pair, tables_of}
use Rattle.handler_check.specs.Bounds.{calls_bound}
use Rattle.handler_check.specs.Resolved.{code_at, shape_of}
use Rattle.declaration_insertion.specs.Program.{ProgramView}
use Rattle.request_files.specs.declared.request.Request.{Request}
use Rattle.request_files.specs.Clients.{ClientsView}
use Rattle.request_files.specs.Picked.{picked}
use Rattle.request_files.specs.Session.{dialogue_of, request_at, session}
use Rattle.client_feed.specs.Arrival.{Arrival}
use Rattle.client_feed.specs.Parts.{first_part, second_part}
use Rattle.client_feed.proofs.RoundsFacts.{replies_in_two, tables_in_two}
use Rattle.client_feed.specs.Numbers.{numbers_of}
use Rattle.client_feed.specs.Rounds.{session_by}

-- ---- sessions that ask the same
-- so do the first n tickets
abbrev pub Alike : ℕ → Session → Session → Type 0
Alike n s r = (t : ℕ) → t < n → (s.next t ≡ r.next t) × (s.length t ≡ r.length t)

fewer : (n : ℕ) (s r : Session) → Alike (suc n) s r → Alike n s r
fewer n s r a = λ t l. a t (omega (arith, l))

pub tables_alike : (n : ℕ) (s r : Session) → s.opening ≡ r.opening → Alike n s r → tables_before s n ≡ tables_before r n
tables_alike zero s r e a = e
tables_alike (suc n) s r e a =
    let last = a n (omega arith) in
    let rest = tables_alike n s r e (fewer n s r a) in
    λ i. (serve (last.1 i) (last.0 i) (rest i)).after

pub replies_alike : (n : ℕ) (s r : Session) → s.opening ≡ r.opening → Alike n s r → serial_replies s n ≡ serial_replies r n
replies_alike zero s r e a = refl
replies_alike (suc n) s r e a =
    let last = a n (omega arith) in
    let tables = tables_alike n s r e (fewer n s r a) in
    let rest = replies_alike n s r e (fewer n s r a) in
    λ i. rest i ++ answered (serve (last.1 i) (last.0 i) (tables i)).answer

-- ---- pieces of a list
pub joined : {X : Type 0} (k : ℕ) (xs : List X) → take k xs ++ drop k xs ≡ xs
joined zero xs = refl
joined (suc k) [] = refl
joined (suc k) (x ∷ xs) = ap (λ l. x ∷ l) (joined k xs)

pub dropped : {X : Type 0} (xs ys : List X) → drop (length xs) (xs ++ ys) ≡ ys
dropped [] ys = refl
dropped (x ∷ xs) ys = dropped xs ys

module _ (clients : ClientsView) where
  -- the requests of arrivals
  abbrev pub asked : List Arrival → List Request
  asked xs = picked clients.requests (numbers_of clients.counts xs)

  pub asked_many : (xs : List Arrival) → length (asked xs) ≡ length xs
  asked_many [] = refl
  asked_many (x ∷ xs) = ap suc (asked_many xs)

  front_at : (got more : List Arrival) (t : ℕ) → t < length got → request_at (asked (got ++ more)) t ≡ request_at (asked got) t
  front_at [] more t l = absurd (omega (arith, l))
  front_at (x ∷ got) more zero l = refl
  front_at (x ∷ got) more (suc t) l = front_at got more t (omega (arith, l))

  back_at : (got more : List Arrival) (t : ℕ) → request_at (asked (got ++ more)) (length got + t) ≡ request_at (asked more) t
  back_at [] more t = let z : 0 + t ≡ t = omega arith in ap (request_at (asked more)) z
  back_at (x ∷ got) more t = let z : suc (length got) + t ≡ suc (length got + t) = omega arith in ap (request_at (asked (x ∷ got ++ more))) z ∙ back_at got more t

module _ (p : ProgramView) (opened : List (List Pair)) (clients : ClientsView) where
  abbrev by : List Arrival → Session
  by xs = session_by p opened clients xs

  same_request : (r q : Request) → r ≡ q → (dialogue_of p.file r ≡ dialogue_of p.file q) × (calls_bound (code_at p.file r.handler) ≡ calls_bound (code_at p.file q.handler))
  same_request r q e = (ap (dialogue_of p.file) e, ap (λ (x : Request). calls_bound (code_at p.file x.handler)) e)

  module _ (got more : List Arrival) where
    -- what arrives later changes nothing of the tickets before
    front_alike : Alike (length got) (by (got ++ more)) (by got)
    front_alike t l = same_request (request_at (asked clients (got ++ more)) t) (request_at (asked clients got) t) (front_at clients got more t l)

    pub front_before : (k : ℕ) → k ≤ length got → tables_before (by (got ++ more)) k ≡ tables_before (by got) k
    front_before k few = tables_alike k (by (got ++ more)) (by got) refl (λ t l. front_alike t (omega (arith, l, few)))

    pub front_tables : tables_before (by (got ++ more)) (length got) ≡ tables_before (by got) (length got)
    front_tables = front_before (length got) (omega arith)

    -- the session of what arrives later, over tables that open as those before left theirs
    module _ (opening : List (List Pair)) (opens : tables_of (shape_of p.file) opening ≡ tables_before (by (got ++ more)) (length got)) where
      abbrev later : Session
      later = session p.file opening (asked clients more)

      back_alike : (n : ℕ) → Alike n later (second_part (length got) (by (got ++ more)))
      back_alike n t l = same_request (request_at (asked clients more) t) (request_at (asked clients (got ++ more)) (length got + t)) (sym (back_at clients got more t))

      pub later_tables : (t : ℕ) → tables_before later t ≡ tables_before (by (got ++ more)) (length got + t)
      later_tables t = tables_alike t later (second_part (length got) (by (got ++ more))) opens (back_alike t) ∙ sym (tables_in_two (length got) (by (got ++ more)) t)

      pub later_replies : (t : ℕ) → serial_replies (by (got ++ more)) (length got + t) ≡ serial_replies (by got) (length got) ++ serial_replies later t
      later_replies t =
          replies_in_two (length got) (by (got ++ more)) t
          ∙ ap (λ (rs : List Reply). rs ++ serial_replies (second_part (length got) (by (got ++ more))) t) (replies_alike (length got) (first_part (length got) (by (got ++ more))) (by got) refl front_alike)
          ∙ ap (λ (rs : List Reply). serial_replies (by got) (length got) ++ rs) (sym (replies_alike t later (second_part (length got) (by (got ++ more))) opens (back_alike t)))
