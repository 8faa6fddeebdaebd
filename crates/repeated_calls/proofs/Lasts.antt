-- The last ticket of a list.
use Rattle.std.proofs.Common.{◌≡◌, ℕ, zero, suc, ◌+◌, ◌<◌, List, [], ◌∷◌, ◌++◌, ◌-◌, ◌*◌, length, map, refl, sym, ap, ◌∙◌, subst, arith}
use Rattle.std.specs.Prelude.{replicate, slice_index_or}
use Rattle.std.proofs.lemmas.List.{length-append, length-map, length-replicate, map-append}
use Rattle.session_values.specs.declared.op.Op.{Op}
use Rattle.session_values.specs.declared.reply.Reply.{Reply}
use Rattle.symbolic_ops.specs.Matching.{exact_symbol}
use Rattle.session_journal.specs.Lists.{HasPlace, ListView, Ticket, answers_only, calls_more, last_ticket, ticket_at, with_last}
use Rattle.repeated_calls.specs.Repeated.{Keeps, RepeatedView, list_more, no_value, repeated, with_repeated}

pub last_again : (xs : List Ticket) → 0 < length xs → with_last xs (last_ticket xs) ≡ xs
last_again [] some = absurd (omega (arith, some))
last_again (x ∷ []) some = refl
last_again (x ∷ y ∷ xs) some = ap (λ l. x ∷ l) (last_again (y ∷ xs) (omega arith))

pub last_of_with : (xs : List Ticket) (z : Ticket) → 0 < length xs → last_ticket (with_last xs z) ≡ z
last_of_with [] z some = absurd (omega (arith, some))
last_of_with (x ∷ []) z some = refl
last_of_with (x ∷ y ∷ []) z some = refl
last_of_with (x ∷ y ∷ w ∷ xs) z some = last_of_with (y ∷ w ∷ xs) z (omega arith)

pub with_with : (xs : List Ticket) (y z : Ticket) → with_last (with_last xs y) z ≡ with_last xs z
with_with [] y z = refl
with_with (x ∷ []) y z = refl
with_with (x ∷ y' ∷ []) y z = refl
with_with (x ∷ y' ∷ w ∷ xs) y z = ap (λ l. x ∷ l) (with_with (y' ∷ w ∷ xs) y z)

pub long_with : (xs : List Ticket) (z : Ticket) → length (with_last xs z) ≡ length xs
long_with [] z = refl
long_with (x ∷ []) z = refl
long_with (x ∷ y ∷ xs) z = ap suc (long_with (y ∷ xs) z)

pub last_pushed : (xs : List Ticket) (z : Ticket) → last_ticket (xs ++ z ∷ []) ≡ z
last_pushed [] z = refl
last_pushed (x ∷ []) z = refl
last_pushed (x ∷ y ∷ xs) z = last_pushed (y ∷ xs) z

pub with_pushed : (xs : List Ticket) (y z : Ticket) → with_last (xs ++ y ∷ []) z ≡ xs ++ z ∷ []
with_pushed [] y z = refl
with_pushed (x ∷ []) y z = refl
with_pushed (x ∷ w ∷ xs) y z = ap (λ l. x ∷ l) (with_pushed (w ∷ xs) y z)

replicate_more : {X : Type 0} (n : ℕ) (x : X) → replicate n x ++ x ∷ [] ≡ replicate (suc n) x
replicate_more zero x = refl
replicate_more (suc n) x = ap (λ l. x ∷ l) (replicate_more n x)

pub repeated_more : (n : ℕ) (op : Op) → calls_more (repeated n op) op ≡ repeated (suc n) op
repeated_more n op = cc (replicate_more n op, replicate_more n (exact_symbol op))

pub at_mapped : (n : ℕ) (ops : List Op) (t : ℕ) (d : Op) → t < length ops → ticket_at (map (repeated n) ops) t ≡ repeated n (slice_index_or ops t d)
at_mapped n [] t d l = absurd (omega (arith, l))
at_mapped n (op ∷ ops) zero d l = refl
at_mapped n (op ∷ ops) (suc t) d l = at_mapped n ops t d (omega (arith, l))

-- the list with another last ticket, and fewer places
abbrev pub after : ListView → Op → ℕ → ListView
after l op k = record {
  shape = l.shape;
  tickets = with_last l.tickets (repeated k op);
  tickets_left = l.tickets_left;
  calls_left = l.calls_left - k;
  symbols_left = l.symbols_left - k;
}

pub calls_none : (l : ListView) (op : Op) → 0 < length l.tickets → last_ticket l.tickets ≡ answers_only no_value → l ≡ after l op 0
calls_none l op some last =
    let e : l.tickets ≡ with_last l.tickets (repeated 0 op) = sym (last_again l.tickets some) ∙ ap (λ z. with_last l.tickets z) last in
    let a : l.calls_left ≡ l.calls_left - 0 = omega arith in
    let b : l.symbols_left ≡ l.symbols_left - 0 = omega arith in
    let P : List Ticket → ℕ → ℕ → ListView = λ t c s. record { shape = l.shape; tickets = t; tickets_left = l.tickets_left; calls_left = c; symbols_left = s } in
    ap (λ t. P t l.calls_left l.symbols_left) e ∙ ap (λ c. P (with_last l.tickets (repeated 0 op)) c l.symbols_left) a ∙ ap (λ s. P (with_last l.tickets (repeated 0 op)) (l.calls_left - 0) s) b

pub place_for : (first : ListView) (op : Op) (k : ℕ) (l : ListView) → 0 < length first.tickets → k < 256 → l ≡ after first op k → HasPlace l.tickets
place_for first op k l some low is =
    let P : List Ticket → Type 0 = λ x. HasPlace x in
    subst P (sym (ap (λ (v : ListView). v.tickets) is)) (record {
      some = subst (λ n. 0 < n) (sym (long_with first.tickets (repeated k op))) some;
      few = subst (λ n. n < 256) (sym (ap (λ (z : Ticket). length z.entry) (last_of_with first.tickets (repeated k op) some) ∙ length-replicate k (exact_symbol op))) low;
    })

-- the list after one call more
abbrev pub one_more : ListView → Op → ListView
one_more l op = record {
  shape = l.shape;
  tickets = with_last l.tickets (calls_more (last_ticket l.tickets) op);
  tickets_left = l.tickets_left;
  calls_left = l.calls_left - 1;
  symbols_left = l.symbols_left - 1;
}

pub calls_again : (first : ListView) (op : Op) (k : ℕ) (l new : ListView) → 0 < length first.tickets → l ≡ after first op k → new ≡ one_more l op → new ≡ after first op (k + 1)
calls_again first op k l new some is made =
    let e : with_last (with_last first.tickets (repeated k op)) (calls_more (last_ticket (with_last first.tickets (repeated k op))) op) ≡ with_last first.tickets (repeated (suc k) op)
    = ap (λ z. with_last (with_last first.tickets (repeated k op)) (calls_more z op)) (last_of_with first.tickets (repeated k op) some)
    ∙ with_with first.tickets (repeated k op) (calls_more (repeated k op) op) ∙ ap (λ z. with_last first.tickets z) (repeated_more k op) in
    let a : first.calls_left - k - 1 ≡ first.calls_left - (k + 1) = omega arith in
    let b : first.symbols_left - k - 1 ≡ first.symbols_left - (k + 1) = omega arith in
    let c : suc k ≡ k + 1 = omega arith in
    made ∙ ap (λ v. one_more v op) is ∙ cc (e, a, b, c)

-- ---- a ticket is added
one_less : (a n : ℕ) → 0 < a → a * n - n ≡ (a - 1) * n
one_less zero n l = absurd (omega (arith, l))
one_less (suc a) n l = grind arith

-- a list with one ticket more, which calls nothing yet
abbrev pub ticketed : ListView → ListView
ticketed l = record {
  shape = l.shape;
  tickets = l.tickets ++ answers_only no_value ∷ [];
  tickets_left = l.tickets_left - 1;
  calls_left = l.calls_left;
  symbols_left = l.symbols_left;
}

-- it was made with a reply that is nil
pub ticketed_by : (l one : ListView) (r : Reply) → r ≡ no_value → one ≡ record { shape = l.shape; tickets = l.tickets ++ answers_only r ∷ []; tickets_left = l.tickets_left - 1; calls_left = l.calls_left; symbols_left = l.symbols_left } → one ≡ ticketed l
ticketed_by l one r e is =
    let P : Reply → ListView = λ v. record { shape = l.shape; tickets = l.tickets ++ answers_only v ∷ []; tickets_left = l.tickets_left - 1; calls_left = l.calls_left; symbols_left = l.symbols_left } in
    is ∙ ap P e

pub listed : (l one two : ListView) (n : ℕ) (op : Op) → one ≡ ticketed l → two ≡ after one op n → two ≡ list_more l n op
listed l one two n op is made =
    let e : with_last (l.tickets ++ answers_only no_value ∷ []) (repeated n op) ≡ l.tickets ++ repeated n op ∷ [] = with_pushed l.tickets (answers_only no_value) (repeated n op) in
    let P : List Ticket → ListView = λ t. record { shape = l.shape; tickets = t; tickets_left = l.tickets_left - 1; calls_left = l.calls_left - n; symbols_left = l.symbols_left - n } in
    made ∙ ap (λ v. after v op n) is ∙ ap P e

pub kept_more : (l new : ListView) (ops more : List Op) (n places same : ℕ) (op : Op) → Keeps l ops n places → 0 < l.tickets_left → new ≡ list_more l n op → more ≡ ops ++ op ∷ [] → same ≡ places → Keeps new more n same
kept_more l new ops more n places same op k left is grown e =
    let long : length more ≡ length ops + 1 = ap length grown ∙ length-append ops (op ∷ []) in
    let P : ListView → Type 0 = λ v. Keeps v more n same in
    subst P (sym is) (record {
      tickets = ap (λ t. t ++ repeated n op ∷ []) k.tickets ∙ sym (map-append (repeated n) ops (op ∷ [])) ∙ ap (map (repeated n)) (sym grown);
      few = k.few;
      calls = ap (λ c. c - n) k.calls ∙ one_less l.tickets_left n left;
      symbols = ap (λ c. c - n) k.symbols ∙ one_less l.tickets_left n left;
      within = let a = k.within in omega (arith, long, e, left, a);
      some = let a = k.some in omega (arith, long, left, a);
    })

pub view_more : (v now : RepeatedView) (l : ListView) (ops : List Op) (op : Op) → v ≡ now → l ≡ list_more v.list v.times op → ops ≡ v.ops ++ op ∷ [] → ◌≡◌ {A = RepeatedView} (record { list = l; ops = ops; times = v.times }) (with_repeated now op)
view_more v now l ops op same a b =
    let P : ListView → List Op → RepeatedView = λ x y. record { list = x; ops = y; times = v.times } in
    ap (λ x. P x ops) a ∙ ap (λ y. P (list_more v.list v.times op) y) b ∙ ap (λ x. with_repeated x op) same

pub op_at : (v now : RepeatedView) (places t : ℕ) (op : Op) → v ≡ now → Keeps v.list v.ops v.times places → t < length now.list.tickets → op ≡ slice_index_or v.ops t op → ticket_at now.list.tickets t ≡ repeated now.times op
op_at v now places t op same k low is =
    let P : RepeatedView → Type 0 = λ x. ticket_at x.list.tickets t ≡ repeated x.times op in
    let long : length now.list.tickets ≡ length v.ops = ap (λ (x : RepeatedView). length x.list.tickets) (sym same) ∙ ap length k.tickets ∙ length-map v.ops (repeated v.times) in
    subst P same (ap (λ l. ticket_at l t) k.tickets ∙ at_mapped v.times v.ops t op (omega (arith, low, long)) ∙ ap (repeated v.times) (sym is))
