-- The tickets of clients.
use Rattle.std.proofs.Common.{◌≡◌, ℕ, zero, suc, ◌+◌, ◌<◌, ◌≤◌, Bool, true, false, cond, eqb, List, [], ◌∷◌, ◌++◌, length, refl, sym, ap, ◌∙◌, subst, arith, Some, slice_get, Contains}
use Rattle.std.specs.List.{slice_index}
use Rattle.std.specs.List.Sorted.{IsStrictlyIncreasing}
use Rattle.std.proofs.lemmas.Bool.{eqb-true, eq-eqb}
use Rattle.std.proofs.lemmas.Option.{slice_get_within, get_or_from_slice_get, slice_get-get_or, none-some, same_Some}
use Rattle.session_values.specs.declared.reply.Reply.{Reply}
use Rattle.reply_sheet.specs.declared.arrival.Arrival.{Arrival}
use Rattle.reply_sheet.specs.Arrivals.{of, Rises}
use Rattle.reply_sheet.specs.ClientText.{client_line, client_text, client_tickets}
use Rattle.reply_sheet.specs.Tickets.{IsTicketOf, lines_of, ticket_line, tickets_of}

pub rises_length : (a b : ℕ) (xs : List ℕ) → Rises a xs b → a + length xs ≡ b
rises_length a b [] e = omega (arith, e)
rises_length a b (x ∷ xs) h = omega (arith, rises_length (suc a) b xs h.1)

-- ---- which arrivals the tickets are of

-- an arrival of the client, so many places behind the first
record Stands (client t u : ℕ) (xs : List Arrival) : Type 0 where
  far : ℕ
  is : Arrival
  at : slice_get xs far ≡ Some is
  whose : is.client ≡ client
  ticket : u ≡ t + far

further : (client t u : ℕ) (x : Arrival) (xs : List Arrival) → Stands client (suc t) u xs → Stands client t u (x ∷ xs)
further client t u x xs s = record { far = suc s.far; is = s.is; at = s.at; whose = s.whose; ticket = omega (arith, s.ticket) }

-- each ticket is the place of an arrival of the client
found : (client t : ℕ) (xs : List Arrival) (k u : ℕ) → slice_get (client_tickets client t xs) k ≡ Some u → Stands client t u xs
found client t [] k u e = absurd (none-some u e)
found client t (x ∷ xs) k u e = by (λ j f. found client (suc t) xs j u f) (eqb x.client client) refl k e
  where
    by : ((k : ℕ) → slice_get (client_tickets client (suc t) xs) k ≡ Some u → Stands client (suc t) u xs) → (b : Bool) → eqb x.client client ≡ b → (k : ℕ) → slice_get (cond b (t ∷ client_tickets client (suc t) xs) (client_tickets client (suc t) xs)) k ≡ Some u → Stands client t u (x ∷ xs)
    by f true q zero e = record { far = 0; is = x; at = refl; whose = eqb-true x.client client q; ticket = omega (arith, same_Some t u e) }
    by f true q (suc k) e = further client t u x xs (f k e)
    by f false q k e = further client t u x xs (f k e)

-- the place of each arrival of the client is a ticket
kept : (client t : ℕ) (xs : List Arrival) (i : ℕ) (x : Arrival) → slice_get xs i ≡ Some x → x.client ≡ client → (k : ℕ) × (slice_get (client_tickets client t xs) k ≡ Some (t + i))
kept client t [] i x e c = absurd (none-some x e)
kept client t (y ∷ xs) zero x e c = (0, here (eqb y.client client) (eq-eqb y.client client (ap (λ (z : Arrival). z.client) (same_Some y x e) ∙ c)))
  where
    here : (b : Bool) → b ≡ true → slice_get (cond b (t ∷ client_tickets client (suc t) xs) (client_tickets client (suc t) xs)) 0 ≡ Some (t + 0)
    here true q = ap Some (let e : t ≡ t + 0 = omega arith in e)
    here false q = cc
kept client t (y ∷ xs) (suc i) x e c =
    let n = kept client (suc t) xs i x e c in
    by n.0 (n.1 ∙ ap Some (let same : suc t + i ≡ t + suc i = omega arith in same)) (eqb y.client client)
  where
    by : (k : ℕ) → slice_get (client_tickets client (suc t) xs) k ≡ Some (t + suc i)
        → (b : Bool) → (k : ℕ) × (slice_get (cond b (t ∷ client_tickets client (suc t) xs) (client_tickets client (suc t) xs)) k ≡ Some (t + suc i))
    by k f true = (suc k, f)
    by k f false = (k, f)

-- ---- they rise

low : (client t : ℕ) (xs : List Arrival) (k : ℕ) → k < length (client_tickets client t xs) → t ≤ slice_index (client_tickets client t xs) k
low client t xs k h =
    let u = slice_index (client_tickets client t xs) k in
    let s = found client t xs k u (slice_get-get_or (client_tickets client t xs) k 0 h) in
    omega (arith, s.ticket)

pub rise : (client t : ℕ) (xs : List Arrival) → IsStrictlyIncreasing (client_tickets client t xs)
rise client t [] = λ k h. absurd (omega (arith, h))
rise client t (x ∷ xs) = by (rise client (suc t) xs) (eqb x.client client)
  where
    first : IsStrictlyIncreasing (client_tickets client (suc t) xs) → (k : ℕ) → k + 1 < length (t ∷ client_tickets client (suc t) xs) → slice_index (t ∷ client_tickets client (suc t) xs) k < slice_index (t ∷ client_tickets client (suc t) xs) (k + 1)
    first more zero h = low client (suc t) xs 0 (omega (arith, h))
    first more (suc k) h =
        let ts = client_tickets client (suc t) xs in
        subst (λ j. slice_index ts k < slice_index (t ∷ ts) j) (let e : suc (k + 1) ≡ suc k + 1 = omega arith in e) (more k (omega (arith, h)))

    by : IsStrictlyIncreasing (client_tickets client (suc t) xs) → (b : Bool) → IsStrictlyIncreasing (cond b (t ∷ client_tickets client (suc t) xs) (client_tickets client (suc t) xs))
    by more true = first more
    by more false = more

-- ---- each is of one client

pub within : (client : ℕ) (got : List Arrival) (t : ℕ) → Contains (tickets_of client got) t → t < length got
within client got t among =
    let ts = tickets_of client got in
    let there : slice_get ts among.0 ≡ Some t = slice_get-get_or ts among.0 t among.1 ∙ ap Some among.2 in
    let s = found client 0 got among.0 t there in
    let short : s.far < length got = slice_get_within got s.far s.is s.at in
    omega (arith, short, s.ticket)

arrival_at : (got : List Arrival) (t : ℕ) → t < length got → (x : Arrival) × (slice_get got t ≡ Some x)
arrival_at [] t h = absurd (omega (arith, h))
arrival_at (x ∷ got) zero h = (x, refl)
arrival_at (x ∷ got) (suc t) h = arrival_at got t (omega (arith, h))

same_client : (got : List Arrival) (t : ℕ) (x : Arrival) → slice_get got t ≡ Some x → (client : ℕ) → Contains (tickets_of client got) t → client ≡ x.client
same_client got t x at client among =
    let ts = tickets_of client got in
    let there : slice_get ts among.0 ≡ Some t = slice_get-get_or ts among.0 t among.1 ∙ ap Some among.2 in
    let s = found client 0 got among.0 t there in
    let same : t ≡ s.far = omega (arith, s.ticket) in
    let one : s.is ≡ x = same_Some s.is x (sym s.at ∙ ap (slice_get got) (sym same) ∙ at) in
    sym s.whose ∙ ap (λ (y : Arrival). y.client) one

pub one : (got : List Arrival) (t : ℕ) → t < length got → (x : Arrival) × IsTicketOf got t x
one got t h =
    let a = arrival_at got t h in
    let ts = tickets_of a.0.client got in
    let k = kept a.0.client 0 got t a.0 a.1 refl in
    let there : slice_get ts k.0 ≡ Some t = k.1 ∙ ap Some (let e : 0 + t ≡ t = omega arith in e) in (
      a.0,
      record {
        at = a.1;
        among = (k.0, slice_get_within ts k.0 t there, get_or_from_slice_get ts k.0 t t there);
        only = same_client got t a.0 a.1;
      },
    )

-- ---- the text has them

text_from : (names : List (List ℕ)) (client t : ℕ) (all : List Reply) (got : List Arrival) (rs : List Reply) → length got ≡ length rs → ((i : ℕ) → slice_get all (t + i) ≡ slice_get rs i)
    → client_text names client t got rs ≡ lines_of names client all (client_tickets client t got)
unfolding client_text
text_from names client t all [] rs e f = refl
text_from names client t all (x ∷ got) [] e f = absurd (omega (arith, e))
text_from names client t all (x ∷ got) (r ∷ rs) e f =
    let next : (i : ℕ) → slice_get all (suc t + i) ≡ slice_get rs i = λ i. ap (slice_get all) (let same : suc t + i ≡ t + suc i = omega arith in same) ∙ f (suc i) in
    by (text_from names client (suc t) all got rs (omega (arith, e)) next) (ap (slice_get all) (let same : t ≡ t + 0 = omega arith in same) ∙ f 0) (eqb x.client client)
  where
    by : client_text names client (suc t) got rs ≡ lines_of names client all (client_tickets client (suc t) got) → slice_get all t ≡ Some r
        → (b : Bool) → cond b (client_line names client t r) [] ++ client_text names client (suc t) got rs
        ≡ lines_of names client all (cond b (t ∷ client_tickets client (suc t) got) (client_tickets client (suc t) got))
    by rest reply true =
        ap (λ b. client_line names client t r ++ b) rest
        ∙ ap (λ o. ticket_line names client t o ++ lines_of names client all (client_tickets client (suc t) got)) (sym reply)
    by rest reply false = rest

pub text : (names : List (List ℕ)) (client : ℕ) (got : List Arrival) (rs : List Reply) → length got ≡ length rs → client_text names client 0 got rs ≡ lines_of names client rs (tickets_of client got)
text names client got rs e = text_from names client 0 rs got rs e (λ i. ap (slice_get rs) (let e : 0 + i ≡ i = omega arith in e))

-- ---- those of requests that arrived in order

as_many : (client t : ℕ) (xs : List Arrival) → length (client_tickets client t xs) ≡ length (of client xs)
as_many client t [] = refl
as_many client t (x ∷ xs) = by (as_many client (suc t) xs) (eqb x.client client)
  where
    by : length (client_tickets client (suc t) xs) ≡ length (of client xs) → (b : Bool) → length (cond b (t ∷ client_tickets client (suc t) xs) (client_tickets client (suc t) xs)) ≡ length (cond b (x.place ∷ of client xs) (of client xs))
    by more true = ap suc more
    by more false = more

pub many : (client n : ℕ) (got : List Arrival) → Rises 0 (of client got) n → length (tickets_of client got) ≡ n
many client n got h = omega (arith, as_many client 0 got, rises_length 0 n (of client got) h)

-- the arrival at a ticket is the client's request at this place, so many behind the first
record IsRequest (client t u place : ℕ) (xs : List Arrival) : Type 0 where
  far : ℕ
  ticket : u ≡ t + far
  at : slice_get xs far ≡ Some (record { client = client; place = place })

later : (client t u place : ℕ) (x : Arrival) (xs : List Arrival) → IsRequest client (suc t) u place xs → IsRequest client t u place (x ∷ xs)
later client t u place x xs s = record { far = suc s.far; ticket = omega (arith, s.ticket); at = s.at }

in_order : (client t a b : ℕ) (xs : List Arrival) (i u place : ℕ) → Rises a (of client xs) b → slice_get (client_tickets client t xs) i ≡ Some u → place ≡ a + i → IsRequest client t u place xs
in_order client t a b [] i u place h e p = absurd (none-some u e)
in_order client t a b (x ∷ xs) i u place h e p =
    by (λ m j h f q. in_order client (suc t) m b xs j u place h f q) (eqb x.client client) refl i h e p
  where
    by : ((m j : ℕ) → Rises m (of client xs) b → slice_get (client_tickets client (suc t) xs) j ≡ Some u → place ≡ m + j → IsRequest client (suc t) u place xs)
        → (c : Bool) → eqb x.client client ≡ c → (i : ℕ) → Rises a (cond c (x.place ∷ of client xs) (of client xs)) b
        → slice_get (cond c (t ∷ client_tickets client (suc t) xs) (client_tickets client (suc t) xs)) i ≡ Some u → place ≡ a + i → IsRequest client t u place (x ∷ xs)
    by f true q zero h e p = record {
      far = 0;
      ticket = omega (arith, same_Some t u e);
      at =
          let whose : x.client ≡ client = eqb-true x.client client q in
          let where_ : x.place ≡ place = omega (arith, h.0, p) in
          ap (λ (c : ℕ). Some (record { client = c; place = x.place })) whose ∙ ap (λ (n : ℕ). Some (record { client = client; place = n })) where_;
    }
    by f true q (suc i) h e p = later client t u place x xs (f (suc a) i h.1 e (omega (arith, p)))
    by f false q i h e p = later client t u place x xs (f a i h e p)

pub each : (client n : ℕ) (got : List Arrival) (i t : ℕ) → Rises 0 (of client got) n → slice_get (tickets_of client got) i ≡ Some t → slice_get got t ≡ Some (record { client = client; place = i })
each client n got i t h e =
    let r = in_order client 0 0 n got i t i h e (omega arith) in
    ap (slice_get got) (let same : t ≡ r.far = omega (arith, r.ticket) in same) ∙ r.at
