-- The text of clients, written in parts.
use Rattle.std.proofs.Common.{◌≡◌, ℕ, zero, suc, ◌+◌, ◌==◌, ◌<◌, ◌≤◌, cond, List, [], ◌∷◌, ◌++◌, take, drop, length, get_or, refl, sym, ap, ◌∙◌, subst, arith, append_assoc, append-nil, Option, ◌⊎◌, inl, inr}
use Rattle.std.proofs.lemmas.List.{take_more, take-append-drop, length-take, take_all}
use Rattle.std.proofs.lemmas.Bool.{eq-eqb, ne_eqb}
use Rattle.session_values.specs.declared.reply.Reply.{Reply}
use Rattle.byte_ends.specs.Ends.{AppendedPrefix}
use Rattle.byte_ends.proofs.EndsLemmas.{grew_more}
use Rattle.reply_sheet.proofs.TextLemmas.{Waits, broke_off}
use Rattle.reply_sheet.specs.declared.arrival.Arrival.{Arrival}
use Rattle.reply_sheet.specs.ClientText.{client_line, client_text, clients_text}
use Rattle.reply_sheet.specs.Moved.{HasMoved}

-- ---- what waits, and more behind it

-- of a longer text some was written, and the rest waits
pub waits_moved : (old mid new : Option (List ℕ)) (waited waits text bytes longer : List ℕ) → Waits old mid waited text → HasMoved mid new waited waits bytes → longer ≡ text ++ bytes → Waits old new waits longer
waits_moved old mid new waited waits text bytes longer w m e = record {
  written = w.written ++ m.written;
  grew = grew_more old mid new w.written m.written w.grew m.grew;
  all = append_assoc w.written m.written waits ∙ ap (λ b. w.written ++ b) m.all ∙ sym (append_assoc w.written waited bytes) ∙ ap (λ b. b ++ bytes) w.all ∙ sym e;
}

-- ---- the text, in parts
element : {A : Type 0} (xs : List A) (i : ℕ) → i < length xs → (x : A) × (get_or xs i x ≡ x)
element [] i h = absurd (omega (arith, h))
element (x ∷ xs) zero h = (x, refl)
element (x ∷ xs) (suc i) h = element xs i (omega (arith, h))

module _ (names : List (List ℕ)) where
  -- the lines of an arrival: one where it is the client's, and none where it isn't
  abbrev pub line_of : ℕ → ℕ → Arrival → Reply → List ℕ
  line_of client t x r = cond (x.client == client) (client_line names client t r) []

  no_text : (client t : ℕ) (rs : List Reply) → client_text names client t [] rs ≡ []
  unfolding client_text
  no_text client t rs = refl

  text_first : (client t : ℕ) (x : Arrival) (xs : List Arrival) (r : Reply) (rs : List Reply) → client_text names client t (x ∷ xs) (r ∷ rs) ≡ line_of client t x r ++ client_text names client (suc t) xs rs
  unfolding client_text
  text_first client t x xs r rs = refl

  text_cut : (client t : ℕ) (xs ys : List Arrival) (rs ss : List Reply) → length xs ≡ length rs → client_text names client t (xs ++ ys) (rs ++ ss) ≡ client_text names client t xs rs ++ client_text names client (t + length xs) ys ss
  text_cut client t [] ys [] ss e =
      ap (λ n. client_text names client n ys ss) (let f : t ≡ t + 0 = omega arith in f)
      ∙ sym (ap (λ b. b ++ client_text names client (t + 0) ys ss) (no_text client t []))
  text_cut client t [] ys (r ∷ rs) ss e = absurd (omega (arith, e))
  text_cut client t (x ∷ xs) ys [] ss e = absurd (omega (arith, e))
  text_cut client t (x ∷ xs) ys (r ∷ rs) ss e =
      text_first client t x (xs ++ ys) r (rs ++ ss)
      ∙ ap (λ b. line_of client t x r ++ b) (text_cut client (suc t) xs ys rs ss (omega (arith, e)))
      ∙ sym (append_assoc (line_of client t x r) (client_text names client (suc t) xs rs) (client_text names client (suc t + length xs) ys ss))
      ∙ ap (λ n. (line_of client t x r ++ client_text names client (suc t) xs rs) ++ client_text names client n ys ss) (let f : suc t + length xs ≡ t + length (x ∷ xs) = omega arith in f)
      ∙ ap (λ b. b ++ client_text names client (t + length (x ∷ xs)) ys ss) (sym (text_first client t x xs r rs))

  pub no_clients : (got : List Arrival) (rs : List Reply) → clients_text names got rs 0 ≡ []
  unfolding clients_text
  no_clients got rs = refl

  clients_more : (got : List Arrival) (rs : List Reply) (n : ℕ) → clients_text names got rs (suc n) ≡ clients_text names got rs n ++ client_text names n 0 got rs
  unfolding clients_text
  clients_more got rs n = refl

  -- so many clients' text, and that of the next one up to an arrival
  abbrev pub text_to : List Arrival → List Reply → ℕ → ℕ → List ℕ
  text_to got rs client i = clients_text names got rs client ++ client_text names client 0 (take i got) (take i rs)

  -- up to the first arrival
  pub to_none : (got : List Arrival) (rs : List Reply) (client : ℕ) → text_to got rs client 0 ≡ clients_text names got rs client
  to_none got rs client = ap (λ b. clients_text names got rs client ++ b) (no_text client 0 []) ∙ append-nil (clients_text names got rs client)

  -- up to the last one
  pub to_all : (got : List Arrival) (rs : List Reply) (client i : ℕ) → length got ≡ length rs → length got ≤ i → text_to got rs client i ≡ clients_text names got rs (client + 1)
  to_all got rs client i e h =
      ap (λ xs. clients_text names got rs client ++ client_text names client 0 xs (take i rs)) (take_all i got h)
      ∙ ap (λ ys. clients_text names got rs client ++ client_text names client 0 got ys) (take_all i rs (omega (arith, e, h)))
      ∙ sym (clients_more got rs client)
      ∙ ap (clients_text names got rs) (let e : suc client ≡ client + 1 = omega arith in e)

  text_line : (client : ℕ) (xs : List Arrival) (rs : List Reply) (x : Arrival) (r : Reply) → length xs ≡ length rs → client_text names client 0 (xs ++ x ∷ []) (rs ++ r ∷ []) ≡ client_text names client 0 xs rs ++ line_of client (length xs) x r
  text_line client xs rs x r e =
      text_cut client 0 xs (x ∷ []) rs (r ∷ []) e
      ∙ ap (λ b. client_text names client 0 xs rs ++ b)
      (text_first client (0 + length xs) x [] r [] ∙ ap (λ b. line_of client (0 + length xs) x r ++ b) (no_text client (suc (0 + length xs)) []) ∙ append-nil (line_of client (0 + length xs) x r))
      ∙ ap (λ n. client_text names client 0 xs rs ++ line_of client n x r) (let f : 0 + length xs ≡ length xs = omega arith in f)

  -- up to one arrival more
  to_more : (got : List Arrival) (rs : List Reply) (client i : ℕ) (d : Arrival) (r : Reply) → length got ≡ length rs → i < length got → get_or rs i r ≡ r
      → text_to got rs client (i + 1) ≡ text_to got rs client i ++ line_of client i (get_or got i d) r
  to_more got rs client i d r e h replied =
      let x = get_or got i d in
      let fits : i < length rs = omega (arith, e, h) in
      let same : length (take i got) ≡ length (take i rs) = omega (arith, e, h, length-take i got, length-take i rs) in
      ap (λ xs. clients_text names got rs client ++ client_text names client 0 xs (take (i + 1) rs)) (take_more got i d h)
      ∙ ap (λ ys. clients_text names got rs client ++ client_text names client 0 (take i got ++ x ∷ []) ys) (take_more rs i r fits ∙ ap (λ y. take i rs ++ y ∷ []) replied)
      ∙ ap (λ b. clients_text names got rs client ++ b)
      (text_line client (take i got) (take i rs) x r same ∙ ap (λ n. client_text names client 0 (take i got) (take i rs) ++ line_of client n x r) (let f : length (take i got) ≡ i = omega (arith, h, length-take i got) in f))
      ∙ sym (append_assoc (clients_text names got rs client) (client_text names client 0 (take i got) (take i rs)) (line_of client i x r))

  -- the line of a client's arrival is one, and there is none for that of another
  line_is : (client t : ℕ) (x : Arrival) (r : Reply) → x.client ≡ client → line_of client t x r ≡ client_line names client t r
  line_is client t x r e = ap (λ b. cond b (client_line names client t r) []) (eq-eqb x.client client e)

  no_line : (client t : ℕ) (x : Arrival) (r : Reply) → (x.client ≡ client → ⊥) → line_of client t x r ≡ []
  no_line client t x r n = ap (λ b. cond b (client_line names client t r) []) (ne_eqb x.client client n)

  -- one line more waits
  pub line_waits : (got : List Arrival) (rs : List Reply) (client i : ℕ) (d : Arrival) (r : Reply) (old mid new : Option (List ℕ)) (waited waits : List ℕ) → length got ≡ length rs → i < length got → get_or rs i r ≡ r
      → (get_or got i d).client ≡ client → Waits old mid waited (text_to got rs client i) → HasMoved mid new waited waits (client_line names client i r) → Waits old new waits (text_to got rs client (i + 1))
  line_waits got rs client i d r old mid new waited waits e h replied whose w m =
      waits_moved old mid new waited waits (text_to got rs client i) (client_line names client i r) (text_to got rs client (i + 1)) w m
      (to_more got rs client i d r e h replied ∙ ap (λ b. text_to got rs client i ++ b) (line_is client i (get_or got i d) r whose))

  -- another client's arrival
  pub none_waits : (got : List Arrival) (rs : List Reply) (client i : ℕ) (d : Arrival) (old now : Option (List ℕ)) (waits : List ℕ) → length got ≡ length rs → i < length got
      → ((get_or got i d).client ≡ client → ⊥) → Waits old now waits (text_to got rs client i) → Waits old now waits (text_to got rs client (i + 1))
  none_waits got rs client i d old now waits e h other w =
      let r = element rs i (omega (arith, e, h)) in
      subst (Waits old now waits)
      (sym (to_more got rs client i d r.0 e h r.1 ∙ ap (λ b. text_to got rs client i ++ b) (no_line client i (get_or got i d) r.0 other) ∙ append-nil (text_to got rs client i))) w

  -- the text of some clients begins that of more
  front : (got : List Arrival) (rs : List Reply) (k n : ℕ) → k ≤ n → (more : List ℕ) × (clients_text names got rs n ≡ clients_text names got rs k ++ more)
  front got rs k zero h = ([], ap (clients_text names got rs) (let e : 0 ≡ k = omega (arith, h) in e) ∙ sym (append-nil (clients_text names got rs k)))
  front got rs k (suc n) h = by (front got rs k n) (last_or k n h)
    where
      last_or : (a b : ℕ) → a ≤ suc b → (a ≤ b) ⊎ (suc b ≡ a)
      last_or a b h = grind arith

      by : (k ≤ n → (more : List ℕ) × (clients_text names got rs n ≡ clients_text names got rs k ++ more)) → (k ≤ n) ⊎ (suc n ≡ k) → (more : List ℕ) × (clients_text names got rs (suc n) ≡ clients_text names got rs k ++ more)
      by f (inl l) =
          let m = f l in (
            m.0 ++ client_text names n 0 got rs,
            clients_more got rs n ∙ ap (λ b. b ++ client_text names n 0 got rs) m.1 ∙ append_assoc (clients_text names got rs k) m.0 (client_text names n 0 got rs),
          )
      by f (inr e) = ([], ap (clients_text names got rs) e ∙ sym (append-nil (clients_text names got rs k)))

  -- the whole text, cut at an arrival of a client
  to_front : (got : List Arrival) (rs : List Reply) (client n i : ℕ) → client < n → length got ≡ length rs → (more : List ℕ) × (clients_text names got rs n ≡ text_to got rs client i ++ more)
  to_front got rs client n i h e =
      let m = front got rs (suc client) n (omega (arith, h)) in
      let before = clients_text names got rs client in
      let done = client_text names client 0 (take i got) (take i rs) in
      let rest = client_text names client (0 + length (take i got)) (drop i got) (drop i rs) in
      let same : length (take i got) ≡ length (take i rs) = simp length-take (omega (arith, e)) in
      let cut : client_text names client 0 got rs ≡ done ++ rest =
      ap (λ xs. client_text names client 0 xs rs) (sym (take-append-drop i got))
      ∙ ap (λ ys. client_text names client 0 (take i got ++ drop i got) ys) (sym (take-append-drop i rs))
      ∙ text_cut client 0 (take i got) (drop i got) (take i rs) (drop i rs) same in (
        rest ++ m.0,
        m.1 ∙ ap (λ b. b ++ m.0) (clients_more got rs client ∙ ap (λ b. before ++ b) cut ∙ sym (append_assoc before done rest))
            ∙ append_assoc (before ++ done) rest m.0,
      )

  -- writing what waits broke off, at an arrival of a client
  pub broke_in : (got : List Arrival) (rs : List Reply) (client n i : ℕ) (old mid new : Option (List ℕ)) (waiting : List ℕ) → client < n → length got ≡ length rs
      → Waits old mid waiting (text_to got rs client i) → AppendedPrefix mid new waiting → AppendedPrefix old new (clients_text names got rs n)
  broke_in got rs client n i old mid new waiting h e w broken =
      let cut = to_front got rs client n i h e in
      broke_off old mid new waiting (text_to got rs client i) cut.0 (clients_text names got rs n) w broken cut.1

  -- and behind some clients
  pub broke_behind : (got : List Arrival) (rs : List Reply) (client n : ℕ) (old mid new : Option (List ℕ)) (waiting : List ℕ) → client ≤ n
      → Waits old mid waiting (clients_text names got rs client) → AppendedPrefix mid new waiting → AppendedPrefix old new (clients_text names got rs n)
  broke_behind got rs client n old mid new waiting h w broken =
      let cut = front got rs client n h in
      broke_off old mid new waiting (clients_text names got rs client) cut.0 (clients_text names got rs n) w broken cut.1
