-- What a list of tickets keeps when a ticket, an operation or a symbol is added.
use Rattle.std.proofs.Common.{◌≡◌, ℕ, zero, suc, ◌+◌, ◌-◌, ◌^◌, ◌<◌, ◌≤◌, List, [], ◌∷◌, ◌++◌, length, take, drop, get_or, cond, ◌&&◌, eqb, inl, inr, refl, sym, ◌∙◌, ap, subst, arith, length-append}
use Rattle.std.proofs.Math.ListN.{set}
use Rattle.std.proofs.lemmas.List.{length-set, map_push}
use Rattle.std.specs.List.{AllByRecursion}
use Rattle.session_values.specs.declared.kind.TableKind.{TableKind}
use Rattle.session_values.specs.declared.op.Op.{Op}
use Rattle.session_values.specs.declared.reply.Reply.{Reply}
use Rattle.session_values.specs.Dialogue.{Calls, Answers}
use Rattle.session_values.specs.Kinds.{is_adding}
use Rattle.session_values.specs.Tables.{Fits}
use Rattle.symbolic_ops.specs.declared.symbol.Symbol.{Symbol}
use Rattle.symbolic_ops.specs.Matching.{HasNoVar, Matches, exact_symbol}
use Rattle.session_journal.specs.declared.list_script.Row.{Row}
use Rattle.session_values.specs.Op.{IsHeld}
use Rattle.session_values.proofs.Lists.{all_push, all_weaker}
use Rattle.symbolic_ops.proofs.Above.{exact_stands}
use Rattle.session_journal.specs.Script.{HasValues, IsScript, calls, room}
use Rattle.session_journal.specs.Lists.{Ticket, ListView, HasPlace, ticket_at, last_ticket, with_last, adding, IsTicket, list_meaning, answers_only, calls_more, allows_more}
use Rattle.session_journal.specs.ListRows.{ticket_of_row, tickets_of, Follow, KeepsRows}
use Rattle.session_journal.proofs.ListLawful.{HasFew, list_lawful, at_ticket, sum_tickets}
use Rattle.session_journal.proofs.Rows.{front_stays, last_grows, last_end, follow_more, follow_push, rows_stay, last_set, last_is, length-rows, total_is, row_within, ticket_is}

-- ---- how many operations may add a key
pub adding-append : (i : ℕ) (xs ys : List Op) → adding i (xs ++ ys) ≡ adding i xs + adding i ys
adding-append i [] ys = omega arith
adding-append i (x ∷ xs) ys = omega (arith, adding-append i xs ys)

pub adding_step : (i : ℕ) (ops : List Op) (k : ℕ) (op : Op) → k < length ops → op ≡ get_or ops k op → adding i (take (suc k) ops) ≡ adding i (take k ops) + cond {A = ℕ} (is_adding op.kind && eqb op.table i) 1 0
adding_step i [] k op l e = absurd (omega (arith, l))
adding_step i (x ∷ ops) zero op l e = let h : cond {A = ℕ} (is_adding op.kind && eqb op.table i) 1 0 ≡ cond {A = ℕ} (is_adding x.kind && eqb x.table i) 1 0 = ap (λ (p : Op). cond {A = ℕ} (is_adding p.kind && eqb p.table i) 1 0) e in omega (arith, h)
adding_step i (x ∷ ops) (suc k) op l e = omega (arith, adding_step i ops k op (omega (arith, l)) e)

pub adding_front : (i : ℕ) (ops : List Op) (k : ℕ) → adding i (take k ops) ≤ adding i ops
adding_front i ops zero = omega arith
adding_front i [] (suc k) = omega arith
adding_front i (x ∷ ops) (suc k) = omega (arith, adding_front i ops k)

-- ---- all of a list
all_with_last : (P : Ticket → Type 0) (xs : List Ticket) (z : Ticket) → AllByRecursion P xs → P z → AllByRecursion P (with_last xs z)
all_with_last P [] z a h = tt
all_with_last P (x ∷ []) z a h = (h, tt)
all_with_last P (x ∷ y ∷ xs) z a h = (a.0, all_with_last P (y ∷ xs) z a.1 h)

all_last : (P : Ticket → Type 0) (xs : List Ticket) → 0 < length xs → AllByRecursion P xs → P (last_ticket xs)
all_last P [] l a = absurd (omega (arith, l))
all_last P (x ∷ []) l a = a.0
all_last P (x ∷ y ∷ xs) l a = all_last P (y ∷ xs) (omega arith) a.1

pub matches_more : (f : List Symbol) (s : Symbol) (op : Op) → Matches f op → Matches (f ++ s ∷ []) op
matches_more [] s op m = absurd m
matches_more (x ∷ f) s op (inl m) = inl m
matches_more (x ∷ f) s op (inr m) = inr (matches_more f s op m)

pub matches_exact : (f : List Symbol) (op : Op) → IsHeld op → Matches (f ++ exact_symbol op ∷ []) op
matches_exact [] op h = inl (exact_stands op h)
matches_exact (x ∷ f) op h = inr (matches_exact f op h)

-- ---- a ticket with more
called_ticket : (shape : List TableKind) (x : Ticket) (op : Op) → IsTicket shape x → Fits shape op → HasValues (Calls op) → length x.entry < 256 → IsTicket shape (calls_more x op)
called_ticket shape x op h f v l = record {
  fits = all_push (λ o. Fits shape o) x.ops op h.fits f;
  values = all_push (λ o. HasValues (Calls o)) x.ops op h.values v;
  answer = h.answer;
  few = omega (arith, length-append x.entry (exact_symbol op ∷ []), l);
  known = all_push HasNoVar x.entry (exact_symbol op) h.known (tt, tt);
  matched = all_push (λ o. Matches (x.entry ++ exact_symbol op ∷ []) o) x.ops op (all_weaker (λ o. Matches x.entry o) (λ o. Matches (x.entry ++ exact_symbol op ∷ []) o) (λ o m. matches_more x.entry (exact_symbol op) o m) x.ops h.matched) (matches_exact x.entry op v);
}

allowed_ticket : (shape : List TableKind) (x : Ticket) (s : Symbol) → IsTicket shape x → HasNoVar s → length x.entry < 256 → IsTicket shape (allows_more x s)
allowed_ticket shape x s h n l = record {
  fits = h.fits;
  values = h.values;
  answer = h.answer;
  few = omega (arith, length-append x.entry (s ∷ []), l);
  known = all_push HasNoVar x.entry s h.known n;
  matched = all_weaker (λ o. Matches x.entry o) (λ o. Matches (x.entry ++ s ∷ []) o) (λ o m. matches_more x.entry s o m) x.ops h.matched;
}

-- the last row with one operation and one symbol more, and with one symbol more
abbrev pub called_row : Row → Row
called_row r = record { reply = r.reply; first_op = r.first_op; ops = r.ops + 1; first_symbol = r.first_symbol; symbols = r.symbols + 1 }

abbrev pub allowed_row : Row → Row
allowed_row r = record { reply = r.reply; first_op = r.first_op; ops = r.ops; first_symbol = r.first_symbol; symbols = r.symbols + 1 }

along : (rows : List Row) {a b c d : ℕ} → a ≡ b → c ≡ d → Follow 0 0 rows b d → Follow 0 0 rows a c
along rows {a} {b} {c} {d} e f h = subst (λ (n : ℕ). Follow 0 0 rows n c) (sym e) (subst (λ (n : ℕ). Follow 0 0 rows b n) (sym f) h)

module _ (shape : List TableKind) (rows : List Row) (ops : List Op) (symbols : List Symbol) (row_room op_room symbol_room : ℕ) (keep : KeepsRows shape rows ops symbols row_room op_room symbol_room) where
  -- ---- what it means
  pub has_few : HasFew (tickets_of ops symbols rows) ops
  has_few = record {
    requests = omega (arith, length-rows (ticket_of_row ops symbols) rows, keep.rows_within, keep.few_rows);
    calls = total_is length refl length-append ops symbols 0 0 rows (length symbols) keep.follow;
    adds = λ i. total_is (adding i) refl (adding-append i) ops symbols 0 0 rows (length symbols) keep.follow;
    few = omega (arith, keep.ops_within, keep.few_ops);
  }

  pub is_script : IsScript (list_meaning shape (tickets_of ops symbols rows))
  is_script = list_lawful shape (tickets_of ops symbols rows) ops keep.tickets has_few

  pub row_inside : (t : ℕ) (r : Row) → t < length rows → r ≡ get_or rows t r → (r.first_op + r.ops ≤ length ops) × (r.first_symbol + r.symbols ≤ length symbols)
  row_inside t r l e = row_within 0 0 rows (length ops) (length symbols) t r keep.follow l e

  pub row_ticket : (t : ℕ) (r : Row) → t < length rows → r ≡ get_or rows t r → IsTicket shape (ticket_of_row ops symbols r)
  row_ticket t r l e = subst (IsTicket shape) (ticket_is (ticket_of_row ops symbols) rows t r l e) (at_ticket shape (tickets_of ops symbols rows) t keep.tickets)

  -- ---- a ticket is added
  pub keeps_ticket : (reply : Reply) (a b : ℕ) → a ≡ length ops → b ≡ length symbols → length rows < row_room → HasValues (Answers reply) → KeepsRows shape (rows ++ record { reply = reply; first_op = a; ops = 0; first_symbol = b; symbols = 0 } ∷ []) ops symbols row_room op_room symbol_room
  keeps_ticket reply a b p q l v =
      let z : Row = record { reply = reply; first_op = a; ops = 0; first_symbol = b; symbols = 0 } in
      let fresh : IsTicket shape (answers_only reply) = record { fits = tt; values = tt; answer = v; few = omega arith; known = tt; matched = tt } in
      record {
        follow = follow_push 0 0 rows (length ops) (length symbols) z keep.follow p q refl refl;
        tickets = subst (AllByRecursion (IsTicket shape)) (sym (map_push (ticket_of_row ops symbols) rows z)) (all_push (IsTicket shape) (tickets_of ops symbols rows) (answers_only reply) keep.tickets fresh);
        rows_within = omega (arith, length-append rows (z ∷ []), l);
        ops_within = keep.ops_within;
        symbols_within = keep.symbols_within;
        few_rows = keep.few_rows;
        few_ops = keep.few_ops;
        few_symbols = keep.few_symbols;
      }

  module _ (k : ℕ) (r : Row) (last : suc k ≡ length rows) (at : r ≡ get_or rows k r) where
    some : 0 < length (tickets_of ops symbols rows)
    some = omega (arith, last, length-rows (ticket_of_row ops symbols) rows)

    last_row : last_ticket (tickets_of ops symbols rows) ≡ ticket_of_row ops symbols r
    last_row = last_is (ticket_of_row ops symbols) rows k r last at

    pub last_ticket_is : IsTicket shape (last_ticket (tickets_of ops symbols rows))
    last_ticket_is = all_last (IsTicket shape) (tickets_of ops symbols rows) some keep.tickets

    -- ---- an operation is added
    pub tickets_call : (op : Op) → tickets_of (ops ++ op ∷ []) (symbols ++ exact_symbol op ∷ []) (set rows k (called_row r)) ≡ with_last (tickets_of ops symbols rows) (calls_more (last_ticket (tickets_of ops symbols rows)) op)
    tickets_call op =
        let ends : (r.first_op + r.ops ≡ length ops) × (r.first_symbol + r.symbols ≡ length symbols) = last_end 0 0 rows (length ops) (length symbols) k r keep.follow last at in
        let e : r.ops + 1 ≡ suc r.ops = omega arith in
        let f : r.symbols + 1 ≡ suc r.symbols = omega arith in
        let made : ticket_of_row (ops ++ op ∷ []) (symbols ++ exact_symbol op ∷ []) (called_row r) ≡ calls_more (ticket_of_row ops symbols r) op = λ i. record {
          ops = (ap (λ n. take n (drop r.first_op (ops ++ op ∷ []))) e ∙ last_grows ops op r.first_op r.ops ends.0) i;
          reply = r.reply;
          entry = (ap (λ n. take n (drop r.first_symbol (symbols ++ exact_symbol op ∷ []))) f ∙ last_grows symbols (exact_symbol op) r.first_symbol r.symbols ends.1) i;
        } in
        last_set (ticket_of_row ops symbols) (ticket_of_row (ops ++ op ∷ []) (symbols ++ exact_symbol op ∷ [])) rows k (called_row r) last (rows_stay ops (ops ++ op ∷ []) symbols (symbols ++ exact_symbol op ∷ []) (λ from n h. front_stays ops (op ∷ []) from n h) (λ from n h. front_stays symbols (exact_symbol op ∷ []) from n h) 0 0 rows (length ops) (length symbols) keep.follow (omega arith) (omega arith))
        ∙ ap (with_last (tickets_of ops symbols rows)) (made ∙ ap (λ (x : Ticket). calls_more x op) (sym last_row))

    pub keeps_call : (op : Op) → Fits shape op → HasValues (Calls op) → length (last_ticket (tickets_of ops symbols rows)).entry < 256 → length ops < op_room → length symbols < symbol_room → KeepsRows shape (set rows k (called_row r)) (ops ++ op ∷ []) (symbols ++ exact_symbol op ∷ []) row_room op_room symbol_room
    keeps_call op f v l lo ls =
        let p : length (ops ++ op ∷ []) ≡ length ops + 1 = length-append ops (op ∷ []) in
        let q : length (symbols ++ exact_symbol op ∷ []) ≡ length symbols + 1 = length-append symbols (exact_symbol op ∷ []) in
        record {
          follow = along (set rows k (called_row r)) p q (follow_more 0 0 rows (length ops) (length symbols) k 1 1 r (called_row r) keep.follow last at refl refl refl refl);
          tickets = subst (AllByRecursion (IsTicket shape)) (sym (tickets_call op)) (all_with_last (IsTicket shape) (tickets_of ops symbols rows) (calls_more (last_ticket (tickets_of ops symbols rows)) op) keep.tickets (called_ticket shape (last_ticket (tickets_of ops symbols rows)) op last_ticket_is f v l));
          rows_within = omega (arith, length-set rows k (called_row r), keep.rows_within);
          ops_within = omega (arith, p, lo);
          symbols_within = omega (arith, q, ls);
          few_rows = keep.few_rows;
          few_ops = keep.few_ops;
          few_symbols = keep.few_symbols;
        }

    -- ---- a symbol is added
    pub tickets_allow : (s : Symbol) → tickets_of ops (symbols ++ s ∷ []) (set rows k (allowed_row r)) ≡ with_last (tickets_of ops symbols rows) (allows_more (last_ticket (tickets_of ops symbols rows)) s)
    tickets_allow s =
        let ends : (r.first_op + r.ops ≡ length ops) × (r.first_symbol + r.symbols ≡ length symbols) = last_end 0 0 rows (length ops) (length symbols) k r keep.follow last at in
        let f : r.symbols + 1 ≡ suc r.symbols = omega arith in
        let made : ticket_of_row ops (symbols ++ s ∷ []) (allowed_row r) ≡ allows_more (ticket_of_row ops symbols r) s = λ i. record {
          ops = take r.ops (drop r.first_op ops);
          reply = r.reply;
          entry = (ap (λ n. take n (drop r.first_symbol (symbols ++ s ∷ []))) f ∙ last_grows symbols s r.first_symbol r.symbols ends.1) i;
        } in
        last_set (ticket_of_row ops symbols) (ticket_of_row ops (symbols ++ s ∷ [])) rows k (allowed_row r) last (rows_stay ops ops symbols (symbols ++ s ∷ []) (λ from n h. refl) (λ from n h. front_stays symbols (s ∷ []) from n h) 0 0 rows (length ops) (length symbols) keep.follow (omega arith) (omega arith))
        ∙ ap (with_last (tickets_of ops symbols rows)) (made ∙ ap (λ (x : Ticket). allows_more x s) (sym last_row))

    pub keeps_allow : (s : Symbol) → HasNoVar s → length (last_ticket (tickets_of ops symbols rows)).entry < 256 → length symbols < symbol_room → KeepsRows shape (set rows k (allowed_row r)) ops (symbols ++ s ∷ []) row_room op_room symbol_room
    keeps_allow s n l ls =
        let p : length ops ≡ length ops + 0 = omega arith in
        let q : length (symbols ++ s ∷ []) ≡ length symbols + 1 = length-append symbols (s ∷ []) in
        let a : r.ops ≡ r.ops + 0 = omega arith in
        record {
          follow = along (set rows k (allowed_row r)) p q (follow_more 0 0 rows (length ops) (length symbols) k 0 1 r (allowed_row r) keep.follow last at refl refl a refl);
          tickets = subst (AllByRecursion (IsTicket shape)) (sym (tickets_allow s)) (all_with_last (IsTicket shape) (tickets_of ops symbols rows) (allows_more (last_ticket (tickets_of ops symbols rows)) s) keep.tickets (allowed_ticket shape (last_ticket (tickets_of ops symbols rows)) s last_ticket_is n l));
          rows_within = omega (arith, length-set rows k (allowed_row r), keep.rows_within);
          ops_within = keep.ops_within;
          symbols_within = omega (arith, q, ls);
          few_rows = keep.few_rows;
          few_ops = keep.few_ops;
          few_symbols = keep.few_symbols;
        }

-- ---- of what contracts see
module _ (shape : List TableKind) (rows : List Row) (ops : List Op) (symbols : List Symbol) (row_room op_room symbol_room : ℕ) (keep : KeepsRows shape rows ops symbols row_room op_room symbol_room) (v : ListView) (is : record { shape = shape; tickets = tickets_of ops symbols rows; tickets_left = row_room - length rows; calls_left = op_room - length ops; symbols_left = symbol_room - length symbols } ≡ v) where
  pub view_script : IsScript (list_meaning v.shape v.tickets)
  view_script = let P : ListView → Type 0 = λ w. IsScript (list_meaning w.shape w.tickets) in subst P is (is_script shape rows ops symbols row_room op_room symbol_room keep)

  pub requests_are : length v.tickets ≡ length rows
  requests_are = ap (λ (w : ListView). length w.tickets) (sym is) ∙ length-rows (ticket_of_row ops symbols) rows

  pub calls_are : length ops ≡ calls (list_meaning v.shape v.tickets)
  calls_are =
      let few : HasFew (tickets_of ops symbols rows) ops = has_few shape rows ops symbols row_room op_room symbol_room keep in
      sym few.calls ∙ sym (sum_tickets (λ x. length x.ops) (tickets_of ops symbols rows)) ∙ ap (λ (w : ListView). calls (list_meaning w.shape w.tickets)) is

  pub room_is : (i : ℕ) → adding i ops ≡ room (list_meaning v.shape v.tickets) i
  room_is i =
      let few : HasFew (tickets_of ops symbols rows) ops = has_few shape rows ops symbols row_room op_room symbol_room keep in
      sym (few.adds i) ∙ sym (sum_tickets (λ x. adding i x.ops) (tickets_of ops symbols rows)) ∙ ap (λ (w : ListView). room (list_meaning w.shape w.tickets) i) is

  pub entry_is : (t : ℕ) (r : Row) → t < length v.tickets → r ≡ get_or rows t r → take r.symbols (drop r.first_symbol symbols) ≡ (ticket_at v.tickets t).entry
  entry_is t r l e =
      ap (λ (x : Ticket). x.entry) (sym (ticket_is (ticket_of_row ops symbols) rows t r (omega (arith, l, requests_are)) e)) ∙ ap (λ (w : ListView). (ticket_at w.tickets t).entry) is

  pub entry_row : (t : ℕ) (r : Row) → t < length v.tickets → r ≡ get_or rows t r → IsTicket shape (ticket_of_row ops symbols r)
  entry_row t r l e = row_ticket shape rows ops symbols row_room op_room symbol_room keep t r (omega (arith, l, requests_are)) e

  pub entry_within : (t : ℕ) (r : Row) → t < length v.tickets → r ≡ get_or rows t r → r.first_symbol + r.symbols ≤ length symbols
  entry_within t r l e = (row_inside shape rows ops symbols row_room op_room symbol_room keep t r (omega (arith, l, requests_are)) e).1

  pub some_rows : HasPlace v.tickets → 0 < length rows
  some_rows h = omega (arith, h.some, requests_are)

  last_few : HasPlace v.tickets → length (last_ticket (tickets_of ops symbols rows)).entry < 256
  last_few h = let P : ListView → Type 0 = λ w. length (last_ticket w.tickets).entry < 256 in subst P (sym is) h.few

  rooms : (row_room : ℕ) (rows : List Row) (ops : List Op) (symbols : List Symbol) {a b c d : ℕ} → a ≡ b → c ≡ d → KeepsRows shape rows ops symbols row_room b d → KeepsRows shape rows ops symbols row_room a c
  rooms row_room rows ops symbols {a} {b} {c} {d} e f h = subst (λ (n : ℕ). KeepsRows shape rows ops symbols row_room n c) (sym e) (subst (λ (n : ℕ). KeepsRows shape rows ops symbols row_room b n) (sym f) h)

  pub places : (v.tickets_left ≡ row_room - length rows) × (v.calls_left ≡ op_room - length ops) × (v.symbols_left ≡ symbol_room - length symbols)
  places = (ap (λ (w : ListView). w.tickets_left) (sym is), ap (λ (w : ListView). w.calls_left) (sym is), ap (λ (w : ListView). w.symbols_left) (sym is))

  module _ (k : ℕ) (r : Row) (last : suc k ≡ length rows) (at : r ≡ get_or rows k r) where
    pub counts_fit : (r.ops + 1 < 2 ^ 32) × (r.symbols + 1 < 2 ^ 32)
    counts_fit =
        let h : (r.first_op + r.ops ≤ length ops) × (r.first_symbol + r.symbols ≤ length symbols) = row_inside shape rows ops symbols row_room op_room symbol_room keep k r (omega (arith, last)) at in
        (omega (arith, h.0, keep.ops_within, keep.few_ops), omega (arith, h.1, keep.symbols_within, keep.few_symbols))

    pub call_keeps : (op : Op) (ops2 : List Op) (symbols2 : List Symbol) (op_room2 symbol_room2 : ℕ) → op_room2 ≡ op_room → symbol_room2 ≡ symbol_room → Fits v.shape op → HasValues (Calls op) → HasPlace v.tickets → 0 < v.calls_left → 0 < v.symbols_left → ops2 ≡ ops ++ op ∷ [] → symbols2 ≡ symbols ++ exact_symbol op ∷ [] → KeepsRows shape (set rows k (called_row r)) ops2 symbols2 row_room op_room2 symbol_room2
    call_keeps op ops2 symbols2 op_room2 symbol_room2 ro rs f h p lo ls eo es =
        let fit : Fits shape op = let P : ListView → Type 0 = λ w. Fits w.shape op in subst P (sym is) f in
        let made : KeepsRows shape (set rows k (called_row r)) (ops ++ op ∷ []) (symbols ++ exact_symbol op ∷ []) row_room op_room symbol_room = keeps_call shape rows ops symbols row_room op_room symbol_room keep k r last at op fit h (last_few p) (omega (arith, places.1, lo)) (omega (arith, places.2, ls)) in
        rooms row_room (set rows k (called_row r)) ops2 symbols2 ro rs (subst (λ (l : List Op). KeepsRows shape (set rows k (called_row r)) l symbols2 row_room op_room symbol_room) (sym eo) (subst (λ (l : List Symbol). KeepsRows shape (set rows k (called_row r)) (ops ++ op ∷ []) l row_room op_room symbol_room) (sym es) made))

    pub call_gives : (op : Op) (ops2 : List Op) (symbols2 : List Symbol) (op_room2 symbol_room2 : ℕ) → op_room2 ≡ op_room → symbol_room2 ≡ symbol_room → ops2 ≡ ops ++ op ∷ [] → symbols2 ≡ symbols ++ exact_symbol op ∷ [] → ◌≡◌ {A = ListView} (record { shape = shape; tickets = tickets_of ops2 symbols2 (set rows k (called_row r)); tickets_left = row_room - length (set rows k (called_row r)); calls_left = op_room2 - length ops2; symbols_left = symbol_room2 - length symbols2 }) (record { shape = v.shape; tickets = with_last v.tickets (calls_more (last_ticket v.tickets) op); tickets_left = v.tickets_left; calls_left = v.calls_left - 1; symbols_left = v.symbols_left - 1 })
    call_gives op ops2 symbols2 op_room2 symbol_room2 ro rs eo es =
        let a : op_room2 - length ops2 ≡ op_room - length ops - 1 = (λ i. ro i - length (eo i)) ∙ omega (arith, length-append ops (op ∷ [])) in
        let b : symbol_room2 - length symbols2 ≡ symbol_room - length symbols - 1 = (λ i. rs i - length (es i)) ∙ omega (arith, length-append symbols (exact_symbol op ∷ [])) in
        let c : row_room - length (set rows k (called_row r)) ≡ row_room - length rows = ap (λ n. row_room - n) (length-set rows k (called_row r)) in
        let d : tickets_of ops2 symbols2 (set rows k (called_row r)) ≡ with_last (tickets_of ops symbols rows) (calls_more (last_ticket (tickets_of ops symbols rows)) op) = (λ i. tickets_of (eo i) (es i) (set rows k (called_row r))) ∙ tickets_call shape rows ops symbols row_room op_room symbol_room keep k r last at op in
        let here : ListView = record { shape = shape; tickets = tickets_of ops2 symbols2 (set rows k (called_row r)); tickets_left = row_room - length (set rows k (called_row r)); calls_left = op_room2 - length ops2; symbols_left = symbol_room2 - length symbols2 } in
        let P : ListView → Type 0 = λ w. ◌≡◌ {A = ListView} here (record { shape = w.shape; tickets = with_last w.tickets (calls_more (last_ticket w.tickets) op); tickets_left = w.tickets_left; calls_left = w.calls_left - 1; symbols_left = w.symbols_left - 1 }) in
        subst P is (λ i. record { shape = shape; tickets = d i; tickets_left = c i; calls_left = a i; symbols_left = b i })

    pub allow_keeps : (s : Symbol) (symbols2 : List Symbol) (symbol_room2 : ℕ) → symbol_room2 ≡ symbol_room → HasNoVar s → HasPlace v.tickets → 0 < v.symbols_left → symbols2 ≡ symbols ++ s ∷ [] → KeepsRows shape (set rows k (allowed_row r)) ops symbols2 row_room op_room symbol_room2
    allow_keeps s symbols2 symbol_room2 rs n p ls es =
        rooms row_room (set rows k (allowed_row r)) ops symbols2 refl rs (subst (λ (l : List Symbol). KeepsRows shape (set rows k (allowed_row r)) ops l row_room op_room symbol_room) (sym es) (keeps_allow shape rows ops symbols row_room op_room symbol_room keep k r last at s n (last_few p) (omega (arith, places.2, ls))))

    pub allow_gives : (s : Symbol) (symbols2 : List Symbol) (symbol_room2 : ℕ) → symbol_room2 ≡ symbol_room → symbols2 ≡ symbols ++ s ∷ [] → ◌≡◌ {A = ListView} (record { shape = shape; tickets = tickets_of ops symbols2 (set rows k (allowed_row r)); tickets_left = row_room - length (set rows k (allowed_row r)); calls_left = op_room - length ops; symbols_left = symbol_room2 - length symbols2 }) (record { shape = v.shape; tickets = with_last v.tickets (allows_more (last_ticket v.tickets) s); tickets_left = v.tickets_left; calls_left = v.calls_left; symbols_left = v.symbols_left - 1 })
    allow_gives s symbols2 symbol_room2 rs es =
        let b : symbol_room2 - length symbols2 ≡ symbol_room - length symbols - 1 = (λ i. rs i - length (es i)) ∙ omega (arith, length-append symbols (s ∷ [])) in
        let c : row_room - length (set rows k (allowed_row r)) ≡ row_room - length rows = ap (λ n. row_room - n) (length-set rows k (allowed_row r)) in
        let d : tickets_of ops symbols2 (set rows k (allowed_row r)) ≡ with_last (tickets_of ops symbols rows) (allows_more (last_ticket (tickets_of ops symbols rows)) s) = (λ i. tickets_of ops (es i) (set rows k (allowed_row r))) ∙ tickets_allow shape rows ops symbols row_room op_room symbol_room keep k r last at s in
        let here : ListView = record { shape = shape; tickets = tickets_of ops symbols2 (set rows k (allowed_row r)); tickets_left = row_room - length (set rows k (allowed_row r)); calls_left = op_room - length ops; symbols_left = symbol_room2 - length symbols2 } in
        let P : ListView → Type 0 = λ w. ◌≡◌ {A = ListView} here (record { shape = w.shape; tickets = with_last w.tickets (allows_more (last_ticket w.tickets) s); tickets_left = w.tickets_left; calls_left = w.calls_left; symbols_left = w.symbols_left - 1 }) in
        subst P is (λ i. record { shape = shape; tickets = d i; tickets_left = c i; calls_left = op_room - length ops; symbols_left = b i })

  pub ticket_keeps : (reply : Reply) (a b : ℕ) (rows2 : List Row) (row_room2 : ℕ) → a ≡ length ops → b ≡ length symbols → 0 < v.tickets_left → HasValues (Answers reply) → rows2 ≡ rows ++ record { reply = reply; first_op = a; ops = 0; first_symbol = b; symbols = 0 } ∷ [] → row_room2 ≡ row_room → KeepsRows shape rows2 ops symbols row_room2 op_room symbol_room
  ticket_keeps reply a b rows2 row_room2 p q l h e f =
      subst (λ (n : ℕ). KeepsRows shape rows2 ops symbols n op_room symbol_room) (sym f) (subst (λ (l : List Row). KeepsRows shape l ops symbols row_room op_room symbol_room) (sym e) (keeps_ticket shape rows ops symbols row_room op_room symbol_room keep reply a b p q (omega (arith, places.0, l)) h))
