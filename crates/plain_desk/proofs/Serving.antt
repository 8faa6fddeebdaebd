-- A desk keeps to the serial run.
use Rattle.std.proofs.Common.{◌≡◌, ℕ, zero, suc, ◌+◌, ◌-◌, ◌<◌, ◌≤◌, List, [], ◌∷◌, ◌++◌, ◌⊎◌, inl, inr, Option, Some, None, Bool, true, false, cond, nat_lt, length, length-append, length-drop, map, slice_get, slice_range, take, drop, get_or, refl, sym, ◌∙◌, ap, subst, arith, append-nil, add-zero}
use Rattle.std.proofs.lemmas.List.{drop-append-le, take-append-le}
use Rattle.std.proofs.lemmas.Bool.Decides.{nat_tests}
use Rattle.std.proofs.lemmas.Option.{slice_get_read, same_Some}
use Rattle.std.proofs.lemmas.Bool.{true≢false}
use Rattle.session_values.specs.declared.op.Op.{Op}
use Rattle.session_values.specs.declared.reply.Reply.{Reply}
use Rattle.session_values.specs.declared.value.Value.{Value}
use Rattle.session_values.specs.Dialogue.{Calls, Answers, Dialogue, Entry, Follows, replies}
use Rattle.session_values.specs.Serial.{Session, serial, tables_before}
use Rattle.session_values.proofs.EntriesFacts.{follows_more}
use Rattle.session_values.specs.Tables.{Tables, reply, step, kind_of}
use Rattle.symbolic_ops.specs.declared.symbol.Symbol.{Symbol}
use Rattle.symbolic_ops.specs.Matching.{Matches}
use Rattle.session_journal.specs.Desks.{next_of}
use Rattle.session_journal.specs.Journal.{run, Replays}
use Rattle.session_journal.specs.Script.{Meaning, IsScript, session_of}
use Rattle.session_journal.proofs.Replay.{run-append, Replays-append}
use Rattle.session_journal.proofs.Serial.{GoesOn, goes_on}
use Rattle.plain_desk.specs.declared.ended_ticket.EndedTicket.{EndedTicket}
use Rattle.plain_desk.specs.PlainDesks.{desk_of, ended_count, tables_at}
use Rattle.plain_desk.specs.Keeping.{HasRoom, IsIdle, IsOpen, IsSerial, Keeps, after_waiting}

-- ---- entries at the end of others
range_kept : (all : List Entry) (e : Entry) (a b : ℕ) → a ≤ b → b ≤ length all → slice_range (all ++ e ∷ []) a b ≡ slice_range all a b
range_kept all e a b o w =
    let h : a ≤ length all = omega arith in
    let k : b - a ≤ length (drop a all) = omega (arith, length-drop a all) in
    ap (take (b - a)) (drop-append-le a all (e ∷ []) h) ∙ take-append-le (b - a) (drop a all) (e ∷ []) k

serial_kept : (s : Session) (all : List Entry) (e : Entry) (t : ℕ) (x : EndedTicket) → IsSerial s all t x → IsSerial s (all ++ e ∷ []) t x
serial_kept s all e t x h = record {
  order = h.order;
  within = omega (arith, h.within, length-append all (e ∷ []));
  entries = range_kept all e x.from x.until h.order h.within ∙ h.entries;
  answer = h.answer;
}

-- what stands in a list with one more at its end
get_more : (xs : List EndedTicket) (x y : EndedTicket) (t : ℕ) → slice_get (xs ++ x ∷ []) t ≡ Some y → (slice_get xs t ≡ Some y) ⊎ ((t ≡ length xs) × (x ≡ y))
get_more [] x y zero e = inr (refl, same_Some x y e)
get_more [] x y (suc t) e = inl e
get_more (z ∷ xs) x y zero e = inl e
get_more (z ∷ xs) x y (suc t) e =
    elim (get_more xs x y t e) [
      | inl h ↦ inl h
      | inr h ↦ inr (ap suc h.0, h.1)
    ]

counted : (t n k : ℕ) → t < n → cond (nat_lt t n) k 0 ≡ k
counted t n k h = grind (arith, nat_tests)

-- what is read at the place of a ticket that has ended
pub serial_at : (s : Session) (all : List Entry) (ended seen : List EndedTicket) (t : ℕ) (x : EndedTicket)
    → ((u : ℕ) (y : EndedTicket) → slice_get ended u ≡ Some y → IsSerial s all u y)
    → seen ≡ ended → t < length seen → x ≡ get_or seen t x → IsSerial s all t x
serial_at s all ended seen t x serial same less is =
    let P : List EndedTicket → Type 0 = λ xs. slice_get xs t ≡ Some x in
    serial t x (subst P same (slice_get_read seen (length seen) t x refl less is))

-- ---- the calls of a desk
room_more : (n a b : ℕ) (w : Option Entry) → a ≤ b → HasRoom n a w → HasRoom n b w
room_more n a b None h k = tt
room_more n a b (Some e) h k = omega arith

-- want of memory leaves all as it was, with more room at most
pub same_kept : (m : Meaning) (t : ℕ) (f : List Symbol) (w : Option Entry) (b : Bool) (ts us : Tables) (symbols : ℕ) (all more : List Entry) (room wider first : ℕ) (ended : List EndedTicket) (kept : ℕ)
    → more ≡ all → us ≡ ts → room ≤ wider
    → Keeps m (desk_of t (drop first all) f w b) ts symbols all room first ended kept
    → Keeps m (desk_of t (drop first more) f w b) us symbols more wider first ended kept
same_kept m t f w b ts us symbols all more room wider first ended kept e h l k =
    let P : List Entry → Type 0 = λ es. Keeps m (desk_of t (drop first es) f w b) us symbols es wider first ended kept in
    let Q : Tables → Type 0 = λ vs. Keeps m (desk_of t (drop first all) f w b) vs symbols all wider first ended kept in
    subst P (sym e) (subst Q (sym h) (record {
      script = k.script;
      kinds = k.kinds;
      count = k.count;
      serial = k.serial;
      is_open = k.is_open;
      idle = k.idle;
      within = k.within;
      room = room_more (length all) room wider w l k.room;
      symbols = k.symbols;
      replies = k.replies;
    }))

-- a ticket is open where an operation may be called, and the tables are those after its entries
pub tables_before_call : (m : Meaning) (t : ℕ) (es : List Entry) (f : List Symbol) (w : Option Entry) (b : Bool) (ts : Tables) (op : Op)
    → w ≡ None → next_of m (desk_of t es f w b) ≡ Calls op → Matches f op
    → (b ≡ false → IsOpen m (desk_of t es f w b) ts) → (b ≡ true → IsIdle m (desk_of t es f w b) ts)
    → ts ≡ tables_at m (desk_of t es f w b)
tables_before_call m t es f w false ts op none next matches o i = (o refl).kept ∙ ap (after_waiting (tables_at m (desk_of t es f w false))) none
tables_before_call m t es f w true ts op none next matches o i = absurd ((i refl).stopped op next matches)

-- an operation is done, and waits
pub call_kept : (m : Meaning) (t : ℕ) (f : List Symbol) (w : Option Entry) (b : Bool) (ts us : Tables) (symbols : ℕ) (all more : List Entry) (room wider first : ℕ) (ended : List EndedTicket) (kept : ℕ) (e : Entry)
    → w ≡ None → next_of m (desk_of t (drop first all) f w b) ≡ Calls e.op → Matches f e.op
    → e.reply ≡ reply ts e.op → us ≡ step ts e.op → map kind_of us ≡ map kind_of ts
    → more ≡ all → length more < wider
    → Keeps m (desk_of t (drop first all) f w b) ts symbols all room first ended kept
    → Keeps m (desk_of t (drop first more) f (Some e) b) us symbols more wider first ended kept
call_kept m t f w b ts us symbols all more room wider first ended kept e idle next matches replied stepped kinds same l k =
    let P : List Entry → Type 0 = λ es. Keeps m (desk_of t (drop first es) f (Some e) b) us symbols es wider first ended kept in
    let before : Tables = tables_at m (desk_of t (drop first all) f w b) in
    let at : ts ≡ before = tables_before_call m t (drop first all) f w b ts e.op idle next matches k.is_open k.idle in
    subst P (sym same) (record {
      script = k.script;
      kinds = kinds ∙ k.kinds;
      count = k.count;
      serial = k.serial;
      is_open = λ o. record {
        ticket = (k.is_open o).ticket;
        follows = (k.is_open o).follows;
        replays = (k.is_open o).replays;
        waits = (next, sym (replied ∙ ap (λ (vs : Tables). reply vs e.op) at));
        kept = stepped ∙ ap (λ (vs : Tables). step vs e.op) at;
      };
      idle = λ o. absurd ((k.idle o).stopped e.op next matches);
      within = k.within;
      room = (let n : length more ≡ length all = ap length same in omega (arith, n, l));
      symbols = k.symbols;
      replies = k.replies;
    })

neither : {X : Type 0} (w : Option Entry) (e : Entry) → w ≡ Some e → w ≡ None → X
neither w e s n = absurd (apart w e s n)
  where
    apart : (w : Option Entry) (e : Entry) → w ≡ Some e → w ≡ None → ⊥
    apart w e s n = cc

-- the operation that waits is entered
open_entered : (m : Meaning) (t : ℕ) (es : List Entry) (f g : List Symbol) (b : Bool) (ts : Tables) (e : Entry)
    → IsOpen m (desk_of t es f (Some e) b) ts → IsOpen m (desk_of t (es ++ e ∷ []) g None b) ts
open_entered m t es f g b ts e o =
    let before : Tables = tables_before (session_of m) t in
    record {
      ticket = o.ticket;
      follows = follows_more (m.next t) es e o.follows o.waits.0;
      replays = Replays-append before es (e ∷ []) o.replays (o.waits.1, tt);
      waits = tt;
      kept = o.kept ∙ sym (run-append before es (e ∷ []));
    }

pub finish_kept : (m : Meaning) (t : ℕ) (f g : List Symbol) (w : Option Entry) (b : Bool) (ts : Tables) (symbols roomy : ℕ) (all more : List Entry) (room wider first : ℕ) (ended : List EndedTicket) (kept : ℕ) (e : Entry)
    → w ≡ Some e → more ≡ all ++ e ∷ [] → roomy ≡ symbols
    → Keeps m (desk_of t (drop first all) f w b) ts symbols all room first ended kept
    → Keeps m (desk_of t (drop first more) g None b) ts roomy more wider first ended kept
finish_kept m t f g w b ts symbols roomy all more room wider first ended kept e waits grown same k =
    let P : List Entry → Type 0 = λ es. Keeps m (desk_of t (drop first es) g None b) ts roomy es wider first ended kept in
    let O : Option Entry → Type 0 = λ o. IsOpen m (desk_of t (drop first all) f o b) ts in
    let Q : List Entry → Type 0 = λ es. IsOpen m (desk_of t es g None b) ts in
    subst P (sym grown) (record {
      script = k.script;
      kinds = k.kinds;
      count = k.count;
      serial = λ u x h. serial_kept (session_of m) all e u x (k.serial u x h);
      is_open = λ o. subst Q (sym (drop-append-le first all (e ∷ []) k.within)) (open_entered m t (drop first all) f g b ts e (subst O waits (k.is_open o)));
      idle = λ o. neither w e waits (k.idle o).waiting;
      within = omega (arith, k.within, length-append all (e ∷ []));
      room = tt;
      symbols = omega (arith, k.symbols, same);
      replies = k.replies;
    })

-- the ticket ends as in the serial run
pub record EndsSerially (m : Meaning) (t : ℕ) (es : List Entry) (r : Reply) : Type 0 where
  pub entries : es ≡ (serial (session_of m) t).entries
  pub answer : (serial (session_of m) t).answer ≡ Some r
  pub after : run (tables_before (session_of m) t) es ≡ tables_before (session_of m) (suc t)

ends_serially : (m : Meaning) (t : ℕ) (es : List Entry) (r : Reply) → IsScript m → Follows (m.next t) es → Replays (tables_before (session_of m) t) es → m.next t (replies es) ≡ Answers r → EndsSerially m t es r
ends_serially m t es r s w h a =
    let before : Tables = tables_before (session_of m) t in
    let g : GoesOn (m.length t) (m.next t) before es = goes_on (m.length t) (m.next t) before es (s.ends t) w h in
    let n : g.back ≡ [] = (g.answered r a).0 in
    record {
      entries = sym (g.entries ∙ ap (λ (fs : List Entry). es ++ fs) n ∙ append-nil es);
      answer = (g.answered r a).1;
      after = sym (g.after ∙ ap (run (run before es)) n);
    }

-- nothing is called after an answer
answered : (f : Dialogue) (rs : List Value) (r : Reply) (op : Op) → f rs ≡ Answers r → f rs ≡ Calls op → ⊥
answered f rs r op a c = cc

never : {X : Type 0} → true ≡ false → X
never e = absurd (true≢false e)

-- the tickets that have ended, with one more
serial_more : (m : Meaning) (all : List Entry) (ended : List EndedTicket) (x : EndedTicket) (t : ℕ) → t ≡ length ended → IsSerial (session_of m) all t x → ((u : ℕ) (y : EndedTicket) → slice_get ended u ≡ Some y → IsSerial (session_of m) all u y) → (u : ℕ) (y : EndedTicket) → slice_get (ended ++ x ∷ []) u ≡ Some y → IsSerial (session_of m) all u y
serial_more m all ended x t at here before u y h =
    elim (get_more ended x y u h) [
      | inl old ↦ before u y old
      | inr last ↦
          let P : ℕ → Type 0 = λ k. IsSerial (session_of m) all k x in
          let Q : EndedTicket → Type 0 = λ z. IsSerial (session_of m) all u z in
          subst Q last.1 (subst P (at ∙ sym last.0) here)
    ]

whole_range : (all : List Entry) (first : ℕ) → slice_range all first (length all) ≡ drop first all
whole_range all first =
    let n : length all - first ≡ length (drop first all) = sym (length-drop first all) in
    ap (λ (k : ℕ). take k (drop first all)) n ∙ take-all (drop first all)
  where
    take-all : (es : List Entry) → take (length es) es ≡ es
    take-all [] = refl
    take-all (e ∷ es) = ap (λ (fs : List Entry). e ∷ fs) (take-all es)

-- the ticket ends
pub end_kept : (m : Meaning) (t : ℕ) (f g : List Symbol) (w : Option Entry) (b : Bool) (ts : Tables) (symbols roomy : ℕ) (all : List Entry) (room first : ℕ) (ended grown : List EndedTicket) (kept wider until : ℕ) (r : Reply)
    → w ≡ None → b ≡ false → next_of m (desk_of t (drop first all) f w b) ≡ Answers r
    → grown ≡ ended ++ record { reply = r; from = first; until = until } ∷ [] → until ≡ length all → wider ≡ kept → roomy ≡ symbols
    → Keeps m (desk_of t (drop first all) f w b) ts symbols all room first ended kept
    → Keeps m (desk_of t (drop first all) g w true) ts roomy all room first grown wider
end_kept m t f g w b ts symbols roomy all room first ended grown kept wider until r idle going answers more last same roomier k =
    let P : List EndedTicket → Type 0 = λ xs. Keeps m (desk_of t (drop first all) g w true) ts roomy all room first xs wider in
    let o : IsOpen m (desk_of t (drop first all) f w b) ts = k.is_open going in
    let s : EndsSerially m t (drop first all) r = ends_serially m t (drop first all) r k.script o.follows o.replays answers in
    let x : EndedTicket = record { reply = r; from = first; until = length all } in
    let at_last : grown ≡ ended ++ x ∷ [] = more ∙ ap (λ (n : ℕ). ended ++ record { reply = r; from = first; until = n } ∷ []) last in
    let n : length ended ≡ t = k.count ∙ counted t m.requests (t + cond b 1 0) o.ticket ∙ ap (λ (c : Bool). t + cond {A = ℕ} c 1 0) going ∙ add-zero t in
    let count : suc t ≡ ended_count m (desk_of t (drop first all) g w true) = sym (counted t m.requests (t + 1) o.ticket ∙ one t) in
    let here : IsSerial (session_of m) all t x = record { order = k.within; within = omega arith; entries = whole_range all first ∙ s.entries; answer = s.answer } in
    subst P (sym at_last) (record {
      script = k.script;
      kinds = k.kinds;
      count = (let l : length (ended ++ x ∷ []) ≡ suc t = omega (arith, length-append ended (x ∷ []), n) in l ∙ count);
      serial = serial_more m all ended x t (sym n) here k.serial;
      is_open = λ e. never e;
      idle = λ e. record {
        waiting = idle;
        kept = o.kept ∙ ap (after_waiting (tables_at m (desk_of t (drop first all) f w b))) idle ∙ s.after ∙ ap (tables_before (session_of m)) count;
        stopped = λ op c p. answered (m.next t) (replies (drop first all)) r op answers c;
      };
      within = k.within;
      room = k.room;
      symbols = omega (arith, k.symbols, roomier);
      replies = omega (arith, k.replies, same);
    })
  where
    one : (t : ℕ) → t + 1 ≡ suc t
    one t = omega arith
