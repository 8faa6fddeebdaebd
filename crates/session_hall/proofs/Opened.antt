-- A hall as it is opened.
use Rattle.std.proofs.Common.{◌≡◌, ℕ, zero, suc, ◌+◌, ◌*◌, ◌-◌, ◌/◌, ◌%◌, ◌<◌, ◌≤◌, inl, inr, List, [], ◌∷◌, ◌++◌, length, length-append, map, replicate, Option, Some, None, get_or, drop, mul-le-mul, refl, sym, ◌∙◌, ap, subst, div-lt_iff_lt-mul, arith}
use Rattle.std.specs.Prelude.{slice_get}
use Rattle.std.proofs.lemmas.List.{length-map, map-append}
use Rattle.std.proofs.lemmas.Nat.{div-mul-add}
use Rattle.std.proofs.lemmas.Option.{none-some, slice_get_within}
use Rattle.session_values.specs.declared.kind.TableKind.{TableKind}
use Rattle.session_values.specs.Tables.{Container, Tables, table, size_of}
use Rattle.session_journal.specs.Opening.{Pair, container_of, entries_of}
use Rattle.session_journal.specs.Script.{Meaning, IsScript, room}
use Rattle.shard_tables.specs.Parts.{part}
use Rattle.shard_tables.specs.Shards.{ShardView}
use Rattle.admission_book.specs.Book.{Book, Serving, opened, record_of}
use Rattle.admission_book.specs.Methods.{BookView}
use Rattle.admission_book.specs.Lawful.{Lawful}
use Rattle.admission_book.proofs.Foreknown.{opened_lawful}
use Rattle.turn_board.specs.Boards.{Begins, caller, turn_count}
use Rattle.turn_board.specs.Hands.{HandsView, Once}
use Rattle.turn_board.specs.Limits.{max_board_turns}
use Rattle.turn_board.proofs.Rows.{get-snoc, map-read}
use Rattle.hall_rule.specs.declared.held.Held.{Held}
use Rattle.hall_rule.specs.declared.held.Held.TheVariants as value
use Rattle.shard_tables.specs.declared.part.Part.{Part}
use Rattle.hall_rule.specs.Contents.{Content, Register, Shard, shards_in, shards_of, share}
use Rattle.hall_rule.specs.Halls.{IsFresh, first_content}
use Rattle.hall_rule.specs.Shards.{content_of}
use Rattle.hall_rule.specs.Tie.{Tied}
use Rattle.hall_rule.proofs.Halls.{opened_tied}
use Rattle.hall_rule.proofs.Filling.{opening_at, part_count}
use Rattle.session_hall.specs.declared.caller.Caller.{Caller}
use Rattle.session_hall.specs.declared.hall.Hall.{Hall}
use Rattle.session_hall.specs.declared.stage.Stage.{Stage}
use Rattle.session_hall.specs.Callers.{book_in, book_of, foresight_of}
use Rattle.session_hall.specs.Closings.{Opens}
use Rattle.session_hall.specs.Names.{script_of}
use Rattle.session_hall.specs.Openings.{AllNew, AreEmpty, FirstValues, IsNew, IsNewPart, NewParts}
use Rattle.session_hall.specs.Stages.{SeatOf, Stands}
use Rattle.session_hall.proofs.Giving.{is_told}
use Rattle.turn_board.proofs.Moving.{first_at, shifted}

-- ---- shards
pub shards_are : (tables n : ℕ) → 0 < tables → shards_of (suc (tables * n)) tables ≡ n
shards_are tables n l =
    let z : suc (tables * n) - 1 ≡ n * tables + 0 = omega arith in
    ap (λ (a : ℕ). a / tables) z ∙ div-mul-add n tables 0 l

pub part_place : (j tables shards : ℕ) → 0 < shards → j < tables * shards → j / shards < tables
part_place j tables shards some l = (div-lt_iff_lt-mul some).1 l

pub no_parts : {S : Type 0} (m : Meaning) (shards : ℕ) → NewParts {S = S} m shards 0 []
no_parts {S} m shards = record { parts = []; are = refl; long = refl; each = λ j p e. absurd (none-some p e) }

pub parts_more : {S : Type 0} (m : Meaning) (shards n : ℕ) (values later : List (Held S)) (p : Part) → NewParts m shards n values → IsNewPart m shards n p → later ≡ values ++ value.Table p ∷ [] → NewParts m shards (n + 1) later
parts_more {S} m shards n values later p k new is = record {
  parts = k.parts ++ p ∷ [];
  are = is ∙ ap (λ (l : List (Held S)). l ++ value.Table p ∷ []) k.are ∙ sym (map-append value.Table k.parts (p ∷ []));
  long = length-append k.parts (p ∷ []) ∙ (let l : length k.parts ≡ n = k.long in omega (arith, l));
  each = λ j x at. elim (get-snoc k.parts p x j at) [
    | inl h ↦ k.each j x h
    | inr h ↦ (let P : Part → Type 0 = λ y. IsNewPart m shards j y in let Q : ℕ → Type 0 = λ i. IsNewPart m shards i p in subst P h.1 (subst Q (sym (h.0 ∙ k.long)) new))
  ];
}

pub few_turns : (a b n : ℕ) → a ≤ 7 → b ≤ 8 → n ≡ 1 + a * b → n ≤ 57
few_turns a b n h k e = let p : a * b ≤ 7 * 8 = mul-le-mul h k in omega (arith, p, e)

-- ---- the values of the turns
module _ {S : Type 0} (meaning : S → Meaning) (script : S) (shards callers : ℕ) (shape : List TableKind) (b : BookView S) (values : List (Held S)) (shape_is : shape ≡ (meaning script).shape)
    (script_is : b.script ≡ script) (book_is : b.book ≡ opened (meaning script).requests callers) (kept : IsScript (meaning b.script)) (behind : List (Held S)) (new : NewParts (meaning b.script) shards (length shape * shards) behind)
    (values_are : values ≡ value.Register b ∷ behind) where
  abbrev m : Meaning
  m = meaning script

  script_here : IsScript (meaning script)
  script_here = let P : S → Type 0 = λ s. IsScript (meaning s) in subst P script_is kept

  n : NewParts (meaning script) shards (length shape * shards) behind
  n = let P : S → Type 0 = λ s. NewParts (meaning s) shards (length shape * shards) behind in subst P script_is new

  abbrev shard_contents : List (Content S)
  shard_contents = map content_of (map value.Table n.parts)

  values_here : values ≡ value.Register b ∷ map value.Table n.parts
  values_here = values_are ∙ ap (λ (l : List (Held S)). value.Register b ∷ l) n.are

  contents_are : map content_of values ≡ first_content meaning script callers ∷ shard_contents
  contents_are = ap (map content_of) values_here ∙ (λ i. Register (script_is i) (book_is i) ∷ shard_contents)

  as_many : length shard_contents ≡ length m.shape * shards
  as_many = length-map (map value.Table n.parts) content_of ∙ length-map n.parts value.Table ∙ n.long ∙ ap (λ (l : List TableKind). length l * shards) shape_is

  fresh : (j : ℕ) (x : Content S) → slice_get shard_contents j ≡ Some x → IsFresh (meaning script) (suc (length shard_contents)) j x
  fresh j x at =
      let v : (v : Held S) × (slice_get (map value.Table n.parts) j ≡ Some v) × (content_of v ≡ x) = map-read content_of (map value.Table n.parts) j x at in
      let p : (p : Part) × (slice_get n.parts j ≡ Some p) × (value.Table p ≡ v.0) = map-read value.Table n.parts j v.0 v.1 in
      let new : IsNewPart m shards j p.0 = n.each j p.0 p.1 in
      let turns : ℕ = suc (length shard_contents) in
      let es : List Pair = entries_of m.opened (j / shards) in
      let low : j / shards < length m.shape = slice_get_within m.shape (j / shards) new.kind new.kind_is in
      let sh : shards_in m turns ≡ shards = ap (λ (a : ℕ). shards_of (suc a) (length m.shape)) as_many ∙ shards_are (length m.shape) shards (omega (arith, low)) in
      let table_is : table m.opening (j / shards) ≡ container_of new.kind es = ap (λ (ts : Tables). table ts (j / shards)) script_here.opening ∙ opening_at m.shape m.opened (j / shards) new.kind new.kind_is in
      let share_is : share m turns [] j ≡ part shards (j % shards) (container_of new.kind es) = ap (λ (a : ℕ). part a (j % a) (table m.opening (j / a))) sh ∙ ap (part shards (j % shards)) table_is in
      let space : room m (j / shards_in m turns) ≡ room m (j / shards) = ap (λ (a : ℕ). room m (j / a)) sh in
      record {
        room = new.space;
        is = sym v.2 ∙ ap content_of (sym p.2) ∙ ap (λ (s : ShardView). Shard s.container s.room) new.is ∙ ap (λ (d : Container). Shard d new.space) (sym share_is);
        enough = omega (arith, ap size_of share_is, part_count shards (j % shards) new.kind es, space, new.space_is);
      }

  pub first_values : FirstValues meaning script shards callers values
  first_values =
      let P : List (Content S) → Type 0 = λ l. Tied meaning l (replicate callers (first_content meaning script callers)) in
      record {
        script_kept = script_here;
        long = ap length values_here ∙ ap suc (length-map n.parts value.Table ∙ n.long) ∙ ap (λ (l : List TableKind). suc (length l * shards)) shape_is ∙ one_more (length m.shape * shards);
        first = ap (λ (l : List (Content S)). slice_get l 0) contents_are;
        tied = subst P (sym contents_are) (opened_tied meaning script callers shard_contents fresh);
      }
    where
      one_more : (a : ℕ) → suc a ≡ 1 + a
      one_more a = omega arith

-- ---- callers
module _ {A : Type 0} (all left : List A) (n : ℕ) (left_are : (i : ℕ) (a : A) → slice_get left i ≡ Some a → slice_get all (n + i) ≡ Some a) where
  pub here_left : (a : A) → 0 < length left → a ≡ get_or left 0 a → slice_get all n ≡ Some a
  here_left a some e = let z : n + 0 ≡ n = omega arith in let P : ℕ → Type 0 = λ k. slice_get all k ≡ Some a in subst P z (left_are 0 a (first_at left a some e))

  pub next_left : (rest : List A) → rest ≡ drop 1 left → (i : ℕ) (a : A) → slice_get rest i ≡ Some a → slice_get all (n + 1 + i) ≡ Some a
  next_left rest is i a e = let z : n + suc i ≡ n + 1 + i = omega arith in let P : ℕ → Type 0 = λ k. slice_get all k ≡ Some a in subst P z (left_are (suc i) a (shifted left i a (ap (λ (l : List A). slice_get l i) (sym is) ∙ e)))

pub new_more : {S : Type 0} (seats : List (SeatOf S)) (n : ℕ) (callers later : List (Caller S)) (c : Caller S) (s : SeatOf S) → AllNew seats n callers → slice_get seats n ≡ Some s → IsNew s n c → later ≡ callers ++ c ∷ [] → AllNew seats (n + 1) later
new_more {S} seats n callers later c s k at new is = record {
  long = ap length is ∙ length-append callers (c ∷ []) ∙ (let l : length callers ≡ n = k.long in omega (arith, l));
  each = λ i d e. elim (get-snoc callers c d i (ap (λ (l : List (Caller S)). slice_get l i) (sym is) ∙ e)) [
    | inl h ↦ k.each i d h
    | inr h ↦ (let P : Caller S → Type 0 = λ x. (z : SeatOf S) × (slice_get seats i ≡ Some z) × IsNew z i x in let Q : ℕ → Type 0 = λ j. (z : SeatOf S) × (slice_get seats j ≡ Some z) × IsNew z j c in subst P h.1 (subst Q (sym (h.0 ∙ k.long)) (s, at, new)))
  ];
}

pub none_new : {S : Type 0} (seats : List (SeatOf S)) (callers : List (Caller S)) → callers ≡ [] → AllNew seats 0 callers
none_new {S} seats callers e = record { long = ap length e; each = λ i c at. absurd (none-some c (ap (λ (l : List (Caller S)). slice_get l i) (sym e) ∙ at)) }

-- ---- empty hands
pub no_hands : (S : Type 0) (hands : List (HandsView (Held S))) → hands ≡ [] → AreEmpty 0 hands
no_hands S hands e = record { long = ap length e; each = λ i h at. absurd (none-some h (ap (λ (l : List (HandsView (Held S))). slice_get l i) (sym e) ∙ at)) }

pub hands_more : {S : Type 0} (n : ℕ) (hands later : List (HandsView (Held S))) (h : HandsView (Held S)) → AreEmpty n hands → (h.pairs ≡ []) × (h.room ≡ max_board_turns) → later ≡ hands ++ h ∷ [] → AreEmpty (n + 1) later
hands_more {S} n hands later h k new is = record {
  long = ap length is ∙ length-append hands (h ∷ []) ∙ (let l : length hands ≡ n = k.long in omega (arith, l));
  each = λ i d e. elim (get-snoc hands h d i (ap (λ (l : List (HandsView (Held S))). slice_get l i) (sym is) ∙ e)) [
    | inl x ↦ k.each i d x
    | inr x ↦ (let P : HandsView (Held S) → Type 0 = λ y. (y.pairs ≡ []) × (y.room ≡ max_board_turns) in subst P x.1 new)
  ];
}

pub first_hands : {S : Type 0} (n : ℕ) (hands : List (HandsView (Held S))) (h : HandsView (Held S)) → AreEmpty n hands → 0 < length hands → h ≡ get_or hands 0 h → (h.pairs ≡ []) × (h.room ≡ max_board_turns)
first_hands {S} n hands h k some e = k.each 0 h (first_at hands h some e)

pub rest_hands : {S : Type 0} (n left : ℕ) (hands rest : List (HandsView (Held S))) → AreEmpty n hands → rest ≡ drop 1 hands → left + 1 ≡ n → AreEmpty left rest
rest_hands {S} n left hands rest k is l = record {
  long = ap length is ∙ one_less hands left (k.long ∙ sym l);
  each = λ i h e. k.each (suc i) h (shifted hands i h (ap (λ (l : List (HandsView (Held S))). slice_get l i) (sym is) ∙ e));
}
  where
    one_less : {A : Type 0} (xs : List A) (a : ℕ) → length xs ≡ a + 1 → length (drop 1 xs) ≡ a
    one_less [] a e = absurd (omega (arith, e))
    one_less (x ∷ xs) a e = omega (arith, e)

none_at : (n i : ℕ) → get_or (replicate n (let o : Option Serving = None in o)) i None ≡ None
none_at zero i = refl
none_at (suc n) zero = refl
none_at (suc n) (suc i) = none_at n i

pub opened_caller : {S : Type 0} (meaning : S → Meaning) (h : Hall S) (i : ℕ) (c : Caller S) (s : SeatOf S) → Begins h.board h.sizes.callers (first_content meaning (script_of h) h.sizes.callers) i s → IsNew s i c → IsScript (meaning (script_of h)) → length (meaning (script_of h)).shape ≡ h.sizes.tables → 0 < h.sizes.shards → h.sizes.shards ≤ 8 → turn_count h.board ≡ 1 + h.sizes.tables * h.sizes.shards → turn_count h.board ≤ 57 → Opens meaning h i c
opened_caller {S} meaning h i c s b n kept tables some few turns few_turns =
    let first : Book = opened (meaning (script_of h)).requests h.sizes.callers in
    let same : s ≡ c.seat = sym n.seat_is in
    let B : SeatOf S → Type 0 = λ z. Begins h.board h.sizes.callers (first_content meaning (script_of h) h.sizes.callers) i z in
    let begins : Begins h.board h.sizes.callers (first_content meaning (script_of h) h.sizes.callers) i c.seat = subst B same b in
    let book_is : book_of c ≡ first = ap book_in begins.note_is in
    let L : Book → Type 0 = λ w. Lawful (meaning (script_of h)) w in
    let lawful : Lawful (meaning (script_of h)) (book_of c) = subst L (sym book_is) (opened_lawful (meaning (script_of h)) h.sizes.callers) in
    let P : Stage → Type 0 = λ z. Stands (meaning (script_of h)) (turn_count h.board) z (foresight_of c) (book_of c) c.seat c.hands.pairs in
    record {
      caller = record {
        seat = begins.seat;
        number_is = begins.caller_is ∙ sym n.number_is;
        caller_count_is = begins.caller_count_is;
        noted = begins.note_is ∙ ap (λ (w : Book). Some (Register (script_of h) w)) (sym book_is);
        script_kept = kept;
        lawful = lawful;
        told = is_told (meaning (script_of h)) (book_of c) kept lawful;
        tables_are = tables;
        some_shards = some;
        few_shards = few;
        turns_are = turns;
        few_turns = few_turns;
        hands_room = omega (arith, n.hands_room);
        once = (let O : List (ℕ × Held S) → Type 0 = λ l. Once content_of l in subst O (sym n.no_pairs) tt);
        stands = subst P (sym n.idle) (ap (λ (w : Book). record_of w (caller c.seat)) book_is ∙ none_at h.sizes.callers (caller c.seat), record { free = begins.free; no_pairs = n.no_pairs });
      };
      number_is = n.number_is;
      idle = n.idle;
      book_is = book_is;
      unused = record { unasked = begins.unasked; unlost = begins.unlost; ungiving = begins.ungiving; ungiven = begins.ungiven };
    }

-- the same with the script as it was given
pub opened_here : {S : Type 0} (meaning : S → Meaning) (h : Hall S) (script : S) → script_of h ≡ script → (i : ℕ) (c : Caller S) (s : SeatOf S) → Begins h.board h.sizes.callers (first_content meaning script h.sizes.callers) i s → IsNew s i c → IsScript (meaning script) → length (meaning script).shape ≡ h.sizes.tables → 0 < h.sizes.shards → h.sizes.shards ≤ 8 → turn_count h.board ≡ 1 + h.sizes.tables * h.sizes.shards → turn_count h.board ≤ 57 → Opens meaning h i c
opened_here {S} meaning h script same i c s b n kept tables some few turns few_turns =
    let P : S → Type 0 = λ z. Begins h.board h.sizes.callers (first_content meaning z h.sizes.callers) i s in
    let Q : S → Type 0 = λ z. IsScript (meaning z) in
    let R : S → Type 0 = λ z. length (meaning z).shape ≡ h.sizes.tables in
    opened_caller meaning h i c s (subst P (sym same) b) n (subst Q (sym same) kept) (subst R (sym same) tables) some few turns few_turns
