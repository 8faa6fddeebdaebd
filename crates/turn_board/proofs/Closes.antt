-- All callers in one seat, and the notes of all.
use Rattle.std.proofs.Common.{◌≡◌, ℕ, zero, suc, ◌+◌, ◌<◌, List, [], ◌∷◌, ◌++◌, length, map, refl, sym, ap, ◌∙◌, arith, append_assoc}
use Rattle.std.specs.Prelude.{Option, Some, None, slice_get}
use Rattle.std.proofs.lemmas.List.{length-map}
use Rattle.std.proofs.lemmas.Option.{none-some, same_Some}
use mathlib.Core.Option.{some, some-injective}
use lib.ListN.{get_elem?}
use Rattle.turn_steps.specs.Seated.{TableId}
use Rattle.turn_steps.specs.Tied.{counted}
use Rattle.turn_steps.specs.Steps.{note_of, caller_of}
use Rattle.turn_steps.specs.Passes.{Token, IsSeated, IdleFirst}
use Rattle.turn_board.specs.declared.board.Board.{Board}
use Rattle.turn_board.specs.declared.seat.Seat.{Seat}
use Rattle.turn_board.specs.Boards.{Ends}
use Rattle.turn_board.specs.Closings.{all_notes}
use Rattle.turn_steps.proofs.Rows.{map-get, get-within, same-lists}

module _ {V R C : Type 0} where
  pub spoken_notes-snoc : (xs : List (Seat V R C)) (s : Seat V R C) (ys : List (ℕ × C)) → all_notes (xs ++ s ∷ []) ++ ys ≡ all_notes xs ++ (s.pass.token.me.0.speaks ++ ys)
  spoken_notes-snoc [] s ys = append_assoc s.pass.token.me.0.speaks [] ys
  spoken_notes-snoc (x ∷ xs) s ys = append_assoc x.pass.token.me.0.speaks (all_notes (xs ++ s ∷ [])) ys ∙ ap (λ (l : List (ℕ × C)). x.pass.token.me.0.speaks ++ l) (spoken_notes-snoc xs s ys) ∙ sym (append_assoc x.pass.token.me.0.speaks (all_notes xs) (s.pass.token.me.0.speaks ++ ys))

  -- the k-th of the seats speaks for the caller k
  pub Ordered : ℕ → List (Seat V R C) → Type 0
  Ordered from xs = (i : ℕ) (s : Seat V R C) → slice_get xs i ≡ Some s → (c : C) × (s.pass.token.me.0.speaks ≡ (from + i, c) ∷ [])

  pub spoken-at : (xs : List (Seat V R C)) (from k : ℕ) (s : Seat V R C) (c : C) → Ordered from xs → slice_get xs k ≡ Some s → note_of s.pass.token.me.0.speaks ≡ Some c → get_elem? (all_notes xs) k ≡ some (from + k, c)
  unfolding Ordered
  spoken-at [] from k s c o at n = absurd (none-some s at)
  spoken-at (x ∷ xs) from zero s c o at n =
      let h = o 0 x refl in let same : x ≡ s = same_Some x s at in
      let note : h.0 ≡ c = same_Some h.0 c (sym (ap note_of h.1) ∙ ap (λ (y : Seat V R C). note_of y.pass.token.me.0.speaks) same ∙ n) in
      ap (λ (l : List (ℕ × C)). get_elem? (l ++ all_notes xs) 0) h.1 ∙ ap (λ (d : C). some (from + 0, d)) note
  spoken-at (x ∷ xs) from (suc k) s c o at n =
      let h = o 0 x refl in
      let o' : Ordered (suc from) xs = λ i y e. let q = o (suc i) y e in (q.0, q.1 ∙ ap (λ (m : ℕ). (m, q.0) ∷ []) (omega arith)) in
      ap (λ (l : List (ℕ × C)). get_elem? (l ++ all_notes xs) (suc k)) h.1 ∙ spoken-at xs (suc from) k s c o' at n ∙ ap (λ (m : ℕ). some (m, c)) (omega arith)

-- notes that are those of the callers by number are those of the seats
pub final-notes : {C : Type 0} (notes : List C) (speaks : List (ℕ × C)) (n : ℕ) → length notes ≡ n → ((k : ℕ) (c : C) → k < n → get_elem? speaks k ≡ some (k, c) → slice_get notes k ≡ Some c) → ((k : ℕ) → k < n → (c : C) × (get_elem? speaks k ≡ some (k, c)))
    → (notes' : List (Option C)) → length notes' ≡ n → ((k : ℕ) → k < n → (c : C) → get_elem? speaks k ≡ some (k, c) → slice_get notes' k ≡ Some (Some c)) → map Some notes ≡ notes'
final-notes notes speaks n long each spoken notes' long' got = same-lists (map Some notes) notes' (length-map notes Some ∙ long ∙ sym long')
    (λ k h. let near : k < n = (let l = length-map notes Some in omega arith) in let c = spoken k near in
    map-get Some notes k c.0 (each k c.0 near c.1) ∙ sym (got k near c.0 c.1))

pub all-here : {V R C : Type 0} (b : Board V R C) (l : List (Seat V R C)) → ((i : ℕ) (s : Seat V R C) → slice_get l i ≡ Some s → Ends b (length l) i s) → (i : ℕ) (s : Seat V R C) → slice_get l i ≡ Some s → IsSeated b.words.table.shared.table_id s.pass.token × (caller_of s.pass.token.me.0.speaks ≡ i) × (s.pass.token.me.0.caller_count ≡ length l) × ((t : ℕ) → counted s.pass.token.me.0 t ≡ None)
all-here b l h i s e = let x = h i s e in (x.seat, x.caller_is, x.caller_count_is, x.free)

append-nil : {A : Type 0} (l : List A) → l ++ [] ≡ l
append-nil [] = refl
append-nil (x ∷ xs) = ap (λ l. x ∷ l) (append-nil xs)

pub idle-of : {V C : Type 0} (id : TableId) (p : Token V C) → IsSeated id p → ((t : ℕ) → counted p.me.0 t ≡ None) → IdleFirst id p
idle-of id p s n = record { of_table = s.placed.of_table; empty = s.placed.empty; counts = s.placed.counts; places = s.placed.places; losses = s.placed.losses; vacant = s.vacant; none_held = n }

module _ {V R C : Type 0} (id : TableId) where
  -- all seats of a board, in their order, which hold no turn
  abbrev pub AllHere : List (Seat V R C) → Type 0
  AllHere l = (i : ℕ) (s : Seat V R C) → slice_get l i ≡ Some s → IsSeated id s.pass.token × (caller_of s.pass.token.me.0.speaks ≡ i) × (s.pass.token.me.0.caller_count ≡ length l) × ((t : ℕ) → counted s.pass.token.me.0 t ≡ None)

  module _ (l : List (Seat V R C)) (all : AllHere l) where
    pub in-order : Ordered 0 l
    unfolding Ordered
    in-order = λ i s e. let h = all i s e in let o = h.0.placed.one in (o.1, o.2 ∙ ap (λ (m : ℕ). (m, o.1) ∷ []) (sym (ap caller_of o.2) ∙ h.1 ∙ (let g : i ≡ 0 + i = omega arith in g)))

    pub some-note : (k : ℕ) (s : Seat V R C) → slice_get l k ≡ Some s → (c : C) × (note_of s.pass.token.me.0.speaks ≡ Some c)
    some-note k s e = let o = (all k s e).0.placed.one in (o.1, ap note_of o.2)

    pub spoken-of : (k : ℕ) (s : Seat V R C) (c : C) → slice_get l k ≡ Some s → note_of s.pass.token.me.0.speaks ≡ Some c → get_elem? (all_notes l) k ≡ some (k, c)
    spoken-of k s c e n = spoken-at l 0 k s c in-order e n ∙ ap (λ (m : ℕ). some (m, c)) (let g : 0 + k ≡ k = omega arith in g)

    pub spoken_notes-in : (k : ℕ) → k < length l → (c : C) × (get_elem? (all_notes l) k ≡ some (k, c))
    spoken_notes-in k h = let s = get-within l k h in let c = some-note k s.0 s.1 in (c.0, spoken-of k s.0 c.0 s.1 c.1)

    pub notes-in : (k : ℕ) → k < length l → (c : C) → get_elem? (all_notes l) k ≡ some (k, c) → slice_get (map (λ (s : Seat V R C). note_of s.pass.token.me.0.speaks) l) k ≡ Some (Some c)
    notes-in k h c e = let s = get-within l k h in let d = some-note k s.0 s.1 in
        let same : d.0 ≡ c = ap (λ (x : ℕ × C). x.1) (some-injective {A = ℕ × C} (k, d.0) (k, c) (sym (spoken-of k s.0 d.0 s.1 d.1) ∙ e)) in
        map-get (λ (y : Seat V R C). note_of y.pass.token.me.0.speaks) l k s.0 s.1 ∙ ap Some (d.1 ∙ ap Some same)

  pub gathered : (l xs : List (Seat V R C)) (s : Seat V R C) → l ≡ xs ++ s ∷ [] → all_notes xs ++ s.pass.token.me.0.speaks ≡ all_notes l
  gathered l xs s e = ap (λ (y : List (ℕ × C)). all_notes xs ++ y) (sym (append-nil s.pass.token.me.0.speaks)) ∙ sym (spoken_notes-snoc xs s []) ∙ append-nil (all_notes (xs ++ s ∷ [])) ∙ ap all_notes (sym e)
