-- A text that is put into a room, piece by piece.
use Rattle.std.proofs.Common.{◌≡◌, ℕ, suc, ◌+◌, ◌-◌, ◌<◌, ◌≤◌, min, List, [], ◌∷◌, ◌++◌, length, take, drop, refl, sym, ap, ◌∙◌, arith, append_assoc, append-nil, length-append}
use Rattle.std.proofs.lemmas.List.{drop_all, length-drop, length-take, take_all}
use Rattle.foresight_c.specs.Fronts.{put_at_front}
use Rattle.foresight_c.specs.TextRooms.{IsCounted, IsPutFront}

-- ---- counting
pub counted_start : (whole : List ℕ) → IsCounted 0 whole whole
counted_start whole = (omega arith, omega arith)

-- at the end all was counted
pub counted_end : (count : ℕ) (whole : List ℕ) → IsCounted count whole [] → count < 18446744073709551615 → count ≡ length whole
counted_end count whole c l = omega (arith, c.1, l)

pub counted_past : (count : ℕ) (whole : List ℕ) → IsCounted count whole [] → 18446744073709551615 ≤ count → 18446744073709551615 ≤ length whole
counted_past count whole c l = omega (arith, c.1, l)

-- ---- writing
front_length : (old done : List ℕ) → length (put_at_front old done) ≡ length old
front_length [] [] = refl
front_length [] (y ∷ done) = refl
front_length (x ∷ old) [] = refl
front_length (x ∷ old) (y ∷ done) = ap suc (front_length old done)

front_nothing : (old : List ℕ) → put_at_front old [] ≡ old
front_nothing [] = refl
front_nothing (x ∷ old) = refl

-- a room after a text was put into its last k places
abbrev filled : List ℕ → ℕ → ℕ → List ℕ → List ℕ
filled now at k text = take at now ++ (put_at_front (take k (drop at now)) text ++ drop k (drop at now))

-- where the room has place behind what was put, more is put there
more : (old done text : List ℕ) (k : ℕ) → length done < length old → k ≡ length old - length done → filled (put_at_front old done) (length done) k text ≡ put_at_front old (done ++ text)
more [] done text k l e = absurd (omega (arith, l))
more (x ∷ old) [] text k l e =
    let few : length (x ∷ old) ≤ k = omega (arith, e) in
    ap (λ (xs : List ℕ). put_at_front xs text ++ drop k (x ∷ old)) (take_all k (x ∷ old) few)
    ∙ ap (λ (xs : List ℕ). put_at_front (x ∷ old) text ++ xs) (drop_all k (x ∷ old) few)
    ∙ append-nil (put_at_front (x ∷ old) text)
more (x ∷ old) (y ∷ done) text k l e = ap (λ (xs : List ℕ). y ∷ xs) (more old done text k (omega (arith, l)) (omega (arith, e)))

-- where it is full, nothing is put
none : (old done text : List ℕ) → length old ≤ length done → put_at_front old (done ++ text) ≡ put_at_front old done
none [] [] [] l = refl
none [] [] (z ∷ text) l = refl
none [] (y ∷ done) text l = refl
none (x ∷ old) [] text l = absurd (omega (arith, l))
none (x ∷ old) (y ∷ done) text l = ap (λ (xs : List ℕ). y ∷ xs) (none old done text (omega (arith, l)))

-- at the start nothing was put
pub put_start : (old whole : List ℕ) → IsPutFront old old 0 whole whole
put_start old whole = record { done = []; is_done = refl; room_is = sym (front_nothing old); at_is = omega arith }

-- at the end all was
pub put_end : (old now : List ℕ) (at : ℕ) (whole : List ℕ) → IsPutFront old now at whole [] → (at ≡ min (length old) (length whole)) × (now ≡ put_at_front old whole)
put_end old now at whole p =
    let is : p.done ≡ whole = sym (append-nil p.done) ∙ p.is_done in
    (p.at_is ∙ ap (λ (xs : List ℕ). min (length old) (length xs)) is, p.room_is ∙ ap (put_at_front old) is)

module _ (old now : List ℕ) (at : ℕ) (whole rest text : List ℕ) (p : IsPutFront old now at whole (text ++ rest)) where
  as_long : length now ≡ length old
  as_long = ap (λ (xs : List ℕ). length xs) p.room_is ∙ front_length old p.done

  pub put_past : length now ≤ at → IsPutFront old now at whole rest
  put_past full =
      let long : length old ≤ length p.done = omega (arith, as_long, p.at_is, full) in
      record {
        done = p.done ++ text;
        is_done = append_assoc p.done text rest ∙ p.is_done;
        room_is = p.room_is ∙ sym (none old p.done text long);
        at_is = omega (arith, p.at_is, long, length-append p.done text);
      }

  pub put_next : (part bytes : List ℕ) (n : ℕ) → at < length now → bytes ≡ text → n ≡ min (length (take (length now - at) (drop at now))) (length bytes) → part ≡ put_at_front (take (length now - at) (drop at now)) bytes
      → IsPutFront old (take at now ++ (part ++ drop (length now - at) (drop at now))) (at + n) whole rest
  put_next part bytes n place same count is =
      let k : ℕ = length now - at in
      let so_far : at ≡ length p.done = omega (arith, as_long, p.at_is, place) in
      let room : length p.done < length old = omega (arith, as_long, so_far, place) in
      let put : part ≡ put_at_front (take k (drop at now)) text = is ∙ ap (put_at_front (take k (drop at now))) same in
      record {
        done = p.done ++ text;
        is_done = append_assoc p.done text rest ∙ p.is_done;
        room_is =
            ap (λ (xs : List ℕ). take at now ++ (xs ++ drop k (drop at now))) put
            ∙ (λ i. filled (p.room_is i) (so_far i) k text)
            ∙ more old p.done text k room (omega (arith, as_long, so_far));
        at_is = omega (arith, so_far, count, ap (λ (xs : List ℕ). length xs) same, length-take k (drop at now), length-drop at now, as_long, length-append p.done text);
      }
