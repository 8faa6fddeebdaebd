-- The lines that are next, written in parts.
use Rattle.std.proofs.Common.{◌≡◌, ℕ, zero, suc, ◌+◌, ◌≤◌, List, [], ◌∷◌, ◌++◌, drop, length, length-append, slice_get, slice_index_or, refl, sym, ap, ◌∙◌, subst, arith, append_assoc, append-nil, Option, Some, None}
use Rattle.session_values.specs.declared.reply.Reply.{Reply}
use Rattle.session_values.specs.ReplyText.{line_text, reply_text}
use Rattle.byte_ends.specs.Ends.{Appended, AppendedPrefix}
use Rattle.reply_sheet.specs.Ready.{first_kept}
use Rattle.reply_sheet.proofs.TextLemmas.{Waits, waits_none, waits_same, waits_more, waits_written, broke_off, no_text, text_cut, text_line}

-- the next one is missing
first_end : (waiting : List (Option Reply)) → slice_index_or waiting 0 None ≡ None → first_kept waiting ≡ []
first_end [] e = refl
first_end (None ∷ ks) e = refl
first_end (Some x ∷ ks) e = cc

-- one more was taken
record IsCut (n : ℕ) (all rest : List (Option Reply)) : Type 0 where
  left : rest ≡ drop n all
  low : n ≤ length all

one_more : (n : ℕ) (all rest : List (Option Reply)) (x : Option Reply) → x ∷ rest ≡ drop n all → IsCut (suc n) all rest
one_more n [] rest x e = absurd (omega (arith, ap (λ (ks : List (Option Reply)). length ks) e, ap (λ (ks : List (Option Reply)). length ks) (drop_none n)))
  where
    drop_none : (m : ℕ) → ◌≡◌ {A = List (Option Reply)} (drop m []) []
    drop_none zero = refl
    drop_none (suc m) = refl
one_more zero (k ∷ ks) rest x e = record { left = cc; low = omega arith }
one_more (suc n) (k ∷ ks) rest x e = let c = one_more n ks rest x e in record { left = c.left; low = omega (arith, c.low) }

at_drop : (n : ℕ) (all rest : List (Option Reply)) (x : Option Reply) → x ∷ rest ≡ drop n all → slice_get all n ≡ Some x
at_drop zero [] rest x e = cc
at_drop (suc n) [] rest x e = cc
at_drop zero (k ∷ ks) rest x e = cc
at_drop (suc n) (k ∷ ks) rest x e = at_drop n ks rest x e

-- From the ticket `start` to the ticket `next` the lines were written or wait. Of all that waited
-- then, the rest waits now.
pub record Reached (names : List (List ℕ)) (old now : Option (List ℕ)) (text : List ℕ) (start next : ℕ) (all rest : List (Option Reply)) : Type 0 where
  pub done : List Reply
  pub cut : first_kept all ≡ done ++ first_kept rest
  pub at : next ≡ start + length done
  pub left : rest ≡ drop (length done) all
  pub low : length done ≤ length all
  pub waits : Waits old now text (reply_text names start done)

module _ (names : List (List ℕ)) (start : ℕ) (all : List (Option Reply)) where
  pub reached_none : (old : Option (List ℕ)) (text : List ℕ) → text ≡ [] → Reached names old old text start start all all
  reached_none old text empty = record {
    done = [];
    cut = refl;
    at = omega arith;
    left = refl;
    low = omega arith;
    waits = waits_none old text (reply_text names start []) empty (no_text names start);
  }

  pub reached_same : (old now same : Option (List ℕ)) (text alike : List ℕ) (next : ℕ) (rest : List (Option Reply)) → same ≡ now → alike ≡ text → Reached names old now text start next all rest → Reached names old same alike start next all rest
  reached_same old now same text alike next rest e f w = record { done = w.done; cut = w.cut; at = w.at; left = w.left; low = w.low; waits = waits_same old now same text alike (reply_text names start w.done) e f w.waits }

  pub reached_written : (old mid new : Option (List ℕ)) (text emptied : List ℕ) (next : ℕ) (rest : List (Option Reply)) → Reached names old mid text start next all rest → Appended mid new text → emptied ≡ [] → Reached names old new emptied start next all rest
  reached_written old mid new text emptied next rest w more empty = record {
    done = w.done;
    cut = w.cut;
    at = w.at;
    left = w.left;
    low = w.low;
    waits = waits_written old mid new text emptied (reply_text names start w.done) w.waits more empty;
  }

  pub reached_line : (old now : Option (List ℕ)) (text longer line : List ℕ) (next : ℕ) (r : Reply) (rest more : List (Option Reply)) → rest ≡ Some r ∷ more → line ≡ line_text names next r → longer ≡ text ++ line
      → Reached names old now text start next all rest → Reached names old now longer start (suc next) all more
  reached_line old now text longer line next r rest more there is longer_is w =
      let long = length-append w.done (r ∷ []) in
      let cut = one_more (length w.done) all more (Some r) (sym there ∙ w.left) in
      let count : suc (length w.done) ≡ length (w.done ++ r ∷ []) = omega (arith, long) in
      record {
        done = w.done ++ r ∷ [];
        cut = w.cut ∙ ap (λ (ks : List (Option Reply)). w.done ++ first_kept ks) there ∙ sym (append_assoc w.done (r ∷ []) (first_kept more));
        at = let at = w.at in omega (arith, at, long);
        left = cut.left ∙ ap (λ (n : ℕ). drop n all) count;
        low = let low = cut.low in omega (arith, low, long);
        waits = waits_more old now text longer (reply_text names start w.done) line (reply_text names start (w.done ++ r ∷ [])) w.waits longer_is
            (text_line names start w.done r ∙ ap (λ n. reply_text names start w.done ++ line_text names n r) (sym w.at) ∙ ap (λ b. reply_text names start w.done ++ b) (sym is));
      }

  -- writing broke off
  pub reached_broke : (old mid new : Option (List ℕ)) (text : List ℕ) (next : ℕ) (rest : List (Option Reply)) → Reached names old mid text start next all rest → AppendedPrefix mid new text
      → AppendedPrefix old new (reply_text names start (first_kept all))
  reached_broke old mid new text next rest w broken =
      broke_off old mid new text (reply_text names start w.done) (reply_text names (start + length w.done) (first_kept rest)) (reply_text names start (first_kept all)) w.waits broken
      (ap (reply_text names start) w.cut ∙ text_cut names start w.done (first_kept rest))

  -- the next one is missing
  pub reached_end : (old now : Option (List ℕ)) (text : List ℕ) (next : ℕ) (rest : List (Option Reply)) → slice_index_or rest 0 None ≡ None → Reached names old now text start next all rest
      → (next ≡ start + length (first_kept all)) × Waits old now text (reply_text names start (first_kept all))
  reached_end old now text next rest missing w =
      let whole : first_kept all ≡ w.done = w.cut ∙ ap (λ l. w.done ++ l) (first_end rest missing) ∙ append-nil w.done in
      (w.at ∙ ap (λ l. start + length l) (sym whole), subst (λ l. Waits old now text (reply_text names start l)) (sym whole) w.waits)

  -- the next one waited from the beginning
  pub reached_here : (old now : Option (List ℕ)) (text : List ℕ) (next : ℕ) (r : Reply) (rest more : List (Option Reply)) → rest ≡ Some r ∷ more → Reached names old now text start next all rest
      → (i : ℕ) × (slice_get all i ≡ Some (Some r))
  reached_here old now text next r rest more there w = (length w.done, at_drop (length w.done) all more (Some r) (sym there ∙ w.left))

  -- how far it went
  pub reached_far : (old now : Option (List ℕ)) (text : List ℕ) (next : ℕ) (rest : List (Option Reply)) → Reached names old now text start next all rest
      → (n : ℕ) × (next ≡ start + n) × (rest ≡ drop n all) × (n ≤ length all)
  reached_far old now text next rest w = (length w.done, w.at, w.left, w.low)

  -- how far it went, with one taken more
  pub reached_past : (old now : Option (List ℕ)) (text : List ℕ) (next far : ℕ) (r : Reply) (rest more : List (Option Reply)) → rest ≡ Some r ∷ more → far ≡ suc next → Reached names old now text start next all rest
      → (n : ℕ) × (far ≡ start + n) × (more ≡ drop n all) × (n ≤ length all)
  reached_past old now text next far r rest more there is w =
      let cut = one_more (length w.done) all more (Some r) (sym there ∙ w.left) in
      (suc (length w.done), (let at = w.at in omega (arith, at, is)), cut.left, cut.low)
