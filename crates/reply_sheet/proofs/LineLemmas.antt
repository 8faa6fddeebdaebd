-- The values of a line, from the first to the last, and how long they are.
use Rattle.std.proofs.Common.{◌≡◌, ℕ, ◌+◌, ◌*◌, ◌<◌, ◌≤◌, List, [], ◌∷◌, ◌++◌, length, drop, get_or, take, refl, sym, ap, ◌∙◌, append_assoc, arith}
use Rattle.std.proofs.lemmas.List.{drop_more, drop_all, length-take-le}
use Rattle.std.proofs.lemmas.Fmt.{length-decimal-le}
use Rattle.std.specs.Fmt.{decimal}
use Rattle.std.specs.List.{AllByRecursion}
use Rattle.session_values.specs.declared.value.Value.{Value}
use Rattle.session_values.specs.declared.value.Value.TheVariants.{Nil}
use Rattle.session_values.specs.ReplyText.{IsPrintable, values_text, value_text}

values_step : (names : List (List ℕ)) (vs : List Value) (i : ℕ) → i < length vs → values_text names (drop i vs) ≡ 32 ∷ value_text names (get_or vs i Nil) ++ values_text names (drop (i + 1) vs)
unfolding values_text
values_step names vs i h = rw (drop_more vs i Nil h) refl

values_nil : (names : List (List ℕ)) → values_text names [] ≡ []
unfolding values_text
values_nil names = refl

-- behind the last value nothing is left
pub values_end : (names : List (List ℕ)) (vs : List Value) (i : ℕ) → length vs ≤ i → values_text names (drop i vs) ≡ []
values_end names vs i h = ap (values_text names) (drop_all i vs h) ∙ values_nil names

-- one value more
pub turn : (all done spaced more : List ℕ) (names : List (List ℕ)) (vs : List Value) (i : ℕ) → i < length vs → done ++ values_text names (drop i vs) ≡ all → spaced ≡ done ++ 32 ∷ [] → more ≡ spaced ++ value_text names (get_or vs i Nil) → more ++ values_text names (drop (i + 1) vs) ≡ all
turn all done spaced more names vs i h e space value =
    ap (λ t. t ++ values_text names (drop (i + 1) vs)) (value ∙ ap (λ t. t ++ value_text names (get_or vs i Nil)) space)
    ∙ append_assoc (done ++ 32 ∷ []) (value_text names (get_or vs i Nil)) (values_text names (drop (i + 1) vs))
    ∙ append_assoc done (32 ∷ []) _ ∙ ap (λ t. done ++ t) (sym (values_step names vs i h)) ∙ e

-- the next value is printable, and so are those behind it
pub printable_next : (names : List (List ℕ)) (vs : List Value) (i : ℕ) → i < length vs → AllByRecursion (IsPrintable names) (drop i vs) → IsPrintable names (get_or vs i Nil) × AllByRecursion (IsPrintable names) (drop (i + 1) vs)
printable_next names vs i h p = let q = rw (drop_more vs i Nil h) at p in (q.0, q.1)

-- a ticket and at most four values leave room for the line feed
pub line_room : (start : List ℕ) (ticket count : ℕ) (vs : List Value) → start ≡ decimal ticket → ticket < 20000 → count ≤ 4 → count ≤ length vs → length start + 65 * length (take count vs) ≤ 265
line_room start ticket count vs e small four all =
    let digits : length (decimal ticket) ≤ 5 = length-decimal-le 5 ticket (omega arith) (omega (arith, small)) (omega (arith, small)) in
    omega (arith, digits, ap length e, four, length-take-le count vs all)
