-- Lines are one trace at most.
use Rattle.std.proofs.Common.{◌≡◌, ℕ, List, [], ◌∷◌, map, Option, Some, refl, sym, ap, ◌∙◌}
use Rattle.session_values.specs.declared.kind.TableKind.{TableKind}
use Rattle.session_journal.specs.declared.event.Event.{Event}
use Rattle.text_lines.specs.Rows.{Row}
use Rattle.session_journal.specs.Traces.{TraceView}
use Rattle.trace_lines.specs.EventRows.{IsTrace, row_event}

-- events are the same where each is what the other list has there
same_events : (xs ys : List Event) → map (λ (e : Event). Some e) xs ≡ map (λ (e : Event). Some e) ys → xs ≡ ys
same_events [] [] e = refl
same_events [] (y ∷ ys) e = let whole : ◌≡◌ {A = List (Option Event)} [] (Some y ∷ map (λ (e : Event). Some e) ys) = e in absurd (cc)
same_events (x ∷ xs) [] e = let whole : ◌≡◌ {A = List (Option Event)} (Some x ∷ map (λ (e : Event). Some e) xs) [] = e in absurd (cc)
same_events (x ∷ xs) (y ∷ ys) e =
    let whole : ◌≡◌ {A = List (Option Event)} (Some x ∷ map (λ (e : Event). Some e) xs) (Some y ∷ map (λ (e : Event). Some e) ys) = e in
    let one : ◌≡◌ {A = Option Event} (Some x) (Some y) = cc in
    let first : x ≡ y = cc in
    let rest : map (λ (e : Event). Some e) xs ≡ map (λ (e : Event). Some e) ys = cc in
    let more : xs ≡ ys = same_events xs ys rest in
    cc

pub one_trace : (old new other : List (List ℕ)) (tables : List ℕ) (shape : List TableKind) (rs : List Row) (t u : TraceView) → IsTrace old new tables shape rs t → IsTrace old other tables shape rs u → t ≡ u
one_trace old new other tables shape rs t u h k =
    let names : new ≡ other = h.names ∙ sym k.names in
    let events : t.events ≡ u.events = same_events t.events u.events (sym h.events ∙ ap (λ (ns : List (List ℕ)). map (row_event ns tables shape) rs) names ∙ k.events) in
    let lines : t.lines ≡ u.lines = h.lines ∙ sym k.lines in
    λ i. record { events = events i; lines = lines i }
