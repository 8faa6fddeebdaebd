use Rattle.std.proofs.Common.{arith, sym, ap, ◌∙◌, subst, List, [], map, replicate, Some, vec_items, length, get_or}
use Rattle.atomic_table.specs.Table.{opening}
use Rattle.turn_steps.specs.Tied.{Tied, first_view}
use Rattle.turn_steps.proofs.Moving.{same_values}
use Rattle.turn_steps.proofs.Opened.{opened, first-content}
use Rattle.turn_steps.proofs.words.Words.open.Goals as goal

pub new-requires : goal.new-requires
new-requires g c =
    let content = g.R.TieRule.content in
    let items = c.args.values.items in
    let long = c.args.values.ok.0 in
    let r = c.requires.rule in
    let note = first-content content items c.of.result.value r.0 (c.of.ensures ∙ c.index.ensures ∙ ap (get_or items 0) (sym c.of.ensures)) r.1 in
    let start = opened content g.R.TieRule.holds items c.args.callers r.0 (let h = c.requires.turns in omega arith) r.2 in
    let whole = ap (λ (v : List g.row.V.Denot). map content v) (ap vec_items c.of-2.ensures) in
    let before = map content c.of-2.result.value.items in
    subst (λ s. Tied content g.R.TieRule.holds c.args.callers (opening (replicate 15 0) s (first_view c.len.result c.args.callers (content c.of.result.value) before))) (sym c.fill_slots-slots.ensures.slots)
    (subst (λ n. Tied content g.R.TieRule.holds c.args.callers (opening (replicate 15 0) (map Some items) (first_view n c.args.callers (content c.of.result.value) before))) (sym (c.len.ensures ∙ long))
    (subst (λ b. Tied content g.R.TieRule.holds c.args.callers (opening (replicate 15 0) (map Some items) (first_view (length items) c.args.callers b before))) (sym note)
    (subst (λ xs. Tied content g.R.TieRule.holds c.args.callers (opening (replicate 15 0) (map Some items) (first_view (length items) c.args.callers r.0 xs))) (sym whole) start)))

pub returns-in-Ok-new-clause-first : goal.returns-in-Ok-new-clause-first
returns-in-Ok-new-clause-first g c = λ b has.
    let content = g.R.TieRule.content in
    let items = c.args.values.items in
    let e = c.in-Ok-new.ensures.ok in
    let note = first-content content items c.of.result.value b (c.of.ensures ∙ c.index.ensures ∙ ap (get_or items 0) (sym c.of.ensures)) has in
    let whole = ap (λ (v : List g.row.V.Denot). map content v) (ap vec_items c.of-2.ensures) in
    (e.2, e.4 ∙ λ i. (first_view (c.len.ensures i) c.args.callers (note i) (whole i), []))

pub returns-clause-back : goal.returns-clause-back
returns-clause-back g c = same_values _ _ (c.empty_slots.ensures ∙ c.in-Err-new.ensures.err ∙ c.fill_slots-slots.ensures.slots)
