use Rattle.std.proofs.Common.{◌≡◌, ◌+◌, ◌*◌, List, length, map, sym, ap, ◌∙◌, subst, arith}
use Rattle.std.specs.Prelude.{slice_get}
use Rattle.session_journal.specs.Script.{IsScript}
use Rattle.shard_tables.specs.declared.part.Part.{Part}
use Rattle.turn_board.specs.Boards.{last_change}
use Rattle.hall_rule.specs.Halls.{first_content}
use Rattle.hall_rule.specs.Shards.{content_of}
use Rattle.session_hall.specs.Reopenings.{AreKept, HaveRoom}
use Rattle.session_hall.proofs.Opened.{few_turns, opened_here}
use Rattle.session_hall.proofs.Reopened.{moved_in, moved_values}
use Rattle.session_hall.proofs.reopening.over.Goals as goal

pub open_or_return-requires-clause-rule : goal.open_or_return-requires-clause-rule
open_or_return-requires-clause-rule g c =
    let m = g.S.Tickets.meaning in
    let here = subst (λ z. IsScript (m z)) c.in-Ok.ensures.script c.script.ensures.lawful in
    let to = c.script.ensures.script ∙ c.in-Ok.ensures.script in
    let ok = c.args.parts.ok in
    let many : length c.args.parts.items ≡ length (m c.args.tickets).shape * c.args.sizes.shards = omega (arith, c.requires.parts, ok.0) in
    let new : List Part = c.give_room.new.parts.items in
    let same = c.give_room.ensures.kept in
    let fits = subst (λ z. HaveRoom (m z) c.args.later.now c.args.sizes.shards c.args.parts.items new) to c.in-Ok-give_room.ensures.room in
    let first = moved_values m c.args.tickets c.args.sizes.shards c.args.sizes.callers c.args.later.now c.in-Ok.ready.book c.shards_behind-values.result.items c.in-Ok.ensures.script c.in-Ok.ensures.opened here c.args.parts.items new c.requires.opening c.requires.shards.0 many same fits c.shards_behind-values.ensures.values in
    (first_content m c.args.tickets c.args.sizes.callers, first.first, first.tied)

pub returns-in-Ok-open_or_return-clause-callers : goal.returns-in-Ok-open_or_return-clause-callers
returns-in-Ok-open_or_return-clause-callers g c =
    λ i d e.
    let m = g.S.Tickets.meaning in
    let here = subst (λ z. IsScript (m z)) c.in-Ok.ensures.script c.script.ensures.lawful in
    let to = c.script.ensures.script ∙ c.in-Ok.ensures.script in
    let ok = c.args.parts.ok in
    let many : length c.args.parts.items ≡ length (m c.args.tickets).shape * c.args.sizes.shards = omega (arith, c.requires.parts, ok.0) in
    let new : List Part = c.give_room.new.parts.items in
    let same = c.give_room.ensures.kept in
    let fits = subst (λ z. HaveRoom (m z) c.args.later.now c.args.sizes.shards c.args.parts.items new) to c.in-Ok-give_room.ensures.room in
    let first = moved_values m c.args.tickets c.args.sizes.shards c.args.sizes.callers c.args.later.now c.in-Ok.ready.book c.shards_behind-values.result.items c.in-Ok.ensures.script c.in-Ok.ensures.opened here c.args.parts.items new c.requires.opening c.requires.shards.0 many same fits c.shards_behind-values.ensures.values in
    let few = few_turns (length (m c.args.tickets).shape) c.args.sizes.shards _ (omega (arith, c.requires.tables)) c.requires.shards.1 first.long in
    let values-ok = c.shards_behind-values.result.ok in
    let new-one = c.new_callers-callers.ensures.each i d (ap (λ l. slice_get l i) (sym c.from_vec.ensures) ∙ e) in
    let begins = c.in-Ok-open_or_return.ensures.each (first_content m c.args.tickets c.args.sizes.callers) first.first i new-one.0 (ap (λ l. slice_get l i) (sym c.into_vec.ensures) ∙ new-one.1) in
    let count = c.in-Ok-open_or_return.ensures.sizes.0 in
    let tables = c.requires.tables.0 in
    let turns = first.long ∙ ap (λ n. 1 + n * c.args.sizes.shards) tables in
    opened_here m _ c.args.tickets c.of-copy.ensures i d new-one.0 begins new-one.2 first.script_kept tables c.requires.shards.0 c.requires.shards.1 (omega (arith, count, values-ok.0, turns)) (omega (arith, count, values-ok.0, few))

pub returns-in-Ok-open_or_return-clause-room : goal.returns-in-Ok-open_or_return-clause-room
returns-in-Ok-open_or_return-clause-room g c =
    λ i d e.
    let m = g.S.Tickets.meaning in
    let here = subst (λ z. IsScript (m z)) c.in-Ok.ensures.script c.script.ensures.lawful in
    let to = c.script.ensures.script ∙ c.in-Ok.ensures.script in
    let ok = c.args.parts.ok in
    let many : length c.args.parts.items ≡ length (m c.args.tickets).shape * c.args.sizes.shards = omega (arith, c.requires.parts, ok.0) in
    let new : List Part = c.give_room.new.parts.items in
    let same = c.give_room.ensures.kept in
    let fits = subst (λ z. HaveRoom (m z) c.args.later.now c.args.sizes.shards c.args.parts.items new) to c.in-Ok-give_room.ensures.room in
    let new-one = c.new_callers-callers.ensures.each i d (ap (λ l. slice_get l i) (sym c.from_vec.ensures) ∙ e) in
    let left = c.in-Ok-open_or_return.ensures.opened i new-one.0 (ap (λ l. slice_get l i) (sym c.into_vec.ensures) ∙ new-one.1) in
    (map content_of c.shards_behind-values.result.items, ap last_change new-one.2.seat_is ∙ left, moved_in m c.args.tickets c.args.sizes.shards c.args.sizes.callers c.args.later.now c.in-Ok.ready.book c.shards_behind-values.result.items c.in-Ok.ensures.script c.in-Ok.ensures.opened here c.args.parts.items new c.requires.opening c.requires.shards.0 many same fits c.shards_behind-values.ensures.values)

pub shards_back-requires-clause-book : goal.shards_back-requires-clause-book
shards_back-requires-clause-book g c =
    (c.in-Ok.ready.book, c.give_room.new.parts.items, c.in-Err.ensures.back ∙ c.shards_behind-values.ensures.values)

pub returns-in-Err-clause-back : goal.returns-in-Err-clause-back
returns-in-Err-clause-back g c =
    let is = c.shards_back.ensures c.in-Ok.ready.book c.give_room.new.parts.items (c.in-Err.ensures.back ∙ c.shards_behind-values.ensures.values) in
    subst (λ l. AreKept c.args.parts.items l) (sym is) c.give_room.ensures.kept
