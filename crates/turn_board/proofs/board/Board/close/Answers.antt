use Rattle.std.proofs.Common.{arith, refl, sym, ap, ◌∙◌, subst, ◌≡◌, ◌<◌, ℕ, [], ◌∷◌, ◌++◌, length, map}
use Rattle.std.specs.Prelude.{slice_get, option_to_list}
use mathlib.Core.Option.{some}
use lib.ListN.{get_elem?}
use Rattle.turn_steps.specs.Passes.{IdleFirst, id_of}
use Rattle.std.proofs.lemmas.List.{length-map}
use Rattle.turn_steps.proofs.Rows.{get-last, get-longer}
use Rattle.turn_board.proofs.Closes.{all-here, idle-of, gathered, spoken_notes-in, notes-in, final-notes}
use Rattle.turn_board.proofs.board.Board.close.Goals as goal

pub returns-clause-rule : goal.returns-clause-rule
returns-clause-rule g c =
    let is = sym c.into_vec-list.ensures ∙ c.pop.ensures.items ∙ ap (λ o. c.pop.new.self.items ++ option_to_list o) c.in-Some.is in
    let last = c.requires.all (length c.pop.new.self.items) c.in-Some.seat (ap (λ l. slice_get l (length c.pop.new.self.items)) is ∙ get-last c.pop.new.self.items c.in-Some.seat _ refl) in
    let id = c.args.self.words.table.shared.table_id in
    let l = c.args.seats in
    let e = c.into_pass.ensures in
    let v = c.into_pass.result.token.me.0 in
    let speaks = ap (λ p. p.token.me.0.speaks) e ∙ c.gather.ensures.callers ∙ gathered {R = g.row.R.Denot} id l c.pop.new.self.items c.in-Some.seat is in
    let callers = ap (λ p. p.token.me.0.caller_count) e ∙ c.gather.ensures.caller_count ∙ last.caller_count_is in
    let all = all-here c.args.self l c.requires.all in
    let spoken : (k : ℕ) → k < length l → (x : g.row.R-Content.Denot) × (get_elem? v.speaks k ≡ some (k, x)) = λ k h. let x = spoken_notes-in {R = g.row.R.Denot} id l all k h in (x.0, ap (λ y. get_elem? y k) speaks ∙ x.1) in
    let r = c.close.ensures.rule in (
      r.0,
      final-notes r.0 v.speaks (length l) (r.1 ∙ callers) (λ k x h f. r.2 k x (let q = callers in omega arith) f) spoken _ (length-map l _)
          (λ k h b a. notes-in {R = g.row.R.Denot} id l all k h b (ap (λ y. get_elem? y k) (sym speaks) ∙ a)),
      subst (λ xs. g.R.TieRule.holds (map g.R.TieRule.content xs) r.0) (sym c.from_vec.ensures) r.3,
    )

pub gather-requires-clause-seat : goal.gather-requires-clause-seat
gather-requires-clause-seat g c =
    let is = sym c.into_vec-list.ensures ∙ c.pop.ensures.items ∙ ap (λ o. c.pop.new.self.items ++ option_to_list o) c.in-Some.is in
    let h = c.requires.all (length c.pop.new.self.items) c.in-Some.seat (ap (λ l. slice_get l (length c.pop.new.self.items)) is ∙ get-last c.pop.new.self.items c.in-Some.seat _ refl) in
    idle-of c.args.self.words.table.shared.table_id c.in-Some.seat.pass.token h.seat h.free

pub gather-requires-clause-others : goal.gather-requires-clause-others
gather-requires-clause-others g c = λ i s e.
    let is = sym c.into_vec-list.ensures ∙ c.pop.ensures.items ∙ ap (λ o. c.pop.new.self.items ++ option_to_list o) c.in-Some.is in
    let last = c.requires.all (length c.pop.new.self.items) c.in-Some.seat (ap (λ l. slice_get l (length c.pop.new.self.items)) is ∙ get-last c.pop.new.self.items c.in-Some.seat _ refl) in
    let h = c.requires.all i s (ap (λ l. slice_get l i) is ∙ get-longer c.pop.new.self.items (c.in-Some.seat ∷ []) i s e) in
    (idle-of c.args.self.words.table.shared.table_id s.pass.token h.seat h.free, h.caller_count_is ∙ sym last.caller_count_is)

pub close-requires-clause-pass : goal.close-requires-clause-pass
close-requires-clause-pass g c = subst (λ w. IdleFirst (id_of w) c.into_pass.result.token) (sym c.into_parts-words.ensures)
    (subst (λ p. IdleFirst (id_of c.args.self.words) p.token) (sym c.into_pass.ensures) c.gather.ensures.seat)

pub close-requires-clause-all : goal.close-requires-clause-all
close-requires-clause-all g c =
    let is = sym c.into_vec-list.ensures ∙ c.pop.ensures.items ∙ ap (λ o. c.pop.new.self.items ++ option_to_list o) c.in-Some.is in
    let last = c.requires.all (length c.pop.new.self.items) c.in-Some.seat (ap (λ l. slice_get l (length c.pop.new.self.items)) is ∙ get-last c.pop.new.self.items c.in-Some.seat _ refl) in
    let id = c.args.self.words.table.shared.table_id in
    let l = c.args.seats in
    let e = c.into_pass.ensures in
    let speaks = ap (λ p. p.token.me.0.speaks) e ∙ c.gather.ensures.callers ∙ gathered {R = g.row.R.Denot} id l c.pop.new.self.items c.in-Some.seat is in
    let callers = ap (λ p. p.token.me.0.caller_count) e ∙ c.gather.ensures.caller_count ∙ last.caller_count_is in (
      (let q = callers in let s = c.requires.some in omega arith),
      λ k h. let x = spoken_notes-in {R = g.row.R.Denot} id l (all-here c.args.self l c.requires.all) k (let q = callers in omega arith) in (x.0, ap (λ y. get_elem? y k) speaks ∙ x.1),
    )
