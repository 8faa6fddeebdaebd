use Rattle.std.proofs.Common.{◌≡◌, ℕ, suc, ◌-◌, ◌<◌, refl, sym, ap, ◌∙◌, subst, ⊎_elim, arith, [], ◌∷◌, length}
use Rattle.std.specs.Prelude.{slice_get}
use Rattle.std.proofs.lemmas.Option.{none-some}
use Rattle.turn_steps.specs.Tied.{all_speak}
use Rattle.turn_board.specs.Openings.{Fresh}
use Rattle.turn_steps.proofs.Rows.{get-snoc}
use Rattle.turn_board.proofs.board.Board.hand_out.Goals as goal

pub loop-next-init : goal.loop-next-init
loop-next-init g c = let r = c.requires in let n : ℕ = c.args.callers - 1 in let long = c.args.list.now.ok.0 in record {
  idle = r.first.0;
  unlost = r.first.1;
  caller_count_is = r.caller_count.0;
  change_is = refl;
  callers = (0, n, refl, (let h = r.room.2 in omega arith), long ∙ ap length r.room.0, λ b e. e ∙ ap (λ m. all_speak 0 m b) (let h = r.room.2 in let q : c.args.callers ≡ suc n = omega arith in q));
  room = r.room.1;
  each = λ b e i s f. absurd (none-some s (sym (ap (λ l. slice_get l i) r.room.0) ∙ f));
}

pub part-requires-clause-callers : goal.part-requires-clause-callers
part-requires-clause-callers g c =
    let x = c.loop-next.invariant.callers in
    let b = c.requires.caller_count.1 in
    let k = x.0 in
    let n = x.1 in
    let next = x.2 in
    let sum = x.3 in
    let more : 0 < n = (let h = c.loop-next-test.true in omega arith) in
    (k, n - 1, b.0, x.5 b.0 b.1 ∙ ap (λ m. all_speak k (suc m) b.0) (let q : n ≡ suc (n - 1) = omega arith in q))

pub loop-next-preserved : goal.loop-next-preserved
loop-next-preserved g c =
    let inv = c.loop-next.invariant in
    let k = inv.callers.0 in
    let n = inv.callers.1 in
    let next = inv.callers.2 in
    let sum = inv.callers.3 in
    let long = c.loop-next.list.ok.0 in
    let more : 0 < n = (let h = c.loop-next-test.true in omega arith) in
    record {
      idle = c.part.ensures.first.0;
      unlost = c.part.ensures.counts.1 inv.unlost;
      caller_count_is = c.part.ensures.first.1 ∙ inv.caller_count_is;
      change_is = c.part.ensures.change.0 ∙ inv.change_is;
      callers = (
        suc k,
        n - 1,
        omega arith,
        omega arith,
        c.push_reserved.ensures.len ∙ (let h = inv.callers.4 in omega arith),
        λ b e. (c.part.ensures.callers k n b (inv.callers.5 b e)).0 ∙ ap (λ m. all_speak (suc k) m b) (let q : n ≡ suc (n - 1) = omega arith in q),
      );
      room = (let h = inv.room in let q = c.push_reserved.ensures.capacity in omega arith);
      each = λ b e i s f. ⊎_elim (λ h. inv.each b e i s h)
          (λ h. let at : i ≡ k = h.0 ∙ sym long ∙ inv.callers.4 in
          subst (λ y. Fresh c.args.self.now.words.table.shared.table_id c.args.callers b c.args.first.pass.token.me.0.change i y.pass.token) h.1
          record { idle = c.part.ensures.one.0; unlost = c.part.ensures.counts.0; caller_count_is = c.part.ensures.one.1 ∙ inv.caller_count_is; speaks = (c.part.ensures.callers k n b (inv.callers.5 b e)).1 ∙ ap (λ m. (m, b) ∷ []) (sym at); change_is = c.part.ensures.change.1 ∙ inv.change_is })
          (get-snoc c.loop-next.list.items c.part.result s i (sym (ap (λ l. slice_get l i) c.push_reserved.ensures.items) ∙ f));
    }

pub returns-clause-each : goal.returns-clause-each
returns-clause-each g c = λ b e i s f.
    let inv = c.loop-next.invariant in
    let k = inv.callers.0 in
    let n = inv.callers.1 in
    let next = inv.callers.2 in
    let sum = inv.callers.3 in
    let long = c.loop-next.list.ok.0 in
    let last : n ≡ 0 = (let h = c.loop-next-test.false in omega arith) in
    ⊎_elim (λ h. inv.each b e i s h)
    (λ h. let at : i ≡ k = h.0 ∙ sym long ∙ inv.callers.4 in
    subst (λ y. Fresh c.args.self.now.words.table.shared.table_id c.args.callers b c.args.first.pass.token.me.0.change i y.pass.token) h.1
    record { idle = inv.idle; unlost = inv.unlost; caller_count_is = inv.caller_count_is; speaks = inv.callers.5 b e ∙ ap (λ m. all_speak k (suc m) b) last ∙ ap (λ m. (m, b) ∷ []) (sym at); change_is = inv.change_is })
    (get-snoc c.loop-next.list.items c.loop-next.first s i (sym (ap (λ l. slice_get l i) c.push_reserved-2.ensures.items) ∙ f))
