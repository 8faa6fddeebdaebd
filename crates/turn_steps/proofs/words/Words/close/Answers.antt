use Rattle.std.proofs.Common.{arith, sym, ap, ◌∙◌, ℕ, subst}
use Rattle.std.specs.Mem.Slots.{slots_items, slots_counts}
use Rattle.turn_steps.specs.Tied.{counted}
use Rattle.turn_steps.specs.Passes.{Token}
use Rattle.turn_steps.specs.Closings.{SpeaksForAll}
use Rattle.turn_steps.proofs.Closes.{notes-are, lies-at, final-contents}
use Rattle.turn_steps.proofs.words.Words.close.Goals as goal

pub empty_out-requires-clause-slots : goal.empty_out-requires-clause-slots
empty_out-requires-clause-slots g c =
    let e = c.into_token.ensures in
    let f = c.close_with-closed.ensures.values.2 in
    let all = subst (λ (p : Token g.row.V.Denot g.row.R-Content.Denot). SpeaksForAll p.me.0) (sym e) c.requires.all in (
      c.close_with-closed.ensures.values.1,
      (λ t near. let y = lies-at g.R.TieRule.content g.R.TieRule.holds _ f.0 f.1.0 c.into_token.result.id c.into_token.result.me.0 f.1.1 (λ u. ap (λ p. counted p.me.0 u) e ∙ c.requires.pass.none_held u) all
          (slots_items c.close_with-closed.result.slots) f.3 f.4 t near in (y.0, y.1)),
      (slots_counts c.close_with-closed.result.slots).0,
    )

pub returns-clause-rule : goal.returns-clause-rule
returns-clause-rule g c =
    let e = c.into_token.ensures in
    let f = c.close_with-closed.ensures.values.2 in
    let v = c.into_token.result.me.0 in
    let all = subst (λ (p : Token g.row.V.Denot g.row.R-Content.Denot). SpeaksForAll p.me.0) (sym e) c.requires.all in
    let none' = λ (u : ℕ). ap (λ p. counted p.me.0 u) e ∙ c.requires.pass.none_held u in
    let xs = slots_items c.close_with-closed.result.slots in
    let counts = (slots_counts c.close_with-closed.result.slots).0 in
    let kept = c.empty_out.new.kept in
    let got = c.empty_out.ensures.values in
    let notes = notes-are g.R.TieRule.content g.R.TieRule.holds _ f.0 f.1.0 c.into_token.result.id v f.1.1 none' all in
    let callers = ap (λ p. p.me.0.caller_count) e in
    let contents = final-contents g.R.TieRule.content g.R.TieRule.holds _ f.0 f.1.0 c.into_token.result.id v f.1.1 none' all xs f.3 f.4 kept.items (sym kept.ok.0 ∙ got.0 ∙ counts) (λ t h. got.1 t (let q = counts in omega arith)) in (
      f.1.0.notes,
      notes.0 ∙ callers,
      (λ k x h is. notes.1 k x (let q = callers in omega arith) (ap (λ p. lib.ListN.get_elem? p.me.0.speaks k) e ∙ is)),
      subst (λ x. g.R.TieRule.holds x f.1.0.notes) (sym contents) f.1.0.tied,
    )
