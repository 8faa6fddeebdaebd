use Rattle.std.proofs.Common.{arith, sym, ap, ◌∙◌, subst, ◌≡◌, ℕ, ◌<◌, Some, None, List, [], ◌∷◌, ◌++◌, length, get_or}
use Rattle.std.specs.Prelude.{bit_or}
use Rattle.std.proofs.lemmas.Nat.{one_shl}
use Rattle.turn_steps.specs.Tied.{place}
use Rattle.turn_steps.specs.declared.view.Place.TheVariants.{Vacant}
use Rattle.turn_steps.specs.Passes.{Token, held}
use Rattle.turn_board.specs.Hands.{in_hands, Once}
use Rattle.turn_board.proofs.Returns.{held-near}
use Rattle.turn_board.proofs.Fills.{Filling, one-more, rest-once}
use Rattle.turn_board.proofs.Several.{once-last, last-in}
use Rattle.turn_steps.proofs.Rows.{few-turns}
use Rattle.turn_board.proofs.board.Board.lower_all.Goals as goal

-- the turn that is next is held
next-held : {V C : Type 0} (content : V → C) (xs rest more : List (ℕ × V)) (set t : ℕ) (x : V) (p q : Token V C) → Filling content xs rest set p q → rest ≡ more ++ (t, x) ∷ [] → Once content rest
    → ((u : ℕ) (c : C) → in_hands content xs u ≡ Some c → ((d : C) × (held p u ≡ Some d)) × (place p.me.0 u ≡ Vacant)) → (d : C) × (held p t ≡ Some d) × (held q t ≡ Some d)
next-held content xs rest more set t x p q f is once h =
    let at = ap (λ l. in_hands content l t) is ∙ last-in content more t x (once-last content more t x (subst (Once content) is once)).1 in
    let w = f.waits t (content x) at in
    let y = (h t (content x) ((f.others t w).0 ∙ at)).0 in
    (y.0, y.1, ap (λ l. get_or l t None) f.counts ∙ y.1)

-- its place is vacant still
next-vacant : {V C : Type 0} (content : V → C) (xs rest more : List (ℕ × V)) (set t : ℕ) (x : V) (p q : Token V C) → Filling content xs rest set p q → rest ≡ more ++ (t, x) ∷ [] → Once content rest
    → ((u : ℕ) (c : C) → in_hands content xs u ≡ Some c → ((d : C) × (held p u ≡ Some d)) × (place p.me.0 u ≡ Vacant)) → place q.me.0 t ≡ Vacant
next-vacant content xs rest more set t x p q f is once h =
    let at = ap (λ l. in_hands content l t) is ∙ last-in content more t x (once-last content more t x (subst (Once content) is once)).1 in
    let o = f.others t (f.waits t (content x) at) in
    o.1 ∙ (h t (content x) (o.0 ∙ at)).1

pub lower-requires-clause-vacant : goal.lower-requires-clause-vacant
lower-requires-clause-vacant g c =
    next-vacant g.R.TieRule.content _ _ _ _ c.in-Some.turn c.in-Some.value c.args.seat.now.pass.token c.loop-turn.seat.pass.token c.loop-turn.invariant.filling c.in-Some.ensures.pairs c.loop-turn.invariant.once c.requires.held

pub lower-requires-clause-turn : goal.lower-requires-clause-turn
lower-requires-clause-turn g c =
    let h = next-held g.R.TieRule.content _ _ _ _ c.in-Some.turn c.in-Some.value c.args.seat.now.pass.token c.loop-turn.seat.pass.token c.loop-turn.invariant.filling c.in-Some.ensures.pairs c.loop-turn.invariant.once c.requires.held in
    held-near c.args.seat.now.pass.token.me.0 _ c.in-Some.turn h.0 c.requires.seat.counts h.1

pub lower-requires-clause-held : goal.lower-requires-clause-held
lower-requires-clause-held g c =
    let h = next-held g.R.TieRule.content _ _ _ _ c.in-Some.turn c.in-Some.value c.args.seat.now.pass.token c.loop-turn.seat.pass.token c.loop-turn.invariant.filling c.in-Some.ensures.pairs c.loop-turn.invariant.once c.requires.held in (h.0, h.2)

pub overflow_shl-mask : goal.overflow_shl-mask
overflow_shl-mask g c =
    let h = next-held g.R.TieRule.content _ _ _ _ c.in-Some.turn c.in-Some.value c.args.seat.now.pass.token c.loop-turn.seat.pass.token c.loop-turn.invariant.filling c.in-Some.ensures.pairs c.loop-turn.invariant.once c.requires.held in
    few-turns c.in-Some.turn _ c.args.self.now.words.few (held-near c.args.seat.now.pass.token.me.0 _ c.in-Some.turn h.0 c.requires.seat.counts h.1)

pub loop-turn-preserved : goal.loop-turn-preserved
loop-turn-preserved g c =
    let inv = c.loop-turn.invariant in
    let t : ℕ = c.in-Some.turn in
    let is = c.in-Some.ensures.pairs in
    let h = next-held g.R.TieRule.content _ _ _ _ t c.in-Some.value c.args.seat.now.pass.token c.loop-turn.seat.pass.token inv.filling is inv.once c.requires.held in
    let near = held-near c.args.seat.now.pass.token.me.0 c.args.self.now.words.table.shared.table_id.slots t h.0 c.requires.seat.counts h.1 in
    let e = one_shl t 64 (few-turns t c.args.self.now.words.table.shared.table_id.slots c.args.self.now.words.few near) in
    let l = c.lower.ensures in
    let in-places = (let q = c.requires.seat.places in let b : t < length c.args.seat.now.pass.token.me.0.places = omega arith in b) in
    record {
      once = rest-once g.R.TieRule.content c.args.hands.now.pairs c.loop-turn.hands.pairs c.take_last.new.self.pairs c.loop-turn.mask t c.in-Some.value c.args.seat.now.pass.token c.loop-turn.seat.pass.token c.lower.new.seat.pass.token inv.filling is inv.once in-places c.requires.seat.empty l.0 l.1 l.2;
      filling = subst (λ (b : ℕ). Filling g.R.TieRule.content c.args.hands.now.pairs c.take_last.new.self.pairs (bit_or c.loop-turn.mask b) c.args.seat.now.pass.token c.lower.new.seat.pass.token) (sym e)
          (one-more g.R.TieRule.content c.args.hands.now.pairs c.loop-turn.hands.pairs c.take_last.new.self.pairs c.loop-turn.mask t c.in-Some.value c.args.seat.now.pass.token c.loop-turn.seat.pass.token c.lower.new.seat.pass.token inv.filling is inv.once in-places c.requires.seat.empty l.0 l.1 l.2);
      room = c.in-Some.ensures.room ∙ inv.room;
    }
