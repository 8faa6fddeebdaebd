use Rattle.std.proofs.Common.{◌≡◌, sym, arith, ◌∙◌, subst, length, length-append, ◌<◌, ◌++◌, ◌∷◌, []}
use Rattle.session_values.specs.Names.{AreDistinct}
use Rattle.session_values.proofs.NamesLemmas.{found, not_found, with_known, with_new, AreDistinct-push, texts, pushed, stored_at, place_is}
use Rattle.session_values.proofs.names.Names.place.Goals as goal
use Rattle.session_values.proofs.names.Names.place.Goals.{In_ok-place-in-None}

shown : (c : In_ok-place-in-None) → texts c.insert_full.new.self.keys ≡ texts c.self.inside.texts.keys ++ c.args.text.now ∷ []
shown c =
    pushed c.args.text.now c.in_ok-owned-in-None.owned c.self.inside.texts.keys c.insert_full.new.self.keys (c.in_ok-owned-in-None.ensures.ok) (c.in_ok-place-in-None.ensures.keys)
    (not_found c.args.text.now c.self.inside.texts.keys (sym c.in-None.ensures.index))

pub invariant_of-self-in-None : goal.invariant_of-self-in-None
invariant_of-self-in-None c =
    let new = not_found c.args.text.now c.self.inside.texts.keys (sym c.in-None.ensures.index) in
    let grown : AreDistinct (texts c.self.inside.texts.keys ++ c.args.text.now ∷ []) = AreDistinct-push _ _ c.self.invariant.0 new in
    let room : length (texts c.self.inside.texts.keys) < 4294967295 = subst (λ names. length names < 4294967295) (sym c.self.view_is) c.requires in
    (subst AreDistinct (sym (shown c)) grown, rw (shown c) (omega (arith, room, length-append (texts c.self.inside.texts.keys) (c.args.text.now ∷ []))))

pub returns-in-Some-clause-list : goal.returns-in-Some-clause-list
returns-in-Some-clause-list c =
    rw (← c.self.view_is) (sym (with_known _ _ (found c.args.text.now c.self.inside.texts.keys c.in-Some.place (sym c.in-Some.ensures.index)).known))

pub returns-in-Some-clause-at : goal.returns-in-Some-clause-at
returns-in-Some-clause-at c =
    rw (← c.self.view_is) (found c.args.text.now c.self.inside.texts.keys c.in-Some.place (sym c.in-Some.ensures.index)).at

pub returns-in_ok-place-in-None-clause-list : goal.returns-in_ok-place-in-None-clause-list
returns-in_ok-place-in-None-clause-list c =
    let new = not_found c.args.text.now c.self.inside.texts.keys (sym c.in-None.ensures.index) in
    rw (← c.self.view_is) (shown c ∙ sym (with_new _ _ new))

pub returns-in_ok-place-in-None-clause-at : goal.returns-in_ok-place-in-None-clause-at
returns-in_ok-place-in-None-clause-at c =
    stored_at c.args.text.now c.in_ok-owned-in-None.owned c.insert_full.new.self.keys _ (c.in_ok-owned-in-None.ensures.ok) (c.in_ok-place-in-None.ensures.stored)

pub returns-in-Some-clause-place : goal.returns-in-Some-clause-place
returns-in-Some-clause-place c =
    rw (← c.self.view_is) (place_is c.args.text.now (texts c.self.inside.texts.keys) _ c.self.invariant.0 (found c.args.text.now c.self.inside.texts.keys c.in-Some.place (sym c.in-Some.ensures.index)).at)

pub returns-in_ok-place-in-None-clause-place : goal.returns-in_ok-place-in-None-clause-place
returns-in_ok-place-in-None-clause-place c =
    place_is c.args.text.now (texts c.insert_full.new.self.keys) _ (invariant_of-self-in-None c).0
    (stored_at c.args.text.now c.in_ok-owned-in-None.owned c.insert_full.new.self.keys _ (c.in_ok-owned-in-None.ensures.ok) (c.in_ok-place-in-None.ensures.stored))
