use Rattle.std.proofs.Common.{◌≡◌, ◌<◌, ◌++◌, ◌∷◌, [], length, inr, refl, sym, ◌∙◌, subst, arith}
use Rattle.session_values.specs.Names.{place_of}
use Rattle.session_values.proofs.NamesLemmas.{no_choice, with_new}
use Rattle.text_lines.specs.Text.{Text}
use Rattle.live_session.specs.Live.{IsLive, LiveView}
use Rattle.live_session.specs.Naming.{HasName}
use Rattle.live_session.specs.contracts.session.LiveSession.{the_view}
use Rattle.live_session.proofs.DrivenActs.{named, named_live, with_history}
use Rattle.live_session.proofs.Words.{absent}
use Rattle.live_session.proofs.session.LiveSession.name.Goals as goal

pub invariant_of-self : goal.invariant_of-self
invariant_of-self c =
    let v : LiveView = the_view c.self.inside in
    let t : Text = c.args.text.now in
    let new = absent t v.names (no_choice (place_of v.names t) (length v.names) _ refl (sym c.in_default.ensures.index)) in
    let list : c.place.new.self ≡ v.names ++ t ∷ [] = c.in-Ok.ensures.list ∙ with_new v.names t new in
    let few : length v.names < v.most_names = omega (arith, c.len.ensures.len, c.if-len-self.false) in
    let w : LiveView = with_history v c.place.new.self v.tables v.tickets c.drove-self-inside.result in
    let is : w ≡ named v t = (λ i. with_history v (list i) v.tables v.tickets (c.drove-self-inside.ensures i)) in
    (subst IsLive (sym is) (named_live v t c.self.invariant.0 few), c.self.invariant.1)

pub returns-in-Ok : goal.returns-in-Ok
returns-in-Ok c =
    let v : LiveView = the_view c.self.inside in
    let t : Text = c.args.text.now in
    let new = absent t v.names (no_choice (place_of v.names t) (length v.names) _ refl (sym c.in_default.ensures.index)) in
    let list : c.place.new.self ≡ v.names ++ t ∷ [] = c.in-Ok.ensures.list ∙ with_new v.names t new in
    let few : length v.names < v.most_names = omega (arith, c.len.ensures.len, c.if-len-self.false) in
    let w : LiveView = with_history v c.place.new.self v.tables v.tickets c.drove-self-inside.result in
    let is : w ≡ named v t = (λ i. with_history v (list i) v.tables v.tickets (c.drove-self-inside.ensures i)) in
    let symbol = sym c.is_symbol.ensures ∙ c.if-not-is_symbol.false in
    let P : LiveView → Type 0 = λ x. HasName x t w in
    (symbol, c.in-Ok.ensures.at, subst P c.self.view_is (inr (record { symbol = symbol; absent = c.in_default.ensures.none }, few, is)))
