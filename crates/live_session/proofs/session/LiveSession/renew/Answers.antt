use Rattle.std.proofs.Common.{◌≡◌, ℕ, suc, ◌+◌, ◌<◌, List, [], length, Ok, vec_capacity, refl, sym, ap, subst, ◌∙◌, arith}
use Rattle.std.proofs.lemmas.List.{nil_from_length}
use Rattle.driven_tickets.specs.Acts.{idle_tickets}
use Rattle.driven_tickets.specs.Desk.{TicketsView, last_number}
use Rattle.shard_tables.specs.declared.part.Part.{Part}
use Rattle.live_session.specs.declared.renewing.Replacement.{Replacement}
use Rattle.live_session.specs.Live.{IsLive, LiveView}
use Rattle.live_session.specs.Renewing.{IsRenewed, RenewAnswered}
use Rattle.live_session.specs.contracts.session.LiveSession.{the_view}
use Rattle.live_session.proofs.Keeping.{kept_kinds}
use Rattle.live_session.proofs.Renewed.{anew, is_renewed, kinds_kept, renewed_live}
use Rattle.live_session.proofs.session.LiveSession.renew.Goals as goal

pub invariant_of-self : goal.invariant_of-self
invariant_of-self c =
    let v : LiveView = the_view c.self.inside in
    let ps : List Part = c.self.inside.tables.parts.items in
    let r : Replacement = c.in-Ok.new in
    let n : ℕ = c.self.inside.generation + 1 in
    let none : v.tickets.tickets ≡ [] = nil_from_length v.tickets.tickets (omega (arith, c.open.ensures, c.if-open-gt0.false)) in
    let idle : ◌≡◌ {A = TicketsView} (record { next = v.tickets.next; tickets = []; acts = idle_tickets v.tickets.next }) c.forget.new.self =
    (λ i. record { next = v.tickets.next; tickets = sym none i; acts = idle_tickets v.tickets.next }) ∙ sym c.forget.ensures.idle in (
      subst (λ (k : TicketsView). IsLive (record (anew v r n) { tickets = k })) idle (renewed_live v c.self.invariant.0 ps refl c.self.invariant.1.kinds r c.in-Ok.ensures n),
      kept_kinds v.file v.most_names c.self.inside.adds.items ps r.tables.parts.items (vec_capacity c.self.inside.args.values) (vec_capacity c.self.inside.args.values) c.self.invariant.1 refl (kinds_kept v c.self.invariant.0 ps refl c.self.invariant.1.kinds r c.in-Ok.ensures),
    )

pub returns-in-Ok : goal.returns-in-Ok
returns-in-Ok c =
    let v : LiveView = the_view c.self.inside in
    let ps : List Part = c.self.inside.tables.parts.items in
    let r : Replacement = c.in-Ok.new in
    let n : ℕ = c.self.inside.generation in
    let none : v.tickets.tickets ≡ [] = nil_from_length v.tickets.tickets (omega (arith, c.open.ensures, c.if-open-gt0.false)) in
    let idle : ◌≡◌ {A = TicketsView} (record { next = v.tickets.next; tickets = []; acts = idle_tickets v.tickets.next }) c.forget.new.self =
    (λ i. record { next = v.tickets.next; tickets = sym none i; acts = idle_tickets v.tickets.next }) ∙ sym c.forget.ensures.idle in
    let one : suc n ≡ n + 1 = omega arith in
    let left : c.self.inside.generation < last_number = omega arith in
    let w : LiveView = record (anew v r (n + 1)) { tickets = c.forget.new.self } in
    let P : LiveView → Type 0 = λ x. RenewAnswered x w (Ok tt) in
    let Q : LiveView → Type 0 = λ x. IsRenewed v x in
    let same : ◌≡◌ {A = LiveView} (anew v r (suc n)) w = λ i. record (anew v r (one i)) { tickets = idle i } in
    subst P c.self.view_is (none, left, subst Q same (is_renewed v c.self.invariant.0 ps refl c.self.invariant.1.kinds r c.in-Ok.ensures refl))
