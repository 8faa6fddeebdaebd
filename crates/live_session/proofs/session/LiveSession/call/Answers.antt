use Rattle.std.proofs.Common.{◌≡◌, List, map, vec_capacity, refl, sym, ap, ◌∙◌, subst}
use Rattle.session_values.specs.Tables.{Tables, kind_of}
use Rattle.serve_faults.specs.Printable.{IsPrintableTable}
use Rattle.serve_faults.proofs.PrintableTables.{step_holds}
use Rattle.std.specs.Bool.{Decides}
use Rattle.std.specs.List.{AllByRecursion}
use Rattle.shard_tables.specs.declared.part.Part.{Part}
use Rattle.driven_tickets.specs.declared.answers.Called.TheVariants as called_as
use Rattle.driven_tickets.specs.Acts.{Calls}
use Rattle.driven_tickets.specs.Desk.{DeskView, TicketsView, desk_over}
use Rattle.driven_tickets.proofs.Keeping.{Acted, called, desk_on}
use Rattle.live_session.specs.Driven.{CallAnswered, FitsSession, IsOperationOf}
use Rattle.live_session.specs.Held.{factors_in, held}
use Rattle.live_session.specs.Live.{IsLive, LiveView, desk_in}
use Rattle.live_session.specs.contracts.session.LiveSession.{the_view}
use Rattle.live_session.proofs.DrivenActs.{acted, acted_live, call_refused, with_history}
use Rattle.live_session.proofs.Keeping.{kept_held, kept_kinds}
use Rattle.live_session.proofs.Whole.{kinds_step}
use Rattle.live_session.proofs.session.LiveSession.call.Goals as goal

pub returns-in-Some : goal.returns-in-Some
returns-in-Some c =
    let v : LiveView = the_view c.self.inside in
    let d : DeskView = desk_in v in
    let P : LiveView → Type 0 = λ x. CallAnswered x x c.args.ticket c.args.op c.in-Some.why in
    subst P c.self.view_is (call_refused v c.args.ticket c.is_operation-fits.result c.args.op c.in-Some.why (subst (λ (ps : List Part). Decides c.is_operation-fits.result (IsOperationOf v.names (held ps) c.args.op)) c.as_slice.ensures.value c.is_operation-fits.ensures) (c.in-Some.ensures d.opening d.tables))

pub perform-requires : goal.perform-requires
perform-requires c =
    let d : DeskView = desk_in (the_view c.self.inside) in
    let v : LiveView = the_view c.self.inside in
    (subst (λ (ps : List Part). IsOperationOf v.names (held ps) c.args.op) c.as_slice.ensures.value (c.is_operation-fits.ensures.0 (c.in_default.ensures d.opening d.tables).0)).fits

pub invariant_of-self : goal.invariant_of-self
invariant_of-self c =
    let v : LiveView = the_view c.self.inside in
    let d : DeskView = desk_in v in
    let t = c.args.ticket in
    let op = c.args.op in
    let r = c.in-Ok.reply in
    let k : TicketsView = c.called.new.self in
    let may = c.in_default.ensures d.opening d.tables in
    let fits : FitsSession v op = subst (λ (ps : List Part). IsOperationOf v.names (held ps) op) c.as_slice.ensures.value (c.is_operation-fits.ensures.0 may.0) in
    let ts : Tables = held c.perform.new.tables.parts.items in
    let e : DeskView = desk_over d.opening ts k in
    let one : Acted d e (Calls t op r) =
    called d e c.self.invariant.0.desk.ascending refl t op r (ap (λ (x : TicketsView). x.acts) c.called.ensures) c.in-Ok.ensures.done (ap (λ (x : TicketsView). x.next) c.called.ensures) (ap (λ (x : TicketsView). x.tickets) c.called.ensures)
    may.1 may.2 c.in-Ok.ensures.reply in
    let w : LiveView = with_history (record v { factors = factors_in c.perform.new.tables.parts.items }) v.names ts k c.drove-self-inside.result in
    let is : w ≡ acted v ts k = (λ i. with_history (record v { factors = c.perform.ensures.factors i }) v.names ts k (c.drove-self-inside.ensures i)) in
    let prints : AllByRecursion (IsPrintableTable v.names) ts = subst (AllByRecursion (IsPrintableTable v.names)) (sym c.in-Ok.ensures.done) (step_holds v.names v.tables op c.self.invariant.0.prints fits.key fits.value) in (
      subst IsLive (sym is) (acted_live v ts k c.self.invariant.0 prints (desk_on d e (Calls t op r) c.self.invariant.0.desk one.acted one.ascending)),
      kept_kinds v.file v.most_names c.self.inside.adds.items c.self.inside.tables.parts.items c.perform.new.tables.parts.items (vec_capacity c.self.inside.args.values) (vec_capacity c.self.inside.args.values) c.self.invariant.1 refl
          (ap (map kind_of) c.in-Ok.ensures.done ∙ kinds_step v.tables op ∙ c.self.invariant.1.kinds),
    )

pub returns-in-Ok : goal.returns-in-Ok
returns-in-Ok c =
    let v : LiveView = the_view c.self.inside in
    let d : DeskView = desk_in v in
    let t = c.args.ticket in
    let op = c.args.op in
    let r = c.in-Ok.reply in
    let k : TicketsView = c.called.new.self in
    let may = c.in_default.ensures d.opening d.tables in
    let fits : FitsSession v op = subst (λ (ps : List Part). IsOperationOf v.names (held ps) op) c.as_slice.ensures.value (c.is_operation-fits.ensures.0 may.0) in
    let ts : Tables = held c.perform.new.tables.parts.items in
    let e : DeskView = desk_over d.opening ts k in
    let one : Acted d e (Calls t op r) =
    called d e c.self.invariant.0.desk.ascending refl t op r (ap (λ (x : TicketsView). x.acts) c.called.ensures) c.in-Ok.ensures.done (ap (λ (x : TicketsView). x.next) c.called.ensures) (ap (λ (x : TicketsView). x.tickets) c.called.ensures)
    may.1 may.2 c.in-Ok.ensures.reply in
    let w : LiveView = with_history (record v { factors = factors_in c.perform.new.tables.parts.items }) v.names ts k c.drove-self-inside.result in
    let is : w ≡ acted v ts k = (λ i. with_history (record v { factors = c.perform.ensures.factors i }) v.names ts k (c.drove-self-inside.ensures i)) in
    let P : LiveView → Type 0 = λ x. CallAnswered x w t op (called_as.Done r) in
    let Q : LiveView → Type 0 = λ x. CallAnswered v x t op (called_as.Done r) in
    subst P c.self.view_is (subst Q (sym is) ((fits, one.acted), refl))

pub invariant_of-self-in-Err : goal.invariant_of-self-in-Err
invariant_of-self-in-Err c =
    let v : LiveView = the_view c.self.inside in
    let same : record v { tables = held c.perform.new.tables.parts.items; factors = factors_in c.perform.new.tables.parts.items } ≡ v = (λ i. record v { tables = c.in-Err.ensures.err i; factors = c.perform.ensures.factors i }) in (
      subst IsLive (sym same) c.self.invariant.0,
      kept_held v.file v.most_names c.self.inside.adds.items c.self.inside.tables.parts.items c.perform.new.tables.parts.items (vec_capacity c.self.inside.args.values) (vec_capacity c.self.inside.args.values) c.self.invariant.1 refl c.in-Err.ensures.err,
    )

pub returns-in-Err : goal.returns-in-Err
returns-in-Err c =
    let v : LiveView = the_view c.self.inside in
    let d : DeskView = desk_in v in
    let t = c.args.ticket in
    let op = c.args.op in
    let may = c.in_default.ensures d.opening d.tables in
    let fits : FitsSession v op = subst (λ (ps : List Part). IsOperationOf v.names (held ps) op) c.as_slice.ensures.value (c.is_operation-fits.ensures.0 may.0) in
    let same : record v { tables = held c.perform.new.tables.parts.items; factors = factors_in c.perform.new.tables.parts.items } ≡ v = (λ i. record v { tables = c.in-Err.ensures.err i; factors = c.perform.ensures.factors i }) in
    let D : Tables → DeskView = λ ts. desk_over d.opening ts v.tickets in
    let P : LiveView → Type 0 = λ x. CallAnswered x (record v { tables = held c.perform.new.tables.parts.items; factors = factors_in c.perform.new.tables.parts.items }) t op called_as.NoMemory in
    subst P c.self.view_is ((ap D c.in-Err.ensures.err, fits, may.1, may.2, c.in-Err.ensures.sure), same)
