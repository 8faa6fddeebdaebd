-- `renewed` makes the struct without fields, with the history that its clause names. Assumes `Logic`.
use Rattle.std.proofs.Common.{List, [], ◌∷◌, ◌++◌, map, refl}
use seplogic.Ra.Ura.{Ura}
use mir.Val.{Val, vptr}
use base.Logic.{SProp, ent}
use prog.Memory.{Memory}
use prog.Routine.{Routine}
use prog.Wp.{WpFn, Tables}
use contract.Monad.{Fun}
use contract.Running.{tables, tables_of}
use sound.WpLaws.{WpFn-mono}
use types.Logic.{Logic}
use types.Kit.{‵, raw, ◌⊛◌, prop, ◌$◌, ◌∵◌, !, qed, move, keep, drop, split, fsplit, fjoin, feq_l, regoal, suffices, done}
use types.Part.{agg}
use types.Run.{enter, returns, no_more}
use types.ByLocal.{alloc_all, pass_all, free_all, look_at, sets}
use denote.Exit.{yes}
use denote.RattleType.{owns}
use denote.Builtin.{RefOf}
use denote.Signature.{plain, types_at}
use denote.Steps.{nothing}
use denote.Triple.Clauses.{Clauses}
use denote.Triple.Entry.{alive}
use denote.Triple.Spec.{triple_of}
use denote.Triple.Table.{entered}
use denote.Triple.Walked.{says, Stays, stay_dropped, walk_of, ends_at, walk_Meets, Goes-dropped}
use Rattle.live_session.specs.Held.{lists_in}
use Rattle.live_session.specs.Moving.{moved_entries, place_in}
use Rattle.live_session.specs.contracts.history.History as History
use Rattle.live_session.specs.contracts.history.History.renewed as F
use Rattle.live_session.specs.contracts.history.History.renewed.Key.{name as #self}
use Rattle.live_session.specs.contracts.renewing.Kept as Kept
use Rattle.live_session.specs.contracts.tables.LiveTables as LiveTables
use Rattle.driven_tickets.proofs.EmptyStruct.{none, none_made}
use Rattle.live_session.proofs.history.History.renewed.Statement as stated
use Rattle.live_session.proofs.history.History.renewed.Code as code

abbrev stayed : Stays F.ended.signature.params F.ended.kept
stayed = (stay_dropped (RefOf (0 ∷ []) tt (plain (λ _. Kept.the_row)) (λ _. tt)) yes, (stay_dropped (RefOf (1 ∷ []) tt (plain (λ _. LiveTables.the_row)) (λ _. tt)) yes, tt))

module _ {M : Type 1} {𝓤 : Ura M} (𝓛 : Logic 𝓤) (at_mem : Memory → SProp 𝓤) (run : Routine → Fun 𝓤) (𝓣 : Tables 𝓤 𝓛.H) where
  open 𝓛 use {H}

  abbrev held : Clauses 𝓤 F.ended
  held = F.clauses 𝓛 at_mem run

  walk : (z : (walk_of 𝓛 F.ended stayed held).Ghost) → ent 𝓤 ((walk_of 𝓛 F.ended stayed held).pre z) (WpFn 𝓤 H 𝓣.C 𝓣.Λ code.function ((walk_of 𝓛 F.ended stayed held).args z) ((walk_of 𝓛 F.ended stayed held).post z))
  walk z =
      let a = z.0.3 in
      let vss = z.0.4 in
      let made : History.the_row.Denot = record { opened = map (moved_entries (place_in a.0.now.places.items)) (lists_in a.1.0.now.parts.items); first_names = a.0.now.names; driven = 0; lines = []; replies = [] } in
      let p0 = vptr a.0.ref_ptr.0 a.0.ref_ptr.1 in
      let p1 = vptr a.1.0.ref_ptr.0 a.1.0.ref_ptr.1 in
      qed 𝓛 ((raw (alive 𝓛 F.ended.signature z.0.0 z.0.1) ⊛ ‵ (owns (types_at F.ended.signature.params z.0.0) a vss)) ∷ raw ((held z.0.0 a).requires z.1) ∷ []) ∵
      keep ! (0 ∷ []) $ split ! $ move ! (1 ∷ []) $
      fsplit ! $ fsplit ! $ feq_l ! (λ is0. drop ! $ fsplit ! $ fsplit ! $ feq_l ! (λ is1. drop ! $ drop ! $
      regoal ! (λ (us : List Val). prop (WpFn 𝓤 H 𝓣.C 𝓣.Λ code.function (us ++ (vss.1.0 ++ [])) ((walk_of 𝓛 F.ended stayed held).post z))) is0 refl $
      regoal ! (λ (us : List Val). prop (WpFn 𝓤 H 𝓣.C 𝓣.Λ code.function ((p0 ∷ []) ++ (us ++ [])) ((walk_of 𝓛 F.ended stayed held).post z))) is1 refl $
      enter ! 𝓣.C 𝓣.Λ code.function (p0 ∷ p1 ∷ []) _ $ alloc_all ! (λ l. pass_all ! refl ((tt, tt), ((tt, tt), tt)) $
      sets ! (agg ! (no_more !)) refl (tt, tt) $
      nothing ! $ none_made ! $ fjoin ! $
      returns ! (look_at ! 0 refl) $ free_all ! refl $
      suffices ! _ (ends_at 𝓛 F.ended stayed held z none made (tt, (tt, tt)) (tt, (tt, tt))) $ says ! refl $
      nothing ! $ nothing ! $ fjoin ! $ nothing ! $ fjoin ! $ move ! (2 ∷ 0 ∷ 1 ∷ []) $ done !)))

pub renewed_spec : {M : Type 1} → stated.statement M
unfolding tables_of
renewed_spec 𝓤 𝓛 𝓜 𝓡 wired =
    let 𝓣 : Tables 𝓤 𝓛.H = tables_of 𝓤 𝓛.H 𝓜 (tables 𝓤 𝓛.H 𝓜 𝓡 𝓡.env) in
    entered 𝓤 𝓛.H (triple_of 𝓛 F.signature (F.spec 𝓛 𝓜.mem 𝓡.returns)) 𝓣.C 𝓣.Λ #self code.function (code.unfolded 𝓤 𝓛.H 𝓜 𝓡 wired)
    (walk_Meets 𝓛 F.ended stayed (Goes-dropped 𝓛 2 (RefOf (0 ∷ []) tt (plain (λ _. Kept.the_row)) (λ _. tt)) yes (λ κs x f. refl), (Goes-dropped 𝓛 2 (RefOf (1 ∷ []) tt (plain (λ _. LiveTables.the_row)) (λ _. tt)) yes (λ κs x f. refl), tt)) (held 𝓛 𝓜.mem 𝓡.returns 𝓣) (WpFn 𝓤 𝓛.H 𝓣.C 𝓣.Λ code.function) (WpFn-mono 𝓤 𝓛.H 𝓛.laws 𝓣 code.function)
    (walk 𝓛 𝓜.mem 𝓡.returns 𝓣))
