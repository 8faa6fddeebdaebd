-- `invoked` makes the struct without fields, with the history that its clause names. Assumes `Logic`.
use Rattle.std.proofs.Common.{List, [], ◌∷◌, ◌++◌, refl}
use seplogic.Ra.Ura.{Ura}
use mir.Val.{Val, vptr}
use base.Logic.{SProp, ent}
use prog.Memory.{Memory}
use prog.Routine.{Routine}
use prog.Wp.{WpFn, Tables}
use contract.Monad.{Fun}
use contract.Running.{tables, tables_of}
use sound.WpLaws.{WpFn-mono}
use types.Logic.{Logic}
use types.Kit.{‵, raw, ◌⊛◌, prop, ◌$◌, ◌∵◌, !, qed, move, keep, drop, split, fsplit, fjoin, feq_l, regoal, suffices, done}
use types.Part.{agg}
use types.Run.{enter, returns, no_more}
use types.ByLocal.{alloc_all, pass_all, free_all, look_at, sets}
use denote.Exit.{yes}
use denote.RattleType.{owns}
use denote.Builtin.{RefOf}
use denote.Signature.{plain, types_at}
use denote.Steps.{nothing}
use denote.Triple.Clauses.{Clauses}
use denote.Triple.Entry.{alive}
use denote.Triple.Spec.{triple_of}
use denote.Triple.Table.{entered}
use denote.Triple.Walked.{says, Stays, stay_dropped, walk_of, ends_at, walk_Meets, Goes-dropped}
use denote.Builtin.{u32}
use Rattle.session_values.specs.contracts.names.Names as Names
use Rattle.session_values.specs.contracts.reply.Reply as Reply
use Rattle.declaration_insertion.specs.contracts.program.Program as Program
use Rattle.live_session.specs.Invoking.{line_of}
use Rattle.live_session.specs.contracts.arguments.Arguments as Arguments
use Rattle.live_session.specs.contracts.history.History as History
use Rattle.live_session.specs.contracts.history.History.invoked as F
use Rattle.live_session.specs.contracts.history.History.invoked.Key.{name as #self}
use Rattle.driven_tickets.proofs.EmptyStruct.{none, none_made}
use Rattle.live_session.proofs.history.History.invoked.Statement as stated
use Rattle.live_session.proofs.history.History.invoked.Code as code

abbrev stayed : Stays F.ended.signature.params F.ended.kept
stayed = (stay_dropped (RefOf (0 ∷ []) tt (plain (λ _. History.the_row)) (λ _. tt)) yes, (stay_dropped (RefOf (1 ∷ []) tt (plain (λ _. Program.the_row)) (λ _. tt)) yes, (stay_dropped (RefOf (2 ∷ []) tt (plain (λ _. Names.the_row)) (λ _. tt)) yes, (stay_dropped (RefOf (3 ∷ []) tt (plain (λ _. u32)) (λ _. tt)) yes, (stay_dropped (RefOf (4 ∷ []) tt (plain (λ _. Arguments.the_row)) (λ _. tt)) yes, (stay_dropped (RefOf (5 ∷ []) tt (plain (λ _. Reply.the_row)) (λ _. tt)) yes, tt))))))

module _ {M : Type 1} {𝓤 : Ura M} (𝓛 : Logic 𝓤) (at_mem : Memory → SProp 𝓤) (run : Routine → Fun 𝓤) (𝓣 : Tables 𝓤 𝓛.H) where
  open 𝓛 use {H}

  abbrev held : Clauses 𝓤 F.ended
  held = F.clauses 𝓛 at_mem run

  walk : (z : (walk_of 𝓛 F.ended stayed held).Ghost) → ent 𝓤 ((walk_of 𝓛 F.ended stayed held).pre z) (WpFn 𝓤 H 𝓣.C 𝓣.Λ code.function ((walk_of 𝓛 F.ended stayed held).args z) ((walk_of 𝓛 F.ended stayed held).post z))
  walk z =
      let a = z.0.3 in
      let vss = z.0.4 in
      let made : History.the_row.Denot = record { opened = a.0.now.opened; first_names = a.0.now.first_names; driven = a.0.now.driven; lines = a.0.now.lines ++ line_of a.1.1.0.now a.1.0.now.file a.1.1.1.0.now a.1.1.1.1.0.now.values.items ∷ []; replies = a.0.now.replies ++ a.1.1.1.1.1.0.now ∷ [] } in
      let p0 = vptr a.0.ref_ptr.0 a.0.ref_ptr.1 in
      let p1 = vptr a.1.0.ref_ptr.0 a.1.0.ref_ptr.1 in
      let p2 = vptr a.1.1.0.ref_ptr.0 a.1.1.0.ref_ptr.1 in
      let p3 = vptr a.1.1.1.0.ref_ptr.0 a.1.1.1.0.ref_ptr.1 in
      let p4 = vptr a.1.1.1.1.0.ref_ptr.0 a.1.1.1.1.0.ref_ptr.1 in
      let p5 = vptr a.1.1.1.1.1.0.ref_ptr.0 a.1.1.1.1.1.0.ref_ptr.1 in
      qed 𝓛 ((raw (alive 𝓛 F.ended.signature z.0.0 z.0.1) ⊛ ‵ (owns (types_at F.ended.signature.params z.0.0) a vss)) ∷ raw ((held z.0.0 a).requires z.1) ∷ []) ∵
      keep ! (0 ∷ []) $ split ! $ move ! (1 ∷ []) $
      fsplit ! $ fsplit ! $ feq_l ! (λ is0. drop ! $ fsplit ! $ fsplit ! $ feq_l ! (λ is1. drop ! $ fsplit ! $ fsplit ! $ feq_l ! (λ is2. drop ! $ fsplit ! $ fsplit ! $ feq_l ! (λ is3. drop ! $ fsplit ! $ fsplit ! $ feq_l ! (λ is4. drop ! $ fsplit ! $ fsplit ! $ feq_l ! (λ is5. drop ! $ drop ! $
      regoal ! (λ (us : List Val). prop (WpFn 𝓤 H 𝓣.C 𝓣.Λ code.function (us ++ (vss.1.0 ++ (vss.1.1.0 ++ (vss.1.1.1.0 ++ (vss.1.1.1.1.0 ++ (vss.1.1.1.1.1.0 ++ [])))))) ((walk_of 𝓛 F.ended stayed held).post z))) is0 refl $
      regoal ! (λ (us : List Val). prop (WpFn 𝓤 H 𝓣.C 𝓣.Λ code.function ((p0 ∷ []) ++ (us ++ (vss.1.1.0 ++ (vss.1.1.1.0 ++ (vss.1.1.1.1.0 ++ (vss.1.1.1.1.1.0 ++ [])))))) ((walk_of 𝓛 F.ended stayed held).post z))) is1 refl $
      regoal ! (λ (us : List Val). prop (WpFn 𝓤 H 𝓣.C 𝓣.Λ code.function ((p0 ∷ []) ++ ((p1 ∷ []) ++ (us ++ (vss.1.1.1.0 ++ (vss.1.1.1.1.0 ++ (vss.1.1.1.1.1.0 ++ [])))))) ((walk_of 𝓛 F.ended stayed held).post z))) is2 refl $
      regoal ! (λ (us : List Val). prop (WpFn 𝓤 H 𝓣.C 𝓣.Λ code.function ((p0 ∷ []) ++ ((p1 ∷ []) ++ ((p2 ∷ []) ++ (us ++ (vss.1.1.1.1.0 ++ (vss.1.1.1.1.1.0 ++ [])))))) ((walk_of 𝓛 F.ended stayed held).post z))) is3 refl $
      regoal ! (λ (us : List Val). prop (WpFn 𝓤 H 𝓣.C 𝓣.Λ code.function ((p0 ∷ []) ++ ((p1 ∷ []) ++ ((p2 ∷ []) ++ ((p3 ∷ []) ++ (us ++ (vss.1.1.1.1.1.0 ++ [])))))) ((walk_of 𝓛 F.ended stayed held).post z))) is4 refl $
      regoal ! (λ (us : List Val). prop (WpFn 𝓤 H 𝓣.C 𝓣.Λ code.function ((p0 ∷ []) ++ ((p1 ∷ []) ++ ((p2 ∷ []) ++ ((p3 ∷ []) ++ ((p4 ∷ []) ++ (us ++ [])))))) ((walk_of 𝓛 F.ended stayed held).post z))) is5 refl $
      enter ! 𝓣.C 𝓣.Λ code.function (p0 ∷ p1 ∷ p2 ∷ p3 ∷ p4 ∷ p5 ∷ []) _ $ alloc_all ! (λ l. pass_all ! refl ((tt, tt), ((tt, tt), ((tt, tt), ((tt, tt), ((tt, tt), ((tt, tt), tt)))))) $
      sets ! (agg ! (no_more !)) refl (tt, tt) $
      nothing ! $ none_made ! $ fjoin ! $
      returns ! (look_at ! 0 refl) $ free_all ! refl $
      suffices ! _ (ends_at 𝓛 F.ended stayed held z none made (tt, (tt, (tt, (tt, (tt, (tt, tt)))))) (tt, (tt, (tt, (tt, (tt, (tt, tt))))))) $ says ! refl $
      nothing ! $ nothing ! $ fjoin ! $ nothing ! $ fjoin ! $ nothing ! $ fjoin ! $ nothing ! $ fjoin ! $ nothing ! $ fjoin ! $ nothing ! $ fjoin ! $ move ! (2 ∷ 0 ∷ 1 ∷ []) $ done !)))))))

pub invoked_spec : {M : Type 1} → stated.statement M
unfolding tables_of
invoked_spec 𝓤 𝓛 𝓜 𝓡 wired =
    let 𝓣 : Tables 𝓤 𝓛.H = tables_of 𝓤 𝓛.H 𝓜 (tables 𝓤 𝓛.H 𝓜 𝓡 𝓡.env) in
    entered 𝓤 𝓛.H (triple_of 𝓛 F.signature (F.spec 𝓛 𝓜.mem 𝓡.returns)) 𝓣.C 𝓣.Λ #self code.function (code.unfolded 𝓤 𝓛.H 𝓜 𝓡 wired)
    (walk_Meets 𝓛 F.ended stayed (Goes-dropped 𝓛 6 (RefOf (0 ∷ []) tt (plain (λ _. History.the_row)) (λ _. tt)) yes (λ κs x f. refl), (Goes-dropped 𝓛 6 (RefOf (1 ∷ []) tt (plain (λ _. Program.the_row)) (λ _. tt)) yes (λ κs x f. refl), (Goes-dropped 𝓛 6 (RefOf (2 ∷ []) tt (plain (λ _. Names.the_row)) (λ _. tt)) yes (λ κs x f. refl), (Goes-dropped 𝓛 6 (RefOf (3 ∷ []) tt (plain (λ _. u32)) (λ _. tt)) yes (λ κs x f. refl), (Goes-dropped 𝓛 6 (RefOf (4 ∷ []) tt (plain (λ _. Arguments.the_row)) (λ _. tt)) yes (λ κs x f. refl), (Goes-dropped 𝓛 6 (RefOf (5 ∷ []) tt (plain (λ _. Reply.the_row)) (λ _. tt)) yes (λ κs x f. refl), tt)))))) (held 𝓛 𝓜.mem 𝓡.returns 𝓣) (WpFn 𝓤 𝓛.H 𝓣.C 𝓣.Λ code.function) (WpFn-mono 𝓤 𝓛.H 𝓛.laws 𝓣 code.function)
    (walk 𝓛 𝓜.mem 𝓡.returns 𝓣))
