-- `of` hands the box to `into_raw`, and the handle owns what it owned.
use mathlib.Core.Path.{refl, sym, subst, ap, ◌∙◌}
use mathlib.Core.List.{List, [], ◌∷◌, ◌++◌}
use Rattle.std.specs.Prelude.{Some}
use seplogic.Ra.Ura.{Ura}
use mir.Syntax.{Args, Dict, a_type, dcons, dnil, tnil, impl}
use mir.Raw.{raw as bare}
use mir.Val.{Val, vstruct, vptr, vcons, vnil}
use base.Fraction.{full_share}
use base.Logic.{SProp, ent, id⊢, never, fst∗, emp}
use base.Fml.{Lft, ftrue, fsep, flft}
use contract.BorrowLft.{◌⊑◌, ⊑_static}
use prog.Memory.{Memory}
use prog.Routine.{Routine}
use prog.Wp.{WpFn, Tables}
use types.Logic.{Logic, sem}
use contract.Monad.{Fun, fact, fact_i}
use contract.Running.{tables, tables_of}
use sound.WpLaws.{fm_of, WpFn-mono}
use types.Kit.{Item, ‵, raw, ◌⊛◌, some, later, ◌$◌, ◌∵◌, !, qed, by, move, keep, drop, use0, use1, join, split, split3, pick, rewrite, fsplit, fjoin, fpick, fpack, feq_l, feq_i, suffices, await, done}
use types.Part.{agg}
use types.Run.{no_more, and_then, of_opd, returns, enter}
use types.Tokens.{lft_new}
use types.ByLocal.{alloc_all, pass_all, free_all, look_at, get, sets, lands_as}
use denote.RattleType.{Valss}
use denote.Exit.{yes}
use denote.Param.{bounded}
use denote.RawPtr.{Ptr, RawPtr, block_ptr, null_ptr, ptr_val, in_a_block}
use denote.Signature.{plain}
use denote.Steps.{nothing, only}
use denote.Struct.Struct.{within}
use denote.Struct.Owning.{shape}
use denote.Triple.Call.{calls_at}
use denote.Triple.Clauses.{Clauses}
use denote.Triple.Spec.{triple_of}
use denote.Triple.Statement.{Triple, Contract}
use denote.Triple.Table.{entered}
use denote.Triple.Walked.{says, Stays, stay_dropped, walk_of, ends_at, walk_Meets}
use Rattle.core.proofs.alloc.Calls.{token, Goes-blank}
use Rattle.std_alloc.specs.Box.Ownership.{box_owns}
use Rattle.std_alloc.proofs.BoxSteps.Form.{τ, R, B, word, box_typed}
use Rattle.std_alloc.proofs.BoxSteps.Steps.{box_out, box_in}
use Rattle.foresight_c.proofs.BoxedDesk.{C, E, boxed}
use Rattle.foresight_c.proofs.DeskDrops.{drops}
use Rattle.std.proofs.impls.GlobalAllocator.TheImpl.Met as heap_met
use denote.Param.NoDrop.{glues as no_drop_glues}
use Rattle.foresight_c.specs.contracts.handle.Held as handle
use Rattle.std_alloc.specs.contracts.boxed.Box.into_raw as Ra
use Rattle.std_alloc.proofs.boxed.Box.into_raw.Symbol as raw_sym
use Rattle.std_alloc.proofs.boxed.Box.into_raw.Met as raw_met
use Rattle.foresight_c.specs.contracts.handle.Held.of as F
use Rattle.foresight_c.specs.contracts.handle.Held.of.Key.{name as #self}
use Rattle.foresight_c.proofs.handle.Held.of.Statement as stated
use Rattle.foresight_c.proofs.handle.Held.of.Code as code

abbrev dx : Dict
dx = impl ("foresight_c::foresight_c++desk++Desk+Destruct::drop" ∷ []) tnil dnil

abbrev args : Args
args = bounded (a_type ∷ a_type ∷ []) (C.row, (C.al.row, tt)) (dcons C.al.d (dcons C.al.drops (dcons dx dnil)))

abbrev stayed : Stays F.ended.signature.params F.ended.kept
stayed = (stay_dropped (plain (λ _. boxed)) yes, tt)

module _ {M : Type 1} {𝓤 : Ura M} (𝓛 : Logic 𝓤) (at_mem : Memory → SProp 𝓤) (run : Routine → Fun 𝓤) (𝓣 : Tables 𝓤 𝓛.H) where
  open 𝓛 use {H}

  abbrev held : Clauses 𝓤 F.ended
  held = F.clauses 𝓛 at_mem run

  abbrev Opens : Contract 𝓤
  Opens = triple_of 𝓛 (Ra.signature C.row C.al.row C.al.g C.al.d C.al.drops dx) (Ra.spec C.row C.al.row C.al.g C.al.d C.al.drops dx 𝓛 at_mem run)

  walk : Triple 𝓤 (𝓣.C (raw_sym.name args)) Opens → (z : (walk_of 𝓛 F.ended stayed held).Ghost) → ent 𝓤 ((walk_of 𝓛 F.ended stayed held).pre z) (WpFn 𝓤 H 𝓣.C 𝓣.Λ code.function (z.0.4.0 ++ []) ((walk_of 𝓛 F.ended stayed held).post z))
  walk kn z =
      let v = z.0.3.0 in let a = v.alloc in let Post = (walk_of 𝓛 F.ended stayed held).post z in
      qed 𝓛 ((‵ ftrue ⊛ ‵ (fsep ((B E).own_val v z.0.4.0) ftrue)) ∷ ‵ ftrue ∷ []) ∵ split ! $ drop ! $ fsplit ! $
      box_out E ! v z.0.4.0 (λ b o hv e ws fa. box_in E ! v b o v.value e refl $
      let w = word E hv b o in
      let Γ : List (Item 𝓤) = ‵ ((B E).own_val v (w ∷ [])) ∷ ‵ ftrue ∷ ‵ ftrue ∷ [] in
      by ! (subst (λ (us : List Val). ent 𝓤 (types.Kit.⋆ 𝓛 Γ) (WpFn 𝓤 H 𝓣.C 𝓣.Λ code.function (us ++ []) Post)) (sym ws)
      (qed 𝓛 Γ ∵ enter ! 𝓣.C 𝓣.Λ code.function (w ∷ []) _ $ alloc_all ! (λ ls. pass_all ! refl (box_typed E hv b o fa, tt) $ sets ! (of_opd ! (get ! refl)) refl (box_typed E hv b o fa) $
      lft_new ! tt (λ β. lft_new ! tt (λ α.
      let A : Lft = α ∷ [] in let Z : Lft = β ∷ [] in
      let ts : Item 𝓤 = ‵ (flft A full_share) ⊛ ‵ (flft Z full_share) ⊛ ‵ ftrue in
      let y : Opens.Ghost = (((A, (Z, tt)), (full_share, (full_share, tt)), tt, (v, tt), (w ∷ [], tt)), tt) in
      nothing ! $ move ! (2 ∷ 0 ∷ []) $ join ! $ move ! (1 ∷ 0 ∷ []) $ join ! $
      move ! (1 ∷ 2 ∷ 0 ∷ []) $ fjoin ! $ move ! (1 ∷ 0 ∷ []) $ join ! $
      use0 𝓛 (raw (fact 𝓤 (Z ⊑ E.al.row.lives))) (fact_i 𝓤 (Z ⊑ E.al.row.lives) (emp 𝓤) (⊑_static Z)) $ move ! (0 ∷ 2 ∷ []) $ join ! $
      use0 𝓛 (raw (fact 𝓤 (A ⊑ E.row.lives))) (fact_i 𝓤 (A ⊑ E.row.lives) (emp 𝓤) (⊑_static A)) $ join ! $ move ! (1 ∷ 0 ∷ []) $ join ! $
      use1 𝓛 (raw (Opens.pre y)) (id⊢ 𝓤 _) $
      calls_at ! (fm_of 𝓤 H 𝓛.laws 𝓣) Opens kn y (and_then ! (get ! refl) (no_more !)) (λ u.
      use1 𝓛 (later (some (λ (r : Ptr). (ts ⊛ ‵ (RawPtr.own_val r (u ∷ []))) ⊛ some (λ (_ : (Unit {0} × (Unit {0} × Unit {0})) × Unit {0}). ‵ (fsep (fsep ftrue (fsep ftrue ftrue)) ftrue) ⊛ ‵ (box_owns (token C.al a) (R C) r v.value))))) (id⊢ 𝓤 _) $
      await ! tt $ pick ! (λ r. split ! $ split ! $ drop ! $ feq_l ! (λ is_ptr. pick ! (λ _. split ! $ drop ! $
      in_a_block ! r (λ p. box_owns (token C.al a) (R C) p v.value) (fst∗ 𝓤 (never 𝓤) (sem 𝓛 (token C.al a (bare (τ C)) null_ptr))) (λ b' o' e'.
      let w' : Val = vstruct (vcons (vptr b' o') vnil) in
      let made : handle.the_row.Denot = record { at = block_ptr b' o'; value = Some v.value } in
      lands_as ! (ap only (is_ptr ∙ ap (λ (p : Ptr). ptr_val p ∷ []) e')) refl (tt, tt) $
      sets ! (of_opd ! (get ! refl)) refl (tt, tt) $
      sets ! (agg ! (and_then ! (get ! refl) (no_more !))) refl (tt, (tt, tt)) $
      returns ! (look_at ! 0 refl) $ free_all ! refl $ keep ! (0 ∷ []) $
      nothing ! $
      feq_i ! (List Val) (vptr b' o' ∷ []) (vptr b' o' ∷ []) refl $ fjoin ! $ feq_i ! (List Val) (w' ∷ []) (w' ∷ []) refl $ fjoin ! $
      fpack ! (Valss (RawPtr ∷ [])) (within (shape handle.the_type) (block_ptr b' o', tt) (w' ∷ [])) (vptr b' o' ∷ [], tt) $ fjoin ! $
      use1 𝓛 (‵ (handle.the_row.own_val made (w' ∷ []))) (id⊢ 𝓤 _) $
      suffices ! _ (ends_at 𝓛 F.ended stayed held z w' made (tt, tt) (tt, tt)) $ says ! refl $
      nothing ! $ nothing ! $ fjoin ! $ join ! $ nothing ! $ join ! $ done !)))))))))))

pub of_spec : {M : Type 1} → stated.statement M
unfolding tables_of Rattle.foresight_c.proofs.Destruct++none.drop.Code.code
of_spec {M} 𝓤 𝓛 𝓜 𝓡 wired =
    let 𝓣 : Tables 𝓤 𝓛.H = tables_of 𝓤 𝓛.H 𝓜 (tables 𝓤 𝓛.H 𝓜 𝓡 𝓡.env) in
    entered 𝓤 𝓛.H (triple_of 𝓛 F.signature (F.spec 𝓛 𝓜.mem 𝓡.returns)) 𝓣.C 𝓣.Λ #self code.function (code.unfolded 𝓤 𝓛.H 𝓜 𝓡 wired)
    (walk_Meets 𝓛 F.ended stayed (Goes-blank 𝓛 0 (plain (λ _. boxed)) yes (λ κs x f. tt), tt) (held 𝓛 𝓜.mem 𝓡.returns 𝓣) (WpFn 𝓤 𝓛.H 𝓣.C 𝓣.Λ code.function) (WpFn-mono 𝓤 𝓛.H 𝓛.laws 𝓣 code.function)
    (walk 𝓛 𝓜.mem 𝓡.returns 𝓣 (raw_met.met 𝓤 𝓛 𝓜 𝓡 (code.calls-std_alloc::boxed::Box::into_raw 𝓡.env wired) C.row C.al.row C.laws C.al.laws C.al.g C.al.d C.al.drops dx
    (heap_met.passed 𝓡.env (code.calls-std_heap::GlobalAllocator::allocate 𝓡.env wired) (code.calls-std_heap::GlobalAllocator::deallocate 𝓡.env wired) (code.calls-std_heap::GlobalAllocator::grow 𝓡.env wired) (code.calls-std_heap::GlobalAllocator::shrink 𝓡.env wired) M 𝓤 𝓛 𝓜 𝓡)
    (no_drop_glues "foresight_c::Destruct++none::drop" 𝓡.env (code.calls-foresight_c::Destruct++none::drop 𝓡.env wired) C.al.row C.al.laws M 𝓤 𝓛 𝓜 𝓡)
    (drops 𝓤 𝓛 𝓜 𝓡 (code.calls-foresight_c::foresight_c++desk++Desk+Destruct::drop 𝓡.env wired)))))
