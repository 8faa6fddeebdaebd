-- `into_box` hands what the handle owns to `from_raw`.
use mathlib.Core.Path.{◌≡◌, refl, sym, subst, ap, ◌∙◌}
use mathlib.Core.Bool.{true, false≢true}
use mathlib.Core.List.{List, [], ◌∷◌, ◌++◌}
use Rattle.std.specs.Prelude.{Option, Some, None}
use lib.Dec.{T}
use seplogic.Ra.Ura.{Ura}
use mir.Syntax.{Args, Body, a_type, dcons, dnil, place, copy, assign, rv_opd, seq, return}
use mir.Raw.{raw as bare}
use mir.Val.{Val, vstruct, vptr, vcons, vnil, of_list, has_ty, WT}
use base.Fraction.{full_share}
use base.Logic.{SProp, ent, id⊢, never, fst∗, emp}
use base.Fml.{Lft, ftrue, fsep, flft}
use contract.BorrowLft.{◌⊑◌, ⊑_static}
use prog.Memory.{Memory}
use prog.Routine.{Routine}
use prog.Wp.{WpFn, Tables}
use types.Logic.{Logic, sem}
use contract.Monad.{Fun, fact, fact_i}
use contract.Running.{tables, tables_of}
use sound.WpLaws.{fm_of, WpFn-mono}
use types.Kit.{Item, ‵, raw, ◌⊛◌, some, later, prop, at_ret, ◌$◌, ◌∵◌, !, qed, by, move, keep, drop, use0, use1, join, split, split3, pick, rewrite, regoal, fsplit, fjoin, fpick, feq_l, feq_i, suffices, await, done}
use types.Part.{whole, sub}
use types.Run.{stop, fld, no_more, and_then, of_opd, returns, enter, first, blocks, exec}
use types.Tokens.{lft_new}
use types.ByLocal.{alloc_all, pass_all, free_all, look_at, get, get_in, sets, lands_last, env}
use denote.Exit.{yes}
use denote.Param.{bounded}
use denote.RawPtr.{Ptr, block_ptr, null_ptr, ptr_val, in_a_block}
use denote.Signature.{plain}
use denote.Steps.{heard, nothing, only}
use denote.Triple.Call.{calls_at_last}
use denote.Triple.Clauses.{Clauses}
use denote.Triple.Spec.{triple_of}
use denote.Triple.Statement.{Triple, Contract}
use denote.Triple.Table.{entered}
use denote.Triple.Walked.{says, Stays, stay_dropped, walk_of, ends_at, walk_Meets}
use Rattle.core.proofs.alloc.Calls.{token, handle_tells, Fits, Goes-blank}
use Rattle.std_alloc.specs.Box.Ownership.{box_owns}
use Rattle.std_alloc.proofs.BoxSteps.Form.{D, τ, B, handle, box_ty, box_typed}
use Rattle.std_alloc.proofs.BoxSteps.Steps.{box_out, box_in}
use Rattle.foresight_c.specs.declared.desk.Desk.{Desk}
use Rattle.foresight_c.specs.contracts.desk.Desk as desk
use Rattle.std.specs.contracts.alloc.Global as global
use Rattle.foresight_c.specs.Held as owned
use Rattle.foresight_c.proofs.BoxedDesk.{C, E}
use Rattle.std.proofs.impls.GlobalAllocator.TheImpl.Met as heap_met
use denote.Param.NoDrop.{glues as no_drop_glues}
use Rattle.foresight_c.specs.contracts.handle.Held as held_type
use Rattle.std_alloc.specs.contracts.boxed.Box.from_raw as Fr
use Rattle.std_alloc.proofs.boxed.Box.from_raw.Symbol as raw_sym
use Rattle.std_alloc.proofs.boxed.Box.from_raw.Met as raw_met
use Rattle.foresight_c.specs.contracts.handle.Held.into_box as F
use Rattle.foresight_c.specs.contracts.handle.Held.into_box.Key.{name as #self}
use Rattle.foresight_c.proofs.handle.Held.into_box.Statement as stated
use Rattle.foresight_c.proofs.handle.Held.into_box.Code as code

abbrev args : Args
args = bounded (a_type ∷ a_type ∷ []) (C.row, (C.al.row, tt)) (dcons C.al.d (dcons C.al.drops dnil))

abbrev rest : Body
rest = seq (assign (place 0 []) (rv_opd (copy (place 4 [])))) return

abbrev stayed : Stays F.ended.signature.params F.ended.kept
stayed = (stay_dropped (plain (λ _. held_type.the_row)) yes, (stay_dropped (plain (λ _. global.the_row)) yes, tt))

abbrev word_at : Ptr → Val
word_at p = vstruct (vcons (only (ptr_val p ∷ [])) vnil)

module _ {M : Type 1} {𝓤 : Ura M} (𝓛 : Logic 𝓤) (at_mem : Memory → SProp 𝓤) (run : Routine → Fun 𝓤) (𝓣 : Tables 𝓤 𝓛.H) where
  open 𝓛 use {H}

  abbrev clauses : Clauses 𝓤 F.ended
  clauses = F.clauses 𝓛 at_mem run

  abbrev Shuts : Contract 𝓤
  Shuts = triple_of 𝓛 (Fr.signature C.row C.al.row C.al.g C.al.d C.al.drops) (Fr.spec C.row C.al.row C.al.g C.al.d C.al.drops 𝓛 at_mem run)

  abbrev Ghost : Type 0
  Ghost = (walk_of 𝓛 F.ended stayed clauses).Ghost

  goes : Triple 𝓤 (𝓣.C (raw_sym.name args)) Shuts → (z : (walk_of 𝓛 F.ended stayed clauses).Ghost) (hv : Val) → Fits E.al hv → (x : Option Desk) → z.0.3.0.value ≡ x → owned.is_live x ≡ true
      → ent 𝓤 (types.Kit.⋆ 𝓛 (‵ (owned.held z.0.3.0.at x) ∷ ‵ (handle E z.0.3.1.0 hv) ∷ []))
      (WpFn 𝓤 H 𝓣.C 𝓣.Λ code.function (word_at z.0.3.0.at ∷ hv ∷ []) ((walk_of 𝓛 F.ended stayed clauses).post z))
  goes kn z hv fa None eq live = absurd (false≢true live)
  goes kn z hv fa (Some x) eq live =
      let Post = (walk_of 𝓛 F.ended stayed clauses).post z in let a = z.0.3.1.0 in
      qed 𝓛 (‵ (box_owns (token E.al a) desk.the_row z.0.3.0.at x) ∷ ‵ (handle E a hv) ∷ []) ∵
      in_a_block ! z.0.3.0.at (λ p. box_owns (token E.al a) desk.the_row p x) (fst∗ 𝓤 (never 𝓤) (sem 𝓛 (token E.al a (bare (τ E)) null_ptr))) (λ b o e.
      regoal ! (λ (p : Ptr). prop (WpFn 𝓤 H 𝓣.C 𝓣.Λ code.function (word_at p ∷ hv ∷ []) Post)) e refl $
      enter ! 𝓣.C 𝓣.Λ code.function (word_at (block_ptr b o) ∷ hv ∷ []) _ $ alloc_all ! (λ ls. pass_all ! refl ((tt, (tt, tt)), (fa, tt)) $
      sets ! (of_opd ! (get_in ! (fld ! refl (stop !)) (sub ! 0 refl (whole !)))) refl (tt, tt) $
      first ! $ blocks ! $ sets ! (of_opd ! (get ! refl)) refl (tt, tt) $
      lft_new ! tt (λ β. lft_new ! tt (λ α.
      let A : Lft = α ∷ [] in let Z : Lft = β ∷ [] in
      let ts : Item 𝓤 = ‵ (flft A full_share) ⊛ ‵ (flft Z full_share) ⊛ ‵ ftrue in
      let y : Shuts.Ghost = (((A, (Z, tt)), (full_share, (full_share, tt)), tt, (a, (block_ptr b o, tt)), (hv ∷ [], (vptr b o ∷ [], tt))), x) in
      nothing ! $ move ! (2 ∷ 0 ∷ []) $ join ! $ move ! (1 ∷ 0 ∷ []) $ join ! $
      nothing ! $ feq_i ! (List Val) (vptr b o ∷ []) (vptr b o ∷ []) refl $ fjoin ! $ move ! (3 ∷ 0 ∷ []) $ fjoin ! $ move ! (1 ∷ 0 ∷ []) $ join ! $
      use0 𝓛 (raw (fact 𝓤 (Z ⊑ E.al.row.lives))) (fact_i 𝓤 (Z ⊑ E.al.row.lives) (emp 𝓤) (⊑_static Z)) $ move ! (0 ∷ 2 ∷ []) $ join ! $
      use0 𝓛 (raw (fact 𝓤 (A ⊑ E.row.lives))) (fact_i 𝓤 (A ⊑ E.row.lives) (emp 𝓤) (⊑_static A)) $ join ! $ move ! (1 ∷ 0 ∷ []) $ join ! $
      use1 𝓛 (raw (Shuts.pre y)) (id⊢ 𝓤 _) $
      calls_at_last ! (fm_of 𝓤 H 𝓛.laws 𝓣) Shuts kn y (and_then ! (get ! refl) (and_then ! (get ! refl) (no_more !))) (λ u.
      use1 𝓛 (later (some (λ (r : D C). (ts ⊛ ‵ ((B C).own_val r (u ∷ []))) ⊛ some (λ (_ : Unit {0} × (Unit {0} × Unit {0})). ‵ (fsep ftrue (fsep ftrue ftrue)) ⊛ (raw (fact 𝓤 (r.value ≡ x)) ⊛ raw (fact 𝓤 (r.alloc ≡ a))))))) (id⊢ 𝓤 _) $
      await ! tt $ pick ! (λ r. split ! $ move ! (1 ∷ []) $ pick ! (λ _. split3 ! $ drop ! $ heard ! (r.value ≡ x) (λ same. drop ! $ split ! $ drop ! $
      box_out E ! r (u ∷ []) (λ b' o' hw e' wu fw. box_in E ! r b' o' r.value e' refl $ rewrite ! 0 (λ (us : List Val). ‵ ((B E).own_val r us)) (sym wu) refl $
      let typed : T (has_ty (box_ty E) u) × WT u = subst (λ (s : Val). T (has_ty (box_ty E) s) × WT s) (sym (ap only wu)) (box_typed E hw b' o' fw) in
      lands_last ! refl typed $ exec ! 𝓣.C 𝓣.Λ (env code.function.locals ls) rest (at_ret (env code.function.locals ls) Post) $
      sets ! (of_opd ! (get ! refl)) refl typed $ returns ! (look_at ! 0 refl) $ free_all ! refl $ keep ! (0 ∷ []) $
      suffices ! _ (ends_at 𝓛 F.ended stayed clauses z u r (tt, (tt, tt)) (tt, (tt, tt))) $ says ! (ap Some same ∙ sym eq) $
      nothing ! $ nothing ! $ nothing ! $ fjoin ! $ move ! (1 ∷ 0 ∷ []) $ fjoin ! $ join ! $ nothing ! $ join ! $ done !)))))))))

  walk : Triple 𝓤 (𝓣.C (raw_sym.name args)) Shuts → (z : (walk_of 𝓛 F.ended stayed clauses).Ghost)
      → ent 𝓤 ((walk_of 𝓛 F.ended stayed clauses).pre z) (WpFn 𝓤 H 𝓣.C 𝓣.Λ code.function (z.0.4.0 ++ (z.0.4.1.0 ++ [])) ((walk_of 𝓛 F.ended stayed clauses).post z))
  walk kn z =
      let Post = (walk_of 𝓛 F.ended stayed clauses).post z in let h = z.0.3.0 in let a = z.0.3.1.0 in
      qed 𝓛 ((‵ ftrue ⊛ ‵ (fsep (held_type.the_row.own_val h z.0.4.0) (fsep (E.al.row.own_val a z.0.4.1.0) ftrue))) ∷ raw (fact 𝓤 (owned.is_live h.value ≡ true)) ∷ []) ∵
      split ! $ drop ! $ fsplit ! $ fsplit ! $ fpick ! (λ vss. fsplit ! $ feq_l ! (λ ev. fsplit ! $ feq_l ! (λ ep. drop ! $
      move ! (1 ∷ []) $ fsplit ! $ handle_tells E.al ! a z.0.4.1.0 (λ hv ea fa. move ! (3 ∷ []) $ heard ! (owned.is_live h.value ≡ true) (λ live. keep ! (2 ∷ 0 ∷ []) $
      let Γ : List (Item 𝓤) = ‵ (owned.held h.at h.value) ∷ ‵ (handle E a hv) ∷ [] in
      let ws : z.0.4.0 ≡ word_at h.at ∷ [] = subst (λ (ps : List Val). z.0.4.0 ≡ vstruct (of_list (ps ++ [])) ∷ []) ep ev in
      by ! (subst (λ (us : List Val). ent 𝓤 (types.Kit.⋆ 𝓛 Γ) (WpFn 𝓤 H 𝓣.C 𝓣.Λ code.function (us ++ (z.0.4.1.0 ++ [])) Post)) (sym ws)
      (subst (λ (us : List Val). ent 𝓤 (types.Kit.⋆ 𝓛 Γ) (WpFn 𝓤 H 𝓣.C 𝓣.Λ code.function (word_at h.at ∷ (us ++ [])) Post)) (sym ea) (goes kn z hv fa h.value refl live))))))))

pub into_box_spec : {M : Type 1} → stated.statement M
unfolding tables_of Rattle.foresight_c.proofs.Destruct++none.drop.Code.code
into_box_spec {M} 𝓤 𝓛 𝓜 𝓡 wired =
    let 𝓣 : Tables 𝓤 𝓛.H = tables_of 𝓤 𝓛.H 𝓜 (tables 𝓤 𝓛.H 𝓜 𝓡 𝓡.env) in
    entered 𝓤 𝓛.H (triple_of 𝓛 F.signature (F.spec 𝓛 𝓜.mem 𝓡.returns)) 𝓣.C 𝓣.Λ #self code.function (code.unfolded 𝓤 𝓛.H 𝓜 𝓡 wired)
    (walk_Meets 𝓛 F.ended stayed (Goes-blank 𝓛 0 (plain (λ _. held_type.the_row)) yes (λ κs x f. tt), (Goes-blank 𝓛 0 (plain (λ _. global.the_row)) yes (λ κs x f. tt), tt))
    (clauses 𝓛 𝓜.mem 𝓡.returns 𝓣) (WpFn 𝓤 𝓛.H 𝓣.C 𝓣.Λ code.function) (WpFn-mono 𝓤 𝓛.H 𝓛.laws 𝓣 code.function)
    (walk 𝓛 𝓜.mem 𝓡.returns 𝓣 (raw_met.met 𝓤 𝓛 𝓜 𝓡 (code.calls-std_alloc::boxed::Box::from_raw 𝓡.env wired) C.row C.al.row C.laws C.al.laws C.al.g C.al.d C.al.drops
    (heap_met.passed 𝓡.env (code.calls-std_heap::GlobalAllocator::allocate 𝓡.env wired) (code.calls-std_heap::GlobalAllocator::deallocate 𝓡.env wired) (code.calls-std_heap::GlobalAllocator::grow 𝓡.env wired) (code.calls-std_heap::GlobalAllocator::shrink 𝓡.env wired) M 𝓤 𝓛 𝓜 𝓡)
    (no_drop_glues "foresight_c::Destruct++none::drop" 𝓡.env (code.calls-foresight_c::Destruct++none::drop 𝓡.env wired) C.al.row C.al.laws M 𝓤 𝓛 𝓜 𝓡))))
