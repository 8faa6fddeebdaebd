-- The desk's own drop, as the one method of a dictionary that a call is given.
use mathlib.Core.Path.{refl}
use mathlib.Core.List.{List, [], ◌∷◌}
use seplogic.Ra.Ura.{Ura}
use mir.Syntax.{Dict, impl, method, tnil, dnil}
use prog.Model.{Model}
use prog.Wired.{Wired}
use contract.Running.{Running}
use types.Logic.{Logic}
use borrow.Fn.Glue.{glue_by}
use borrow.Fn.Impl.{via_longer, method_Known}
use borrow.Fn.Kinds.{ParamKind, ResultKind, ended_of, stays, r_unit}
use borrow.Fn.Run.{Over}
use borrow.Kind.Owned.{p_owned}
use denote.Exit.{no}
use denote.Param.{layouts, param}
use denote.Param.Laws.{param_laws}
use denote.Param.Mute.{Mute-seen}
use denote.Param.Glue.{Met}
use denote.Triple.Carry.{AllWithin}
use denote.Triple.Clauses.{Lasts, lasts, at_exit}
use denote.Triple.Walked.{Fit}
use Rattle.foresight_c.proofs.BoxedDesk.{value_row, value_laws}
use Rattle.foresight_c.proofs.foresight_c++desk++Desk+Destruct.drop.Kinds as kinds
use Rattle.foresight_c.proofs.foresight_c++desk++Desk+Destruct.drop.Reads as reads
use Rattle.foresight_c.proofs.foresight_c++desk++Desk+Destruct.drop.Symbol as symbol
use Rattle.foresight_c.proofs.foresight_c++desk++Desk+Destruct.drop.Met as met

abbrev pub dx : Dict
dx = impl ("foresight_c::foresight_c++desk++Desk+Destruct::drop" ∷ []) tnil dnil

abbrev ps : List (ParamKind 1)
ps = p_owned (param 0 value_row) refl no (Mute-seen (λ x. tt)) (λ M 𝓤 𝓛. (param_laws 0 value_row value_laws).lawful 𝓛) ∷ []

abbrev r : ResultKind 1
r = r_unit

pub drops : {M : Type 1} (𝓤 : Ura M) (𝓛 : Logic 𝓤) (𝓜 : Model 𝓤 𝓛.H) (𝓡 : Running 𝓤 𝓛.H 𝓜) → Wired 𝓡.env symbol.code → Met 𝓛 𝓜 𝓡 𝓡.env value_row dx
drops {M} 𝓤 𝓛 𝓜 𝓡 wired =
    glue_by value_row value_laws (record { M = M; 𝓤 = 𝓤; 𝓛 = 𝓛; 𝓜 = 𝓜; 𝓡 = 𝓡 }) dx 𝓡.env
    (λ κs a. Lasts (ended_of 0 kinds.ps kinds.r) tt a)
    (λ κs a. lasts (ended_of 0 kinds.ps kinds.r) tt a)
    (λ κs a x ws. Fit (ended_of 0 kinds.ps kinds.r) (stays kinds.ps) tt a ws × reads.Learnt tt a x (at_exit (ended_of 0 kinds.ps kinds.r) tt a ws))
    (λ κs a. AllWithin 1 (κs.0, tt) (value_row.lives, tt) × Unit {0})
    0 tt (λ κs a h. ((h, tt), tt))
    (via_longer 𝓛 (Over 𝓛 𝓜 𝓡 𝓡.env) 1 ps r
    (λ κs a. Lasts (ended_of 0 kinds.ps kinds.r) tt a)
    (λ κs a. lasts (ended_of 0 kinds.ps kinds.r) tt a)
    (λ κs a x ws. Fit (ended_of 0 kinds.ps kinds.r) (stays kinds.ps) tt a ws × reads.Learnt tt a x (at_exit (ended_of 0 kinds.ps kinds.r) tt a ws))
    (λ κs a. AllWithin 1 (κs.0, tt) (value_row.lives, tt) × Unit {0})
    (method dx 0 (layouts [] tt)) 0 tt (λ κs. tt)
    (λ κs a. reads.Asked tt a) (λ κs a p. (tt, tt))
    (λ κs bd within a vss qs. method_Known 0 kinds.ps kinds.r reads.requires reads.ensures reads.Asked reads.Learnt reads.known
    (record { M = M; 𝓤 = 𝓤; 𝓛 = 𝓛; 𝓜 = 𝓜; 𝓡 = 𝓡 }) symbol.name (method dx 0 (layouts [] tt))
    (symbol.as_method 𝓡.env wired (method dx 0 (layouts [] tt)) refl)
    (met.met 𝓤 𝓛 𝓜 𝓡 wired) ((tt, qs, tt, a, vss), tt)))
