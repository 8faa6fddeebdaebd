-- A box of a desk, as the steps over boxes see it, and what a call of one of its methods is given.
use mathlib.Core.Path.{refl}
use mathlib.Core.List.{[], ◌∷◌}
use mir.Syntax.{Ty, Dict, impl, tnil, tcons, dnil}
use mir.Raw.{raw}
use denote.Exit.{no}
use denote.Param.{layout, arg}
use denote.Param.Laws.{Laws, arg_laws}
use denote.RattleType.{RattleType}
use Rattle.foresight_c.specs.contracts.desk.Desk as desk
use Rattle.foresight_c.proofs.desk.Desk.TheLaws as desk_laws
use Rattle.std.specs.contracts.alloc.Global as global
use Rattle.std.proofs.alloc.Global.TheLaws as global_laws
use Rattle.std.specs.contracts.impls.GlobalAllocator.TheImpl as heap
use Rattle.std_alloc.proofs.BoxSteps.Form.{Bx}
use Rattle.std_alloc.specs.contracts.boxed.Box as box

abbrev pub boxed : RattleType
boxed = box.the_row desk.the_row global.the_row heap.ghosts

abbrev pub value_at : Ty
value_at = raw (layout desk.the_row)

abbrev pub heap_at : Ty
heap_at = raw (layout global.the_row)

abbrev pub value_row : RattleType
value_row = arg value_at no desk.the_row

abbrev pub heap_row : RattleType
heap_row = arg heap_at no global.the_row

pub value_laws : Laws value_row
value_laws = arg_laws value_at no desk.the_row desk_laws.the_row_laws refl

pub heap_laws : Laws heap_row
heap_laws = arg_laws heap_at no global.the_row global_laws.the_row_laws refl

abbrev pub no_drop : Dict
no_drop = impl ("foresight_c::Destruct++none::drop" ∷ []) (tcons heap_at tnil) dnil

-- the box that a call is given
abbrev pub C : Bx
C = record {
  row = value_row;
  laws = value_laws;
  al = record { row = heap_row; laws = heap_laws; g = heap.ghosts; d = heap.dict; drops = no_drop };
}

-- the box that is taken apart here
abbrev pub E : Bx
E = record {
  row = desk.the_row;
  laws = desk_laws.the_row_laws;
  al = record { row = global.the_row; laws = global_laws.the_row_laws; g = heap.ghosts; d = heap.dict; drops = no_drop };
}
