-- What a handle owns.
use Rattle.std.specs.Prelude.{Option, Some, None, Bool, true, false}
use Rattle.std.specs.Coded.{Coded}
use Rattle.std.specs.Global.{Box, Global}
use Rattle.std.specs.contracts.impls.GlobalAllocator.TheImpl as heap
use base.Fml.{Fml, ftrue}
use denote.RawPtr.{Ptr}
use Rattle.std_alloc.specs.Box.Ownership.{box_owns}
use Rattle.foresight_c.specs.declared.desk.Desk.{Desk}
use Rattle.foresight_c.specs.contracts.desk.Desk.{the_row}

abbrev pub DeskOf : Type 0
DeskOf = Desk

-- how contracts tell two desks apart
abbrev pub desk_code : Coded Desk
desk_code = the_row.coded

-- the heap that desks lie in
abbrev pub the_heap : Global
the_heap = record { memory = record { seal = tt } }

-- a pointer to a desk owns it, with the right to free its block; one to nothing owns nothing
abbrev pub held : Ptr → Option Desk → Fml
held p (Some x) = box_owns (heap.ghosts.dealloc_token the_heap) the_row p x
held p None = ftrue

-- whether there is a desk
abbrev pub is_live : {X : Type 0} → Option X → Bool
is_live (Some x) = true
is_live None = false

-- the desk in a box, where there is one
abbrev pub value_in : Option (Box Desk) → Option Desk
value_in (Some b) = Some b.value
value_in None = None
