-- What a handle owns may go to another thread: the desk, which may, and the right to free its block.
use mir.Raw.{raw}
use base.Shift.{Keyless}
use denote.Builtin.{RawPtr}
use denote.Memory.{lone}
use denote.RawPtr.{Ptr}
use denote.Struct.Struct.{exits_of}
use denote.Struct.Owning.{shape, fields, to}
use denote.Param.Send.{IsSend, AllSend, owning_send, struct_send, sendable}
use Rattle.std.specs.Prelude.{Option, Some, None}
use Rattle.std.proofs.Crossing.{frees}
use Rattle.std_alloc.proofs.SendSync.{lies, quiet}
use Rattle.foresight_c.specs.declared.desk.Desk.{Desk}
use Rattle.foresight_c.specs.contracts.desk.Desk as desk
use Rattle.foresight_c.proofs.Crossing.{desk_send}
use Rattle.foresight_c.specs.Held.{held, the_heap}
use Rattle.foresight_c.specs.contracts.handle.Held.{the_row, the_type}

kept : (p : Ptr) (x : Option Desk) → Keyless (held p x)
kept p None = tt
kept p (Some x) =
    (lies desk.the_row desk_send p x, frees.frees the_heap (raw (lone desk.the_row.mir)) p)

pointer : IsSend RawPtr
pointer = search sendable

pub send : IsSend the_row
send =
    let all : AllSend (fields the_type) = (pointer, tt) in
    owning_send the_type all (λ d. kept d.at d.value)
    (λ k. quiet (to the_type) (exits_of k (fields the_type)) ((struct_send (shape the_type) all).leaving k))
