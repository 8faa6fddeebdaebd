use Rattle.tests_desks.proofs.BookRows.{cleared}
use Rattle.tests_desks.proofs.HallTries.{declared_so, declares_none, ended_so, ends_none}
use Rattle.tests_desks.proofs.hall_tries.end_older.Goals as goal

pub try_declare-requires-clause-may : goal.try_declare-requires-clause-may
try_declare-requires-clause-may g c = declares_none c.args.hall.now c.requires.script c.args.older.now _ (cleared _ _ c.clear.ensures) c.requires.older

pub try_end-requires-clause-may : goal.try_end-requires-clause-may
try_end-requires-clause-may g c =
    let a = declared_so c.args.hall.now c.args.older.now c.try_declare.new.self 0 _ _ c.try_declare.ensures.caller.0 _ _ _ _ c.in-Yes.is (cleared _ _ c.clear.ensures) c.requires.older c.try_declare.ensures.declared in
    rw c.nil.ensures (ends_none c.args.hall.now c.requires.script c.try_declare.new.self a)

pub returns-clause-older : goal.returns-clause-older
returns-clause-older g c =
    let a = declared_so c.args.hall.now c.args.older.now c.try_declare.new.self 0 _ _ c.try_declare.ensures.caller.0 _ _ _ _ c.in-Yes.is (cleared _ _ c.clear.ensures) c.requires.older c.try_declare.ensures.declared in
    (c.try_end.ensures.caller.0, ended_so c.args.hall.now c.try_declare.new.self c.try_end.new.self 0 _ _ c.try_end.ensures.caller.0 _ _ _ c.in-Ended.is a c.try_end.ensures.ended)
