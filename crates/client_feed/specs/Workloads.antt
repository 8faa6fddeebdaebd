-- What a workload keeps is a fact: it has one proof at most.
use Rattle.std.specs.Prelude.{pos, negsuc, List, [], ◌∷◌}
use Rattle.std.proofs.Props.{props}
use Rattle.session_values.specs.declared.value.Value.{Value}
use Rattle.session_values.specs.declared.value.Value.TheVariants.{Nil, Num, Sym}
use Rattle.session_values.specs.declared.kind.TableKind.{TableKind}
use Rattle.session_values.specs.declared.kind.TableKind.TheVariants.{Map, Set}
use Rattle.session_values.specs.Values.{IsValue}
use Rattle.session_values.specs.Opening.{AreApart, AreEntries, IsEntry, IsOpening, Pair}
use Rattle.syntax_trees.specs.declared.file.File.{File}
use Rattle.request_files.specs.declared.request.Request.{Request}
use Rattle.request_files.specs.Servable.{IsServable}

value_once : (v : Value) → IsProp (IsValue v)
value_once Nil = hlevel props
value_once (Num (pos n)) = hlevel props
value_once (Num (negsuc n)) = hlevel props
value_once (Sym p) = hlevel props

entry_once : (kind : TableKind) (e : Pair) → IsProp (IsEntry kind e)
entry_once Map e = hlevel (props, value_once)
entry_once Set e = hlevel (props, value_once)

apart_once : (es : List Pair) → IsProp (AreApart es)
apart_once [] = hlevel props
apart_once (e ∷ es) = let rest = apart_once es in hlevel (props, rest)

entries_once : (shape : List TableKind) (lists : List (List Pair)) → IsProp (AreEntries shape lists)
entries_once [] [] = hlevel props
entries_once [] (es ∷ lists) = hlevel props
entries_once (kind ∷ shape) [] = hlevel props
entries_once (kind ∷ shape) (es ∷ lists) =
    let rest = entries_once shape lists in
    hlevel (props, entry_once, apart_once, rest)

pub opening_once : (shape : List TableKind) (lists : List (List Pair))
    → IsProp (IsOpening shape lists)
opening_once shape lists = hlevel (props, entries_once)

pub servable_once : (f : File) (requests : List Request) → IsProp (IsServable f requests)
servable_once f requests = hlevel (props, value_once)
