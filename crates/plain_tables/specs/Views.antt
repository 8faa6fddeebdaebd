-- What a kept map and a kept set stand for. Only this crate's own functions cite it.
use Rattle.std.specs.Coded.{Coded}
use Rattle.std.specs.FinMap as map
use Rattle.std.specs.FinSet as set
use Rattle.std.specs.BTreeMap.{BTreeMap}
use Rattle.std.specs.BTreeSet.{BTreeSet}
use Rattle.session_values.specs.contracts.value.Value as value
use Rattle.session_values.specs.declared.value.Value.{Value}
use Rattle.session_values.specs.Values.{value_cmp}

-- a map as a finite map
abbrev pub MapView : Type 0
MapView = map.FinMap value_cmp Value

-- how a finite map is told from others
abbrev pub map_code : Coded MapView
map_code = map.code value.the_row.coded value.the_row.coded

-- the finite map of a map's entries
abbrev pub map_of : BTreeMap Value Value → MapView
map_of m = map.from_entries m.entries

-- a set as a finite set
abbrev pub SetView : Type 0
SetView = set.FinSet value_cmp

-- how a finite set is told from others
abbrev pub set_code : Coded SetView
set_code = set.code value.the_row.coded

-- the finite set of a set's keys
abbrev pub set_of : BTreeSet Value → SetView
set_of s = set.from_list s.keys
