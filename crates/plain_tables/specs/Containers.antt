-- What the kept tables stand for.
use Rattle.std.specs.Prelude.{List, map}
use Rattle.std.specs.Coded.{Coded, coded_list}
use Rattle.session_values.specs.Containers.{container_code}
use Rattle.session_values.specs.Tables.{Container, Bindings, Members, Tables}
use Rattle.plain_tables.specs.declared.table.Table.{Table}
use Rattle.plain_tables.specs.declared.table.Table.TheVariants as kept

-- how tables are told from others
abbrev pub tables_code : Coded Tables
tables_code = coded_list container_code

-- the container of a kept table
abbrev pub container_of : Table → Container
container_of (kept.Map m) = Bindings m
container_of (kept.Set s) = Members s

-- the containers of the kept tables, in order
abbrev pub tables_of : List Table → Tables
tables_of ts = map container_of ts
