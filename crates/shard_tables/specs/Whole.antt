-- Tables of which each is whole in one shard.
use Rattle.std.specs.Prelude.{List, map}
use Rattle.std.specs.Coded.{Coded, coded_list}
use Rattle.session_values.specs.Containers.{container_code}
use Rattle.session_values.specs.Tables.{Container, Tables}
use Rattle.shard_tables.specs.declared.part.Part.{Part}
use Rattle.shard_tables.specs.Either.{shard_view}

-- how tables are told from others
abbrev pub tables_code : Coded Tables
tables_code = coded_list container_code

-- what a table's shard holds
abbrev pub container_in : Part → Container
container_in p = (shard_view p).container

-- the tables that these shards hold, in order
abbrev pub held : List Part → Tables
held ps = map container_in ps
