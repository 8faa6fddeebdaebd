-- How containers are told from one another, as a model that holds one asks for.
use Rattle.std.specs.Prelude.{◌≡◌, ◌⊎◌, refl}
use Rattle.std.proofs.Common.{inl, inr}
use Rattle.std.specs.Coded.{Coded, code_by, coded⊎}
use Rattle.std.specs.FinMap as map
use Rattle.std.specs.FinSet as set
use Rattle.session_values.specs.contracts.value.Value as value
use Rattle.session_values.specs.declared.value.Value.{Value}
use Rattle.session_values.specs.Values.{value_cmp}
use Rattle.session_values.specs.Tables.{Container, Bindings, Members}

-- a container by its two cases
abbrev pub cases : Container → map.FinMap value_cmp Value ⊎ set.FinSet value_cmp
cases (Bindings m) = inl m
cases (Members s) = inr s

-- the container of a case
abbrev pub container : map.FinMap value_cmp Value ⊎ set.FinSet value_cmp → Container
container (inl m) = Bindings m
container (inr s) = Members s

-- the cases lose nothing
pub container_cases : (c : Container) → container (cases c) ≡ c
container_cases (Bindings m) = refl
container_cases (Members s) = refl

-- how a container is told from others
abbrev pub container_code : Coded Container
container_code = code_by (map.FinMap value_cmp Value ⊎ set.FinSet value_cmp)
    (coded⊎ (map.code value.the_row.coded value.the_row.coded) (set.code value.the_row.coded))
    cases container container_cases
