-- What a kind of operation is. Each question has a line for each of the eleven kinds, so that
-- another kind has to answer all of them.
use Rattle.std.specs.Prelude.{ℕ, List, Bool, true, false, not, ◌==◌, codes}
use Rattle.std.specs.Ordering.{nat_cmp}
use Rattle.std.specs.declared.cmp.Ordering.{Ordering}
use Rattle.session_values.specs.declared.kind.Kind.{Kind}
use Rattle.session_values.specs.declared.kind.Kind.TheVariants.{Get, Put, Swap, Del, Size, Bump, Has, Add, Mark, Drop, Count}
use Rattle.session_values.specs.declared.kind.TableKind.{TableKind}
use Rattle.session_values.specs.declared.kind.TableKind.TheVariants.{Map, Set}

-- the reserved word, as bytes
abbrev pub word_of : Kind → List ℕ
word_of Get = codes "get"
word_of Put = codes "put"
word_of Swap = codes "swap"
word_of Del = codes "del"
word_of Size = codes "size"
word_of Bump = codes "bump"
word_of Has = codes "has"
word_of Add = codes "add"
word_of Mark = codes "mark"
word_of Drop = codes "drop"
word_of Count = codes "count"

-- the place in the table of kinds
abbrev pub kind_place : Kind → ℕ
kind_place Get = 0
kind_place Put = 1
kind_place Swap = 2
kind_place Del = 3
kind_place Size = 4
kind_place Bump = 5
kind_place Has = 6
kind_place Add = 7
kind_place Mark = 8
kind_place Drop = 9
kind_place Count = 10

-- kinds in the order of their places
abbrev pub kind_cmp : Kind → Kind → Ordering
kind_cmp a b = nat_cmp (kind_place a) (kind_place b)

-- the kind of container that it works on
abbrev pub home : Kind → TableKind
home Get = Map
home Put = Map
home Swap = Map
home Del = Map
home Size = Map
home Bump = Map
home Has = Set
home Add = Set
home Mark = Set
home Drop = Set
home Count = Set

-- how many arguments stand after the table: a key, or a key and a value
abbrev pub arguments : Kind → ℕ
arguments Get = 1
arguments Put = 2
arguments Swap = 2
arguments Del = 1
arguments Size = 0
arguments Bump = 2
arguments Has = 1
arguments Add = 1
arguments Mark = 1
arguments Drop = 1
arguments Count = 0

-- it changes nothing
abbrev pub is_read : Kind → Bool
is_read Get = true
is_read Put = false
is_read Swap = false
is_read Del = false
is_read Size = true
is_read Bump = false
is_read Has = true
is_read Add = false
is_read Mark = false
is_read Drop = false
is_read Count = true

-- it may add a key
abbrev pub is_adding : Kind → Bool
is_adding Get = false
is_adding Put = true
is_adding Swap = true
is_adding Del = false
is_adding Size = false
is_adding Bump = true
is_adding Has = false
is_adding Add = true
is_adding Mark = true
is_adding Drop = false
is_adding Count = false

-- a plain change: done twice it leaves what it leaves once, and its reply tells nothing
abbrev pub is_plain : Kind → Bool
is_plain Get = false
is_plain Put = true
is_plain Swap = false
is_plain Del = true
is_plain Size = false
is_plain Bump = false
is_plain Has = false
is_plain Add = false
is_plain Mark = true
is_plain Drop = true
is_plain Count = false

-- ---- what follows from these
abbrev is_map : TableKind → Bool
is_map Map = true
is_map Set = false

-- it works on maps
abbrev pub is_on_map : Kind → Bool
is_on_map kind = is_map (home kind)

-- it is about one key
abbrev pub is_keyed : Kind → Bool
is_keyed kind = not (arguments kind == 0)
