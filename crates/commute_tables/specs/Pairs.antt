-- The list of the pairs of operations on one container that commute, with one key where both have
-- a key.
use Rattle.std.specs.Prelude.{◌≡◌, Bool, true, false, not, ◌&&◌, ◌||◌}
use Rattle.session_values.specs.declared.op.Op.{Op}
use Rattle.session_values.specs.declared.kind.Kind.{Kind}
use Rattle.session_values.specs.declared.kind.Kind.TheVariants.{Get, Put, Del, Size, Bump, Has, Mark, Drop, Count}
use Rattle.session_values.specs.declared.value.Value.{Value}
use Rattle.session_values.specs.Kinds.{home, is_keyed}
use Rattle.session_values.specs.Values.{value_eq}
use Rattle.commute_tables.specs.Relation.{is_bump, is_number, is_zero}

-- it is a bump by what is no number, which changes nothing
abbrev pub is_idle_bump : Kind → Value → Bool
is_idle_bump kind v = is_bump kind && not (is_number v)

-- the kinds, with the values, that commute: two reads, two equal puts, two of del, mark, drop or
-- bump, and a bump with a put where the bump is by 0 or what is put is no number
abbrev pub is_listed : Kind → Value → Kind → Value → Bool
is_listed Get v Get w = true
is_listed Get v Size w = true
is_listed Size v Get w = true
is_listed Size v Size w = true
is_listed Put v Put w = value_eq v w
is_listed Put v Bump w = not (is_number v) || is_zero w
is_listed Bump v Put w = is_zero v || not (is_number w)
is_listed Bump v Bump w = true
is_listed Del v Del w = true
is_listed Has v Has w = true
is_listed Has v Count w = true
is_listed Count v Has w = true
is_listed Count v Count w = true
is_listed Mark v Mark w = true
is_listed Drop v Drop w = true
is_listed x v y w = false

-- one is a bump that changes nothing, or the pair is in the list
abbrev pub is_commuting_pair : Op → Op → Bool
is_commuting_pair a b =
    is_idle_bump a.kind a.value || is_idle_bump b.kind b.value
    || is_listed a.kind a.value b.kind b.value

-- they are on one container, and have one key where both have a key
pub record AreOnOneKey (a b : Op) : Type 0 where
  pub table : a.table ≡ b.table
  pub container : home a.kind ≡ home b.kind
  pub key : is_keyed a.kind ≡ true → is_keyed b.kind ≡ true → a.key ≡ b.key
