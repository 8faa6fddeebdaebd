use Rattle.std.proofs.Common.{◌≡◌, ℕ, sym, ap, ◌∙◌, subst, arith, length, List, [], ◌∷◌, ◌++◌, Option, is_some, not, position, length-append}
use Rattle.std.specs.Prelude.{map as map_list}
use Rattle.std.specs.FinSet as set
use Rattle.session_values.specs.declared.value.Value.{Value}
use Rattle.session_values.specs.Tables.{Members}
use Rattle.session_values.specs.Values.{value_cmp}
use Rattle.shard_tables.specs.Slots.{IsIndexOf, IsSizedFor}
use Rattle.shard_tables.proofs.Lists.{index_pushed}
use Rattle.shard_tables.specs.Keys.{is_under, AreDifferent}
use Rattle.shard_tables.specs.Shards.{SetView, ShardView, members}
use Rattle.shard_tables.proofs.Places.{is_some-position, no_place}
use Rattle.shard_tables.proofs.Different.{different_push}
use Rattle.shard_tables.proofs.SetLemmas.{itself, set_of, has_under, has_missed, len_keys, same_in, push_key}
use Rattle.shard_tables.proofs.set_shard.SetShard.add.Goals as goal

abbrev shard : set.FinSet value_cmp → ℕ → ShardView
shard m n = record { container = Members m; room = n }

pub returns-in-Some-clause-new : goal.returns-in-Some-clause-new
returns-in-Some-clause-new c =
    let ks = c.self.inside.keys.items in
    let p = is_under itself c.args.key in
    ap (λ (o : Option ℕ). not (is_some o)) (c.in-Some.ensures.place ∙ ap (position p) c.deref.ensures.value)
    ∙ ap not (is_some-position p ks ∙ sym (has_under ks c.args.key)) ∙ ap (λ (s : SetView). not (set.contains (members s) c.args.key)) c.self.view_is

pub returns-in-Some-clause-after : goal.returns-in-Some-clause-after
returns-in-Some-clause-after c =
    let ks = c.self.inside.keys.items in
    let p = is_under itself c.args.key in
    let there = has_under ks c.args.key ∙ sym (is_some-position p ks) ∙ sym (ap (λ (o : Option ℕ). is_some o) (c.in-Some.ensures.place ∙ ap (position p) c.deref.ensures.value)) in
    ap (λ (m : set.FinSet value_cmp). shard m c.self.inside.room) (same_in ks c.args.key there)
    ∙ ap (λ (s : SetView). shard (set.insert (members s) c.args.key) s.room) c.self.view_is

pub push_reserved-requires : goal.push_reserved-requires
push_reserved-requires c =
    let ks = c.self.inside.keys.items in
    let p = is_under itself c.args.key in
    let missed = no_place p ks (c.in-None.ensures.place ∙ ap (position p) c.deref.ensures.value) in
    let absent = ap (λ (s : SetView). set.contains (members s) c.args.key) (sym c.self.view_is) ∙ has_missed ks c.args.key missed in
    let size : length ks ≡ set.len (members c.args.self.now) = sym (len_keys ks c.self.invariant.different) ∙ ap (λ (s : SetView). set.len (members s)) c.self.view_is in
    let room : c.self.inside.room ≡ c.args.self.now.room = ap (λ (s : SetView). s.room) c.self.view_is in
    omega (arith, size, room, c.requires absent, c.self.invariant.reserved)

pub invariant_of-self-in-None : goal.invariant_of-self-in-None
invariant_of-self-in-None c =
    let ks = c.self.inside.keys.items in
    let p = is_under itself c.args.key in
    let missed = no_place p ks (c.in-None.ensures.place ∙ ap (position p) c.deref.ensures.value) in
    let absent = ap (λ (s : SetView). set.contains (members s) c.args.key) (sym c.self.view_is) ∙ has_missed ks c.args.key missed in
    let size : length ks ≡ set.len (members c.args.self.now) = sym (len_keys ks c.self.invariant.different) ∙ ap (λ (s : SetView). set.len (members s)) c.self.view_is in
    let room : c.self.inside.room ≡ c.args.self.now.room = ap (λ (s : SetView). s.room) c.self.view_is in
    record {
      different = let P : List Value → Type 0 = λ l. AreDifferent itself l in subst P (sym c.push_reserved.ensures.items) (different_push itself ks c.args.key c.self.invariant.different missed);
      within = omega (arith, ap (λ (l : List Value). length l) c.push_reserved.ensures.items, length-append ks (c.args.key ∷ []), size, room, c.requires absent);
      reserved = omega (arith, c.push_reserved.ensures.capacity, c.self.invariant.reserved);
      few = c.self.invariant.few;
      sized = let P : ℕ → Type 0 = λ b. IsSizedFor c.self.inside.room b in subst P (sym c.in-None.ensures.bits) c.self.invariant.sized;
      indexed =
          let P : List Value → Type 0 = λ l. IsIndexOf (map_list itself l ++ c.args.key ∷ []) c.enter.new.self in
          let Q : List Value → Type 0 = λ l. IsIndexOf (map_list itself l) c.enter.new.self in
          subst Q (sym c.push_reserved.ensures.items) (index_pushed itself c.enter.new.self.factor c.enter.new.self.bits ks c.enter.new.self.slots c.args.key (subst P c.deref.ensures.value c.in-None.ensures.entered));
    }

pub returns-in-None-clause-new : goal.returns-in-None-clause-new
returns-in-None-clause-new c =
    let ks = c.self.inside.keys.items in
    let p = is_under itself c.args.key in
    let missed = no_place p ks (c.in-None.ensures.place ∙ ap (position p) c.deref.ensures.value) in
    sym (ap not (has_missed ks c.args.key missed)) ∙ ap (λ (s : SetView). not (set.contains (members s) c.args.key)) c.self.view_is

pub returns-in-None-clause-after : goal.returns-in-None-clause-after
returns-in-None-clause-after c =
    let ks = c.self.inside.keys.items in
    let p = is_under itself c.args.key in
    let missed = no_place p ks (c.in-None.ensures.place ∙ ap (position p) c.deref.ensures.value) in
    ap (λ (l : List Value). shard (set_of l) c.self.inside.room) c.push_reserved.ensures.items
    ∙ ap (λ (m : set.FinSet value_cmp). shard m c.self.inside.room) (push_key ks c.args.key missed)
    ∙ ap (λ (s : SetView). shard (set.insert (members s) c.args.key) s.room) c.self.view_is
