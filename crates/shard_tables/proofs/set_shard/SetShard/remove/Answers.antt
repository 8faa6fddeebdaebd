use Rattle.std.proofs.Common.{ℕ, sym, ap, ◌∙◌, subst, arith, get_or, List, position}
use Rattle.std.specs.Prelude.{map as map_list}
use Rattle.std.specs.List.{swap_remove}
use Rattle.std.specs.FinSet as set
use Rattle.session_values.specs.declared.value.Value.{Value}
use Rattle.session_values.specs.declared.value.Value.TheVariants.{Nil}
use Rattle.session_values.specs.Tables.{Members}
use Rattle.session_values.specs.Values.{value_cmp}
use Rattle.shard_tables.specs.Slots.{IsIndexOf, IsSizedFor}
use Rattle.shard_tables.proofs.Lists.{keys_out}
use Rattle.shard_tables.specs.Keys.{is_under, AreDifferent}
use Rattle.shard_tables.specs.Shards.{SetView, ShardView, members}
use Rattle.shard_tables.proofs.Places.{place_within, no_place}
use Rattle.shard_tables.proofs.Different.{taken_out}
use Rattle.shard_tables.proofs.SetLemmas.{itself, set_of, out_key, none_out}
use Rattle.shard_tables.proofs.set_shard.SetShard.remove.Goals as goal
use Rattle.session_values.proofs.Equal.{same_value}

abbrev shard : set.FinSet value_cmp → ℕ → ShardView
shard m n = record { container = Members m; room = n }

pub invariant_of-self : goal.invariant_of-self
invariant_of-self c =
    let es = c.self.inside.keys.items in
    let p = is_under itself c.args.key in
    let at = place_within p es c.in-Some.place c.swap_remove.result (c.in-Some.ensures.place ∙ ap (position p) c.deref.ensures.value) in
    let is = same_value c.args.key (get_or es c.in-Some.place c.swap_remove.result) at.1 in
    let out = taken_out itself es c.in-Some.place c.swap_remove.result c.args.key at.0 is c.self.invariant.different in
    record {
      different = let P : List Value → Type 0 = λ l. AreDifferent itself l in subst P (sym c.swap_remove.ensures.items) out.different;
      within = omega (arith, c.swap_remove.ensures.len, c.self.invariant.within);
      reserved = omega (arith, c.swap_remove.ensures.capacity, c.self.invariant.reserved);
      few = c.self.invariant.few;
      sized = let P : ℕ → Type 0 = λ b. IsSizedFor c.self.inside.room b in subst P (sym c.in-Some.ensures.bits) c.self.invariant.sized;
      indexed =
          let P : List Value → Type 0 = λ l. IsIndexOf (swap_remove (map_list itself l) c.in-Some.place Nil) c.remove.new.self in
          let Q : List Value → Type 0 = λ ks. IsIndexOf ks c.remove.new.self in
          let out = keys_out itself es c.in-Some.place c.swap_remove.result (omega (arith, at.0)) in
          subst Q (sym (ap (map_list itself) c.swap_remove.ensures.items ∙ out)) (subst P c.deref.ensures.value c.in-Some.ensures.index);
    }

pub returns-in-Some-clause-after : goal.returns-in-Some-clause-after
returns-in-Some-clause-after c =
    let es = c.self.inside.keys.items in
    let p = is_under itself c.args.key in
    let at = place_within p es c.in-Some.place c.swap_remove.result (c.in-Some.ensures.place ∙ ap (position p) c.deref.ensures.value) in
    let is = same_value c.args.key (get_or es c.in-Some.place c.swap_remove.result) at.1 in
    let out = taken_out itself es c.in-Some.place c.swap_remove.result c.args.key at.0 is c.self.invariant.different in
    ap (λ (l : List Value). shard (set_of l) c.self.inside.room) c.swap_remove.ensures.items
    ∙ ap (λ (m : set.FinSet value_cmp). shard m c.self.inside.room) (out_key es _ c.args.key out)
    ∙ ap (λ (s : SetView). shard (set.remove (members s) c.args.key) s.room) c.self.view_is

pub returns-in_default-clause-after : goal.returns-in_default-clause-after
returns-in_default-clause-after c =
    let es = c.self.inside.keys.items in
    let p = is_under itself c.args.key in
    let missed = no_place p es (c.in_default.ensures.place ∙ ap (position p) c.deref.ensures.value) in
    ap (λ (m : set.FinSet value_cmp). shard m c.self.inside.room) (none_out es c.args.key missed)
    ∙ ap (λ (s : SetView). shard (set.remove (members s) c.args.key) s.room) c.self.view_is
