use Rattle.std.proofs.Common.{◌≡◌, ℕ, sym, ap, ◌∙◌, subst, arith, length, get_or, List, [], ◌∷◌, ◌++◌, Option, is_some, unwrap_or, position, length-append}
use Rattle.std.proofs.Math.ListN.{set}
use Rattle.std.proofs.lemmas.List.{length-set}
use Rattle.std.specs.Prelude.{map as map_list}
use Rattle.std.specs.FinMap as map
use Rattle.session_values.specs.declared.value.Value.{Value}
use Rattle.session_values.specs.declared.value.Value.TheVariants.{Nil}
use Rattle.session_values.specs.Tables.{Bindings}
use Rattle.session_values.specs.Values.{value_cmp}
use Rattle.shard_tables.specs.Slots.{IndexView, IsIndexOf, IsSizedFor}
use Rattle.shard_tables.proofs.Lists.{index_set, index_pushed}
use Rattle.shard_tables.specs.Keys.{is_under, AreDifferent}
use Rattle.shard_tables.specs.Shards.{MapView, ShardView, bindings}
use Rattle.shard_tables.proofs.Places.{place_found, place_within, no_place}
use Rattle.shard_tables.proofs.Different.{different_set, different_push}
use Rattle.shard_tables.proofs.MapLemmas.{key_of, map_of, get_found, get_missed, len_pairs, same_key, set_pair, push_pair}
use Rattle.shard_tables.proofs.map_shard.MapShard.bind.Goals as goal
use Rattle.session_values.proofs.Equal.{same_value}

abbrev shard : map.FinMap value_cmp Value → ℕ → ShardView
shard m n = record { container = Bindings m; room = n }

pub invariant_of-self : goal.invariant_of-self
invariant_of-self c =
    let es = c.self.inside.pairs.items in
    let p = is_under key_of c.args.key in
    let at = place_within p es c.in-Some.place c.index.result.now (c.in-Some.ensures.place ∙ ap (position p) c.deref.ensures.value) in
    let is = same_value c.args.key (get_or es c.in-Some.place c.index.result.now).0 at.1 in
    record {
      different = different_set key_of es c.in-Some.place (c.args.key, c.args.value) c.index.result.now c.args.key at.0 is c.self.invariant.different (same_key es c.args.key c.args.value);
      within = omega (arith, length-set es c.in-Some.place (c.args.key, c.args.value), c.self.invariant.within);
      reserved = c.self.invariant.reserved;
      few = c.self.invariant.few;
      sized = let P : ℕ → Type 0 = λ b. IsSizedFor c.self.inside.room b in subst P (sym c.in-Some.ensures.bits) c.self.invariant.sized;
      indexed =
          let P : IndexView → Type 0 = λ v. IsIndexOf (map_list key_of (set es c.in-Some.place (c.args.key, c.args.value))) v in
          subst P (sym c.in-Some.ensures.found)
          (index_set key_of c.self.inside.index.factor c.self.inside.index.bits es c.self.inside.index.slots c.in-Some.place (c.args.key, c.args.value) c.index.result.now at.0 is c.self.invariant.indexed);
    }

pub returns-in-Some-clause-reply : goal.returns-in-Some-clause-reply
returns-in-Some-clause-reply c =
    let es = c.self.inside.pairs.items in
    let p = is_under key_of c.args.key in
    let found = place_found p es c.in-Some.place c.index.result.now (c.in-Some.ensures.place ∙ ap (position p) c.deref.ensures.value) c.index.ensures in
    sym (ap (λ (o : Option Value). unwrap_or o Nil) (get_found es c.args.key c.index.result.now found))
    ∙ ap (λ (s : MapView). unwrap_or (map.get (bindings s) c.args.key) Nil) c.self.view_is

pub returns-in-Some-clause-after : goal.returns-in-Some-clause-after
returns-in-Some-clause-after c =
    let es = c.self.inside.pairs.items in
    let p = is_under key_of c.args.key in
    let at = place_within p es c.in-Some.place c.index.result.now (c.in-Some.ensures.place ∙ ap (position p) c.deref.ensures.value) in
    let is = same_value c.args.key (get_or es c.in-Some.place c.index.result.now).0 at.1 in
    ap (λ (m : map.FinMap value_cmp Value). shard m c.self.inside.room) (set_pair es c.in-Some.place c.index.result.now c.args.key c.args.value at.0 is c.self.invariant.different)
    ∙ ap (λ (s : MapView). shard (map.insert (bindings s) c.args.key c.args.value) s.room) c.self.view_is

pub push_reserved-requires : goal.push_reserved-requires
push_reserved-requires c =
    let es = c.self.inside.pairs.items in
    let p = is_under key_of c.args.key in
    let missed = no_place p es (c.in-None.ensures.place ∙ ap (position p) c.deref.ensures.value) in
    let absent = ap (λ (s : MapView). is_some (map.get (bindings s) c.args.key)) (sym c.self.view_is) ∙ ap (λ (o : Option Value). is_some o) (get_missed es c.args.key missed) in
    let size : length es ≡ map.len (bindings c.args.self.now) = sym (len_pairs es c.self.invariant.different) ∙ ap (λ (s : MapView). map.len (bindings s)) c.self.view_is in
    let room : c.self.inside.room ≡ c.args.self.now.room = ap (λ (s : MapView). s.room) c.self.view_is in
    omega (arith, size, room, c.requires absent, c.self.invariant.reserved)

pub invariant_of-self-in-None : goal.invariant_of-self-in-None
invariant_of-self-in-None c =
    let es = c.self.inside.pairs.items in
    let p = is_under key_of c.args.key in
    let missed = no_place p es (c.in-None.ensures.place ∙ ap (position p) c.deref.ensures.value) in
    let absent = ap (λ (s : MapView). is_some (map.get (bindings s) c.args.key)) (sym c.self.view_is) ∙ ap (λ (o : Option Value). is_some o) (get_missed es c.args.key missed) in
    let size : length es ≡ map.len (bindings c.args.self.now) = sym (len_pairs es c.self.invariant.different) ∙ ap (λ (s : MapView). map.len (bindings s)) c.self.view_is in
    let room : c.self.inside.room ≡ c.args.self.now.room = ap (λ (s : MapView). s.room) c.self.view_is in
    record {
      different = let P : List (Value × Value) → Type 0 = λ l. AreDifferent key_of l in subst P (sym c.push_reserved.ensures.items) (different_push key_of es (c.args.key, c.args.value) c.self.invariant.different missed);
      within = omega (arith, ap (λ (l : List (Value × Value)). length l) c.push_reserved.ensures.items, length-append es ((c.args.key, c.args.value) ∷ []), size, room, c.requires absent);
      reserved = omega (arith, c.push_reserved.ensures.capacity, c.self.invariant.reserved);
      few = c.self.invariant.few;
      sized = let P : ℕ → Type 0 = λ b. IsSizedFor c.self.inside.room b in subst P (sym c.in-None.ensures.bits) c.self.invariant.sized;
      indexed =
          let P : List (Value × Value) → Type 0 = λ l. IsIndexOf (map_list key_of l ++ c.args.key ∷ []) c.enter.new.self in
          let Q : List (Value × Value) → Type 0 = λ l. IsIndexOf (map_list key_of l) c.enter.new.self in
          subst Q (sym c.push_reserved.ensures.items) (index_pushed key_of c.enter.new.self.factor c.enter.new.self.bits es c.enter.new.self.slots (c.args.key, c.args.value) (subst P c.deref.ensures.value c.in-None.ensures.entered));
    }

pub returns-in-None-clause-reply : goal.returns-in-None-clause-reply
returns-in-None-clause-reply c =
    let es = c.self.inside.pairs.items in
    let p = is_under key_of c.args.key in
    let missed = no_place p es (c.in-None.ensures.place ∙ ap (position p) c.deref.ensures.value) in
    sym (ap (λ (o : Option Value). unwrap_or o Nil) (get_missed es c.args.key missed))
    ∙ ap (λ (s : MapView). unwrap_or (map.get (bindings s) c.args.key) Nil) c.self.view_is

pub returns-in-None-clause-after : goal.returns-in-None-clause-after
returns-in-None-clause-after c =
    let es = c.self.inside.pairs.items in
    let p = is_under key_of c.args.key in
    let missed = no_place p es (c.in-None.ensures.place ∙ ap (position p) c.deref.ensures.value) in
    ap (λ (l : List (Value × Value)). shard (map_of l) c.self.inside.room) c.push_reserved.ensures.items
    ∙ ap (λ (m : map.FinMap value_cmp Value). shard m c.self.inside.room) (push_pair es c.args.key c.args.value missed)
    ∙ ap (λ (s : MapView). shard (map.insert (bindings s) c.args.key c.args.value) s.room) c.self.view_is
