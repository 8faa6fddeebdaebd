use Rattle.std.proofs.Common.{◌≡◌, ℕ, Bool, List, length, map, ap, subst, ◌∙◌}
use Rattle.std.specs.List.{AllByRecursion}
use Rattle.session_values.specs.Opening.{AreApart, IsPair, tables_of}
use Rattle.session_values.specs.Tables.{kind_of}
use Rattle.shard_tables.specs.declared.part.Part.{Part}
use Rattle.live_session.specs.Held.{held, lists_in}
use Rattle.live_session.specs.Moving.{kept, moved_entries, place_in, set_before}
use Rattle.live_session.specs.Renewal.{held_flags}
use Rattle.live_session.proofs.Kept.{flags_long}
use Rattle.live_session.proofs.renewing.renewed.Goals as goal

pub kept_names-requires : goal.kept_names-requires
kept_names-requires c =
    let ps : List Part = c.args.tables.now.parts.items in
    let flags : c.in_ok-flags.flags.items ≡ held_flags (length c.args.names.now) c.args.first (lists_in ps) =
    c.in_ok-flags.ensures.flags ∙ (λ i. held_flags (c.len.ensures.len i) c.args.first (lists_in (c.as_slice.ensures.value i))) in
    ap (λ (fs : List Bool). length fs) (c.as_slice-2.ensures.value ∙ flags) ∙ flags_long (length c.args.names.now) c.args.first (lists_in ps)

pub returns : goal.returns
returns c =
    let ps : List Part = c.args.tables.now.parts.items in
    let flags : c.as_slice-2.result.now ≡ held_flags (length c.args.names.now) c.args.first (lists_in ps) =
    c.as_slice-2.ensures.value ∙ c.in_ok-flags.ensures.flags ∙ (λ i. held_flags (c.len.ensures.len i) c.args.first (lists_in (c.as_slice.ensures.value i))) in
    record {
      places = c.in_ok-kept.kept.places.items;
      distinct = c.len.ensures.distinct;
      names_are = c.in_ok-kept.ensures.names ∙ ap (λ (fs : List Bool). kept fs c.args.names.now) flags;
      places_are = λ i l. c.in_ok-kept.ensures.places i l ∙ ap (λ (fs : List Bool). set_before i fs) flags;
      tables_are = c.in_ok-tables_now.ensures.held ∙ ap (λ (pl : List ℕ). tables_of (map kind_of (held ps)) (map (moved_entries (place_in pl)) (lists_in ps))) c.as_slice-3.ensures.value;
      apart = subst (λ (qs : List Part). AllByRecursion AreApart (lists_in qs)) c.as_slice.ensures.value c.in_ok-flags.ensures.apart;
      pairs = subst (λ (pl : List ℕ). AllByRecursion (AllByRecursion IsPair) (map (moved_entries (place_in pl)) (lists_in ps))) c.as_slice-3.ensures.value c.in_ok-tables_now.ensures.pairs;
      factors = c.in_ok-tables_now.ensures.factors;
      history_is = c.renewed-history.ensures;
    }
