use Rattle.std.proofs.Common.{◌<◌, ◌≤◌, ◌++◌, ◌∷◌, [], List, length, take, ap, ◌∙◌, arith}
use Rattle.std.proofs.lemmas.List.{map-append, take_all}
use Rattle.session_values.specs.Tables.{Container, Tables}
use Rattle.session_values.specs.declared.kind.TableKind.{TableKind}
use Rattle.session_values.specs.Opening.{tables_of}
use Rattle.live_session.specs.Held.{container_in, held}
use Rattle.shard_tables.proofs.Whole.{filled_more}
use Rattle.live_session.proofs.Seeds.{seeded_more}
use Rattle.live_session.proofs.opening.opened_tables.Goals as goal

pub loop-table-preserved : goal.loop-table-preserved
loop-table-preserved c =
    let shape : List TableKind = c.args.shape.now in
    let lists = c.args.opening.now in
    let low : c.loop-table.table < length shape = omega (arith, c.loop-table-test.true) in
    let first : Tables = tables_of (take c.loop-table.table shape) lists in
    record {
      filled = ap held c.push_reserved.ensures.items
          ∙ map-append container_in c.loop-table.parts.items (c.in_ok-part.part ∷ [])
          ∙ ap (λ (cs : Tables). cs ++ container_in c.in_ok-part.part ∷ []) c.loop-table.invariant.filled
          ∙ ap (λ (x : Container). first ++ x ∷ []) c.in_ok-part.ensures.entered
          ∙ filled_more shape lists c.loop-table.table low;
      factors = seeded_more c.args.seed c.loop-table.parts.items c.in_ok-part.part c.push_reserved.new.self.items c.push_reserved.ensures.items c.loop-table.invariant.factors c.in_ok-part.ensures.factor;
      long = omega (arith, c.loop-table.invariant.long, c.push_reserved.ensures.len);
      room = omega (arith, c.loop-table.invariant.room, c.push_reserved.ensures.capacity);
    }

pub returns-clause-held : goal.returns-clause-held
returns-clause-held c =
    let lists = c.args.opening.now in
    let all : length c.args.shape.now ≤ c.loop-table.table = omega (arith, c.loop-table-test.false) in
    c.loop-table.invariant.filled
    ∙ ap (λ (ks : List TableKind). tables_of ks lists) (take_all c.loop-table.table c.args.shape.now all)
