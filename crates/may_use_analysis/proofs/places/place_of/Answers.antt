use Rattle.std.proofs.Common.{◌≡◌, ℕ, ◌<◌, List, [], ◌∷◌, ◌++◌, length, sym, ap, ◌∙◌, arith}
use Rattle.std.specs.Prelude.{Some, slice_get}
use Rattle.std.proofs.lemmas.Option.{slice_get-get_or}
use Rattle.check_meaning.specs.declared.tree.CheckedStmt.{CheckedStmt}
use Rattle.check_meaning.specs.Code.{block_code}
use Rattle.may_use_analysis.specs.Places.{places}
use Rattle.may_use_analysis.proofs.PlaceLemmas.{places_count}
use Rattle.may_use_analysis.proofs.places.place_of.Goals as goal

pub index-requires : goal.index-requires
index-requires c =
    let at = c.args.handler.now.at in
    let body = block_code c.args.handler.now.body in
    let whole : c.add_block.new.out.items ≡ at ∷ places body = c.in_ok-add_block.ensures ∙ ap (λ (z : List ℕ). z ++ places (block_code c.as_slice.result.now)) (c.in_ok-push.ensures.items ∙ ap (λ (z : List ℕ). z ++ at ∷ []) c.new-places.ensures.items) ∙ ap (λ (z : List CheckedStmt). at ∷ places (block_code z)) c.as_slice.ensures in
    omega (arith, ap length whole, places_count body, c.requires, c.add_block.new.out.ok.0)

pub returns : goal.returns
returns c =
    let at = c.args.handler.now.at in
    let body = block_code c.args.handler.now.body in
    let items = c.add_block.new.out.items in
    let whole : items ≡ at ∷ places body = c.in_ok-add_block.ensures ∙ ap (λ (z : List ℕ). z ++ places (block_code c.as_slice.result.now)) (c.in_ok-push.ensures.items ∙ ap (λ (z : List ℕ). z ++ at ∷ []) c.new-places.ensures.items) ∙ ap (λ (z : List CheckedStmt). at ∷ places (block_code z)) c.as_slice.ensures in
    let within : c.args.point < length items = omega (arith, ap length whole, places_count body, c.requires) in
    sym (ap (λ (z : List ℕ). slice_get z c.args.point) whole) ∙ slice_get-get_or items c.args.point c.index.result.now within ∙ ap Some (sym c.index.ensures)
