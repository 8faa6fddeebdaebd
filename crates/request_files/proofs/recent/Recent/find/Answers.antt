-- A name that stands at a place is found there, since no other place has it.
use Rattle.std.proofs.Common.{Some, slice_index_or, ap, sym, ◌∙◌}
use Rattle.std.proofs.lemmas.Slice.Eq.{bytes_eq-Decides}
use Rattle.request_files.proofs.HandlerLemmas.{place_found}
use Rattle.request_files.proofs.recent.Recent.find.Goals as goal

pub returns-then-eq : goal.returns-then-eq
returns-then-eq c =
    place_found c.args.names.now c.args.name.now (slice_index_or c.args.self.now.places c.slot_of-slot.result 0) c.len.ensures.distinct (c.text.ensures ∙ ap Some ((bytes_eq-Decides c.text.result.now c.args.name.now).0 (sym c.if-eq.ensures)))
