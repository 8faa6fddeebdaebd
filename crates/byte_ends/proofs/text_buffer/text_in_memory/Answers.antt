use Rattle.std.proofs.Common.{◌++◌, append-nil, ap, sym, ◌∙◌}
use Rattle.byte_ends.proofs.Paged.{ended}
use Rattle.byte_ends.proofs.text_buffer.text_in_memory.Goals as goal

pub returns-else-short : goal.returns-else-short
returns-else-short g c =
    let due = ended c.put_text.ensures (λ e. ap (λ xs. xs ++ g.P.PutsText.text c.args.text.now) c.in_ok-with_capacity.ensures.bytes) in
    sym (append-nil _) ∙ due c.if-short.false
