use Rattle.std.proofs.Common.{ap, ◌∙◌, subst}
use Rattle.byte_ends.specs.Texts.{IsPut}
use Rattle.byte_ends.proofs.Paged.{paged_next, paged_past}
use Rattle.byte_ends.proofs.page_writer.PageWriterTextSink.put.Goals as goal

pub returns-then-reserve-2 : goal.returns-then-reserve-2
returns-then-reserve-2 g c =
    let put = subst (IsPut _ _ _ _ _ _) c.reserve.ensures.held c.flush.ensures.put in
    record {
      before = λ start whole rest d. (c.flush.ensures.name ∙ d.0, paged_next _ _ d.1 put (c.reserve-2.ensures.held ∙ c.flush.ensures.page) c.as_bytes-bytes.ensures.value c.push-then-reserve-2.ensures.held);
    }

pub returns : goal.returns
returns g c =
    let put = subst (IsPut _ _ _ _ _ _) c.reserve.ensures.held c.flush.ensures.put in
    record {
      before = λ start whole rest d. (c.write.ensures.name ∙ c.flush.ensures.name ∙ d.0, paged_past _ _ _ d.1 put c.write.ensures.put (c.reserve-2.ensures.held ∙ c.flush.ensures.page) c.as_bytes-bytes.ensures.value (ap (λ b. b.held) c.write.ensures.page));
    }
