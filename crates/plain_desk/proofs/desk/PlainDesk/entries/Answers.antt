use Rattle.std.proofs.Common.{◌≡◌, List, length, ◌≤◌, slice_range, subst, sym, ◌∙◌, ap}
use Rattle.session_values.specs.Dialogue.{Entry}
use Rattle.session_values.specs.Serial.{serial}
use Rattle.session_journal.specs.Script.{session_of}
use Rattle.plain_desk.specs.PlainDesks.{PlainView}
use Rattle.plain_desk.proofs.Serving.{serial_at}
use Rattle.plain_desk.proofs.desk.PlainDesk.entries.Goals as goal

pub part-requires-clause-order : goal.part-requires-clause-order
part-requires-clause-order g c =
    let found = c.in_ok-place.ensures.lookup in
    (serial_at _ _ _ _ _ _ c.self.invariant.serial c.deref.ensures.value found.3.0 found.1).order

pub part-requires-clause-within : goal.part-requires-clause-within
part-requires-clause-within g c =
    let found = c.in_ok-place.ensures.lookup in
    let P : List Entry → Type 0 = λ es. c.in_ok-place.place.now.until ≤ length es in
    subst P (sym c.as_slice.ensures.value) (serial_at _ _ _ _ _ _ c.self.invariant.serial c.deref.ensures.value found.3.0 found.1).within

pub returns-clause-serial : goal.returns-clause-serial
returns-clause-serial g c =
    let found = c.in_ok-place.ensures.lookup in
    let P : PlainView g.row.S.Denot → Type 0 = λ v. slice_range c.self.inside.entries.items c.in_ok-place.place.now.from c.in_ok-place.place.now.until ≡ (serial (session_of (g.S.Script.meaning v.script)) c.args.t).entries in
    let is = subst P c.self.view_is (serial_at _ _ _ _ _ _ c.self.invariant.serial c.deref.ensures.value found.3.0 found.1).entries in
    sym (c.part.ensures ∙ ap (λ (es : List Entry). slice_range es c.in_ok-place.place.now.from c.in_ok-place.place.now.until) c.as_slice.ensures.value ∙ is)
