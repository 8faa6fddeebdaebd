use Rattle.std.proofs.Common.{◌≡◌, Bool, sym, ap, subst, ◌∙◌}
use Rattle.std.specs.Bool.{Decides}
use Rattle.session_values.specs.declared.value.Value.{Value}
use Rattle.waiting_pairs.specs.Delays.{Delays}
use Rattle.waiting_pairs.specs.Opened.{Tells}
use Rattle.waiting_pairs.specs.Sought.{known_or_zero}
use Rattle.waiting_pairs.proofs.Tied.{decide_free, decide_tied}
use Rattle.waiting_pairs.proofs.delaying.delays_on_one.Goals as goal

pub returns-then-has_tied : goal.returns-then-has_tied
returns-then-has_tied c =
    let s = c.args.s.now in
    let o = c.args.o.now in
    let P : Bool → Type 0 = λ r. Decides r (Delays s o) in
    let own : Tells s o (known_or_zero s.key) c.differ_with-own.result = subst (λ (v : Value). Tells s o v c.differ_with-own.result) (c.known_or_zero.ensures ∙ ap known_or_zero c.key.ensures) c.differ_with-own.ensures in
    let other : Tells s o (known_or_zero o.key) c.differ_with-other.result = subst (λ (v : Value). Tells s o v c.differ_with-other.result) (c.known_or_zero-then-has_tied.ensures ∙ ap known_or_zero c.key-then-has_tied.ensures) c.differ_with-other.ensures in
    subst P (sym c.is_any.ensures) (decide_tied s o _ _ _ _ c.bounds.ensures c.bounds-2.ensures (sym c.has_tied.ensures ∙ c.if-has_tied.true) c.differ_with-zero.ensures c.differ_with-one.ensures own other)

pub returns-else-has_tied : goal.returns-else-has_tied
returns-else-has_tied c = decide_free c.args.s.now c.args.o.now _ (sym c.has_tied.ensures ∙ c.if-has_tied.false) c.differ_with-zero.ensures
