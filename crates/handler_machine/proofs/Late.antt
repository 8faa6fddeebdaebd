-- A desk that is told of a declaration later than its point is passed.
use Rattle.std.proofs.Common.{◌≡◌, ◌∙◌, Bool, true, false, List, Result, Ok, Err, IfOk, MatchResult, refl, sym, ap, subst}
use Rattle.session_values.specs.declared.value.Value.{Value}
use Rattle.session_values.specs.Values.{IsValue}
use Rattle.symbolic_ops.specs.declared.symbol.Symbol.{Symbol}
use Rattle.symbolic_ops.proofs.Above.{covered_through}
use Rattle.session_journal.specs.Desks.{DeskView, MayNarrow}
use Rattle.session_journal.specs.Script.{Meaning}
use Rattle.check_meaning.specs.Ahead.{Ahead}
use Rattle.handler_machine.specs.Serving.{Course, IsServing, MayTell, once_told}

-- where it has been told, it is as it is
pub is_told : (late : Bool) (f : List Symbol) (d : DeskView) (P : DeskView → Type 0) → late ≡ false → P d → P (once_told late f d)
is_told true f d P e p = cc
is_told false f d P e p = p

-- a walk that has told its desk of the list that it kept goes on with it
pub serving_told : (c : Course) (late : Bool) (f g : List Symbol) (d new : DeskView) (ahead : Ahead) → f ≡ g → new ≡ once_told late f d → IsServing c (once_told late g d) ahead → IsServing c new ahead
serving_told c late f g d new ahead e told s = subst (λ (z : DeskView). IsServing c z ahead) (sym (told ∙ ap (λ (l : List Symbol). once_told late l d) e)) s

pub nothing_to_tell : (m : Meaning) (late : Bool) (f : List Symbol) (d : DeskView) → late ≡ false → MayTell m late f d
nothing_to_tell m true f d e = cc
nothing_to_tell m false f d e = λ h. cc

-- what may follow a list of which it hasn't been told may take the place of what is present
pub may_still : (m : Meaning) (late : Bool) (f g : List Symbol) (d : DeskView) → MayTell m late f d → MayNarrow m d.ticket d.entries (once_told late f d).present g → MayNarrow m d.ticket d.entries d.present g
may_still m true f g d h k = record { covered = covered_through g f d.present k.covered (h refl).covered; foresight = k.foresight }
may_still m false f g d h k = k

-- what is said of a reply that a desk gave
answered_with : {E : Type 0} (r : Result Value E) (A P : Value → Type 0) (B Q : Type 0) → IfOk r IsValue → MatchResult r A (λ _. B) → ((v : Value) → IsValue v → A v → P v) → (B → Q) → MatchResult r P (λ _. Q)
answered_with (Ok v) A P B Q is h p q = p v is h
answered_with (Err e) A P B Q is h p q = q h

pub answered : {E : Type 0} (r s : Result Value E) → s ≡ r → IfOk s IsValue → (A P : Value → Type 0) (B Q : Type 0) → MatchResult r A (λ _. B) → ((v : Value) → IsValue v → A v → P v) → (B → Q) → MatchResult s P (λ _. Q)
answered {E} r s same is A P B Q h p q = answered_with s A P B Q is (subst (λ (z : Result Value E). MatchResult z A (λ _. B)) (sym same) h) p q
