-- What a function of the parser returns where a call in it has failed.
use Rattle.std.proofs.Common.{◌≡◌, ◌≤◌, ◌<◌, ◌∷◌, refl, ap, ◌∙◌, length, ℕ, List, Result, Ok, Err, IsErrAnd, arith}
use Rattle.std.specs.Prelude.{◌≢◌, OnOk}
use Rattle.syntax_grammar.specs.declared.word.Word.{Word}
use Rattle.syntax_grammar.specs.Reading.{Reading}
use Rattle.syntax_parser.specs.declared.input.Input.{Input}
use Rattle.syntax_grammar.specs.declared.refusals.SyntaxRefusal.{SyntaxRefusal}
use Rattle.syntax_grammar.specs.declared.refusals.SyntaxRefusal.TheVariants.{NoMemory}
use Rattle.syntax_grammar.specs.Next.{Part}
use Rattle.syntax_parser.specs.Reads.{Refused, Outcome, NamesStay}

-- a refusal is passed on
pub passed_on : {P T : Type 0} (words : P → List Word → List Word) (tree : P → T) {U : List Part → Type 0} {ps : List Part} (qs : List Part) {old : Input} (new : Input) {e : SyntaxRefusal} (r : Result T SyntaxRefusal) → IsErrAnd r (λ x. x ≡ e) → (e ≢ NoMemory → Refused U ps old e) → Outcome words tree U ps qs old r new
passed_on words tree qs new (Ok v) h f = absurd h
passed_on words tree qs new (Err x) h f = rw h f

-- want of memory says nothing of the source
pub no_memory : {P T : Type 0} (words : P → List Word → List Word) (tree : P → T) (U : List Part → Type 0) (ps qs : List Part) (old new : Input) (r : Result T SyntaxRefusal) → IsErrAnd r (λ x. x ≡ NoMemory) → Outcome words tree U ps qs old r new
no_memory words tree U ps qs old new (Ok v) h = absurd h
no_memory words tree U ps qs old new (Err x) h = λ some. absurd (some h)

-- what holds of a success holds where there is none
pub none_read : {T : Type 0} (P : SyntaxRefusal → Type 0) (Q : Type 0) (r : Result T SyntaxRefusal) → IsErrAnd r P → OnOk r Q
none_read P Q (Ok v) h = absurd h
none_read P Q (Err x) h = tt

-- names stay from call to call
pub stays : {a : Reading} → NamesStay a a
stays = record { same = refl; no_fewer = omega arith; home = refl }

pub stays_then : {a b d : Reading} → NamesStay a b → NamesStay b d → NamesStay a d
stays_then f g = record { same = g.same ∙ f.same; no_fewer = omega (arith, f.no_fewer, g.no_fewer); home = g.home ∙ f.home }

-- fewer and fewer words
pub grown : {a b d : ℕ} → a ≤ b → b ≤ d → a ≤ d
grown f g = omega (arith, f, g)

-- a word was taken, and nothing was put back
pub fewer : {w : Word} {old mid : List Word} (new : List Word) → old ≡ w ∷ mid → length new ≤ length mid → length new < length old
fewer new e f = omega (arith, ap length e, f)

pub within : {a b n : ℕ} → a ≤ b → b < n → a < n
within f g = omega (arith, f, g)
