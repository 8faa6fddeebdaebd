-- A program's script has the points of the program's handlers, and the entries of its tables.
use Rattle.std.proofs.Common.{◌≡◌, ℕ, zero, suc, ◌+◌, ◌<◌, arith, List, [], ◌∷◌, length, slice_get, refl, sym, subst}
use Rattle.std.specs.List.{AllByRecursion}
use Rattle.symbolic_ops.specs.declared.symbol.Symbol.{Symbol}
use Rattle.symbolic_ops.specs.Instantiate.{IsWithin}
use Rattle.session_journal.specs.Script.{HasSite}
use Rattle.syntax_trees.specs.declared.file.File.{File}
use Rattle.syntax_trees.specs.declared.file.Handler.{Handler}
use Rattle.check_meaning.specs.Code.{points}
use Rattle.handler_check.specs.Resolved.{code_at, code_in, variables_at}
use Rattle.handler_check.proofs.Codes.{all_within}
use Rattle.may_use_analysis.specs.Own.{IsOfHandler}
use Rattle.declaration_insertion.specs.Program.{declared_at}
use Rattle.declaration_insertion.proofs.Programs.{program_own, program_vars}
use Rattle.session_values.specs.Opening.{Pair}
use Rattle.handler_machine.specs.Scripts.{KeepsScripts, ScriptsView, meaning, meaning_over, points_in}
use Rattle.handler_machine.specs.Serving.{DeclaresHandler}

-- ---- points
points_among : (f : File) (hs : List Handler) (h : ℕ) → h < length hs → points_in f (slice_get hs h) ≡ 1 + points (code_in f (slice_get hs h))
points_among f [] h l = absurd (omega (arith, l))
points_among f (x ∷ hs) zero l = refl
points_among f (x ∷ hs) (suc h) l = points_among f hs h (omega (arith, l))

handler_among : (f : File) (hs : List Handler) (h p : ℕ) → p < points_in f (slice_get hs h) → h < length hs
handler_among f [] h p l = absurd (omega (arith, l))
handler_among f (x ∷ hs) zero p l = omega arith
handler_among f (x ∷ hs) (suc h) p l = omega (arith, handler_among f hs h p l)

-- a script's handler has its points, and a part with a point is a handler
pub points_of_handler : (s : ScriptsView) (h : ℕ) → h < length s.program.file.handlers → (meaning s).points h ≡ 1 + points (code_at s.program.file h)
points_of_handler s h inside = points_among s.program.file s.program.file.handlers h inside

pub part_is_handler : (s : ScriptsView) (h point : ℕ) → point < (meaning s).points h → h < length s.program.file.handlers
part_is_handler s h point at = handler_among s.program.file s.program.file.handlers h point at

-- ---- declarations
own_within : (f : File) (h : ℕ) (list : List Symbol) → AllByRecursion (IsOfHandler f h) list → AllByRecursion (λ y. IsWithin (length (variables_at f h)) y) list
own_within f h [] own = tt
own_within f h (y ∷ list) own = (own.0.within, own_within f h list own.1)

module _ (s : ScriptsView) (k : KeepsScripts s) (h : ℕ) (inside : h < length s.program.file.handlers) where
  there : (point : ℕ) → point < 1 + points (code_at s.program.file h) → point < (meaning s).points h
  there point at = subst (λ (n : ℕ). point < n) (sym (points_of_handler s h inside)) at

  -- at the points of a handler it declares what the program does
  pub declares_handler : DeclaresHandler (meaning s) s.program h
  declares_handler = record {
    sites = λ point at. record {
      there = there point at;
      few = (all_within s.program.file k.program.accepted k.program.bounds h).variables;
      within = own_within s.program.file h (declared_at s.program h point) (program_own s.program k.program h inside point);
    };
    lists = λ point at. refl;
  }

  -- and it has the handler's entry, where as many variables as a handler may have are enough
  pub has_entry : HasSite (meaning s) (record { part = h; point = 0 }) 32
  has_entry = record { there = there 0 (omega arith); few = omega arith; within = program_vars s.program k.program h inside 0 }

-- with which entries the tables open makes no difference to what is declared
pub declares_over : (s : ScriptsView) (opening : List (List Pair)) (h : ℕ) → DeclaresHandler (meaning s) s.program h → DeclaresHandler (meaning_over s opening) s.program h
declares_over s opening h d = record {
  sites = λ point l. let k = d.sites point l in record { there = k.there; few = k.few; within = k.within };
  lists = d.lists;
}
