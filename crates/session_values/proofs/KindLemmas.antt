-- The kinds of tables, which no operation changes, and the kinds of operations by their places.
use Rattle.std.proofs.Common.{◌≡◌, ℕ, zero, suc, ◌<◌, [], ◌∷◌, length, map, set, Result, Ok, Err, OnOk, OnErr, refl, sym, ◌∙◌, ap, arith}
use Rattle.session_values.specs.declared.kind.Kind.{Kind}
use Rattle.session_values.specs.declared.kind.Kind.TheVariants.{Get, Put, Swap, Del, Size, Bump, Has, Add, Mark, Drop, Count}
use Rattle.session_values.specs.declared.kind.TableKind.{TableKind}
use Rattle.session_values.specs.declared.kind.TableKind.TheVariants.{Map, Set}
use Rattle.session_values.specs.declared.op.Op.{Op}
use Rattle.session_values.specs.Kinds.{kind_place}
use Rattle.session_values.specs.Tables.{Tables, after_on, kind_of, step, table}
use Rattle.session_values.proofs.Puts.{kind_after}

pub map_set : ◌≡◌ {A = TableKind} Map Set → ⊥
map_set e = cc

-- ---- tables
pub set-table : (all : Tables) (i : ℕ) → i < length all → set all i (table all i) ≡ all
set-table [] i h = refl
set-table (c ∷ all) zero h = refl
set-table (c ∷ all) (suc i) h = ap (λ cs. c ∷ cs) (set-table all i (omega (arith, h)))

kinds-after : (all : Tables) (i : ℕ) (op : Op) → map kind_of (set all i (after_on (table all i) op)) ≡ map kind_of all
kinds-after [] i op = refl
kinds-after (c ∷ all) zero op = ap (λ kind. kind ∷ map kind_of all) (kind_after c op)
kinds-after (c ∷ all) (suc i) op = ap (λ kinds. kind_of c ∷ kinds) (kinds-after all i op)

-- an operation leaves the kinds as they were
pub kinds-step : (all : Tables) (op : Op) → map kind_of (step all op) ≡ map kind_of all
unfolding step
kinds-step all op = kinds-after all op.table op

pub kinds_kept : {A E : Type 0} (r : Result A E) (all now : Tables) (op : Op) → OnOk r (now ≡ step all op) → OnErr r (now ≡ all) → map kind_of now ≡ map kind_of all
kinds_kept (Ok _) all now op after same = ap (map kind_of) after ∙ kinds-step all op
kinds_kept (Err _) all now op after same = ap (map kind_of) same

-- ---- operations
kind_at : ℕ → Kind
kind_at zero = Get
kind_at (suc zero) = Put
kind_at (suc (suc zero)) = Swap
kind_at (suc (suc (suc zero))) = Del
kind_at (suc (suc (suc (suc zero)))) = Size
kind_at (suc (suc (suc (suc (suc zero))))) = Bump
kind_at (suc (suc (suc (suc (suc (suc zero)))))) = Has
kind_at (suc (suc (suc (suc (suc (suc (suc zero))))))) = Add
kind_at (suc (suc (suc (suc (suc (suc (suc (suc zero)))))))) = Mark
kind_at (suc (suc (suc (suc (suc (suc (suc (suc (suc zero))))))))) = Drop
kind_at _ = Count

kind_at-place : (k : Kind) → kind_at (kind_place k) ≡ k
unfolding kind_at
kind_at-place Get = refl
kind_at-place Put = refl
kind_at-place Swap = refl
kind_at-place Del = refl
kind_at-place Size = refl
kind_at-place Bump = refl
kind_at-place Has = refl
kind_at-place Add = refl
kind_at-place Mark = refl
kind_at-place Drop = refl
kind_at-place Count = refl

-- kinds of one place are one kind
pub one_place : (a b : Kind) → kind_place a ≡ kind_place b → a ≡ b
one_place a b e = sym (kind_at-place a) ∙ ap kind_at e ∙ kind_at-place b
