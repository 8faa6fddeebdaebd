-- How many keys tables hold together, and after the serial run.
use Rattle.std.proofs.Common.{◌≡◌, ℕ, zero, suc, ◌+◌, ◌≤◌, List, [], ◌∷◌, length, Some, None, refl, ap, arith}
use Rattle.std.proofs.Math.ListN.{set as put_at}
use Rattle.session_values.specs.declared.kind.TableKind.{TableKind}
use Rattle.session_values.specs.declared.op.Op.{Op}
use Rattle.session_values.specs.Dialogue.{Calls, Answers, Dialogue, rest}
use Rattle.session_values.specs.Kinds.{is_adding}
use Rattle.session_values.specs.Serial.{Served, Session, serve, tables_before}
use Rattle.session_values.specs.Sums.{sum_below}
use Rattle.session_values.specs.Tables.{Container, Tables, after_on, reply, size_of, step, table}
use Rattle.session_values.proofs.Sizes.{on_few, one_most}
use Rattle.session_values.proofs.Sums.{sum_first}
use Rattle.session_hall.proofs.Serial.{serve-answers, serve-calls}
use Rattle.session_values.specs.Opening.{Pair, count_all, tables_of}
use Rattle.session_values.proofs.Openings.{opening_size}

abbrev pub keys_in : Tables → ℕ
keys_in [] = 0
keys_in (c ∷ ts) = size_of c + keys_in ts

-- ---- one operation adds one key at most
put_few : (ts : Tables) (j : ℕ) (c : Container) → size_of c ≤ size_of (table ts j) + 1 → keys_in (put_at ts j c) ≤ keys_in ts + 1
put_few [] j c h = omega arith
put_few (x ∷ ts) zero c h = omega (arith, h)
put_few (x ∷ ts) (suc j) c h = omega (arith, put_few ts j c h)

step_keys : (ts : Tables) (op : Op) → keys_in (step ts op) ≤ keys_in ts + 1
unfolding step
step_keys ts op = put_few ts op.table (after_on (table ts op.table) op) (omega (arith, on_few (table ts op.table) op, one_most (is_adding op.kind)))

-- ---- a run adds as many at most as it calls
none_done : (f : Dialogue) (ts : Tables) → (serve 0 f ts).after ≡ ts
none_done f ts = elim (f []) as (λ x. (elim x as (λ _. Served) [ Calls op ↦ record { entries = []; answer = None; after = ts } | Answers r ↦ record { entries = []; answer = Some r; after = ts } ]).after ≡ ts) [
  | Calls op ↦ refl
  | Answers r ↦ refl
]

serve_keys : (n : ℕ) (f : Dialogue) (ts : Tables) → keys_in (serve n f ts).after ≤ keys_in ts + n
serve_keys zero f ts = omega (arith, ap keys_in (none_done f ts))
serve_keys (suc n) f ts = elim (f []) as (λ x. f [] ≡ x → keys_in (serve (suc n) f ts).after ≤ keys_in ts + suc n) [
  | Calls op ↦ λ e.
      (let is = ap (λ (s : Served). keys_in s.after) (serve-calls n f ts op e) in
      omega (arith, is, serve_keys n (rest f (reply ts op ∷ [])) (step ts op), step_keys ts op))
  | Answers r ↦ λ e.
      (let is = ap (λ (s : Served). keys_in s.after) (serve-answers (suc n) f ts r e) in
      omega (arith, is))
] refl

pub keys_before : (s : Session) (n : ℕ) → keys_in (tables_before s n) ≤ keys_in s.opening + sum_below n s.length
keys_before s zero = omega arith
keys_before s (suc n) = omega (arith, keys_before s n, serve_keys (s.length n) (s.next n) (tables_before s n))

-- ---- tables that open with lists
pub opening_keys : (shape : List TableKind) (lists : List (List Pair)) → keys_in (tables_of shape lists) ≤ count_all lists
opening_keys [] lists = omega arith
opening_keys (kind ∷ shape) [] = omega (arith, opening_size (kind ∷ []) [] 0, opening_keys shape [])
opening_keys (kind ∷ shape) (es ∷ lists) = omega (arith, opening_size (kind ∷ []) (es ∷ []) 0, opening_keys shape lists)

-- ---- table by table
pub keys_each : (ts : Tables) → sum_below (length ts) (λ t. size_of (table ts t)) ≡ keys_in ts
keys_each [] = refl
keys_each (c ∷ ts) = omega (arith, sum_first (length ts) (λ t. size_of (table (c ∷ ts) t)), keys_each ts)
