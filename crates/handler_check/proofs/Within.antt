-- Accepted handlers stay within the bounds.
use Rattle.std.proofs.Common.{◌≡◌, ℕ, ◌<◌, ◌≤◌, ◌==◌, min, nat_lt, Bool, true, false, ◌&&◌, if◌then◌else◌, List, slice_get, Some, refl, arith}
use Rattle.std.proofs.lemmas.Option.{slice_get_within, get_or_from_slice_get}
use Rattle.std.proofs.Math.Nat.{mul-le-mul_left}
use Rattle.std.proofs.lemmas.Bool.{ltb-true, ltb-false}
use Rattle.std.specs.List.{Contains}
use Rattle.session_values.specs.Kinds.{is_adding}
use Rattle.syntax_trees.specs.declared.file.File.{File}
use Rattle.syntax_trees.specs.declared.file.Handler.{Handler}
use Rattle.check_meaning.specs.Bounds.{bound, adding, calls_bound, adds_bound, work_bound}
use Rattle.check_meaning.specs.Code.{Code, Finish, Move, Ask, Fork, Loop, Quit}
use Rattle.handler_check.specs.declared.refusal.CheckRefusal.TheVariants.{TooManyCalls, TooMuchWork}
use Rattle.handler_check.specs.Checking.{IsAccepted}
use Rattle.handler_check.specs.Resolved.{handler_code}

no_more : (limit n : ℕ) → (limit < n → ⊥) → n ≤ limit
no_more limit n never = go (nat_lt limit n) refl
  where
    go : (b : Bool) → nat_lt limit n ≡ b → n ≤ limit
    go true e = absurd (never (ltb-true limit n e))
    go false e = ltb-false limit n e

pub in_file : (hs : List Handler) (i : ℕ) (h : Handler) → slice_get hs i ≡ Some h → Contains hs h
in_file hs i h e = (i, slice_get_within hs i h e, get_or_from_slice_get hs i h h e)

pub few_calls : (f : File) (i : ℕ) (h : Handler) → IsAccepted f → slice_get f.handlers i ≡ Some h → calls_bound (handler_code f h) ≤ 10000
few_calls f i h a e = no_more 10000 (calls_bound (handler_code f h)) (λ l. a.within (TooManyCalls h.at) (h, in_file f.handlers i h e, refl, l))

pub little_work : (f : File) (i : ℕ) (h : Handler) → IsAccepted f → slice_get f.handlers i ≡ Some h → work_bound (handler_code f h) ≤ 100000
little_work f i h a e = no_more 100000 (work_bound (handler_code f h)) (λ l. a.within (TooMuchWork h.at) (h, in_file f.handlers i h e, refl, l))

pub one_at_most : (b : Bool) → (if b then 1 else 0) ≤ 1
one_at_most true = omega arith
one_at_most false = omega arith

pub adds_fewer : (t : ℕ) (c : Code) → adds_bound t c ≤ calls_bound c
adds_fewer t Finish = omega arith
adds_fewer t (Move x e rest) = adds_fewer t rest
adds_fewer t (Ask at p x c rest) = (let a : (if is_adding c.kind && c.table == t then 1 else 0) ≤ 1 = one_at_most (is_adding c.kind && c.table == t) in let b = adds_fewer t rest in omega arith)
adds_fewer t (Fork at p q test a b rest) = (let x = adds_fewer t a in let y = adds_fewer t b in let z = adds_fewer t rest in omega arith)
adds_fewer t (Loop at p n x body rest) = (let y = mul-le-mul_left n (adds_fewer t body) in let z = adds_fewer t rest in omega arith)
adds_fewer t (Quit es rest) = adds_fewer t rest

-- the count of a handler's adding calls is no more than its bound on all calls, and so isn't cut
pub adds_exact : (t : ℕ) (c : Code) (r : ℕ) → calls_bound c ≤ 10000 → r ≡ min (bound (adding t) c) 4294967295 → (r ≡ adds_bound t c) × (r ≤ 10000)
adds_exact t c r few same = (let fewer = adds_fewer t c in (omega (arith, few, same, fewer), omega (arith, few, same, fewer)))

-- a count that is no more than a bound isn't cut
pub count_exact : (n r limit : ℕ) → r ≡ min n 4294967295 → r ≤ limit → limit < 4294967295 → r ≡ n
count_exact n r limit same few small = omega arith
