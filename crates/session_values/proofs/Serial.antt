-- The replies of a serial run, one for each ticket that is answered.
use Rattle.std.proofs.Common.{◌≡◌, ℕ, zero, suc, ◌<◌, ◌≤◌, [], ◌∷◌, ◌++◌, ⊎_elim, Option, Some, None, length, length-append, slice_get, sym, refl, ◌∙◌, ap, arith}
use Rattle.std.proofs.lemmas.Bool.{cases_lt}
use Rattle.session_values.specs.declared.reply.Reply.{Reply}
use Rattle.session_values.specs.Serial.{Session, answered, serial, serial_replies}
use Rattle.session_values.proofs.Options.{get_front, get_last}

-- no ticket has two replies
one_answer : (o : Option Reply) → length (answered o) ≤ 1
one_answer None = omega arith
one_answer (Some r) = omega arith

pub replies_few : (s : Session) (n : ℕ) → length (serial_replies s n) ≤ n
replies_few s zero = omega arith
replies_few s (suc t) = omega (arith, replies_few s t, one_answer (serial s t).answer, length-append (serial_replies s t) (answered (serial s t).answer))

-- where each ticket is answered, each has its place
module _ (s : Session) (each : (t : ℕ) → (r : Reply) × ((serial s t).answer ≡ Some r)) where
  one_more : (n : ℕ) → serial_replies s (suc n) ≡ serial_replies s n ++ (each n).0 ∷ []
  one_more n = ap (λ o. serial_replies s n ++ answered o) (each n).1

  pub serial_length : (n : ℕ) → length (serial_replies s n) ≡ n
  serial_length zero = refl
  serial_length (suc n) = let front = serial_length n in let more = length-append (serial_replies s n) ((each n).0 ∷ []) in ap length (one_more n) ∙ omega (arith, front, more)

  pub at_serial : (n t : ℕ) → t < n → slice_get (serial_replies s n) t ≡ (serial s t).answer
  at_serial zero t l = absurd (omega (arith, l))
  at_serial (suc n) t l = ⊎_elim
      (λ (low : t < n). ap (λ rs. slice_get rs t) (one_more n) ∙ get_front (serial_replies s n) ((each n).0 ∷ []) t (let k = serial_length n in omega (arith, k, low)) ∙ at_serial n t low)
      (λ (high : n ≤ t). let same : n ≡ t = omega (arith, l, high) in ap (λ rs. slice_get rs t) (one_more n) ∙ get_last (serial_replies s n) (each n).0 t (serial_length n ∙ same) ∙ sym (each n).1 ∙ ap (λ u. (serial s u).answer) same)
      (cases_lt t n)
