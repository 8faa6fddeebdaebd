-- Handlers of tickets, and how many delays there are.
use Rattle.std.proofs.Common.{◌≡◌, ℕ, zero, suc, ◌<◌, ◌≤◌, List, [], ◌∷◌, ◌++◌, length, Option, Some, None, refl, sym, ap, ◌∙◌, append_assoc, arith}
use Rattle.std.specs.List.{cons_option, slice_get}
use Rattle.std.proofs.lemmas.List.{length-map}
use Rattle.std.proofs.lemmas.Option.{slice_get_past}
use Rattle.request_files.specs.declared.request.Request.{Request}
use Rattle.session_journal.specs.declared.event.Event.{Event}
use Rattle.waiting_pairs.specs.declared.delay.Delay.{Delay}
use Rattle.waiting_pairs.specs.TraceDelays.{delay_of, delays}
use Rattle.waiting_pairs.specs.TraceTold.{handlers_of}

pub handled : (rs : List Request) (t h : ℕ) → t < length rs → ((r : Request) → slice_get rs t ≡ Some r → h ≡ r.handler) → Some h ≡ slice_get (handlers_of rs) t
handled [] t h lt f = absurd (omega (arith, lt))
handled (r ∷ rs) zero h lt f = ap (λ (n : ℕ). Some n) (f r refl)
handled (r ∷ rs) (suc t) h lt f = handled rs t h (omega (arith, lt)) f

pub unhandled : (rs : List Request) (t : ℕ) → length rs ≤ t → None ≡ slice_get (handlers_of rs) t
unhandled rs t le = sym (slice_get_past (handlers_of rs) t (omega (arith, le, length-map rs (λ (r : Request). r.handler))))

one_few : (o : Option Delay) (ds : List Delay) (n : ℕ) → length ds ≤ n → length (cons_option o ds) ≤ suc n
one_few None ds n le = omega (arith, le)
one_few (Some d) ds n le = omega (arith, le)

pub few : (es : List Event) → length (delays es) ≤ length es
few [] = omega arith
few (e ∷ es) = one_few (delay_of e) (delays es) (length es) (few es)

-- three texts behind one another
pub three : (o a b c x y z : List ℕ) → x ≡ o ++ a → y ≡ x ++ b → z ≡ y ++ c → z ≡ o ++ ((a ++ b) ++ c)
three o a b c x y z e f g =
    g ∙ ap (λ (s : List ℕ). s ++ c) (f ∙ ap (λ (s : List ℕ). s ++ b) e ∙ append_assoc o a b) ∙ append_assoc o (a ++ b) c
