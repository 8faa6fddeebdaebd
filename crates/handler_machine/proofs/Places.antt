-- The places of a run.
use Rattle.std.proofs.Common.{◌≡◌, ◌+◌, arith, Bool, true, false, if◌then◌else◌, List, [], ◌∷◌, ◌++◌, append_assoc, Result, Ok, Err, OnErr, refl, sym, ap}
use Rattle.check_meaning.specs.Dialogue.{Place, Outcome, Calls, Answers, Goes, after, last_place, last_replied}
use Rattle.handler_machine.specs.Serving.{replied_count}

pub after_snoc : (ps : List Place) (p : Place) (o : Outcome) → after ps (after (p ∷ []) o) ≡ after (ps ++ p ∷ []) o
after_snoc ps p (Calls qs op) = ap (λ (zs : List Place). Calls zs op) (sym (append_assoc ps (p ∷ []) qs))
after_snoc ps p (Answers qs vs) = ap (λ (zs : List Place). Answers zs vs) (sym (append_assoc ps (p ∷ []) qs))
after_snoc ps p (Goes qs env left) = ap (λ (zs : List Place). Goes zs env left) (sym (append_assoc ps (p ∷ []) qs))

pub last_append : (at : Place) (ps qs : List Place) → last_place at (ps ++ qs) ≡ last_place (last_place at ps) qs
last_append at [] qs = refl
last_append at (p ∷ ps) qs = last_append p ps qs

pub replied_append : (at : Place) (ps qs : List Place) → last_replied at (ps ++ qs) ≡ last_replied (last_replied at ps) qs
replied_append at [] qs = refl
replied_append at (p ∷ ps) qs = replied_append (if p.replied then p else at) ps qs

pub count_append : (ps qs : List Place) → replied_count (ps ++ qs) ≡ replied_count ps + replied_count qs
count_append [] qs = omega arith
count_append (p ∷ ps) qs = omega (arith, count_append ps qs)

-- places of which no reply led to one
picks : (b : Bool) (p at : Place) (ps : List Place) → (if b then 1 else 0) + replied_count ps ≡ 0 → ((q : Place) → replied_count ps ≡ 0 → last_replied q ps ≡ q) → last_replied (if b then p else at) ps ≡ at
picks true p at ps h more = absurd (omega (arith, h))
picks false p at ps h more = more at (omega (arith, h))

pub none_replied : (at : Place) (ps : List Place) → replied_count ps ≡ 0 → last_replied at ps ≡ at
none_replied at [] h = refl
none_replied at (p ∷ ps) h = picks p.replied p at ps h (λ q k. none_replied q ps k)

-- ---- results
pub on_err : {X E : Type 0} (r : Result X E) (P : Type 0) → P → OnErr r P
on_err (Ok x) P h = tt
on_err (Err e) P h = h
