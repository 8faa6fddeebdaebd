-- The halls of the rounds: one round more leaves those before it as they were.
use Rattle.std.proofs.Common.{◌≡◌, ℕ, suc, ◌+◌, ◌-◌, ◌<◌, ◌≤◌, ◌⊎◌, inl, inr, List, [], ◌∷◌, ◌++◌, length, length-append, length-drop, slice_get, take, drop, Some, is_some, true, nat_lt, refl, sym, ap, ◌∙◌, subst, arith}
use Rattle.std.proofs.lemmas.Bool.Decides.{nat_tests}
use Rattle.std.proofs.lemmas.List.{drop-append-le, take-append-le, take_all}
use Rattle.std.proofs.lemmas.Option.{slice_get_within}
use Rattle.session_values.proofs.Options.{get_front, get_last, stands}
use Rattle.session_values.specs.Opening.{Pair}
use Rattle.session_hall.specs.Closings.{ClosedView, IsDone}
use Rattle.declaration_insertion.specs.Program.{ProgramView}
use Rattle.request_files.specs.Clients.{ClientsView}
use Rattle.handler_machine.specs.Scripts.{meaning}
use Rattle.client_feed.specs.Arrival.{Arrival}
use Rattle.client_feed.specs.Rounds.{AreRounds, IsRound, last_hall, round_begin}
use Rattle.client_feed.proofs.Sessions.{asked, dropped, front_before}

-- the last of a list with one more
pub last_pushed : (halls : List ClosedView) (d : ClosedView) → last_hall (halls ++ d ∷ []) ≡ Some d
last_pushed halls d = get_last halls d (length (halls ++ d ∷ []) - 1) (omega (arith, length-append halls (d ∷ [])))

-- what stands in it
pushed_at : (halls : List ClosedView) (d : ClosedView) (i : ℕ) (e : ClosedView) → slice_get (halls ++ d ∷ []) i ≡ Some e → ((i < length halls) × (slice_get halls i ≡ Some e)) ⊎ ((i ≡ length halls) × (d ≡ e))
pushed_at halls d i e is =
    let within = slice_get_within (halls ++ d ∷ []) i e is in
    let long = length-append halls (d ∷ []) in
    let cases : (i < length halls) ⊎ (i ≡ length halls) = grind (arith, within, long) in
    elim cases [
      | inl l ↦ inl (l, sym (get_front halls (d ∷ []) i l) ∙ is)
      | inr at ↦ (let last = get_last halls d i (sym at) in let same : d ≡ e = cc in inr (at, same))
    ]

-- what came last is all of its round
pub last_arrivals : (got more : List Arrival) (k : ℕ) → length got ≡ k → length more ≤ 256 → take 256 (drop k (got ++ more)) ≡ more
last_arrivals got more k at few =
    ap (λ (n : ℕ). take 256 (drop n (got ++ more))) (sym at)
    ∙ ap (λ (xs : List Arrival). take 256 xs) (dropped got more)
    ∙ take_all 256 more few

module _ (p : ProgramView) (opened : List (List Pair)) (clients : ClientsView) (callers shards : ℕ) where
  abbrev Rounds : List Arrival → List ClosedView → Type 0
  Rounds got halls = AreRounds p opened clients got callers shards halls

  module _ (got more : List Arrival) where
    -- a whole round has the same arrivals
    whole_round : (r : ℕ) → round_begin (suc r) ≤ length got → take 256 (drop (round_begin r) (got ++ more)) ≡ take 256 (drop (round_begin r) got)
    whole_round r whole =
        ap (λ (xs : List Arrival). take 256 xs) (drop-append-le (round_begin r) got more (omega (arith, whole)))
        ∙ take-append-le 256 (drop (round_begin r) got) more (omega (arith, length-drop (round_begin r) got, whole))

    -- and so its hall stays one
    stays : (r : ℕ) (d : ClosedView) → round_begin (suc r) ≤ length got → IsRound p opened clients got callers shards r d → IsRound p opened clients (got ++ more) callers shards r d
    stays r d whole h =
        let Q : List Arrival → Type 0 = λ xs. IsDone (meaning (record { program = p; opening = h.opening; requests = asked clients xs })) d in
        record {
          some = (let some = h.some in omega (arith, length-append got more, some));
          opening = h.opening;
          opening_is = h.opening_is ∙ sym (front_before p opened clients got more (round_begin r) (let some = h.some in omega (arith, some)));
          done = subst Q (sym (whole_round r whole)) h.done;
          callers_are = h.callers_are;
          shards_are = h.shards_are;
        }

    -- so it is with a hall more
    pub hall_more : (halls : List ClosedView) (d : ClosedView) → Rounds got halls → length got ≡ round_begin (length halls) → length (got ++ more) ≤ round_begin (suc (length halls)) → IsRound p opened clients (got ++ more) callers shards (length halls) d → Rounds (got ++ more) (halls ++ d ∷ [])
    hall_more halls d now begins few mine =
        let long : length (halls ++ d ∷ []) ≡ suc (length halls) = omega (arith, length-append halls (d ∷ [])) in
        let R : ℕ → ClosedView → Type 0 = λ r e. IsRound p opened clients (got ++ more) callers shards r e in
        record {
          all = omega (arith, long, few);
          each = λ r e is. elim (pushed_at halls d r e is) [
            | inl old ↦ stays r e (let l = old.0 in omega (arith, l, begins)) (now.each r e old.1)
            | inr new ↦ subst (λ (n : ℕ). R n e) (sym new.0) (subst (λ (x : ClosedView). R (length halls) x) new.1 mine)
          ];
        }

  -- before the first round
  pub no_halls : Rounds [] []
  no_halls = record { all = omega arith; each = λ r d is. absurd (let within = slice_get_within [] r d is in omega (arith, within)) }

  -- there is a hall where something arrived
  pub some_hall : (got : List Arrival) (halls : List ClosedView) → Rounds got halls → is_some (last_hall halls) ≡ nat_lt 0 (length got)
  some_hall got [] h = let all = h.all in let none : length got ≡ 0 = omega (arith, all) in let no : nat_lt 0 0 ≡ nat_lt 0 (length got) = ap (λ (n : ℕ). nat_lt 0 n) (sym none) in no
  some_hall got (d ∷ halls) h = let some = (h.each 0 d refl).some in let yes : true ≡ nat_lt 0 (length got) = grind (arith, nat_tests, some) in let last = stands (d ∷ halls) (length (d ∷ halls) - 1) (omega arith) in ap is_some last.1 ∙ yes
