-- Judging one event after another.
use Rattle.std.proofs.Common.{◌≡◌, ℕ, ◌+◌, ◌<◌, ◌≤◌, List, [], ◌∷◌, ◌++◌, length, take, drop, Bool, true, false, Some, None, sym, ◌∙◌, ap, subst, arith, get_or}
use Rattle.std.proofs.lemmas.List.{drop_more, length-take-le, take-append-drop, take_all, take_more}
use Rattle.session_journal.specs.declared.event.Event.{Event}
use Rattle.session_journal.specs.Script.{Meaning}
use Rattle.trace_audit.specs.Desk.{ReplayView}
use Rattle.trace_audit.specs.Judging.{FrontView, IsFirst, IsFront, IsNext, JudgesEvents, Takes, WereRun}

-- what is kept is that of the first events
abbrev pub SoFar : List ReplayView → List Event → FrontView → ℕ → FrontView → Type 0
SoFar rs J first i f = (m : Meaning) → WereRun m J rs → IsFront m rs [] first → IsFront m rs (take i J) f

cut : (J : List Event) (i : ℕ) (e : Event) → i < length J → e ≡ get_or J i e → J ≡ take i J ++ e ∷ drop (i + 1) J
cut J i e l is = sym (take-append-drop i J) ∙ ap (λ (K : List Event). take i J ++ K) (drop_more J i e l ∙ ap (λ (x : Event). x ∷ drop (i + 1) J) (sym is))

pub judge_next : (rs : List ReplayView) (J : List Event) (first f : FrontView) (i : ℕ) (e : Event) → IsFirst rs J first → SoFar rs J first i f → i < length J → e ≡ get_or J i e → IsNext rs e f
judge_next rs J first f i e start so l is = record {
  meaning = start.meaning;
  events = J;
  front = take i J;
  back = drop (i + 1) J;
  run = start.run;
  is = cut J i e l is;
  kept = so start.meaning start.run start.kept;
}

pub judge_on : (rs : List ReplayView) (J : List Event) (first f g : FrontView) (i : ℕ) (e : Event) (took : Bool) → SoFar rs J first i f → i < length J → e ≡ get_or J i e → took ≡ true → Takes rs e f took g → SoFar rs J first (i + 1) g
judge_on rs J first f g i e took so l is taken takes m w k =
    let T : Bool → Type 0 = λ b. Takes rs e f b g in
    let P : List Event → Type 0 = λ K. IsFront m rs K g in
    let longer : take (i + 1) J ≡ take i J ++ e ∷ [] = take_more J i e l ∙ ap (λ (x : Event). take i J ++ x ∷ []) (sym is) in
    let t : Takes rs e f true g = subst T taken takes in
    subst P (sym longer) (t m J (take i J) (drop (i + 1) J) w (cut J i e l is) (so m w k)).1

pub judge_stop : (rs : List ReplayView) (J : List Event) (first f g : FrontView) (i : ℕ) (e : Event) (took : Bool) → SoFar rs J first i f → i < length J → e ≡ get_or J i e → took ≡ false → Takes rs e f took g → JudgesEvents rs J first (Some i) g
judge_stop rs J first f g i e took so l is refused takes m w k =
    let T : Bool → Type 0 = λ b. Takes rs e f b g in
    let t : Takes rs e f false g = subst T refused takes in
    let kept : IsFront m rs (take i J) f = so m w k in
    let within : i ≤ length J = omega (arith, l) in
    record {
      front = take i J;
      event = e;
      back = drop (i + 1) J;
      is = cut J i e l is;
      count = length-take-le i J within;
      before = kept.allowed;
      against = t m J (take i J) (drop (i + 1) J) w (cut J i e l is) kept;
    }

pub judge_all : (rs : List ReplayView) (J : List Event) (first f : FrontView) (i : ℕ) → SoFar rs J first i f → length J ≤ i → JudgesEvents rs J first None f
judge_all rs J first f i so l m w k = let P : List Event → Type 0 = λ K. IsFront m rs K f in subst P (take_all i J l) (so m w k)
