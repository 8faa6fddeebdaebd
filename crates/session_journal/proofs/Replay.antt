-- Replaying lists of entries one after another, and in another order.
use Rattle.std.proofs.Common.{◌≡◌, List, [], ◌∷◌, ◌++◌, refl, sym, ◌∙◌, ap, subst}
use Rattle.std.specs.List.{AllByRecursion}
use Rattle.session_values.specs.Tables.{Tables, step}
use Rattle.session_values.specs.Commuting.{Commute, Swaps}
use Rattle.session_values.specs.Dialogue.{Entry}
use Rattle.session_journal.specs.Journal.{run, Replays}

pub run-append : (ts : Tables) (es fs : List Entry) → run ts (es ++ fs) ≡ run (run ts es) fs
run-append ts [] fs = refl
run-append ts (e ∷ es) fs = run-append (step ts e.op) es fs

pub Replays-append : (ts : Tables) (es fs : List Entry) → Replays ts es → Replays (run ts es) fs → Replays ts (es ++ fs)
Replays-append ts [] fs h k = k
Replays-append ts (e ∷ es) fs h k = (h.0, Replays-append (step ts e.op) es fs h.1 k)

pub Replays-front : (ts : Tables) (es fs : List Entry) → Replays ts (es ++ fs) → Replays ts es
Replays-front ts [] fs h = tt
Replays-front ts (e ∷ es) fs h = (h.0, Replays-front (step ts e.op) es fs h.1)

pub Replays-back : (ts : Tables) (es fs : List Entry) → Replays ts (es ++ fs) → Replays (run ts es) fs
Replays-back ts [] fs h = h
Replays-back ts (e ∷ es) fs h = Replays-back (step ts e.op) es fs h.1

-- fs replays too, and leaves what es leaves
pub record Instead (ts : Tables) (es fs : List Entry) : Type 0 where
  pub replays : Replays ts fs
  pub same : run ts fs ≡ run ts es

-- an entry moves right past those with which it commutes
pub moves_right : (ts : Tables) (d : Entry) (xs ys : List Entry) → AllByRecursion (λ e. Commute d.op e.op) xs → Replays ts (d ∷ xs ++ ys) → Instead ts (d ∷ xs ++ ys) (xs ++ d ∷ ys)
moves_right ts d [] ys c h = record { replays = h; same = refl }
moves_right ts d (x ∷ xs) ys c h =
    let s : Swaps ts d.op x.op = c.0.at ts in
    let p : Tables → Type 0 = λ us. Replays us (xs ++ ys) in
    let m : Instead (step ts x.op) (d ∷ xs ++ ys) (xs ++ d ∷ ys) = moves_right (step ts x.op) d xs ys c.1 (sym s.first ∙ h.0, subst p s.tables h.1.1) in
    record {
      replays = (sym s.second ∙ h.1.0, m.replays);
      same = m.same ∙ ap (λ us. run us (xs ++ ys)) (sym s.tables);
    }
