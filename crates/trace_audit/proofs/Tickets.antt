-- Replaying the tickets one after another.
use Rattle.std.proofs.Common.{◌≡◌, ℕ, ◌+◌, ◌<◌, ◌≤◌, List, [], ◌∷◌, ◌++◌, length, map, take, drop, Bool, true, false, Some, None, refl, sym, ◌∙◌, ap, subst, get_or, append-nil, append_assoc}
use Rattle.std.proofs.lemmas.List.{drop_more, take-append-drop, take_all, take_more}
use Rattle.session_values.specs.declared.kind.TableKind.{TableKind}
use Rattle.session_values.specs.Dialogue.{Entry}
use Rattle.session_values.specs.Tables.{Tables, kind_of}
use Rattle.session_journal.specs.Journal.{Replays, run}
use Rattle.session_journal.proofs.Replay.{Replays-append, Replays-back, run-append}
use Rattle.trace_audit.specs.Desk.{ReplayView}
use Rattle.trace_audit.specs.Replaying.{AllFit, EntriesFit, FindsUnreplayed, Replayed, joined}

-- the entries of the first tickets replayed
pub record Done (old : Tables) (rs : List ReplayView) (t : ℕ) (now : Tables) : Type 0 where
  pub replays : Replays old (joined (take t rs))
  pub after : now ≡ run old (joined (take t rs))
  pub kinds : map kind_of now ≡ map kind_of old

pub none_done : (old : Tables) (rs : List ReplayView) → Done old rs 0 old
none_done old rs = record { replays = tt; after = refl; kinds = refl }

joined-append : (rs ss : List ReplayView) → joined (rs ++ ss) ≡ joined rs ++ joined ss
joined-append [] ss = refl
joined-append (x ∷ rs) ss = ap (λ (es : List Entry). x.entries ++ es) (joined-append rs ss) ∙ sym (append_assoc x.entries (joined rs) (joined ss))

pub joined_more : (rs : List ReplayView) (t : ℕ) (x : ReplayView) → t < length rs → x ≡ get_or rs t x → joined (take (t + 1) rs) ≡ joined (take t rs) ++ x.entries
joined_more rs t x l is =
    ap joined (take_more rs t x l ∙ ap (λ (y : ReplayView). take t rs ++ y ∷ []) (sym is))
    ∙ joined-append (take t rs) (x ∷ []) ∙ ap (λ (es : List Entry). joined (take t rs) ++ es) (append-nil x.entries)

fit_in : (shape : List TableKind) (rs : List ReplayView) (x : ReplayView) (ss : List ReplayView) → AllFit shape (rs ++ x ∷ ss) → EntriesFit shape x.entries
fit_in shape [] x ss a = a.0
fit_in shape (y ∷ rs) x ss a = fit_in shape rs x ss a.1

pub ticket_fits : (old now : Tables) (rs : List ReplayView) (t : ℕ) (x : ReplayView) → AllFit (map kind_of old) rs → Done old rs t now → t < length rs → x ≡ get_or rs t x → EntriesFit (map kind_of now) x.entries
ticket_fits old now rs t x fits d l is =
    let P : List ReplayView → Type 0 = λ ys. AllFit (map kind_of old) ys in
    let Q : List TableKind → Type 0 = λ ks. EntriesFit ks x.entries in
    let cut : rs ≡ take t rs ++ x ∷ drop (t + 1) rs = sym (take-append-drop t rs) ∙ ap (λ (ys : List ReplayView). take t rs ++ ys) (drop_more rs t x l ∙ ap (λ (y : ReplayView). y ∷ drop (t + 1) rs) (sym is)) in
    subst Q (sym d.kinds) (fit_in (map kind_of old) (take t rs) x (drop (t + 1) rs) (subst P cut fits))

pub ticket_done : (old now next : Tables) (rs : List ReplayView) (t : ℕ) (x : ReplayView) (took : Bool) → Done old rs t now → t < length rs → x ≡ get_or rs t x → took ≡ true → Replayed now x.entries took next → map kind_of next ≡ map kind_of now → Done old rs (t + 1) next
ticket_done old now next rs t x took d l is taken made kinds =
    let T : Bool → Type 0 = λ b. Replayed now x.entries b next in
    let r : Replayed now x.entries true next = subst T taken made in
    let longer : joined (take (t + 1) rs) ≡ joined (take t rs) ++ x.entries = joined_more rs t x l is in
    let P : List Entry → Type 0 = λ es. Replays old es in
    let Q : Tables → Type 0 = λ ts. Replays ts x.entries in
    record {
      replays = subst P (sym longer) (Replays-append old (joined (take t rs)) x.entries d.replays (subst Q d.after r.0));
      after = r.1 ∙ ap (λ (ts : Tables). run ts x.entries) d.after ∙ sym (run-append old (joined (take t rs)) x.entries) ∙ ap (run old) (sym longer);
      kinds = kinds ∙ d.kinds;
    }

pub ticket_stops : (old now next : Tables) (rs : List ReplayView) (t : ℕ) (x : ReplayView) (took : Bool) → Done old rs t now → t < length rs → x ≡ get_or rs t x → took ≡ false → Replayed now x.entries took next → FindsUnreplayed old rs (Some t)
ticket_stops old now next rs t x took d l is refused made =
    let T : Bool → Type 0 = λ b. Replayed now x.entries b next in
    let r : Replayed now x.entries false next = subst T refused made in
    let P : List Entry → Type 0 = λ es. Replays old es in
    let Q : Tables → Type 0 = λ ts. Replays ts x.entries in
    (l, d.replays, λ h. r (subst Q (sym d.after) (Replays-back old (joined (take t rs)) x.entries (subst P (joined_more rs t x l is) h))))

pub all_tickets : (old now : Tables) (rs : List ReplayView) (t : ℕ) → Done old rs t now → length rs ≤ t → FindsUnreplayed old rs None
all_tickets old now rs t d l = let P : List ReplayView → Type 0 = λ ys. Replays old (joined ys) in subst P (take_all t rs l) d.replays
