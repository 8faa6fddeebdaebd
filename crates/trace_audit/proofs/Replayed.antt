-- Replaying entries one after another.
use Rattle.std.proofs.Common.{◌≡◌, ℕ, ◌+◌, ◌<◌, ◌≤◌, List, [], ◌∷◌, ◌++◌, length, map, take, drop, true, false, Some, refl, sym, ◌∙◌, ap, subst, arith, get_or}
use Rattle.std.specs.Prelude.{slice_get}
use Rattle.std.proofs.lemmas.List.{drop_more, get_or-map, length-map, take-append-drop, take_all, take_more}
use Rattle.session_values.specs.declared.kind.TableKind.{TableKind}
use Rattle.session_values.specs.declared.value.Value.{Value}
use Rattle.session_values.specs.Dialogue.{Entry}
use Rattle.session_values.specs.Kinds.{home}
use Rattle.session_values.specs.Tables.{Tables, kind_of, reply, step}
use Rattle.session_journal.specs.Journal.{Replays, run}
use Rattle.session_journal.proofs.Replay.{Replays-append, Replays-back, run-append}
use Rattle.trace_audit.specs.declared.ticket_replay.Noted.{Noted}
use Rattle.trace_audit.specs.Noted.{entries_of, entry_of}
use Rattle.trace_audit.specs.Replaying.{EntriesFit, Replayed}

-- the first entries replayed
pub record Done (old : Tables) (es : List Entry) (i : ℕ) (now : Tables) : Type 0 where
  pub replays : Replays old (take i es)
  pub after : now ≡ run old (take i es)
  pub kinds : map kind_of now ≡ map kind_of old

pub none_done : (old : Tables) (es : List Entry) → Done old es 0 old
none_done old es = record { replays = tt; after = refl; kinds = refl }

entry_here : (ns : List Noted) (i : ℕ) (n : Noted) → i < length ns → n ≡ get_or ns i n → get_or (entries_of ns) i (entry_of n) ≡ entry_of n
entry_here ns i n l is = get_or-map entry_of ns i n (entry_of n) l ∙ ap entry_of (sym is)

within : (ns : List Noted) (i : ℕ) → i < length ns → i < length (entries_of ns)
within ns i l = omega (arith, l, length-map ns entry_of)

cut : (es : List Entry) (i : ℕ) (e : Entry) → i < length es → get_or es i e ≡ e → es ≡ take i es ++ e ∷ drop (i + 1) es
cut es i e l is = sym (take-append-drop i es) ∙ ap (λ (fs : List Entry). take i es ++ fs) (drop_more es i e l ∙ ap (λ (x : Entry). x ∷ drop (i + 1) es) is)

fit_in : (shape : List TableKind) (es : List Entry) (e : Entry) (fs : List Entry) → EntriesFit shape (es ++ e ∷ fs) → slice_get shape e.op.table ≡ Some (home e.op.kind)
fit_in shape [] e fs a = a.0
fit_in shape (x ∷ es) e fs a = fit_in shape es e fs a.1

pub entry_fits : (old now : Tables) (ns : List Noted) (i : ℕ) (n : Noted) → EntriesFit (map kind_of old) (entries_of ns) → Done old (entries_of ns) i now → i < length ns → n ≡ get_or ns i n → slice_get (map kind_of now) n.op.table ≡ Some (home n.op.kind)
entry_fits old now ns i n fits d l is =
    let P : List Entry → Type 0 = λ es. EntriesFit (map kind_of old) es in
    ap (λ (ks : List TableKind). slice_get ks n.op.table) d.kinds
    ∙ fit_in (map kind_of old) (take i (entries_of ns)) (entry_of n) (drop (i + 1) (entries_of ns)) (subst P (cut (entries_of ns) i (entry_of n) (within ns i l) (entry_here ns i n l is)) fits)

pub one_done : (old now next : Tables) (ns : List Noted) (i : ℕ) (n : Noted) (v : Value) → Done old (entries_of ns) i now → i < length ns → n ≡ get_or ns i n → v ≡ reply now n.op → v ≡ n.reply → next ≡ step now n.op → map kind_of next ≡ map kind_of now → Done old (entries_of ns) (i + 1) next
one_done old now next ns i n v d l is given same made kinds =
    let es : List Entry = entries_of ns in
    let e : Entry = entry_of n in
    let longer : take (i + 1) es ≡ take i es ++ e ∷ [] = take_more es i e (within ns i l) ∙ ap (λ (x : Entry). take i es ++ x ∷ []) (entry_here ns i n l is) in
    let P : List Entry → Type 0 = λ fs. Replays old fs in
    let here : reply (run old (take i es)) e.op ≡ e.reply = ap (λ (ts : Tables). reply ts n.op) (sym d.after) ∙ sym given ∙ same in
    record {
      replays = subst P (sym longer) (Replays-append old (take i es) (e ∷ []) d.replays (here, tt));
      after = made ∙ ap (λ (ts : Tables). step ts n.op) d.after ∙ sym (run-append old (take i es) (e ∷ [])) ∙ ap (run old) (sym longer);
      kinds = kinds ∙ d.kinds;
    }

pub not_replayed : (old now next : Tables) (ns : List Noted) (i : ℕ) (n : Noted) (v : Value) → Done old (entries_of ns) i now → i < length ns → n ≡ get_or ns i n → v ≡ reply now n.op → (v ≡ n.reply → ⊥) → Replayed old (entries_of ns) false next
not_replayed old now next ns i n v d l is given other h =
    let es : List Entry = entries_of ns in
    let P : List Entry → Type 0 = λ fs. Replays old fs in
    let rest : Replays (run old (take i es)) (entry_of n ∷ drop (i + 1) es) = Replays-back old (take i es) (entry_of n ∷ drop (i + 1) es) (subst P (cut es i (entry_of n) (within ns i l) (entry_here ns i n l is)) h) in
    other (given ∙ ap (λ (ts : Tables). reply ts n.op) d.after ∙ rest.0)

pub all_done : (old now : Tables) (ns : List Noted) (i : ℕ) → Done old (entries_of ns) i now → length ns ≤ i → Replayed old (entries_of ns) true now
all_done old now ns i d l =
    let whole : take i (entries_of ns) ≡ entries_of ns = take_all i (entries_of ns) (omega (arith, l, length-map ns entry_of)) in
    let P : List Entry → Type 0 = λ fs. Replays old fs in
    (subst P whole d.replays, d.after ∙ ap (run old) whole)
