-- What a judge's steps take, and what they need.
use Rattle.std.proofs.Common.{◌≡◌, ℕ, suc, ◌+◌, ◌<◌, ◌≤◌, List, [], ◌∷◌, ◌++◌, length, Bool, true, false, cond, eqb, ◌&&◌, ◌==◌, Some, map, refl, sym, ◌∙◌, ap, subst, arith, Decides, length-append}
use Rattle.std.specs.Prelude.{slice_get, nat_lt}
use Rattle.std.specs.Bool.{MatchBool}
use Rattle.std.specs.List.{AllByRecursion}
use Rattle.std.proofs.lemmas.Bool.Decides.{nat_tests}
use Rattle.std.proofs.lemmas.Bool.{both_ways}
use Rattle.session_values.specs.Limits.{max_callers}
use Rattle.session_values.specs.declared.kind.TableKind.{TableKind}
use Rattle.session_values.specs.declared.op.Op.{Op}
use Rattle.session_values.specs.declared.reply.Reply.{Reply}
use Rattle.session_values.specs.declared.value.Value.{Value}
use Rattle.session_values.specs.Dialogue.{replies}
use Rattle.session_values.specs.Kinds.{home}
use Rattle.session_values.specs.Tables.{Tables, kind_of, reply, step}
use Rattle.symbolic_ops.specs.declared.symbol.Symbol.{Symbol}
use Rattle.symbolic_ops.specs.Matching.{HasNoVar}
use Rattle.symbolic_ops.specs.Commuting.{CommutesWith}
use Rattle.session_journal.specs.declared.event.Event.{Event}
use Rattle.session_journal.specs.declared.event.Event.TheVariants.{Begin, Done, Delay, End}
use Rattle.session_journal.specs.Journal.{DoneOperation, after, done_operations, entries, entry_of, of_ticket}
use Rattle.session_journal.specs.EventsInTurn.{MayBegin, MayBeDone, MayEnd}
use Rattle.session_journal.specs.Traces.{HasKnownSymbol}
use Rattle.session_journal.specs.Accepted.{IsAllowed, IsDelayAllowed}
use Rattle.trace_audit.specs.Desk.{ReplayView}
use Rattle.trace_audit.specs.Judging.{AnswersNow, CallsNow, FrontView, IsFront, IsNext, Takes, begins, delayed_at, done_at, ends_at, is_free, is_open, latest_of, may_begin, standing_at}
use Rattle.trace_audit.proofs.FrontSteps.{begin_decides, begin_front, delay_front, done_from, done_front, done_to, end_from, end_front, end_to, open_ticket, open_to}

-- ---- what a judge's steps take
begin_numbers : (x y n l c : ℕ) (b : Bool) → (x == y && nat_lt x n && nat_lt c l && b) ≡ true → (x ≡ y) × (x < n) × (c < l)
begin_numbers x y n l c b e = (grind (arith, nat_tests), grind (arith, nat_tests), grind (arith, nat_tests))

pub may_begin_numbers : (f : FrontView) (t c : ℕ) → may_begin f t c ≡ true → (t ≡ f.begun) × (t < length f.standings) × (c < length f.latest)
may_begin_numbers f t c e = begin_numbers t f.begun (length f.standings) (length f.latest) c (is_free f.standings (latest_of f.latest c)) e

pub begin_no : (f g : FrontView) (t c : ℕ) → may_begin f t c ≡ false → (rs : List ReplayView) → Takes rs (Begin t c) f false g
begin_no f g t c e rs m J F K w is k = λ may. both_ways (may_begin f t c) e ((begin_decides m rs F f t c k).1 may)

pub begin_yes : (f g : FrontView) (t c : ℕ) → may_begin f t c ≡ true → g ≡ begins f t c → (rs : List ReplayView) → Takes rs (Begin t c) f true g
begin_yes f g t c e made rs m J F K w is k =
    let may : MayBegin m max_callers F t c = (begin_decides m rs F f t c k).0 e in
    let P : FrontView → Type 0 = λ x. IsFront m rs (F ++ Begin t c ∷ []) x in
    (may, subst P (sym made) (begin_front m rs F f t c k may))

pub done_no : (rs : List ReplayView) (f g : FrontView) (t : ℕ) (op : Op) (v : Value) → (CallsNow f rs t op → ⊥) → Takes rs (Done t op v) f false g
done_no rs f g t op v never m J F K w is k = λ a. never (done_from m J rs F (Done t op v ∷ K) f w is k t op a.0)

pub done_took : (rs : List ReplayView) (f g : FrontView) (t : ℕ) (op : Op) (v given : Value) (b : Bool) → CallsNow f rs t op → given ≡ reply f.tables op → g ≡ done_at f t op → map kind_of g.tables ≡ map kind_of f.tables → Decides b (given ≡ v) → Takes rs (Done t op v) f b g
done_took rs f g t op v given b calls reply_is made kinds d m J F K w is k = by b d
  where
    same : reply (after m.opening F) op ≡ given
    same = ap (λ (ts : Tables). reply ts op) (sym k.tables) ∙ sym reply_is

    by : (b : Bool) → Decides b (given ≡ v) → MatchBool b (IsAllowed m F (Done t op v) × IsFront m rs (F ++ Done t op v ∷ []) g) (IsAllowed m F (Done t op v) → ⊥)
    by true d =
        let r : reply (after m.opening F) op ≡ v = same ∙ d.0 refl in
        let P : FrontView → Type 0 = λ x. IsFront m rs (F ++ Done t op v ∷ []) x in
        let q : map kind_of (step f.tables op) ≡ m.shape = ap (λ (x : FrontView). map kind_of x.tables) (sym made) ∙ kinds ∙ k.kinds in
        ((done_to m J rs F (Done t op v ∷ K) f w is k t op calls, r), subst P (sym made) (done_front m J rs F K f t op v w is k calls r q))
    by false d = λ a. both_ways false refl (d.1 (sym same ∙ a.1))

pub delay_no : (rs : List ReplayView) (f g : FrontView) (t : ℕ) (op : Op) (older : ℕ) (s : Symbol) → ((older < t) → (CommutesWith op s → ⊥) → (standing_at f.standings t).delayed ≡ false → CallsNow f rs t op → ⊥) → Takes rs (Delay t op older s) f false g
delay_no rs f g t op older s never m J F K w is k = λ a.
    let l : t < m.requests = open_ticket m J rs F (Delay t op older s ∷ K) f w is k t a.is_open in
    never a.is_older a.symbol ((k.each t l).delayed ∙ a.once) (done_from m J rs F (Delay t op older s ∷ K) f w is k t op (record { is_open = a.is_open; calls = a.calls }))

pub delay_yes : (rs : List ReplayView) (f g : FrontView) (t : ℕ) (op : Op) (older : ℕ) (s : Symbol) → older < t → (CommutesWith op s → ⊥) → (standing_at f.standings t).delayed ≡ false → CallsNow f rs t op → g ≡ delayed_at f t → Takes rs (Delay t op older s) f true g
delay_yes rs f g t op older s less against once calls made m J F K w is k =
    let d : MayBeDone m F t op = done_to m J rs F (Delay t op older s ∷ K) f w is k t op calls in
    let l : t < m.requests = open_ticket m J rs F (Delay t op older s ∷ K) f w is k t d.is_open in
    let a : IsDelayAllowed m F t op older s = record { is_open = d.is_open; calls = d.calls; is_older = less; symbol = against; once = sym (k.each t l).delayed ∙ once } in
    let P : FrontView → Type 0 = λ x. IsFront m rs (F ++ Delay t op older s ∷ []) x in
    (a, subst P (sym made) (delay_front m J rs F (Delay t op older s ∷ K) f w is k t op older s a))

pub end_no : (rs : List ReplayView) (f g : FrontView) (t : ℕ) (r : Reply) → (AnswersNow f rs t r → ⊥) → Takes rs (End t r) f false g
end_no rs f g t r never m J F K w is k = λ a. never (end_from m J rs F (End t r ∷ K) f w is k t r a)

pub end_yes : (rs : List ReplayView) (f g : FrontView) (t : ℕ) (r : Reply) → AnswersNow f rs t r → g ≡ ends_at f t → Takes rs (End t r) f true g
end_yes rs f g t r a made m J F K w is k =
    let may : MayEnd m F t r = end_to m J rs F (End t r ∷ K) f w is k t r a in
    let P : FrontView → Type 0 = λ x. IsFront m rs (F ++ End t r ∷ []) x in
    (may, subst P (sym made) (end_front m J rs F (End t r ∷ K) f w is k t r may))

-- ---- what a judge's steps need
pub next_exists : (rs : List ReplayView) (e : Event) (f : FrontView) (t : ℕ) → IsNext rs e f → is_open f t ≡ true → t < length f.standings
next_exists rs e f t n o =
    let l : t < n.meaning.requests = open_ticket n.meaning n.events rs n.front (e ∷ n.back) f n.run n.is n.kept t (open_to n.meaning n.events rs n.front (e ∷ n.back) f n.run n.is n.kept t o) in
    omega (arith, l, n.kept.count)

of_few : (t : ℕ) (ds : List DoneOperation) → length (of_ticket t ds) ≤ length ds
of_few t [] = omega arith
of_few t (d ∷ ds) = by (eqb d.ticket t) (of_few t ds)
  where
    by : (b : Bool) → length (of_ticket t ds) ≤ length ds → length (cond b (entry_of d ∷ of_ticket t ds) (of_ticket t ds)) ≤ suc (length ds)
    by true l = omega (arith, l)
    by false l = omega (arith, l)

done_few : (J : List Event) → length (done_operations J) ≤ length J
done_few [] = omega arith
done_few (Begin t c ∷ J) = omega (arith, done_few J)
done_few (Done t op v ∷ J) = omega (arith, done_few J)
done_few (Delay t op older s ∷ J) = omega (arith, done_few J)
done_few (End t r ∷ J) = omega (arith, done_few J)

pub next_few : (rs : List ReplayView) (e : Event) (f : FrontView) (t : ℕ) → IsNext rs e f → is_open f t ≡ true → (standing_at f.standings t).done < 18446744073709551615
next_few rs e f t n o =
    let l : t < n.meaning.requests = open_ticket n.meaning n.events rs n.front (e ∷ n.back) f n.run n.is n.kept t (open_to n.meaning n.events rs n.front (e ∷ n.back) f n.run n.is n.kept t o) in
    let len : length n.events ≡ length n.front + length (e ∷ n.back) = ap (λ (J : List Event). length J) n.is ∙ length-append n.front (e ∷ n.back) in
    omega (arith, (n.kept.each t l).done, of_few t (done_operations n.front), done_few n.front, len, n.run.few)

pub next_fits : (rs : List ReplayView) (e : Event) (f : FrontView) (t : ℕ) (op : Op) → IsNext rs e f → CallsNow f rs t op → slice_get (map kind_of f.tables) op.table ≡ Some (home op.kind)
next_fits rs e f t op n c =
    let may : MayBeDone n.meaning n.front t op = done_to n.meaning n.events rs n.front (e ∷ n.back) f n.run n.is n.kept t op c in
    ap (λ (ks : List TableKind). slice_get ks op.table) n.kept.kinds ∙ (n.run.script.fits t (replies (entries n.front t)) op may.calls).table

known_at : (F : List Event) (t : ℕ) (op : Op) (older : ℕ) (s : Symbol) (K : List Event) → AllByRecursion HasKnownSymbol (F ++ Delay t op older s ∷ K) → HasNoVar s
known_at [] t op older s K a = a.0
known_at (x ∷ F) t op older s K a = known_at F t op older s K a.1

pub next_known : (rs : List ReplayView) (t : ℕ) (op : Op) (older : ℕ) (s : Symbol) (f : FrontView) → IsNext rs (Delay t op older s) f → HasNoVar s
next_known rs t op older s f n = let P : List Event → Type 0 = λ J. AllByRecursion HasKnownSymbol J in known_at n.front t op older s n.back (subst P n.is n.run.known)

pub next_ticket : (rs : List ReplayView) (e : Event) (f : FrontView) (t : ℕ) → IsNext rs e f → t < length f.standings → t < 4294967295
next_ticket rs e f t n l = omega (arith, l, n.kept.count, n.run.script.few_requests)

-- what a test decides
pub holds : {P : Type 0} (r : Bool) → r ≡ true → Decides r P → P
holds r e d = d.0 e

pub fails : {P : Type 0} (r : Bool) → r ≡ false → Decides r P → P → ⊥
fails r e d p = both_ways r e (d.1 p)
