-- Rows, from the first to the last.
use Rattle.std.proofs.Common.{◌≡◌, ℕ, ◌+◌, ◌<◌, ◌≤◌, List, [], ◌∷◌, ◌++◌, length, map, Some, None, refl, sym, ap, ◌∙◌, subst, arith, append_assoc, length-append}
use Rattle.std.proofs.lemmas.List.{append-nil}
use Rattle.std.proofs.lemmas.List.Sums.{sum_by_push}
use Rattle.std.specs.Option.{option_or}
use Rattle.std.specs.List.{AllByRecursion}
use Rattle.session_values.specs.Names.{Begins}
use Rattle.session_values.specs.declared.value.Value.{Value}
use Rattle.session_values.proofs.Named.{begins_same, begins_then}
use Rattle.syntax_trees.specs.declared.file.File.{File}
use Rattle.syntax_trees.specs.declared.file.Handler.{Handler}
use Rattle.handler_check.specs.Bounds.{calls_bound, work_bound}
use Rattle.handler_check.specs.Resolved.{code_at}
use Rattle.request_files.specs.declared.request.Request.{Request}
use Rattle.request_files.specs.declared.tally.Tally.{Tally}
use Rattle.request_files.specs.declared.refusal.RequestRefusal.{RequestRefusal}
use Rattle.request_files.specs.Servable.{IsRequestOf, IsServable, calls_in_all, work_in_all}
use Rattle.text_lines.specs.Text.{Text}
use Rattle.text_lines.specs.Values.{values_of, placed_all}
use Rattle.request_files.specs.Requests.{AreKnown, handler_of, fault_of, with_request, first_fault, no_requests, request_of, IsWithin, Accepted, AreRequests}
use Rattle.text_lines.specs.Rows.{Row, names_behind}
use Rattle.text_lines.proofs.ValueLemmas.{placed_all_begins, values_kept}
use Rattle.text_lines.proofs.RowLemmas.{behind_begins, behind_nil, behind_step}
use Rattle.request_files.proofs.HandlerLemmas.{handler_kept}
use Rattle.request_files.proofs.FaultLemmas.{fault_kept}
use Rattle.session_values.proofs.Lists.{all_join}

-- ---- the same requests among more names

request_kept : (old now final : List Text) (f : File) (r : Row) → Begins old now → AreKnown old f → Begins (placed_all now r.args) final
    → request_of now (placed_all now r.args) f r ≡ request_of old final f r
unfolding request_of
request_kept old now final f r p k front =
    let make : ℕ → List Value → Request = λ n vs. record { handler = n; args = vs } in
    ap (λ n. make n (values_of (placed_all now r.args) r.args)) (handler_kept old now f r.name p k) ∙ ap (make (handler_of old f r.name)) (sym (values_kept now r.args final front))

handler_made : (old new : List Text) (f : File) (r : Row) → (request_of old new f r).handler ≡ handler_of old f r.name
unfolding request_of
handler_made old new f r = refl

all_less : (m n : ℕ) (hs : List Handler) → m ≤ n → AllByRecursion (λ (h : Handler). h.name < m) hs → AllByRecursion (λ (h : Handler). h.name < n) hs
all_less m n [] h k = k
all_less m n (x ∷ xs) h k = (omega (arith, k.0), all_less m n xs h k.1)

pub known_kept : (old now : List Text) (f : File) → Begins old now → AreKnown old f → AreKnown now f
known_kept old now f p k = all_less (length old) (length now) f.handlers (omega (arith, ap length p.1, length-append old p.0)) k

-- ---- some rows are read, and these are left

pub record Going (old : List Text) (f : File) (rs0 : List Row) (names : List Text) (rs : List Row) (found : List Request) (t : Tally) : Type 0 where
  pub faults : first_fault old f t rs ≡ first_fault old f no_requests rs0
  pub requests : found ++ map (request_of old (names_behind old rs0) f) rs ≡ map (request_of old (names_behind old rs0) f) rs0
  pub behind : names_behind names rs ≡ names_behind old rs0
  pub kept : Begins old names
  pub within : IsWithin t
  pub count : length found ≡ t.requests
  pub calls : calls_in_all f found ≡ t.calls
  pub work : work_in_all f found ≡ t.work
  pub asked : AllByRecursion (IsRequestOf f) found

pub going_start : (old : List Text) (f : File) (rs0 : List Row) → Going old f rs0 old rs0 [] no_requests
going_start old f rs0 = record {
  faults = refl;
  requests = refl;
  behind = refl;
  kept = begins_same old;
  within = record { requests = omega arith; calls = omega arith; work = omega arith };
  count = refl;
  calls = refl;
  work = refl;
  asked = tt;
}

pub fault_step : (old : List Text) (f : File) (t : Tally) (r : Row) (rs : List Row) → first_fault old f t (r ∷ rs) ≡ option_or (fault_of old f t r) (first_fault old f (with_request f (handler_of old f r.name) t) rs)
unfolding first_fault
fault_step old f t r rs = refl

pub going_turn : (old : List Text) (f : File) (rs0 : List Row) (names : List Text) (r : Row) (rs : List Row) (found : List Request) (t : Tally) (new : List Text) (request : Request) (next : Tally)
    → AreKnown old f → Going old f rs0 names (r ∷ rs) found t → Accepted names new f t r request next → Going old f rs0 new rs (found ++ request ∷ []) next
going_turn old f rs0 names r rs found t new request next k g a =
    let fine : fault_of old f t r ≡ None = sym (fault_kept old names f t r g.kept k) ∙ a.fine in
    let behind : names_behind new rs ≡ names_behind old rs0 = ap (λ ns. names_behind ns rs) a.names ∙ sym (behind_step names r rs) ∙ g.behind in
    let front : Begins (placed_all names r.args) (names_behind old rs0) = subst (λ ns. Begins (placed_all names r.args) ns) (sym (behind_step names r rs) ∙ g.behind) (behind_begins (placed_all names r.args) rs) in
    let same : request ≡ request_of old (names_behind old rs0) f r = a.made ∙ ap (λ ns. request_of names ns f r) a.names ∙ request_kept old names (names_behind old rs0) f r g.kept k front in
    let number : request.handler ≡ handler_of old f r.name = ap (λ (x : Request). x.handler) same ∙ handler_made old (names_behind old rs0) f r in
    let sums : next ≡ with_request f (handler_of old f r.name) t = a.sums ∙ ap (λ i. with_request f i t) number in
    record {
      faults = ap (λ t. first_fault old f t rs) sums ∙ ap (λ w. option_or w (first_fault old f (with_request f (handler_of old f r.name) t) rs)) (sym fine) ∙ sym (fault_step old f t r rs) ∙ g.faults;
      requests = append_assoc found (request ∷ []) _ ∙ ap (λ x. found ++ x ∷ map (request_of old (names_behind old rs0) f) rs) same ∙ g.requests;
      behind = behind;
      kept = begins_then _ _ _ g.kept (subst (Begins names) (sym a.names) (placed_all_begins names r.args));
      within = a.within;
      count = omega (arith, length-append found (request ∷ []), g.count, ap (λ t. t.requests) a.sums);
      calls = sum_by_push (λ (x : Request). calls_bound (code_at f x.handler)) found request ∙ ap (λ n. n + calls_bound (code_at f request.handler)) g.calls ∙ sym (ap (λ (t : Tally). t.calls) a.sums);
      work = sum_by_push (λ (x : Request). work_bound (code_at f x.handler)) found request ∙ ap (λ n. n + work_bound (code_at f request.handler)) g.work ∙ sym (ap (λ (t : Tally). t.work) a.sums);
      asked = all_join (IsRequestOf f) found (request ∷ []) g.asked (a.asked, tt);
    }

pub going_fault : (old : List Text) (f : File) (rs0 : List Row) (names : List Text) (r : Row) (rs : List Row) (found : List Request) (t : Tally) (e : RequestRefusal)
    → AreKnown old f → Going old f rs0 names (r ∷ rs) found t → fault_of names f t r ≡ Some e → first_fault old f no_requests rs0 ≡ Some e
going_fault old f rs0 names r rs found t e k g w =
    sym g.faults ∙ fault_step old f t r rs ∙ ap (λ w. option_or w (first_fault old f (with_request f (handler_of old f r.name) t) rs)) (sym (fault_kept old names f t r g.kept k) ∙ w)

pub first_nil : (old : List Text) (f : File) (t : Tally) → first_fault old f t [] ≡ None
unfolding first_fault
first_nil old f t = refl

pub going_end : (old : List Text) (f : File) (rs0 : List Row) (names : List Text) (found : List Request) (t : Tally)
    → Going old f rs0 names [] found t → AreRequests old names f rs0 found
going_end old f rs0 names found t g =
    let n : names ≡ names_behind old rs0 = sym (behind_nil names) ∙ g.behind in
    record {
      fine = sym g.faults ∙ first_nil old f t;
      requests = sym (append-nil found) ∙ g.requests ∙ ap (λ ns. map (request_of old ns f) rs0) (sym n);
      names = n;
    }

pub going_served : (old : List Text) (f : File) (rs0 : List Row) (names : List Text) (found : List Request) (t : Tally)
    → Going old f rs0 names [] found t → IsServable f found
going_served old f rs0 names found t g =
    let requests = g.within.requests in
    let calls = g.within.calls in
    let work = g.within.work in
    record {
      few = omega (arith, g.count, requests);
      each = g.asked;
      calls = omega (arith, g.calls, calls);
      work = omega (arith, g.work, work);
    }
