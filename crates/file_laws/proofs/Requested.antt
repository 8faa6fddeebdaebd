-- Rows of requests without a fault are requests that can be served.
use Rattle.std.proofs.Common.{◌≡◌, ℕ, ◌+◌, ◌<◌, ◌≤◌, ◌==◌, Bool, true, false, not, cond, nat_le, List, [], ◌∷◌, ◌++◌, length, map, Option, Some, None, refl, sym, ap, ◌∙◌, subst, arith}
use Rattle.std.proofs.lemmas.Bool.{eqb-true, leb-false}
use Rattle.std.specs.List.{list_all, AllByRecursion}
use Rattle.session_values.specs.Values.{IsValue}
use Rattle.handler_check.specs.File.{File}
use Rattle.handler_check.specs.Resolved.{params_at}
use Rattle.text_lines.specs.Rows.{Row, names_behind}
use Rattle.text_lines.specs.Text.{Text}
use Rattle.text_lines.specs.Values.{is_value, placed_all, values_of}
use Rattle.text_lines.proofs.PrintableLemmas.{values_held}
use Rattle.request_files.specs.declared.refusal.RequestRefusal.{RequestRefusal}
use Rattle.request_files.specs.declared.refusal.RequestRefusal.TheVariants.{Arity, BadWord, TooManyRequests, UnknownHandler}
use Rattle.request_files.specs.declared.request.Request.{Request}
use Rattle.request_files.specs.Requests.{AreKnown, AreRequests, fault_of, first_fault, handler_of, no_requests, request_of, sum_fault, with_request}
use Rattle.request_files.specs.Servable.{IsServable}
use Rattle.request_files.proofs.FaultLemmas.{accepted}
use Rattle.request_files.proofs.RowLemmas.{Going, going_end, going_fault, going_served, going_start, going_turn}
use Rattle.file_laws.proofs.Room.{args_total, placed_room}

record FineRow (names : List Text) (f : File) (r : Row) (requests : ℕ) (sums : Option RequestRefusal) : Type 0 where
  few : requests < 20000
  there : handler_of names f r.name < length f.handlers
  args : params_at f (handler_of names f r.name) ≡ length r.args
  values : list_all is_value r.args ≡ true
  within : sums ≡ None

module _ (names : List Text) (f : File) (r : Row) where
  abbrev place : ℕ
  place = handler_of names f r.name

  by_parts : (n : ℕ) (sums : Option RequestRefusal) (a b c d : Bool) → nat_le 20000 n ≡ a → nat_le (length f.handlers) place ≡ b → (params_at f place == length r.args) ≡ c → list_all is_value r.args ≡ d
      → cond a (Some (TooManyRequests r.line)) (cond b (Some (UnknownHandler r.line)) (cond (not c) (Some (Arity r.line)) (cond (not d) (Some (BadWord r.line)) sums))) ≡ None → FineRow names f r n sums
  by_parts n sums true b c d ea eb ec ed h = cc
  by_parts n sums false true c d ea eb ec ed h = cc
  by_parts n sums false false false d ea eb ec ed h = cc
  by_parts n sums false false true false ea eb ec ed h = cc
  by_parts n sums false false true true ea eb ec ed h = record {
    few = leb-false 20000 n ea;
    there = leb-false (length f.handlers) place eb;
    args = eqb-true (params_at f place) (length r.args) ec;
    values = ed;
    within = h;
  }

  fine_row : (t : _) → fault_of names f t r ≡ None → FineRow names f r t.requests (sum_fault (with_request f place t) r.line)
  unfolding fault_of
  fine_row t h = by_parts t.requests (sum_fault (with_request f place t) r.line) (nat_le 20000 t.requests) (nat_le (length f.handlers) place) (params_at f place == length r.args) (list_all is_value r.args) refl refl refl refl h

module _ (old : List Text) (f : File) (rs0 : List Row) (known : AreKnown old f) (fine : first_fault old f no_requests rs0 ≡ None) where
  record Gone : Type 0 where
    names : List Text
    found : List Request
    ended : AreRequests old names f rs0 found
    served : IsServable f found

  go_on : (rs : List Row) (names : List Text) (found : List Request) (t : _) → Going old f rs0 names rs found t → length names + args_total rs ≤ 4294967295 → Gone
  go_on [] names found t g room = record { names = names; found = found; ended = going_end old f rs0 names found t g; served = going_served old f rs0 names found t g }
  go_on (r ∷ rs) names found t g room = elim (fault_of names f t r) as (λ o. fault_of names f t r ≡ o → Gone) [
    | None ↦ λ e.
        (let w = fine_row names f r t e in
        let new : List Text = placed_all names r.args in
        let i : ℕ = handler_of names f r.name in
        let request : Request = record { handler = i; args = values_of new r.args } in
        let long = placed_room names r.args in
        let held : AllByRecursion IsValue (values_of new r.args) = values_held names r.args new refl (omega (arith, long, room)) in
        let a = accepted names new f t (with_request f i t) r i (values_of new r.args) refl w.there w.few w.args (w.values, refl) held refl refl w.within in
        go_on rs new (found ++ request ∷ []) (with_request f i t) (going_turn old f rs0 names r rs found t new request (with_request f i t) known g a) (omega (arith, long, room)))
    | Some x ↦ λ e. absurd (let some : None ≡ Some x = sym fine ∙ going_fault old f rs0 names r rs found t x known g e in cc)
  ] refl

  served_with : Gone → IsServable f (map (request_of old (names_behind old rs0) f) rs0)
  served_with w = subst (IsServable f) (w.ended.requests ∙ ap (λ (ns : List Text). map (request_of old ns f) rs0) w.ended.names) w.served

  -- the rows are requests that can be served
  pub servable : length old + args_total rs0 ≤ 4294967295 → IsServable f (map (request_of old (names_behind old rs0) f) rs0)
  servable room = served_with (go_on rs0 old [] no_requests (going_start old f rs0) room)

  pub are_requests : AreRequests old (names_behind old rs0) f rs0 (map (request_of old (names_behind old rs0) f) rs0)
  are_requests = record { fine = fine; requests = refl; names = refl }
