-- The first row whose words have a fault, and rows without a fault.
use Rattle.std.proofs.Common.{◌≡◌, ◌≢◌, ◌↔◌, ℕ, suc, ◌+◌, ◌<◌, ◌≤◌, Bool, true, false, not, ◌&&◌, cond, nat_lt, ◌==◌, List, [], ◌∷◌, ◌++◌, length, Option, Some, None, refl, sym, ap, ◌∙◌, subst, arith}
use Rattle.std.proofs.lemmas.Bool.{false≢true, eq-eqb, eqb-true, leb-true, leb-false, le-ltb}
use Rattle.std.proofs.lemmas.List.Folds.{list_all_at}
use Rattle.std.proofs.lemmas.List.Sums.{sum_by-cons}
use Rattle.std.specs.List.{AllByRecursion, Contains, list_all, list_any, position_or_len}
use Rattle.std.specs.Option.{option_or}
use Rattle.std.specs.Prelude.{slice_get}
use Rattle.std.specs.Str.{bytes_eq}
use Rattle.session_values.specs.Names.{AreDistinct, place_of}
use Rattle.session_values.proofs.NamesLemmas.{place_is, stands_at}
use Rattle.syntax_trees.specs.declared.file.File.{File}
use Rattle.syntax_trees.specs.declared.file.Handler.{Handler}
use Rattle.handler_check.specs.Bounds.{calls_bound, work_bound}
use Rattle.handler_check.specs.Resolved.{code_at, params_at}
use Rattle.request_files.specs.declared.tally.Tally.{Tally}
use Rattle.request_files.specs.declared.refusal.RequestRefusal.{RequestRefusal}
use Rattle.request_files.specs.declared.refusal.RequestRefusal.TheVariants.{UnknownHandler, Arity, BadWord, TooManyCalls, TooMuchWork}
use Rattle.request_files.specs.Laws.{IsWellFormed, calls_named}
use Rattle.request_files.specs.Requests.{AreKnown, handler_of, fault_of, first_fault, no_requests}
use Rattle.request_files.specs.RowLaws.{AreWellFormed, DiffersInArity, HasBadWord, HasNoValue, HasOtherArity, IsNoName, NamesNoHandler}
use Rattle.request_files.specs.WorkSums.{work_named}
use Rattle.text_lines.specs.Rows.{Row}
use Rattle.text_lines.specs.Text.{Text}
use Rattle.text_lines.specs.Values.{is_value}
use Rattle.request_files.proofs.FaultLemmas.{fault_unknown, fault_arity, fault_bad, fault_sums}
use Rattle.request_files.proofs.FirstFaults.{At, after, behind, behind_calls, behind_requests, found, front_fine, refused_at, tried, tried_is, within}
use Rattle.request_files.proofs.HandlerLemmas.{place_new}
use Rattle.request_files.proofs.RowLemmas.{fault_step, first_nil}
use Rattle.request_files.proofs.WorkFaults.{behind_work, within as work_within}
use Rattle.std.proofs.lemmas.List.{append-nil}

-- ---- where no element passes a test
module _ {X : Type 0} (p : X → Bool) where
  pub none_passes : (xs : List X) → length xs ≤ position_or_len p xs → AllByRecursion (λ (x : X). p x ≡ false) xs
  none_passes [] h = tt
  none_passes (x ∷ xs) h = go (p x) refl (none_passes xs)
    where
      go : (b : Bool) → p x ≡ b → (length xs ≤ position_or_len p xs → AllByRecursion (λ (y : X). p y ≡ false) xs) → (p x ≡ false) × AllByRecursion (λ (y : X). p y ≡ false) xs
      go true e again = let k : position_or_len p (x ∷ xs) ≡ 0 = ap (λ b. cond (not b) (1 + position_or_len p xs) 0) e in absurd (omega (arith, h, k))
      go false e again = let k : position_or_len p (x ∷ xs) ≡ 1 + position_or_len p xs = ap (λ b. cond (not b) (1 + position_or_len p xs) 0) e in (e, again (omega (arith, h, k)))

  pub behind_all : (xs : List X) → AllByRecursion (λ (x : X). p x ≡ false) xs → length xs ≤ position_or_len p xs
  behind_all [] h = omega arith
  behind_all (x ∷ xs) h = let k : position_or_len p (x ∷ xs) ≡ 1 + position_or_len p xs = ap (λ b. cond (not b) (1 + position_or_len p xs) 0) h.0 in omega (arith, k, behind_all xs h.1)

  pub one_fails : (xs : List X) → list_all p xs ≡ false → (x : X) × Contains xs x × (p x ≡ false)
  one_fails [] h = absurd (cc)
  one_fails (x ∷ xs) h = go (p x) refl (one_fails xs)
    where
      go : (b : Bool) → p x ≡ b → (list_all p xs ≡ false → (y : X) × Contains xs y × (p y ≡ false)) → (y : X) × Contains (x ∷ xs) y × (p y ≡ false)
      go false e again = (x, (0, omega arith, refl), e)
      go true e again =
          let rest : list_all p xs ≡ false = sym (ap (λ b. b && list_all p xs) e) ∙ h in
          let y = again rest in
          (y.0, (suc y.1.0, omega (arith, y.1.1), y.1.2), y.2)

all_map : {X : Type 0} (P Q : X → Type 0) → ((x : X) → P x → Q x) → (xs : List X) → AllByRecursion P xs → AllByRecursion Q xs
all_map P Q f [] h = tt
all_map P Q f (x ∷ xs) h = (f x h.0, all_map P Q f xs h.1)

-- of elements of which this holds too
all_map_two : {X : Type 0} (K P Q : X → Type 0) → ((x : X) → K x → P x → Q x) → (xs : List X) → AllByRecursion K xs → AllByRecursion P xs → AllByRecursion Q xs
all_map_two K P Q f [] k h = tt
all_map_two K P Q f (x ∷ xs) k h = (f x k.0 h.0, all_map_two K P Q f xs k.1 h.1)

-- ---- names of handlers
module _ (names : List Text) (f : File) (name : Text) where
  abbrev has_place : Handler → Bool
  has_place h = h.name == place_of names name

  pub no_name : AreDistinct names → length f.handlers ≤ handler_of names f name → IsNoName names f name
  unfolding handler_of
  no_name apart none = all_map (λ (h : Handler). has_place h ≡ false) (λ (h : Handler). slice_get names h.name ≢ Some name) (λ h e at. false≢true (sym e ∙ eq-eqb h.name (place_of names name) (place_is name names h.name apart at))) f.handlers (none_passes has_place f.handlers none)

  -- a place within the list of names is that of the name
  at_place : (b : Bool) → list_any (bytes_eq name) names ≡ b → place_of names name < length names → slice_get names (place_of names name) ≡ Some name
  at_place true e less = stands_at name names e
  at_place false e less =
      let far : length names ≤ place_of names name = subst (λ xs. length names ≤ place_of xs name) (append-nil names) (place_new name names [] e) in
      absurd (omega (arith, far, less))

  not_at : (h : Handler) (b : Bool) → has_place h ≡ b → h.name < length names → slice_get names h.name ≢ Some name → has_place h ≡ false
  not_at h false e less nowhere = e
  not_at h true e less nowhere =
      let same : h.name ≡ place_of names name = eqb-true h.name (place_of names name) e in
      absurd (nowhere (ap (slice_get names) same ∙ at_place (list_any (bytes_eq name) names) refl (omega (arith, less, same))))

  pub none_named : AreKnown names f → IsNoName names f name → length f.handlers ≤ handler_of names f name
  unfolding handler_of
  none_named known nowhere = behind_all has_place f.handlers (all_map_two (λ (h : Handler). h.name < length names) (λ (h : Handler). slice_get names h.name ≢ Some name) (λ (h : Handler). has_place h ≡ false) (λ h less away. not_at h (has_place h) refl less away) f.handlers known nowhere)

module _ (names : List Text) (f : File) where
  -- ---- which test told it
  unknown_told : (r : Row) (line : ℕ) (a b c d x y : Bool) → tried names f r a b c d x y ≡ Some (UnknownHandler line) → (b ≡ true) × (r.line ≡ line)
  unknown_told r line true b c d x y h = absurd (cc)
  unknown_told r line false true c d x y h = (refl, cc)
  unknown_told r line false false false d x y h = absurd (cc)
  unknown_told r line false false true false x y h = absurd (cc)
  unknown_told r line false false true true true y h = absurd (cc)
  unknown_told r line false false true true false true h = absurd (cc)
  unknown_told r line false false true true false false h = absurd (cc)

  arity_told : (r : Row) (line : ℕ) (a b c d x y : Bool) → tried names f r a b c d x y ≡ Some (Arity line) → (b ≡ false) × (c ≡ false) × (r.line ≡ line)
  arity_told r line true b c d x y h = absurd (cc)
  arity_told r line false true c d x y h = absurd (cc)
  arity_told r line false false false d x y h = (refl, refl, cc)
  arity_told r line false false true false x y h = absurd (cc)
  arity_told r line false false true true true y h = absurd (cc)
  arity_told r line false false true true false true h = absurd (cc)
  arity_told r line false false true true false false h = absurd (cc)

  word_told : (r : Row) (line : ℕ) (a b c d x y : Bool) → tried names f r a b c d x y ≡ Some (BadWord line) → (b ≡ false) × (c ≡ true) × (d ≡ false) × (r.line ≡ line)
  word_told r line true b c d x y h = absurd (cc)
  word_told r line false true c d x y h = absurd (cc)
  word_told r line false false false d x y h = absurd (cc)
  word_told r line false false true false x y h = (refl, refl, refl, cc)
  word_told r line false false true true true y h = absurd (cc)
  word_told r line false false true true false true h = absurd (cc)
  word_told r line false false true true false false h = absurd (cc)

  none_told : (r : Row) (a b c d x y : Bool) → tried names f r a b c d x y ≡ None → (b ≡ false) × (c ≡ true) × (d ≡ true)
  none_told r true b c d x y h = absurd (cc)
  none_told r false true c d x y h = absurd (cc)
  none_told r false false false d x y h = absurd (cc)
  none_told r false false true false x y h = absurd (cc)
  none_told r false false true true true y h = absurd (cc)
  none_told r false false true true false true h = absurd (cc)
  none_told r false false true true false false h = (refl, refl, refl)

  -- ---- the first row with a fault
  pub names_no_handler : (rs : List Row) (line : ℕ) → AreDistinct names → first_fault names f no_requests rs ≡ Some (UnknownHandler line) → NamesNoHandler names f rs line
  names_no_handler rs line apart h =
      let a : At names f no_requests rs (UnknownHandler line) = found names f no_requests rs (UnknownHandler line) h in
      let q = unknown_told a.row line _ _ _ _ _ _ (sym (tried_is names f (behind names f no_requests a.front) a.row) ∙ a.fault) in
      record {
        at = record { front = a.front; row = a.row; back = a.back; is = a.is; line_is = q.1; fine = a.fine };
        unknown = no_name names f a.row.name apart (leb-true (length f.handlers) (handler_of names f a.row.name) q.0);
      }

  few_behind : (front : List Row) → length front < 20000 → (behind names f no_requests front).requests < 20000
  few_behind front few = let is : (behind names f no_requests front).requests ≡ 0 + length front = behind_requests names f no_requests front in omega (arith, is, few)

  pub unknown_refused : (front : List Row) (row : Row) (back : List Row) → AreKnown names f → first_fault names f no_requests front ≡ None → length front < 20000 → IsNoName names f row.name → first_fault names f no_requests (front ++ row ∷ back) ≡ Some (UnknownHandler row.line)
  unknown_refused front row back known h few nowhere =
      refused_at names f front row back (UnknownHandler row.line) h (fault_unknown names f (behind names f no_requests front) row (few_behind front few) (none_named names f row.name known nowhere))

  pub differs_in_arity : (rs : List Row) (line : ℕ) → first_fault names f no_requests rs ≡ Some (Arity line) → DiffersInArity names f rs line
  differs_in_arity rs line h =
      let a : At names f no_requests rs (Arity line) = found names f no_requests rs (Arity line) h in
      let q = arity_told a.row line _ _ _ _ _ _ (sym (tried_is names f (behind names f no_requests a.front) a.row) ∙ a.fault) in
      let i : ℕ = handler_of names f a.row.name in
      record {
        at = record { front = a.front; row = a.row; back = a.back; is = a.is; line_is = q.2; fine = a.fine };
        other = record {
          handler = leb-false (length f.handlers) i q.0;
          args = λ same. false≢true (sym q.1 ∙ eq-eqb (params_at f i) (length a.row.args) same);
        };
      }

  pub arity_refused : (front : List Row) (row : Row) (back : List Row) → first_fault names f no_requests front ≡ None → length front < 20000 → HasOtherArity names f row → first_fault names f no_requests (front ++ row ∷ back) ≡ Some (Arity row.line)
  arity_refused front row back h few w =
      refused_at names f front row back (Arity row.line) h (fault_arity names f (behind names f no_requests front) row (handler_of names f row.name) refl (few_behind front few) w.handler w.args)

  pub has_bad_word : (rs : List Row) (line : ℕ) → first_fault names f no_requests rs ≡ Some (BadWord line) → HasBadWord names f rs line
  has_bad_word rs line h =
      let a : At names f no_requests rs (BadWord line) = found names f no_requests rs (BadWord line) h in
      let q = word_told a.row line _ _ _ _ _ _ (sym (tried_is names f (behind names f no_requests a.front) a.row) ∙ a.fault) in
      let i : ℕ = handler_of names f a.row.name in
      let w = one_fails is_value a.row.args q.2 in
      record {
        at = record { front = a.front; row = a.row; back = a.back; is = a.is; line_is = q.3; fine = a.fine };
        word = w.0;
        none = record {
          handler = leb-false (length f.handlers) i q.0;
          args = eqb-true (params_at f i) (length a.row.args) q.1;
          among = w.1;
          bad = w.2;
        };
      }

  pub word_refused : (front : List Row) (row : Row) (back : List Row) (word : Text) → first_fault names f no_requests front ≡ None → length front < 20000 → HasNoValue names f row word → first_fault names f no_requests (front ++ row ∷ back) ≡ Some (BadWord row.line)
  word_refused front row back word h few w =
      let i : ℕ = handler_of names f row.name in
      let bad : list_all is_value row.args ≡ false = list_all_at is_value row.args w.among.0 word w.among.1 (ap is_value w.among.2 ∙ w.bad) in
      refused_at names f front row back (BadWord row.line) h
      (fault_bad names f (behind names f no_requests front) row i refl (few_behind front few) w.handler bad
      ∙ ap (λ b. Some (cond b (BadWord row.line) (Arity row.line))) (eq-eqb (params_at f i) (length row.args) w.args))

  -- ---- rows without a fault
  each_formed : (t : Tally) (rs : List Row) → first_fault names f t rs ≡ None → AllByRecursion (IsWellFormed names f) rs
  each_formed t [] h = tt
  each_formed t (r ∷ rs) h =
      let p = front_fine names f t r rs h in
      let q = none_told r _ _ _ _ _ _ (sym (tried_is names f t r) ∙ p.0) in
      let i : ℕ = handler_of names f r.name in
      (record { handler = leb-false (length f.handlers) i q.0; args = eqb-true (params_at f i) (length r.args) q.1; values = q.2 }, each_formed (after names f t r) rs p.1)

  abbrev calls_of : Row → ℕ
  calls_of r = calls_bound (code_at f (handler_of names f r.name))

  abbrev work_of : Row → ℕ
  work_of r = work_bound (code_at f (handler_of names f r.name))

  no_fault : (t : Tally) (rs : List Row) → t.requests + length rs ≤ 20000 → AllByRecursion (IsWellFormed names f) rs → t.calls + calls_named names f rs ≤ 200000 → t.work + work_named names f rs ≤ 10000000 → first_fault names f t rs ≡ None
  no_fault t [] few each calls work = first_nil names f t
  no_fault t (r ∷ rs) few each calls work =
      let w : IsWellFormed names f r = each.0 in
      let more_calls : calls_named names f (r ∷ rs) ≡ calls_of r + calls_named names f rs = sum_by-cons calls_of r rs in
      let more_work : work_named names f (r ∷ rs) ≡ work_of r + work_named names f rs = sum_by-cons work_of r rs in
      let next : Tally = after names f t r in
      let count : next.requests ≡ t.requests + 1 = refl in
      let called : next.calls ≡ t.calls + calls_of r = refl in
      let worked : next.work ≡ t.work + work_of r = refl in
      let fine : fault_of names f t r ≡ None =
      fault_sums names f t r (handler_of names f r.name) refl (omega (arith, few)) w.handler w.args w.values
      ∙ ap (λ b. cond b (Some (TooManyCalls r.line)) (cond (nat_lt 10000000 next.work) (Some (TooMuchWork r.line)) None)) (le-ltb 200000 next.calls (omega (arith, calls, more_calls, called)))
      ∙ ap (λ b. cond b (Some (TooMuchWork r.line)) None) (le-ltb 10000000 next.work (omega (arith, work, more_work, worked))) in
      fault_step names f t r rs ∙ ap (λ (o : Option RequestRefusal). option_or o (first_fault names f next rs)) fine
      ∙ no_fault next rs (omega (arith, few, count)) each.1 (omega (arith, calls, more_calls, called)) (omega (arith, work, more_work, worked))

  pub without_fault : (rs : List Row) → (first_fault names f no_requests rs ≡ None) ↔ AreWellFormed names f rs
  without_fault rs = (
    λ h.
        let sums : Tally = behind names f no_requests rs in
        let w : (sums.requests ≤ 20000) × (sums.calls ≤ 200000) = within names f no_requests rs h (omega arith) (omega arith) in
        let v : sums.work ≤ 10000000 = work_within names f no_requests rs h (omega arith) in
        let count : sums.requests ≡ 0 + length rs = behind_requests names f no_requests rs in
        let called : sums.calls ≡ 0 + calls_named names f rs = behind_calls names f no_requests rs in
        let worked : sums.work ≡ 0 + work_named names f rs = behind_work names f no_requests rs in
        record { few = omega (arith, w.0, count); each = each_formed no_requests rs h; calls = omega (arith, w.1, called); work = omega (arith, v, worked) },
    λ w. no_fault no_requests rs (omega (arith, w.few)) w.each (omega (arith, w.calls)) (omega (arith, w.work)),
  )
