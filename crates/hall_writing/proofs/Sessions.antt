-- The callers of a hall, put into jobs with their ends of the lane, and taken out of them.
use Rattle.std.proofs.Common.{◌≡◌, ℕ, zero, suc, ◌<◌, ◌≤◌, arith, List, [], ◌∷◌, Some, None, Option, true, false, length, replicate, slice_get, slice_index_or, get_or, option_map, refl, sym, ◌∙◌, ap, subst}
use Rattle.std.specs.List.{AllByRecursion}
use Rattle.std.proofs.lemmas.List.{length-map}
use Rattle.std.proofs.lemmas.Option.{slice_get_within, slice_get-get_or, slice_get-map, get_or_from_slice_get}
use Rattle.session_values.specs.declared.reply.Reply.{Reply}
use Rattle.session_values.proofs.Serial.{serial_length}
use Rattle.session_journal.specs.Script.{Meaning, session_of}
use Rattle.session_hall.specs.declared.hall.Hall.{Hall}
use Rattle.session_hall.specs.declared.caller.Caller.{Caller}
use Rattle.session_hall.specs.Callers.{IsCallerOf}
use Rattle.session_hall.specs.Closings.{Opens, Leaves}
use Rattle.session_hall.specs.Stages.{IsBetween}
use Rattle.session_hall.specs.Names.{script_of}
use Rattle.session_hall.proofs.Rows.{map-read}
use Rattle.hall_serving.proofs.SerialReplies.{Answers}
use Rattle.hall_writing.specs.declared.lane.Lane.{Lane}
use Rattle.hall_writing.specs.declared.lane.End.{End}
use Rattle.hall_writing.specs.Ends.{IsEndOf, IsNewEnd}
use Rattle.reply_sheet.specs.Pending.{PendingView}
use Rattle.hall_writing.specs.declared.job.Job.{Job}
use Rattle.hall_writing.specs.declared.sheet.Sheet.{Sheet}
use Rattle.hall_writing.specs.Jobs.{IsJobOf, HasServed, IsUnkept, callers_of, ends_of, replies_of}
use Rattle.hall_writing.specs.Sessions.{IsOpened}
use Rattle.hall_writing.specs.Sheets.{Keeps, Written, progress}
use Rattle.hall_writing.proofs.Sheets.{keeps_none, written_none}

ends_made : (l : Lane) (callers : ℕ) (replies : List Reply) (es : List End) → AllByRecursion (IsNewEnd l callers replies) es → AllByRecursion (IsEndOf l replies) es
ends_made l callers replies [] all = tt
ends_made l callers replies (e ∷ es) all = (all.0.end, ends_made l callers replies es all.1)

module _ {S : Type 0} (meaning : S → Meaning) (h : Hall S) (lane : Lane) where
  pub opened : (script : S) (js : List (Job S)) (cs left : List (Caller S)) (es : List End) (callers room : ℕ) (sheet : Sheet) → script_of h ≡ script → callers_of js ≡ cs → ends_of js ≡ es
      → ((i : ℕ) (c : Caller S) → slice_get cs i ≡ Some c → Opens meaning h i c) → AllByRecursion (IsNewEnd lane callers (replies_of (meaning script))) es → length cs ≡ callers → h.sizes.callers ≡ callers → 1 ≤ callers → left ≡ [] → length cs ≤ room
      → sheet.pending ≡ record { next = 0; waiting = replicate (meaning script).requests None } → sheet.failed ≡ false → (sheet.alone ≡ true → callers ≡ 1) → AllByRecursion IsUnkept js → IsOpened meaning h lane js left room sheet
  opened script js cs left es callers room sheet is same also opens ends count sizes some none roomy pending sound alone unkept =
      let long : length js ≡ length cs = sym (length-map js (λ (x : Job S). x.holding.caller)) ∙ ap (λ (l : List (Caller S)). length l) same in
      let P : List End → Type 0 = λ l. AllByRecursion (IsEndOf lane (replies_of (meaning script))) l in
      let Q : S → Type 0 = λ s. AllByRecursion (IsEndOf lane (replies_of (meaning s))) (ends_of js) in
      let R : S → Type 0 = λ s. sheet.pending ≡ record { next = 0; waiting = replicate (meaning s).requests None } in
      record {
        opens = λ i c at. opens i c (ap (λ l. slice_get l i) (sym same) ∙ at);
        unkept = unkept;
        ends = subst Q (sym is) (subst P (sym also) (ends_made lane callers (replies_of (meaning script)) es ends));
        all = long ∙ count ∙ sym sizes;
        some = omega (arith, long, count, some);
        none = none;
        roomy = omega (arith, long, roomy);
        pending = subst R (sym is) pending;
        sound = sound;
        alone = λ one. sizes ∙ alone one;
      }

  ready_by : (replies : List Reply) (js : List (Job S)) → ((i : ℕ) (c : Caller S) → slice_get (callers_of js) i ≡ Some c → IsCallerOf meaning h c × IsBetween c.stage) → AllByRecursion IsUnkept js → AllByRecursion (IsEndOf lane replies) (ends_of js) → AllByRecursion (IsJobOf meaning h lane replies) js
  ready_by replies [] callers unkept ends = tt
  ready_by replies (j ∷ js) callers unkept ends = let c = callers 0 j.holding.caller refl in (record { caller = c.0; between = c.1; unkept = unkept.0; end = ends.0 }, ready_by replies js (λ i. callers (suc i)) unkept.1 ends.1)

  -- the jobs are ready to serve
  pub ready : (plan : S) (js : List (Job S)) (left : List (Caller S)) (room : ℕ) (sheet : Sheet) → IsOpened meaning h lane js left room sheet → script_of h ≡ plan → (j : Job S) (rest : List (Job S)) → js ≡ j ∷ rest → AllByRecursion (IsJobOf meaning h lane (replies_of (meaning plan))) (j ∷ rest)
  ready plan js left room sheet is same j rest parts =
      let P : S → Type 0 = λ s. AllByRecursion (IsEndOf lane (replies_of (meaning s))) (ends_of js) in
      subst (AllByRecursion (IsJobOf meaning h lane (replies_of (meaning plan)))) parts
      (ready_by (replies_of (meaning plan)) js (λ i c at. let o = is.opens i c at in (o.caller, subst IsBetween (sym o.idle) tt)) is.unkept (subst P same is.ends))

  -- there are as many replies as requests, and the sheet keeps none of them yet
  long_by : Answers → (js : List (Job S)) → 0 < length js → ((i : ℕ) (c : Caller S) → slice_get (callers_of js) i ≡ Some c → Opens meaning h i c) → length (replies_of (meaning (script_of h))) ≡ (meaning (script_of h)).requests
  long_by answers [] some opens = absurd (omega (arith, some))
  long_by answers (j ∷ js) some opens =
      let m : Meaning = meaning (script_of h) in
      let script = (opens 0 j.holding.caller refl).caller.script_kept in
      serial_length (session_of m) (λ t. answers m t script) m.requests

  pub few_replies : Answers → (plan : S) (js : List (Job S)) (left : List (Caller S)) (room : ℕ) (sheet : Sheet) (most : ℕ) → IsOpened meaning h lane js left room sheet → script_of h ≡ plan → (meaning (script_of h)).requests ≤ most → length (replies_of (meaning plan)) ≤ most
  few_replies answers plan js left room sheet most is same few =
      let P : S → Type 0 = λ s. length (replies_of (meaning s)) ≤ most in
      subst P same (omega (arith, long_by answers js is.some is.opens, few))

  pub keeps_start : Answers → (plan : S) (js : List (Job S)) (left : List (Caller S)) (room : ℕ) (sheet : Sheet) → IsOpened meaning h lane js left room sheet → script_of h ≡ plan → Keeps (replies_of (meaning plan)) sheet.pending
  keeps_start answers plan js left room sheet is same =
      let P : S → Type 0 = λ s. Keeps (replies_of (meaning s)) sheet.pending in
      subst P same (keeps_none (replies_of (meaning (script_of h))) sheet.pending (meaning (script_of h)).requests is.pending (long_by answers js is.some is.opens))

  pub written_start : (replies : List Reply) (names : List (List ℕ)) (held : Option (List ℕ)) (faults : ℕ) (js : List (Job S)) (left : List (Caller S)) (room : ℕ) (sheet : Sheet) → IsOpened meaning h lane js left room sheet → Written replies names held faults (progress held faults sheet)
  written_start replies names held faults js left room sheet is = written_none replies names (progress held faults sheet) (ap (λ (v : PendingView). v.next) is.pending) is.sound

  -- the callers are out
  pub leave : (js : List (Job S)) (j : Job S) (rest : List (Job S)) (k : Job S) (ks : List (Job S)) (ds : List (Caller S)) → js ≡ j ∷ rest → ds ≡ callers_of (k ∷ ks) → length ks ≡ length rest
      → ((i : ℕ) (c : Caller S) → slice_get (callers_of js) i ≡ Some c → Opens meaning h i c) → HasServed meaning h j k → ((i : ℕ) (d : Job S) → i < length rest → HasServed meaning h (slice_index_or rest i d) (slice_index_or ks i d))
      → (i : ℕ) (c : Caller S) → slice_get ds i ≡ Some c → Leaves meaning h i c
  leave js j rest k ks ds parts back len opens first others i c e =
      let there = map-read (λ (x : Job S). x.holding.caller) (k ∷ ks) i c (ap (λ l. slice_get l i) (sym back) ∙ e) in
      subst (Leaves meaning h i) there.2 (left i there.0 there.1)
    where
      opened_at : (i : ℕ) (x : Job S) → slice_get (j ∷ rest) i ≡ Some x → Opens meaning h i x.holding.caller
      opened_at i x at = opens i x.holding.caller (ap (λ (l : List (Job S)). slice_get (callers_of l) i) parts ∙ slice_get-map (λ (x : Job S). x.holding.caller) (j ∷ rest) i ∙ ap (option_map (λ (x : Job S). x.holding.caller)) at)

      left : (i : ℕ) (x : Job S) → slice_get (k ∷ ks) i ≡ Some x → Leaves meaning h i x.holding.caller
      left zero x at =
          let o = opened_at 0 j refl in
          let is : k ≡ x = cc in
          subst (λ (y : Job S). Leaves meaning h 0 y.holding.caller) is (record { caller = first.caller; number_is = first.number_still ∙ o.number_is; out = first.out })
      left (suc i) x at =
          let low : i < length rest = subst (λ n. i < n) len (slice_get_within ks i x at) in
          let was : Job S = get_or rest i x in
          let o = opened_at (suc i) was (slice_get-get_or rest i x low) in
          let s : HasServed meaning h was x = subst (HasServed meaning h was) (get_or_from_slice_get ks i x x at) (others i x low) in
          record { caller = s.caller; number_is = s.number_still ∙ o.number_is; out = s.out }

-- no job that has served has the book in hand
unkept_by : {S : Type 0} (js : List (Job S)) → ((i : ℕ) (x : Job S) → slice_get js i ≡ Some x → IsUnkept x) → AllByRecursion IsUnkept js
unkept_by [] each = tt
unkept_by (j ∷ js) each = (each 0 j refl, unkept_by js (λ i. each (suc i)))

pub left_unkept : {S : Type 0} (meaning : S → Meaning) (h : Hall S) (j k : Job S) (rest ks : List (Job S)) → length ks ≡ length rest → HasServed meaning h j k → ((i : ℕ) (d : Job S) → i < length rest → HasServed meaning h (slice_index_or rest i d) (slice_index_or ks i d))
    → AllByRecursion IsUnkept (k ∷ ks)
left_unkept meaning h j k rest ks len first others = (
  first.unkept,
  unkept_by ks (λ i x at.
      let low : i < length rest = subst (λ n. i < n) len (slice_get_within ks i x at) in
      let s : HasServed meaning h (get_or rest i x) x = subst (HasServed meaning h (get_or rest i x)) (get_or_from_slice_get ks i x x at) (others i x low) in
      s.unkept),
)
