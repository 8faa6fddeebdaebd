-- A handler's run at a desk meets what the desk asks.
use Rattle.std.proofs.Common.{◌≡◌, ℕ, ◌+◌, ◌<◌, ◌≤◌, arith, Bool, true, false, List, [], ◌∷◌, ◌++◌, length, Option, None, append-nil, append_assoc, length-append, refl, sym, ap, ◌∙◌, subst}
use Rattle.std.specs.List.{AllByRecursion}
use Rattle.session_values.specs.declared.op.Op.{Op}
use Rattle.session_values.specs.declared.reply.Reply.{Reply}
use Rattle.session_values.specs.declared.value.Value.{Value}
use Rattle.session_values.specs.Dialogue.{Calls as NextCalls, Answers as NextAnswers, Dialogue, Entry, Follows, replies}
use Rattle.session_values.specs.Values.{IsValue}
use Rattle.session_values.proofs.EntriesFacts.{follows_more, length_replies}
use Rattle.symbolic_ops.specs.declared.symbol.Symbol.{Symbol}
use Rattle.symbolic_ops.specs.Matching.{Covered, Matches}
use Rattle.session_journal.specs.Desks.{DeskView, MayFinish, MayNarrow, due_of, finished, next_of, with_end, with_entry, with_present, with_waiting}
use Rattle.session_journal.specs.Served.{IsServed, IsStopped}
use Rattle.check_meaning.specs.Ahead.{Ahead, asked, passing}
use Rattle.check_meaning.specs.Dialogue.{Env, Place, Outcome, Calls, after, ended, last_place, last_replied, pass, passed_by}
use Rattle.check_meaning.proofs.Runs.{after_none, ended_after, passed_after}
use Rattle.handler_machine.proofs.Asked.{replies_more}
use Rattle.declaration_insertion.specs.Promises.{Declarations, IsCoveredChain, list_at}
use Rattle.handler_machine.specs.Serving.{Course, Declares, Gives, IsAwaiting, IsServing, Promises, Serving, replied_count}
use Rattle.handler_machine.proofs.Places.{after_snoc, count_append, last_append, none_replied, replied_append}

values_more : (es : List Entry) (e : Entry) → AllByRecursion IsValue (replies es) → IsValue e.reply → AllByRecursion IsValue (replies (es ++ e ∷ []))
values_more [] e h v = (v, tt)
values_more (x ∷ es) e h v = (h.0, values_more es e h.1 v)

covered_by_none : (f : List Symbol) → Covered f [] → f ≡ []
covered_by_none [] h = refl
covered_by_none (s ∷ f) h = absurd h.0

covered_from : (declared : Declarations) (at : Place) (ps qs : List Place) → IsCoveredChain declared at (ps ++ qs) → IsCoveredChain declared (last_place at ps) qs
covered_from declared at [] qs h = h
covered_from declared at (p ∷ ps) qs h = covered_from declared p ps qs h.1

module _ (c : Course) (first : Place) (g : Gives c.meaning c.start.ticket c.declared first c.whole) (p : Promises c.points c.declared first c.whole) where
  abbrev t : ℕ
  t = c.start.ticket

  -- the places of a run that passes this one
  places_of : (rs : List Value) (passed : List Place) (at : Place) (next : Ahead) → ((more : List Value) → c.whole (rs ++ more) ≡ after passed (after (at ∷ []) (next more))) → passed_by (c.whole rs) ≡ passed ++ (at ∷ passed_by (next []))
  places_of rs passed at next is =
      ap (λ (zs : List Value). passed_by (c.whole zs)) (sym (append-nil rs)) ∙ ap passed_by (is []) ∙ passed_after passed (after (at ∷ []) (next [])) ∙ ap (λ (zs : List Place). passed ++ zs) (passed_after (at ∷ []) (next []))

  may_narrow : (es : List Entry) (present : List Symbol) (passed : List Place) (at : Place) (next : Ahead) → AllByRecursion IsValue (replies es) → ((more : List Value) → c.whole (replies es ++ more) ≡ after passed (after (at ∷ []) (next more)))
      → present ≡ list_at c.declared (last_place first passed) → MayNarrow c.meaning t es present (list_at c.declared at)
  may_narrow es present passed at next values is e =
      let rs = replies es in
      let qs = passed_by (next []) in
      let places : passed_by (c.whole rs) ≡ passed ++ (at ∷ qs) = places_of rs passed at next is in
      let chain : IsCoveredChain c.declared (last_place first passed) (at ∷ qs) = covered_from c.declared first passed (at ∷ qs) (subst (IsCoveredChain c.declared first) places (p.covered rs)) in
      let last : last_place first (passed ++ at ∷ []) ≡ at = last_append first passed (at ∷ []) in
      record {
        covered = subst (Covered (list_at c.declared at)) (sym e) chain.0;
        foresight = record {
          few = p.few at;
          known = p.known at;
          covers = record {
            each = λ more op held h.
                subst (λ (z : Place). Matches (list_at c.declared z) op) last
                (p.covers rs (passed ++ at ∷ []) qs values (places ∙ sym (append_assoc passed (at ∷ []) qs)) more op held (sym (g.next (rs ++ more)) ∙ h));
          };
        };
      }

  is_told : (rs : List Value) (passed : List Place) (point : ℕ) (env : Env) (next : Ahead) → ((more : List Value) → c.whole (rs ++ more) ≡ after passed (pass point env true (next more))) → replied_count passed + 1 ≡ length rs
      → list_at c.declared (record { point = point; env = env; replied = true }) ≡ c.meaning.told t rs
  is_told rs passed point env next is count =
      let at : Place = record { point = point; env = env; replied = true } in
      let qs = passed_by (next []) in
      let e : passed_by (c.whole rs) ≡ passed ++ (at ∷ qs) = places_of rs passed at next is in
      let n : replied_count (passed ++ (at ∷ qs)) ≤ length rs = subst (λ (zs : List Place). replied_count zs ≤ length rs) e (p.counted rs) in
      let none : replied_count qs ≡ 0 = omega (arith, n, count, count_append passed (at ∷ qs)) in
      let last : last_replied first (passed ++ (at ∷ qs)) ≡ at = replied_append first passed (at ∷ qs) ∙ none_replied at qs none in
      sym (g.told rs ∙ ap (λ (zs : List Place). list_at c.declared (last_replied first zs)) e ∙ ap (list_at c.declared) last)

-- ---- a point that is passed
middle : (P : Place → Type 0) (ps qs : List Place) (at : Place) → AllByRecursion P (ps ++ (at ∷ qs)) → P at
middle P [] qs at h = h.0
middle P (p ∷ ps) qs at h = middle P ps qs at h.1

module _ (c : Course) (now : DeskView) (es : List Entry) (w : Option Entry) (point : ℕ) (env : Env) (replied : Bool) (next : Ahead) (s : Serving c now es w (passing point env replied next)) where
  pub point_within : point < c.points
  point_within =
      let at : Place = record { point = point; env = env; replied = replied } in
      let qs = passed_by (next []) in
      let places : passed_by (c.whole (replies es)) ≡ s.passed ++ (at ∷ qs) = places_of c s.first s.gives s.promises (replies es) s.passed at next s.is_ahead in
      middle (λ (p : Place). p.point < c.points) s.passed qs at (subst (AllByRecursion (λ (p : Place). p.point < c.points)) places (s.promises.within (replies es)))

-- ---- the calls
module _ (c : Course) (now : DeskView) where
  module _ (op : Op) (next : Value → Ahead) (s : IsServing c now (asked op next)) where
    whole_calls : c.whole (replies now.entries) ≡ Calls s.passed op
    whole_calls = ap c.whole (sym (append-nil (replies now.entries))) ∙ s.is_ahead [] ∙ ap (λ (zs : List Place). Calls zs op) (append-nil s.passed)

    pub call_next : next_of c.meaning now ≡ NextCalls op
    call_next = ap (λ (t : ℕ). c.meaning.next t (replies now.entries)) s.ticket ∙ s.gives.next (replies now.entries) ∙ ap ended whole_calls

    pub call_due : now.present ≡ due_of c.meaning now
    call_due = s.present ∙ sym (ap (λ (t : ℕ). c.meaning.due t (replies now.entries)) s.ticket ∙ s.gives.due (replies now.entries) ∙ ap (λ (o : Outcome). list_at c.declared (last_place s.first (passed_by o))) whole_calls)

    pub call_matches : Matches now.present op
    call_matches = subst (λ (f : List Symbol). Matches f op) (sym s.present) (s.promises.matched (replies now.entries) s.passed op s.values whole_calls)

    pub call_waits : (new : DeskView) (v : Value) → IsValue v → new ≡ with_waiting now op v → IsAwaiting c new (next v)
    call_waits new v held is =
        let e : Entry = record { op = op; reply = v } in
        subst (λ (d : DeskView). IsAwaiting c d (next v)) (sym is) (
          e,
          record {
            first = s.first;
            gives = s.gives;
            promises = s.promises;
            passed = s.passed;
            is_ahead = λ more. ap c.whole (replies_more now.entries e more) ∙ s.is_ahead (v ∷ more);
            follows = follows_more (λ rs. ended (c.whole rs)) now.entries e s.follows (ap ended whole_calls);
            values = values_more now.entries e s.values held;
            counts = s.counts;
            present = s.present;
            waits = refl;
            going = s.going;
            ticket = s.ticket;
            home = s.home;
            sure = s.sure;
            declares = s.declares;
          },
        )

    pub call_halts : (new : DeskView) → new ≡ now → now.sure ≡ false → IsStopped c.meaning c.start new
    call_halts new is unsure =
        subst (λ (d : DeskView). IsStopped c.meaning c.start d) (sym is) (record {
          follows = subst (λ (f : Dialogue). Follows f now.entries) (λ i rs. sym (s.gives.next rs) i) s.follows;
          wanted = op;
          calls = s.gives.next (replies now.entries) ∙ ap ended whole_calls;
          due = s.present ∙ sym (s.gives.due (replies now.entries) ∙ ap (λ (o : Outcome). list_at c.declared (last_place s.first (passed_by o))) whole_calls);
          idle = s.waits;
          going = s.going;
          ticket_is = s.ticket;
          home_is = s.home;
          sure_is = s.sure;
          unsure = sym s.sure ∙ unsure;
        })

  module _ (point : ℕ) (env : Env) (next : Ahead) (f : List Symbol) where
    module _ (s : IsServing c now (passing point env false next)) (is_list : f ≡ list_at c.declared (record { point = point; env = env; replied = false })) where
      pub declare_may : MayNarrow c.meaning now.ticket now.entries now.present f
      declare_may =
          let at : Place = record { point = point; env = env; replied = false } in
          let h : MayNarrow c.meaning c.start.ticket now.entries now.present (list_at c.declared at) = may_narrow c s.first s.gives s.promises now.entries now.present s.passed at next s.values s.is_ahead s.present in
          subst (λ (t : ℕ). MayNarrow c.meaning t now.entries now.present f) (sym s.ticket) (subst (λ (g : List Symbol). MayNarrow c.meaning c.start.ticket now.entries now.present g) (sym is_list) h)

      pub declare_serves : (new : DeskView) → new ≡ with_present now f → IsServing c new next
      declare_serves new is =
          let at : Place = record { point = point; env = env; replied = false } in
          subst (λ (d : DeskView). IsServing c d next) (sym is) (record {
            first = s.first;
            gives = s.gives;
            promises = s.promises;
            passed = s.passed ++ at ∷ [];
            is_ahead = λ more. s.is_ahead more ∙ after_snoc s.passed at (next more);
            follows = s.follows;
            values = s.values;
            counts = count_append s.passed (at ∷ []) ∙ (let n = s.counts in omega (arith, n));
            present = is_list ∙ ap (list_at c.declared) (sym (last_append s.first s.passed (at ∷ [])));
            waits = s.waits;
            going = s.going;
            ticket = s.ticket;
            home = s.home;
            sure = s.sure;
            declares = s.declares;
          })

    module _ (w : IsAwaiting c now (passing point env true next)) (is_list : f ≡ list_at c.declared (record { point = point; env = env; replied = true })) where
      pub finish_may : MayFinish c.meaning now now.waiting f
      finish_may =
          let s = w.1 in
          let at : Place = record { point = point; env = env; replied = true } in
          let es = now.entries ++ w.0 ∷ [] in
          let n : replied_count s.passed + 1 ≡ length (replies es) = (let k = s.counts in let l = length_replies es in let a = length-append now.entries (w.0 ∷ []) in omega (arith, k, l, a)) in
          let h : MayNarrow c.meaning c.start.ticket es now.present (list_at c.declared at) = may_narrow c s.first s.gives s.promises es now.present s.passed at next s.values s.is_ahead s.present in
          let k : MayNarrow c.meaning now.ticket es now.present f = subst (λ (t : ℕ). MayNarrow c.meaning t es now.present f) (sym s.ticket) (subst (λ (g : List Symbol). MayNarrow c.meaning c.start.ticket es now.present g) (sym is_list) h) in
          let told : f ≡ c.meaning.told now.ticket (replies es) = is_list ∙ is_told c s.first s.gives s.promises (replies es) s.passed point env next s.is_ahead n ∙ ap (λ (t : ℕ). c.meaning.told t (replies es)) (sym s.ticket) in
          subst (λ (x : Option Entry). MayFinish c.meaning now x f) (sym s.waits) (told, k)

      pub finish_present : (new : DeskView) → new ≡ finished now now.waiting f → new.present ≡ f
      finish_present new is = ap (λ (d : DeskView). d.present) (is ∙ ap (λ (x : Option Entry). finished now x f) w.1.waits)

      pub finish_serves : (new : DeskView) → new ≡ finished now now.waiting f → IsServing c new next
      finish_serves new is =
          let s = w.1 in
          let at : Place = record { point = point; env = env; replied = true } in
          let is_new : new ≡ with_entry now w.0 f = is ∙ ap (λ (x : Option Entry). finished now x f) s.waits in
          subst (λ (d : DeskView). IsServing c d next) (sym is_new) (record {
            first = s.first;
            gives = s.gives;
            promises = s.promises;
            passed = s.passed ++ at ∷ [];
            is_ahead = λ more. s.is_ahead more ∙ after_snoc s.passed at (next more);
            follows = s.follows;
            values = s.values;
            counts = count_append s.passed (at ∷ []) ∙ (let k = s.counts in let a = length-append now.entries (w.0 ∷ []) in omega (arith, k, a));
            present = is_list ∙ ap (list_at c.declared) (sym (last_append s.first s.passed (at ∷ [])));
            waits = refl;
            going = s.going;
            ticket = s.ticket;
            home = s.home;
            sure = s.sure;
            declares = s.declares;
          })

-- where nothing is declared any more, nothing is at the next point either, and the desk is as if it were told
module _ (c : Course) (now : DeskView) (point : ℕ) (env : Env) (next : Ahead) (s : IsServing c now (passing point env false next)) (none : now.present ≡ []) where
  abbrev here : Place
  here = record { point = point; env = env; replied = false }

  nothing_here : list_at c.declared here ≡ []
  nothing_here = covered_by_none (list_at c.declared here) (subst (Covered (list_at c.declared here)) none (declare_may c now point env next (list_at c.declared here) s refl).covered)

  pub passes_settled : IsServing c now next
  passes_settled = declare_serves c now point env next [] s (sym nothing_here) now (ap (with_present now) none)

-- ---- the beginning and the end
pub serving_first : (c : Course) (first : Place) → Gives c.meaning c.start.ticket c.declared first c.whole → Declares c.meaning c.part c.variables c.points c.declared → Promises c.points c.declared first c.whole → c.start.entries ≡ [] → c.start.waiting ≡ None → c.start.ended ≡ false → c.start.present ≡ list_at c.declared first
    → IsServing c c.start c.whole
serving_first c first g declares p none idle going present = record {
  first = first;
  gives = g;
  promises = p;
  passed = [];
  is_ahead = λ more. ap (λ (es : List Entry). c.whole (replies es ++ more)) none ∙ sym (after_none (c.whole more));
  follows = subst (Follows (λ rs. ended (c.whole rs))) (sym none) tt;
  values = subst (λ (es : List Entry). AllByRecursion IsValue (replies es)) (sym none) tt;
  counts = sym (ap length none);
  present = present;
  waits = idle;
  going = going;
  ticket = refl;
  home = refl;
  sure = refl;
  declares = declares;
}

module _ (c : Course) (now : DeskView) (ahead : Ahead) (r : Reply) (s : IsServing c now ahead) (is : ended (ahead []) ≡ NextAnswers r) where
  whole_ends : c.whole (replies now.entries) ≡ after s.passed (ahead [])
  whole_ends = ap c.whole (sym (append-nil (replies now.entries))) ∙ s.is_ahead []

  whole_answers : ended (c.whole (replies now.entries)) ≡ NextAnswers r
  whole_answers = ap ended whole_ends ∙ ended_after s.passed (ahead []) ∙ is

  pub end_answers : next_of c.meaning now ≡ NextAnswers r
  end_answers = ap (λ (t : ℕ). c.meaning.next t (replies now.entries)) s.ticket ∙ s.gives.next (replies now.entries) ∙ whole_answers

  pub end_due : passed_by (ahead []) ≡ [] → now.present ≡ due_of c.meaning now
  end_due none =
      let e : passed_by (c.whole (replies now.entries)) ≡ s.passed = ap passed_by whole_ends ∙ passed_after s.passed (ahead []) ∙ ap (λ (zs : List Place). s.passed ++ zs) none ∙ append-nil s.passed in
      s.present ∙ sym (ap (λ (t : ℕ). c.meaning.due t (replies now.entries)) s.ticket ∙ s.gives.due (replies now.entries) ∙ ap (λ (zs : List Place). list_at c.declared (last_place s.first zs)) e)

  pub end_served : (new : DeskView) → new ≡ with_end now → IsServed c.meaning c.start new
  end_served new is_new = subst (λ (d : DeskView). IsServed c.meaning c.start d) (sym is_new) (record {
    follows = subst (λ (f : Dialogue). Follows f now.entries) (λ i rs. sym (s.gives.next rs) i) s.follows;
    answer = r;
    answers = s.gives.next (replies now.entries) ∙ whole_answers;
    ended = refl;
    ticket_is = s.ticket;
    home_is = s.home;
    sure_is = s.sure;
  })
