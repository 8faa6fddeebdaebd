-- What holds between rounds, and that the next round keeps it.
use Rattle.std.proofs.Common.{◌≡◌, ℕ, suc, ◌+◌, ◌<◌, ◌≤◌, ◌⊎◌, inl, inr, min, true, false, List, [], ◌∷◌, ◌++◌, length, length-append, sum, take, drop, nat_lt, Option, Some, None, is_some, refl, sym, ap, ◌∙◌, subst, arith}
use Rattle.std.specs.Prelude.{IfSome, MatchOption}
use Rattle.std.proofs.lemmas.List.{length-take-le}
use Rattle.std.proofs.lemmas.Bool.Decides.{nat_tests}
use Rattle.std.proofs.lemmas.List.Sums.{sum_by-cons}
use Rattle.session_values.specs.Limits.{max_session_calls}
use Rattle.session_values.specs.declared.reply.Reply.{Reply}
use Rattle.session_values.specs.Serial.{Session, serial_replies, tables_before}
use Rattle.session_values.specs.Sums.{sum_below}
use Rattle.session_values.specs.Tables.{size_of, table}
use Rattle.session_values.proofs.Sums.{sum_first}
use Rattle.session_values.proofs.Serial.{replies_few}
use Rattle.session_values.specs.OpeningLimits.{max_opening}
use Rattle.session_values.specs.Opening.{Pair, count_all, tables_of}
use Rattle.session_hall.specs.Script.{Meaning, session_of}
use Rattle.session_hall.specs.Closings.{ClosedView, IsDone}
use Rattle.handler_check.specs.Bounds.{calls_bound}
use Rattle.syntax_trees.specs.declared.file.File.{File}
use Rattle.handler_check.specs.Resolved.{code_at, shape_of}
use Rattle.declaration_insertion.specs.Program.{ProgramView}
use Rattle.request_files.specs.declared.request.Request.{Request}
use Rattle.request_files.specs.Clients.{AreShared, ClientsView}
use Rattle.request_files.specs.Picked.{AreNumbersOf}
use Rattle.request_files.specs.Servable.{IsServable, calls_in_all}
use Rattle.request_files.specs.Session.{request_at}
use Rattle.request_files.proofs.PickedLemmas.{picked_servable}
use Rattle.handler_machine.specs.Scripts.{meaning}
use Rattle.client_feed.specs.Arrival.{Arrival}
use Rattle.client_feed.specs.Arrivals.{IsDrawn}
use Rattle.client_feed.specs.Ends.{ArrivalsView, GathererView, HasGathered}
use Rattle.client_feed.specs.Numbers.{numbers_of}
use Rattle.client_feed.specs.Behind.{IsServedBehind}
use Rattle.client_feed.specs.Reopening.{CanReopen, Reopens, final_of}
use Rattle.client_feed.specs.Rounds.{AreRounds, AreServed, last_hall, round_begin, session_by}
use Rattle.client_feed.proofs.DrawnNumbers.{arrivals_numbered}
use Rattle.client_feed.proofs.Halls.{hall_more, last_arrivals, last_pushed, no_halls}
use Rattle.client_feed.proofs.KeyCounts.{keys_before, keys_each, keys_in, opening_keys}
use Rattle.client_feed.proofs.Sessions.{asked, asked_many, dropped, front_tables, joined, later_replies, later_tables}
use Rattle.client_feed.proofs.TableLists.{final_long}

-- the hall of the last round: it served the arrivals from the round's beginning on
pub record IsLastRound (p : ProgramView) (opened : List (List Pair)) (clients : ClientsView) (got : List Arrival) (callers shards : ℕ) (d : ClosedView) : Type 0 where
  pub before : ℕ
  pub some : before < length got
  pub opening : List (List Pair)
  pub opening_is : tables_of (shape_of p.file) opening ≡ tables_before (session_by p opened clients got) before
  pub done : IsDone (meaning (record { program = p; opening = opening; requests = asked clients (drop before got) })) d
  pub callers_are : d.callers ≡ callers
  pub shards_are : d.shards ≡ shards

-- what arrived so far was served through these halls, with the replies of serving it one at a time in
-- that order
pub record AreServedSoFar (p : ProgramView) (opened : List (List Pair)) (clients : ClientsView) (callers shards : ℕ) (got : List Arrival) (replies : List Reply) (closed : Option ClosedView) (halls : List ClosedView) : Type 0 where
  pub drawn : IsDrawn clients.counts got
  pub replies_are : replies ≡ serial_replies (session_by p opened clients got) (length got)
  pub last : is_some closed ≡ nat_lt 0 (length got)
  pub hall : IfSome closed (IsLastRound p opened clients got callers shards)
  pub rounds : AreRounds p opened clients got callers shards halls
  pub left : closed ≡ last_hall halls

-- ---- the calls of requests, one after another
all_calls : (f : File) (rs : List Request) → sum_below (length rs) (λ t. calls_bound (code_at f (request_at rs t).handler)) ≡ calls_in_all f rs
all_calls f [] = refl
all_calls f (r ∷ rs) = omega (arith, sum_first (length rs) (λ t. calls_bound (code_at f (request_at (r ∷ rs) t).handler)), all_calls f rs, sum_by-cons (λ (q : Request). calls_bound (code_at f q.handler)) r rs)

is_zero : (n : ℕ) → false ≡ nat_lt 0 n → n ≡ 0
is_zero n e = grind (arith, nat_tests, e)

some_there : (n : ℕ) → 0 < n → true ≡ nat_lt 0 n
some_there n h = grind (arith, nat_tests)

-- the requests of arrivals can be served, since all can
pub asked_servable : (f : File) (clients : ClientsView) → AreShared clients → IsServable f clients.requests → (ys xs : List Arrival) → IsDrawn clients.counts (ys ++ xs) → IsServable f (asked clients xs)
asked_servable f clients shared servable ys xs drawn =
    let P : ℕ → Type 0 = λ n. AreNumbersOf n (numbers_of clients.counts xs) in
    picked_servable f clients.requests (numbers_of clients.counts xs) (subst P shared.all (arrivals_numbered clients.counts ys xs drawn)) servable

module _ (p : ProgramView) (opened : List (List Pair)) (clients : ClientsView) (callers shards : ℕ) where
  abbrev by : List Arrival → Session
  by xs = session_by p opened clients xs

  abbrev Last : List Arrival → ClosedView → Type 0
  Last got d = IsLastRound p opened clients got callers shards d

  abbrev script : List (List Pair) → List Arrival → Meaning
  script opening xs = meaning (record { program = p; opening = opening; requests = asked clients xs })

  -- what the last round leaves is what all rounds leave
  module _ (got : List Arrival) (d : ClosedView) (h : Last got d) where
    abbrev first : List Arrival
    first = take h.before got

    abbrev rest : List Arrival
    rest = drop h.before got

    first_long : length first ≡ h.before
    first_long = length-take-le h.before got (omega (arith, h.some))

    whole : first ++ rest ≡ got
    whole = joined h.before got

    opens_there : tables_of (shape_of p.file) h.opening ≡ tables_before (by (first ++ rest)) (length first)
    opens_there = h.opening_is ∙ ap (λ (n : ℕ). tables_before (by got) n) (sym first_long) ∙ ap (λ (xs : List Arrival). tables_before (by xs) (length first)) (sym whole)

    pub left_here : final_of (script h.opening rest) ≡ tables_before (by got) (length got)
    left_here =
        let long : length first + length (asked clients rest) ≡ length got = (let a = asked_many clients rest in let b = length-append first rest in let c : length (first ++ rest) ≡ length got = ap (λ (xs : List Arrival). length xs) whole in omega (arith, a, b, c)) in
        later_tables p opened clients first rest h.opening opens_there (length (asked clients rest))
        ∙ ap (λ (xs : List Arrival). tables_before (by xs) (length first + length (asked clients rest))) whole
        ∙ ap (λ (n : ℕ). tables_before (by got) n) long

  -- tables never have more keys than the file's entries and all calls together
  module _ (shared : AreShared clients) (servable : IsServable p.file clients.requests) (room : count_all opened + max_session_calls ≤ max_opening) where
    keys_few : (got : List Arrival) → IsDrawn clients.counts got → keys_in (tables_before (by got) (length got)) ≤ max_opening
    keys_few got drawn =
        let served = asked_servable p.file clients shared servable [] got drawn in
        let calls = served.calls in
        let each = all_calls p.file (asked clients got) in
        let long : sum_below (length (asked clients got)) (by got).length ≡ sum_below (length got) (by got).length = ap (λ (n : ℕ). sum_below n (by got).length) (asked_many clients got) in
        omega (arith, keys_before (by got) (length got), opening_keys (shape_of p.file) opened, calls, each, long, room)

    pub can_reopen : (got : List Arrival) (d : ClosedView) → IsDrawn clients.counts got → Last got d → CanReopen (shape_of p.file) d
    can_reopen got d drawn h =
        let m : Meaning = script h.opening (drop h.before got) in
        let long = final_long m d h.done in
        record {
          script = m;
          shape_is = refl;
          done = h.done;
          few = (let a : sum_below (length (shape_of p.file)) (λ t. size_of (table (final_of m) t)) ≡ sum_below (length (final_of m)) (λ t. size_of (table (final_of m) t)) = ap (λ (n : ℕ). sum_below n (λ t. size_of (table (final_of m) t))) (sym long) in
              omega (arith, a, keys_each (final_of m), ap keys_in (left_here got d h), keys_few got drawn));
        }

    pub last_reopens : (got : List Arrival) (o : Option ClosedView) → IsDrawn clients.counts got → IfSome o (Last got) → IfSome o (CanReopen (shape_of p.file))
    last_reopens got None drawn h = tt
    last_reopens got (Some d) drawn h = can_reopen got d drawn h

  -- and its shards are those of each round
  pub last_shards : (got : List Arrival) (o : Option ClosedView) → IfSome o (Last got) → IfSome o (λ d. d.shards ≡ shards)
  last_shards got None h = tt
  last_shards got (Some d) h = h.shards_are

  -- the next round opens with what all before it left
  opens_next : (got : List Arrival) (o : Option ClosedView) (opening : List (List Pair)) → is_some o ≡ nat_lt 0 (length got) → IfSome o (Last got) → MatchOption o (opening ≡ opened) (λ b. Reopens b (shape_of p.file) opening)
      → tables_of (shape_of p.file) opening ≡ tables_before (by got) (length got)
  opens_next got None opening some h is = ap (tables_of (shape_of p.file)) is ∙ ap (λ (n : ℕ). tables_before (by got) n) (sym (is_zero (length got) some))
  opens_next got (Some b) opening some h is = is.same (script h.opening (drop h.before got)) h.done refl ∙ left_here got b h

  -- one round more
  pub one_round_more : (got more : List Arrival) (replies : List Reply) (last : Option ClosedView) (halls : List ClosedView) (d : ClosedView) → AreServedSoFar p opened clients callers shards got replies last halls
      → IsServedBehind p opened last (asked clients more) callers shards d → IsDrawn clients.counts (got ++ more) → 0 < length more
      → length got ≡ round_begin (length halls) → length got + length more ≤ round_begin (suc (length halls))
      → AreServedSoFar p opened clients callers shards (got ++ more) (replies ++ d.replies) (Some d) (halls ++ d ∷ [])
  one_round_more got more replies last halls d so_far behind drawn some begins few =
      let n : ℕ = length got in
      let opens = opens_next got last behind.opening so_far.last so_far.hall behind.opens ∙ sym (front_tables p opened clients got more) in
      let whole = length-append got more in
      let done = behind.served.done in
      let many = asked_many clients more in
      let Q : List Arrival → Type 0 = λ xs. IsDone (script behind.opening xs) d in
      let B : ℕ → Type 0 = λ k. tables_of (shape_of p.file) behind.opening ≡ tables_before (by (got ++ more)) k in
      record {
        drawn = drawn;
        replies_are =
            (λ i. so_far.replies_are i ++ done.replies i)
            ∙ sym (later_replies p opened clients got more behind.opening opens (length (asked clients more)))
            ∙ ap (λ (k : ℕ). serial_replies (by (got ++ more)) k) (let e : n + length (asked clients more) ≡ length (got ++ more) = omega (arith, whole, many) in e);
        last = some_there (length (got ++ more)) (omega (arith, whole, some));
        hall = record {
          before = n;
          some = omega (arith, whole, some);
          opening = behind.opening;
          opening_is = opens;
          done = subst Q (sym (dropped got more)) done;
          callers_are = behind.served.callers_are;
          shards_are = behind.served.shards_are;
        };
        rounds = hall_more p opened clients callers shards got more halls d so_far.rounds begins (omega (arith, whole, few)) (record {
          some = omega (arith, whole, some, begins);
          opening = behind.opening;
          opening_is = subst B begins opens;
          done = subst Q (sym (last_arrivals got more (round_begin (length halls)) begins (omega (arith, begins, few)))) done;
          callers_are = behind.served.callers_are;
          shards_are = behind.served.shards_are;
        });
        left = sym (last_pushed halls d);
      }

  -- before the first round
  pub none_served : AreServedSoFar p opened clients callers shards [] [] None []
  none_served = record { drawn = λ q. (0, refl, omega arith); replies_are = refl; last = refl; hall = tt; rounds = no_halls p opened clients callers shards; left = refl }

  -- behind the last
  pub all_served : (got : List Arrival) (replies : List Reply) (last : Option ClosedView) (halls : List ClosedView) → AreServedSoFar p opened clients callers shards got replies last halls → length got ≡ sum clients.counts
      → AreServed p opened clients callers shards (record { arrivals = got; replies = replies; closed = last })
  all_served got replies last halls h all = record { drawn = h.drawn; all = all; replies = h.replies_are; halls = halls; rounds = h.rounds; left = h.left }

-- ---- the state between two rounds
-- some rounds were served; there is room for all arrivals and replies
pub record IsBetween (p : ProgramView) (opened : List (List Pair)) (clients : ClientsView) (callers shards : ℕ) (g : GathererView) (a : ArrivalsView) (replies : List Reply) (room : ℕ) (closed : Option ClosedView) : Type 0 where
  pub halls : List ClosedView
  pub gatherer_is : g ≡ record { counts = clients.counts; got = a.list }
  pub arrival_room : a.room ≡ sum clients.counts
  pub reply_room : sum clients.counts ≤ room
  pub many : length a.list ≡ min (round_begin (length halls)) (sum clients.counts)
  pub so_far : AreServedSoFar p opened clients callers shards a.list replies closed halls

module _ (p : ProgramView) (opened : List (List Pair)) (clients : ClientsView) (callers shards : ℕ) where
  abbrev At : GathererView → ArrivalsView → List Reply → ℕ → Option ClosedView → Type 0
  At g a replies room closed = IsBetween p opened clients callers shards g a replies room closed

  -- before the first round
  pub first_between : (g : GathererView) (a : ArrivalsView) (replies : List Reply) (room : ℕ) (closed : Option ClosedView) → g ≡ record { counts = clients.counts; got = [] } → a ≡ record { list = []; room = sum clients.counts } → replies ≡ [] → sum clients.counts ≤ room → closed ≡ None → At g a replies room closed
  first_between g a replies room closed g_is a_is none fits no_hall =
      let start : At (record { counts = clients.counts; got = [] }) (record { list = []; room = sum clients.counts }) [] room None = record {
        halls = [];
        gatherer_is = refl;
        arrival_room = refl;
        reply_room = fits;
        many = omega arith;
        so_far = none_served p opened clients callers shards;
      } in
      subst (λ (x : GathererView). At x a replies room closed) (sym g_is)
      (subst (λ (x : ArrivalsView). At (record { counts = clients.counts; got = [] }) x replies room closed) (sym a_is)
      (subst (λ (rs : List Reply). At (record { counts = clients.counts; got = [] }) (record { list = []; room = sum clients.counts }) rs room closed) (sym none)
      (subst (λ (o : Option ClosedView). At (record { counts = clients.counts; got = [] }) (record { list = []; room = sum clients.counts }) [] room o) (sym no_hall) start)))

  module _ (g h : GathererView) (a b : ArrivalsView) (replies : List Reply) (room : ℕ) (closed : Option ClosedView) (now : At g a replies room closed) where
    got_is : g.got ≡ a.list
    got_is = ap (λ (v : GathererView). v.got) now.gatherer_is

    counts_are : g.counts ≡ clients.counts
    counts_are = ap (λ (v : GathererView). v.counts) now.gatherer_is

    total_is : sum g.counts ≡ sum clients.counts
    total_is = ap sum counts_are

    -- there is room for what may come
    pub fits : (left most : ℕ) → left + length g.got ≡ sum g.counts → most ≤ left → length a.list + most ≤ a.room
    fits left most l m = omega (arith, l, m, total_is, ap (λ (xs : List Arrival). length xs) got_is, now.arrival_room)

    module _ (most : ℕ) (gathered : HasGathered g h a b most) where
      abbrev pub came : List Arrival
      came = gathered.arrivals

      pub list_is : b.list ≡ a.list ++ came
      list_is = gathered.list

      pub came_is : drop (length a.list) b.list ≡ came
      came_is = ap (drop (length a.list)) gathered.list ∙ dropped a.list came

      -- what came is drawn behind what was there
      pub drawn_on : IsDrawn h.counts h.got → IsDrawn clients.counts (a.list ++ came)
      drawn_on d =
          let P : List ℕ → Type 0 = λ cs. IsDrawn cs (a.list ++ came) in
          let Q : List Arrival → Type 0 = λ xs. IsDrawn h.counts xs in
          subst P (gathered.counts ∙ counts_are) (subst Q (gathered.got ∙ ap (λ (xs : List Arrival). xs ++ came) got_is) d)

      came_long : length h.got ≡ length a.list + length came
      came_long = ap (λ (xs : List Arrival). length xs) (gathered.got ∙ ap (λ (xs : List Arrival). xs ++ came) got_is) ∙ length-append a.list came

      module _ (left : ℕ) (left_is : left + length g.got ≡ sum g.counts) (some : 0 < left) (either : (256 ≤ left → most ≡ 256) × (left ≤ 256 → most ≡ left)) where
        record Counted : Type 0 where
          begins : length a.list ≡ round_begin (length now.halls)
          came_some : 0 < length came
          came_few : length a.list + length came ≤ round_begin (suc (length now.halls))
          all_many : length a.list + length came ≡ min (round_begin (suc (length now.halls))) (sum clients.counts)

        cases : (x y : ℕ) → (x ≤ y) ⊎ (y ≤ x)
        cases x y = grind arith

        at_begin : length a.list ≡ round_begin (length now.halls)
        at_begin = let many = now.many in let got = ap (λ (xs : List Arrival). length xs) got_is in omega (arith, many, got, total_is, left_is, some)

        -- how far the next one begins behind it
        size_is : length a.list + 256 ≡ round_begin (suc (length now.halls))
        size_is = omega (arith, at_begin)

        counted : Counted
        counted =
            let many = gathered.many in
            let got = ap (λ (xs : List Arrival). length xs) got_is in
            elim (cases left 256) [
              | inl l ↦ (let m = either.1 l in record {
                begins = at_begin;
                came_some = omega (arith, many, got, total_is, left_is, m, l, came_long, some);
                came_few = omega (arith, many, got, total_is, left_is, m, l, came_long, size_is);
                all_many = omega (arith, many, got, total_is, left_is, m, l, came_long, size_is);
              })
              | inr l ↦ (let m = either.0 l in record {
                begins = at_begin;
                came_some = omega (arith, many, got, total_is, left_is, m, l, came_long, some, size_is, at_begin);
                came_few = omega (arith, many, got, total_is, left_is, m, l, came_long, size_is);
                all_many = omega (arith, many, got, total_is, left_is, m, l, came_long, size_is);
              })
            ]

        module _ (d : ClosedView) (behind : IsServedBehind p opened closed (asked clients came) callers shards d) where
          -- there is room for the replies
          pub replies_fit : length replies + length d.replies ≤ room
          replies_fit =
              let done = behind.served.done in
              let mine = ap (λ (rs : List Reply). length rs) now.so_far.replies_are in
              let its = ap (λ (rs : List Reply). length rs) done.replies in
              let n = replies_few (session_by p opened clients a.list) (length a.list) in
              let k = replies_few (session_of (script p opened clients callers shards behind.opening came)) (length (asked clients came)) in
              let c = counted.all_many in
              omega (arith, mine, its, n, k, c, asked_many clients came, now.reply_room)

          pub next_between : (more : List Reply) (room_now : ℕ) (next : Option ClosedView) → IsDrawn h.counts h.got → more ≡ replies ++ d.replies → room_now ≡ room → next ≡ Some d → At h b more room_now next
          next_between more room_now next d_on more_is room_is next_is = record {
            halls = now.halls ++ d ∷ [];
            gatherer_is = (λ i. record { counts = (gathered.counts ∙ counts_are) i; got = (gathered.got ∙ ap (λ (xs : List Arrival). xs ++ came) got_is ∙ sym gathered.list) i });
            arrival_room = gathered.room ∙ now.arrival_room;
            reply_room = omega (arith, now.reply_room, room_is);
            many = ap (λ (xs : List Arrival). length xs) gathered.list ∙ length-append a.list came ∙ counted.all_many
                ∙ ap (λ (k : ℕ). min (round_begin k) (sum clients.counts)) (let long = length-append now.halls (d ∷ []) in let more : suc (length now.halls) ≡ length (now.halls ++ d ∷ []) = omega (arith, long) in more);
            so_far =
                subst (λ (xs : List Arrival). AreServedSoFar p opened clients callers shards xs more next (now.halls ++ d ∷ [])) (sym gathered.list)
                (subst (λ (rs : List Reply). AreServedSoFar p opened clients callers shards (a.list ++ came) rs next (now.halls ++ d ∷ [])) (sym more_is)
                (subst (λ (o : Option ClosedView). AreServedSoFar p opened clients callers shards (a.list ++ came) (replies ++ d.replies) o (now.halls ++ d ∷ [])) (sym next_is)
                (one_round_more p opened clients callers shards a.list came replies closed now.halls d now.so_far behind (drawn_on d_on) counted.came_some counted.begins counted.came_few)));
          }

  -- behind the last round
  pub last_between : (g : GathererView) (a : ArrivalsView) (replies : List Reply) (room : ℕ) (closed : Option ClosedView) → At g a replies room closed → length g.got ≡ sum g.counts → AreServed p opened clients callers shards (record { arrivals = a.list; replies = replies; closed = closed })
  last_between g a replies room closed now all =
      all_served p opened clients callers shards a.list replies closed now.halls now.so_far
      (let got = ap (λ (v : GathererView). length v.got) now.gatherer_is in let total = ap (λ (v : GathererView). sum v.counts) now.gatherer_is in omega (arith, all, got, total))
