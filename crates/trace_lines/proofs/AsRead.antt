-- What is read of an accepted list of events is accepted too.
use Rattle.std.proofs.Common.{◌≡◌, ℕ, suc, ◌<◌, Bool, false, IsSome, List, [], ◌∷◌, ◌++◌, map, Option, Some, None, refl, sym, ◌∙◌, ap, subst}
use Rattle.session_values.specs.declared.op.Op.{Op}
use Rattle.session_values.specs.declared.reply.Reply.{Reply}
use Rattle.session_values.specs.declared.value.Value.{Value}
use Rattle.session_values.specs.declared.value.Value.TheVariants.{Nil, Num, Sym}
use Rattle.session_values.specs.Tables.{reply}
use Rattle.session_values.specs.Dialogue.{replies}
use Rattle.symbolic_ops.specs.declared.arg.Arg.{Arg}
use Rattle.symbolic_ops.specs.declared.arg.Arg.TheVariants.{Known, Var, Any}
use Rattle.symbolic_ops.specs.declared.symbol.Symbol.{Symbol}
use Rattle.symbolic_ops.specs.Matching.{Agrees, StandsFor}
use Rattle.symbolic_ops.specs.Commuting.{CommutesWith}
use Rattle.session_journal.specs.declared.event.Event.{Event}
use Rattle.session_journal.specs.declared.event.Event.TheVariants.{Begin, Done, Delay, End}
use Rattle.session_journal.specs.Journal.{DoneOperation, after, begun, by_ticket, caller_of, done_operations, end_of, ended, first, in_order, of_ticket, owner, regrouped, Replays, run}
use Rattle.session_journal.specs.Script.{Meaning}
use Rattle.session_journal.specs.EventsInTurn.{IsOpen, delayed_after, is_delayed_from, now}
use Rattle.session_journal.specs.Accepted.{Accepted, AreAllowed, IsAllowed}
use Rattle.trace_lines.specs.EventWords.{arg_as_read, as_read, place_as_read, symbol_as_read}

module _ (names : List (List ℕ)) where
  -- ---- symbols: what is read stands for all that was written

  place_agrees : (place : ℕ) (o : Option (List ℕ)) (v : Value) → ◌≡◌ {A = Value} (Sym place) v → Agrees (place_as_read place o) v
  place_agrees place None v e = tt
  place_agrees place (Some text) v e = e

  arg_agrees : (a : Arg) (v : Value) → Agrees a v → Agrees (arg_as_read names a) v
  arg_agrees (Known Nil) v e = e
  arg_agrees (Known (Num n)) v e = e
  arg_agrees (Known (Sym place)) v e = place_agrees place _ v e
  arg_agrees (Var x) v e = absurd e
  arg_agrees Any v e = tt

  stands_for : (s : Symbol) (op : Op) → StandsFor s op → StandsFor (symbol_as_read names s) op
  stands_for s op h = record { held = h.held; kind = h.kind; table = h.table; key = arg_agrees s.key op.key h.key; value = arg_agrees s.value op.value h.value }

  -- what stands for more commutes with less
  commutes : (op : Op) (s : Symbol) → CommutesWith op (symbol_as_read names s) → CommutesWith op s
  commutes op s h = record { each = λ b stands. h.each b (stands_for s b stands) }

  -- ---- what is asked of the events so far

  abbrev read : List Event → List Event
  read J = map (as_read names) J

  done_same : (J : List Event) → done_operations (read J) ≡ done_operations J
  done_same [] = refl
  done_same (Begin t c ∷ J) = done_same J
  done_same (Done t op v ∷ J) = ap (λ (ds : List DoneOperation). record { ticket = t; op = op; reply = v } ∷ ds) (done_same J)
  done_same (Delay t op older s ∷ J) = done_same J
  done_same (End t r ∷ J) = done_same J

  begun_same : (J : List Event) → begun (read J) ≡ begun J
  begun_same [] = refl
  begun_same (Begin t c ∷ J) = ap suc (begun_same J)
  begun_same (Done t op v ∷ J) = begun_same J
  begun_same (Delay t op older s ∷ J) = begun_same J
  begun_same (End t r ∷ J) = begun_same J

  first_same : {X : Type 0} (f : Event → Option X) → ((e : Event) → f (as_read names e) ≡ f e) → (J : List Event) → first f (read J) ≡ first f J
  first_same f h [] = refl
  first_same {X} f h (e ∷ J) =
      ap (λ (o : Option X). elim o [ Some x ↦ Some x | None ↦ first f (read J) ]) (h e)
      ∙ ap (λ (rest : Option X). elim (f e) [ Some x ↦ Some x | None ↦ rest ]) (first_same f h J)

  ended_same : (J : List Event) (t : ℕ) → ended (read J) t ≡ ended J t
  ended_same J t = first_same (end_of t) each J
    where
      each : (e : Event) → end_of t (as_read names e) ≡ end_of t e
      each (Begin u c) = refl
      each (Done u op v) = refl
      each (Delay u op older s) = refl
      each (End u r) = refl

  owner_same : (J : List Event) (t : ℕ) → owner (read J) t ≡ owner J t
  owner_same J t = first_same (caller_of t) each J
    where
      each : (e : Event) → caller_of t (as_read names e) ≡ caller_of t e
      each (Begin u c) = refl
      each (Done u op v) = refl
      each (Delay u op older s) = refl
      each (End u r) = refl

  delayed_same : (b : Bool) (J : List Event) (t : ℕ) → is_delayed_from b (read J) t ≡ is_delayed_from b J t
  delayed_same b [] t = refl
  delayed_same b (Begin u c ∷ J) t = delayed_same (delayed_after t (Begin u c) b) J t
  delayed_same b (Done u op v ∷ J) t = delayed_same (delayed_after t (Done u op v) b) J t
  delayed_same b (Delay u op older s ∷ J) t = delayed_same (delayed_after t (Delay u op older s) b) J t
  delayed_same b (End u r ∷ J) t = delayed_same (delayed_after t (End u r) b) J t

  read_more : (J : List Event) (e : Event) → read (J ++ e ∷ []) ≡ read J ++ as_read names e ∷ []
  read_more [] e = refl
  read_more (x ∷ J) e = ap (λ (K : List Event). as_read names x ∷ K) (read_more J e)

  -- ---- acceptance

  module _ (m : Meaning) where
    open_same : (J : List Event) (t : ℕ) → IsOpen J t → IsOpen (read J) t
    open_same J t h = record { begun = subst (λ (n : ℕ). t < n) (sym (begun_same J)) h.begun; not_ended = ended_same J t ∙ h.not_ended }

    now_same : (J : List Event) (t : ℕ) → now m (read J) t ≡ now m J t
    now_same J t = ap (λ (ds : List DoneOperation). m.next t (replies (of_ticket t ds))) (done_same J)

    reply_same : (J : List Event) (op : Op) → reply (after m.opening (read J)) op ≡ reply (after m.opening J) op
    reply_same J op = ap (λ (ds : List DoneOperation). reply (run m.opening (in_order ds)) op) (done_same J)

    allowed : (J : List Event) (e : Event) → IsAllowed m J e → IsAllowed m (read J) (as_read names e)
    allowed J (Begin t c) h = record {
      next = h.next ∙ sym (begun_same J);
      left = h.left;
      caller = h.caller;
      others = λ u is. subst (λ (o : Option Reply). IsSome o) (sym (ended_same J u)) (h.others u (sym (owner_same J u) ∙ is));
    }
    allowed J (Done t op v) h = (record { is_open = open_same J t h.0.is_open; calls = now_same J t ∙ h.0.calls }, reply_same J op ∙ h.1)
    allowed J (Delay t op older s) h = record {
      is_open = open_same J t h.is_open;
      calls = now_same J t ∙ h.calls;
      is_older = h.is_older;
      symbol = λ c. h.symbol (commutes op s c);
      once = delayed_same false J t ∙ h.once;
    }
    allowed J (End t r) h = record { is_open = open_same J t h.is_open; answers = now_same J t ∙ h.answers }

    all_allowed : (front J : List Event) → AreAllowed m front J → AreAllowed m (read front) (read J)
    all_allowed front [] h = tt
    all_allowed front (e ∷ J) h = (allowed front e h.0, subst (λ (K : List Event). AreAllowed m K (read J)) (read_more front e) (all_allowed (front ++ e ∷ []) J h.1))

    regrouped_same : (J : List Event) → regrouped (read J) ≡ regrouped J
    regrouped_same J = ap (λ (n : ℕ). by_ticket n (done_operations (read J))) (begun_same J) ∙ ap (λ (ds : List DoneOperation). by_ticket (begun J) ds) (done_same J)

    pub accepted_as_read : (J : List Event) → Accepted m J → Accepted m (map (as_read names) J)
    accepted_as_read J a = record {
      allowed = all_allowed [] J a.allowed;
      ended = λ t l. ((a.ended t l).0, ended_same J t ∙ (a.ended t l).1);
      regrouped = subst (Replays m.opening) (sym (regrouped_same J)) a.regrouped;
    }
