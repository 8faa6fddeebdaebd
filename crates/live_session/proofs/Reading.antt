-- Lines that are accepted, and why others aren't.
use Rattle.std.proofs.Common.{◌≡◌, ◌≢◌, ℕ, ◌<◌, ◌≤◌, inl, inr, true, List, length, take, Some, None, sym, ◌∙◌, ap, subst, arith}
use Rattle.std.specs.List.{list_all}
use Rattle.session_values.specs.Names.{Begins}
use Rattle.session_values.specs.declared.value.Value.{Value}
use Rattle.handler_check.specs.File.{File}
use Rattle.handler_check.specs.Bounds.{adds_bound}
use Rattle.handler_check.specs.Resolved.{code_at, params_at}
use Rattle.text_lines.specs.Rows.{Row}
use Rattle.text_lines.specs.Text.{Text}
use Rattle.text_lines.specs.Values.{is_value, placed_all, values_of}
use Rattle.request_files.specs.Requests.{IsHandler, handler_of}
use Rattle.request_files.proofs.FaultLemmas.{values_long}
use Rattle.shard_tables.specs.declared.part.Part.{Part}
use Rattle.live_session.specs.declared.answers.Answered.{Answered}
use Rattle.live_session.specs.declared.answers.Answered.TheVariants as answered
use Rattle.live_session.specs.declared.answers.LineRefusal.TheVariants as rule
use Rattle.live_session.specs.Accepting.{IsAccepted, IsDeclined, IsReadable, IsTurnedAway, IsUnread, row_list}
use Rattle.symbolic_ops.specs.declared.symbol.Symbol.{Symbol}
use Rattle.declaration_insertion.specs.Program.{ProgramView}
use Rattle.driven_tickets.specs.Commuting.{IsClear, IsHeldUpBy}
use Rattle.driven_tickets.specs.Desk.{TicketsView}
use Rattle.live_session.specs.Entries.{IsHeldBack, entry_list}
use Rattle.live_session.specs.Held.{AreAdds, HaveRoom, HaveRoomFor, adds_in}
use Rattle.live_session.specs.Served.{fault_at, line_fault}
use Rattle.live_session.proofs.Faults.{fault_arity, fault_bad, fault_none, fault_unknown}
use Rattle.live_session.proofs.Lines.{front_back}

-- names that are taken back are as they were
pub back : (old mid new : List Text) (n : ℕ) → Begins old mid → n ≡ length old → new ≡ take n mid → new ≡ old
back old mid new n b e is = is ∙ ap (λ (k : ℕ). take k mid) e ∙ front_back old mid b

module _ (f : File) (names : List Text) (most : ℕ) (r : Row) where
  pub unknown : IsHandler names f r.name None → IsDeclined f names most r (answered.Refused rule.UnknownHandler)
  unknown l = fault_unknown f r (handler_of names f r.name) l

  module _ (h : ℕ) (found : IsHandler names f r.name (Some h)) where
    at : line_fault names f r ≡ fault_at f r h
    at = ap (fault_at f r) (sym found.0)

    pub other_arity : params_at f h ≢ length r.args → IsDeclined f names most r (answered.Refused rule.Arity)
    other_arity d = at ∙ fault_arity f r h found.1 d

    module _ (same : params_at f h ≡ length r.args) where
      fine_by : list_all is_value r.args ≡ true → line_fault names f r ≡ None
      fine_by e = at ∙ fault_none f r h found.1 same e

      pub unread : (a : Answered) → IsUnread names most r.args a → IsDeclined f names most r a
      unread answered.Served u = absurd u
      unread answered.Nothing u = absurd u
      unread (answered.Refused rule.ManyLines) u = absurd u
      unread (answered.Refused rule.TooLong) u = absurd u
      unread (answered.Refused rule.UnknownHandler) u = absurd u
      unread (answered.Refused rule.Arity) u = absurd u
      unread (answered.Refused rule.BadWord) u = at ∙ fault_bad f r h found.1 same u
      unread answered.TooManyNames u = (fine_by u.0, u.1)
      unread (answered.Delayed o) u = absurd u
      unread answered.NoNumber u = absurd u
      unread answered.NoMemory u = (fine_by u.0, inr u.1)

      pub accepted_row : (new : List Text) (vals : List Value) → list_all is_value r.args ≡ true → new ≡ placed_all names r.args → length new ≤ most → vals ≡ values_of new r.args → IsAccepted f names most r new vals h
      accepted_row new vals values is few are = record {
        fine = fine_by values;
        handler = found.0;
        exists = found.1;
        params = ap (λ (vs : List Value). length vs) are ∙ values_long new r.args ∙ sym same;
        names_are = is;
        few = few;
        args_are = are;
      }

-- room for all keys that the handler may add, or a key that wanted it
module _ (f : File) (h : ℕ) (exists : h < length f.handlers) (adds : List (List ℕ)) (ps : List Part) (bounds : AreAdds f (length ps) adds) where
  pub room_for : (qs : List Part) → length qs ≡ length ps → HaveRoom (λ t. adds_in adds t h) qs → HaveRoomFor (code_at f h) qs
  room_for qs long room t low =
      let e = bounds.each t h (omega (arith, low, long)) exists in
      omega (arith, room t low, e)

  pub wants_room : (t : ℕ) → t < length adds → 0 < adds_in adds t h → 0 < adds_bound t (code_at f h)
  wants_room t low some =
      let e = bounds.each t h (omega (arith, low, bounds.long)) exists in
      omega (arith, some, e)

-- why a row isn't read, and why it isn't let run, are why it isn't accepted
module _ (p : ProgramView) (k : TicketsView) (names : List Text) (most : ℕ) (r : Row) where
  pub unread_away : (a : Answered) → IsDeclined p.file names most r a → IsTurnedAway p k names most r a
  unread_away answered.Served h = h
  unread_away answered.Nothing h = h
  unread_away (answered.Refused e) h = h
  unread_away answered.TooManyNames h = h
  unread_away (answered.Delayed u) h = absurd h
  unread_away answered.NoNumber h = absurd h
  unread_away answered.NoMemory h = h

  module _ (new : List Text) (vals : List Value) (h : ℕ) (ok : IsAccepted p.file names most r new vals h) where
    readable : IsReadable p names most r
    readable = (ok.fine, subst (λ (ns : List Text). length ns ≤ most) ok.names_are ok.few)

    list_is : entry_list p h vals ≡ row_list p names r
    list_is = λ i. entry_list p (ok.handler i) ((ok.args_are ∙ ap (λ (ns : List Text). values_of ns r.args) ok.names_are) i)

    pub held_away : (a : Answered) → IsHeldBack p k h vals a → IsTurnedAway p k names most r a
    held_away answered.Served b = b
    held_away answered.Nothing b = b
    held_away (answered.Refused e) b = absurd b
    held_away answered.TooManyNames b = absurd b
    held_away (answered.Delayed u) b = (readable, subst (λ (l : List Symbol). IsHeldUpBy k l u) list_is b)
    held_away answered.NoNumber b = (readable, subst (IsClear k) list_is b.0, b.1)
    held_away answered.NoMemory b =
        let P : ℕ → Type 0 = λ n. 0 < adds_bound b.0 (code_at p.file n) in
        (ok.fine, inl (b.0, subst P ok.handler b.1))
