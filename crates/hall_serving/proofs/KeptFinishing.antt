-- What a desk over a holding shows, said of the holding.
use Rattle.std.proofs.Common.{◌≡◌, ℕ, List, [], ◌∷◌, ◌++◌, Option, refl, sym, subst}
use Rattle.session_values.specs.declared.reply.Reply.{Reply}
use Rattle.session_values.specs.declared.value.Value.{Value}
use Rattle.session_values.specs.Dialogue.{rest, replies}
use Rattle.symbolic_ops.specs.declared.symbol.Symbol.{Symbol}
use Rattle.symbolic_ops.specs.Matching.{Covered}
use Rattle.symbolic_ops.proofs.Above.{covered_itself}
use Rattle.session_journal.specs.Desks as desks
use Rattle.session_journal.specs.Script.{Meaning, HasSite, IsForesight, declared_with}
use Rattle.session_journal.specs.declared.site.Site.{Site}
use Rattle.session_hall.specs.declared.hall.Hall.{Hall}
use Rattle.session_hall.specs.declared.holding.Holding.{Holding}
use Rattle.session_hall.specs.declared.stage.Stage.{Stage}
use Rattle.session_hall.specs.declared.stage.Stage.TheVariants.{Idle, Serving, InFlight, Applied, Out}
use Rattle.session_hall.specs.Calls.{MayFinishAt}
use Rattle.session_hall.specs.Holdings.{entries_at, foresight_at, present_book}
use Rattle.session_hall.specs.Names.{script_of}
use Rattle.hall_serving.specs.Desks.{AtTicket, HallView, waiting_of}
use Rattle.hall_serving.specs.KeptDesks.{IsHoldingOfDesk, KeptStands, kept_desk_at}

module _ {S : Type 0} (meaning : S → Meaning) (h : Hall S) (c : Holding S) (t name : ℕ) (r : Option Reply) where
  -- what the desk shows is as it is over this holding
  abbrev pub Shows : HallView S → Type 0
  Shows v = ◌≡◌ {A = HallView S} (record { script = script_of h; desk = kept_desk_at h c t name; reply = r }) v

  -- what the desk is asked before it enters an operation
  pub may_enter : KeptStands meaning h c t r → (v : HallView S) → Shows v → (next : List Symbol) → desks.MayFinish (meaning v.script) v.desk v.desk.waiting next → MayFinishAt (meaning (script_of h)) c.caller.stage (foresight_at c) (present_book c) next
  may_enter stands v is next may =
      let P : HallView S → Type 0 = λ w. desks.MayFinish (meaning w.script) w.desk w.desk.waiting next in
      go c.caller.stage stands.at (subst P (sym is) may)
    where
      go : (st : Stage) → AtTicket st t r → desks.MayFinish (meaning (script_of h)) (kept_desk_at h c t name) (waiting_of st) next → MayFinishAt (meaning (script_of h)) st (foresight_at c) (present_book c) next
      go (Applied u op w) at m =
          let Q : ℕ → Type 0 = λ x. Covered next (foresight_at c)
          × IsForesight (rest ((meaning (script_of h)).next x) (replies (entries_at c x ++ record { op = op; reply = w } ∷ []))) next
          × Covered next ((meaning (script_of h)).told x (replies (entries_at c x ++ record { op = op; reply = w } ∷ []))) in
          let T : List Symbol → Type 0 = λ l. Covered next l in
          subst Q (sym at.0) (m.1.covered, m.1.foresight, subst T m.0 (covered_itself next m.1.foresight.known))
      go Idle at m = absurd m
      go (Serving u) at m = absurd m
      go (InFlight u op) at m = absurd m
      go Out at m = absurd m

  -- ---- the same of a site of the desk's script, which is the hall's
  pub is_site : (v : HallView S) → Shows v → (s : Site) (n : ℕ) → HasSite (meaning v.script) s n → HasSite (meaning (script_of h)) s n
  is_site v is s n has = let P : HallView S → Type 0 = λ w. HasSite (meaning w.script) s n in subst P (sym is) has

  pub may_enter_at : KeptStands meaning h c t r → (v : HallView S) → Shows v → (s : Site) (values : List Value) → desks.MayFinish (meaning v.script) v.desk v.desk.waiting (declared_with (meaning v.script) s values) → MayFinishAt (meaning (script_of h)) c.caller.stage (foresight_at c) (present_book c) (declared_with (meaning (script_of h)) s values)
  may_enter_at stands v is s values may =
      let P : HallView S → Type 0 = λ w. MayFinishAt (meaning (script_of h)) c.caller.stage (foresight_at c) (present_book c) (declared_with (meaning w.script) s values) in
      subst P (sym is) (may_enter stands v is (declared_with (meaning v.script) s values) may)

  -- the holding that a desk gives back
  pub leaves_kept : KeptStands meaning h c t r → (v : HallView S) → Shows v → IsHoldingOfDesk meaning v c name
  leaves_kept stands v is =
      let P : HallView S → Type 0 = λ w. IsHoldingOfDesk meaning w c name in
      subst P is (record { hall = h; script_is = refl; desk_is = refl; stands = stands })
