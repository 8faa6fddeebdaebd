-- A caller whose operation waits: each of its failed attempts is one of the try call.
use Rattle.std.proofs.Common.{◌≡◌, ℕ, suc, ◌⊎◌, inl, inr, refl, subst}
use Rattle.session_values.specs.declared.op.Op.{Op}
use Rattle.symbolic_ops.specs.declared.symbol.Symbol.{Symbol}
use Rattle.session_journal.specs.Script.{Meaning}
use Rattle.turn_board.specs.Boards.{givings}
use Rattle.session_hall.specs.declared.caller.Caller.{Caller}
use Rattle.session_hall.specs.declared.stage.Stage.{Stage}
use Rattle.session_hall.specs.declared.stage.Stage.TheVariants.{Idle, Serving as Serves, InFlight, Applied, Out}
use Rattle.session_hall.specs.Calls.{DelayedAt, IsBusy}
use Rattle.session_hall.specs.Stages.{HoldsNone, OnServing}
use Rattle.session_hall.specs.Waits.{IsFailedAdmit, OnlyDelayed, OnlyWaited}
use Rattle.session_hall.proofs.Tried.{IsSame, nothing_delayed, one_lost}
use Rattle.session_hall.proofs.Trying.{delay_more}

each_serving : (st : Stage) (P Q : ℕ → Type 0) → ((t : ℕ) → P t → Q t) → OnServing st P → OnServing st Q
each_serving (Serves t) P Q f x = f t x
each_serving Idle P Q f x = x
each_serving Out P Q f x = x
each_serving (InFlight t op) P Q f x = x
each_serving (Applied t op v) P Q f x = x

both_serving : (st : Stage) (P Q R : ℕ → Type 0) → ((t : ℕ) → P t → Q t → R t) → OnServing st P → OnServing st Q → OnServing st R
both_serving (Serves t) P Q R f x y = f t x y
both_serving Idle P Q R f x y = x
both_serving Out P Q R f x y = x
both_serving (InFlight t op) P Q R f x y = x
both_serving (Applied t op v) P Q R f x y = x

module _ {S : Type 0} (m : Meaning) (op : Op) where
  pub none_waited : (p : Caller S) (P : ℕ → Type 0) → OnServing p.stage P → OnServing p.stage (OnlyWaited m op p p)
  none_waited p P may = both_serving p.stage P (OnlyDelayed p p) (OnlyWaited m op p p) (λ t x y. record { tries = 0; only = y; each = refl }) may (nothing_delayed p P may)

  pub only_delayed : (p q : Caller S) → OnServing p.stage (OnlyWaited m op p q) → OnServing p.stage (OnlyDelayed p q)
  only_delayed p q s = each_serving p.stage (OnlyWaited m op p q) (OnlyDelayed p q) (λ t o. o.only) s

  pub waited_lost : (p via q : Caller S) (u : ℕ) (P : ℕ → Type 0) → OnServing p.stage (OnlyWaited m op p via) → IsSame via q → (u ≡ 0) × IsBusy m via q u (givings via.seat) → OnServing via.stage P → OnServing p.stage (OnlyWaited m op p q)
  waited_lost p via q u P s n b may =
      let B : ℕ → Type 0 = λ v. IsBusy m via q v (givings via.seat) in
      let w : IsFailedAdmit m op via q = each_serving via.stage P (λ t. IsBusy m via q 0 (givings via.seat) ⊎ ((older : ℕ) × (y : Symbol) × DelayedAt m via q op older y t)) (λ t x. inl (subst B b.0 b.1)) may in
      both_serving p.stage (OnlyWaited m op p via) (OnlyDelayed p q) (OnlyWaited m op p q) (λ t o d. record { tries = suc o.tries; only = d; each = (via, o.each, w) }) s (one_lost m p via q u (only_delayed p via s) n b)

  pub waited_delay : (p via q : Caller S) (s : OnServing p.stage (OnlyWaited m op p via)) (older : ℕ) (y : Symbol) (d : OnServing via.stage (DelayedAt m via q op older y)) → IsSame via q → HoldsNone via.seat via.hands.pairs → HoldsNone q.seat q.hands.pairs → OnServing p.stage (OnlyWaited m op p q)
  waited_delay p via q s older y d number none still =
      let w : IsFailedAdmit m op via q = each_serving via.stage (DelayedAt m via q op older y) (λ t. IsBusy m via q 0 (givings via.seat) ⊎ ((o : ℕ) × (z : Symbol) × DelayedAt m via q op o z t)) (λ t x. inr (older, y, x)) d in
      both_serving p.stage (OnlyWaited m op p via) (OnlyDelayed p q) (OnlyWaited m op p q) (λ t o e. record { tries = suc o.tries; only = e; each = (via, o.each, w) }) s (delay_more m p via q op (only_delayed p via s) older y d number none still)
