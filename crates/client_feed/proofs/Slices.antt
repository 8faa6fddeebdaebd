-- What came in a round, as a slice of all arrivals.
use Rattle.std.proofs.Common.{◌≡◌, ℕ, ◌-◌, List, ◌++◌, length, length-append, length-drop, take, drop, Option, sym, ◌∙◌, subst, arith}
use Rattle.std.proofs.lemmas.List.{length-take-le, take_all}
use Rattle.session_values.specs.declared.reply.Reply.{Reply}
use Rattle.session_values.specs.Opening.{Pair}
use Rattle.session_hall.specs.Closings.{ClosedView}
use Rattle.declaration_insertion.specs.Program.{ProgramView}
use Rattle.request_files.specs.Clients.{ClientsView}
use Rattle.client_feed.specs.Arrival.{Arrival}
use Rattle.client_feed.specs.Arrivals.{IsDrawn}
use Rattle.client_feed.specs.Ends.{ArrivalsView, GathererView, HasGathered}
use Rattle.client_feed.specs.Behind.{IsServedBehind}
use Rattle.client_feed.specs.Picking.{AreArrivals}
use Rattle.client_feed.proofs.Between.{IsBetween, came_is, drawn_on}
use Rattle.client_feed.proofs.Sessions.{asked}

-- a list that is written from its beginning on is as long as before
pub kept_long : (n : ℕ) (xs ys : List ℕ) → length ys ≡ n → length xs ≡ n → length (take n (xs ++ drop (length xs) ys)) ≡ n
kept_long n xs ys old new = length-take-le n (xs ++ drop (length xs) ys) (omega (arith, length-append xs (drop (length xs) ys), length-drop (length xs) ys, old, new))

module _ (p : ProgramView) (opened : List (List Pair)) (clients : ClientsView) (callers shards : ℕ) (g h : GathererView) (a b : ArrivalsView) (replies : List Reply) (room : ℕ) (closed : Option ClosedView) (now : IsBetween p opened clients callers shards g a replies room closed) (most : ℕ) (gathered : HasGathered g h a b most) (k : ℕ) (xs : List Arrival) (k_is : k ≡ length a.list) (xs_is : xs ≡ b.list) where
  abbrev slice : List Arrival
  slice = take (length xs - k) (drop k xs)

  slice_is : slice ≡ gathered.arrivals
  slice_is =
      take_all (length xs - k) (drop k xs) (omega (arith, length-drop k xs))
      ∙ (λ i. drop (k_is i) (xs_is i))
      ∙ came_is p opened clients callers shards g h a b replies room closed now most gathered

  pub slice_drawn : IsDrawn h.counts h.got → AreArrivals clients.counts slice
  slice_drawn d =
      let P : List Arrival → Type 0 = λ ys. IsDrawn clients.counts (a.list ++ ys) in
      record { before = a.list; drawn = subst P (sym slice_is) (drawn_on p opened clients callers shards g h a b replies room closed now most gathered d) }

  pub slice_served : (d : ClosedView) → IsServedBehind p opened closed (asked clients slice) callers shards d → IsServedBehind p opened closed (asked clients gathered.arrivals) callers shards d
  slice_served d s =
      let P : List Arrival → Type 0 = λ ys. IsServedBehind p opened closed (asked clients ys) callers shards d in
      subst P slice_is s
