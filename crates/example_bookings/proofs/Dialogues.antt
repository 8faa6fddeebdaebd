-- What a booking declares covers what it still calls.
use Rattle.std.proofs.Common.{◌≡◌, ℕ, ◌≤◌, ◌<◌, ◌^◌, List, [], ◌∷◌, ◌++◌, length, refl, subst, arith, lit<, inl, inr}
use Rattle.std.specs.List.{AllByRecursion}
use Rattle.session_values.specs.declared.value.Value.{Value}
use Rattle.session_values.specs.declared.value.Value.TheVariants.{Nil, Num, Sym}
use Rattle.session_values.specs.declared.op.Op.{Op}
use Rattle.session_values.specs.declared.reply.Reply.{Reply}
use Rattle.session_values.specs.Dialogue.{Answers, Calls, rest}
use Rattle.session_values.specs.Op.{IsHeld}
use Rattle.session_values.specs.Tables.{Fits}
use Rattle.session_values.specs.Values.{IsValue}
use Rattle.session_values.proofs.EntriesFacts.{same_call, no_call}
use Rattle.symbolic_ops.specs.Matching.{Below, Covered, HasNoVar, Matches, exact_symbol}
use Rattle.symbolic_ops.proofs.Above.{exact_stands}
use Rattle.session_journal.specs.Script.{HasValues, IsForesight}
use Rattle.example_bookings.specs.declared.booking.Booking.{Booking}
use Rattle.example_bookings.specs.Bookings.{answer, booking_tables, declares, dialogue, holder, look_up, second, take_seat, wait}

module _ (b : Booking) where
  held_number : (n : ℕ) → n < 2 ^ 32 → n < 2 ^ 63
  held_number n l = omega (arith, l)

  pub look_up_held : IsHeld (look_up b)
  look_up_held = record { key = held_number b.seat b.seat_held; value = tt; unused = (λ l. absurd (omega (arith, l)), λ l. refl) }

  pub take_seat_held : IsHeld (take_seat b)
  take_seat_held = record { key = held_number b.seat b.seat_held; value = held_number b.who b.who_held; unused = (λ l. absurd (omega (arith, l)), λ l. absurd (omega (arith, l))) }

  pub wait_held : IsHeld (wait b)
  wait_held = record { key = held_number b.who b.who_held; value = tt; unused = (λ l. absurd (omega (arith, l)), λ l. refl) }

  pub second_held : (found : Value) → IsHeld (second b found)
  second_held Nil = take_seat_held
  second_held (Num n) = wait_held
  second_held (Sym p) = wait_held

  pub second_fits : (found : Value) → Fits booking_tables (second b found)
  second_fits Nil = record { table = refl; key = (take_seat_held).unused.0; value = (take_seat_held).unused.1 }
  second_fits (Num n) = record { table = refl; key = (wait_held).unused.0; value = (wait_held).unused.1 }
  second_fits (Sym p) = record { table = refl; key = (wait_held).unused.0; value = (wait_held).unused.1 }

  -- each call is of the tables
  pub fits : (rs : List Value) (op : Op) → dialogue b rs ≡ Calls op → Fits booking_tables op
  fits [] op e = subst (Fits booking_tables) (same_call (look_up b) op e) (record { table = refl; key = (look_up_held).unused.0; value = (look_up_held).unused.1 })
  fits (found ∷ []) op e = subst (Fits booking_tables) (same_call (second b found) op e) (second_fits found)
  fits (found ∷ told ∷ more) op e = no_call (answer b found) op e

  holder_held : (found : Value) → IsValue found → IsValue (holder b found)
  holder_held Nil h = held_number b.who b.who_held
  holder_held (Num n) h = h
  holder_held (Sym p) h = h

  -- what comes is what a program can hold
  pub values : (rs : List Value) → AllByRecursion IsValue rs → HasValues (dialogue b rs)
  values [] h = look_up_held
  values (found ∷ []) h = second_held found
  values (found ∷ told ∷ more) h = record { a = holder_held found h.0; b = tt; c = tt; d = tt; count = (lit< tt, omega arith, λ l. refl, λ l. refl, λ l. refl) }

  -- it answers after two replies
  pub ends : (rs : List Value) → 2 ≤ length rs → (r : Reply) × (dialogue b rs ≡ Answers r)
  ends [] l = absurd (omega (arith, l))
  ends (found ∷ []) l = absurd (omega (arith, l))
  ends (found ∷ told ∷ more) l = (answer b found, refl)

  second_declared : (found : Value) → Matches (declares b []) (second b found)
  second_declared Nil = inr (inl (exact_stands (take_seat b) take_seat_held))
  second_declared (Num n) = inr (inr (inl (exact_stands (wait b) wait_held)))
  second_declared (Sym p) = inr (inr (inl (exact_stands (wait b) wait_held)))

  -- what is called next is declared
  pub matched : (rs : List Value) (op : Op) → dialogue b rs ≡ Calls op → Matches (declares b rs) op
  matched [] op e = subst (Matches (declares b [])) (same_call (look_up b) op e) (inl (exact_stands (look_up b) look_up_held))
  matched (found ∷ []) op e = subst (Matches (declares b (found ∷ []))) (same_call (second b found) op e) (inl (exact_stands (second b found) (second_held found)))
  matched (found ∷ told ∷ more) op e = no_call (answer b found) op e

  -- and so is all that is called later
  pub covers : (rs more : List Value) (op : Op) → dialogue b (rs ++ more) ≡ Calls op → Matches (declares b rs) op
  covers [] [] op e = matched [] op e
  covers [] (found ∷ []) op e = subst (Matches (declares b [])) (same_call (second b found) op e) (second_declared found)
  covers [] (found ∷ told ∷ more) op e = no_call (answer b found) op e
  covers (found ∷ []) [] op e = matched (found ∷ []) op e
  covers (found ∷ []) (told ∷ more) op e = no_call (answer b found) op e
  covers (found ∷ told ∷ rs) more op e = no_call (answer b found) op e

  few : (rs : List Value) → length (declares b rs) ≤ 256
  few [] = omega arith
  few (found ∷ []) = omega arith
  few (found ∷ told ∷ more) = omega arith

  known : (rs : List Value) → AllByRecursion HasNoVar (declares b rs)
  known [] = ((tt, tt), ((tt, tt), ((tt, tt), tt)))
  known (found ∷ []) = ((tt, tt), tt)
  known (found ∷ told ∷ more) = tt

  pub foresight : (rs : List Value) → IsForesight (rest (dialogue b) rs) (declares b rs)
  foresight rs = record { few = few rs; known = known rs; covers = record { each = λ more op h e. covers rs more op e } }

  below_itself : (op : Op) → Below (exact_symbol op) (exact_symbol op)
  below_itself op = record { kind = refl; table = refl; key = refl; value = refl }

  -- each reply narrows what is declared
  pub narrows : (rs : List Value) (v : Value) → Covered (declares b (rs ++ v ∷ [])) (declares b rs)
  narrows [] Nil = (inr (inl (below_itself (take_seat b))), tt)
  narrows [] (Num n) = (inr (inr (inl (below_itself (wait b)))), tt)
  narrows [] (Sym p) = (inr (inr (inl (below_itself (wait b)))), tt)
  narrows (found ∷ []) v = tt
  narrows (found ∷ told ∷ more) v = tt
