-- The calls on the book of a ticket that may get a key and one that puts it: each may be made.
use Rattle.std.proofs.Common.{ℕ, zero, suc, ◌<◌, List, [], inl, inr, refl, arith}
use Rattle.std.specs.Option.{IsSome}
use Rattle.session_values.specs.declared.value.Value.TheVariants.{Nil}
use Rattle.symbolic_ops.specs.declared.symbol.Symbol.{Symbol}
use Rattle.session_journal.specs.Journal.{ended}
use Rattle.admission_book.specs.Methods.{MayBeginNext, MayAdmit, MayDo, MayEnd, MayNarrow}
use Rattle.session_hall.specs.Stages.{flying, waiting}
use Rattle.tests_desks.specs.BookRows.{meaning_of, nil_reply, put_of}
use Rattle.tests_desks.specs.TwoPuts.{both_begun, both_ended, first_admitted, first_put, get_or_puts, may_get, may_put, may_put_both, none_against, second_admitted, second_delayed, second_put, younger_ended}
use Rattle.tests_desks.proofs.BookRows.{calls_put, no_calls, put_is_nil, put_stands}

pub none_left : (f : List Symbol) → MayBeginNext (meaning_of get_or_puts) both_begun 2 f
none_left f = record { caller = omega arith; idle = refl; entry = λ l. absurd (omega (arith, l)); declared = λ l. absurd (omega (arith, l)) }

pub admits_first : MayAdmit (meaning_of get_or_puts) both_begun 1 (put_of 2 7)
admits_first = record { caller = 1; serving = waiting 1 may_put_both; is = refl; ticket = refl; idle = refl; calls = refl; matches = inl (put_stands 2 7 (omega arith) (omega arith)) }

pub does_first : MayDo (meaning_of get_or_puts) first_admitted 1 Nil may_put
does_first = record {
  caller = 1;
  serving = flying 1 may_put_both (put_of 2 7);
  op = put_of 2 7;
  is = refl;
  ticket = refl;
  flight = refl;
  reply_is = put_is_nil _ 2 7;
  covered = (inr (inl (record { kind = refl; table = refl; key = refl; value = refl })), tt);
  covers = record { few = omega arith; known = ((tt, tt), tt); covers = record { each = calls_put } };
  declared = (inr (inl (record { kind = refl; table = refl; key = refl; value = refl })), tt);
}

pub admits_second : MayAdmit (meaning_of get_or_puts) first_put 1 (put_of 1 7)
admits_second = record { caller = 1; serving = waiting 1 may_put; is = refl; ticket = refl; idle = refl; calls = refl; matches = inl (put_stands 1 7 (omega arith) (omega arith)) }

module _ (older : ℕ) (y : Symbol) where
  pub narrows_older : MayNarrow (meaning_of get_or_puts) (second_delayed older y) 0 []
  narrows_older = record { caller = 0; serving = waiting 0 may_get; is = refl; ticket = refl; idle = refl; covered = tt; covers = record { few = omega arith; known = tt; covers = record { each = no_calls } } }

  pub admits_again : MayAdmit (meaning_of get_or_puts) (none_against older y) 1 (put_of 1 7)
  admits_again = record { caller = 1; serving = waiting 1 may_put; is = refl; ticket = refl; idle = refl; calls = refl; matches = inl (put_stands 1 7 (omega arith) (omega arith)) }

  pub does_second : MayDo (meaning_of get_or_puts) (second_admitted older y) 1 Nil []
  does_second = record {
    caller = 1;
    serving = flying 1 may_put (put_of 1 7);
    op = put_of 1 7;
    is = refl;
    ticket = refl;
    flight = refl;
    reply_is = put_is_nil _ 1 7;
    covered = tt;
    covers = record { few = omega arith; known = tt; covers = record { each = no_calls } };
    declared = tt;
  }

  pub ends_younger : MayEnd (meaning_of get_or_puts) (second_put older y) 1 nil_reply
  ends_younger = record { caller = 1; serving = waiting 1 []; is = refl; ticket = refl; idle = refl; answers = refl }

  pub ends_older : MayEnd (meaning_of get_or_puts) (younger_ended older y) 0 nil_reply
  ends_older = record { caller = 0; serving = waiting 0 []; is = refl; ticket = refl; idle = refl; answers = refl }

  pub all_have_ended : (t : ℕ) → t < (meaning_of get_or_puts).requests → IsSome (ended (both_ended older y).journal t)
  all_have_ended zero l = refl
  all_have_ended (suc zero) l = refl
  all_have_ended (suc (suc t)) l = absurd (omega (arith, l))
