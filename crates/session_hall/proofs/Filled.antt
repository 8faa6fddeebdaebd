-- A shard is filled, the last entry first.
use Rattle.std.proofs.Common.{◌≡◌, ◌≢◌, ℕ, ◌+◌, ◌<◌, ◌≤◌, List, [], ◌∷◌, length, drop, Some, sym, ◌∙◌, ap, arith, drop_of_length-le}
use Rattle.std.proofs.lemmas.Bool.{eq-eqb, ne_eqb}
use Rattle.std.specs.Prelude.{slice_get}
use Rattle.session_values.specs.declared.kind.TableKind.{TableKind}
use Rattle.session_values.specs.declared.op.Op.{Op}
use Rattle.session_values.specs.Tables.{Container, after_on, size_of}
use Rattle.session_values.proofs.Options.{drop_step}
use Rattle.session_journal.specs.Opening.{Pair, container_of, entries_of}
use Rattle.session_journal.proofs.Openings.{entries_few}
use Rattle.session_journal.specs.Script.{IsScript, Meaning, room}
use Rattle.shard_tables.specs.Parts.{part, shard_of}
use Rattle.hall_rule.specs.Filling.{count_in}
use Rattle.hall_rule.proofs.Filling.{count_drop, count_here, count_length, filled_here, part_count, part_none, part_passed}

module _ (n j : ℕ) (kind : TableKind) (es : List Pair) where
  -- no entry has entered
  pub none_entered : (i : ℕ) (c : Container) → c ≡ container_of kind [] → length es ≤ i → c ≡ part n j (container_of kind (drop i es))
  none_entered i c e l = e ∙ sym (ap (λ (fs : List Pair). part n j (container_of kind fs)) (drop_of_length-le es l) ∙ part_none n j kind)

  module _ (i : ℕ) (e : Pair) where
    -- an entry of this shard enters
    pub entered : (op : Op) (c : Container) → c ≡ part n j (container_of kind (drop (i + 1) es)) → slice_get es i ≡ Some e → shard_of n e.0 ≡ j → op.key ≡ e.0
        → ((fs : List Pair) → after_on (container_of kind fs) op ≡ container_of kind (e ∷ fs)) → after_on c op ≡ part n j (container_of kind (drop i es))
    entered op c held at here key enters =
        ap (λ (d : Container). after_on d op) held
        ∙ filled_here n j kind e op key enters (drop (i + 1) es) (eq-eqb (shard_of n e.0) j here)
        ∙ ap (λ (fs : List Pair). part n j (container_of kind fs)) (sym (drop_step es i e at))

    -- for it there is room
    pub fits_more : (c : Container) → c ≡ part n j (container_of kind (drop (i + 1) es)) → slice_get es i ≡ Some e → shard_of n e.0 ≡ j → size_of c < count_in n j es
    fits_more c held at here = omega (arith, ap size_of held, part_count n j kind (drop (i + 1) es), count_here n j es i e at here, count_drop n j i es)

-- one of another shard leaves it as it is
pub passed : (n j : ℕ) (kind : TableKind) (es : List Pair) (i : ℕ) (e : Pair) → slice_get es i ≡ Some e → shard_of n e.0 ≢ j → part n j (container_of kind (drop (i + 1) es)) ≡ part n j (container_of kind (drop i es))
passed n j kind es i e at apart =
    part_passed n j kind e (drop (i + 1) es) (ne_eqb (shard_of n e.0) j apart)
    ∙ ap (λ (fs : List Pair). part n j (container_of kind fs)) (sym (drop_step es i e at))

-- ---- the room of a shard
pub room_few : (m : Meaning) (i n j : ℕ) → IsScript m → room m i + count_in n j (entries_of m.opened i) ≤ 1200000
room_few m i n j s =
    let few : room m i ≤ 200000 = s.few_adds i in
    omega (arith, few, count_length n j (entries_of m.opened i), entries_few m.opened i, s.opened.few)
