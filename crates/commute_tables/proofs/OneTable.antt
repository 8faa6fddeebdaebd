-- From one container to all tables.
use Rattle.std.proofs.Common.{◌≡◌, ℕ, ◌<◌, ◌≤◌, ◌≢◌, length, inl, inr, sym, ◌∙◌, ap, subst}
use Rattle.std.proofs.Math.ListN.{set as put_at}
use Rattle.std.proofs.lemmas.List.{get_or-set_same, get_or-set_other, set_past, set-set, set_comm}
use Rattle.std.proofs.lemmas.Bool.{cases_lt}
use Rattle.session_values.specs.declared.kind.TableKind.TheVariants.{Map}
use Rattle.session_values.specs.declared.op.Op.{Op}
use Rattle.session_values.specs.Tables.{Tables, Container, empty_of, table, reply, step, reply_on, after_on}
use Rattle.session_values.specs.Commuting.{Swaps, Commute}

-- ---- on one container
pub record SwapsOn (c : Container) (a b : Op) : Type 0 where
  pub after : after_on (after_on c a) b ≡ after_on (after_on c b) a
  pub first : reply_on c a ≡ reply_on (after_on c b) a
  pub second : reply_on (after_on c a) b ≡ reply_on c b

abbrev pub step_at : ℕ → Tables → Op → Tables
step_at i ts op = put_at ts i (after_on (table ts i) op)

pub record SwapsAt (i j : ℕ) (ts : Tables) (a b : Op) : Type 0 where
  pub tables : step_at j (step_at i ts a) b ≡ step_at i (step_at j ts b) a
  pub first : reply_on (table ts i) a ≡ reply_on (table (step_at j ts b) i) a
  pub second : reply_on (table (step_at i ts a) j) b ≡ reply_on (table ts j) b

pub table_after : (i : ℕ) (ts : Tables) (a : Op) → i < length ts → table (step_at i ts a) i ≡ after_on (table ts i) a
table_after i ts a l = get_or-set_same ts i (after_on (table ts i) a) (empty_of Map) l

pub twice_after : (i : ℕ) (ts : Tables) (a b : Op) → i < length ts → step_at i (step_at i ts a) b ≡ put_at ts i (after_on (after_on (table ts i) a) b)
twice_after i ts a b l = ap (λ (c : Container). put_at (step_at i ts a) i (after_on c b)) (table_after i ts a l) ∙ set-set ts i (after_on (table ts i) a) (after_on (after_on (table ts i) a) b)

pub past_after : (i : ℕ) (ts : Tables) (a : Op) → length ts ≤ i → step_at i ts a ≡ ts
past_after i ts a l = set_past ts i (after_on (table ts i) a) l

pub swaps_at : (i : ℕ) (ts : Tables) (a b : Op) → SwapsOn (table ts i) a b → SwapsAt i i ts a b
swaps_at i ts a b s =
    elim (cases_lt i (length ts)) [
      | inl l ↦ record {
        tables = twice_after i ts a b l ∙ ap (put_at ts i) s.after ∙ sym (twice_after i ts b a l);
        first = s.first ∙ ap (λ (c : Container). reply_on c a) (sym (table_after i ts b l));
        second = ap (λ (c : Container). reply_on c b) (table_after i ts a l) ∙ s.second;
      }
      | inr l ↦ record {
        tables = ap (λ (us : Tables). step_at i us b) (past_after i ts a l) ∙ past_after i ts b l ∙ sym (ap (λ (us : Tables). step_at i us a) (past_after i ts b l) ∙ past_after i ts a l);
        first = ap (λ (us : Tables). reply_on (table us i) a) (sym (past_after i ts b l));
        second = ap (λ (us : Tables). reply_on (table us i) b) (past_after i ts a l);
      }
    ]

pub swaps_apart : (i j : ℕ) (ts : Tables) (a b : Op) → i ≢ j → SwapsAt i j ts a b
swaps_apart i j ts a b n =
    let m : j ≢ i = λ e. n (sym e) in
    let x : Container = after_on (table ts i) a in
    let y : Container = after_on (table ts j) b in
    let p : table (step_at i ts a) j ≡ table ts j = get_or-set_other ts i j x (empty_of Map) m in
    let q : table (step_at j ts b) i ≡ table ts i = get_or-set_other ts j i y (empty_of Map) n in
    record {
      tables = ap (λ (c : Container). put_at (step_at i ts a) j (after_on c b)) p ∙ set_comm ts i j x y n ∙ sym (ap (λ (c : Container). put_at (step_at j ts b) i (after_on c a)) q);
      first = ap (λ (c : Container). reply_on c a) (sym q);
      second = ap (λ (c : Container). reply_on c b) p;
    }

pub swaps_from : (ts : Tables) (a b : Op) → SwapsAt a.table b.table ts a b → Swaps ts a b
unfolding step reply
swaps_from ts a b s = record { tables = s.tables; first = s.first; second = s.second }

pub swaps_to : (ts : Tables) (a b : Op) → Swaps ts a b → SwapsAt a.table b.table ts a b
unfolding step reply
swaps_to ts a b s = record { tables = s.tables; first = s.first; second = s.second }

pub commute_on : (a b : Op) → a.table ≡ b.table → ((c : Container) → SwapsOn c a b) → Commute a b
commute_on a b e h = record { at = λ ts. let P : ℕ → Type 0 = λ j. SwapsAt a.table j ts a b in swaps_from ts a b (subst P e (swaps_at a.table ts a b (h (table ts a.table)))) }

pub commute_apart : (a b : Op) → a.table ≢ b.table → Commute a b
commute_apart a b n = record { at = λ ts. swaps_from ts a b (swaps_apart a.table b.table ts a b n) }
