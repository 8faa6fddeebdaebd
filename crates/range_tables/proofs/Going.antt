-- Some lines are taken, and these are left.
use Rattle.std.proofs.Common.{◌≡◌, ℕ, ◌+◌, ◌<◌, ◌≤◌, List, [], ◌∷◌, ◌++◌, Option, Some, None, refl, sym, ap, ◌∙◌, subst, arith, append_assoc, append-nil}
use Rattle.std.specs.Option.{option_or}
use Rattle.std.specs.List.{AllByRecursion}
use Rattle.std.specs.FinMap as map
use Rattle.session_values.specs.declared.value.Value.{Value}
use Rattle.session_values.specs.Values.{value_cmp}
use Rattle.session_values.specs.Tables.{Container, empty_of, size_of}
use Rattle.session_values.specs.declared.kind.TableKind.TheVariants.{Map}
use Rattle.range_tables.specs.Shards.{MapView, ShardView, map_shard}
use Rattle.text_lines.specs.Text.{Text}
use Rattle.text_lines.specs.Rows.{Row}
use Rattle.range_tables.specs.declared.refusal.RangeRefusal.{RangeRefusal}
use Rattle.range_tables.specs.Faults.{Holds, fault_of, first_fault, holds_after, names_of, rows_of, words_in}
use Rattle.range_tables.specs.Ready.{IsReadyHold}
use Rattle.range_tables.specs.Session.{Does, IsRangesText, Tells, first_desk}
use Rattle.range_tables.specs.Steps.{step_of}
use Rattle.range_tables.specs.Taking.{TakesLine, desk_of}

pub record Going (names : List Text) (rs0 rs : List Row) (seen : ℕ) (m : MapView) (holds : Holds) (asked : ℕ) (out : Text) : Type 0 where
  pub faults : first_fault names seen holds rs ≡ first_fault names 0 [] rs0
  pub tells : (rest : Text) → Tells names (desk_of m holds asked) rs rest → Tells names first_desk rs0 (out ++ rest)
  pub ready : AllByRecursion IsReadyHold holds
  pub size : size_of (map_shard m).container ≤ seen
  pub room : m.room ≡ 4000
  pub asked_few : asked ≤ seen
  pub seen_few : seen ≤ 4000

pub fault_step : (names : List Text) (seen : ℕ) (holds : Holds) (r : Row) (rs : List Row) → first_fault names seen holds (r ∷ rs)
    ≡ option_or (fault_of r.line seen holds r.name (words_in names r)) (first_fault names (seen + 1) (holds_after holds (step_of r.name (words_in names r))) rs)
unfolding first_fault
fault_step names seen holds r rs = refl

fault_nil : (names : List Text) (seen : ℕ) (holds : Holds) → first_fault names seen holds [] ≡ None
unfolding first_fault
fault_nil names seen holds = refl

pub going_start : (names : List Text) (text : Text) (rs : List Row) (m : MapView) (holds : Holds) (out : Text) → rs ≡ rows_of text → map_shard m ≡ record { container = empty_of Map; room = 4000 } → holds ≡ [] → out ≡ []
    → Going names (rows_of text) rs 0 m holds 0 out
going_start names text rs m holds out e t h o =
    let desk : desk_of m holds 0 ≡ first_desk = ap (λ (c : Container). record { tables = c ∷ []; holds = holds; asked = 0 }) (ap (λ (s : ShardView). s.container) t) ∙ ap (λ (hs : Holds). record { tables = empty_of Map ∷ []; holds = hs; asked = 0 }) h in
    record {
      faults = ap (λ (hs : Holds). first_fault names 0 hs rs) h ∙ ap (first_fault names 0 []) e;
      tells = λ rest told.
          let first : Tells names first_desk rs rest = subst (λ d. Tells names d rs rest) desk told in
          let second : Tells names first_desk (rows_of text) rest = subst (λ l. Tells names first_desk l rest) e first in
          subst (Tells names first_desk (rows_of text)) (ap (λ (x : Text). x ++ rest) (sym o)) second;
      ready = subst (AllByRecursion IsReadyHold) (sym h) tt;
      size = let none : size_of (map_shard m).container ≡ 0 = ap (λ (s : ShardView). size_of s.container) t ∙ map.len-empty value_cmp Value in omega (arith, none);
      room = ap (λ (s : ShardView). s.room) t;
      asked_few = omega arith;
      seen_few = omega arith;
    }

pub going_turn : (names : List Text) (rs0 : List Row) (r : Row) (rs : List Row) (seen : ℕ) (m n : MapView) (holds next : Holds) (asked now : ℕ) (out more : Text)
    → Going names rs0 (r ∷ rs) seen m holds asked out → TakesLine names (desk_of m holds asked) r.name r.args out more (desk_of n next now) → fault_of r.line seen holds r.name (words_in names r) ≡ None
    → AllByRecursion IsReadyHold next → size_of (map_shard n).container ≤ seen + 1 → n.room ≡ 4000 → now ≤ seen + 1 → seen < 4000
    → Going names rs0 rs (seen + 1) n next now more
going_turn names rs0 r rs seen m n holds next asked now out more g t fine ready size room few last =
    let holds_are : next ≡ holds_after holds (step_of r.name (words_in names r)) = t.takes.does.holds ∙ ap (holds_after holds) (sym t.step_is) in
    let does : Does names (desk_of m holds asked) (step_of r.name (words_in names r)) t.takes.line (desk_of n next now) = subst (λ s. Does names (desk_of m holds asked) s t.takes.line (desk_of n next now)) (sym t.step_is) t.takes.does in
    record {
      faults =
          ap (λ (h : Holds). first_fault names (seen + 1) h rs) holds_are
          ∙ ap (λ (w : Option RangeRefusal). option_or w (first_fault names (seen + 1) (holds_after holds (step_of r.name (words_in names r))) rs)) (sym fine)
          ∙ sym (fault_step names seen holds r rs) ∙ g.faults;
      tells = λ rest told.
          let whole : Tells names first_desk rs0 (out ++ (t.takes.line ++ rest)) = g.tells (t.takes.line ++ rest) (t.takes.line, rest, desk_of n next now, does, told, refl) in
          subst (Tells names first_desk rs0) (sym (append_assoc out t.takes.line rest) ∙ ap (λ (x : Text). x ++ rest) (sym t.takes.behind)) whole;
      ready = ready;
      size = size;
      room = room;
      asked_few = few;
      seen_few = omega (arith, last);
    }

pub going_fault : (names : List Text) (rs0 : List Row) (r : Row) (rs : List Row) (seen : ℕ) (m : MapView) (holds : Holds) (asked : ℕ) (out : Text) (e : RangeRefusal)
    → Going names rs0 (r ∷ rs) seen m holds asked out → fault_of r.line seen holds r.name (words_in names r) ≡ Some e → first_fault names 0 [] rs0 ≡ Some e
going_fault names rs0 r rs seen m holds asked out e g w =
    sym g.faults ∙ fault_step names seen holds r rs
    ∙ ap (λ (o : Option RangeRefusal). option_or o (first_fault names (seen + 1) (holds_after holds (step_of r.name (words_in names r))) rs)) w

pub going_end : (text out : Text) (seen : ℕ) (m : MapView) (holds : Holds) (asked : ℕ) → Going (names_of text) (rows_of text) [] seen m holds asked out → IsRangesText text out
going_end text out seen m holds asked g = record {
  fine = sym g.faults ∙ fault_nil (names_of text) seen holds;
  tells = subst (Tells (names_of text) first_desk (rows_of text)) (append-nil out) (g.tells [] refl);
}
