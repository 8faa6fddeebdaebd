-- One text written behind another, and what is shown by what was written.
use Rattle.std.proofs.Common.{◌≡◌, ◌≢◌, ℕ, List, ◌++◌, true, Option, None, inl, inr, sym, ap, subst, ◌∙◌, refl}
use Rattle.byte_ends.specs.Ends.{IsRaised, AppendedPrefix}
use Rattle.byte_ends.proofs.EndsLemmas.{grew_more, grew_front, front_of_more, rose_since}
use Rattle.byte_ends.specs.Changes.{Change, Failed, WroteAll, WrotePrefix, change}
use Rattle.refusal_places.specs.Answers.{answer}
use Rattle.refusal_advice.specs.Json.{IsJson}
use Rattle.refusal_advice.specs.Told.{IsTold}
use Rattle.foresight_where.specs.Chosen.{back_of, front_of, refusal_line}
use Rattle.foresight_where.specs.Endings.{null_line}
use Rattle.refusal_advice.specs.declared.explaining.Form.{Form}
use Rattle.refusal_advice.specs.declared.explaining.Form.TheVariants as form
use Rattle.foresight_where.specs.declared.ending.Ending.{Ending}
use Rattle.foresight_where.specs.declared.ending.Ending.TheVariants.{Reported, HandedOn, WriteFault}
use Rattle.foresight_where.specs.Showing.{IsTextOf, Shows, Writes, has_begun_writing, is_shown, placed}

module _ {O : Type 0} (bytes : O → Option (List ℕ)) (faults : O → ℕ) where
  -- the first was taken
  pub writes_more : (old mid new : O) (xs ys : List ℕ) (wanted e : Ending) → WroteAll (change bytes faults old mid) xs → Writes ys wanted (change bytes faults mid new) e → Writes (xs ++ ys) wanted (change bytes faults old new) e
  writes_more old mid new xs ys wanted e first more = elim more [
    | inl w ↦ inl (w.0, (w.1.0 ∙ first.0, grew_more (bytes old) (bytes mid) (bytes new) xs ys first.1 w.1.1))
    | inr w ↦ inr (w.0, rose_since (faults old) (faults mid) (faults new) first.0 w.1, grew_front (bytes old) (bytes mid) (bytes new) xs ys first.1 w.2)
  ]

  -- a write of it failed
  pub writes_none : (old new : O) (xs ys : List ℕ) (wanted : Ending) → IsRaised (faults old) (faults new) → AppendedPrefix (bytes old) (bytes new) xs → Writes (xs ++ ys) wanted (change bytes faults old new) WriteFault
  writes_none old new xs ys wanted rose front = inr (refl, rose, front_of_more (bytes old) (bytes new) xs ys front)

module _ {O : Type 0} (f : Form) (name input file bytes : List ℕ) (out : Change O) (w : Ending) (due : placed (answer name file (refusal_line input)) ≡ w) (text : IsTextOf f name input file bytes w)
    (shown : is_shown w ≡ true) (begun : has_begun_writing w ≡ true) (other : w ≢ WriteFault) where
  all : WroteAll out bytes → Shows f name input file out w
  all took = record {
    ends = shown;
    ending = inl (sym due);
    written = λ _. (bytes, text, took);
    front = λ x. absurd (other x);
    output = record { write_fault = λ x. absurd (other x); written_well = λ _. took.0; unwritten = λ x. absurd (cc (sym begun ∙ x)) };
  }

  broken : Failed out → WrotePrefix out bytes → Shows f name input file out WriteFault
  broken failed front = record {
    ends = refl;
    ending = inr (inr refl);
    written = λ x. absurd (cc x);
    front = λ _. (bytes, subst (λ e. IsTextOf f name input file bytes e) (sym due) text, front);
    output = record { write_fault = λ _. failed; written_well = λ ne. absurd (ne refl); unwritten = λ x. absurd (cc x) };
  }

  shows : (e : Ending) → Writes bytes w out e → Shows f name input file out e
  shows e wrote = elim wrote [
    | inl k ↦ subst (λ e. Shows f name input file out e) (sym k.0) (all k.1)
    | inr k ↦ subst (λ e. Shows f name input file out e) (sym k.0) (broken k.1 k.2)
  ]

-- the input with what is told of its first refusal
pub shows_told : {O : Type 0} (name input file front line back text : List ℕ) (out : Change O) (e : Ending) → front ≡ front_of input → line ≡ refusal_line input → back ≡ back_of input → IsTold name file line text
    → Writes (front ++ (text ++ back)) Reported out e → Shows form.Text name input file out e
shows_told name input file front line back text out e f l b told =
    let t : IsTold name file (refusal_line input) text = subst (λ l. IsTold name file l text) l told in
    let is : front ++ (text ++ back) ≡ front_of input ++ (text ++ back_of input) = ap (λ f. f ++ (text ++ back)) f ∙ ap (λ b. front_of input ++ (text ++ b)) b in
    shows form.Text name input file (front ++ (text ++ back)) out Reported (ap placed t.placed) (record { told = text; told_is = t; text_is = is }) refl refl (λ x. cc x) e

-- the input as it is
pub shows_input : {O : Type 0} (name input file line : List ℕ) (out : Change O) (e : Ending) → line ≡ refusal_line input → answer name file line ≡ None → Writes input HandedOn out e → Shows form.Text name input file out e
shows_input name input file line out e l none =
    shows form.Text name input file input out HandedOn (ap placed (ap (answer name file) (sym l) ∙ none)) refl refl refl (λ x. cc x) e

-- what is told as JSON
pub shows_json : {O : Type 0} (name input file line text : List ℕ) (out : Change O) (e : Ending) → line ≡ refusal_line input → IsJson name file line text → Writes text Reported out e → Shows form.Json name input file out e
shows_json name input file line text out e l json =
    let j : IsJson name file (refusal_line input) text = subst (λ l. IsJson name file l text) l json in
    shows form.Json name input file text out Reported (ap placed j.placed) j refl refl (λ x. cc x) e

-- nothing is told
pub shows_null : {O : Type 0} (name input file line : List ℕ) (out : Change O) (e : Ending) → line ≡ refusal_line input → answer name file line ≡ None → Writes null_line HandedOn out e → Shows form.Json name input file out e
shows_null name input file line out e l none =
    shows form.Json name input file null_line out HandedOn (ap placed (ap (answer name file) (sym l) ∙ none)) refl refl refl (λ x. cc x) e
