-- A text that is put in pages, step by step.
use Rattle.std.proofs.Common.{◌≡◌, ℕ, Bool, true, false, not, List, [], ◌++◌, Option, refl, sym, ap, ◌∙◌, subst, append_assoc, append-nil}
use Rattle.byte_ends.specs.Ends.{IsRaised, Counted, Appended, AppendedPrefix}
use Rattle.byte_ends.specs.Texts.{Due, Ends, IsPaged, IsPut}
use Rattle.byte_ends.proofs.EndsLemmas.{grew_nothing, grew_more, grew_front_within, rose_since}

-- what is due at the end of a text, where all of it was due before
pub ended : {S : Type 0} {D : Due S} {bytes : List ℕ} {was now : S} → Ends D bytes was now → D was bytes was bytes → D was bytes now []
ended {S} {D} {bytes} {was} {now} e d = e.all was bytes d

-- at the start all is to come
pub paged_none : {old : Option (List ℕ)} {faults : ℕ} {broken : Bool} {waiting whole : List ℕ} → waiting ≡ [] → broken ≡ false → IsPaged old old faults faults broken waiting whole whole
paged_none {old} {faults} {broken} {waiting} {whole} e s = record {
  well = λ f. refl;
  sound = λ f. ([], grew_nothing old old refl, ap (λ xs. xs ++ whole) e);
  fault = λ f. absurd (cc);
}

-- more waits
pub paged_push : {old new : Option (List ℕ)} {fo fn : ℕ} {broken : Bool} {waiting whole rest : List ℕ} (more : List ℕ) → IsPaged old new fo fn broken waiting whole (more ++ rest) → IsPaged old new fo fn broken (waiting ++ more) whole rest
paged_push {old} {new} {fo} {fn} {broken} {waiting} {whole} {rest} more p = record {
  well = p.well;
  sound = λ e. let s = p.sound e in (s.0, s.1, ap (λ xs. s.0 ++ xs) (append_assoc waiting more rest) ∙ s.2);
  fault = p.fault;
}

-- what waits is written
pub paged_flush : {old mid new : Option (List ℕ)} {fo fm fn : ℕ} (was now : Bool) {waiting whole rest : List ℕ} → IsPaged old mid fo fm was waiting whole rest → IsPut mid new fm fn was now waiting → IsPaged old new fo fn now [] whole rest
paged_flush {old} {mid} {new} {fo} {fm} {fn} was now {waiting} {whole} {rest} p w = record {
  well = λ e. w.well e ∙ p.well (w.sound e).0;
  sound = λ e.
      let put = w.sound e in
      let s = p.sound put.0 in
      (s.0 ++ waiting, grew_more old mid new s.0 waiting s.1 put.1, append_assoc s.0 waiting rest ∙ s.2);
  fault = λ e. fails was refl e;
}
  where
    fails : (b : Bool) → was ≡ b → now ≡ true → IsRaised fo fn × AppendedPrefix old new whole
    fails true b e =
        let f = p.fault b in
        ((w.still b).2 ∙ f.0, subst (λ o. AppendedPrefix old o whole) (sym (w.still b).1) f.1)
    fails false b e =
        let s = p.sound b in
        let f = w.fault b e in
        (rose_since fo fm fn (p.well b) f.0, subst (AppendedPrefix old new) s.2 (grew_front_within old mid new s.0 waiting rest s.1 f.1))

-- bytes are written past an empty page
pub paged_write : {old mid new : Option (List ℕ)} {fo fm fn : ℕ} (was now : Bool) {whole rest : List ℕ} (bytes : List ℕ) → IsPaged old mid fo fm was [] whole (bytes ++ rest) → IsPut mid new fm fn was now bytes → IsPaged old new fo fn now [] whole rest
paged_write {old} {mid} {new} {fo} {fm} {fn} was now {whole} {rest} bytes p w =
    let q : IsPaged old mid fo fm was bytes whole rest = record { well = p.well; sound = p.sound; fault = p.fault } in
    paged_flush was now q w

-- what waits is written, and a text waits then
pub paged_next : {old mid new : Option (List ℕ)} {fo fm fn : ℕ} (was now : Bool) {waiting page text bytes after whole rest : List ℕ} → IsPaged old mid fo fm was waiting whole (text ++ rest) → IsPut mid new fm fn was now waiting
    → page ≡ [] → bytes ≡ text → after ≡ page ++ bytes → IsPaged old new fo fn now after whole rest
paged_next {old} {mid} {new} {fo} {fm} {fn} was now {waiting} {page} {text} {bytes} {after} {whole} {rest} p w none same e =
    subst (λ xs. IsPaged old new fo fn now xs whole rest) (sym (e ∙ (λ i. none i ++ same i))) (paged_push text (paged_flush was now p w))

-- what waits is written, and a text behind it
pub paged_past : {old mid more new : Option (List ℕ)} {fo fm fl fn : ℕ} (was mean now : Bool) {waiting page text bytes after whole rest : List ℕ} → IsPaged old mid fo fm was waiting whole (text ++ rest) → IsPut mid more fm fl was mean waiting
    → IsPut more new fl fn mean now bytes → page ≡ [] → bytes ≡ text → after ≡ page → IsPaged old new fo fn now after whole rest
paged_past {old} {mid} {more} {new} {fo} {fm} {fl} {fn} was mean now {waiting} {page} {text} {bytes} {after} {whole} {rest} p w v none same e =
    subst (λ xs. IsPaged old new fo fn now xs whole rest) (sym (e ∙ none)) (paged_write mean now text (paged_flush was mean p w) (subst (IsPut more new fl fn mean now) same v))

-- nothing is to come, and nothing waits: what was written is all of the text, or a front of it
pub record Closed (old new : Option (List ℕ)) (fo fn : ℕ) (broken : Bool) (text : List ℕ) : Type 0 where
  pub all : not broken ≡ true → Appended old new text
  pub faults : Counted (not broken) fo fn
  pub front : not broken ≡ false → AppendedPrefix old new text

pub paged_end : {old new : Option (List ℕ)} {fo fn : ℕ} (broken : Bool) {whole : List ℕ} → IsPaged old new fo fn broken [] whole [] → Closed old new fo fn broken whole
paged_end {old} {new} {fo} {fn} true {whole} p = record {
  all = λ f. absurd (cc);
  faults = (λ f. absurd (cc), λ f. (p.fault refl).0);
  front = λ f. (p.fault refl).1;
}
paged_end {old} {new} {fo} {fn} false {whole} p = record {
  all = λ f. let s = p.sound refl in subst (Appended old new) (sym (append-nil s.0) ∙ s.2) s.1;
  faults = (λ f. p.well refl, λ f. absurd (cc));
  front = λ f. absurd (cc);
}

-- the same of the sink that is left
pub closed_at : {S : Type 0} (held : S → Option (List ℕ)) (faults : S → ℕ) {broken : Bool} {text : List ℕ} (begun old now left : S) → begun ≡ old → now ≡ left → Closed (held begun) (held now) (faults begun) (faults now) broken text → Closed (held old) (held left) (faults old) (faults left) broken text
closed_at held faults {broken} {text} begun old now left e f h = subst (λ b. Closed (held b) (held left) (faults b) (faults left) broken text) e (subst (λ s. Closed (held begun) (held s) (faults begun) (faults s) broken text) f h)
