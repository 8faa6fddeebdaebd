-- A whole run with one file's name whose input is read, from what its parts say.
use Rattle.std.proofs.Common.{◌≡◌, ℕ, ◌≤◌, Bool, true, false, ◌&&◌, List, length, Option, Some, None, IfSome, inr, sym, ap, ◌∙◌, subst}
use Rattle.std.proofs.lemmas.Bool.{le-leb, and_parts}
use Rattle.byte_ends.specs.Ends.{IsAtEnd}
use Rattle.byte_ends.specs.Changes.{Change, IsUntouched}
use Rattle.refusal_advice.specs.declared.explaining.Form.{Form}
use Rattle.foresight_where.specs.declared.ending.Ending.{Ending}
use Rattle.foresight_where.specs.Endings.{most}
use Rattle.foresight_where.specs.Reading.{HasRead}
use Rattle.foresight_where.specs.Showing.{has_begun_writing}
use Rattle.foresight_where.specs.Runs.{Answered, Places, PlacesIn, asks_for_file, is_looked_at, looked_at}

-- an input that isn't too long, beside which no file is looked at, names no place
unlooked : (input : List ℕ) → length input ≤ most → is_looked_at input ≡ false → asks_for_file input ≡ false
unlooked input short h = ap (λ (b : Bool). b && asks_for_file input) (sym (le-leb (length input) most short)) ∙ h

-- what holds of these bytes holds of those that are told
of_told : (o : Option (List ℕ)) (bytes : List ℕ) (P : List ℕ → Type 0) → IfSome o (λ all. bytes ≡ all) → P bytes → IfSome o P
of_told None bytes P is p = tt
of_told (Some all) bytes P is p = subst P is p

module _ {I F O : Type 0} (form : Form) (name : List ℕ) (source : Change I) (files : Change F) (file : Option (List ℕ)) (out : Change O) where
  pub run_placed : (e : Ending) (input : List ℕ) → HasRead (source.bytes source.old) (source.bytes source.new) (source.faults source.old) (source.faults source.new) input → PlacesIn form name input files file out e → Places form name source files file out e
  run_placed e input read h = record {
    usage = h.usage;
    read_fault = λ r. inr (read.well, h.read_fault r);
    read_well = λ ne. (read.well, h.read_well ne);
    written = h.written;
    end = λ _. read.end;
    lost = read.lost;
    unopened = of_told (source.bytes source.old) input (λ bytes. is_looked_at bytes ≡ false → IsUntouched files) read.all
        (λ x. h.unopened (unlooked input read.short x));
    file_end = of_told (source.bytes source.old) input (λ bytes. is_looked_at bytes ≡ true → has_begun_writing e ≡ true → IsAtEnd file (files.bytes files.new)) read.all
        (λ x begun. h.file_end (and_parts _ _ x).1 begun);
    answered = of_told (source.bytes source.old) input (λ bytes. IfSome (looked_at bytes file) (λ f. Answered form name bytes f out e)) read.all h.answered;
  }
