-- The handlers of a file.
use Rattle.std.proofs.Common.{◌≡◌, ℕ, Bool, false, if◌then◌else◌, sym, ap, ◌∙◌}
use Rattle.std.specs.List.{list_any}
use Rattle.refusal_places.specs.Text.{Text, lines}
use Rattle.serve_reading.specs.Divide.{Divides, before, is_dividing, is_table_mark}
use Rattle.waiting_pairs.specs.Told.{handlers_of}

abbrev part : Text → Bool → Text
part text b = if b then before is_table_mark (before is_dividing text) else text

pub front_divided : (text h t r : Text) (i j : ℕ) → Divides text h t r i j → h ≡ handlers_of text
front_divided text h t r i j d = d.handlers_are ∙ sym (ap (part text) d.marked)

pub front_undivided : (text : Text) → list_any is_dividing (lines text) ≡ false → text ≡ handlers_of text
front_undivided text e = sym (ap (part text) e)
