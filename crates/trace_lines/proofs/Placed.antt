-- The names with the symbols of literals.
use Rattle.std.proofs.Common.{◌≡◌, ◌+◌, ◌≤◌, Bool, true, false, cond, List, [], ◌∷◌, ◌++◌, length, drop, refl, sym, subst, arith, length-append}
use Rattle.std.specs.List.{list_any}
use Rattle.std.specs.Prelude.{◌==◌, slice_index}
use Rattle.std.specs.Str.{bytes_eq}
use Rattle.session_values.specs.Names.{Begins, with_text}
use Rattle.session_values.proofs.Named.{begins_same, begins_with}
use Rattle.text_lines.specs.Rows.{Row}
use Rattle.text_lines.specs.Text.{Text}
use Rattle.text_lines.specs.Values.{is_symbol}
use Rattle.trace_lines.specs.EventRows.{names_after, placed_literal, placed_literals, placed_symbol}

with_length : (names : List Text) (t : Text) → length (with_text names t) ≤ length names + 1
with_length names t = go (list_any (bytes_eq t) names)
  where
    go : (b : Bool) → length (cond b names (names ++ t ∷ [])) ≤ length names + 1
    go true = omega arith
    go false = omega (arith, length-append names (t ∷ []))

symbol_begins : (names : List Text) (t : Text) → Begins names (placed_symbol names t)
symbol_begins names t = go (is_symbol t)
  where
    go : (b : Bool) → Begins names (cond b (with_text names t) names)
    go true = begins_with names t
    go false = begins_same names

symbol_length : (names : List Text) (t : Text) → length (placed_symbol names t) ≤ length names + 1
symbol_length names t = go (is_symbol t)
  where
    go : (b : Bool) → length (cond b (with_text names t) names) ≤ length names + 1
    go true = with_length names t
    go false = omega arith

literal_is : (names : List Text) (w : Text) → placed_literal names w ≡ cond (slice_index w 0 == 39) (placed_symbol names (drop 1 w)) names
unfolding placed_literal
literal_is names w = refl

pub literal_begins : (names : List Text) (w : Text) → Begins names (placed_literal names w)
literal_begins names w = subst (Begins names) (sym (literal_is names w)) (go (slice_index w 0 == 39))
  where
    go : (b : Bool) → Begins names (cond b (placed_symbol names (drop 1 w)) names)
    go true = symbol_begins names (drop 1 w)
    go false = begins_same names

pub literal_length : (names : List Text) (w : Text) → length (placed_literal names w) ≤ length names + 1
literal_length names w = subst (λ (ns : List Text). length ns ≤ length names + 1) (sym (literal_is names w)) (go (slice_index w 0 == 39))
  where
    go : (b : Bool) → length (cond b (placed_symbol names (drop 1 w)) names) ≤ length names + 1
    go true = symbol_length names (drop 1 w)
    go false = omega arith

pub literals_nil : (names : List Text) → placed_literals names [] ≡ names
unfolding placed_literals
literals_nil names = refl

pub literals_step : (names : List Text) (w : Text) (ws : List Text) → placed_literals names (w ∷ ws) ≡ placed_literals (placed_literal names w) ws
unfolding placed_literals
literals_step names w ws = refl

pub after_nil : (names : List Text) → names_after names [] ≡ names
unfolding names_after
after_nil names = refl

pub after_step : (names : List Text) (r : Row) (rs : List Row) → names_after names (r ∷ rs) ≡ names_after (placed_literals names r.args) rs
unfolding names_after
after_step names r rs = refl
