-- One argument more that is taken of a line.
use Rattle.std.proofs.Common.{◌≡◌, ◌+◌, ◌≤◌, ◌++◌, ◌∷◌, [], false, List, length, Option, Some, None, sym, ap, ◌∙◌, subst, arith}
use Rattle.std.specs.List.{list_all}
use Rattle.session_values.specs.Names.{Begins}
use Rattle.session_values.specs.declared.value.Value.{Value}
use Rattle.std.specs.Prelude.{MatchOption}
use Rattle.text_lines.specs.Steps.{FindsValue, IsTaken}
use Rattle.text_lines.specs.declared.line.Line.{Line}
use Rattle.text_lines.specs.Text.{Text, words}
use Rattle.text_lines.specs.Values.{is_value, placed, value_of}
use Rattle.text_lines.proofs.ValueLemmas.{Behind, behind_turn, left_bad, left_kept, left_room}

pub taken_turn : (names0 ws0 names after : List Text) (line rest : Text) (list0 list : List Value) (v : Value)
    → Behind names0 ws0 names (words line) list0 list → IsTaken names line (Some v) rest after → Behind names0 ws0 after (words rest) list0 (list ++ v ∷ [])
taken_turn names0 ws0 names after line rest list0 list v b t =
    let before = subst (λ ws. Behind names0 ws0 names ws list0 list) t.1.0 b in
    let is : value_of (placed names t.0) t.0 ≡ Some v = ap (λ ns. value_of ns t.0) (sym t.2.1) ∙ sym t.2.0 in
    subst (λ ns. Behind names0 ws0 ns (words rest) list0 (list ++ v ∷ [])) (sym t.2.1) (behind_turn names0 ws0 names t.0 (words rest) list0 list v before is)

pub taken_kept : (names0 ws0 names after : List Text) (line rest : Text) (list0 list : List Value) (v : Option Value)
    → Behind names0 ws0 names (words line) list0 list → IsTaken names line v rest after → Begins names0 after
taken_kept names0 ws0 names after line rest list0 list v b t =
    let before = subst (λ ws. Behind names0 ws0 names ws list0 list) t.1.0 b in
    subst (Begins names0) (sym t.2.1) (left_kept names0 ws0 names t.0 (words rest) before.found before.left)

pub taken_room : (names0 ws0 names after : List Text) (line rest : Text) (list0 list : List Value) (v : Option Value)
    → Behind names0 ws0 names (words line) list0 list → IsTaken names line v rest after → length after ≤ length names0 + length ws0
taken_room names0 ws0 names after line rest list0 list v b t =
    let before = subst (λ ws. Behind names0 ws0 names ws list0 list) t.1.0 b in
    omega (arith, ap length t.2.1, left_room names0 ws0 names t.0 (words rest) before.found before.left)

pub taken_bad : (names0 ws0 names after : List Text) (line rest : Text) (list0 list : List Value)
    → Behind names0 ws0 names (words line) list0 list → IsTaken names line None rest after → list_all is_value ws0 ≡ false
taken_bad names0 ws0 names after line rest list0 list b t =
    let before = subst (λ ws. Behind names0 ws0 names ws list0 list) t.1.0 b in
    let is : value_of (placed names t.0) t.0 ≡ None = ap (λ ns. value_of ns t.0) (sym t.2.1) ∙ sym t.2.0 in
    left_bad names0 ws0 names t.0 (words rest) before.found before.left is

pub says_none : (names0 ws0 names after : List Text) (old new : Line) (list0 list : List Value) (r : Option (Option Value))
    → FindsValue old names r new after → r ≡ None → Behind names0 ws0 names (words old.rest.now) list0 list → Behind names0 ws0 after [] list0 list
says_none names0 ws0 names after old new list0 list r s e b =
    let t : FindsValue old names None new after = subst (λ r. FindsValue old names r new after) e s in
    subst (λ ns. Behind names0 ws0 ns [] list0 list) (sym t.1) (subst (λ ws. Behind names0 ws0 names ws list0 list) t.0.0 b)
