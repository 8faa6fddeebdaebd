-- One request more.
use Rattle.std.proofs.Common.{◌≡◌, ℕ, suc, ◌+◌, ◌*◌, List, ◌++◌, refl, sym, ap, ◌∙◌, arith, append_assoc, append-nil}
use Rattle.serve_words.specs.Draws.{next_state, drawn, state_after, draw}
use Rattle.serve_words.specs.Session.{request_line, line_at, lines_of}

-- the third state behind x
abbrev third : ℕ → ℕ
third x = next_state (next_state (next_state x))

pub next_states : (start t x : ℕ) → x ≡ state_after start (3 * t) → third x ≡ state_after start (3 * (t + 1))
unfolding state_after
next_states start t x e =
    let three : 3 * (t + 1) ≡ suc (suc (suc (3 * t))) = omega arith in
    ap third e ∙ sym (ap (state_after start) three)

-- the line of the three draws behind x
abbrev line_from : ℕ → List ℕ
line_from x = request_line (drawn (next_state x)) (drawn (next_state (next_state x))) (drawn (third x))

draws_line : (start t : ℕ) → line_from (state_after start (3 * t)) ≡ line_at start t
unfolding state_after
draws_line start t =
    let one : 3 * t + 1 ≡ suc (3 * t) = omega arith in
    let two : 3 * t + 2 ≡ suc (suc (3 * t)) = omega arith in
    sym (ap (λ n. request_line (draw start (3 * t)) (draw start n) (draw start (3 * t + 2))) one
    ∙ ap (λ n. request_line (draw start (3 * t)) (draw start (suc (3 * t))) (draw start n)) two)

lines_step : (start t : ℕ) → lines_of start (t + 1) ≡ lines_of start t ++ line_at start t
unfolding lines_of
lines_step start t = let one : t + 1 ≡ suc t = omega arith in ap (lines_of start) one

more_lines : (start t x : ℕ) (head text : List ℕ) → x ≡ state_after start (3 * t) → text ≡ head ++ lines_of start t → text ++ line_from x ≡ head ++ lines_of start (t + 1)
more_lines start t x head text e f =
    let line : line_from x ≡ line_at start t = ap line_from e ∙ draws_line start t in
    let before : text ++ line_from x ≡ (head ++ lines_of start t) ++ line_at start t = ap (λ xs. xs ++ line_from x) f ∙ ap (λ l. (head ++ lines_of start t) ++ l) line in
    before ∙ append_assoc head (lines_of start t) (line_at start t) ∙ sym (ap (λ ls. head ++ ls) (lines_step start t))

-- a text of t lines behind a head, with the line that three draws from x give, where z is the state behind them
pub next_lines : (start t x z : ℕ) (head text new : List ℕ) → x ≡ state_after start (3 * t) → z ≡ third x → text ≡ head ++ lines_of start t
    → new ≡ text ++ request_line (drawn (next_state x)) (drawn (next_state (next_state x))) (drawn z) → new ≡ head ++ lines_of start (t + 1)
next_lines start t x z head text new e third_is f g =
    g ∙ ap (λ y. text ++ request_line (drawn (next_state x)) (drawn (next_state (next_state x))) (drawn y)) third_is ∙ more_lines start t x head text e f

pub no_states : (start : ℕ) → start ≡ state_after start 0
unfolding state_after
no_states start = refl

pub no_lines : (start : ℕ) (head text : List ℕ) → text ≡ head → text ≡ head ++ lines_of start 0
unfolding lines_of
no_lines start head text e = e ∙ sym (append-nil head)
