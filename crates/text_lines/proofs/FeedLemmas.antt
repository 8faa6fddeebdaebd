-- The first line feed of some bytes.
use Rattle.std.proofs.Common.{◌≡◌, ℕ, ◌<◌, true, false, List, length, get_or, None, Some, sym, arith}
use Rattle.std.specs.List.{prefix_len}
use Rattle.std.proofs.lemmas.Bool.Decides.{nat_tests}
use Rattle.std.proofs.lemmas.List.Sums.{prefix_len_is}
use Rattle.memchr.specs.Find.{IsFirstByte, is_byte}
use Rattle.text_lines.specs.Text.{is_line_byte}

goes_on : (b : ℕ) → ¬ (is_byte 10 b ≡ true) → is_line_byte b ≡ true
goes_on b other = grind (arith, nat_tests)

stops : (b : ℕ) → is_byte 10 b ≡ true → is_line_byte b ≡ false
stops b is = grind (arith, nat_tests)

-- before it the line goes on, and there it ends
pub feed_found : (bs : List ℕ) (k : ℕ) → IsFirstByte (is_byte 10) bs (Some k) → k ≡ prefix_len is_line_byte bs
feed_found bs k found =
    sym (prefix_len_is is_line_byte bs k 0 (omega (arith, found.0.high))
    (λ i low. goes_on (get_or bs i 0) (found.0.before i (omega arith) low))
    (λ _. stops (get_or bs k 0) found.1))

past : {n : ℕ} → n < n → ⊥
past low = omega (arith, low)

-- where there is none, all bytes are the line's
pub feed_missing : (bs : List ℕ) → IsFirstByte (is_byte 10) bs None → length bs ≡ prefix_len is_line_byte bs
feed_missing bs missing =
    sym (prefix_len_is is_line_byte bs (length bs) 0 (omega arith)
    (λ i low. goes_on (get_or bs i 0) (missing i (omega arith) low))
    (λ low. absurd (past low)))
