-- Serving in two parts is serving at once.
use Rattle.std.proofs.Common.{◌≡◌, ℕ, zero, suc, ◌+◌, List, ◌++◌, refl, sym, ap, ◌∙◌, append_assoc, append-nil, arith, add-zero}
use Rattle.session_values.specs.declared.reply.Reply.{Reply}
use Rattle.session_values.specs.Tables.{Tables}
use Rattle.session_values.specs.Serial.{Session, Served, answered, serial, serial_replies, serve, tables_before}
use Rattle.client_feed.specs.Parts.{first_part, second_part}

next_of : (n t : ℕ) → n + suc t ≡ suc (n + t)
next_of n t = omega arith

pub tables_in_two : (n : ℕ) (s : Session) (t : ℕ) → tables_before s (n + t) ≡ tables_before (second_part n s) t
tables_in_two n s zero = ap (tables_before s) (add-zero n)
tables_in_two n s (suc t) = ap (tables_before s) (next_of n t) ∙ ap (λ (ts : Tables). (serve (s.length (n + t)) (s.next (n + t)) ts).after) (tables_in_two n s t)

pub serial_in_two : (n : ℕ) (s : Session) (t : ℕ) → serial s (n + t) ≡ serial (second_part n s) t
serial_in_two n s t = ap (serve (s.length (n + t)) (s.next (n + t))) (tables_in_two n s t)

pub before_first : (n : ℕ) (s : Session) (t : ℕ) → tables_before (first_part n s) t ≡ tables_before s t
before_first n s zero = refl
before_first n s (suc t) = ap (λ (ts : Tables). (serve (s.length t) (s.next t) ts).after) (before_first n s t)

replies_first : (n : ℕ) (s : Session) (t : ℕ) → serial_replies (first_part n s) t ≡ serial_replies s t
replies_first n s zero = refl
replies_first n s (suc t) =
    ap (λ (rs : List Reply). rs ++ answered (serial (first_part n s) t).answer) (replies_first n s t)
    ∙ ap (λ (ts : Tables). serial_replies s t ++ answered (serve (s.length t) (s.next t) ts).answer) (before_first n s t)

replies_after : (n : ℕ) (s : Session) (t : ℕ) → serial_replies s (n + t) ≡ serial_replies s n ++ serial_replies (second_part n s) t
replies_after n s zero = ap (serial_replies s) (add-zero n) ∙ sym (append-nil (serial_replies s n))
replies_after n s (suc t) =
    ap (serial_replies s) (next_of n t)
    ∙ ap (λ (rs : List Reply). rs ++ answered (serial s (n + t)).answer) (replies_after n s t)
    ∙ ap (λ (v : Served). (serial_replies s n ++ serial_replies (second_part n s) t) ++ answered v.answer) (serial_in_two n s t)
    ∙ append_assoc (serial_replies s n) (serial_replies (second_part n s) t) (answered (serial (second_part n s) t).answer)

pub replies_in_two : (n : ℕ) (s : Session) (t : ℕ) → serial_replies s (n + t) ≡ serial_replies (first_part n s) n ++ serial_replies (second_part n s) t
replies_in_two n s t = replies_after n s t ∙ ap (λ (rs : List Reply). rs ++ serial_replies (second_part n s) t) (sym (replies_first n s n))
