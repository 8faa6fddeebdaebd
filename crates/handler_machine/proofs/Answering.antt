-- Replies of lists of expressions.
use Rattle.std.proofs.Common.{◌≡◌, ℕ, zero, suc, ◌<◌, ◌≤◌, arith, List, [], ◌∷◌, length, get_or, map, refl, sym, ap, ◌∙◌}
use Rattle.std.specs.List.{AllByRecursion}
use Rattle.std.specs.Prelude.{slice_index_or}
use Rattle.std.proofs.lemmas.List.{get_or_past}
use Rattle.session_values.specs.declared.reply.Reply.{Reply}
use Rattle.session_values.specs.declared.value.Value.{Value}
use Rattle.session_values.specs.declared.value.Value.TheVariants.{Nil}
use Rattle.session_values.specs.Reply.{IsReply, reply_of}
use Rattle.session_values.specs.Values.{IsValue}
use Rattle.check_meaning.specs.Dialogue.{env_of}

module _ {X Y : Type 0} (v : X → Y) where
  pub all_at : (P : Y → Type 0) (xs : List X) (i : ℕ) (d : X) → i < length xs → AllByRecursion P (map v xs) → P (v (get_or xs i d))
  all_at P [] i d h a = absurd (omega arith)
  all_at P (x ∷ xs) zero d h a = a.0
  all_at P (x ∷ xs) (suc i) d h a = all_at P xs i d (omega arith) a.1

  pub value_listed : (f : Y → Value) (xs : List X) (i : ℕ) (d : X) → i < length xs → f (v (get_or xs i d)) ≡ slice_index_or (map f (map v xs)) i Nil
  value_listed f [] i d h = absurd (omega arith)
  value_listed f (x ∷ xs) zero d h = refl
  value_listed f (x ∷ xs) (suc i) d h = value_listed f xs i d (omega arith)

  pub value_past : (f : Y → Value) (xs : List X) (i : ℕ) → length xs ≤ i → Nil ≡ slice_index_or (map f (map v xs)) i Nil
  value_past f [] i h = refl
  value_past f (x ∷ xs) zero h = absurd (omega arith)
  value_past f (x ∷ xs) (suc i) h = value_past f xs i (omega arith)

  pub lengths : (f : Y → Value) (xs : List X) → length (map f (map v xs)) ≡ length xs
  lengths f [] = refl
  lengths f (x ∷ xs) = ap suc (lengths f xs)

  pub lengths_once : (xs : List X) → length (map v xs) ≡ length xs
  lengths_once [] = refl
  lengths_once (x ∷ xs) = ap suc (lengths_once xs)

-- the reply of one to four values, field by field
reply_is : (vs : List Value) → 0 < length vs → length vs ≤ 4
    → ◌≡◌ {A = Reply} (record { count = length vs; a = slice_index_or vs 0 Nil; b = slice_index_or vs 1 Nil; c = slice_index_or vs 2 Nil; d = slice_index_or vs 3 Nil }) (reply_of vs)
reply_is [] h l = absurd (omega arith)
reply_is (a ∷ []) h l = refl
reply_is (a ∷ b ∷ []) h l = refl
reply_is (a ∷ b ∷ c ∷ []) h l = refl
reply_is (a ∷ b ∷ c ∷ d ∷ []) h l = refl
reply_is (a ∷ b ∷ c ∷ d ∷ e ∷ more) h l = absurd (omega arith)

reply_keeps : (vs : List Value) → 0 < length vs → length vs ≤ 4 → IsReply (length vs) (slice_index_or vs 1 Nil) (slice_index_or vs 2 Nil) (slice_index_or vs 3 Nil)
reply_keeps [] h l = absurd (omega arith)
reply_keeps (a ∷ []) h l = (h, l, λ k. refl, λ k. refl, λ k. refl)
reply_keeps (a ∷ b ∷ []) h l = (h, l, λ k. absurd (omega arith), λ k. refl, λ k. refl)
reply_keeps (a ∷ b ∷ c ∷ []) h l = (h, l, λ k. absurd (omega arith), λ k. absurd (omega arith), λ k. refl)
reply_keeps (a ∷ b ∷ c ∷ d ∷ []) h l = (h, l, λ k. absurd (omega arith), λ k. absurd (omega arith), λ k. absurd (omega arith))
reply_keeps (a ∷ b ∷ c ∷ d ∷ e ∷ more) h l = absurd (omega arith)

-- a reply whose fields are these
pub made_is : (vs : List Value) (count : ℕ) (a b c d : Value) → count ≡ length vs → a ≡ slice_index_or vs 0 Nil → b ≡ slice_index_or vs 1 Nil → c ≡ slice_index_or vs 2 Nil → d ≡ slice_index_or vs 3 Nil
    → 0 < length vs → length vs ≤ 4 → ◌≡◌ {A = Reply} (record { count = count; a = a; b = b; c = c; d = d }) (reply_of vs)
made_is vs count a b c d en ea eb ec ed h l = (λ i. record { count = en i; a = ea i; b = eb i; c = ec i; d = ed i }) ∙ reply_is vs h l

pub made_keeps : (vs : List Value) (count : ℕ) (b c d : Value) → count ≡ length vs → b ≡ slice_index_or vs 1 Nil → c ≡ slice_index_or vs 2 Nil → d ≡ slice_index_or vs 3 Nil
    → 0 < length vs → length vs ≤ 4 → IsReply count b c d
made_keeps vs count b c d en eb ec ed h l = rw (en, eb, ec, ed) (reply_keeps vs h l)

-- where each of the first n is a value that a program can hold, so is each
pub all_held : (xs : List Value) (n : ℕ) → length xs ≤ n → ((k : ℕ) → k < n → IsValue (get_or xs k Nil)) → AllByRecursion IsValue xs
all_held [] n l h = tt
all_held (x ∷ xs) zero l h = absurd (omega arith)
all_held (x ∷ xs) (suc n) l h = (h 0 (omega arith), all_held xs n (omega arith) (λ k lt. h (suc k) (omega arith)))

-- a place in a list, or one behind it
place_or_behind : {P : Type 0} (xs : List Value) (k : ℕ) → (k < length xs → P) → (length xs ≤ k → P) → P
place_or_behind [] k f g = g (omega arith)
place_or_behind (x ∷ xs) zero f g = f (omega arith)
place_or_behind (x ∷ xs) (suc k) f g = place_or_behind xs k (λ h. f (omega arith)) (λ h. g (omega arith))

-- variables that have the arguments first, and nil behind them
pub same_values : (env args : List Value) → ((k : ℕ) → k < length args → slice_index_or env k Nil ≡ slice_index_or args k Nil)
    → ((k : ℕ) → length args ≤ k → slice_index_or env k Nil ≡ Nil) → env_of env ≡ env_of args
same_values env args values nil i k =
    let same : slice_index_or env k Nil ≡ slice_index_or args k Nil = place_or_behind args k (values k) (λ h. nil k h ∙ sym (get_or_past args k Nil h)) in
    same i
