-- Reads and writes one after another.
use Rattle.std.proofs.Common.{◌≡◌, ℕ, ◌+◌, ◌<◌, ◌≤◌, Bool, List, [], ◌++◌, take, drop, length, Option, Some, None, IfSome, sym, ap, ◌∙◌, subst, append_assoc, arith, append-nil, length-append}
use Rattle.std.proofs.lemmas.List.{take-append-le, take_all}
use Rattle.std.proofs.Math.Seq.{take-add, take-append_seam, drop-append_seam, drop-append-add}
use Rattle.byte_ends.specs.Ends.{raised, IsRaised, Counted, Gave, Consumed, ConsumedAtMost, Appended, AppendedPrefix}

-- these bytes were taken from the front of what was there, and the rest is there still
abbrev pub Taken : Option (List ℕ) → Option (List ℕ) → List ℕ → Type 0
Taken old now bytes = IfSome old (λ all. (rest : List ℕ) × (all ≡ bytes ++ rest) × (now ≡ Some rest))

-- where nothing changed, nothing was written
pub grew_nothing : (old new : Option (List ℕ)) → new ≡ old → Appended old new []
grew_nothing None new same = tt
grew_nothing (Some held) new same = same ∙ ap Some (sym (append-nil held))

-- one more write
pub grew_more : (old mid new : Option (List ℕ)) (xs ys : List ℕ) → Appended old mid xs → Appended mid new ys → Appended old new (xs ++ ys)
grew_more None mid new xs ys first more = first
grew_more (Some held) mid new xs ys first more =
    let grown : Appended (Some (held ++ xs)) new ys = subst (λ o. Appended o new ys) first more in
    grown ∙ ap Some (append_assoc held xs ys)

-- all is a front
pub front_of_all : (old new : Option (List ℕ)) (xs : List ℕ) → Appended old new xs → AppendedPrefix old new xs
front_of_all None new xs grew = grew
front_of_all (Some held) new xs grew =
    (length xs, omega arith, grew ∙ ap (λ ys. Some (held ++ ys)) (sym (take_all (length xs) xs (omega arith))))

-- a front of the first bytes is a front of more
pub front_of_more : (old new : Option (List ℕ)) (xs ys : List ℕ) → AppendedPrefix old new xs → AppendedPrefix old new (xs ++ ys)
front_of_more None new xs ys grew = grew
front_of_more (Some held) new xs ys grew =
    (grew.0, omega (arith, grew.1, length-append xs ys), grew.2 ∙ ap (λ us. Some (held ++ us)) (sym (take-append-le grew.0 xs ys grew.1)))

-- a front of the last bytes ends a front of all
front_of_last : (xs ys : List ℕ) (n : ℕ) → take (length xs + n) (xs ++ ys) ≡ xs ++ take n ys
front_of_last xs ys n =
    take-add (length xs) n (xs ++ ys) ∙ ap (λ us. us ++ take n (drop (length xs) (xs ++ ys))) (take-append_seam xs ys)
    ∙ ap (λ us. xs ++ take n us) (drop-append_seam xs ys)

-- a write that breaks off leaves a front of all
pub grew_front : (old mid new : Option (List ℕ)) (xs ys : List ℕ) → Appended old mid xs → AppendedPrefix mid new ys → AppendedPrefix old new (xs ++ ys)
grew_front None mid new xs ys first broken = first
grew_front (Some held) mid new xs ys first broken =
    let f : AppendedPrefix (Some (held ++ xs)) new ys = subst (λ o. AppendedPrefix o new ys) first broken in
    let within : f.0 ≤ length ys = f.1 in (
      length xs + f.0,
      omega (arith, within, length-append xs ys),
      f.2 ∙ ap Some (append_assoc held xs (take f.0 ys) ∙ ap (λ us. held ++ us) (sym (front_of_last xs ys f.0))),
    )

-- the same of a part in the middle
pub grew_front_within : (old mid new : Option (List ℕ)) (xs ys zs : List ℕ) → Appended old mid xs → AppendedPrefix mid new ys → AppendedPrefix old new (xs ++ (ys ++ zs))
grew_front_within old mid new xs ys zs first broken = grew_front old mid new xs (ys ++ zs) first (front_of_more mid new ys zs broken)

-- a count that stood and then rose
pub rose_since : (before mid now : ℕ) → mid ≡ before → IsRaised mid now → IsRaised before now
rose_since before mid now well rose = rose ∙ ap raised well

-- calls of which the first went well
pub counted_since : (well : Bool) (before mid now : ℕ) → mid ≡ before → Counted well mid now → Counted well before now
counted_since well before mid now first counted = (λ e. counted.0 e ∙ first, λ e. rose_since before mid now first (counted.1 e))

-- more was taken than so many bytes
pub long_taken : (old now : Option (List ℕ)) (bytes : List ℕ) (n : ℕ) → Taken old now bytes → n < length bytes → IfSome old (λ all. n < length all)
long_taken None now bytes n taken long = taken
long_taken (Some all) now bytes n taken long = omega (arith, long, ap length taken.1, length-append bytes taken.0)

-- just these bytes are gone
pub exact_taken : (old now : Option (List ℕ)) (bytes : List ℕ) (n : ℕ) → Taken old now bytes → length bytes ≡ n → Consumed old now n
exact_taken None now bytes n taken e = taken
exact_taken (Some all) now bytes n taken e =
    taken.2 ∙ ap Some (sym (ap (λ k. drop k all) (sym e) ∙ ap (drop (length bytes)) taken.1 ∙ drop-append_seam bytes taken.0))

-- these bytes are gone, and those of one read more
pub lost_more : (old mid new : Option (List ℕ)) (bytes : List ℕ) (n : ℕ) (buf : List ℕ) (most : ℕ) → Taken old mid bytes → IfSome mid (λ xs. Gave xs new n buf) → length bytes + n ≤ most → ConsumedAtMost old new most
lost_more None mid new bytes n buf most taken gave few = taken
lost_more (Some all) mid new bytes n buf most taken gave few =
    let g : Gave taken.0 new n buf = subst (λ o. IfSome o (λ xs. Gave xs new n buf)) taken.2 gave in (
      length bytes + n,
      few,
      omega (arith, g.within, ap length taken.1, length-append bytes taken.0),
      g.rest ∙ ap Some (sym (ap (drop (length bytes + n)) taken.1 ∙ drop-append-add bytes taken.0 n)),
    )
