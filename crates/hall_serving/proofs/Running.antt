-- The tickets that a caller has begun, and whose replies were given on, while it waited between them.
use Rattle.std.proofs.Common.{◌≡◌, ◌∙◌, ℕ, zero, suc, List, [], ◌∷◌, ◌++◌, Option, Some, None, replicate, refl, sym, ap, subst, append_assoc, append-nil}
use Rattle.std.proofs.lemmas.Fn.{FoldsTo-push}
use Rattle.std.proofs.lemmas.List.Elements.{filter_map-append}
use Rattle.std.specs.List.{FoldsTo}
use Rattle.session_values.specs.declared.reply.Reply.{Reply}
use Rattle.session_hall.specs.declared.holding.Holding.{Holding}
use Rattle.session_hall.specs.Holdings.{begun_at}
use Rattle.hall_serving.specs.KeptJobs.{HasGiven, HasSeenAndGiven, HasWaited, SeesAndGives, tickets_of}

-- steps, and then others
steps_more : {A : Type 0} (given_on : A → Option ℕ → A → Type 0) (xs ys : List (Option ℕ)) (x y z : A) → FoldsTo given_on x xs y → FoldsTo given_on y ys z → FoldsTo given_on x (xs ++ ys) z
steps_more given_on [] ys x y z e g = subst (λ w. FoldsTo given_on w ys z) (sym e) g
steps_more given_on (t ∷ ts) ys x y z f g = (f.0, f.1, steps_more given_on ts ys f.0 y z f.2 g)

one_none : (n : ℕ) → ◌≡◌ {A = List (Option ℕ)} (replicate n None ++ None ∷ []) (replicate (suc n) None)
one_none zero = refl
one_none (suc n) = ap (λ (l : List (Option ℕ)). None ∷ l) (one_none n)

none_of : (n : ℕ) → tickets_of (replicate n None) ≡ []
none_of zero = refl
none_of (suc n) = none_of n

-- ---- waiting
pub never_waited : {A : Type 0} (given_on : A → Option ℕ → A → Type 0) (x : A) → HasWaited given_on x x
never_waited given_on x = record { many = 0; given = refl }

pub waited_more : {A : Type 0} (given_on : A → Option ℕ → A → Type 0) (x y z : A) → HasWaited given_on x y → given_on y None z → HasWaited given_on x z
waited_more given_on x y z h step = record {
  many = suc h.many;
  given = subst (λ (l : List (Option ℕ)). FoldsTo given_on x l z) (one_none h.many) (FoldsTo-push given_on x (replicate h.many None) y None z h.given step);
}

-- ---- tickets
module _ {S A : Type 0} (given_on : A → Option ℕ → A → Type 0) (p via q : Holding S) (x y z : A) (h : HasGiven given_on p via x y) where
  pub then_waited : begun_at q ≡ begun_at via → HasWaited given_on y z → HasGiven given_on p q x z
  then_waited still w = record {
    steps = h.steps ++ replicate w.many None;
    begun_more = still ∙ h.begun_more
        ∙ ap (λ (l : List ℕ). begun_at p ++ l) (sym (append-nil (tickets_of h.steps)) ∙ ap (λ (l : List ℕ). tickets_of h.steps ++ l) (sym (none_of w.many)) ∙ sym (filter_map-append (λ (o : Option ℕ). o) h.steps (replicate w.many None)));
    given = steps_more given_on h.steps (replicate w.many None) x y z h.given w.given;
  }

  pub one_given : (t : ℕ) → begun_at q ≡ begun_at via ++ t ∷ [] → given_on y (Some t) z → HasGiven given_on p q x z
  one_given t more step = record {
    steps = h.steps ++ Some t ∷ [];
    begun_more = more ∙ ap (λ (l : List ℕ). l ++ t ∷ []) h.begun_more ∙ append_assoc (begun_at p) (tickets_of h.steps) (t ∷ [])
        ∙ ap (λ (l : List ℕ). begun_at p ++ l) (sym (filter_map-append (λ (o : Option ℕ). o) h.steps (Some t ∷ [])));
    given = FoldsTo-push given_on x h.steps y (Some t) z h.given step;
  }

-- ---- a book that was seen before
-- waiting asks for none
pub waited_unseen : {A : Type 0} (seen : A → (ℕ → Option Reply) → A → Type 0) (given_on : A → Option ℕ → A → Type 0) (x y : A) → HasWaited given_on x y → HasWaited (SeesAndGives seen given_on) x y
waited_unseen {A} seen given_on x y h = record { many = h.many; given = go h.many x h.given }
  where
    go : (n : ℕ) (z : A) → FoldsTo given_on z (replicate n None) y → FoldsTo (SeesAndGives seen given_on) z (replicate n None) y
    go zero z e = e
    go (suc n) z f = (f.0, f.1, go n f.0 f.2)

-- where seeing and going on is a step of its own kind, all steps are of that kind
pub steps_seen : {A : Type 0} (seen : A → (ℕ → Option Reply) → A → Type 0) (given_on : A → Option ℕ → A → Type 0) → ((x via y : A) (known : ℕ → Option Reply) (o : Option ℕ) → seen x known via → given_on via o y → given_on x o y)
    → (ts : List (Option ℕ)) (x y : A) → FoldsTo (SeesAndGives seen given_on) x ts y → FoldsTo given_on x ts y
steps_seen seen given_on one [] x y e = e
steps_seen seen given_on one (None ∷ ts) x y f = (f.0, f.1, steps_seen seen given_on one ts f.0 y f.2)
steps_seen seen given_on one (Some t ∷ ts) x y f = (f.0, one x f.1.0 f.0 f.1.1 (Some t) f.1.2 f.1.3, steps_seen seen given_on one ts f.0 y f.2)

pub given_seen : {S A : Type 0} (seen : A → (ℕ → Option Reply) → A → Type 0) (given_on : A → Option ℕ → A → Type 0) → ((x via y : A) (known : ℕ → Option Reply) (o : Option ℕ) → seen x known via → given_on via o y → given_on x o y)
    → (p q : Holding S) (x y : A) → HasSeenAndGiven seen given_on p q x y → HasGiven given_on p q x y
given_seen seen given_on one p q x y h =
    let all : HasGiven given_on p q x h.last = record { steps = h.all.steps; begun_more = h.all.begun_more; given = steps_seen seen given_on one h.all.steps x h.last h.all.given } in
    let end : HasWaited given_on h.last y = waited_more given_on h.last h.last y (never_waited given_on h.last) (one h.last h.via y h.known None h.sees h.goes_on) in
    then_waited given_on p q q x h.last y all refl end
