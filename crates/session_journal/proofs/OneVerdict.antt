-- A list of events has at most one verdict.
use Rattle.std.proofs.Common.{◌≡◌, ℕ, suc, ◌<◌, ◌≤◌, ◌⊎◌, inl, inr, List, [], ◌∷◌, ◌++◌, length, Some, None, refl, sym, ◌∙◌, ap, subst, append_assoc, arith, append-nil}
use Rattle.std.proofs.lemmas.Bool.{cases_lt}
use Rattle.session_values.specs.declared.reply.Reply.{Reply}
use Rattle.session_values.proofs.Options.{some_none}
use Rattle.session_journal.specs.declared.event.Event.{Event}
use Rattle.session_journal.specs.Journal.{begun, done_operations, ended}
use Rattle.session_journal.specs.Script.{Meaning}
use Rattle.session_journal.specs.declared.verdict.Verdict.{Verdict}
use Rattle.session_journal.specs.declared.verdict.Verdict.TheVariants.{Accepted as IsFine, Event as AtEvent, Ticket as AtTicket}
use Rattle.session_journal.specs.Accepted.{Accepted, AreAllowed, IsAllowed, HaveEnded}
use Rattle.session_journal.specs.Verdicts.{FirstAgainst, NotEnded, NotReplayed, IsTicketFault, IsVerdict, rule_of}
use Rattle.session_journal.proofs.Allowed.{only_begun}
use Rattle.session_journal.proofs.TraceSerial.{replays_to}

-- an event that is allowed where it stands
allowed_at : (m : Meaning) (front xs : List Event) (e : Event) (ys : List Event) → AreAllowed m front (xs ++ e ∷ ys) → IsAllowed m (front ++ xs) e
allowed_at m front [] e ys a = let P : List Event → Type 0 = λ J. IsAllowed m J e in subst P (sym (append-nil front)) a.0
allowed_at m front (x ∷ xs) e ys a = let P : List Event → Type 0 = λ J. IsAllowed m J e in subst P (append_assoc front (x ∷ []) xs) (allowed_at m (front ++ x ∷ []) xs e ys a.1)

-- two ways to cut a list
record Longer (front : List Event) (e : Event) (other : List Event) : Type 0 where
  middle : List Event
  is : other ≡ front ++ e ∷ middle

heads : (x y : Event) (xs ys : List Event) → x ∷ xs ≡ y ∷ ys → x ≡ y
heads x y xs ys e = cc

tails : (x y : Event) (xs ys : List Event) → x ∷ xs ≡ y ∷ ys → xs ≡ ys
tails x y xs ys e = cc

longer : (f : List Event) (e : Event) (b g : List Event) (d : Event) (c : List Event) → f ++ e ∷ b ≡ g ++ d ∷ c → length f < length g → Longer f e g
longer [] e b [] d c q l = absurd (omega arith)
longer [] e b (x ∷ g) d c q l = record { middle = g; is = ap (λ (y : Event). y ∷ g) (sym (heads e x b (g ++ d ∷ c) q)) }
longer (y ∷ f) e b [] d c q l = absurd (omega arith)
longer (y ∷ f) e b (x ∷ g) d c q l =
    let r : Longer f e g = longer f e b g d c (tails y x (f ++ e ∷ b) (g ++ d ∷ c) q) (omega (arith, l)) in
    record { middle = r.middle; is = ap (λ (z : Event). z ∷ g) (sym (heads y x (f ++ e ∷ b) (g ++ d ∷ c) q)) ∙ ap (λ (zs : List Event). y ∷ zs) r.is }

alike : (f : List Event) (e : Event) (b g : List Event) (d : Event) (c : List Event) → f ++ e ∷ b ≡ g ++ d ∷ c → length f ≡ length g → e ≡ d
alike [] e b [] d c q l = heads e d b c q
alike [] e b (x ∷ g) d c q l = absurd (omega arith)
alike (y ∷ f) e b [] d c q l = absurd (omega arith)
alike (y ∷ f) e b (x ∷ g) d c q l = alike f e b g d c (tails y x (f ++ e ∷ b) (g ++ d ∷ c) q) (omega (arith, l))

cases : (a b : ℕ) → (a < b) ⊎ ((a ≡ b) ⊎ (b < a))
cases a b = grind arith

module _ (m : Meaning) (J : List Event) where
  none_first : (rule at : ℕ) → AreAllowed m [] J → FirstAgainst m J rule at → ⊥
  none_first rule at a x = let P : List Event → Type 0 = λ K. AreAllowed m [] K in x.against (allowed_at m [] x.front x.event x.back (subst P x.is a))

  not_later : (rule at other place : ℕ) (x : FirstAgainst m J rule at) (y : FirstAgainst m J other place) → length x.front < length y.front → ⊥
  not_later rule at other place x y l =
      let r : Longer x.front x.event y.front = longer x.front x.event x.back y.front y.event y.back (sym x.is ∙ y.is) l in
      let P : List Event → Type 0 = λ K. AreAllowed m [] K in
      x.against (allowed_at m [] x.front x.event r.middle (subst P r.is y.before))

  same_first : (rule at other place : ℕ) → FirstAgainst m J rule at → FirstAgainst m J other place → ◌≡◌ {A = Verdict} (AtEvent rule at) (AtEvent other place)
  same_first rule at other place x y = elim (cases (length x.front) (length y.front)) [
    | inl l ↦ absurd (not_later rule at other place x y l)
    | inr s ↦ elim s [
      | inl e ↦ both (sym x.rule_is ∙ ap rule_of (alike x.front x.event x.back y.front y.event y.back (sym x.is ∙ y.is) e) ∙ y.rule_is) (sym x.place ∙ e ∙ y.place)
      | inr l ↦ absurd (not_later other place rule at y x l)
    ]
  ]
    where
      both : rule ≡ other → at ≡ place → ◌≡◌ {A = Verdict} (AtEvent rule at) (AtEvent other place)
      both p q = λ i. AtEvent (p i) (q i)

  not_ended : (t : ℕ) → HaveEnded (suc t) J → ended J t ≡ None → ⊥
  not_ended t h e = let r = h t (omega arith) in some_none r.0 (sym r.1 ∙ e)

  less_ended : (n k : ℕ) → n ≤ k → HaveEnded k J → HaveEnded n J
  less_ended n k l h = λ t s. h t (omega (arith, s, l))

  same_open : (t u : ℕ) → NotEnded m J t → NotEnded m J u → t ≡ u
  same_open t u x y = elim (cases t u) [
    | inl l ↦ absurd (not_ended t (less_ended (suc t) u l y.before) x.open_still)
    | inr s ↦ elim s [ inl e ↦ e | inr l ↦ absurd (not_ended u (less_ended (suc u) t l x.before) y.open_still) ]
  ]

  same_replay : (t u : ℕ) → NotReplayed m J t → NotReplayed m J u → t ≡ u
  same_replay t u x y = elim (cases t u) [
    | inl l ↦ absurd (x.against (replays_to m.opening u (suc t) (done_operations J) l y.before))
    | inr s ↦ elim s [ inl e ↦ e | inr l ↦ absurd (y.against (replays_to m.opening t (suc u) (done_operations J) l x.before)) ]
  ]

  open_or_replay : (t u : ℕ) → NotEnded m J t → NotReplayed m J u → ⊥
  open_or_replay t u x y = not_ended t (less_ended (suc t) m.requests x.exists y.all_ended) x.open_still

  same_ticket : (rule t other u : ℕ) → IsTicketFault m J rule t → IsTicketFault m J other u → ◌≡◌ {A = Verdict} (AtTicket rule t) (AtTicket other u)
  same_ticket rule t other u (inl x) (inl y) = let p : rule ≡ other = x.0 ∙ sym y.0 in let q : t ≡ u = same_open t u x.1 y.1 in λ i. AtTicket (p i) (q i)
  same_ticket rule t other u (inl x) (inr y) = absurd (open_or_replay t u x.1 y.1)
  same_ticket rule t other u (inr x) (inl y) = absurd (open_or_replay u t y.1 x.1)
  same_ticket rule t other u (inr x) (inr y) = let p : rule ≡ other = x.0 ∙ sym y.0 in let q : t ≡ u = same_replay t u x.1 y.1 in λ i. AtTicket (p i) (q i)

  all_fine : (rule t : ℕ) → Accepted m J → IsTicketFault m J rule t → ⊥
  all_fine rule t a (inl x) = not_ended t (less_ended (suc t) m.requests x.1.exists a.ended) x.1.open_still
  all_fine rule t a (inr x) = x.1.against (replays_to m.opening (begun J) (suc t) (done_operations J) (is_begun (a.ended t x.1.exists)) a.regrouped)
    where
      is_begun : (r : Reply) × (ended J t ≡ Some r) → suc t ≤ begun J
      is_begun e = by (cases_lt t (begun J))
        where
          by : (t < begun J) ⊎ (begun J ≤ t) → suc t ≤ begun J
          by (inl h) = h
          by (inr h) = absurd (some_none e.0 (sym e.1 ∙ (only_begun m J a.allowed).ended t h))

  fault_allowed : (rule t : ℕ) → IsTicketFault m J rule t → AreAllowed m [] J
  fault_allowed rule t (inl x) = x.1.allowed
  fault_allowed rule t (inr x) = x.1.allowed

  pub one : (v w : Verdict) → IsVerdict m J v → IsVerdict m J w → v ≡ w
  one IsFine IsFine x y = refl
  one IsFine (AtEvent rule at) x y = absurd (none_first rule at x.allowed y)
  one IsFine (AtTicket rule t) x y = absurd (all_fine rule t x y)
  one (AtEvent rule at) IsFine x y = absurd (none_first rule at y.allowed x)
  one (AtEvent rule at) (AtEvent other place) x y = same_first rule at other place x y
  one (AtEvent rule at) (AtTicket other t) x y = absurd (none_first rule at (fault_allowed other t y) x)
  one (AtTicket rule t) IsFine x y = absurd (all_fine rule t y x)
  one (AtTicket rule t) (AtEvent other place) x y = absurd (none_first other place (fault_allowed rule t x) y)
  one (AtTicket rule t) (AtTicket other u) x y = same_ticket rule t other u x y
