-- What the walk knows behind words of which it finds none at fault.
use Rattle.std.proofs.Common.{◌≡◌, ℕ, List, [], ◌∷◌, ◌++◌, Option, Some, None, refl, sym, ap, ◌∙◌}
use Rattle.syntax_grammar.specs.declared.word.Word.{Word}
use Rattle.syntax_grammar.specs.declared.refusals.SyntaxRefusal.{SyntaxRefusal}
use Rattle.syntax_grammar.specs.Bounds.{Limit}
use Rattle.syntax_grammar.specs.Marked.{Marked, all_fine}
use Rattle.syntax_grammar.specs.Next.{Part, Taken, taking, broken, signs_after, go_on, after_taking, fault}
use Rattle.syntax_grammar.proofs.Marks.{mark_on, marks}
use Rattle.syntax_grammar.proofs.Spells.{still, go_on_still}

-- what is to come behind words, and the operator signs of the expression that is open
pub record State : Type 0 where
  pub parts : List Part
  pub signs : ℕ

abbrev pub state : List Part → ℕ → State
state qs n = record { parts = qs; signs = n }

abbrev pub if_within : Option Limit → Option State → Option State
if_within None after = after
if_within (Some l) after = None

abbrev pub walk_on : ℕ → Word → (List Part → ℕ → Option State) → Option Taken → Option State
walk_on signs w rest None = None
walk_on signs w rest (Some t) = if_within (broken t.part t.under signs w.sort) (rest (t.left ++ t.under) (signs_after t.part signs))

-- The state behind words, of which none is unexpected and none breaks a limit.
abbrev pub state_after : List Part → ℕ → List Word → Option State
state_after ps signs [] = Some (record { parts = ps; signs = signs })
state_after ps signs (w ∷ ws) = walk_on signs w (λ qs n. state_after qs n ws) (taking ps w.sort)

abbrev GoesOn : Option State → List Word → Option State
GoesOn None ws = None
GoesOn (Some s) ws = state_after s.parts s.signs ws

state_append : (vs ws : List Word) (ps : List Part) (n : ℕ) → state_after ps n (vs ++ ws) ≡ GoesOn (state_after ps n vs) ws
state_append [] ws ps n = refl
state_append (v ∷ vs) ws ps n = by (taking ps v.sort) (λ qs m. state_append vs ws qs m)
  where
    within : (l : Option Limit) (x y : Option State) → x ≡ GoesOn y ws → if_within l x ≡ GoesOn (if_within l y) ws
    within None x y e = e
    within (Some l) x y e = refl

    by : (o : Option Taken) → ((qs : List Part) (m : ℕ) → state_after qs m (vs ++ ws) ≡ GoesOn (state_after qs m vs) ws) → walk_on n v (λ qs m. state_after qs m (vs ++ ws)) o ≡ GoesOn (walk_on n v (λ qs m. state_after qs m vs) o) ws
    by None h = refl
    by (Some t) h = within (broken t.part t.under n v.sort) _ _ (h (t.left ++ t.under) (signs_after t.part n))

pub one_further : (before : List Word) (w : Word) (ps qs : List Part) (m n : ℕ) (t : Taken) → state_after ps m before ≡ Some (state qs n) → taking qs w.sort ≡ Some t → broken t.part t.under n w.sort ≡ None → state_after ps m (before ++ w ∷ []) ≡ Some (state (t.left ++ t.under) (signs_after t.part n))
one_further before w ps qs m n t e k f =
    state_append before (w ∷ []) ps m
    ∙ ap (λ o. GoesOn o (w ∷ [])) e
    ∙ ap (walk_on n w (λ ps m. state_after ps m [])) k
    ∙ ap (λ l. if_within l (Some (state (t.left ++ t.under) (signs_after t.part n)))) f

-- behind words that are within the limits the first fault is that of the rest
pub fault_after : (end : ℕ) (before ws : List Word) (ps : List Part) (n : ℕ) (s : State) → state_after ps n before ≡ Some s → fault end ps n (before ++ ws) ≡ fault end s.parts s.signs ws
fault_after end [] ws ps n s e = let h : state ps n ≡ s = cc in ap (λ x. fault end x.parts x.signs ws) h
fault_after end (v ∷ vs) ws ps n s e = by (taking ps v.sort) e (λ qs m. fault_after end vs ws qs m s)
  where
    within : (l : Option Limit) (after : Option State) (x : Option SyntaxRefusal) → if_within l after ≡ Some s → (after ≡ Some s → x ≡ fault end s.parts s.signs ws) → go_on v l x ≡ fault end s.parts s.signs ws
    within None after x h ih = ih h
    within (Some l) after x h ih = cc

    by : (o : Option Taken) → walk_on n v (λ qs m. state_after qs m vs) o ≡ Some s → ((qs : List Part) (m : ℕ) → state_after qs m vs ≡ Some s → fault end qs m (vs ++ ws) ≡ fault end s.parts s.signs ws) → after_taking v n (λ qs m. fault end qs m (vs ++ ws)) o ≡ fault end s.parts s.signs ws
    by None h ih = cc
    by (Some t) h ih = within (broken t.part t.under n v.sort) _ _ h (ih (t.left ++ t.under) (signs_after t.part n))

-- what is still to come is known too
pub still_after : (before : List Word) (ps : List Part) (n : ℕ) (s : State) → state_after ps n before ≡ Some s → still ps before ≡ Some s.parts
still_after [] ps n s e = let h : state ps n ≡ s = cc in ap (λ x. Some x.parts) h
still_after (v ∷ vs) ps n s e = by (taking ps v.sort) e (λ qs m. still_after vs qs m s)
  where
    within : (l : Option Limit) (after : Option State) (x : Option (List Part)) → if_within l after ≡ Some s → (after ≡ Some s → x ≡ Some s.parts) → x ≡ Some s.parts
    within None after x h ih = ih h
    within (Some l) after x h ih = cc

    by : (o : Option Taken) → walk_on n v (λ qs m. state_after qs m vs) o ≡ Some s → ((qs : List Part) (m : ℕ) → state_after qs m vs ≡ Some s → still qs vs ≡ Some s.parts) → go_on_still (λ qs. still qs vs) o ≡ Some s.parts
    by None h ih = cc
    by (Some t) h ih = within (broken t.part t.under n v.sort) _ _ h (ih (t.left ++ t.under) (signs_after t.part n))

-- ---- marked words

-- words that the walk passes break no limit, and the others are marked as they are behind them
pub passed_marks : (before more : List Word) (ps : List Part) (n : ℕ) (s : State) → state_after ps n before ≡ Some s → marks ps n (before ++ more) ≡ all_fine before (marks s.parts s.signs more)
passed_marks [] more ps n s e = let h : state ps n ≡ s = cc in ap (λ x. marks x.parts x.signs more) h
passed_marks (v ∷ vs) more ps n s e = by (taking ps v.sort) e (λ qs m. passed_marks vs more qs m s)
  where
    within : (l : Option Limit) (after : Option State) (x : List Marked) → if_within l after ≡ Some s → (after ≡ Some s → x ≡ all_fine vs (marks s.parts s.signs more)) → record { word = v; over = l } ∷ x ≡ all_fine (v ∷ vs) (marks s.parts s.signs more)
    within None after x h ih = ap (λ y. record { word = v; over = None } ∷ y) (ih h)
    within (Some l) after x h ih = absurd (cc)

    by : (o : Option Taken) → walk_on n v (λ qs m. state_after qs m vs) o ≡ Some s → ((qs : List Part) (m : ℕ) → state_after qs m vs ≡ Some s → marks qs m (vs ++ more) ≡ all_fine vs (marks s.parts s.signs more)) → mark_on v n (λ qs m. marks qs m (vs ++ more)) o ≡ all_fine (v ∷ vs) (marks s.parts s.signs more)
    by None h ih = absurd (cc)
    by (Some t) h ih = within (broken t.part t.under n v.sort) _ _ h (ih (t.left ++ t.under) (signs_after t.part n))

-- where the first of marked words break no limit, the walk passes them
pub record Reached (ps : List Part) (n : ℕ) (ws before : List Word) (more : List Marked) : Type 0 where
  pub rest : List Word
  pub words_are : ws ≡ before ++ rest
  pub state : State
  pub passed : state_after ps n before ≡ Some state
  pub marked : marks state.parts state.signs rest ≡ more

head_word : List Marked → Word → Word
head_word [] w = w
head_word (m ∷ ms) w = m.word

head_over : List Marked → Option Limit
head_over [] = None
head_over (m ∷ ms) = m.over

others : List Marked → List Marked
others [] = []
others (m ∷ ms) = ms

pub marks_passed : (before ws : List Word) (ps : List Part) (n : ℕ) (more : List Marked) → marks ps n ws ≡ all_fine before more → Reached ps n ws before more
unfolding head_word head_over others
marks_passed [] ws ps n more e = record { rest = ws; words_are = refl; state = state ps n; passed = refl; marked = e }
marks_passed (v ∷ vs) [] ps n more e = absurd (cc)
marks_passed (v ∷ vs) (w ∷ ws) ps n more e = by (taking ps w.sort) refl e (λ qs m. marks_passed vs ws qs m more)
  where
    by : (o : Option Taken) → taking ps w.sort ≡ o → mark_on w n (λ qs m. marks qs m ws) o ≡ all_fine (v ∷ vs) more → ((qs : List Part) (m : ℕ) → marks qs m ws ≡ all_fine vs more → Reached qs m ws vs more) → Reached ps n (w ∷ ws) (v ∷ vs) more
    by None k h ih = absurd (cc)
    by (Some t) k h ih =
        let same : w ≡ v = ap (λ l. head_word l w) h in
        let fine : broken t.part t.under n w.sort ≡ None = ap head_over h in
        let r = ih (t.left ++ t.under) (signs_after t.part n) (ap others h) in
        record {
          rest = r.rest;
          words_are = ap (λ x. x ∷ ws) same ∙ ap (λ l. v ∷ l) r.words_are;
          state = r.state;
          passed =
              ap (λ x. state_after ps n (x ∷ vs)) (sym same)
              ∙ ap (walk_on n w (λ qs m. state_after qs m vs)) k
              ∙ ap (λ l. if_within l (state_after (t.left ++ t.under) (signs_after t.part n) vs)) fine
              ∙ r.passed;
          marked = r.marked;
        }

-- a word that breaks a limit, behind what was passed
pub record Breaking (s : State) (w : Word) (l : Limit) : Type 0 where
  pub taker : Taken
  pub takes : taking s.parts w.sort ≡ Some taker
  pub over : broken taker.part taker.under s.signs w.sort ≡ Some l

pub marks_broken : (s : State) (w : Word) (ws : List Word) (l : Limit) (more : List Marked) → marks s.parts s.signs ws ≡ record { word = w; over = Some l } ∷ more → Breaking s w l
unfolding head_word head_over
marks_broken s w [] l more e = absurd (cc)
marks_broken s w (v ∷ vs) l more e = by (taking s.parts v.sort) refl e
  where
    by : (o : Option Taken) → taking s.parts v.sort ≡ o → mark_on v s.signs (λ qs m. marks qs m vs) o ≡ record { word = w; over = Some l } ∷ more → Breaking s w l
    by None k h = absurd (cc)
    by (Some t) k h =
        let same : v ≡ w = ap (λ x. head_word x v) h in
        let over : broken t.part t.under s.signs v.sort ≡ Some l = ap head_over h in
        record {
          taker = t;
          takes = ap (λ x. taking s.parts x.sort) (sym same) ∙ k;
          over = ap (λ x. broken t.part t.under s.signs x.sort) (sym same) ∙ over;
        }

pub marked_breaking : (s : State) (w : Word) (ws : List Word) (l : Limit) (b : Breaking s w l) → marks s.parts s.signs (w ∷ ws) ≡ record { word = w; over = Some l } ∷ marks (b.taker.left ++ b.taker.under) (signs_after b.taker.part s.signs) ws
marked_breaking s w ws l b =
    ap (mark_on w s.signs (λ qs m. marks qs m ws)) b.takes
    ∙ ap (λ o. record { word = w; over = o } ∷ marks (b.taker.left ++ b.taker.under) (signs_after b.taker.part s.signs) ws) b.over
