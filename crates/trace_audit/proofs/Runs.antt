-- What a run on the replies of a trace leaves.
use Rattle.std.proofs.Common.{◌≡◌, ℕ, zero, suc, ◌+◌, ◌-◌, ◌<◌, ◌≤◌, inl, inr, List, [], ◌∷◌, ◌++◌, length, length-append, take, replicate, Bool, true, false, cond, eqb, Option, Some, None, refl, sym, ◌∙◌, ap, subst, append_assoc, append-nil, arith, ltb}
use Rattle.std.specs.Prelude.{if◌then◌else◌, slice_get}
use Rattle.std.proofs.lemmas.Bool.Decides.{nat_tests}
use Rattle.std.proofs.lemmas.Option.{none-some, same_Some}
use Rattle.std.proofs.lemmas.Bool.{ltb-true, ltb-false}
use Rattle.session_values.specs.declared.op.Op.{Op}
use Rattle.session_values.specs.declared.reply.Reply.{Reply}
use Rattle.session_values.specs.declared.value.Value.{Value}
use Rattle.session_values.specs.declared.value.Value.TheVariants.{Nil}
use Rattle.std.specs.Option.{option_map}
use Rattle.session_values.specs.Dialogue.{Next, Calls, Answers, Dialogue, Entry, Follows, replies, rest}
use Rattle.session_values.proofs.EntriesFacts.{follows_more}
use Rattle.handler_machine.specs.Asking.{Steps}
use Rattle.trace_audit.specs.Desk.{Answering, Break, HasOther, ReplayView, IsAnswered, IsRun, Kept, given, given_entries, kept_next, more, next_of, nothing_kept}

-- a run so far: what was called, and what is kept of it
pub record SoFar (f : Dialogue) (es : List Entry) (k : Kept) (done : List Entry) : Type 0 where
  pub given_is : replies done ≡ given es k
  pub follows : Follows f (take (given_entries k) es)
  pub breaks : (b : Break) → k.broken ≡ Some b → f (replies (take b.place es)) ≡ Calls b.op
  pub other : (b : Break) → k.broken ≡ Some b → HasOther es b.place b.op
  pub calls : length done ≡ k.calls
  pub some : given_entries k ≤ k.calls
  pub within : given_entries k ≤ length es

pub begins : (f : Dialogue) (es : List Entry) → SoFar f es nothing_kept []
begins f es = record { given_is = refl; follows = tt; breaks = λ b e. absurd (none-some b e); other = λ b e. absurd (none-some b e); calls = refl; some = omega arith; within = omega arith }

replies-append : (es fs : List Entry) → replies (es ++ fs) ≡ replies es ++ replies fs
replies-append [] fs = refl
replies-append (e ∷ es) fs = ap (λ (vs : List Value). e.reply ∷ vs) (replies-append es fs)

take_more : (es : List Entry) (n : ℕ) (e : Entry) → slice_get es n ≡ Some e → take (n + 1) es ≡ take n es ++ e ∷ []
take_more [] n e h = absurd (none-some e h)
take_more (x ∷ es) zero e h = ap (λ (y : Entry). y ∷ []) (same_Some x e h)
take_more (x ∷ es) (suc n) e h = ap (λ (m : ℕ). take m (x ∷ es)) (add n) ∙ ap (λ (ys : List Entry). x ∷ ys) (take_more es n e h)
  where
    add : (n : ℕ) → suc n + 1 ≡ suc (n + 1)
    add n = omega arith

nil_more : (n : ℕ) → replicate (n + 1) Nil ≡ replicate n Nil ++ Nil ∷ []
nil_more zero = refl
nil_more (suc n) = ap (λ (m : ℕ). replicate m Nil) (add n) ∙ ap (λ (vs : List Value). Nil ∷ vs) (nil_more n)
  where
    add : (n : ℕ) → suc n + 1 ≡ suc (n + 1)
    add n = omega arith

more_is : (n : ℕ) → n < 18446744073709551615 → more n ≡ n + 1
more_is n l = ap (λ (b : Bool). cond b n (n + 1)) (below n l)
  where
    below : (n : ℕ) → n < 18446744073709551615 → eqb n 18446744073709551615 ≡ false
    below n l = grind (arith, nat_tests)

unbroken : (es : List Entry) (n : ℕ) → given es (record { calls = n; broken = None }) ≡ replies (take n es)
unbroken es n = ap (λ (m : ℕ). replies (take n es) ++ replicate m Nil) (self n) ∙ append-nil (replies (take n es))
  where
    self : (n : ℕ) → n - n ≡ 0
    self n = omega arith

broken_given : (es : List Entry) (k : Kept) (b : Break) (n : ℕ) → b.place ≤ n → given es (record { calls = n + 1; broken = Some b }) ≡ given es (record { calls = n; broken = Some b }) ++ Nil ∷ []
broken_given es k b n l =
    ap (λ (m : ℕ). replies (take b.place es) ++ replicate m Nil) (shift n b.place l)
    ∙ ap (λ (vs : List Value). replies (take b.place es) ++ vs) (nil_more (n - b.place))
    ∙ sym (append_assoc (replies (take b.place es)) (replicate (n - b.place) Nil) (Nil ∷ []))
  where
    shift : (n p : ℕ) → p ≤ n → n + 1 - p ≡ n - p + 1
    shift n p l = omega arith

more_up : (n : ℕ) → n ≤ more n
more_up n = go (eqb n 18446744073709551615)
  where
    go : (b : Bool) → n ≤ cond b n (n + 1)
    go true = omega arith
    go false = omega arith

up_one : (es : List Entry) (k : Kept) (op : Op) (v : Value) (l : Kept) → IsAnswered es k op v l → k.calls ≤ l.calls
up_one es k op v l a = let e : l.calls ≡ more k.calls = calls_is a in omega (arith, more_up k.calls, e)
  where
    calls_is : IsAnswered es k op v l → l.calls ≡ more k.calls
    calls_is (inl x) = ap (λ (y : Kept). y.calls) x.after
    calls_is (inr (inl x)) = ap (λ (y : Kept). y.calls) x.after
    calls_is (inr (inr x)) = ap (λ (y : Kept). y.calls) x.after

calls_up : (ds : List Entry) (old new : ReplayView) → Steps Answering old ds new → old.kept.calls ≤ new.kept.calls
calls_up [] old new st = let e : new.kept.calls ≡ old.kept.calls = ap (λ (d : ReplayView). d.kept.calls) st in omega (arith, e)
calls_up (e ∷ ds) old new st =
    let u : old.kept.calls ≤ st.0.kept.calls = up_one old.entries old.kept e.op e.reply st.0.kept st.1.kept in
    let w : st.0.kept.calls ≤ new.kept.calls = calls_up ds st.0 new st.2 in
    omega (arith, u, w)

there_is : (es : List Entry) (n : ℕ) (e : Entry) → slice_get es n ≡ Some e → n + 1 ≤ length es
there_is [] n e h = absurd (none-some e h)
there_is (x ∷ es) zero e h = omega arith
there_is (x ∷ es) (suc n) e h = omega (arith, there_is es n e h)

module _ (f : Dialogue) (es : List Entry) where
  -- one call more
  one_more : (k l : Kept) (done : List Entry) (op : Op) (v : Value) → SoFar f es k done → k.calls < 18446744073709551615 → f (replies done) ≡ Calls op → IsAnswered es k op v l → SoFar f es l (done ++ record { op = op; reply = v } ∷ [])
  one_more k l done op v s few c (inl a) =
      let P : Kept → Type 0 = λ x. SoFar f es x (done ++ record { op = op; reply = v } ∷ []) in
      let e : Entry = record { op = op; reply = v } in
      let n : more k.calls ≡ k.calls + 1 = more_is k.calls few in
      let k_is : k ≡ record { calls = k.calls; broken = None } = ap (λ (b : Option Break). record { calls = k.calls; broken = b }) a.going in
      let had : replies done ≡ replies (take k.calls es) = s.given_is ∙ ap (given es) k_is ∙ unbroken es k.calls in
      let Q : Kept → Type 0 = λ x. Follows f (take (given_entries x) es) in
      let followed : Follows f (take k.calls es) = subst Q k_is s.follows in
      let l_is : l ≡ record { calls = k.calls + 1; broken = None } = a.after ∙ ap (λ (m : ℕ). record { calls = m; broken = None }) n in
      let longer : take (k.calls + 1) es ≡ take k.calls es ++ e ∷ [] = take_more es k.calls e a.there in
      let R : List Entry → Type 0 = λ ds. Follows f ds in
      subst P (sym l_is) (record {
        given_is = replies-append done (e ∷ []) ∙ ap (λ (vs : List Value). vs ++ v ∷ []) had ∙ sym (ap replies longer ∙ replies-append (take k.calls es) (e ∷ [])) ∙ sym (unbroken es (k.calls + 1));
        follows = subst R (sym longer) (follows_more f (take k.calls es) e followed (sym (ap f had) ∙ c));
        breaks = λ b q. absurd (none-some b q);
        other = λ b q. absurd (none-some b q);
        calls = length-append done (e ∷ []) ∙ ap (λ (m : ℕ). m + 1) s.calls;
        some = omega arith;
        within = there_is es k.calls e a.there;
      })
  one_more k l done op v s few c (inr (inl a)) =
      let P : Kept → Type 0 = λ x. SoFar f es x (done ++ record { op = op; reply = v } ∷ []) in
      let gap : Break = record { place = k.calls; op = op } in
      let n : more k.calls ≡ k.calls + 1 = more_is k.calls few in
      let k_is : k ≡ record { calls = k.calls; broken = None } = ap (λ (b : Option Break). record { calls = k.calls; broken = b }) a.going in
      let had : replies done ≡ replies (take k.calls es) = s.given_is ∙ ap (given es) k_is ∙ unbroken es k.calls in
      let Q : Kept → Type 0 = λ x. Follows f (take (given_entries x) es) in
      let followed : Follows f (take k.calls es) = subst Q k_is s.follows in
      let l_is : l ≡ record { calls = k.calls + 1; broken = Some gap } = a.after ∙ ap (λ (m : ℕ). record { calls = m; broken = Some gap }) n in
      let before : given es (record { calls = k.calls; broken = Some gap }) ≡ replies (take k.calls es) = unbroken es k.calls in
      subst P (sym l_is) (record {
        given_is = replies-append done (record { op = op; reply = v } ∷ []) ∙ ap (λ (vs : List Value). vs ++ v ∷ []) (had ∙ sym before) ∙ ap (λ (x : Value). given es (record { calls = k.calls; broken = Some gap }) ++ x ∷ []) a.nil ∙ sym (broken_given es k gap k.calls (omega arith));
        follows = followed;
        breaks = λ b q. ap (λ (x : Break). f (replies (take x.place es))) (sym (same_Some gap b q)) ∙ sym (ap f had) ∙ c ∙ ap (λ (x : Break). Calls x.op) (same_Some gap b q);
        other = λ b q. (let B : Break → Type 0 = λ x. HasOther es x.place x.op in subst B (same_Some gap b q) a.other);
        calls = length-append done (record { op = op; reply = v } ∷ []) ∙ ap (λ (m : ℕ). m + 1) s.calls;
        some = omega arith;
        within = (let W : Kept → Type 0 = λ x. given_entries x ≤ length es in subst W k_is s.within);
      })
  one_more k l done op v s few c (inr (inr a)) =
      let P : Kept → Type 0 = λ x. SoFar f es x (done ++ record { op = op; reply = v } ∷ []) in
      let n : more k.calls ≡ k.calls + 1 = more_is k.calls few in
      let k_is : k ≡ record { calls = k.calls; broken = Some a.gap } = ap (λ (b : Option Break). record { calls = k.calls; broken = b }) a.is in
      let l_is : l ≡ record { calls = k.calls + 1; broken = Some a.gap } = a.after ∙ ap (λ (m : ℕ). record { calls = m; broken = Some a.gap }) n in
      let Q : Kept → Type 0 = λ x. Follows f (take (given_entries x) es) in
      let R : Kept → Type 0 = λ x. given_entries x ≤ x.calls in
      let within : a.gap.place ≤ k.calls = subst R k_is s.some in
      subst P (sym l_is) (record {
        given_is = replies-append done (record { op = op; reply = v } ∷ []) ∙ ap (λ (vs : List Value). vs ++ v ∷ []) (s.given_is ∙ ap (given es) k_is) ∙ ap (λ (x : Value). given es (record { calls = k.calls; broken = Some a.gap }) ++ x ∷ []) a.nil ∙ sym (broken_given es k a.gap k.calls within);
        follows = subst Q k_is s.follows;
        breaks = λ b q. s.breaks b (a.is ∙ q);
        other = λ b q. s.other b (a.is ∙ q);
        calls = length-append done (record { op = op; reply = v } ∷ []) ∙ ap (λ (m : ℕ). m + 1) s.calls;
        some = omega (arith, within);
        within = (let W : Kept → Type 0 = λ x. given_entries x ≤ length es in subst W k_is s.within);
      })

  -- a whole run
  next_step : (done : List Entry) (e : Entry) (ds : List Entry) → Follows (rest (rest f (replies done)) (e.reply ∷ [])) ds → Follows (rest f (replies (done ++ e ∷ []))) ds
  next_step done e ds w =
      let same : (vs : List Value) → replies done ++ e.reply ∷ vs ≡ replies (done ++ e ∷ []) ++ vs = λ vs. sym (append_assoc (replies done) (e.reply ∷ []) vs) ∙ ap (λ (ws : List Value). ws ++ vs) (sym (replies-append done (e ∷ []))) in
      let P : Dialogue → Type 0 = λ g. Follows g ds in
      let dialogues : ◌≡◌ {A = Dialogue} (rest (rest f (replies done)) (e.reply ∷ [])) (rest f (replies (done ++ e ∷ []))) = λ i vs. f (same vs i) in
      subst P dialogues w

  run_on : (k l : Kept) (done ds : List Entry) (old new : ReplayView) → old.entries ≡ es → old.kept ≡ k → new.kept ≡ l → l.calls < 18446744073709551615 → SoFar f es k done → Steps Answering old ds new → Follows (rest f (replies done)) ds → SoFar f es l (done ++ ds)
  run_on k l done [] old new a b c few s st w =
      let P : List Entry → Type 0 = λ xs. SoFar f es l xs in
      let Q : Kept → Type 0 = λ x. SoFar f es x done in
      subst P (sym (append-nil done)) (subst Q (sym b ∙ sym (ap (λ (d : ReplayView). d.kept) st) ∙ c) s)
  run_on k l done (e ∷ ds) old new a b c few s st w =
      let mid : ReplayView = st.0 in
      let A : List Entry → Type 0 = λ xs. IsAnswered xs old.kept e.op e.reply mid.kept in
      let B : Kept → Type 0 = λ x. IsAnswered es x e.op e.reply mid.kept in
      let first : k.calls ≤ mid.kept.calls = let u : old.kept.calls ≤ mid.kept.calls = up_one old.entries old.kept e.op e.reply mid.kept st.1.kept in let q : old.kept.calls ≡ k.calls = ap (λ (x : Kept). x.calls) b in omega (arith, u, q) in
      let later : mid.kept.calls ≤ l.calls = let u : mid.kept.calls ≤ new.kept.calls = calls_up ds mid new st.2 in let q : new.kept.calls ≡ l.calls = ap (λ (x : Kept). x.calls) c in omega (arith, u, q) in
      let called : f (replies done) ≡ Calls e.op = ap f (sym (append-nil (replies done))) ∙ w.0 in
      let s' : SoFar f es mid.kept (done ++ e ∷ []) = one_more k mid.kept done e.op e.reply s (omega (arith, first, later, few)) called (subst B b (subst A a st.1.kept)) in
      let P : List Entry → Type 0 = λ xs. SoFar f es l xs in
      subst P (append_assoc done (e ∷ []) ds) (run_on mid.kept l (done ++ e ∷ []) ds mid new (st.1.entries ∙ a) refl c few s' st.2 (next_step done e ds w.1))

pub ran : (f : Dialogue) (es : List Entry) (ds : List Entry) (old new : ReplayView) (r : Reply) → old.entries ≡ es → old.kept ≡ nothing_kept → new.kept.calls < 18446744073709551615 → Steps Answering old ds new → Follows f ds → f (replies ds) ≡ Answers r → IsRun f es new.kept r
ran f es ds old new r a b few st w q =
    let s : SoFar f es new.kept ds = run_on f es nothing_kept new.kept [] ds old new a b refl few (begins f es) st w in
    record { within = s.within; follows = s.follows; breaks = s.breaks; other = s.other; answers = sym (ap f s.given_is) ∙ q }

-- ---- what is kept tells what comes next
abbrev entry_next : Reply → Option Entry → Next
entry_next r o = next_of r (option_map (λ (e : Entry). e.op) o)

abbrev last_next : Reply → Option Break → Next
last_next r o = next_of r (option_map (λ (b : Break). b.op) o)

follows_at : (f : Dialogue) (es : List Entry) (g n : ℕ) → Follows f (take g es) → n < g → (o : Option Entry) → slice_get es n ≡ o → n < length es → (r : Reply) → f (replies (take n es)) ≡ entry_next r o
follows_at f [] g n w l o e m r = absurd (omega arith)
follows_at f (x ∷ es) zero n w l o e m r = absurd (omega (arith, l))
follows_at f (x ∷ es) (suc g) zero w l o e m r = w.0 ∙ ap (entry_next r) e
follows_at f (x ∷ es) (suc g) (suc n) w l o e m r = follows_at (rest f (x.reply ∷ [])) es g n w.1 (omega (arith, l)) o e (omega (arith, m)) r

pub tells : (f : Dialogue) (es : List Entry) (k : Kept) (r : Reply) (n : ℕ) → IsRun f es k r → n ≤ given_entries k → f (replies (take n es)) ≡ kept_next es k r n
tells f es k r n a l = by (ltb n (given_entries k)) refl
  where
    last : (o : Option Break) → k.broken ≡ o → f (replies (take (given_entries k) es)) ≡ last_next r k.broken
    last None e =
        let k_is : k ≡ record { calls = k.calls; broken = None } = ap (λ (b : Option Break). record { calls = k.calls; broken = b }) e in
        let same : given_entries k ≡ k.calls = ap given_entries k_is in
        ap (λ (m : ℕ). f (replies (take m es))) same ∙ ap f (sym (ap (given es) k_is ∙ unbroken es k.calls)) ∙ a.answers ∙ ap (last_next r) (sym e)
    last (Some b) e =
        let k_is : k ≡ record { calls = k.calls; broken = Some b } = ap (λ (c : Option Break). record { calls = k.calls; broken = c }) e in
        ap (λ (x : Kept). f (replies (take (given_entries x) es))) k_is ∙ a.breaks b e ∙ ap (last_next r) (sym e)

    by : (t : Bool) → ltb n (given_entries k) ≡ t → f (replies (take n es)) ≡ next_of r (if t then option_map (λ (e : Entry). e.op) (slice_get es n) else option_map (λ (b : Break). b.op) k.broken)
    by true e = follows_at f es (given_entries k) n a.follows (ltb-true n (given_entries k) e) (slice_get es n) refl (omega (arith, ltb-true n (given_entries k) e, a.within)) r
    by false e = let same : n ≡ given_entries k = omega (arith, ltb-false n (given_entries k) e, l) in ap (λ (m : ℕ). f (replies (take m es))) same ∙ last k.broken refl
