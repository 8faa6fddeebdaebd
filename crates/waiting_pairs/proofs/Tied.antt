-- Where one symbol has one variable as key and value.
use Rattle.std.proofs.Common.{◌≡◌, ◌≢◌, ℕ, ◌<◌, pos, ◌⊎◌, inl, inr, Bool, true, false, if◌then◌else◌, ◌||◌, eqb, refl, sym, ap, subst, ◌∙◌, arith, lit<}
use Rattle.std.proofs.lemmas.Bool.{ltb-true, or_parts}
use Rattle.std.specs.Bool.{Decides}
use Rattle.session_values.specs.declared.kind.Kind.{Kind}
use Rattle.session_values.specs.declared.kind.Kind.TheVariants.{Get, Put, Swap, Del, Size, Bump, Has, Add, Mark, Drop, Count}
use Rattle.session_values.specs.declared.value.Value.{Value}
use Rattle.session_values.specs.declared.value.Value.TheVariants.{Nil, Num, Sym}
use Rattle.session_values.specs.declared.op.Op.{Op}
use Rattle.session_values.specs.Commuting.{Commute}
use Rattle.session_values.specs.Kinds.{home, is_keyed, arguments}
use Rattle.session_values.specs.Op.{IsHeld, IsOp}
use Rattle.session_values.specs.Values.{IsValue}
use Rattle.symbolic_ops.specs.declared.arg.Arg.{Arg}
use Rattle.symbolic_ops.specs.declared.arg.Arg.TheVariants.{Known, Var, Any}
use Rattle.symbolic_ops.specs.declared.symbol.Symbol.{Symbol}
use Rattle.symbolic_ops.specs.Commuting.{SymbolsCommute}
use Rattle.symbolic_ops.specs.Matching.{Agrees, StandsFor}
use Rattle.symbolic_ops.specs.Symbol.{IsHeldSymbol}
use Rattle.commute_tables.specs.Pairs.{AreOnOneKey}
use Rattle.commute_tables.proofs.ListedPairs.{pairs_decided}
use Rattle.serve_reading.specs.Promises.{arg_at}
use Rattle.waiting_pairs.specs.Delays.{Delays, MayBe}
use Rattle.waiting_pairs.specs.Opened.{is_tied, opened, opened_arg, CommuteWith, Tells}
use Rattle.waiting_pairs.specs.Sought.{known_or_zero}
use Rattle.waiting_pairs.proofs.Deciding.{on_one_key, free_complete}
use Rattle.waiting_pairs.proofs.Opening.{to_opened, free_parts, key_opened, tied_opened, tied_same, tied_two, value_opened}
use Rattle.waiting_pairs.proofs.TiedPairs.{zero, one, has_two, is_pair, free_pair, tied_pair}

-- ---- an operation with other values
-- this key, where the kind has one, and this value
abbrev rekeyed : Op → Value → Value → Op
rekeyed op k v = record { kind = op.kind; table = op.table; key = if is_keyed op.kind then k else op.key; value = v }

two_keyed : (kind : Kind) → has_two kind ≡ true → is_keyed kind ≡ true
two_keyed Get h = cc
two_keyed Put h = refl
two_keyed Swap h = refl
two_keyed Del h = cc
two_keyed Size h = cc
two_keyed Bump h = refl
two_keyed Has h = cc
two_keyed Add h = cc
two_keyed Mark h = cc
two_keyed Drop h = cc
two_keyed Count h = cc

key_held : (b : Bool) (k w : Value) → IsValue k → IsValue w → IsValue (if b then k else w)
key_held true k w p q = p
key_held false k w p q = q

key_unused : (kind : Kind) (k w : Value) → (arguments kind < 1 → w ≡ Nil) → arguments kind < 1 → (if is_keyed kind then k else w) ≡ Nil
key_unused kind k w h l = by_keyed (is_keyed kind) refl
  where
    no_key : (x : Kind) → arguments x < 1 → is_keyed x ≡ true → ⊥
    no_key Get m e = omega (arith, m)
    no_key Put m e = omega (arith, m)
    no_key Swap m e = omega (arith, m)
    no_key Del m e = omega (arith, m)
    no_key Size m e = cc
    no_key Bump m e = omega (arith, m)
    no_key Has m e = omega (arith, m)
    no_key Add m e = omega (arith, m)
    no_key Mark m e = omega (arith, m)
    no_key Drop m e = omega (arith, m)
    no_key Count m e = cc

    by_keyed : (b : Bool) → is_keyed kind ≡ b → (if b then k else w) ≡ Nil
    by_keyed true e = absurd (no_key kind l e)
    by_keyed false e = h l

rekeyed_held : (op : Op) (k v : Value) → IsHeld op → IsValue k → IsValue v → (arguments op.kind < 2 → v ≡ Nil) → IsHeld (rekeyed op k v)
rekeyed_held op k v f p q n = record {
  key = key_held (is_keyed op.kind) k op.key p f.key;
  value = q;
  unused = (key_unused op.kind k op.key f.unused.0, n);
}

no_two : (kind : Kind) (v : Value) → has_two kind ≡ true → arguments kind < 2 → v ≡ Nil
no_two kind v h l = absurd (omega (arith, l, ltb-true 1 (arguments kind) h))

-- with the key k in both, where they have one
rekeyed_one : (a b : Op) (k v w : Value) → AreOnOneKey a b → AreOnOneKey (rekeyed a k v) (rekeyed b k w)
rekeyed_one a b k v w one = record {
  table = one.table;
  container = one.container;
  key = λ p q. ap (λ (c : Bool). if c then k else a.key) p ∙ ap (λ (c : Bool). if c then k else b.key) (sym q);
}

-- ---- what opened symbols with this value stand for
tied_stands : (s : Symbol) (op : Op) (k : Value) → is_tied s ≡ true → has_two op.kind ≡ true → IsValue k → MayBe s op → StandsFor (opened s k) (rekeyed op k k)
tied_stands s op k t two p m = tied_opened s k (rekeyed op k k) t (rekeyed_held op k k m.stands.held p p (no_two op.kind k two)) m.stands.kind m.stands.table
    (ap (λ (c : Bool). if c then k else op.key) (sym (two_keyed op.kind two))) refl

-- its key is no known one, or its kind has none
abbrev pub IsLoose : Symbol → Op → Type 0
IsLoose o b = (k : Value) → o.key ≡ Known k → is_keyed b.kind ≡ false

key_stands : (arg : Arg) (key k : Value) (c : Bool) → ((v : Value) → arg ≡ Known v → c ≡ false) → Agrees (opened_arg arg) key → Agrees (opened_arg arg) (if c then k else key)
key_stands (Known v) key k c loose h = h ∙ ap (λ (d : Bool). if d then k else key) (sym (loose v refl))
key_stands (Var x) key k c loose h = tt
key_stands Any key k c loose h = tt

zero_held : IsValue zero
zero_held = lit< tt

one_held : IsValue one
one_held = lit< tt

-- the other one has no variable twice
free_at : (s o : Symbol) (a b : Op) (k : Value) → is_tied s ≡ true → is_tied o ≡ false → has_two a.kind ≡ true → IsValue k → MayBe s a → MayBe o b → IsLoose o b → AreOnOneKey a b
    → SymbolsCommute (opened s k) (opened o k) → is_pair a.kind k b.kind b.value ≡ true
free_at s o a b k t free two p m n loose one h =
    let x : Op = rekeyed a k k in
    let y : Op = rekeyed b k b.value in
    let first : IsHeld x = rekeyed_held a k k m.stands.held p p (no_two a.kind k two) in
    let second : IsHeld y = rekeyed_held b k b.value n.stands.held p n.stands.held.value n.stands.held.unused.1 in
    let stands : StandsFor (opened o k) y = free_parts o k y free second n.stands.kind n.stands.table (key_stands o.key b.key k (is_keyed b.kind) loose (key_opened o b n)) (value_opened o b n) in
    (pairs_decided x y first second (rekeyed_one a b k k b.value one)).1 (h.each x y (tied_stands s a k t two p m) stands)

-- the other one has one too
tied_at : (s o : Symbol) (a b : Op) (k : Value) → is_tied s ≡ true → is_tied o ≡ true → has_two a.kind ≡ true → has_two b.kind ≡ true → IsValue k → MayBe s a → MayBe o b → AreOnOneKey a b
    → SymbolsCommute (opened s k) (opened o k) → is_pair a.kind k b.kind k ≡ true
tied_at s o a b k t u two also p m n one h =
    let x : Op = rekeyed a k k in
    let y : Op = rekeyed b k k in
    let first : IsHeld x = rekeyed_held a k k m.stands.held p p (no_two a.kind k two) in
    let second : IsHeld y = rekeyed_held b k k n.stands.held p p (no_two b.kind k also) in
    (pairs_decided x y first second (rekeyed_one a b k k k one)).1 (h.each x y (tied_stands s a k t two p m) (tied_stands o b k u also p n))

-- ---- the values to look at
pub tied_complete : (s o : Symbol) → IsHeldSymbol s → IsHeldSymbol o → is_tied s ≡ true → CommuteWith s o zero → CommuteWith s o one → CommuteWith s o (known_or_zero o.key) → Delays s o → ⊥
tied_complete s o f g t h0 h1 hk d = by_tied (is_tied o) refl
  where
    same : AreOnOneKey d.later d.called
    same = on_one_key d.later d.called d.may_come.stands.held d.may_call.stands.held d.differ

    two : has_two d.later.kind ≡ true
    two = ap has_two (sym d.may_come.stands.kind) ∙ tied_two s f t

    both : d.later.key ≡ d.later.value
    both = tied_same s d.later t d.may_come

    end : is_pair d.later.kind d.later.value d.called.kind d.called.value ≡ true → ⊥
    end e = d.differ ((pairs_decided d.later d.called d.may_come.stands.held d.may_call.stands.held same).0 e)

    loose_end : is_tied o ≡ false → IsLoose o d.called → ⊥
    loose_end free loose = end (free_pair d.later.kind d.called.kind d.later.value d.called.value two
        (free_at s o d.later d.called zero t free two zero_held d.may_come d.may_call loose same h0)
        (free_at s o d.later d.called one t free two one_held d.may_come d.may_call loose same h1))

    known_end : (k : Value) → is_tied o ≡ false → o.key ≡ Known k → is_keyed d.called.kind ≡ true → ⊥
    known_end k free p q =
        let P : Arg → Type 0 = λ x. Agrees (arg_at d.may_call.env x) d.called.key in
        let Q : Arg → Type 0 = λ x. CommuteWith s o (known_or_zero x) in
        let at : k ≡ d.called.key = subst P p d.may_call.stands.key in
        let there : k ≡ d.later.key = at ∙ sym (same.key (two_keyed d.later.kind two) q) in
        let h : CommuteWith s o k = subst Q p hk in
        d.differ (h.each d.later d.called (tied_opened s k d.later t d.may_come.stands.held d.may_come.stands.kind d.may_come.stands.table there (there ∙ both)) (to_opened o k d.called free d.may_call))

    by_key : is_tied o ≡ false → (x : Arg) → o.key ≡ x → (c : Bool) → is_keyed d.called.kind ≡ c → ⊥
    by_key free (Known k) p true q = known_end k free p q
    by_key free (Known k) p false q = loose_end free (λ v r. q)
    by_key free (Var x) p c q = loose_end free (λ v r. absurd (let e : Var x ≡ Known v = sym p ∙ r in cc))
    by_key free Any p c q = loose_end free (λ v r. absurd (let e : Any ≡ Known v = sym p ∙ r in cc))

    by_tied : (c : Bool) → is_tied o ≡ c → ⊥
    by_tied false e = by_key e o.key refl (is_keyed d.called.kind) refl
    by_tied true e =
        let also : has_two d.called.kind ≡ true = ap has_two (sym d.may_call.stands.kind) ∙ tied_two o g e in
        let there : d.later.key ≡ d.called.value = same.key (two_keyed d.later.kind two) (two_keyed d.called.kind also) ∙ tied_same o d.called e d.may_call in
        end (ap (λ (v : Value). is_pair d.later.kind v d.called.kind d.called.value) (sym both) ∙ ap (λ (v : Value). is_pair d.later.kind d.later.key d.called.kind v) (sym there)
        ∙ tied_pair d.later.kind d.called.kind d.later.key two also (tied_at s o d.later d.called one t e two also one_held d.may_come d.may_call same h1))

-- ---- either way round
turn : (a b : Op) → Commute a b → Commute b a
turn a b h = record { at = λ ts. record { tables = sym (h.at ts).tables; first = sym (h.at ts).second; second = sym (h.at ts).first } }

pub turn_delays : (s o : Symbol) → Delays s o → Delays o s
turn_delays s o d = record { later = d.called; called = d.later; may_come = d.may_call; may_call = d.may_come; differ = λ k. d.differ (turn d.called d.later k) }

turn_symbols : (s t : Symbol) → SymbolsCommute s t → SymbolsCommute t s
turn_symbols s t h = record { each = λ a b p q. turn b a (h.each b a q p) }

-- ---- answers
pub decide_yes : (s o : Symbol) (k : Value) (r : Bool) → Tells s o k r → r ≡ true → Decides r (Delays s o)
decide_yes s o k r h e = (h.delays, λ d. e)

pub decide_free : (s o : Symbol) (r : Bool) → (is_tied s || is_tied o) ≡ false → Tells s o zero r → Decides r (Delays s o)
decide_free s o true e h = (h.delays, λ d. refl)
decide_free s o false e h = (λ f. cc, λ d. absurd (free_complete s o zero (or_parts _ _ e).0 (or_parts _ _ e).1 (h.commute refl) d))

pub decide_tied : (s o : Symbol) (p q r t : Bool) → IsHeldSymbol s → IsHeldSymbol o → (is_tied s || is_tied o) ≡ true → Tells s o zero p → Tells s o one q
    → Tells s o (known_or_zero s.key) r → Tells s o (known_or_zero o.key) t → Decides (p || (q || (r || t))) (Delays s o)
decide_tied s o true q r t f g e hp hq hr ht = (λ _. hp.delays refl, λ d. refl)
decide_tied s o false true r t f g e hp hq hr ht = (λ _. hq.delays refl, λ d. refl)
decide_tied s o false false true t f g e hp hq hr ht = (λ _. hr.delays refl, λ d. refl)
decide_tied s o false false false true f g e hp hq hr ht = (λ _. ht.delays refl, λ d. refl)
decide_tied s o false false false false f g e hp hq hr ht = (λ x. cc, λ d. absurd (by_first (is_tied s) refl d))
  where
    by_first : (c : Bool) → is_tied s ≡ c → Delays s o → ⊥
    by_first true c d = tied_complete s o f g c (hp.commute refl) (hq.commute refl) (ht.commute refl) d
    by_first false c d = tied_complete o s g f (sym (ap (λ (z : Bool). z || is_tied o) c) ∙ e) (turn_symbols _ _ (hp.commute refl)) (turn_symbols _ _ (hq.commute refl)) (turn_symbols _ _ (hr.commute refl)) (turn_delays s o d)
