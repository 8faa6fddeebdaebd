-- The faults of a text, mark by mark, and the rules that are broken in it.
use Rattle.std.proofs.Common.{◌≡◌, ℕ, ◌⊎◌, inl, inr, List, [], ◌∷◌, ◌++◌, append-nil, append_assoc, refl, sym, ap, ◌∙◌, subst}
use Rattle.syntax_trees.specs.declared.file.TableDecl.{TableDecl}
use Rattle.handler_check.specs.declared.refusal.CheckRefusal.{CheckRefusal}
use Rattle.handler_check.specs.declared.refusal.CheckRefusal.TheVariants.{Twice, Unknown, Arity, WrongTable, RepeatBound, TooManyTables, TooManyHandlers, TooManyVariables, TooManyCalls, TooMuchWork, NoMemory}
use Rattle.syntax_trees.specs.Marks.{Mark, Declared, Mentioned, Operation, OnTable, Turns, declared}
use Rattle.handler_check.specs.Rules.{Stands, IsTwice, IsPast, IsUnseen, IsTableless, IsMiscounted, IsMisplaced, IsUnbounded}
use Rattle.handler_check.specs.Scan.{Limit}
use Rattle.handler_check.proofs.Finds.{Faults, Breaks, BrokenFrom}

pub declared_append : (ms ns : List Mark) → declared (ms ++ ns) ≡ declared ms ++ declared ns
declared_append [] ns = refl
declared_append (Declared name at ∷ ms) ns = ap (λ (xs : List ℕ). name ∷ xs) (declared_append ms ns)
declared_append (Mentioned name at visible ∷ ms) ns = declared_append ms ns
declared_append (Operation kind count at ∷ ms) ns = declared_append ms ns
declared_append (OnTable kind name at ∷ ms) ns = declared_append ms ns
declared_append (Turns n at ∷ ms) ns = declared_append ms ns

-- a mark of a text is at fault
pub record BrokenAt (l : Limit) (tables : List TableDecl) (text : List Mark) (g : CheckRefusal) : Type 0 where
  pub before : List Mark
  pub mark : Mark
  pub stands : Stands text before mark
  pub breaks : Breaks l tables (declared before) mark g

module _ (l : Limit) (tables : List TableDecl) where
  at_from : (pre ms : List Mark) (g : CheckRefusal) → BrokenFrom l tables (declared pre) ms g → BrokenAt l tables (pre ++ ms) g
  at_from pre [] g b = absurd b
  at_from pre (m ∷ ms) g b = elim b [
    | inl c ↦ record { before = pre; mark = m; stands = record { after = ms; is = refl }; breaks = c }
    | inr c ↦
        subst (λ (t : List Mark). BrokenAt l tables t g) (append_assoc pre (m ∷ []) ms)
        (at_from (pre ++ m ∷ []) ms g (subst (λ (ns : List ℕ). BrokenFrom l tables ns ms g) (sym (declared_append pre (m ∷ []))) c))
  ]

  from_at : (before : List Mark) (earlier : List ℕ) (m : Mark) (after : List Mark) (g : CheckRefusal) → Breaks l tables (earlier ++ declared before) m g → BrokenFrom l tables earlier (before ++ m ∷ after) g
  from_at [] earlier m after g b = inl (subst (λ (ns : List ℕ). Breaks l tables ns m g) (append-nil earlier) b)
  from_at (x ∷ before) earlier m after g b =
      let e : earlier ++ declared (x ∷ before) ≡ (earlier ++ declared (x ∷ [])) ++ declared before =
      ap (λ (ns : List ℕ). earlier ++ ns) (declared_append (x ∷ []) before) ∙ sym (append_assoc earlier (declared (x ∷ [])) (declared before)) in
      inr (from_at before (earlier ++ declared (x ∷ [])) m after g (subst (λ (ns : List ℕ). Breaks l tables ns m g) e b))

  -- ---- rules
  abbrev pub Rule : List Mark → Faults
  Rule text (Twice at) = IsTwice text at
  Rule text (Unknown at) = IsUnseen text at ⊎ IsTableless tables text at
  Rule text (Arity at) = IsMiscounted text at
  Rule text (WrongTable at) = IsMisplaced tables text at
  Rule text (RepeatBound at) = IsUnbounded text at
  Rule text (TooManyTables at) = (p : ℕ) × IsPast l.limit text p × (TooManyTables at ≡ l.past p)
  Rule text (TooManyHandlers at) = (p : ℕ) × IsPast l.limit text p × (TooManyHandlers at ≡ l.past p)
  Rule text (TooManyVariables at) = (p : ℕ) × IsPast l.limit text p × (TooManyVariables at ≡ l.past p)
  Rule text (TooManyCalls at) = ⊥
  Rule text (TooMuchWork at) = ⊥
  Rule text NoMemory = ⊥

  -- the refusal of the limit is one of the three
  abbrev pub IsLimit : Type 0
  IsLimit = (text : List Mark) (p : ℕ) → IsPast l.limit text p → Rule text (l.past p)

  rule_at : IsLimit → (text before : List Mark) (m : Mark) (g : CheckRefusal) → Stands text before m → Breaks l tables (declared before) m g → Rule text g
  rule_at past text before (Declared name at) g s b = elim b [
    | inl h ↦ subst (Rule text) (sym h.1) (before, name, s, h.0)
    | inr h ↦ subst (Rule text) (sym h.1) (past text at (before, name, s, h.0))
  ]
  rule_at past text before (Mentioned name at visible) g s b = subst (Rule text) (sym b.1) (inl (before, name, visible, s, b.0))
  rule_at past text before (Operation kind count at) g s b = subst (Rule text) (sym b.1) (before, kind, count, s, b.0)
  rule_at past text before (OnTable kind name at) g s b = elim b [
    | inl h ↦ subst (Rule text) (sym h.1) (inr (before, kind, name, s, h.0))
    | inr h ↦ subst (Rule text) (sym h.1) (before, kind, name, h.0.0, s, h.0.1, h.0.2)
  ]
  rule_at past text before (Turns n at) g s b = subst (Rule text) (sym b.1) (before, n, s, b.0)

  past_at : (text : List Mark) (p : ℕ) (g : CheckRefusal) → IsPast l.limit text p → g ≡ l.past p → BrokenAt l tables text g
  past_at text p g h e = record { before = h.0; mark = Declared h.1 p; stands = h.2; breaks = inr (h.3, e) }

  at_rule : (text : List Mark) (g : CheckRefusal) → Rule text g → BrokenAt l tables text g
  at_rule text (Twice at) h = record { before = h.0; mark = Declared h.1 at; stands = h.2; breaks = inl (h.3, refl) }
  at_rule text (Unknown at) s = elim s [
    | inl h ↦ record { before = h.0; mark = Mentioned h.1 at h.2; stands = h.3; breaks = (h.4, refl) }
    | inr h ↦ record { before = h.0; mark = OnTable h.1 h.2 at; stands = h.3; breaks = inl (h.4, refl) }
  ]
  at_rule text (Arity at) h = record { before = h.0; mark = Operation h.1 h.2 at; stands = h.3; breaks = (h.4, refl) }
  at_rule text (WrongTable at) h = record { before = h.0; mark = OnTable h.1 h.2 at; stands = h.4; breaks = inr ((h.3, h.5, h.6), refl) }
  at_rule text (RepeatBound at) h = record { before = h.0; mark = Turns h.1 at; stands = h.2; breaks = (h.3, refl) }
  at_rule text (TooManyTables at) h = past_at text h.0 (TooManyTables at) h.1 h.2
  at_rule text (TooManyHandlers at) h = past_at text h.0 (TooManyHandlers at) h.1 h.2
  at_rule text (TooManyVariables at) h = past_at text h.0 (TooManyVariables at) h.1 h.2
  at_rule text (TooManyCalls at) h = absurd h
  at_rule text (TooMuchWork at) h = absurd h
  at_rule text NoMemory h = absurd h

  -- what is broken mark by mark, and the rules
  pub rule_from : IsLimit → (text : List Mark) (g : CheckRefusal) → BrokenFrom l tables [] text g → Rule text g
  rule_from past text g b = (let h = at_from [] text g b in rule_at past text h.before h.mark g h.stands h.breaks)

  pub from_rule : (text : List Mark) (g : CheckRefusal) → Rule text g → BrokenFrom l tables [] text g
  from_rule text g r =
      let h = at_rule text g r in
      subst (λ (t : List Mark). BrokenFrom l tables [] t g) (sym h.stands.is) (from_at h.before [] h.mark h.stands.after g h.breaks)
