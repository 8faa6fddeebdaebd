-- Tables whose keys and values can be printed.
use Rattle.std.proofs.Common.{◌≡◌, ℕ, zero, suc, Bool, true, false, not, ◌&&◌, ◌||◌, cond, pos, List, [], ◌∷◌, Option, Some, None, unwrap_or, refl, sym, ◌∙◌, subst, if◌then◌else◌}
use Rattle.std.specs.Prelude.{map as map_list}
use Rattle.std.specs.List.{AllByRecursion}
use Rattle.std.proofs.Math.ListN.{set}
use Rattle.std.specs.FinMap as map
use Rattle.std.specs.FinSet as set
use Rattle.session_journal.specs.Opening.{Pair, container_of, tables_of}
use Rattle.session_values.specs.declared.value.Value.{Value}
use Rattle.session_values.specs.declared.value.Value.TheVariants.{Nil, Num, Sym}
use Rattle.session_values.specs.declared.kind.Kind.{Kind}
use Rattle.session_values.specs.declared.kind.Kind.TheVariants.{Get, Put, Swap, Del, Size, Bump, Has, Add, Mark, Drop, Count}
use Rattle.session_values.specs.declared.kind.TableKind.{TableKind}
use Rattle.session_values.specs.declared.kind.TableKind.TheVariants.{Map, Set}
use Rattle.session_values.specs.declared.op.Op.{Op}
use Rattle.session_values.specs.Values.{value_cmp, value_eq, value_cmp_total}
use Rattle.session_values.specs.Tables.{Container, Bindings, Members, Tables, bit, bound_to, bumped, sum_in_range, map_reply, map_after, set_after, set_reply, reply_on, after_on, table, reply, step}
use Rattle.session_values.specs.ReplyText.{IsPrintable}
use Rattle.session_values.proofs.Equal.{same_value}
use Rattle.table_lines.specs.TableRows.{ArePrintable}
use Rattle.serve_faults.specs.Printable.{IsPrintableTable}

module _ (names : List (List ℕ)) where
  -- ---- tables

  abbrev pub Holds : Container → Type 0
  Holds c = IsPrintableTable names c

  found : (m : map.FinMap value_cmp Value) (k : Value) → Holds (Bindings m) → IsPrintable names (unwrap_or (map.get m k) Nil)
  found m k h = go (map.get m k) refl where
    go : (o : Option Value) → map.get m k ≡ o → IsPrintable names (unwrap_or o Nil)
    go None e = tt
    go (Some v) e = (h k v e).1

  number : (b : Bool) → IsPrintable names (bit b)
  number true = tt
  number false = tt

  choice : (b : Bool) → IsPrintable names (if b then Num (pos 0) else Num (pos 1))
  choice true = tt
  choice false = tt

  map_replies : (m : map.FinMap value_cmp Value) (kind : Kind) (k : Value) → Holds (Bindings m) → IsPrintable names (map_reply m kind k)
  map_replies m Get k h = found m k h
  map_replies m Swap k h = found m k h
  map_replies m Size k h = tt
  map_replies m _ k h = tt

  set_replies : (s : set.FinSet value_cmp) (kind : Kind) (k : Value) → IsPrintable names (set_reply s kind k)
  set_replies s Has k = number (set.contains s k)
  set_replies s Add k = choice (set.contains s k)
  set_replies s Count k = tt
  set_replies s _ k = tt

  reply_printable_on : (c : Container) (op : Op) → Holds c → IsPrintable names (reply_on c op)
  reply_printable_on (Bindings m) op h = map_replies m op.kind op.key h
  reply_printable_on (Members s) op h = set_replies s op.kind op.key

  inserted : (m : map.FinMap value_cmp Value) (k v : Value) → Holds (Bindings m) → IsPrintable names k → IsPrintable names v → Holds (Bindings (map.insert m k v))
  inserted m k v h p r q w e = go (value_eq q k) refl (sym (map.get-insert value_cmp_total m k v q) ∙ e) where
    go : (b : Bool) → value_eq q k ≡ b → cond b (Some v) (map.get m q) ≡ Some w → IsPrintable names q × IsPrintable names w
    go true i f = let is : v ≡ w = cc in (subst (IsPrintable names) (sym (same_value q k i)) p, subst (IsPrintable names) is r)
    go false i f = h q w f

  removed : (m : map.FinMap value_cmp Value) (k : Value) → Holds (Bindings m) → Holds (Bindings (map.remove m k))
  removed m k h q w e = go (value_eq q k) (sym (map.get-remove value_cmp_total m k q) ∙ e) where
    go : (b : Bool) → cond b None (map.get m q) ≡ Some w → IsPrintable names q × IsPrintable names w
    go true f = absurd (cc)
    go false f = h q w f

  joined : (s : set.FinSet value_cmp) (k : Value) → Holds (Members s) → IsPrintable names k → Holds (Members (set.insert s k))
  joined s k h p q e = go (value_eq q k) refl (sym (set.contains-insert value_cmp_total s k q) ∙ e) where
    go : (b : Bool) → value_eq q k ≡ b → (b || set.contains s q) ≡ true → IsPrintable names q
    go true i f = subst (IsPrintable names) (sym (same_value q k i)) p
    go false i f = h q f

  left : (s : set.FinSet value_cmp) (k : Value) → Holds (Members s) → Holds (Members (set.remove s k))
  left s k h q e = go (value_eq q k) (sym (set.contains-remove value_cmp_total s k q) ∙ e) where
    go : (b : Bool) → (not b && set.contains s q) ≡ true → IsPrintable names q
    go true f = absurd (cc)
    go false f = h q f

  printed : (v x : Value) → IsPrintable names v → ◌≡◌ {A = Option Value} (Some v) (Some x) → IsPrintable names x
  printed v x h e = let is : v ≡ x = cc in subst (IsPrintable names) is h

  bumped_printable : (v x : Value) (o : Option Value) → IsPrintable names v → ((w : Value) → o ≡ Some w → IsPrintable names w) → bumped v o ≡ Some x → IsPrintable names x
  bumped_printable Nil x o p h e = h x e
  bumped_printable (Sym s) x o p h e = h x e
  bumped_printable (Num d) x None p h e = printed (Num d) x tt e
  bumped_printable (Num d) x (Some Nil) p h e = printed Nil x tt e
  bumped_printable (Num d) x (Some (Num n)) p h e = printed (Num (sum_in_range n d)) x tt e
  bumped_printable (Num d) x (Some (Sym s)) p h e = printed (Sym s) x (h (Sym s) refl) e

  maps_after : (m : map.FinMap value_cmp Value) (kind : Kind) (k v : Value) → Holds (Bindings m) → IsPrintable names k → IsPrintable names v → Holds (Bindings (map_after m kind k v))
  maps_after m Put k v h p q = inserted m k v h p q
  maps_after m Swap k v h p q = inserted m k v h p q
  maps_after m Del k v h p q = removed m k h
  maps_after m Bump k v h p q = rebound (bumped v (map.get m k)) (λ w e. bumped_printable v w (map.get m k) q (λ x f. (h k x f).1) e) where
    rebound : (o : Option Value) → ((w : Value) → o ≡ Some w → IsPrintable names w) → Holds (Bindings (bound_to m k o))
    rebound None g = removed m k h
    rebound (Some w) g = inserted m k w h p (g w refl)
  maps_after m _ k v h p q = h

  sets_after : (s : set.FinSet value_cmp) (kind : Kind) (k : Value) → Holds (Members s) → IsPrintable names k → Holds (Members (set_after s kind k))
  sets_after s Add k h p = joined s k h p
  sets_after s Mark k h p = joined s k h p
  sets_after s Drop k h p = left s k h
  sets_after s _ k h p = h

  holds_after : (c : Container) (op : Op) → Holds c → IsPrintable names op.key → IsPrintable names op.value → Holds (after_on c op)
  holds_after (Bindings m) op h p q = maps_after m op.kind op.key op.value h p q
  holds_after (Members s) op h p q = sets_after s op.kind op.key h p

  -- ---- tables that open
  empty_map : Holds (Bindings map.empty)
  empty_map k v e = absurd (let none : None ≡ Some v = sym (map.get-empty value_cmp k) ∙ e in cc)

  empty_set : Holds (Members set.empty)
  empty_set k e = absurd (let no : false ≡ true = sym (set.contains-empty value_cmp k) ∙ e in cc)

  map_opens : (es : List Pair) → AllByRecursion (λ (e : Pair). IsPrintable names e.0 × IsPrintable names e.1) es → Holds (container_of Map es)
  map_opens [] h = empty_map
  map_opens (e ∷ es) h = inserted (map.from_entries es) e.0 e.1 (map_opens es h.1) h.0.0 h.0.1

  set_opens : (es : List Pair) → AllByRecursion (λ (e : Pair). IsPrintable names e.0 × IsPrintable names e.1) es → Holds (container_of Set es)
  set_opens [] h = empty_set
  set_opens (e ∷ es) h = joined (set.from_list (map_list (λ (x : Pair). x.0) es)) e.0 (set_opens es h.1) h.0.0

  container_opens : (kind : TableKind) (es : List Pair) → AllByRecursion (λ (e : Pair). IsPrintable names e.0 × IsPrintable names e.1) es → Holds (container_of kind es)
  container_opens Map es h = map_opens es h
  container_opens Set es h = set_opens es h

  pub opening_holds : (shape : List TableKind) (lists : List (List Pair)) → ArePrintable names lists → AllByRecursion Holds (tables_of shape lists)
  opening_holds [] lists h = tt
  opening_holds (kind ∷ shape) [] h = (container_opens kind [] tt, opening_holds shape [] tt)
  opening_holds (kind ∷ shape) (es ∷ lists) h = (container_opens kind es h.0, opening_holds shape lists h.1)

  table_holds : (ts : Tables) (i : ℕ) → AllByRecursion Holds ts → Holds (table ts i)
  table_holds [] i h = empty_map
  table_holds (c ∷ ts) zero h = h.0
  table_holds (c ∷ ts) (suc i) h = table_holds ts i h.1

  set_holds : (ts : Tables) (i : ℕ) (c : Container) → AllByRecursion Holds ts → Holds c → AllByRecursion Holds (set ts i c)
  set_holds [] i c h p = tt
  set_holds (d ∷ ts) zero c h p = (p, h.1)
  set_holds (d ∷ ts) (suc i) c h p = (h.0, set_holds ts i c h.1 p)

  pub reply_printable : (ts : Tables) (op : Op) → AllByRecursion Holds ts → IsPrintable names (reply ts op)
  unfolding reply
  reply_printable ts op h = reply_printable_on (table ts op.table) op (table_holds ts op.table h)

  pub step_holds : (ts : Tables) (op : Op) → AllByRecursion Holds ts → IsPrintable names op.key → IsPrintable names op.value → AllByRecursion Holds (step ts op)
  unfolding step
  step_holds ts op h p q = set_holds ts op.table _ h (holds_after (table ts op.table) op (table_holds ts op.table h) p q)
