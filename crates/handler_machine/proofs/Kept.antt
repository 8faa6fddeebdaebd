-- What is declared hangs on the variables of its handler alone.
use Rattle.std.proofs.Common.{◌≡◌, ℕ, ◌<◌, ◌≤◌, arith, List, [], ◌∷◌, length, map, take, refl, sym, ap, subst, ◌∙◌}
use Rattle.std.proofs.lemmas.List.{get_or-take, length-take-le}
use Rattle.std.specs.List.{AllByRecursion}
use Rattle.std.specs.Prelude.{slice_index_or}
use Rattle.session_values.specs.declared.value.Value.{Value}
use Rattle.session_values.specs.declared.value.Value.TheVariants.{Nil}
use Rattle.symbolic_ops.specs.declared.arg.Arg.{Arg}
use Rattle.symbolic_ops.specs.declared.arg.Arg.TheVariants.{Known, Var, Any}
use Rattle.symbolic_ops.specs.declared.symbol.Symbol.{Symbol}
use Rattle.symbolic_ops.specs.Instantiate.{ArgWithin, IsWithin}
use Rattle.session_journal.specs.Script.{HasSite, Meaning, declared_with}
use Rattle.session_journal.specs.declared.site.Site.{Site}
use Rattle.check_meaning.specs.Dialogue.{env_of}
use Rattle.declaration_insertion.specs.Promises.{Declarations, arg_at, symbol_at}
use Rattle.declaration_insertion.proofs.Values.{instantiated}
use Rattle.handler_machine.specs.Serving.{Declares, list_with}

-- the two give the first so many variables the same values
abbrev Agree : ℕ → List Value → List Value → Type 0
Agree n values env = (x : ℕ) → x < n → slice_index_or values x Nil ≡ slice_index_or env x Nil

same_arg : (n : ℕ) (values env : List Value) → Agree n values env → (a : Arg) → ArgWithin n a → arg_at (env_of values) a ≡ arg_at (env_of env) a
same_arg n values env h (Known v) w = refl
same_arg n values env h (Var x) w = ap (λ (v : Value). Known v) (h x w)
same_arg n values env h Any w = refl

-- so what is declared with the one is declared with the other
same_list : (n : ℕ) (values env : List Value) → Agree n values env → (list : List Symbol) → AllByRecursion (λ y. IsWithin n y) list → map (symbol_at (env_of values)) list ≡ map (symbol_at (env_of env)) list
same_list n values env agree [] w = refl
same_list n values env agree (s ∷ list) w =
    ap (λ (a : Arg). record { kind = s.kind; table = s.table; key = a; value = arg_at (env_of values) s.value } ∷ map (symbol_at (env_of values)) list) (same_arg n values env agree s.key w.0.0)
    ∙ ap (λ (a : Arg). record { kind = s.kind; table = s.table; key = arg_at (env_of env) s.key; value = a } ∷ map (symbol_at (env_of values)) list) (same_arg n values env agree s.value w.0.1)
    ∙ ap (λ (more : List Symbol). symbol_at (env_of env) s ∷ more) (same_list n values env agree list w.1)

module _ (m : Meaning) (part variables points : ℕ) (declared : Declarations) (d : Declares m part variables points declared) (point : ℕ) (at : point < points) where
  abbrev site : Site
  site = record { part = part; point = point }

  -- the values that are kept at a point give its declaration
  pub kept_list : (values env : List Value) → Agree variables values env → list_with declared point values ≡ list_with declared point env
  kept_list values env agree =
      ap (map (symbol_at (env_of values))) (sym (d.lists point at))
      ∙ same_list variables values env agree (m.declared part point) (d.sites point at).within
      ∙ ap (map (symbol_at (env_of env))) (d.lists point at)

  module _ (n : ℕ) (counted : n ≡ variables) (env : List Value) (long : 32 ≤ length env) where
    -- the values of the handler's own variables are the first
    pub front_within : n ≤ length env
    front_within = let few = (d.sites point at).few in omega (arith, few, counted, long)

    pub front_length : n ≡ length (take n env)
    front_length = sym (length-take-le n env front_within)

    -- they are enough for the site
    pub front_site : HasSite m site (length (take n env))
    front_site = subst (HasSite m site) (sym counted ∙ front_length) (d.sites point at)

    -- and give what the handler declares there
    pub front_list : declared_with m site (take n env) ≡ list_with declared point env
    front_list =
        instantiated (take n env) (m.declared part point)
        ∙ same_list variables (take n env) env (λ x l. get_or-take n env x Nil (omega (arith, l, counted))) (m.declared part point) (d.sites point at).within
        ∙ ap (map (symbol_at (env_of env))) (d.lists point at)
