-- How many symbols a point may have, where a handler has neither choices nor loops.
use Rattle.std.proofs.Common.{◌≡◌, ℕ, ◌≤◌, Bool, true, false, List, [], ◌∷◌, ◌++◌, map, length, Option, Some, None, sym, subst, inl, inr, Contains}
use Rattle.std.specs.List.Sorted.{IsStrictlySortedBy}
use Rattle.std.specs.declared.cmp.Ordering.TheVariants.{Less}
use Rattle.std.proofs.lemmas.Bool.{false≢true}
use Rattle.std.proofs.lemmas.List.Elements.{All-from_recursion, All-contains, Contains-append_left, Contains-append_right}
use Rattle.std.proofs.lemmas.Map.Keys.{sorted_head, sorted_tail}
use Rattle.may_use_analysis.specs.Order.{symbol_cmp}
use Rattle.may_use_analysis.specs.Symbol.{Symbol}
use Rattle.may_use_analysis.proofs.Orders.{not_before}
use Rattle.handler_check.specs.Code.{Code, Finish, Move, Ask, Fork, Loop, Quit}
use Rattle.may_use_analysis.specs.Steps.{Other, store_step, symbol_of, back}
use Rattle.may_use_analysis.specs.Trails.{Symbols, LaterAt}
use Rattle.may_use_analysis.specs.Flow.{RepliedBack, Flow, FlowPoint, FlowHandler}
use Rattle.may_use_analysis.specs.Later.{IsLaterList}
use Rattle.may_use_analysis.proofs.Different.{AreDifferent, no_more}
use Rattle.may_use_analysis.proofs.Members.{map_back}
use Rattle.may_use_analysis.proofs.PointLemmas.{later_is_flow}
use Rattle.may_use_analysis.proofs.Unique.{cons_head, cons_tail}

abbrev pub is_straight : Code → Bool
is_straight Finish = true
is_straight (Move x e rest) = is_straight rest
is_straight (Ask at p x c rest) = is_straight rest
is_straight (Fork at p q test a b rest) = false
is_straight (Loop at p n x body rest) = false
is_straight (Quit es rest) = is_straight rest

abbrev replied_list : Option ℕ → List Symbol → List Symbol
replied_list None after = after
replied_list (Some x) after = map (back (Other x)) after

-- the symbols at the start of such code
abbrev start_list : Code → List Symbol
start_list Finish = []
start_list (Move x e rest) = map (back (store_step x e)) (start_list rest)
start_list (Ask at p x c rest) = symbol_of c ∷ replied_list x (start_list rest)
start_list (Fork at p q test a b rest) = []
start_list (Loop at p n x body rest) = []
start_list (Quit es rest) = []

-- and those at its points
abbrev point_list : Code → List Symbol
point_list Finish = []
point_list (Move x e rest) = point_list rest
point_list (Ask at p x c rest) = start_list rest ++ point_list rest
point_list (Fork at p q test a b rest) = []
point_list (Loop at p n x body rest) = []
point_list (Quit es rest) = point_list rest

abbrev pub all_list : Code → List Symbol
all_list code = start_list code ++ point_list code

reply_listed : (x : Option ℕ) (A : Symbols) (l : List Symbol) → ((s : Symbol) → A s → Contains l s) → (s : Symbol) → RepliedBack x A s → Contains (replied_list x l) s
reply_listed None A l h s m = h s m
reply_listed (Some x) A l h s m = (map_back (Other x) l s).1 (m.0, h m.0 m.1, m.2)

start_listed : (code : Code) → is_straight code ≡ true → (s : Symbol) → Flow code (λ z. ⊥) s → Contains (start_list code) s
start_listed Finish h s m = absurd m
start_listed (Move x e rest) h s m = (map_back (store_step x e) (start_list rest) s).1 (m.0, start_listed rest h m.0 m.1, m.2)
start_listed (Ask at p x c rest) h s m = elim m [
  | inl e ↦ subst (Contains (start_list (Ask at p x c rest))) (sym e) (cons_head (symbol_of c) (replied_list x (start_list rest)))
  | inr b ↦ cons_tail (symbol_of c) (replied_list x (start_list rest)) s (reply_listed x (Flow rest (λ z. ⊥)) (start_list rest) (start_listed rest h) s b)
]
start_listed (Fork at p q test a b rest) h s m = absurd (false≢true h)
start_listed (Loop at p n x body rest) h s m = absurd (false≢true h)
start_listed (Quit es rest) h s m = absurd m

point_listed : (code : Code) → is_straight code ≡ true → (i : ℕ) (s : Symbol) → FlowPoint code i (λ z. ⊥) s → Contains (point_list code) s
point_listed Finish h i s m = absurd m
point_listed (Move x e rest) h i s m = point_listed rest h i s m
point_listed (Ask at p x c rest) h i s m = elim m [
  | inl a ↦ Contains-append_left (start_list rest) (point_list rest) s (start_listed rest h s a.1)
  | inr b ↦ Contains-append_right (start_list rest) (point_list rest) s (point_listed rest h i s b)
]
point_listed (Fork at p q test a b rest) h i s m = absurd (false≢true h)
point_listed (Loop at p n x body rest) h i s m = absurd (false≢true h)
point_listed (Quit es rest) h i s m = point_listed rest h i s m

later_listed : (code : Code) → is_straight code ≡ true → (p : ℕ) (s : Symbol) → LaterAt code p s → Contains (all_list code) s
later_listed code h p s m = go ((later_is_flow code p s).0 m)
  where
    go : FlowHandler code p s → Contains (all_list code) s
    go (inl a) = Contains-append_left (start_list code) (point_list code) s (start_listed code h s a.1)
    go (inr b) = Contains-append_right (start_list code) (point_list code) s (point_listed code h p s b)

different : (xs : List Symbol) → IsStrictlySortedBy symbol_cmp xs → AreDifferent xs
different [] o = tt
different (x ∷ xs) o =
    (λ m. not_before x (All-contains (λ z. symbol_cmp x z ≡ Less) xs x (All-from_recursion (λ z. symbol_cmp x z ≡ Less) xs (sorted_head symbol_cmp x xs o)) m), different xs (sorted_tail symbol_cmp x xs o))

-- a point's list is no longer than that of all
pub few_later : (code : Code) → is_straight code ≡ true → (p : ℕ) (list : List Symbol) → IsLaterList code p list → length list ≤ length (all_list code)
few_later code h p list is = no_more list (all_list code) (different list is.0) (λ s m. later_listed code h p s ((is.1 s).0 m))
