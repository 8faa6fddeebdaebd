-- The lists of a whole handler, and of a file.
use Rattle.std.proofs.Common.{◌≡◌, ℕ, zero, suc, refl, ◌+◌, ◌-◌, ◌<◌, ◌≤◌, List, [], ◌∷◌, ◌++◌, length, map, get_or, sym, ap, ◌∙◌, subst, inl, inr, ◌⊎◌, Contains, arith, length-append}
use Rattle.std.specs.Prelude.{◌≢◌, Some, None, slice_get, slice_index_or}
use Rattle.std.proofs.Math.ListN.{get_or-map}
use Rattle.std.proofs.Math.Seq.{get_or-append_seam}
use Rattle.std.proofs.lemmas.Bool.{cases_lt, cases_order}
use Rattle.std.proofs.lemmas.List.{get_or-reverse, length-reverse, length-map, ext_get_or, get_or_append_left}
use Rattle.symbolic_ops.specs.Order.{symbol_cmp}
use Rattle.symbolic_ops.proofs.Orders.{symbol_cmp_total}
use Rattle.symbolic_ops.specs.declared.symbol.Symbol.{Symbol}
use Rattle.handler_check.specs.File.{File}
use Rattle.handler_check.specs.Handler.{Handler}
use Rattle.check_meaning.specs.declared.tree.CheckedHandler.{CheckedHandler}
use Rattle.check_meaning.specs.Code.{Code, points, IsNumbered, block_code}
use Rattle.handler_check.specs.Resolved.{IsResolved, code_at, code_in, table_names}
use Rattle.may_use_analysis.specs.declared.handler.Excess.{Excess}
use Rattle.may_use_analysis.specs.declared.refusal.AnalysisRefusal.{AnalysisRefusal}
use Rattle.may_use_analysis.specs.declared.refusal.AnalysisRefusal.TheVariants.{TooManySymbols, NoMemory}
use Rattle.may_use_analysis.specs.Trails.{Symbols, LaterAt}
use Rattle.may_use_analysis.specs.Flow.{Flow, FlowPoint}
use Rattle.may_use_analysis.specs.Later.{IsLaterList, HasLists, HasLater, AreLater, places_in, places_at, IsShort, IsBefore, IsExcess, IsTooMany}
use Rattle.may_use_analysis.specs.Numbered.{point_list_at, by_number, ArePointLists, AreShortBelow, IsFirstExcess, IsTooLong}
use Rattle.may_use_analysis.specs.Ordered.{Lists}
use Rattle.may_use_analysis.specs.Places.{places}
use Rattle.may_use_analysis.specs.Recorded.{Recorded}
use Rattle.may_use_analysis.specs.PointList.{PointList, Listed, Unlisted, Counted, IsPointList, IsKept, AreKept, list_in, count_in}
use Rattle.may_use_analysis.proofs.PointLemmas.{later_is_flow}
use Rattle.may_use_analysis.proofs.Records.{recorded_same, recorded_length, StackedAt, fits_recorded}
use Rattle.may_use_analysis.proofs.Sets.{Same, flow_same, stored_same}
use Rattle.may_use_analysis.proofs.Unique.{none_in_nil, sorted_unique}
use Rattle.may_use_analysis.proofs.Numbers.{point_range, fits_point}
use Rattle.session_values.proofs.Options.{stands}

abbrev Empty : Symbols
Empty s = ⊥

no_member : Same (Contains []) Empty
no_member s = (λ m. absurd (none_in_nil s m), λ m. absurd m)

-- ---- the points of a handler

module _ (code : Code) (n : IsNumbered code 1) where
  entry_later : (p : ℕ) → p < 1 → Same (Flow code Empty) (LaterAt code p)
  entry_later p h s =
      let zero : p ≡ 0 = omega arith in
      (λ m. (later_is_flow code p s).1 (inl (zero, m)), λ m. flow_only ((later_is_flow code p s).0 m))
    where
      flow_only : ((p ≡ 0) × Flow code Empty s) ⊎ FlowPoint code p Empty s → Flow code Empty s
      flow_only (inl m) = m.1
      flow_only (inr m) = let r = point_range code p 1 Empty s n m in absurd (omega arith)

  pub point_later : (p : ℕ) → 1 ≤ p → Same (FlowPoint code p Empty) (LaterAt code p)
  point_later p h s = (λ m. (later_is_flow code p s).1 (inr m), λ m. point_only ((later_is_flow code p s).0 m))
    where
      point_only : ((p ≡ 0) × Flow code Empty s) ⊎ FlowPoint code p Empty s → FlowPoint code p Empty s
      point_only (inl m) = let z = m.0 in absurd (omega arith)
      point_only (inr m) = m

  pub handler_stored : (entry : PointList) (lists all : List PointList) → IsPointList entry (Flow code (Contains [])) → Recorded code (Contains []) [] lists → all ≡ lists ++ entry ∷ [] → ArePointLists code all
  handler_stored entry lists all is r e = record { count = count; each = λ p lt. at p lt (cases_lt p 1) }
    where
      len : length lists ≡ points code
      len = omega (arith, recorded_length code (Contains []) [] lists r)

      count : length all ≡ 1 + points code
      count = omega (arith, ap length e, length-append lists (entry ∷ []), len)

      at : (p : ℕ) → p < 1 + points code → (p < 1) ⊎ (1 ≤ p) → IsPointList (point_list_at all p) (LaterAt code p)
      at p lt (inl h) =
          let k : length all - (p + 1) ≡ length lists = omega (arith, len, count) in
          let here : point_list_at all p ≡ entry = ap (λ (z : List PointList). get_or z (length all - (p + 1)) (Counted 0)) e ∙ ap (λ (j : ℕ). get_or (lists ++ entry ∷ []) j (Counted 0)) k ∙ get_or-append_seam lists entry [] (Counted 0) in
          subst (λ (z : PointList). IsPointList z (LaterAt code p)) (sym here) (stored_same entry (Flow code Empty) (LaterAt code p) (entry_later p h) (stored_same entry (Flow code (Contains [])) (Flow code Empty) (flow_same code (Contains []) Empty no_member) is))
      at p lt (inr h) =
          let t : length all ≡ length {A = PointList} [] + points code + 1 = omega (arith, count) in
          let fits = fits_recorded code 1 (length all) Empty [] lists all n (recorded_same code (Contains []) Empty [] lists no_member r) (entry ∷ [], e) t in
          let here = fits_point (StackedAt all (length all)) (λ i A B same s. stored_same (get_or all (length all - (i + 1)) (Counted 0)) A B same s) code 1 Empty n fits p h (omega arith) in
          stored_same (point_list_at all p) (FlowPoint code p Empty) (LaterAt code p) (point_later p h) here

-- ---- by number

pub number_at : (kept : List PointList) (p : ℕ) → p < length kept → slice_index_or (by_number kept) p [] ≡ list_in (point_list_at kept p)
number_at kept p lt =
    let m = length-map kept list_in in
    let k : length (map list_in kept) - 1 - p ≡ length kept - (p + 1) = omega (arith, m) in
    get_or-reverse (map list_in kept) p [] (omega (arith, m))
    ∙ ap (λ (j : ℕ). get_or (map list_in kept) j []) k
    ∙ get_or-map list_in kept (length kept - (p + 1)) (Counted 0)

listed : (s : PointList) (A : Symbols) → IsKept s → count_in s ≡ None → IsPointList s A → Lists (list_in s) A × (length (list_in s) ≤ 256)
listed (Listed list) A k e is = is
listed Unlisted A k e is = absurd k
listed (Counted n) A k e is = absurd (cc e)

short_list : (s : PointList) (A : Symbols) → count_in s ≡ None → IsPointList s A → (list : List Symbol) × Lists list A × (length list ≤ 256)
short_list (Listed list) A e is = (list, is.0, is.1)
short_list Unlisted A e is = is
short_list (Counted n) A e is = absurd (cc e)

counted : (s : PointList) (n : ℕ) (A : Symbols) → count_in s ≡ Some n → IsPointList s A → (list : List Symbol) × Lists list A × (n ≡ length list) × (256 < length list)
counted (Listed list) n A e is = absurd (cc e)
counted Unlisted n A e is = absurd (cc e)
counted (Counted m) n A e is =
    let same : m ≡ n = cc in
    (is.0, is.1, sym same ∙ is.2, (let a = is.2 in let b = is.3 in omega arith))

-- ---- a list for each point

module _ (code : Code) (short : (p : ℕ) → p < 1 + points code → IsShort code p) where
  -- the lists of so many points
  first_lists : (n : ℕ) → n ≤ 1 + points code → (lists : List (List Symbol)) × (length lists ≡ n) × ((p : ℕ) → p < n → IsLaterList code p (slice_index_or lists p []) × (length (slice_index_or lists p []) ≤ 256))
  first_lists zero le = ([], refl, λ p lt. absurd (omega arith))
  first_lists (suc n) le =
      let before = first_lists n (omega arith) in
      let here = short n (omega arith) in
      (before.0 ++ here.0 ∷ [], omega (arith, length-append before.0 (here.0 ∷ []), before.1), λ p lt. at before.0 before.1 before.2 here.0 here.1 here.2 p lt (cases_lt p n))
    where
      at : (lists : List (List Symbol)) → length lists ≡ n → ((p : ℕ) → p < n → IsLaterList code p (slice_index_or lists p []) × (length (slice_index_or lists p []) ≤ 256)) → (list : List Symbol) → IsLaterList code n list → length list ≤ 256 → (p : ℕ) → p < suc n → (p < n) ⊎ (n ≤ p) → IsLaterList code p (slice_index_or (lists ++ list ∷ []) p []) × (length (slice_index_or (lists ++ list ∷ []) p []) ≤ 256)
      at lists len each list is few p lt (inl h) =
          subst (λ (l : List Symbol). IsLaterList code p l × (length l ≤ 256)) (sym (get_or_append_left lists (list ∷ []) [] p (omega arith))) (each p h)
      at lists len each list is few p lt (inr h) =
          let e : p ≡ length lists = omega arith in
          let here : slice_index_or (lists ++ list ∷ []) p [] ≡ list = ap (λ (j : ℕ). get_or (lists ++ list ∷ []) j []) e ∙ get_or-append_seam lists list [] [] in
          subst (λ (l : List Symbol). IsLaterList code p l × (length l ≤ 256)) (sym here) (subst (λ (j : ℕ). IsLaterList code j list) (sym (e ∙ len)) is, few)

  -- where each point's list is short, these are the lists
  pub lists_of_short : (lists : List (List Symbol)) × HasLists code lists
  lists_of_short =
      let all = first_lists (1 + points code) (omega arith) in
      (all.0, record { count = all.1; each = λ p lt. (all.2 p lt).0; few = λ p lt. (all.2 p lt).1 })

module _ (code : Code) (kept : List PointList) (are : ArePointLists code kept) where
  below : (p : ℕ) → p < 1 + points code → p < length kept
  below p lt = omega (arith, are.count)

  pub all_listed : AreKept kept → AreShortBelow kept (length kept) → HasLists code (by_number kept)
  all_listed whole short =
      record {
        count = length-reverse (map list_in kept) ∙ length-map kept list_in ∙ are.count;
        each = λ p lt. subst (IsLaterList code p) (sym (number_at kept p (below p lt))) (at p lt).0;
        few = λ p lt. subst (λ (l : List Symbol). length l ≤ 256) (sym (number_at kept p (below p lt))) (at p lt).1;
      }
    where
      at : (p : ℕ) → p < 1 + points code → Lists (list_in (point_list_at kept p)) (LaterAt code p) × (length (list_in (point_list_at kept p)) ≤ 256)
      at p lt = listed (point_list_at kept p) (LaterAt code p) (whole (length kept - (p + 1)) (omega (arith, below p lt))) (short p (below p lt)) (are.each p lt)

  pub short_lists : AreShortBelow kept (length kept) → (lists : List (List Symbol)) × HasLists code lists
  short_lists short = lists_of_short code (λ p lt. short_list (point_list_at kept p) (LaterAt code p) (short p (below p lt)) (are.each p lt))

-- ---- files

place_is : (f : File) (h : ℕ) (source : Handler) (c : CheckedHandler) → slice_get f.handlers h ≡ Some source → IsResolved (table_names f) source c → block_code c.body ≡ code_at f h → c.at ∷ places (block_code c.body) ≡ places_at f h
place_is f h source c e r b =
    ap (λ (z : ℕ). z ∷ places (block_code c.body)) r.at
    ∙ ap (λ (z : Code). source.at ∷ places z) (b ∙ ap (code_in f) e)
    ∙ sym (ap (places_in f) e)

excess_found : (f : File) (h at : ℕ) (kept : List PointList) (e : Excess) (lists : ℕ → List (List Symbol)) → h < length f.handlers → ArePointLists (code_at f h) kept → IsFirstExcess kept (Some e) → slice_get (places_at f h) e.point ≡ Some at → ((k : ℕ) → k < h → HasLists (code_at f k) (lists k)) → IsExcess f at e.count
excess_found f h at kept e lists inside are found place before =
    let code = code_at f h in
    let lt : e.point < 1 + points code = omega (arith, found.0, are.count) in
    let m = counted (point_list_at kept e.point) e.count (LaterAt code e.point) found.1 (are.each e.point lt) in
    record {
      handler = h;
      point = e.point;
      inside = inside;
      is_point = lt;
      place = place;
      list = m.0;
      later = m.1;
      count_is = m.2;
      many = m.3;
      first = first;
    }
  where
    in_same : (p : ℕ) → p < 1 + points (code_at f h) → p < e.point → IsShort (code_at f h) p
    in_same p lt before_it = short_list (point_list_at kept p) (LaterAt (code_at f h) p) (found.2 p before_it) (are.each p lt)

    first : (g p : ℕ) → g < length f.handlers → p < 1 + points (code_at f g) → IsBefore g p h e.point → IsShort (code_at f g) p
    first g p gl pl (inl b) = (slice_index_or (lists g) p [], (before g b).each p pl, (before g b).few p pl)
    first g p gl pl (inr b) = subst (λ (k : ℕ). IsShort (code_at f k) p) (sym b.0) (in_same p (subst (λ (k : ℕ). p < 1 + points (code_at f k)) b.0 pl) b.1)

-- ---- at most one answer is right

pub one_list : (code : Code) (p : ℕ) (a b : List Symbol) → IsLaterList code p a → IsLaterList code p b → a ≡ b
one_list code p a b x y =
    sorted_unique symbol_cmp symbol_cmp_total a b x.0 y.0 (λ s. (λ m. (y.1 s).1 ((x.1 s).0 m), λ m. (x.1 s).1 ((y.1 s).0 m)))

not_short : (code : Code) (p : ℕ) (list : List Symbol) → IsLaterList code p list → 256 < length list → IsShort code p → ⊥
not_short code p list is many short =
    let e = ap length (one_list code p list short.0 is short.1) in
    let few = short.2 in
    absurd (omega arith)

same_point : (h p g q : ℕ) → (IsBefore h p g q → ⊥) → (IsBefore g q h p → ⊥) → (h ≡ g) × (p ≡ q)
same_point h p g q a b = handlers (cases_order h g)
  where
    points_too : h ≡ g → (p ≡ q) ⊎ ((p < q) ⊎ (q < p)) → (h ≡ g) × (p ≡ q)
    points_too e (inl i) = (e, i)
    points_too e (inr (inl i)) = absurd (a (inr (e, i)))
    points_too e (inr (inr i)) = absurd (b (inr (sym e, i)))

    handlers : (h ≡ g) ⊎ ((h < g) ⊎ (g < h)) → (h ≡ g) × (p ≡ q)
    handlers (inl e) = points_too e (cases_order p q)
    handlers (inr (inl i)) = absurd (a (inl i))
    handlers (inr (inr i)) = absurd (b (inl i))

excess_before : (f : File) (a n b m : ℕ) (x : IsExcess f a n) (y : IsExcess f b m) → IsBefore x.handler x.point y.handler y.point → ⊥
excess_before f a n b m x y before = not_short (code_at f x.handler) x.point x.list x.later x.many (y.first x.handler x.point x.inside x.is_point before)

pub one_excess : (f : File) (a n b m : ℕ) → IsExcess f a n → IsExcess f b m → (a ≡ b) × (n ≡ m)
one_excess f a n b m x y =
    let at = same_point x.handler x.point y.handler y.point (excess_before f a n b m x y) (excess_before f b m a n y x) in
    let place : Some a ≡ Some b = sym x.place ∙ ap (λ (h : ℕ). slice_get (places_at f h) x.point) at.0 ∙ ap (λ (p : ℕ). slice_get (places_at f y.handler) p) at.1 ∙ y.place in
    let moved : IsLaterList (code_at f y.handler) y.point x.list = subst (λ (p : ℕ). IsLaterList (code_at f y.handler) p x.list) at.1 (subst (λ (h : ℕ). IsLaterList (code_at f h) x.point x.list) at.0 x.later) in
    let lists = one_list (code_at f y.handler) y.point x.list y.list moved y.later in
    (cc, x.count_is ∙ ap length lists ∙ sym y.count_is)

pub lists_or_excess : (f : File) (all : List (List (List Symbol))) (a n : ℕ) → AreLater f all → IsExcess f a n → ⊥
lists_or_excess f all a n later x =
    let has = later.each x.handler x.inside in
    not_short (code_at f x.handler) x.point x.list x.later x.many (slice_index_or (slice_index_or all x.handler []) x.point [], has.each x.point x.is_point, has.few x.point x.is_point)

same_lists : (code : Code) (a b : List (List Symbol)) → HasLists code a → HasLists code b → a ≡ b
same_lists code a b x y =
    ext_get_or [] a b (x.count ∙ sym y.count) (λ p lt. let l : p < 1 + points code = omega (arith, x.count, lt) in one_list code p (slice_index_or a p []) (slice_index_or b p []) (x.each p l) (y.each p l))

pub same_later : (f : File) (a b : List (List (List Symbol))) → AreLater f a → AreLater f b → a ≡ b
same_later f a b x y =
    ext_get_or [] a b (x.count ∙ sym y.count) (λ h lt. let l : h < length f.handlers = omega (arith, x.count, lt) in same_lists (code_at f h) (slice_index_or a h []) (slice_index_or b h []) (x.each h l) (y.each h l))

-- ---- the loop over handlers

-- the first point of a handler that has too many symbols is that of the file, where the handlers before it have lists
pub long_found : (f : File) (h : ℕ) (c : CheckedHandler) (e : AnalysisRefusal) (lists : ℕ → List (List Symbol)) → h < length f.handlers → ((source : Handler) → slice_get f.handlers h ≡ Some source → IsResolved (table_names f) source c) → block_code c.body ≡ code_at f h → ((k : ℕ) → k < h → HasLists (code_at f k) (lists k)) → IsTooLong c e → e ≢ NoMemory → IsTooMany f e
long_found f h c NoMemory lists inside resolved body before long some = absurd (some refl)
long_found f h c (TooManySymbols at count) lists inside resolved body before long some =
    let source = stands f.handlers h inside in
    let place = place_is f h source.0 c source.1 (resolved source.0 source.1) body in
    subst (IsExcess f at) (sym long.count_is) (excess_found f h at long.kept long.excess lists inside (subst (λ (z : Code). ArePointLists z long.kept) body long.lists) long.first (subst (λ (z : List ℕ). slice_get z long.excess.point ≡ Some at) place long.place) before)

module _ {X : Type 0} (see : X → List (List Symbol)) (d : X) (f : File) where
  pub more_lists : (items new : List X) (lists : X) (h : ℕ) → length items ≡ h → new ≡ items ++ lists ∷ [] → ((k : ℕ) → k < h → HasLists (code_at f k) (see (get_or items k d))) → HasLists (code_at f h) (see lists) → (k : ℕ) → k < h + 1 → HasLists (code_at f k) (see (get_or new k d))
  more_lists items new lists h len is each here k lt = go (cases_lt k h)
    where
      go : (k < h) ⊎ (h ≤ k) → HasLists (code_at f k) (see (get_or new k d))
      go (inl b) =
          let at : get_or new k d ≡ get_or items k d = ap (λ (z : List X). get_or z k d) is ∙ get_or_append_left items (lists ∷ []) d k (omega arith) in
          subst (λ (z : X). HasLists (code_at f k) (see z)) (sym at) (each k b)
      go (inr b) =
          let e : k ≡ length items = omega arith in
          let at : get_or new k d ≡ lists = ap (λ (z : List X). get_or z k d) is ∙ ap (λ (j : ℕ). get_or (items ++ lists ∷ []) j d) e ∙ get_or-append_seam items lists [] d in
          subst (λ (z : X). HasLists (code_at f k) (see z)) (sym at) (subst (λ (j : ℕ). HasLists (code_at f j) (see lists)) (sym (e ∙ len)) here)

-- the lists of all handlers
pub lists_of_all : (f : File) (all : List (List (List Symbol))) (h : ℕ) → length f.handlers ≤ h → length all ≡ h → h ≤ length f.handlers → ((k : ℕ) → k < h → HasLists (code_at f k) (get_or all k [])) → HasLater f
lists_of_all f all h whole len few each = (all, record { count = omega (arith, len); each = λ k lt. each k (omega arith) })

-- what is kept of all handlers, where no list is too long
pub lists_by_number : (f : File) (items : List (List PointList)) → length items ≡ length f.handlers → ((k : ℕ) → k < length items → HasLists (code_at f k) (by_number (get_or items k []))) → AreLater f (map by_number items)
lists_by_number f items count each = record {
  count = length-map items by_number ∙ count;
  each = λ h lt. subst (HasLists (code_at f h)) (sym (get_or-map by_number items h [])) (each h (omega (arith, count, lt)));
}

-- ---- refusals

pub one_refusal : (f : File) (d e : AnalysisRefusal) → IsTooMany f d → IsTooMany f e → d ≡ e
one_refusal f (TooManySymbols a n) (TooManySymbols b m) x y =
    let same = one_excess f a n b m x y in
    ap (λ (z : ℕ). TooManySymbols z n) same.0 ∙ ap (λ (z : ℕ). TooManySymbols b z) same.1
one_refusal f (TooManySymbols a n) NoMemory x y = absurd y
one_refusal f NoMemory e x y = absurd x

pub apart : (f : File) (all : List (List (List Symbol))) (e : AnalysisRefusal) → AreLater f all → IsTooMany f e → ⊥
apart f all (TooManySymbols a n) later x = lists_or_excess f all a n later x
apart f all NoMemory later x = x
