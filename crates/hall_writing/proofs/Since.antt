-- What was done with the replies of all tickets that a caller has begun since.
use Rattle.std.proofs.Common.{◌≡◌, ℕ, ◌<◌, Bool, List, [], ◌∷◌, ◌++◌, Option, Some, None, false, true, refl, sym, ◌∙◌, ap, subst}
use Rattle.std.specs.List.{AllByRecursion, FoldsTo}
use Rattle.session_values.specs.declared.reply.Reply.{Reply}
use Rattle.admission_book.specs.Methods.{BookView}
use Rattle.session_hall.specs.declared.holding.Holding.{Holding}
use Rattle.session_hall.specs.Begun.{begun_by}
use Rattle.session_hall.specs.Holdings.{begun_at}
use Rattle.hall_writing.specs.declared.lane.End.{End}
use Rattle.hall_writing.specs.Ends.{state_of}
use Rattle.hall_writing.specs.Lanes.{times}
use Rattle.hall_serving.specs.KeptJobs.{HasGiven, HasSeenAndGiven, tickets_of}
use Rattle.hall_serving.proofs.Running.{given_seen}
use Rattle.reply_sheet.specs.Ready.{ready}
use Rattle.hall_writing.specs.Sheets.{GoesOn, IsKept, Progress, progress}
use Rattle.hall_writing.specs.declared.offering.Offering.{Offering}
use Rattle.hall_writing.specs.declared.writing.Writing.{Writing}
use Rattle.hall_writing.specs.Jobs.{HasKept, HasOffered, Offers}
use Rattle.hall_writing.specs.Steps.{HasOfferedAt, HasSeen, HasWrittenOne}

-- ---- the tickets, by the caller's note, while the book isn't in hand
module _ {S : Type 0} where
  at_note : (h : Holding S) → h.book ≡ None → begun_at h ≡ begun_by h.caller
  at_note h none = let at : Option (BookView S) → Holding S = λ o. record { caller = h.caller; book = o; ends = h.ends; entered = h.entered } in ap (λ o. begun_at (at o)) none

  by_note : (p q : Holding S) (served : List ℕ) → p.book ≡ None → q.book ≡ None → begun_at q ≡ begun_at p ++ served → begun_by q.caller ≡ begun_by p.caller ++ served
  by_note p q served e f more = sym (at_note q f) ∙ more ∙ ap (λ (l : List ℕ). l ++ served) (at_note p e)

-- ---- offered
offers_by : (ts : List (Option ℕ)) (o p : Offering) → FoldsTo HasOfferedAt o ts p → (p.end.ghost_name ≡ o.end.ghost_name) × Offers (tickets_of ts) (state_of o.end.now) (state_of p.end.now)
offers_by [] o p e = (ap (λ (x : Offering). x.end.ghost_name) (sym e), ap (λ (x : Offering). state_of x.end.now) (sym e))
offers_by (Some t ∷ ts) o p f = let n = offers_by ts f.0 p f.2 in (n.0 ∙ f.1.end_still, (state_of f.0.end.now, f.1.reply, f.1.room, f.1.offered, n.1))
offers_by (None ∷ ts) o p f = subst (λ (x : Offering). (p.end.ghost_name ≡ x.end.ghost_name) × Offers (tickets_of ts) (state_of x.end.now) (state_of p.end.now)) f.1 (offers_by ts f.0 p f.2)

-- seeing the book changes nothing
pub has_offered : {S : Type 0} (p q : Holding S) (x y : Offering) → p.book ≡ None → q.book ≡ None → HasSeenAndGiven (λ o known z. z ≡ o) HasOfferedAt p q x y → (y.end.ghost_name ≡ x.end.ghost_name) × HasOffered p.caller q.caller (state_of x.end.now) (state_of y.end.now)
has_offered p q x y e f all =
    let h : HasGiven HasOfferedAt p q x y = given_seen (λ o known z. z ≡ o) HasOfferedAt (λ o via z known t same step. subst (λ (w : Offering). HasOfferedAt w t z) same step) p q x y all in
    let n = offers_by h.steps x y h.given in
    (n.0, record { served = tickets_of h.steps; begun_more = by_note p q (tickets_of h.steps) e f h.begun_more; offers = n.1 })

-- ---- what was seen
on_from : (replies : List Reply) (names : List (List ℕ)) (q : Progress) (a b : Option (List ℕ)) (i j n m : ℕ) (f g : Bool) → a ≡ b → i ≡ j → n ≡ m → f ≡ g → GoesOn replies names (record { held = a; faults = i; next = n; failed = f }) q → GoesOn replies names (record { held = b; faults = j; next = m; failed = g }) q
on_from replies names q a b i j n m f g ab ij nm fg on =
    let A : Option (List ℕ) → Type 0 = λ z. GoesOn replies names (record { held = z; faults = i; next = n; failed = f }) q in
    let I : ℕ → Type 0 = λ z. GoesOn replies names (record { held = b; faults = z; next = n; failed = f }) q in
    let N : ℕ → Type 0 = λ z. GoesOn replies names (record { held = b; faults = j; next = z; failed = f }) q in
    let F : Bool → Type 0 = λ z. GoesOn replies names (record { held = b; faults = j; next = m; failed = z }) q in
    subst F fg (subst N nm (subst I ij (subst A ab on)))

-- what is written after the book was seen is written since before it was seen
sees_then : {O : Type 0} (held : O → Option (List ℕ)) (faults : O → ℕ) (w via x : Writing O) (known : ℕ → Option Reply) (t : Option ℕ) → HasSeen w known via → HasWrittenOne held faults via t x → HasWrittenOne held faults w t x
sees_then held faults w via x known t h s = record {
  end_still = s.end_still ∙ h.end_still;
  sheet_still = s.sheet_still ∙ h.sheet_still;
  out_still = s.out_still ∙ h.out_still;
  names_still = s.names_still ∙ h.names_still;
  known_still = s.known_still ∙ ap (λ (e : End). (state_of e).known) h.end_now;
  alone_still = s.alone_still ∙ h.alone_still;
  own = s.own;
  taken = λ u more. s.taken u (subst (λ (e : End). times u (state_of e).taken < times u (state_of x.end.now).taken) (sym h.end_now) more);
  empty = λ two. s.empty (h.alone_still ∙ two);
  still = λ u k. s.still u (h.still u k);
  stops = s.stops;
  failed = λ f. s.failed (h.failed_still ∙ f);
  quiet = λ f. s.quiet (h.failed_still ∙ f) ∙ h.out_now;
  on =
      let q = progress (held x.out.now) (faults x.out.now) x.sheet.now in
      let p = progress (held via.out.now) (faults via.out.now) via.sheet.now in
      let one : GoesOn (state_of w.end.now).known w.names.now p q =
      subst (λ (rs : List Reply). GoesOn rs w.names.now p q) (ap (λ (e : End). (state_of e).known) h.end_now) (subst (λ (ns : List (List ℕ)). GoesOn (state_of via.end.now).known ns p q) h.names_still s.on) in
      on_from (state_of w.end.now).known w.names.now q (held via.out.now) (held w.out.now) (faults via.out.now) (faults w.out.now) via.sheet.now.pending.next w.sheet.now.pending.next via.sheet.now.failed w.sheet.now.failed
      (ap held h.out_now) (ap faults h.out_now) h.next_still h.failed_still one;
}

-- ---- kept or written
module _ {O : Type 0} (held : O → Option (List ℕ)) (faults : O → ℕ) where
  pub record HasWritten (w : Writing O) (ts : List (Option ℕ)) (x : Writing O) : Type 0 where
    pub end_still : x.end.ghost_name ≡ w.end.ghost_name
    pub sheet_still : x.sheet.ghost_name ≡ w.sheet.ghost_name
    pub out_still : x.out.ghost_name ≡ w.out.ghost_name
    pub kept : AllByRecursion (IsKept x.sheet.now.pending) (tickets_of ts)
    pub still : (u : ℕ) → IsKept w.sheet.now.pending u → IsKept x.sheet.now.pending u
    pub stops : (w.sheet.now.failed ≡ false → ready w.sheet.now.pending ≡ []) → x.sheet.now.failed ≡ false → ready x.sheet.now.pending ≡ []
    pub quiet : w.sheet.now.failed ≡ true → x.out.now ≡ w.out.now
    pub on : (replies : List Reply) (names : List (List ℕ)) → (state_of w.end.now).known ≡ replies → w.names.now ≡ names → GoesOn replies names (progress (held w.out.now) (faults w.out.now) w.sheet.now) (progress (held x.out.now) (faults x.out.now) x.sheet.now)

  -- what is kept of the rest stays so, and the ticket of the first step is kept too
  kept_by : (o : Option ℕ) (ts : List (Option ℕ)) (w x : Writing O) → ((u : ℕ) → o ≡ Some u → IsKept w.sheet.now.pending u) → ((u : ℕ) → IsKept w.sheet.now.pending u → IsKept x.sheet.now.pending u) → AllByRecursion (IsKept x.sheet.now.pending) (tickets_of ts)
      → AllByRecursion (IsKept x.sheet.now.pending) (tickets_of (o ∷ ts))
  kept_by (Some t) ts w x own still rest = (still t (own t refl), rest)
  kept_by None ts w x own still rest = rest

  writes_by : (ts : List (Option ℕ)) (w x : Writing O) → FoldsTo (HasWrittenOne held faults) w ts x → HasWritten w ts x
  writes_by [] w x e = subst (HasWritten w []) e (record {
    end_still = refl;
    sheet_still = refl;
    out_still = refl;
    kept = tt;
    still = λ u k. k;
    stops = λ h. h;
    quiet = λ h. refl;
    on = λ replies names known same. record { on = λ first first_faults v. v };
  })
  writes_by (t ∷ ts) w x f =
      let s = f.1 in
      let n = writes_by ts f.0 x f.2 in
      record {
        end_still = n.end_still ∙ s.end_still;
        sheet_still = n.sheet_still ∙ s.sheet_still;
        out_still = n.out_still ∙ s.out_still;
        kept = kept_by t ts f.0 x s.own n.still n.kept;
        still = λ u k. n.still u (s.still u k);
        stops = λ h. n.stops s.stops;
        quiet = λ h. n.quiet (s.failed h) ∙ s.quiet h;
        on = λ replies names known same.
            let p = progress (held w.out.now) (faults w.out.now) w.sheet.now in
            let q = progress (held f.0.out.now) (faults f.0.out.now) f.0.sheet.now in
            let one : GoesOn replies names p q = subst (λ (rs : List Reply). GoesOn rs names p q) known (subst (λ (ns : List (List ℕ)). GoesOn (state_of w.end.now).known ns p q) same s.on) in
            let rest = n.on replies names (s.known_still ∙ known) (s.names_still ∙ same) in
            record { on = λ first first_faults v. rest.on first first_faults (one.on first first_faults v) };
      }

  pub has_written : {S : Type 0} (p q : Holding S) (x y : Writing O) → p.book ≡ None → q.book ≡ None → HasSeenAndGiven HasSeen (HasWrittenOne held faults) p q x y → (ts : List (Option ℕ)) × HasWritten x ts y × HasKept p.caller q.caller y.sheet.now.pending
  has_written p q x y e f all =
      let h : HasGiven (HasWrittenOne held faults) p q x y = given_seen HasSeen (HasWrittenOne held faults) (sees_then held faults) p q x y all in
      let n = writes_by h.steps x y h.given in
      (h.steps, n, record { served = tickets_of h.steps; begun_more = by_note p q (tickets_of h.steps) e f h.begun_more; kept = n.kept })
