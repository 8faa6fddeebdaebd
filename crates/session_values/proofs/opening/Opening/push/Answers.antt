use Rattle.std.proofs.Common.{◌≡◌, ◌+◌, ap, ◌∙◌, List, [], ◌∷◌, ◌++◌, sym, subst, false, slice_set}
use Rattle.session_values.specs.Opening.{Pair, AreKept, count_all, entries_of, has_key, with_entry}
use Rattle.session_values.proofs.KeptLemmas.{count_with, entries_here, kept_with}
use Rattle.session_values.proofs.opening.Opening.push.Goals as goal

pub push-requires : goal.push-requires
push-requires c =
    let at = entries_here c.self.inside.tables.items c.args.self.now c.args.table c.index_mut.result.now c.self.view_is c.requires.table c.index_mut.ensures.value in
    subst (λ (es : List Pair). has_key es c.args.key ≡ false) (sym at) c.requires.key

pub returns-clause-pushed : goal.returns-clause-pushed
returns-clause-pushed c =
    let at = entries_here c.self.inside.tables.items c.args.self.now c.args.table c.index_mut.result.now c.self.view_is c.requires.table c.index_mut.ensures.value in
    ap (λ (es : List Pair). slice_set c.self.inside.tables.items c.args.table es) (c.in_ok-push.ensures.pushed ∙ ap (λ (es : List Pair). es ++ (c.args.key, c.args.value) ∷ []) at)
    ∙ ap (λ (lists : List (List Pair)). slice_set lists c.args.table (entries_of c.args.self.now c.args.table ++ (c.args.key, c.args.value) ∷ [])) c.self.view_is

pub invariant_of-self-2 : goal.invariant_of-self-2
invariant_of-self-2 c =
    let e : Pair = (c.args.key, c.args.value) in
    let kept : AreKept c.args.self.now = subst AreKept c.self.view_is c.self.invariant.0 in
    let new : AreKept (with_entry c.args.self.now c.args.table e) = kept_with c.args.self.now c.args.table e kept c.requires.table c.requires.key (c.bounds.ensures, c.bounds-2.ensures) c.requires.few in (
      subst AreKept (sym (returns-clause-pushed c)) new,
      ap (λ n. n + 1) (c.self.invariant.1 ∙ ap count_all c.self.view_is) ∙ sym (count_with c.args.self.now c.args.table e c.requires.table) ∙ ap count_all (sym (returns-clause-pushed c)),
    )
