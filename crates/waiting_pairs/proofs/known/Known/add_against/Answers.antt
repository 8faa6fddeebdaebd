use Rattle.std.proofs.Common.{◌≡◌, List, ◌++◌, map, refl, sym, subst, Global}
use Rattle.std.specs.Prelude.{OnOk, Result, Ok, Err, Vec}
use Rattle.std.specs.List.{All}
use Rattle.waiting_pairs.specs.declared.asked.Asked.{Asked}
use Rattle.waiting_pairs.specs.declared.sought.Sought.{Sought}
use Rattle.waiting_pairs.specs.Chosen.{Chosen, IsKnown}
use Rattle.waiting_pairs.specs.Waits.{Adds, against, wait}
use Rattle.waiting_pairs.proofs.ChosenLists.{adds_list, found_list, inserted_list, known_more}
use Rattle.waiting_pairs.proofs.known.Known.add_against.Goals as goal

on_ok_map : {T E : Type 0} (r : Result T E) (P Q : Type 0) → (P → Q) → OnOk r P → OnOk r Q
on_ok_map (Ok v) P Q f p = f p
on_ok_map (Err e) P Q f p = tt

pub returns-in-Some : goal.returns-in-Some
returns-in-Some c = λ asked k.
    let key : Sought = record { symbol = c.args.symbol.now } in
    let found : Chosen c.args.symbol.now asked c.in-Some.list.now.items = found_list asked key c.in-Some.list.now c.args.self.now.lists.entries k.lists (sym c.in-Some.ensures.value) in
    let list : Chosen c.args.symbol.now asked c.deref.result.now = subst (λ (z : List Asked). Chosen c.args.symbol.now asked z) (sym c.deref.ensures.value) found in
    on_ok_map c.add_list.result
    (c.add_list.new.out.items ≡ c.args.out.now.items ++ map (wait c.args.holder c.args.point c.args.symbol.now) c.deref.result.now)
    (IsKnown asked c.args.self.now × Adds (against c.args.holder c.args.point asked c.args.symbol.now) c.args.out.now.items c.add_list.new.out.items)
    (λ e. (k, adds_list c.args.holder c.args.point c.args.symbol.now asked c.deref.result.now c.args.out.now.items c.add_list.new.out.items list e)) c.add_list.ensures

pub returns-in_ok-insert-in-None : goal.returns-in_ok-insert-in-None
returns-in_ok-insert-in-None c = λ asked k.
    let key : Sought = record { symbol = c.args.symbol.now } in
    let tried : Chosen c.args.symbol.now asked c.in_ok-list-in-None.list.items = c.in_ok-list-in-None.ensures asked k in
    let list : Chosen c.args.symbol.now asked c.deref-in-None.result.now = subst (λ (z : List Asked). Chosen c.args.symbol.now asked z) (sym c.deref-in-None.ensures.value) tried in
    let lists : All (λ e. Chosen e.0.symbol asked e.1.items) c.insert.new.self.entries =
    subst (λ (z : List (Sought × Vec Asked Global)). All (λ e. Chosen e.0.symbol asked e.1.items) z) (sym c.in_ok-insert-in-None.ensures.entries)
    (inserted_list asked key c.in_ok-list-in-None.list c.args.self.now.lists.entries tried k.lists) in (
      known_more asked c.args.self.now _ k refl refl lists,
      adds_list c.args.holder c.args.point c.args.symbol.now asked c.deref-in-None.result.now c.args.out.now.items c.add_list-in-None.new.out.items list c.in_ok-add_list-in-None.ensures,
    )
