use Rattle.std.proofs.Common.{◌++◌, [], ◌∷◌, List, ℕ, append_assoc, refl, sym, ap, ◌∙◌, rules}
use Rattle.std.proofs.lemmas.Result.{err_from_is_err_and}
use Rattle.syntax_trees.specs.Marks.{declared, marks}
use Rattle.syntax_trees.specs.Source.{Finish, block_source, stmt_source}
use Rattle.handler_check.specs.Shown.{shown}
use Rattle.handler_check.proofs.Scans.{goes_on, stops, exits, later}
use Rattle.syntax_trees.proofs.Sizes.{member_smaller}
use Rattle.handler_check.proofs.Walks.{always, block_turn, block_step, choose_parts, declares_let, declares_assign, declares_call, declares_choose, declares_repeat, declares_reply, kept_names, names_then, repeat_parts}
use Rattle.handler_check.proofs.faults.stmt.+statement.Goals as goal

pub find_in_block-find_in_stmt-requires : goal.find_in_block-find_in_stmt-requires
find_in_block-find_in_stmt-requires t c =
    let smaller = member_smaller _ _ _ _ c.loop-s-test.true c.s-item.is in
    search rules

pub find_in_block-returns-in_err-find_in_stmt-clause-found : goal.find_in_block-returns-in_err-find_in_stmt-clause-found
find_in_block-returns-in_err-find_in_stmt-clause-found t c =
    let x = c.s-item.result in
    let turn = block_turn c.args.tables.now c.args.block.now c.loop-s.s-index x x c.loop-s.names.items c.loop-s.visible.items c.loop-s-test.true c.s-item.is in
    let p = err_from_is_err_and c.from_residual.result c.from_residual.ensures.1 in
    exits _ _ _ _ p.1 p.2 (stops _ _ _ _ (c.loop-s.invariant.found ∙ turn) c.in_err-find_in_stmt.ensures.found)

pub find_in_block-loop-s-preserved : goal.find_in_block-loop-s-preserved
find_in_block-loop-s-preserved t c =
    let x = c.s-item.result in
    let done = c.in_ok-find_in_stmt.ensures in
    let step = block_step c.args.tables.now c.args.block.now c.loop-s.s-index x x c.loop-s.names.items c.loop-s.visible.items c.find_in_stmt.new.names.items c.find_in_stmt.new.visible.items c.loop-s-test.true c.s-item.is done.names done.visible in
    let more = c.loop-s.invariant.visible in
    record {
      found = later _ _ _ (c.loop-s.invariant.found ∙ step.0) done.found;
      names = c.loop-s.invariant.names ∙ step.1;
      visible = (more.0 ++ shown x, done.visible ∙ ap (λ (v : List ℕ). v ++ shown x) more.1 ∙ append_assoc _ more.0 (shown x));
    }

pub find_in_stmt-returns-in_err-find_in_cond-in-Choose-clause-found : goal.find_in_stmt-returns-in_err-find_in_cond-in-Choose-clause-found
find_in_stmt-returns-in_err-find_in_cond-in-Choose-clause-found t c =
    let b = c.in-Choose in
    let earlier = c.args.names.now.items in
    let visible = c.args.visible.now.items in
    let parts = choose_parts c.args.tables.now c.args.s.now _ b.cond b.yes b.no b.yes b.no earlier (earlier ++ declared (marks (block_source b.yes))) visible visible b.is refl refl refl refl in
    let p = err_from_is_err_and c.from_residual-in_err-find_in_cond-in-Choose.result c.from_residual-in_err-find_in_cond-in-Choose.ensures.1 in
    let found = c.in_err-find_in_cond-in-Choose.ensures c.args.tables.now earlier in
    exits _ _ _ _ p.1 p.2 (stops _ _ _ _ parts (rw (c.deref-in-Choose.ensures.value, c.get.ensures) at found))

pub find_in_stmt-returns-in_err-find_in_block-in-Choose-clause-found : goal.find_in_stmt-returns-in_err-find_in_block-in-Choose-clause-found
find_in_stmt-returns-in_err-find_in_block-in-Choose-clause-found t c =
    let b = c.in-Choose in
    let earlier = c.args.names.now.items in
    let visible = c.args.visible.now.items in
    let parts = choose_parts c.args.tables.now c.args.s.now _ b.cond b.yes b.no c.as_slice.result.now b.no earlier (earlier ++ declared (marks (block_source c.as_slice.result.now))) visible visible b.is c.as_slice.ensures refl refl refl in
    let p = err_from_is_err_and c.from_residual-in_err-find_in_block-in-Choose.result c.from_residual-in_err-find_in_block-in-Choose.ensures.1 in
    let first = c.in_ok-find_in_cond-in-Choose.ensures c.args.tables.now earlier in
    exits _ _ _ _ p.1 p.2 (stops _ _ _ _ (later _ _ _ parts (rw (c.deref-in-Choose.ensures.value, c.get.ensures) at first)) c.in_err-find_in_block-in-Choose.ensures.found)

pub find_in_stmt-returns-in_ok-push-in-Let-clause-names : goal.find_in_stmt-returns-in_ok-push-in-Let-clause-names
find_in_stmt-returns-in_ok-push-in-Let-clause-names t c =
    c.in_ok-declare_variable-in-Let.ensures.names ∙ ap (λ (x : List ℕ). c.args.names.now.items ++ x) (sym (declares_let _ _ _ _ c.in-Let.is))

pub find_in_stmt-returns-in_ok-see-in-Assign-clause-names : goal.find_in_stmt-returns-in_ok-see-in-Assign-clause-names
find_in_stmt-returns-in_ok-see-in-Assign-clause-names t c = always _ _ (kept_names _ _ (declares_assign _ _ _ _ c.in-Assign.is))

pub find_in_stmt-returns-in-Perform-clause-names : goal.find_in_stmt-returns-in-Perform-clause-names
find_in_stmt-returns-in-Perform-clause-names t c = always _ _ (kept_names _ _ (declares_call _ _ c.in-Perform.is))

pub find_in_stmt-returns-in_ok-find_in_block-in-Choose-clause-found : goal.find_in_stmt-returns-in_ok-find_in_block-in-Choose-clause-found
find_in_stmt-returns-in_ok-find_in_block-in-Choose-clause-found t c =
    let b = c.in-Choose in
    let earlier = c.args.names.now.items in
    let visible = c.args.visible.now.items in
    let done = c.in_ok-find_in_block-in-Choose.ensures in
    let parts = choose_parts c.args.tables.now c.args.s.now _ b.cond b.yes b.no c.as_slice.result.now c.as_slice-in-Choose.result.now earlier c.find_in_block.new.names.items visible c.find_in_block.new.visible.items b.is c.as_slice.ensures c.as_slice-in-Choose.ensures done.names done.visible in
    let first = c.in_ok-find_in_cond-in-Choose.ensures c.args.tables.now earlier in
    goes_on _ _ _ _ (later _ _ _ parts (rw (c.deref-in-Choose.ensures.value, c.get.ensures) at first)) done.found c.find_in_block-in-Choose.ensures.found

pub find_in_stmt-returns-in_ok-find_in_block-in-Choose-clause-names : goal.find_in_stmt-returns-in_ok-find_in_block-in-Choose-clause-names
find_in_stmt-returns-in_ok-find_in_block-in-Choose-clause-names t c =
    let own = declares_choose _ _ _ _ _ _ _ c.in-Choose.is c.as_slice.ensures c.as_slice-in-Choose.ensures in
    names_then c.find_in_block-in-Choose.result c.args.names.now.items c.find_in_block.new.names.items c.find_in_block-in-Choose.new.names.items (declared (marks (block_source c.as_slice.result.now))) (declared (marks (block_source c.as_slice-in-Choose.result.now)))
    (declared (marks (stmt_source c.args.s.now Finish))) c.in_ok-find_in_block-in-Choose.ensures.names own c.find_in_block-in-Choose.ensures.names

pub find_in_stmt-returns-in_ok-declare_variable-in-Repeat-clause-found : goal.find_in_stmt-returns-in_ok-declare_variable-in-Repeat-clause-found
find_in_stmt-returns-in_ok-declare_variable-in-Repeat-clause-found t c =
    let done = c.in_ok-declare_variable-in-Repeat.ensures in
    let parts = repeat_parts c.args.tables.now c.args.s.now _ _ _ _ _ _ _ c.args.names.now.items _ c.args.visible.now.items c.in-Repeat.is c.as_slice-in-Repeat.ensures done.names in
    goes_on _ _ _ _ (later _ _ _ parts c.in_ok-count_turns-in-Repeat.ensures) done.found c.find_in_body.ensures.found

pub find_in_stmt-returns-in_ok-declare_variable-in-Repeat-clause-names : goal.find_in_stmt-returns-in_ok-declare_variable-in-Repeat-clause-names
find_in_stmt-returns-in_ok-declare_variable-in-Repeat-clause-names t c =
    let own = declares_repeat _ _ _ _ _ _ _ _ c.in-Repeat.is c.as_slice-in-Repeat.ensures in
    names_then c.find_in_body.result c.args.names.now.items c.declare_variable-in-Repeat.new.earlier.items c.find_in_body.new.names.items (c.in-Repeat.name ∷ []) (declared (marks (block_source c.as_slice-in-Repeat.result.now)))
    (declared (marks (stmt_source c.args.s.now Finish))) c.in_ok-declare_variable-in-Repeat.ensures.names own c.find_in_body.ensures.names

pub find_in_stmt-returns-in-Answer-clause-names : goal.find_in_stmt-returns-in-Answer-clause-names
find_in_stmt-returns-in-Answer-clause-names t c = always _ _ (kept_names _ _ (declares_reply _ _ _ c.in-Answer.is))
