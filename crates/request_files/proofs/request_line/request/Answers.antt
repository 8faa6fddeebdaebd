use Rattle.std.proofs.Common.{◌≡◌, ◌≢◌, ◌==◌, ◌+◌, ◌++◌, true, refl, subst, length-append, false, cond, Some, length, sym, ap, ◌∙◌, arith}
use Rattle.handler_check.specs.Resolved.{params_at}
use Rattle.std.specs.List.{list_all}
use Rattle.text_lines.specs.Text.{words}
use Rattle.text_lines.specs.Values.{is_value, values_of}
use Rattle.request_files.specs.declared.refusal.RequestRefusal.{RequestRefusal}
use Rattle.request_files.specs.declared.refusal.RequestRefusal.TheVariants.{Arity, BadWord}
use Rattle.request_files.specs.Requests as spec
use Rattle.text_lines.specs.Rows.{row_of}
use Rattle.request_files.specs.declared.tally.Tally.{Tally}
use Rattle.request_files.proofs.FaultLemmas.{told, values_long, fault_many, fault_unknown, fault_arity, fault_bad, fault_sums, accepted}
use Rattle.request_files.proofs.EntryLemmas.{request_behind}
use Rattle.text_lines.proofs.PrintableLemmas.{values_held}
use Rattle.request_files.proofs.request_line.request.Goals as goal

pub returns-then-tally-ge-MAX_REQUESTS-clause-refused : goal.returns-then-tally-ge-MAX_REQUESTS-clause-refused
returns-then-tally-ge-MAX_REQUESTS-clause-refused c =
    told _ _ (fault_many c.args.names.now c.args.checked.now c.args.tally (row_of c.args.row.line c.args.row.name.now (words c.args.row.words.rest.now)) (omega arith))

pub returns-in_default-clause-refused : goal.returns-in_default-clause-refused
returns-in_default-clause-refused c =
    told _ _ (fault_unknown c.args.names.now c.args.checked.now c.args.tally (row_of c.args.row.line c.args.row.name.now (words c.args.row.words.rest.now)) (omega arith) c.in_default.ensures)

pub returns-then-not-fine-clause-refused : goal.returns-then-not-fine-clause-refused
returns-then-not-fine-clause-refused c =
    let row = row_of c.args.row.line c.args.row.name.now (words c.args.row.words.rest.now) in
    let params = c.handler-2.ensures.params in
    let bad : list_all is_value row.args ≡ false = sym c.in-Ok.ensures.tests ∙ c.if-not-fine.true in
    told _ _ (fault_bad c.args.names.now c.args.checked.now c.args.tally row c.in-Some.number c.in-Some.ensures.0 (omega arith) c.in-Some.ensures.1 bad
    ∙ ap (λ n. Some (cond (n == length row.args) (BadWord c.args.row.line) (Arity c.args.row.line))) (sym params) ∙ ap (λ (x : RequestRefusal). Some x) (sym c.bad_word.ensures))

pub returns-then-len-first-clause-refused : goal.returns-then-len-first-clause-refused
returns-then-len-first-clause-refused c =
    let row = row_of c.args.row.line c.args.row.name.now (words c.args.row.words.rest.now) in
    let f = c.args.checked.now in
    let params = c.handler-2.ensures.params in
    let new = c.values.new.names in
    let fine : list_all is_value row.args ≡ true = sym c.in-Ok.ensures.tests ∙ c.if-not-fine.false in
    let list : c.values.new.list.items ≡ c.args.list.now.items ++ values_of new row.args = c.in-Ok.ensures.values c.if-not-fine.false in
    let long : length c.values.new.list.items ≡ length c.args.list.now.items + length (values_of new row.args) = ap length list ∙ length-append c.args.list.now.items (values_of new row.args) in
    let words_long = values_long new row.args in
    let other : params_at f c.in-Some.number ≢ length row.args = λ e. omega (arith, e, params, long, words_long, c.len.ensures, c.len-first.ensures, c.if-len-first.true, c.values.new.list.ok, c.args.list.now.ok) in
    told _ _ (fault_arity c.args.names.now f c.args.tally row c.in-Some.number c.in-Some.ensures.0 (omega arith) c.in-Some.ensures.1 other)

pub returns-in-Err-clause-refused : goal.returns-in-Err-clause-refused
returns-in-Err-clause-refused c =
    let row = row_of c.args.row.line c.args.row.name.now (words c.args.row.words.rest.now) in
    let f = c.args.checked.now in
    let params = c.handler-2.ensures.params in
    let new = c.values.new.names in
    let fine : list_all is_value row.args ≡ true = sym c.in-Ok.ensures.tests ∙ c.if-not-fine.false in
    let list : c.values.new.list.items ≡ c.args.list.now.items ++ values_of new row.args = c.in-Ok.ensures.values c.if-not-fine.false in
    let long : length c.values.new.list.items ≡ length c.args.list.now.items + length (values_of new row.args) = ap length list ∙ length-append c.args.list.now.items (values_of new row.args) in
    let words_long = values_long new row.args in
    let same : params_at f c.in-Some.number ≡ length row.args = omega (arith, params, long, words_long, c.len.ensures, c.len-first.ensures, c.if-len-first.false, c.values.new.list.ok, c.args.list.now.ok) in
    told _ _ (fault_sums c.args.names.now f c.args.tally row c.in-Some.number c.in-Some.ensures.0 (omega arith) c.in-Some.ensures.1 same fine
    ∙ ap (λ (x : Tally). spec.sum_fault x c.args.row.line) (sym c.with_request-next.ensures) ∙ c.in-Err.ensures)

pub returns-in-Ok-look_at_sums-clause-ok : goal.returns-in-Ok-look_at_sums-clause-ok
returns-in-Ok-look_at_sums-clause-ok c =
    let row = row_of c.args.row.line c.args.row.name.now (words c.args.row.words.rest.now) in
    let f = c.args.checked.now in
    let params = c.handler-2.ensures.params in
    let new = c.values.new.names in
    let fine : list_all is_value row.args ≡ true = sym c.in-Ok.ensures.tests ∙ c.if-not-fine.false in
    let list : c.values.new.list.items ≡ c.args.list.now.items ++ values_of new row.args = c.in-Ok.ensures.values c.if-not-fine.false in
    let long : length c.values.new.list.items ≡ length c.args.list.now.items + length (values_of new row.args) = ap length list ∙ length-append c.args.list.now.items (values_of new row.args) in
    let words_long = values_long new row.args in
    let same : params_at f c.in-Some.number ≡ length row.args = omega (arith, params, long, words_long, c.len.ensures, c.len-first.ensures, c.if-len-first.false, c.values.new.list.ok, c.args.list.now.ok) in
    let names = c.in-Ok.ensures.names c.if-not-fine.false in
    let room = c.values.ensures.room in
    let made = request_behind c.args.list.now.items c.values.new.list.items (values_of new row.args) c.in-Some.number c.handler-2.result.now.params c.len-first.result list (omega (arith, c.len-first.ensures, c.args.list.now.ok)) (omega (arith, params, same, words_long)) in
    subst (λ r. spec.Accepted c.args.names.now new f c.args.tally row r c.with_request-next.result) (sym made)
    (accepted c.args.names.now new f c.args.tally c.with_request-next.result row c.in-Some.number (values_of new row.args)
    c.in-Some.ensures.0 c.in-Some.ensures.1 (omega arith) same (fine, refl) (values_held c.args.names.now row.args new names (omega (arith, room, c.requires.room))) names c.with_request-next.ensures c.in-Ok-look_at_sums.ensures)
