use Rattle.std.proofs.Common.{◌∙◌, ap, length, refl}
use Rattle.session_values.specs.Tables.{Tables}
use Rattle.trace_audit.specs.Judging.{front_of, opened}
use Rattle.trace_audit.proofs.Judged.{against_from, against_within, all_from, front_opened, judging_starts, trace_map}
use Rattle.trace_audit.proofs.judge.judge_trace.Goals as goal

pub first_against-requires : goal.first_against-requires
first_against-requires c =
    let n = length c.args.replays.now in
    judging_starts c.args.again.now c.args.events.now c.args.replays.now n _ c.requires.run refl (c.in_ok-front.ensures ∙ ap (λ (ts : Tables). opened ts n) c.requires.tables)

pub judge_event-requires-clause-at : goal.judge_event-requires-clause-at
judge_event-requires-clause-at c =
    let m = c.requires.run.meaning in
    let n = length c.args.replays.now in
    let k = front_opened m c.args.again.now c.args.events.now c.args.replays.now n (front_of c.in_ok-front.front) c.requires.run.opening c.requires.run.run refl (c.in_ok-front.ensures ∙ ap (λ (ts : Tables). opened ts n) c.requires.tables) in
    against_within m c.args.events.now c.in-Some.at (against_from m c.args.replays.now c.args.events.now (front_of c.in_ok-front.front) _ _ c.in-Some.at c.in_ok-at.ensures c.in-Some.is c.requires.run.run k)

pub returns-in-Some : goal.returns-in-Some
returns-in-Some c = λ m opens w.
    let n = length c.args.replays.now in
    let k = front_opened m c.args.again.now c.args.events.now c.args.replays.now n (front_of c.in_ok-front.front) opens w refl (c.in_ok-front.ensures ∙ ap (λ (ts : Tables). opened ts n) c.requires.tables) in
    c.judge_event.ensures m (against_from m c.args.replays.now c.args.events.now (front_of c.in_ok-front.front) _ _ c.in-Some.at c.in_ok-at.ensures c.in-Some.is w k)

pub judge_whole-requires : goal.judge_whole-requires
judge_whole-requires c =
    let m = c.requires.run.meaning in
    let n = length c.args.replays.now in
    let k = front_opened m c.args.again.now c.args.events.now c.args.replays.now n (front_of c.in_ok-front.front) c.requires.run.opening c.requires.run.run refl (c.in_ok-front.ensures ∙ ap (λ (ts : Tables). opened ts n) c.requires.tables) in
    record {
      meaning = m;
      events = c.args.events.now;
      opening = c.requires.run.opening;
      run = c.requires.run.run;
      kept = all_from m c.args.replays.now c.args.events.now (front_of c.in_ok-front.front) _ _ c.in_ok-at.ensures c.in-None.is c.requires.run.run k;
    }

pub returns : goal.returns
returns c =
    let n = length c.args.replays.now in
    trace_map c.args.again.now c.args.replays.now c.args.events.now (front_of c.in_ok-front.front) _ _ c.judge_whole.result (c.in_ok-front.ensures ∙ ap (λ (ts : Tables). opened ts n) c.requires.tables) c.in_ok-at.ensures c.in-None.is c.judge_whole.ensures
