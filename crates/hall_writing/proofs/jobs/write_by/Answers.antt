use Rattle.std.proofs.Common.{rules, sym, refl}
use Rattle.hall_writing.proofs.Since.{has_written}
use Rattle.hall_writing.proofs.jobs.write_by.Goals as goal

pub shape_of-first : goal.shape_of-first
shape_of-first g c = sym (has_written g.O.Sink.held g.O.Sink.faults _ _ _ _ c.requires.job.unkept c.serve_tickets.ensures.unkept c.serve_tickets.ensures.given).1.end_still

pub shape_of-first-2 : goal.shape_of-first-2
shape_of-first-2 g c = sym (has_written g.O.Sink.held g.O.Sink.faults _ _ _ _ c.requires.job.unkept c.serve_tickets.ensures.unkept c.serve_tickets.ensures.given).1.sheet_still

pub returns-clause-kept : goal.returns-clause-kept
returns-clause-kept g c =
    let all = has_written g.O.Sink.held g.O.Sink.faults _ _ _ _ c.requires.job.unkept c.serve_tickets.ensures.unkept c.serve_tickets.ensures.given in
    let sheet = all.1.sheet_still in
    let kept = all.2 in
    search rules

pub returns-clause-stops : goal.returns-clause-stops
returns-clause-stops g c =
    let all = has_written g.O.Sink.held g.O.Sink.faults _ _ _ _ c.requires.job.unkept c.serve_tickets.ensures.unkept c.serve_tickets.ensures.given in
    let sheet = all.1.sheet_still in
    let stops = all.1.stops in
    search rules

pub returns-clause-quiet : goal.returns-clause-quiet
returns-clause-quiet g c =
    let all = has_written g.O.Sink.held g.O.Sink.faults _ _ _ _ c.requires.job.unkept c.serve_tickets.ensures.unkept c.serve_tickets.ensures.given in
    let out = all.1.out_still in
    let quiet = all.1.quiet in
    search rules

pub returns-clause-on : goal.returns-clause-on
returns-clause-on g c =
    let all = has_written g.O.Sink.held g.O.Sink.faults _ _ _ _ c.requires.job.unkept c.serve_tickets.ensures.unkept c.serve_tickets.ensures.given in
    let sheet = all.1.sheet_still in
    let out = all.1.out_still in
    let on = all.1.on _ _ c.requires.job.end.2 refl in
    search rules
