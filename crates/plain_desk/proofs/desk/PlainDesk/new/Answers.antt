use Rattle.std.proofs.Common.{rules, map, None, true, ap, ◌∙◌}
use Rattle.session_values.specs.Tables.{kind_of}
use Rattle.session_journal.proofs.Openings.{opening_kinds}
use Rattle.plain_desk.proofs.Filling.{first_tables}
use Rattle.plain_desk.proofs.desk.PlainDesk.new.Goals as goal

pub invariant_of-result : goal.invariant_of-result
invariant_of-result g c =
    record {
      script = c.requests-ticket.ensures.lawful;
      kinds = ap (map kind_of) (c.in_ok-fill_tables.ensures ∙ c.requests-ticket.ensures.lawful.opening) ∙ opening_kinds _ _;
      count = search rules;
      serial = search rules;
      is_open = search rules;
      idle = λ e. record { waiting = search rules; kept = first_tables (g.S.Script.meaning c.args.script) c.requests-ticket.result c.new-2.result.items c.in_ok-present.present.symbols None true c.fill_tables.new.tables c.requests-ticket.ensures.requests c.in_ok-fill_tables.ensures; stopped = search rules };
      within = search rules;
      room = search rules;
      symbols = search rules;
      replies = search rules;
    }
