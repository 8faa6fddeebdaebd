use Rattle.std.proofs.Common.{◌≡◌, List, ℕ, refl, rules, subst}
use Rattle.foresight_c.specs.Fronts.{put_at_front}
use Rattle.foresight_c.proofs.Filling.{put_end, put_start}
use Rattle.byte_ends.proofs.Paged.{ended}
use Rattle.foresight_c.proofs.text_rooms.put_text_front.Goals as goal

pub returns-clause-count : goal.returns-clause-count
returns-clause-count g c =
    let whole = g.P.PutsText.text c.args.text.now in
    let due = ended c.put_text.ensures (refl, put_start c.args.room.now whole) in
    (put_end c.args.room.now c.put_text.new.out.room.now c.put_text.new.out.at whole due.1).0

pub returns-clause-room : goal.returns-clause-room
returns-clause-room g c =
    let whole = g.P.PutsText.text c.args.text.now in
    let due = ended c.put_text.ensures (refl, put_start c.args.room.now whole) in
    let name = due.0 in
    let is = (put_end c.args.room.now c.put_text.new.out.room.now c.put_text.new.out.at whole due.1).1 in
    subst (λ (xs : List ℕ). xs ≡ put_at_front c.args.room.now whole) (search rules) is
