-- What names a hall: a list of numbers.
use Rattle.std.specs.Prelude.{ℕ, List, [], ◌∷◌}
use Rattle.turn_board.specs.Seated.{TableId}
use Rattle.turn_board.specs.Passes as passes
use Rattle.session_hall.specs.declared.hall.Hall.{Hall}

-- how many callers it has, how many tables, how many shards each of these, and the board on which
-- they lie
pub record HallId : Type 0 where
  pub callers : ℕ
  pub tables : ℕ
  pub shards : ℕ
  pub board : TableId

abbrev pub hall_id : {S : Type 0} → Hall S → HallId
hall_id h = record {
  callers = h.sizes.callers;
  tables = h.sizes.tables;
  shards = h.sizes.shards;
  board = passes.id_of h.board.words;
}

-- the same as a list of numbers
abbrev pub numbers_of : HallId → List ℕ
numbers_of p = p.callers ∷ p.tables ∷ p.shards ∷ p.board.words ∷ p.board.slots ∷ p.board.views_name
    ∷ p.board.atom ∷ p.board.block ∷ p.board.offset ∷ p.board.slot_names

-- what such a list names. Others name nothing that there is
abbrev pub id_of : List ℕ → HallId
id_of (c ∷ t ∷ n ∷ words ∷ slots ∷ views ∷ atom ∷ block ∷ offset ∷ names) = record {
  callers = c;
  tables = t;
  shards = n;
  board = record {
    words = words;
    slots = slots;
    views_name = views;
    atom = atom;
    block = block;
    offset = offset;
    slot_names = names;
  };
}
id_of _ = record {
  callers = 0;
  tables = 0;
  shards = 0;
  board = record {
    words = 0;
    slots = 0;
    views_name = 0;
    atom = 0;
    block = 0;
    offset = 0;
    slot_names = [];
  };
}

-- the hall's name
abbrev pub hall_name : {S : Type 0} → Hall S → List ℕ
hall_name h = numbers_of (hall_id h)

-- the script that the hall was opened with
abbrev pub script_of : {S : Type 0} → Hall S → S
script_of h = h.script.value
