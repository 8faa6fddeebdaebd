use Rattle.foresight_c.proofs.Filling.{put_next, put_past}
use Rattle.foresight_c.proofs.text_rooms.RoomWriterTextSink.put.Goals as goal

pub returns-then-self : goal.returns-then-self
returns-then-self c = record {
  before = λ start whole rest d. (d.0, put_next start.room.now c.args.self.now.room.now c.args.self.now.at whole rest c.args.text.now d.1 c.put_front.new.room c.as_bytes.result.now c.put_front.result c.if-self.true c.as_bytes.ensures.value c.put_front.ensures.count c.put_front.ensures.room);
}

pub returns-else-self : goal.returns-else-self
returns-else-self c = record {
  before = λ start whole rest d. (d.0, put_past start.room.now c.args.self.now.room.now c.args.self.now.at whole rest c.args.text.now d.1 c.if-self.false);
}
