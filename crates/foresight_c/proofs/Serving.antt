-- What a call that serves lines hands over, from what the session's own call promises.
use Rattle.std.proofs.Common.{◌≡◌, ℕ, ◌≤◌, ◌⊎◌, min, Bool, true, false, cond, nat_le, List, [], length, Option, Some, inl, inr, refl, ap, ◌∙◌, subst, sym, arith}
use Rattle.live_session.specs.Batches.{BatchAnswered}
use Rattle.byte_ends.specs.Changes.{Change, WroteAll}
use Rattle.serve_faults.specs.declared.status.Status.{Status}
use Rattle.serve_faults.specs.declared.status.Status.TheVariants as status
use Rattle.live_session.specs.Dumps.{DumpEnds}
use Rattle.live_session.specs.Live.{LiveView, dump_of}
use Rattle.live_session.specs.declared.dumping.Dumped.{Dumped}
use Rattle.live_session.specs.declared.dumping.Dumped.TheVariants as dumped
use Rattle.live_session.specs.declared.batch.Batch.{Batch}
use Rattle.foresight_c.specs.declared.desk.Desk.{Desk}
use Rattle.foresight_c.specs.declared.session_desk.SessionDesk.{SessionDesk}
use Rattle.foresight_c.specs.Fronts.{put_at_front}
use Rattle.foresight_c.specs.SessionMessages.{ended_line, ended_number, ended_older}
use Rattle.foresight_c.specs.Answered.{IsHandedOver}
use Rattle.foresight_c.specs.Endings.{ending, handed}
use Rattle.foresight_c.specs.Sessions.{HasMessage, IsDumped, IsServing, dump_status}
use Rattle.foresight_c.specs.SessionCalls.{DumpOn, DumpsOn}
use Rattle.foresight_c.specs.declared.answer.Answer.{Answer}
use Rattle.foresight_c.proofs.Endings.{whole}
use Rattle.foresight_c.specs.declared.served.Served.{Served}

fits : (after replies : List ℕ) (most : ℕ) → after ≡ replies → (length after ≤ most) ⊎ (replies ≡ []) → length after ≤ most
fits after replies most e (inl l) = l
fits after replies most e (inr none) = let z = ap (λ (t : List ℕ). length t) (e ∙ none) in omega (arith, z)

shorter : (a b : ℕ) → b ≤ a → min a b ≡ b
shorter a b l = omega (arith, l)

-- lines were served with a room that held nothing
module _ (d e : SessionDesk) (lines out out_new message message_new : List ℕ) (s : Served) (n : ℕ) (batch : Batch) (before replies : List ℕ) where
  pub serving_is : before ≡ [] → BatchAnswered d.session lines (length out) before batch e.session replies → s.used ≡ batch.used → s.requests ≡ batch.requests → s.older ≡ ended_older batch.ended → s.written ≡ min (length out) (length replies) → out_new ≡ put_at_front out replies → HasMessage message message_new (ended_line batch.ended) s.told → n ≡ ended_number batch.ended
      → IsServing d e lines out out_new message message_new s n
  serving_is empty answered used requests older written out_is has number =
      let from_none = subst (λ (t : List ℕ). BatchAnswered d.session lines (length out) t batch e.session replies) empty answered in
      let whole : length replies ≤ length out = fits replies from_none.replies (length out) from_none.after_is from_none.within in
      record {
        batch = batch;
        replies = replies;
        answered = from_none;
        whole = whole;
        used = used;
        requests = requests;
        older = older;
        out_is = out_is;
        written = written ∙ shorter (length out) (length replies) whole;
        message_has = has;
        number_is = number;
      }

-- the text of tables was written to an empty store, and what that holds is handed over
module _ {O : Type 0} (v : LiveView) (text out out_new message message_new : List ℕ) (a : Answer) (n : ℕ) (store : Change O) (empty : store.bytes store.old ≡ Some []) (held : store.bytes store.new ≡ Some text) where
  handed_whole : (b : Bool) → handed (cond b status.Fine status.WriteFault) text ≡ text
  handed_whole true = refl
  handed_whole false = refl

  written : WroteAll store (dump_of v) → IsHandedOver (ending status.Fine (length text) (length out)) (handed (ending status.Fine (length text) (length out)) text) out out_new message message_new a n → IsDumped v out out_new message message_new a n
  written took given =
      let now : IsHandedOver (ending status.Fine (length text) (length out)) text out out_new message message_new a n =
      subst (λ (t : List ℕ). IsHandedOver (ending status.Fine (length text) (length out)) t out out_new message message_new a n) (handed_whole (nat_le (length text) (length out))) given in
      inl (subst (λ (t : List ℕ). IsHandedOver (ending status.Fine (length t) (length out)) t out out_new message message_new a n) (sym (whole (store.bytes store.old) (store.bytes store.new) (dump_of v) text empty held took.1)) now)

  pub dumped_is : (d : Dumped) (s : Status) → s ≡ dump_status d → DumpEnds (dump_of v) store d → IsHandedOver (ending s (length text) (length out)) (handed (ending s (length text) (length out)) text) out out_new message message_new a n → IsDumped v out out_new message message_new a n
  dumped_is d s e ends given = go d ends (subst (λ (x : Status). IsHandedOver (ending x (length text) (length out)) (handed (ending x (length text) (length out)) text) out out_new message message_new a n) e given)
    where
      go : (d : Dumped) → DumpEnds (dump_of v) store d → IsHandedOver (ending (dump_status d) (length text) (length out)) (handed (ending (dump_status d) (length text) (length out)) text) out out_new message message_new a n → IsDumped v out out_new message message_new a n
      go dumped.Written took h = written took h
      go dumped.Failed took h = inr h
      go dumped.NoMemory took h = inr h

-- a session that was taken and put back, and whose tables were handed over between
pub dumps_on : (o e : Option Desk) (d x : Desk) (out out_new message message_new : List ℕ) (a : Answer) (n : ℕ) → Some d ≡ o → e ≡ Some d → x ≡ d → DumpOn x out out_new message message_new a n → DumpsOn o e out out_new message message_new a n
dumps_on o e d x out out_new message message_new a n old new same dumped =
    let is : DumpOn d out out_new message message_new a n = subst (λ (y : Desk). DumpOn y out out_new message message_new a n) same dumped in
    subst (λ (p : Option Desk). DumpsOn p e out out_new message message_new a n) old (new, is)
