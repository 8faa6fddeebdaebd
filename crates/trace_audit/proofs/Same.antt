-- Operations and Replies with the same parts are the same.
use Rattle.std.proofs.Common.{◌≡◌, Bool, ap, Decides}
use Rattle.std.proofs.lemmas.Bool.Decides.{Decides-like}
use Rattle.session_values.specs.declared.op.Op.{Op}
use Rattle.session_values.specs.declared.reply.Reply.{Reply}

pub same_op : (r : Bool) (a b : Op) → Decides r ((a.kind ≡ b.kind) × (a.table ≡ b.table) × (a.key ≡ b.key) × (a.value ≡ b.value)) → Decides r (a ≡ b)
same_op r a b d = Decides-like r
    (λ e. λ i. record { kind = e.0 i; table = e.1 i; key = e.2 i; value = e.3 i })
    (λ e. (ap (λ (o : Op). o.kind) e, ap (λ (o : Op). o.table) e, ap (λ (o : Op). o.key) e, ap (λ (o : Op). o.value) e))
    d

pub same_reply : (r : Bool) (a b : Reply) → Decides r (((a.count ≡ b.count) × (a.a ≡ b.a) × (a.b ≡ b.b)) × ((a.c ≡ b.c) × (a.d ≡ b.d))) → Decides r (a ≡ b)
same_reply r a b d = Decides-like r
    (λ e. λ i. record { count = e.0.0 i; a = e.0.1 i; b = e.0.2 i; c = e.1.0 i; d = e.1.1 i })
    (λ e. ((ap (λ (o : Reply). o.count) e, ap (λ (o : Reply). o.a) e, ap (λ (o : Reply). o.b) e), (ap (λ (o : Reply). o.c) e, ap (λ (o : Reply). o.d) e)))
    d
