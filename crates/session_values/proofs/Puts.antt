-- Tables of which one is put anew, and containers behind an operation.
use Rattle.std.proofs.Common.{◌≡◌, ℕ, zero, suc, [], ◌∷◌, refl}
use Rattle.std.specs.List.{AllByRecursion}
use Rattle.std.proofs.Math.ListN.{set as put_at}
use Rattle.session_values.specs.Tables.{AreValues, Bindings, Container, Members, Tables, after_on, kind_of}
use Rattle.session_values.specs.declared.op.Op.{Op}

pub values_put : (ts : Tables) (i : ℕ) (c : Container) → AreValues c → AllByRecursion AreValues ts → AllByRecursion AreValues (put_at ts i c)
values_put [] i c h a = tt
values_put (x ∷ ts) zero c h a = (h, a.1)
values_put (x ∷ ts) (suc i) c h a = (a.0, values_put ts i c h a.1)

pub kind_after : (c : Container) (op : Op) → kind_of (after_on c op) ≡ kind_of c
kind_after (Bindings m) op = refl
kind_after (Members s) op = refl
