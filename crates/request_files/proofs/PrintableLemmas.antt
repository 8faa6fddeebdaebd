-- The symbols of requests have texts of at most 64 bytes.
use Rattle.std.proofs.Common.{◌≡◌, ℕ, zero, suc, List, [], ◌∷◌, map, slice_get, Some, sym, subst}
use Rattle.std.specs.List.{AllByRecursion}
use Rattle.session_values.specs.Names.{Begins}
use Rattle.session_values.specs.ReplyText.{IsPrintable}
use Rattle.session_values.proofs.Named.{begins_same, begins_then}
use Rattle.syntax_trees.specs.declared.file.File.{File}
use Rattle.request_files.specs.declared.request.Request.{Request}
use Rattle.text_lines.specs.Text.{Text}
use Rattle.text_lines.specs.Values.{placed_all}
use Rattle.request_files.specs.Requests.{request_of, AreRequests, ArePrintable}
use Rattle.text_lines.specs.Rows.{Row, names_behind}
use Rattle.text_lines.proofs.PrintableLemmas.{values_printable}
use Rattle.text_lines.proofs.RowLemmas.{behind_step, behind_begins}

requests_printable : (old names : List Text) (f : File) (rs : List Row) (final : List Text) → Begins (names_behind names rs) final
    → ArePrintable final (map (request_of old final f) rs)
unfolding request_of
requests_printable old names f [] final p = tt
requests_printable old names f (r ∷ rs) final p =
    let rest : Begins (names_behind (placed_all names r.args) rs) final = subst (λ ns. Begins ns final) (behind_step names r rs) p in
    (values_printable names r.args final (begins_then _ _ _ (behind_begins (placed_all names r.args) rs) rest), requests_printable old (placed_all names r.args) f rs final rest)

pub printable : (old new : List Text) (f : File) (rs : List Row) (found : List Request) → AreRequests old new f rs found → ArePrintable new found
printable old new f rs found a =
    subst (ArePrintable new) (sym a.requests) (requests_printable old old f rs new (subst (λ ns. Begins ns new) a.names (begins_same new)))

-- the arguments of one request among them
pub printable_at : (names : List Text) (found : List Request) (t : ℕ) (r : Request) → ArePrintable names found → slice_get found t ≡ Some r → AllByRecursion (IsPrintable names) r.args
printable_at names [] t r p e = absurd (cc)
printable_at names (x ∷ xs) zero r p e = let same : x ≡ r = cc in subst (λ x. AllByRecursion (IsPrintable names) x.args) same p.0
printable_at names (x ∷ xs) (suc t) r p e = printable_at names xs t r p.1 e
