-- A file has few tables.
use Rattle.std.proofs.Common.{◌≡◌, ◌≤◌, ◌∙◌, List, length, ap, arith}
use Rattle.std.proofs.lemmas.List.{length-map}
use Rattle.session_values.specs.declared.kind.TableKind.{TableKind}
use Rattle.syntax_trees.specs.declared.file.File.{File}
use Rattle.syntax_trees.specs.declared.file.TableDecl.{TableDecl}
use Rattle.handler_check.specs.Checking.{IsAccepted}
use Rattle.handler_check.specs.Resolved.{shape_of}
use Rattle.handler_check.proofs.Fine.{few_tables}

pub few_kinds : (f : File) (shape : List TableKind) → IsAccepted f → shape ≡ shape_of f → length shape ≤ 7
few_kinds f shape a e = let few = few_tables f a.keeps in let long : length shape ≡ length f.tables = ap (λ (s : List TableKind). length s) e ∙ length-map f.tables (λ (t : TableDecl). t.kind) in omega (arith, few, long)
