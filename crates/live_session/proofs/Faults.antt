-- The fault of a line, by the rule that it breaks.
use Rattle.std.proofs.Common.{◌≡◌, ◌≢◌, ℕ, ◌<◌, ◌≤◌, Bool, true, false, not, ◌==◌, nat_le, cond, length, Some, None, Option, ◌∙◌, ap, arith}
use Rattle.std.proofs.lemmas.Bool.Decides.{nat_tests}
use Rattle.std.specs.List.{list_all}
use Rattle.handler_check.specs.File.{File}
use Rattle.handler_check.specs.Resolved.{params_at}
use Rattle.text_lines.specs.Rows.{Row}
use Rattle.text_lines.specs.Values.{is_value}
use Rattle.live_session.specs.declared.answers.LineRefusal.{LineRefusal}
use Rattle.live_session.specs.declared.answers.LineRefusal.TheVariants.{Arity, BadWord, UnknownHandler}
use Rattle.live_session.specs.Served.{fault_at}

module _ (f : File) (r : Row) (h : ℕ) where
  abbrev others : Option LineRefusal
  others = cond (not (list_all is_value r.args)) (Some BadWord) None

  abbrev counted : Option LineRefusal
  counted = cond (not (params_at f h == length r.args)) (Some Arity) others

  pub fault_unknown : length f.handlers ≤ h → fault_at f r h ≡ Some UnknownHandler
  fault_unknown l = let e : nat_le (length f.handlers) h ≡ true = grind (arith, nat_tests, l) in ap (λ (b : Bool). cond b (Some UnknownHandler) counted) e

  module _ (low : h < length f.handlers) where
    past : fault_at f r h ≡ counted
    past = let e : nat_le (length f.handlers) h ≡ false = grind (arith, nat_tests, low) in ap (λ (b : Bool). cond b (Some UnknownHandler) counted) e

    pub fault_arity : params_at f h ≢ length r.args → fault_at f r h ≡ Some Arity
    fault_arity d = let e : (params_at f h == length r.args) ≡ false = grind (arith, nat_tests, d) in past ∙ ap (λ (b : Bool). cond (not b) (Some Arity) others) e

    module _ (same : params_at f h ≡ length r.args) where
      on : fault_at f r h ≡ others
      on = let e : (params_at f h == length r.args) ≡ true = grind (arith, nat_tests, same) in past ∙ ap (λ (b : Bool). cond (not b) (Some Arity) others) e

      pub fault_bad : list_all is_value r.args ≡ false → fault_at f r h ≡ Some BadWord
      fault_bad e = on ∙ ap (λ (b : Bool). cond (not b) (Some BadWord) None) e

      pub fault_none : list_all is_value r.args ≡ true → fault_at f r h ≡ None
      fault_none e = on ∙ ap (λ (b : Bool). cond (not b) (Some BadWord) None) e
